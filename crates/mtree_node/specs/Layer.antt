-- One level of a tree: what a node and an inner entry are when they are opened.
use Rattle.mtree_node.specs.declared.node.Node.{Node}
use Rattle.mtree_node.specs.declared.node.Node.TheOpen.{Node-F, InnerEntry-F}
use Rattle.mtree_node.specs.declared.node.InnerEntry.{InnerEntry}

-- an opened node: its tag, and leaf entries or inner entries
abbrev pub Layer : Type 0
Layer = Node-F Node InnerEntry

-- an opened inner entry: its object, radius, parent distance and child
abbrev pub EntryLayer : Type 0
EntryLayer = InnerEntry-F Node InnerEntry
