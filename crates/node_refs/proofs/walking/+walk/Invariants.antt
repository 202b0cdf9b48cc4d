use Rattle.std.proofs.Common.{◌≡◌, ◌+◌, ◌*◌, ◌++◌, drop}
use Rattle.node_refs.specs.Listing.{join, placed_rows, nodes_below, list_node}
use Rattle.node_refs.specs.inside.Told.{IsReady, listed_so_far}
use Rattle.node_refs.proofs.walking.+walk.Given as goal

abbrev pub decreases-push_rows : goal.decreases-push_rows
decreases-push_rows l = 3 * l.level + 2

abbrev pub decreases-push_child : goal.decreases-push_child
decreases-push_child l = 3 * l.level + 1

abbrev pub decreases-push_node : goal.decreases-push_node
decreases-push_node l = 3 * l.level

abbrev pub invariant-push_rows-loop-row : goal.invariant-push_rows-loop-row
invariant-push_rows-loop-row l =
    let below = list_node l.pages l.level in
    record {
      ready : IsReady l.pages l.progress;
      rows : l.placed ++ placed_rows l.pages below l.level l.progress.refs (drop l.row-index l.rows) ≡ placed_rows l.pages below l.level l.fn.progress.refs l.rows;
      listed : join (listed_so_far l.progress) (nodes_below l.pages below l.level l.progress.refs (drop l.row-index l.rows)) ≡ join (listed_so_far l.fn.progress) (nodes_below l.pages below l.level l.fn.progress.refs l.rows);
    }
