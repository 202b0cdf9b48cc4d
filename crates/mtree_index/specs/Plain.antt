-- What a tree is: the width of its vectors, its height, and its root where it isn't empty.
use Rattle.std.specs.Prelude.{ℕ, Option, refl}
use Rattle.std.specs.Coded.{Coded, code_by, coded×, coded_ℕ, coded_option}
use Rattle.mtree_node.specs.declared.node.Node.{Node}
use Rattle.mtree_node.specs.contracts.node.Node as node

pub record PlainTree : Type 0 where
  pub width : ℕ
  pub height : ℕ
  pub root : Option Node

-- stored as its parts
abbrev pub plain_code : Coded PlainTree
plain_code =
    code_by (ℕ × (ℕ × Option Node)) (coded× coded_ℕ (coded× coded_ℕ (coded_option node.the_row.coded))) (λ t. (t.width, (t.height, t.root)))
    (λ p. record { width = p.0; height = p.1.0; root = p.1.1 }) (λ _. refl)
