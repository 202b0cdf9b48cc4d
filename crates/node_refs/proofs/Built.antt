-- The listed nodes can be asked whether they are a tree.
use Rattle.std.proofs.Common.{◌≤◌, length, arith}
use Rattle.node_refs.specs.Listing.{listed}
use Rattle.node_refs.specs.Laws.{ListedCanBeBuilt}
use Rattle.node_refs.proofs.Inside.{some_shape}
use Rattle.node_refs.proofs.Kept.{each_has_one, roots_are_first, objects_are_kept}
use Rattle.node_refs.proofs.Few.{few_nodes}

pub listed_can_be_built : ListedCanBeBuilt
listed_can_be_built width greatest pages height root rows slots objects used few high low some =
    let shapes = (listed pages height root).shapes in
    let first = roots_are_first pages height root high in
    let there : 1 ≤ length shapes = some_shape height shapes first in
    record {
      few = omega (arith, few, few_nodes pages height root slots used, each_has_one pages height root);
      low = low;
      no_shapes = (λ none. absurd (omega (arith, none, high)), λ none. absurd (omega (arith, none, there)));
      no_records = (λ none. absurd (omega (arith, none, high)), λ none. absurd (omega (arith, none, some)));
      root = λ is. first;
      objects = objects_are_kept width greatest pages height root objects;
    }
