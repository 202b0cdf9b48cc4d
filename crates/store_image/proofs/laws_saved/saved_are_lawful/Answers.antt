use Rattle.store_image.proofs.SavedCounts.{Below}
use Rattle.store_image.proofs.SavedWritten.{saved_are_lawful}
use Rattle.store_image.proofs.laws_saved.saved_are_lawful.Goals as goal

pub returns : goal.returns
returns c =
    let below : Below = record {
      sized = c.layouts_are_sized.ensures;
      stand = c.records_stand.ensures;
      entries = c.trees_are_small.ensures.records;
      leaf_shapes = c.trees_have_few_shapes.ensures.leaves;
      inner_shapes = c.trees_have_few_shapes.ensures.inner_nodes;
      two_kinds = c.trees_have_few_shapes.ensures.kinds;
      built = c.trees_can_be_built.ensures;
      objects = c.shapes_have_all.ensures.shapes;
    } in
    saved_are_lawful below
