use Rattle.std.proofs.Common.{true, false, refl}
use Rattle.page_layout.specs.Heads.{plain}
use Rattle.store_image.specs.Images.{image_with}
use Rattle.warehouse_core.proofs.Moments.{same_kind}
use Rattle.warehouse_core.proofs.Opened.{due_or_not}
use Rattle.warehouse_core.proofs.warehouse.Warehouse.load.Goals as goal

pub invariant_of-result : goal.invariant_of-result
invariant_of-result g c = λ whole.
    let loaded = c.in_ok-state.ensures in
    record {
      paged = λ _. loaded.paged;
      loads = λ _ by. loaded.loaded;
      kind_is = same_kind _ (plain c.in_ok-state.state.head) _ loaded.paged.are.head c.requires.kind;
      holds = record { held = record { width = loaded.width; each = loaded.standing }; few = loaded.few };
      kept = loaded.kept;
    }

pub returns-clause-loaded : goal.returns-clause-loaded
returns-clause-loaded g c = (
  record { image = image_with (plain c.in_ok-state.state.head) c.in_ok-state.state.records c.in_ok-state.state.clusters; loads = c.in_ok-state.ensures.loaded; values_are = refl; rows_are = refl; batches_are = refl },
  refl,
  refl,
  refl,
)

pub returns-clause-clustered : goal.returns-clause-clustered
returns-clause-clustered g c =
    let s = c.in_ok-state.state in
    let loaded = c.in_ok-state.ensures in
    due_or_not c.due_lines_stand.ensures (image_with (plain s.head) s.records s.clusters) c.args.pages.list loaded.loaded true false loaded.width loaded.kept
