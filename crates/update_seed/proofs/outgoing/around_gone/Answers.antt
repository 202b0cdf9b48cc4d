use Rattle.std.proofs.Common.{◌∙◌, [], is_some, sym, ap, subst}
use Rattle.update_seed.specs.inside.Found.{AreFound}
use Rattle.update_seed.proofs.Looking.{kept_none, nothing}
use Rattle.update_seed.proofs.Leaving.{found_none, found_around}
use Rattle.update_seed.proofs.outgoing.around_gone.Goals as goal
use Rattle.update_seed.proofs.outgoing.around_gone.Goals.{then-is_some+in_ok-look, else-is_some}

pub look-requires : goal.look-requires
look-requires c = record {
  kept = kept_none c.args.labels.now c.new-found.result c.new-found.ensures.seeds c.new-found.ensures.seen;
  label = ap is_some (sym c.label_of.ensures.value) ∙ sym c.if-is_some.ensures;
}

pub returns : goal.returns
returns c = λ near far.
    let labels = c.args.labels.now in
    let start = c.new-found.result in
    elim c.if-is_some.branch [
      | then-is_some+in_ok-look w ↦
          subst (AreFound near c.args.counts.now labels c.args.gone c.args.around.now []) (sym w.found-is)
          (found_around near c.args.counts.now labels c.args.gone c.args.around.now start w.look.new.self far c.requires (ap is_some (sym c.label_of.ensures.value) ∙ sym w.if-is_some.ensures)
          c.new-found.ensures.seeds c.new-found.ensures.loose w.in_ok-look.ensures)
      | else-is_some w ↦
          subst (AreFound near c.args.counts.now labels c.args.gone c.args.around.now []) (sym w.found-is)
          (found_none near c.args.counts.now labels c.args.gone c.args.around.now start (kept_none labels start c.new-found.ensures.seeds c.new-found.ensures.seen)
          c.new-found.ensures.seeds c.new-found.ensures.loose (nothing _ (ap is_some (sym c.label_of.ensures.value) ∙ sym w.if-is_some.ensures)))
    ]
