use Rattle.std.proofs.Common.{◌+◌, get_or, subst, sym, arith}
use Rattle.std.proofs.lemmas.Option.{slice_get-get_or}
use Rattle.update_seed.specs.declared.labelled.Labelled.{Labelled}
use Rattle.update_seed.specs.inside.Split.{AreLabelsBefore}
use Rattle.update_seed.proofs.ByLabel.{labels_none, labels_more, labels_same, labels_all, above_last, same_last}
use Rattle.update_seed.proofs.labelled.labels_in.Goals as goal
use Rattle.update_seed.proofs.labelled.labels_in.Goals.{then-i-eq0+in_ok-push, then-i-eq0-via-then-i-eq0, then-i-eq0-via-else-i-eq0+then-list-i, else-i-eq0+else-list-i}

pub loop-i-init : goal.loop-i-init
loop-i-init c = labels_none _ _ c.new-labels.ensures.items

pub loop-i-preserved : goal.loop-i-preserved
loop-i-preserved c =
    let list = c.args.list.now in
    let i = c.loop-i.i in
    let d : Labelled = record { label = 0; number = 0 } in
    let p = get_or list i d in
    let at = slice_get-get_or list i d c.loop-i-test.true in
    elim c.if-i-eq0.branch [
      | then-i-eq0+in_ok-push w ↦
          subst (λ v. AreLabelsBefore list (i + 1) v.items) (sym w.labels-is)
          (labels_more list i p c.loop-i.labels.items w.push.new.self.items c.loop-i.invariant at
          (elim w.then-i-eq0.branch [
            | then-i-eq0-via-then-i-eq0 w' ↦ λ k s lt e. absurd (omega (arith, lt, w'.if-i-eq0.true))
            | then-i-eq0-via-else-i-eq0+then-list-i w' ↦ above_last list i d c.requires c.loop-i-test.true w'.if-list-i.true
          ])
          w.in_ok-push.ensures.items)
      | else-i-eq0+else-list-i w ↦
          subst (λ v. AreLabelsBefore list (i + 1) v.items) (sym w.labels-is)
          (labels_same list i p c.loop-i.labels.items c.loop-i.invariant at (same_last list i d c.requires c.loop-i-test.true (omega arith) w.if-list-i.false))
    ]

pub returns : goal.returns
returns c = labels_all c.args.list.now c.loop-i.i c.loop-i.labels.items c.loop-i.invariant c.loop-i-test.false
