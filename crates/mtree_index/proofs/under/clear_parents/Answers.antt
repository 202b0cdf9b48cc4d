use Rattle.std.proofs.Common.{◌≡◌, List, length, slice_set, Some, ap, subst, ◌∙◌, arith, add-one}
use Rattle.std.specs.List.{slice_get}
use Rattle.mtree_index.proofs.Walks.{moved, moved_length, moved_get, moved_set, moved_all}
use Rattle.mtree_index.proofs.under.clear_parents.Goals as goal

pub item_mut-requires : goal.item_mut-requires
item_mut-requires g c = omega (arith, ap length c.loop-i.invariant, moved_length c.loop-i.i (g.E.Entry.with_parent 0) c.args.entries.now)

pub loop-i-preserved : goal.loop-i-preserved
loop-i-preserved g c =
    let F = g.E.Entry.with_parent 0 in
    let old = c.args.entries.now in
    let i = c.loop-i.i in
    let e = c.item_mut.result.now in
    let new = c.set_parent.new.self in
    let at : slice_get old i ≡ Some e = moved_get i F old e (subst (λ (xs : List g.row.E.Denot). slice_get xs i ≡ Some e) c.loop-i.invariant c.item_mut.ensures.value) in
    rw add-one (ap (λ (xs : List g.row.E.Denot). slice_set xs i new) c.loop-i.invariant ∙ (ap (slice_set (moved i F old) i) c.set_parent.ensures ∙ moved_set i F old e at))

pub returns : goal.returns
returns g c = c.loop-i.invariant ∙ moved_all c.loop-i.i (g.E.Entry.with_parent 0) c.args.entries.now (omega arith)
