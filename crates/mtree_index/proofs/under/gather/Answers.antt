use Rattle.std.proofs.Common.{◌≡◌, suc, List, length, slice_set, Some, ap, subst, ◌∙◌, arith, add-one}
use Rattle.std.specs.List.{slice_get}
use Rattle.mtree_index.specs.Removal.{farthest}
use Rattle.mtree_index.proofs.Places.{all_get}
use Rattle.mtree_index.proofs.Walks.{moved, moved_length, moved_get, moved_set, moved_all, here}
use Rattle.mtree_index.proofs.under.gather.Goals as goal

pub item_mut-requires : goal.item_mut-requires
item_mut-requires g c =
    let F = λ (e : g.row.E.Denot). g.E.Entry.with_parent (g.M.Metric.dist c.args.object.now (g.E.Entry.object e)) e in
    omega (arith, ap length c.loop-i.invariant.0, moved_length c.loop-i.i F c.args.entries.now)

pub move_under-requires-clause-same : goal.move_under-requires-clause-same
move_under-requires-clause-same g c =
    let F = λ (e : g.row.E.Denot). g.E.Entry.with_parent (g.M.Metric.dist c.args.object.now (g.E.Entry.object e)) e in
    let old = c.args.entries.now in
    let i = c.loop-i.i in
    let e = c.item_mut.result.now in
    let at : slice_get old i ≡ Some e = moved_get i F old e (subst (λ (xs : List g.row.E.Denot). slice_get xs i ≡ Some e) c.loop-i.invariant.0 c.item_mut.ensures.value) in
    all_get (λ (x : g.row.E.Denot). length (g.E.Entry.object x) ≡ length c.args.object.now) old i e c.requires.vectors at

pub loop-i-preserved : goal.loop-i-preserved
loop-i-preserved g c =
    let F = λ (e : g.row.E.Denot). g.E.Entry.with_parent (g.M.Metric.dist c.args.object.now (g.E.Entry.object e)) e in
    let far = λ (xs : List g.row.E.Denot). farthest g.M.Metric.dist g.E.Entry.object g.E.Entry.radius c.args.object.now xs in
    let old = c.args.entries.now in
    let i = c.loop-i.i in
    let e = c.item_mut.result.now in
    let new = c.move_under.new.entry in
    let at : slice_get old i ≡ Some e = moved_get i F old e (subst (λ (xs : List g.row.E.Denot). slice_get xs i ≡ Some e) c.loop-i.invariant.0 c.item_mut.ensures.value) in
    let all : slice_set c.loop-i.entries i new ≡ moved (suc i) F old =
    ap (λ (xs : List g.row.E.Denot). slice_set xs i new) c.loop-i.invariant.0 ∙ (ap (slice_set (moved i F old) i) c.move_under.ensures.moved ∙ moved_set i F old e at) in
    rw add-one (all, omega (arith, c.loop-i.invariant.1, ap far (here old i e at), c.move_under.ensures.sum, c.max-most.ensures), omega (arith, c.loop-i.invariant.2, c.move_under.ensures.counted))

pub returns-clause-moved : goal.returns-clause-moved
returns-clause-moved g c =
    let F = λ (e : g.row.E.Denot). g.E.Entry.with_parent (g.M.Metric.dist c.args.object.now (g.E.Entry.object e)) e in
    c.loop-i.invariant.0 ∙ moved_all c.loop-i.i F c.args.entries.now (omega arith)
