use Rattle.std.proofs.Common.{◌≡◌, ℕ, suc, ◌+◌, List, slice_set, remove, Some, sym, ap, subst, ◌∙◌, arith, add-one}
use Rattle.std.specs.List.{slice_get}
use Rattle.std.specs.Option.{option_copied}
use Rattle.std.proofs.lemmas.Result.{on_ok_weaker}
use Rattle.vec_record.specs.Vectors.{IsWidth}
use Rattle.mtree_node.specs.declared.node.InnerEntry.{InnerEntry}
use Rattle.mtree_index.specs.Insertion.{HasWidth, entries_of, replaced_at}
use Rattle.mtree_index.specs.Removal.{joined}
use Rattle.mtree_index.specs.Joinable.{IsJoinable}
use Rattle.mtree_index.proofs.Places.{get_set}
use Rattle.mtree_index.proofs.Walks.{get_before, joined_there}
use Rattle.mtree_index.proofs.joining.join_at.Goals as goal

pub join-requires-clause-width : goal.join-requires-clause-width
join-requires-clause-width g c =
    let es = c.args.entries.now in
    let left = c.item_mut.result.now in
    let at : slice_get es c.args.place ≡ Some left = sym (get_before es (c.args.place + 1) c.args.place (omega arith)) ∙ (ap (λ (xs : List InnerEntry). slice_get xs c.args.place) (sym c.remove-right.ensures.rest) ∙ c.item_mut.ensures.value) in
    subst IsWidth (sym (c.requires.joinable left c.remove-right.result at c.remove-right.ensures.item).object) c.requires.width

pub join-requires-clause-joinable : goal.join-requires-clause-joinable
join-requires-clause-joinable g c =
    let es = c.args.entries.now in
    let left = c.item_mut.result.now in
    let at : slice_get es c.args.place ≡ Some left = sym (get_before es (c.args.place + 1) c.args.place (omega arith)) ∙ (ap (λ (xs : List InnerEntry). slice_get xs c.args.place) (sym c.remove-right.ensures.rest) ∙ c.item_mut.ensures.value) in
    let j = c.requires.joinable left c.remove-right.result at c.remove-right.ensures.item in
    subst (λ (w : ℕ). IsJoinable w left c.remove-right.result) (sym j.object) j

pub put_pair-requires-clause-widths : goal.put_pair-requires-clause-widths
put_pair-requires-clause-widths g c =
    let es = c.args.entries.now in
    let left = c.item_mut.result.now in
    let at : slice_get es c.args.place ≡ Some left = sym (get_before es (c.args.place + 1) c.args.place (omega arith)) ∙ (ap (λ (xs : List InnerEntry). slice_get xs c.args.place) (sym c.remove-right.ensures.rest) ∙ c.item_mut.ensures.value) in
    let j = c.requires.joinable left c.remove-right.result at c.remove-right.ensures.item in
    (c.args.width, c.requires.width, subst (λ (w : ℕ). HasWidth w c.in_ok-pair.pair) j.object c.in_ok-pair.ensures.objects, c.requires.over)

pub returns-clause-is : goal.returns-clause-is
returns-clause-is g c =
    let dist = g.M.Metric.dist in
    let es = c.args.entries.now in
    let place = c.args.place in
    let over = option_copied c.args.over in
    let left = c.item_mut.result.now in
    let right = c.remove-right.result in
    let now = c.join.new.left in
    let new = entries_of dist over c.in_ok-pair.pair now in
    let at : slice_get es place ≡ Some left = sym (get_before es (place + 1) place (omega arith)) ∙ (ap (λ (xs : List InnerEntry). slice_get xs place) (sym c.remove-right.ensures.rest) ∙ c.item_mut.ensures.value) in
    let next : slice_get es (suc place) ≡ Some right = rw add-one at c.remove-right.ensures.item in
    let rest : c.remove-right.new.self ≡ remove es (suc place) = rw add-one at c.remove-right.ensures.rest in
    let j = c.requires.joinable left right at c.remove-right.ensures.item in
    let f = joined dist (g.M.Metric.most c.args.width) over in
    let same : new ≡ f left right = c.in_ok-pair.ensures.is over ∙ ap (λ (w : ℕ). joined dist (g.M.Metric.most w) over left right) j.object in
    on_ok_weaker c.put_pair.result (λ d.
    d now (get_set c.remove-right.new.self place left now c.item_mut.ensures.value)
    ∙ (ap (λ (xs : List InnerEntry). replaced_at place (λ _. new) (slice_set xs place now)) rest ∙ joined_there f es place left right now new at next same)) c.put_pair.ensures.is
