use Rattle.std.proofs.Common.{◌≡◌, List, [], ◌∷◌, refl, sym, ap, ◌∙◌, add-one}
use Rattle.std.specs.Option.{option_copied}
use Rattle.std.proofs.lemmas.Result.{on_ok_weaker}
use Rattle.mtree_node.specs.declared.node.InnerEntry.{InnerEntry}
use Rattle.mtree_index.specs.Insertion.{entries_of, replaced_at}
use Rattle.mtree_index.proofs.Places.{replaced_by_itself, replaced_by_two}
use Rattle.mtree_index.proofs.settle.put_pair.Goals as goal

pub returns-in_default-clause-is : goal.returns-in_default-clause-is
returns-in_default-clause-is g c = λ e at. rw c.in_default.is (sym (replaced_by_itself c.args.entries.now c.args.place e at))

pub returns-clause-is : goal.returns-clause-is
returns-clause-is g c =
    let dist = g.M.Metric.dist in
    let over = option_copied c.args.over in
    let es = c.args.entries.now in
    let place = c.args.place in
    let left = c.stand_under-left.result in
    let right = c.stand_under-right.result in
    let both : (e : InnerEntry) → left ∷ right ∷ [] ≡ entries_of dist over c.args.pair e = λ e. rw (c.in-Some.is, c.stand_under-left.ensures.is, c.stand_under-right.ensures.is) refl in
    on_ok_weaker c.insert.result (λ d. λ e at. d ∙ rw (add-one) (replaced_by_two es place left right c.requires.within ∙ ap (λ (zs : List InnerEntry). replaced_at place (λ _. zs) es) (both e))) c.insert.ensures.ok
