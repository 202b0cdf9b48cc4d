-- What is told of an insertion is the events of the change; and a deletion leaves no more records.
use Rattle.std.proofs.Common.{◌≡◌, ℕ, ◌-◌, ◌≤◌, Bool, true, false, cond, List, ◌++◌, None, sym, ap, subst, ◌∙◌, arith}
use Rattle.std.specs.Cmp.{nat_cmp_total}
use Rattle.std.specs.FinMap as finite
use Rattle.vec_record.specs.Held.{Held, Rows}
use Rattle.vec_record.specs.declared.event.Event.{Event}
use Rattle.plain_dbscan.specs.Marks.{Density}
use Rattle.insert_case.specs.Inserted.{with_record}
use Rattle.insert_case.specs.Told.{AreEventsTold}
use Rattle.delete_case.specs.Told.{AreCasesTold}
use Rattle.delete_case.proofs.Lengths.{inserted_events}

pub inserted_cases : (d : Density) (old new : Held) (p : ℕ) (v : List ℕ) → finite.get old.vectors p ≡ None → (out out' : List Event)
    → new ≡ with_record old p v → AreEventsTold d old.vectors new.vectors out out' → AreCasesTold d old.vectors new.vectors out out'
inserted_cases d old new p v absent out out' same told =
    let told_with = subst (λ (r : Held). AreEventsTold d old.vectors r.vectors out out') same told in
    subst (λ (r : Held). AreCasesTold d old.vectors r.vectors out out') (sym same) (told_with ∙ ap (λ (es : List Event). out ++ es) (sym (inserted_events d old.vectors p v absent)))

no_more_if : (b : Bool) (n m : ℕ) → m ≡ cond b (n - 1) n → m ≤ n
no_more_if true n m e = omega (arith, e)
no_more_if false n m e = omega (arith, e)

pub no_more : (rows : Rows) (p : ℕ) → finite.len (finite.remove rows p) ≤ finite.len rows
no_more rows p = no_more_if (finite.contains_key rows p) (finite.len rows) (finite.len (finite.remove rows p)) (finite.len-remove nat_cmp_total rows p)
