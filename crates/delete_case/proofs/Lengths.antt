-- Which events a change has: those of an insertion where the records are more, else those of a deletion.
use Rattle.std.proofs.Common.{◌≡◌, ℕ, ◌+◌, ◌<◌, ◌≤◌, ◌-◌, Bool, true, false, cond, nat_lt, List, ◌++◌, length, is_some, None, sym, ap, subst, ◌∙◌, if◌then◌else◌, arith}
use Rattle.std.specs.Cmp.{nat_cmp_total}
use Rattle.std.specs.FinMap as finite
use Rattle.std.proofs.lemmas.Bool.Decides.{nat_tests}
use Rattle.std.proofs.lemmas.List.{length-map}
use Rattle.vec_record.specs.Held.{Held, Rows}
use Rattle.vec_record.specs.declared.event.Event.{Event}
use Rattle.plain_dbscan.specs.Marks.{Density, numbers_of, marks_of}
use Rattle.plain_dbscan.specs.Cases.{Listed, insertion_events, deletion_events, cases_of}
use Rattle.delete_case.specs.Deleted.{without}
use Rattle.delete_case.specs.Told.{AreEventsTold, AreCasesTold}

more_events : (before after : Listed) → length before < length after → cases_of before after ≡ insertion_events before after
unfolding cases_of
more_events before after h =
    let more : nat_lt (length before) (length after) ≡ true = grind (arith, nat_tests) in
    ap (λ b. if b then insertion_events before after else deletion_events before after) more

fewer_events : (before after : Listed) → length after ≤ length before → cases_of before after ≡ deletion_events before after
unfolding cases_of
fewer_events before after h =
    let none_more : nat_lt (length before) (length after) ≡ false = grind (arith, nat_tests) in
    ap (λ b. if b then insertion_events before after else deletion_events before after) none_more

-- there are as many marks as records
marks_many : (d : Density) (rows : Rows) → length (marks_of d (finite.entries rows)) ≡ finite.len rows
marks_many d rows =
    length-map (numbers_of (finite.entries rows)) _
    ∙ length-map (finite.entries rows) (λ (e : ℕ × List ℕ). e.0)
    ∙ sym (finite.len-entries rows)

one_less : (b : Bool) (n : ℕ) → cond b (n - 1) n ≤ n
one_less true n = omega arith
one_less false n = omega arith

module _ (d : Density) (rows : Rows) (p : ℕ) where
  pub inserted_events : (v : List ℕ) → finite.get rows p ≡ None
      → cases_of (marks_of d (finite.entries rows)) (marks_of d (finite.entries (finite.insert rows p v))) ≡ insertion_events (marks_of d (finite.entries rows)) (marks_of d (finite.entries (finite.insert rows p v)))
  inserted_events v absent =
      let old = marks_many d rows in
      let none : finite.contains_key rows p ≡ false = ap is_some absent in
      let new = marks_many d (finite.insert rows p v) ∙ finite.len-insert nat_cmp_total rows p v ∙ ap (λ b. cond b (finite.len rows) (finite.len rows + 1)) none in
      more_events (marks_of d (finite.entries rows)) (marks_of d (finite.entries (finite.insert rows p v))) (omega (arith, old, new))

  pub removed_events : cases_of (marks_of d (finite.entries rows)) (marks_of d (finite.entries (finite.remove rows p))) ≡ deletion_events (marks_of d (finite.entries rows)) (marks_of d (finite.entries (finite.remove rows p)))
  removed_events =
      let old = marks_many d rows in
      let new = marks_many d (finite.remove rows p) ∙ finite.len-remove nat_cmp_total rows p in
      let less = one_less (finite.contains_key rows p) (finite.len rows) in
      fewer_events (marks_of d (finite.entries rows)) (marks_of d (finite.entries (finite.remove rows p))) (omega (arith, old, new, less))

-- the events of a deletion are those of a change
pub told_cases : (d : Density) (old new : Held) (p : ℕ) → new ≡ without old p → (out out' : List Event) → AreEventsTold d old.vectors new.vectors out out' → AreCasesTold d old.vectors new.vectors out out'
told_cases d old new p same out out' told =
    let told_without = subst (λ (r : Held). AreEventsTold d old.vectors r.vectors out out') same told in
    subst (λ (r : Held). AreCasesTold d old.vectors r.vectors out out') (sym same) (told_without ∙ ap (λ (es : List Event). out ++ es) (sym (removed_events d old.vectors p)))
