-- The marks of records that rise: they rise too, and give each number its mark.
use Rattle.std.proofs.Common.{◌≡◌, ℕ, Bool, true, false, ◌&&◌, cond, List, [], ◌∷◌, map, Option, None, Some, refl, sym, ap, subst, ◌∙◌, inl, inr, arith}
use lib.Dec.{T}
use Rattle.std.specs.Prelude.{unwrap_or, find, ◌==◌}
use Rattle.std.specs.Ordering.{nat_cmp, is_lt, eq_by_cmp}
use Rattle.std.specs.Option.{is_some}
use Rattle.std.specs.FinMap.Entries.{below_all, is_sorted, find as value_at}
use Rattle.std.proofs.lemmas.Bool.{cases_eq}
use Rattle.std.proofs.lemmas.Bool.Decides.{nat_tests}
use Rattle.plain_dbscan.specs.declared.marks.Mark.{Mark}
use Rattle.plain_dbscan.specs.declared.marks.Mark.TheVariants.{Noise}
use Rattle.plain_dbscan.specs.Marks.{Density, Entries, numbers_of, is_near, is_core, cores_of, outer_mark, mark_of, marks_of}
use Rattle.plain_dbscan.specs.Cases.{Listed, mark_at, mark_in}
use Rattle.plain_dbscan.proofs.Members.{find_none}
use Rattle.plain_dbscan.proofs.CoresOf.{other_anchor, other_mark}

-- each number with a mark of it
abbrev with_marks : (ℕ → Mark) → Entries → Listed
with_marks f rows = map (λ (a : ℕ). (a, f a)) (numbers_of rows)

below_alike : (f : ℕ → Mark) (x : ℕ) (rows : Entries) → below_all nat_cmp x (with_marks f rows) ≡ below_all nat_cmp x rows
below_alike f x [] = refl
below_alike f x (e ∷ es) = ap (λ (b : Bool). is_lt (nat_cmp x e.0) && b) (below_alike f x es)

sorted_alike : (f : ℕ → Mark) (rows : Entries) → is_sorted nat_cmp (with_marks f rows) ≡ is_sorted nat_cmp rows
sorted_alike f [] = refl
sorted_alike f (e ∷ es) =
    ap (λ (b : Bool). b && is_sorted nat_cmp (with_marks f es)) (below_alike f e.0 es) ∙ ap (λ (b : Bool). below_all nat_cmp e.0 es && b) (sorted_alike f es)

-- the marks of records that rise do rise
pub marks_rise : (d : Density) (rows : Entries) → T (is_sorted nat_cmp rows) → T (is_sorted nat_cmp (marks_of d rows))
marks_rise d rows sorted = subst T (sym (sorted_alike (mark_of d rows) rows)) sorted

mark_listed : (f : ℕ → Mark) (rows : Entries) (a : ℕ) → mark_at (with_marks f rows) a ≡ cond (is_some (value_at nat_cmp a rows)) (Some (f a)) None
mark_listed f [] a = refl
mark_listed f (e ∷ es) a = elim (cases_eq e.0 a) [
  | inl same ↦
      let here : (e.0 == a) ≡ true = grind (arith, nat_tests) in
      let tied : eq_by_cmp nat_cmp a e.0 ≡ true = grind (arith, nat_tests) in
      rw (here, tied) (ap (λ (x : ℕ). Some (f x)) same)
  | inr other ↦
      let off : (e.0 == a) ≡ false = grind (arith, nat_tests, other) in
      let apart : eq_by_cmp nat_cmp a e.0 ≡ false = grind (arith, nat_tests, other) in
      rw (off, apart) (mark_listed f es a)
]

-- the marks of the records give a number its mark, where a record has it
pub mark_at_marks : (d : Density) (rows : Entries) (a : ℕ) → mark_at (marks_of d rows) a ≡ cond (is_some (value_at nat_cmp a rows)) (Some (mark_of d rows a)) None
mark_at_marks d rows a = mark_listed (mark_of d rows) rows a

-- a number that no record has is noise
absent_noise : (d : Density) (rows : Entries) (a : ℕ) → value_at nat_cmp a rows ≡ None → mark_of d rows a ≡ Noise
absent_noise d rows a none =
    let off : is_core d rows a ≡ false = rw none refl in
    let alone : find (is_near d rows a) (cores_of d rows) ≡ None = find_none (is_near d rows a) (cores_of d rows) (λ k h. rw none refl) in
    other_mark d rows a off ∙ ap (outer_mark d rows) (other_anchor d rows a off ∙ alone)

mark_or_noise : (d : Density) (rows : Entries) (a : ℕ) (o : Option (List ℕ)) → value_at nat_cmp a rows ≡ o → unwrap_or (cond (is_some o) (Some (mark_of d rows a)) None) Noise ≡ mark_of d rows a
mark_or_noise d rows a None e = sym (absent_noise d rows a e)
mark_or_noise d rows a (Some v) e = refl

-- the mark of a number in the marks of the records is its mark, whether or not a record has it
pub mark_in_marks : (d : Density) (rows : Entries) (a : ℕ) → mark_in (marks_of d rows) a ≡ mark_of d rows a
mark_in_marks d rows a = ap (λ (m : Option Mark). unwrap_or m Noise) (mark_at_marks d rows a) ∙ mark_or_noise d rows a (value_at nat_cmp a rows) refl
