-- Entries with distinct numbers name their own records.
use Rattle.std.proofs.Common.{◌≡◌, ℕ, ◌+◌, true, false, cond, List, [], ◌∷◌, map, count_by, Some, None, ◌⊎◌, refl, sym, ap, subst, ◌∙◌, arith, inl, inr, eq-eqb}
use Rattle.std.specs.Prelude.{◌==◌}
use Rattle.std.specs.Ordering.{nat_cmp, eq_by_cmp}
use Rattle.std.specs.Cmp.{nat_cmp_total, unsigned_tied}
use Rattle.std.specs.FinMap as finite
use Rattle.std.proofs.lemmas.Bool.Decides.{eqb_tells}
use Rattle.std.proofs.lemmas.List.Sums.{sum_by-cons}
use Rattle.vec_record.specs.Held.{Rows}
use Rattle.mtree_node.specs.declared.node.LeafEntry.{LeafEntry}
use Rattle.mtree_node.specs.Tree.{record_of, AreDistinct}
use Rattle.mtree_node.proofs.Taken.{Taken}

abbrev rows_of : List LeafEntry → Rows
rows_of es = finite.from_entries (map record_of es)

-- how often a number stands
abbrev times : ℕ → List LeafEntry → ℕ
times number es = count_by (λ e. e.number == number) es

times-cons : (number : ℕ) (e : LeafEntry) (es : List LeafEntry) → times number (e ∷ es) ≡ cond (e.number == number) 1 0 + times number es
times-cons number e es = sum_by-cons (λ (x : LeafEntry). cond (x.number == number) 1 0) e es

once : (a b : ℕ) → a ≡ b → ◌≡◌ {A = ℕ} (cond (a == b) 1 0) 1
once a b same = rw (eq-eqb a b same) refl

pub ties : (a b : ℕ) → ((eq_by_cmp nat_cmp a b ≡ true) × (a ≡ b)) ⊎ ((eq_by_cmp nat_cmp a b ≡ false) × (a ≡ b → ⊥))
ties a b = rw (unsigned_tied a b) (eqb_tells a b)

-- a number that stands nowhere has no record
no_record : (number : ℕ) (es : List LeafEntry) → times number es ≡ 0 → finite.get (rows_of es) number ≡ None
no_record number [] never = finite.get-empty nat_cmp number
no_record number (e ∷ es) never =
    elim (ties number e.number) [
      | inl t ↦ absurd (omega (arith, never, times-cons number e es, once e.number number (sym t.1)))
      | inr f ↦ finite.get-insert nat_cmp_total (rows_of es) e.number e.vector number ∙ rw f.0 (no_record number es (omega (arith, never, times-cons number e es)))
    ]

module _ (rows : Rows) (number : ℕ) (v : List ℕ) where
  got_again : finite.get (finite.insert rows number v) number ≡ Some v
  got_again = finite.get-insert nat_cmp_total rows number v number ∙ elim (ties number number) [ inl t ↦ rw t.0 refl | inr f ↦ absurd (f.1 refl) ]

  removed_again : finite.get rows number ≡ None → finite.remove (finite.insert rows number v) number ≡ rows
  removed_again none =
      finite.same_map nat_cmp_total finite.nat_cmp-IsAntisymmetric _ _ (λ q.
      finite.get-remove nat_cmp_total (finite.insert rows number v) number q
      ∙ elim (ties q number) [
        | inl t ↦ rw t.0 (sym (ap (finite.get rows) t.1 ∙ none))
        | inr f ↦ rw f.0 (finite.get-insert nat_cmp_total rows number v q ∙ rw f.0 refl)
      ])

-- the entries name their own records, and none is left
pub distinct_taken : (es : List LeafEntry) → AreDistinct es → Taken es (finite.from_entries (map record_of es)) finite.empty
distinct_taken [] d = refl
distinct_taken (e ∷ es) d =
    let rest : AreDistinct es = λ q. omega (arith, d q, times-cons q e es) in
    let none = no_record e.number es (omega (arith, d e.number, times-cons e.number e es, once e.number e.number refl)) in
    (got_again (rows_of es) e.number e.vector, subst (λ rows. Taken es rows finite.empty) (sym (removed_again (rows_of es) e.number e.vector none)) (distinct_taken es rest))
