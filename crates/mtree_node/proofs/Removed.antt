-- Records of which one was taken away.
use Rattle.std.proofs.Common.{◌≡◌, ℕ, ◌+◌, ◌-◌, ◌≤◌, true, false, cond, List, Some, None, inl, inr, ◌⊎◌, refl, sym, ap, ◌∙◌, arith}
use Rattle.std.specs.Option.{is_some}
use Rattle.std.specs.Ordering.{nat_cmp, eq_by_cmp}
use Rattle.std.specs.Cmp.{nat_cmp_total, unsigned_tied}
use Rattle.std.specs.FinMap.{get, get-empty, get-remove, len, len-remove, empty_of_len, contains_key, remove}
use Rattle.std.proofs.lemmas.Bool.Decides.{eqb_tells}
use Rattle.vec_record.specs.Held.{Rows, HaveWidth}

pub ties : (a b : ℕ) → ((eq_by_cmp nat_cmp a b ≡ true) × (a ≡ b)) ⊎ ((eq_by_cmp nat_cmp a b ≡ false) × (a ≡ b → ⊥))
ties a b = rw (unsigned_tied a b) (eqb_tells a b)

-- the vectors that are left have the width
pub removed_width : (width : ℕ) (rows : Rows) (k : ℕ) → HaveWidth width rows → HaveWidth width (remove rows k)
removed_width width rows k all q v is =
    elim (ties q k) [
      | inl t ↦ absurd (let none : None ≡ Some v = sym (get-remove nat_cmp_total rows k q ∙ rw t.0 refl) ∙ is in cc)
      | inr f ↦ all q v (sym (get-remove nat_cmp_total rows k q ∙ rw f.0 refl) ∙ is)
    ]

-- there are no more than before
pub removed_len : (rows : Rows) (k : ℕ) → len (remove rows k) ≤ len rows
removed_len rows k = rw (len-remove nat_cmp_total rows k) (elim (contains_key rows k) as (λ b. cond b (len rows - 1) (len rows) ≤ len rows) [ true ↦ omega arith | false ↦ omega arith ])

some_len : (rows : Rows) (k : ℕ) (v : List ℕ) → get rows k ≡ Some v → len rows ≡ 0 → ⊥
some_len rows k v is none = let gone : None ≡ Some v = sym (ap (λ (m : Rows). get m k) (empty_of_len rows none) ∙ get-empty nat_cmp k) ∙ is in cc

-- one less where there was one
pub removed_one : (rows : Rows) (k : ℕ) (v : List ℕ) → get rows k ≡ Some v → len (remove rows k) + 1 ≡ len rows
removed_one rows k v is =
    let there : contains_key rows k ≡ true = ap is_some is in
    let some = some_len rows k v is in
    rw (len-remove nat_cmp_total rows k) (rw there (omega arith))
