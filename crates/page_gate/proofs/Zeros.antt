-- Lists of zeros.
use Rattle.std.proofs.Common.{◌≡◌, ℕ, inl, inr, List, get_or, replicate, ap, ◌∙◌, arith}
use Rattle.std.proofs.lemmas.List.{get_or-replicate, get_or_past, length-replicate}
use Rattle.std.proofs.lemmas.Bool.{cases_lt}

pub zero_at : (n z : ℕ) (l : List ℕ) → l ≡ replicate n z → z ≡ 0 → (i : ℕ) → get_or l i 0 ≡ 0
zero_at n z l is zero i = ap (λ (k : List ℕ). get_or k i 0) is ∙ elim (cases_lt i n) [
  | inl lt ↦ get_or-replicate n i z 0 lt ∙ zero
  | inr ge ↦ get_or_past (replicate n z) i 0 (omega (arith, length-replicate n z, ge))
]
