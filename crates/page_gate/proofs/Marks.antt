-- The count of a page that was marked.
use Rattle.std.proofs.Common.{◌≡◌, ℕ, ◌≤◌, List, [], ◌∷◌, length, get_or, set, ap, ◌∙◌, arith}
use Rattle.std.specs.Int.{w32, from_le_bytes}
use Rattle.page_gate.specs.Gate.{part, number_4, count_of}

one : (a : ℕ) → from_le_bytes w32 (a ∷ 0 ∷ 0 ∷ 0 ∷ []) ≡ a
one a = omega arith

pub marked_count : (z : List ℕ) (a b : ℕ) → 5 ≤ length z → ((i : ℕ) → get_or z i 0 ≡ 0) → count_of (set (set z 0 a) 4 b) ≡ a
unfolding count_of number_4 part
marked_count [] a b h z = absurd (omega (arith, h))
marked_count (p ∷ []) a b h z = absurd (omega (arith, h))
marked_count (p ∷ q ∷ []) a b h z = absurd (omega (arith, h))
marked_count (p ∷ q ∷ r ∷ []) a b h z = absurd (omega (arith, h))
marked_count (p ∷ q ∷ r ∷ s ∷ []) a b h z = absurd (omega (arith, h))
marked_count (p ∷ q ∷ r ∷ s ∷ t ∷ rest) a b h z =
    let same : q ∷ r ∷ s ∷ [] ≡ 0 ∷ 0 ∷ 0 ∷ [] = cc (z 1, z 2, z 3) in
    ap (λ (l : List ℕ). from_le_bytes w32 (a ∷ l)) same ∙ one a
