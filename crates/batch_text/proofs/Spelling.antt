-- The bytes of a vector that was spelled have no bit past its last.
use Rattle.std.proofs.Common.{◌≡◌, ℕ, zero, suc, ◌+◌, ◌-◌, ◌*◌, ◌/◌, ◌%◌, ◌^◌, ◌≤◌, true, cond, List, [], ◌∷◌, length, get_or, refl, ap, arith, ◌∙◌, ◌==◌}
use Rattle.std.proofs.lemmas.Bool.{eq-eqb}
use Rattle.std.proofs.lemmas.List.{get_or_past}
use Rattle.std.proofs.lemmas.List.FromFn.{get_or-map-range_with_len}
use Rattle.vec_record.specs.Spelled.{is_spelled}
use Rattle.vec_record.specs.declared.kind.MetricKind.{MetricKind}
use Rattle.vec_record.specs.declared.kind.MetricKind.TheVariants.{L1, Max, Hamming}
use Rattle.batch_text.specs.Vectors.{bytes_of, packed, packed_byte, text_bit}

-- a fact of each number up to 7
up_to_seven : (P : ℕ → Type 0) → P 0 → P 1 → P 2 → P 3 → P 4 → P 5 → P 6 → P 7 → (s : ℕ) → s ≤ 7 → P s
up_to_seven P a b c d e f g h zero le = a
up_to_seven P a b c d e f g h (suc zero) le = b
up_to_seven P a b c d e f g h (suc (suc zero)) le = c
up_to_seven P a b c d e f g h (suc (suc (suc zero))) le = d
up_to_seven P a b c d e f g h (suc (suc (suc (suc zero)))) le = e
up_to_seven P a b c d e f g h (suc (suc (suc (suc (suc zero))))) le = f
up_to_seven P a b c d e f g h (suc (suc (suc (suc (suc (suc zero)))))) le = g
up_to_seven P a b c d e f g h (suc (suc (suc (suc (suc (suc (suc zero))))))) le = h
up_to_seven P a b c d e f g h (suc (suc (suc (suc (suc (suc (suc (suc n)))))))) le = absurd (omega (arith, le))

bit_past : (text : List ℕ) (j : ℕ) → length text ≤ j → text_bit text j ≡ 0
bit_past text j le = ap (λ (c : ℕ). cond (c == 49) 1 0) (get_or_past text j 48 le)

one_divides : (n : ℕ) → n % 1 ≡ 0
one_divides n = omega arith

-- a byte whose last bits are zero
module _ (text : List ℕ) (i : ℕ) where
  abbrev Ends : ℕ → Type 0
  Ends s = ((j : ℕ) → 8 ≤ j + s → text_bit text (8 * i + j) ≡ 0) → packed_byte text i % 2 ^ s ≡ 0

  byte_ends : (s : ℕ) → s ≤ 7 → Ends s
  byte_ends = up_to_seven Ends
      (λ z. one_divides (packed_byte text i))
      (λ z. omega (arith, z 7 (omega arith)))
      (λ z. omega (arith, z 7 (omega arith), z 6 (omega arith)))
      (λ z. omega (arith, z 7 (omega arith), z 6 (omega arith), z 5 (omega arith)))
      (λ z. omega (arith, z 7 (omega arith), z 6 (omega arith), z 5 (omega arith), z 4 (omega arith)))
      (λ z. omega (arith, z 7 (omega arith), z 6 (omega arith), z 5 (omega arith), z 4 (omega arith), z 3 (omega arith)))
      (λ z. omega (arith, z 7 (omega arith), z 6 (omega arith), z 5 (omega arith), z 4 (omega arith), z 3 (omega arith), z 2 (omega arith)))
      (λ z. omega (arith, z 7 (omega arith), z 6 (omega arith), z 5 (omega arith), z 4 (omega arith), z 3 (omega arith), z 2 (omega arith), z 1 (omega arith)))

last_byte : (text : List ℕ) → get_or (packed text) ((length text + 7) / 8 - 1) 0 % 2 ^ (8 * ((length text + 7) / 8) - length text) ≡ 0
last_byte [] = refl
last_byte (b ∷ more) =
    let text = b ∷ more in
    let width = (length text + 7) / 8 in
    let at : get_or (packed text) (width - 1) 0 ≡ packed_byte text (width - 1) = get_or-map-range_with_len (packed_byte text) 0 width (width - 1) (width - 1) 0 (omega arith) (omega arith) in
    ap (λ (x : ℕ). x % 2 ^ (8 * width - length text)) at ∙ byte_ends text (width - 1) (8 * width - length text) (omega arith) (λ j le. bit_past text (8 * (width - 1) + j) (omega (arith, le)))

pub parts_spelled : (m : MetricKind) (parts : List ℕ) → is_spelled m (length parts) (bytes_of m parts) ≡ true
parts_spelled L1 parts = eq-eqb _ _ (one_divides (get_or parts (length parts - 1) 0))
parts_spelled Max parts = eq-eqb _ _ (one_divides (get_or parts (length parts - 1) 0))
parts_spelled Hamming parts = eq-eqb _ _ (last_byte parts)
