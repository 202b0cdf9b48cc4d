-- The bits that differ, eight bytes at a time.
use Rattle.std.proofs.Common.{◌≡◌, ◌∙◌, sym, ap, ℕ, zero, suc, ◌+◌, ◌*◌, ◌^◌, List, [], ◌∷◌, length, take, drop, bit_xor, count_ones, refl, w64, arith}
use Rattle.std.proofs.lemmas.Nat.{xor_block, xor_lt, ones_cat}
use Rattle.std.specs.Int.{from_le_bytes}
use Rattle.vec_record.specs.Vectors.{AreBytes}
use Rattle.vec_record.specs.Distance.{bits_apart, all_bits_apart}
use Rattle.int_metric.specs.BitLaws.{ones_of_zero, bits_by_ones}
use Rattle.int_metric.proofs.Cuts.{add_head}

-- the number that bytes make, the lowest first
abbrev worth : List ℕ → ℕ
worth [] = 0
worth (x ∷ xs) = worth xs * 2 ^ 8 + x

eight_worth : (v : List ℕ) → length v ≡ 8 → from_le_bytes w64 v ≡ worth v
eight_worth (a ∷ b ∷ c ∷ d ∷ e ∷ f ∷ g ∷ h ∷ []) l = omega arith
eight_worth [] l = absurd (omega (arith, l))
eight_worth (a ∷ []) l = absurd (omega (arith, l))
eight_worth (a ∷ b ∷ []) l = absurd (omega (arith, l))
eight_worth (a ∷ b ∷ c ∷ []) l = absurd (omega (arith, l))
eight_worth (a ∷ b ∷ c ∷ d ∷ []) l = absurd (omega (arith, l))
eight_worth (a ∷ b ∷ c ∷ d ∷ e ∷ []) l = absurd (omega (arith, l))
eight_worth (a ∷ b ∷ c ∷ d ∷ e ∷ f ∷ []) l = absurd (omega (arith, l))
eight_worth (a ∷ b ∷ c ∷ d ∷ e ∷ f ∷ g ∷ []) l = absurd (omega (arith, l))
eight_worth (a ∷ b ∷ c ∷ d ∷ e ∷ f ∷ g ∷ h ∷ i ∷ v) l = absurd (omega (arith, l))

ones_of_worth : (u v : List ℕ) → length u ≡ length v → AreBytes u → AreBytes v → count_ones (bit_xor (worth u) (worth v)) ≡ all_bits_apart u v
ones_of_worth [] [] l a b = ones_of_zero
ones_of_worth [] (y ∷ ys) l a b = absurd (omega (arith, l))
ones_of_worth (x ∷ xs) [] l a b = absurd (omega (arith, l))
ones_of_worth (x ∷ xs) (y ∷ ys) l a b =
    let cut : bit_xor (worth xs * 2 ^ 8 + x) (worth ys * 2 ^ 8 + y) ≡ bit_xor (worth xs) (worth ys) * 2 ^ 8 + bit_xor x y = xor_block 8 (worth xs) (worth ys) x y a.0 b.0 in
    let ones = ones_cat 8 (bit_xor (worth xs) (worth ys)) (bit_xor x y) (xor_lt 8 x y a.0 b.0) in
    let rest = ones_of_worth xs ys (omega (arith, l)) a.1 b.1 in
    let head = bits_by_ones x y a.0 b.0 in
    let both : count_ones (bit_xor (worth xs * 2 ^ 8 + x) (worth ys * 2 ^ 8 + y)) ≡ count_ones (bit_xor (worth xs) (worth ys) * 2 ^ 8 + bit_xor x y) = ap count_ones cut in
    omega (arith, both, ones, rest, head)

-- the ones of the exclusive or of two words are the bits that differ
pub word_apart : (u v : List ℕ) → length u ≡ 8 → length v ≡ 8 → AreBytes u → AreBytes v → count_ones (bit_xor (from_le_bytes w64 u) (from_le_bytes w64 v)) ≡ all_bits_apart u v
word_apart u v l m a b =
    rw (eight_worth u l, eight_worth v m) (ones_of_worth u v (l ∙ sym m) a b)

bits_right : (u : List ℕ) → all_bits_apart u [] ≡ 0
bits_right [] = refl
bits_right (x ∷ xs) = refl

bits_cut : (n : ℕ) (u v : List ℕ) → all_bits_apart u v ≡ all_bits_apart (take n u) (take n v) + all_bits_apart (drop n u) (drop n v)
bits_cut zero u v = omega arith
bits_cut (suc n) [] v = refl
bits_cut (suc n) (x ∷ xs) [] = omega (arith, bits_right (drop n xs))
bits_cut (suc n) (x ∷ xs) (y ∷ ys) = add_head (bits_apart x y) (all_bits_apart xs ys) (all_bits_apart (take n xs) (take n ys)) (all_bits_apart (drop n xs) (drop n ys)) (bits_cut n xs ys)

-- the bits of the first word and of what is left after it
pub first_word : (n word : ℕ) (u v x y after_u after_v : List ℕ) → x ≡ take n u → y ≡ take n v → after_u ≡ drop n u → after_v ≡ drop n v → word ≡ all_bits_apart x y → word + all_bits_apart after_u after_v ≡ all_bits_apart u v
first_word n word u v x y after_u after_v cx cy cu cv e = rw (e, cx, cy, cu, cv) (sym (bits_cut n u v))
