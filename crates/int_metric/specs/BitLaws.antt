-- The laws of the number of differing bits.
use Rattle.std.specs.Prelude.{◌≡◌, ℕ, ◌+◌, ◌*◌, ◌/◌, ◌%◌, ◌^◌, ◌<◌, ◌≤◌, ◌↔◌, ◌==◌, cond, not, List, [], ◌∷◌, length, sum_by, bit_xor, count_ones, refl}
use Rattle.std.proofs.Common.{zero, suc, arith, subst, sym, ap, ◌∙◌}
use Rattle.std.proofs.lemmas.Nat.{zero_from_ones, ones_le_self, xor_lt, shr-shr}
use Rattle.std.proofs.lemmas.Nat.Bits.{bit_at_xor, bit_at-lt}
use Rattle.std.specs.Int.Bits.{xor_add_and, and_le_l, and_le_r}
use Rattle.std.specs.Int.Count.{ones_step}
use Rattle.vec_record.specs.Vectors.{AreBytes, IsVector, IsWidth}
use Rattle.vec_record.specs.Distance.{bit_places, bit_at, bits_apart, all_bits_apart}

-- ---- sums over the eight places

eight_same : (f g : ℕ → ℕ) → ((j : ℕ) → f j ≡ g j) → sum_by f bit_places ≡ sum_by g bit_places
eight_same f g h = omega (arith, h 0, h 1, h 2, h 3, h 4, h 5, h 6, h 7)

eight_detour : (f g h : ℕ → ℕ) → ((j : ℕ) → f j ≤ g j + h j) → sum_by f bit_places ≤ sum_by g bit_places + sum_by h bit_places
eight_detour f g h p = omega (arith, p 0, p 1, p 2, p 3, p 4, p 5, p 6, p 7)

eight_small : (f : ℕ → ℕ) → ((j : ℕ) → f j ≤ 1) → sum_by f bit_places ≤ 8
eight_small f p = omega (arith, p 0, p 1, p 2, p 3, p 4, p 5, p 6, p 7)

eight_zero : (f : ℕ → ℕ) → ((j : ℕ) → f j ≡ 0) → sum_by f bit_places ≡ 0
eight_zero f p = omega (arith, p 0, p 1, p 2, p 3, p 4, p 5, p 6, p 7)

eight_steps : (all f : ℕ → ℕ) → ((j : ℕ) → all j ≡ f j + all (j + 1)) → all 0 ≡ sum_by f bit_places + all 8
eight_steps all f p = omega (arith, p 0, p 1, p 2, p 3, p 4, p 5, p 6, p 7)

-- ---- two bytes

-- one where the bits at a place differ, and otherwise zero
abbrev differs : ℕ → ℕ → ℕ → ℕ
differs x y j = (bit_at x j + bit_at y j) % 2

two_bits : (b c : ℕ) → b < 2 → c < 2 → cond (not (b == c)) 1 0 ≡ (b + c) % 2
two_bits zero zero p q = refl
two_bits zero (suc zero) p q = refl
two_bits (suc zero) zero p q = refl
two_bits (suc zero) (suc zero) p q = refl
two_bits (suc (suc b)) c p q = absurd (omega arith)
two_bits zero (suc (suc c)) p q = absurd (omega arith)
two_bits (suc zero) (suc (suc c)) p q = absurd (omega arith)

by_parity : (x y : ℕ) → bits_apart x y ≡ sum_by (differs x y) bit_places
by_parity x y = eight_same (λ j. cond (not (bit_at x j == bit_at y j)) 1 0) (differs x y) (λ j. two_bits (bit_at x j) (bit_at y j) (bit_at-lt x j) (bit_at-lt y j))

ones_from : (n j : ℕ) → count_ones (n / 2 ^ j) ≡ bit_at n j + count_ones (n / 2 ^ (j + 1))
ones_from n j = ones_step (n / 2 ^ j) ∙ ap (λ m. bit_at n j + count_ones m) (shr-shr n j 1)

pub ones_of_zero : count_ones 0 ≡ 0
ones_of_zero = omega (arith, ones_le_self 0)

joined : (a b s c : ℕ) → a ≡ b → b ≡ s + c → c ≡ 0 → a ≡ s
joined a b s c p q r = omega arith

ones_of_byte : (n : ℕ) → n < 256 → count_ones n ≡ sum_by (bit_at n) bit_places
ones_of_byte n h =
    let first : n ≡ n / 2 ^ 0 = omega arith in
    let last : n / 2 ^ 8 ≡ 0 = omega arith in
    joined (count_ones n) (count_ones (n / 2 ^ 0)) (sum_by (bit_at n) bit_places) (count_ones (n / 2 ^ 8)) (ap count_ones first) (eight_steps (λ j. count_ones (n / 2 ^ j)) (bit_at n) (ones_from n)) (ap count_ones last ∙ ones_of_zero)

-- the bits that differ are the ones of the exclusive or
pub bits_by_ones : (x y : ℕ) → x < 256 → y < 256 → bits_apart x y ≡ count_ones (bit_xor x y)
bits_by_ones x y a b =
    by_parity x y ∙ (eight_same (differs x y) (bit_at (bit_xor x y)) (λ j. sym (bit_at_xor x y j)) ∙ sym (ones_of_byte (bit_xor x y) (xor_lt 8 x y a b)))

byte_self : (x : ℕ) → bits_apart x x ≡ 0
byte_self x = by_parity x x ∙ eight_zero (differs x x) (λ j. omega arith)

byte_zero : (x y : ℕ) → x < 256 → y < 256 → bits_apart x y ≡ 0 → x ≡ y
byte_zero x y a b e =
    let none : bit_xor x y ≡ 0 = zero_from_ones (bit_xor x y) (sym (bits_by_ones x y a b) ∙ e) in
    omega (arith, xor_add_and x y, and_le_l x y, and_le_r x y)

byte_comm : (x y : ℕ) → bits_apart x y ≡ bits_apart y x
byte_comm x y = by_parity x y ∙ (eight_same (differs x y) (differs y x) (λ j. omega arith) ∙ sym (by_parity y x))

byte_detour : (x y z : ℕ) → bits_apart x z ≤ bits_apart x y + bits_apart y z
byte_detour x y z = rw (by_parity x z, by_parity x y, by_parity y z) (eight_detour (differs x z) (differs x y) (differs y z) (λ j. omega arith))

pub byte_small : (x y : ℕ) → bits_apart x y ≤ 8
byte_small x y = rw (by_parity x y) (eight_small (differs x y) (λ j. omega arith))

-- ---- lists of bytes

bits_self : (u : List ℕ) → all_bits_apart u u ≡ 0
bits_self [] = refl
bits_self (x ∷ xs) = rw (byte_self x, bits_self xs)

bits_comm : (u v : List ℕ) → all_bits_apart u v ≡ all_bits_apart v u
bits_comm [] [] = refl
bits_comm [] (y ∷ ys) = refl
bits_comm (x ∷ xs) [] = refl
bits_comm (x ∷ xs) (y ∷ ys) = rw (byte_comm x y, bits_comm xs ys)

head_zero : (a b : ℕ) → a + b ≡ 0 → a ≡ 0
head_zero a b e = omega arith

tail_zero : (a b : ℕ) → a + b ≡ 0 → b ≡ 0
tail_zero a b e = omega arith

bits_zero : (u v : List ℕ) → AreBytes u → AreBytes v → length u ≡ length v → all_bits_apart u v ≡ 0 → u ≡ v
bits_zero [] [] a b l e = refl
bits_zero [] (y ∷ ys) a b l e = absurd (omega (arith, l))
bits_zero (x ∷ xs) [] a b l e = absurd (omega (arith, l))
bits_zero (x ∷ xs) (y ∷ ys) a b l e =
    let head : x ≡ y = byte_zero x y a.0 b.0 (head_zero (bits_apart x y) (all_bits_apart xs ys) e) in
    let tail : xs ≡ ys = bits_zero xs ys a.1 b.1 (omega (arith, l)) (tail_zero (bits_apart x y) (all_bits_apart xs ys) e) in
    cc

add_detours : (a b c d e f : ℕ) → a ≤ b + c → d ≤ e + f → a + d ≤ (b + e) + (c + f)
add_detours a b c d e f p q = omega arith

bits_detour : (u v x : List ℕ) → length u ≡ length v → length v ≡ length x → all_bits_apart u x ≤ all_bits_apart u v + all_bits_apart v x
bits_detour [] v x l k = omega arith
bits_detour (a ∷ u) [] x l k = absurd (omega (arith, l))
bits_detour (a ∷ u) (b ∷ v) [] l k = absurd (omega (arith, k))
bits_detour (a ∷ u) (b ∷ v) (c ∷ x) l k =
    add_detours (bits_apart a c) (bits_apart a b) (bits_apart b c) (all_bits_apart u x) (all_bits_apart u v) (all_bits_apart v x) (byte_detour a b c) (bits_detour u v x (omega (arith, l)) (omega (arith, k)))

add_small : (a b n : ℕ) → a ≤ 8 → b ≤ 8 * n → a + b ≤ 8 * suc n
add_small a b n p q = omega arith

pub bits_small : (u v : List ℕ) → all_bits_apart u v ≤ 8 * length u
bits_small [] v = omega arith
bits_small (x ∷ xs) [] = omega arith
bits_small (x ∷ xs) (y ∷ ys) = add_small (bits_apart x y) (all_bits_apart xs ys) (length xs) (byte_small x y) (bits_small xs ys)

-- distance 0 is equality
pub bit_identity : (w : ℕ) (u v : List ℕ) → IsWidth w → IsVector w u → IsVector w v → (all_bits_apart u v ≡ 0) ↔ (u ≡ v)
bit_identity w u v width a b = (λ e. bits_zero u v a.bytes b.bytes (omega arith) e, λ e. subst (λ z. all_bits_apart u z ≡ 0) e (bits_self u))

-- the distance is symmetric
pub bit_symmetry : (w : ℕ) (u v : List ℕ) → IsWidth w → IsVector w u → IsVector w v → all_bits_apart u v ≡ all_bits_apart v u
bit_symmetry w u v width a b = bits_comm u v

-- the triangle law
pub bit_triangle : (w : ℕ) (u v x : List ℕ) → IsWidth w → IsVector w u → IsVector w v → IsVector w x → all_bits_apart u x ≤ all_bits_apart u v + all_bits_apart v x
bit_triangle w u v x width a b c = bits_detour u v x (a.len ∙ sym b.len) (b.len ∙ sym c.len)

-- no distance is above the greatest one
pub bit_bound : (w : ℕ) (u v : List ℕ) → IsWidth w → IsVector w u → IsVector w v → all_bits_apart u v ≤ 8 * w
bit_bound w u v width a b = subst (λ n. all_bits_apart u v ≤ 8 * n) a.len (bits_small u v)
