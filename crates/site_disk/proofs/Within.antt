-- The disk model byte by byte: only written ranges and what lies past the old end may change.
use Rattle.std.proofs.Common.{◌≡◌, ◌⊎◌, inl, inr, ⊎_elim, ℕ, zero, suc, ◌+◌, ◌<◌, ◌≤◌, min, max, List, [], ◌∷◌, length, get_or, refl, sym, ◌∙◌, ap, subst, arith}
use Rattle.std.specs.Prelude.{map}
use Rattle.std.specs.List.{range_with_len}
use Rattle.std.proofs.lemmas.List.{ext_get_or, get_or_past}
use Rattle.std.proofs.lemmas.List.FromFn.{length-map-range_with_len, get_or-map-range_with_len}
use Rattle.std.proofs.lemmas.Bool.{cases_lt}
use Rattle.vec_record.specs.Vectors.{AreBytes}
use Rattle.site_disk.specs.Disk.{end_of, Torn, IsImage, Spares, furthest, IsWithin}
use Rattle.site_disk.specs.ByteLists.{bytes_by_index}

pub image_within : (base : List ℕ) (ranges : List (ℕ × ℕ)) (c : List ℕ) → AreBytes base → IsImage base ranges c → IsWithin base ranges c
image_within base [] c are is = record {
  bytes = subst AreBytes (sym is) are;
  no_shorter = omega (arith, ap length is);
  no_longer = omega (arith, ap length is);
  stays = λ i long spares. ap (λ (l : List ℕ). get_or l i 0) is;
}
image_within base (w ∷ ws) c are (d, image, torn) =
    let so_far = image_within base ws d are image in
    record {
      bytes = torn.bytes;
      no_shorter = omega (arith, so_far.no_shorter, torn.no_shorter);
      no_longer = omega (arith, so_far.no_longer, torn.no_longer);
      stays = λ i long spares. ⊎_elim
          (λ lt. torn.below i (omega (arith, long, so_far.no_shorter)) lt)
          (λ ge. torn.above i (omega (arith, long, so_far.no_shorter)) ge)
          spares.0 ∙ so_far.stays i long spares.1;
    }

either : {A B : Type 0} → A ⊎ B → ℕ → ℕ → ℕ
either (inl a) x y = x
either (inr b) x y = y

either_left : {A B : Type 0} (s : A ⊎ B) (x y : ℕ) → (B → ⊥) → either s x y ≡ x
unfolding either
either_left (inl a) x y never = refl
either_left (inr b) x y never = absurd (never b)

either_right : {A B : Type 0} (s : A ⊎ B) (x y : ℕ) → (A → ⊥) → either s x y ≡ y
unfolding either
either_right (inl a) x y never = absurd (never a)
either_right (inr b) x y never = refl

either_small : {A B : Type 0} (s : A ⊎ B) (x y : ℕ) → x < 256 → y < 256 → either s x y < 256
unfolding either
either_small (inl a) x y hx hy = hx
either_small (inr b) x y hx hy = hy

byte_at : (l : List ℕ) (i : ℕ) → AreBytes l → get_or l i 0 < 256
byte_at [] i are = omega arith
byte_at (x ∷ l) zero are = are.0
byte_at (x ∷ l) (suc i) are = byte_at l i are.1

-- The image before a write, found again from the one after it: where the write may have changed a byte of the base it is
-- that byte, and elsewhere the byte of the image; what only the write can have added is missing.
module _ (base : List ℕ) (at n : ℕ) (ws : List (ℕ × ℕ)) (c : List ℕ) (within : IsWithin base ((at, n) ∷ ws) c) (are : AreBytes base) where
  byte : ℕ → ℕ
  byte i = either (cases_lt i at) (get_or c i 0) (either (cases_lt i (at + n)) (either (cases_lt i (length base)) (get_or base i 0) (get_or c i 0)) (get_or c i 0))

  size : ℕ
  size = min (length c) (max (length base) (furthest ws))

  earlier : List ℕ
  earlier = map byte (range_with_len 0 size)

  length-earlier : length earlier ≡ size
  unfolding earlier
  length-earlier = length-map-range_with_len byte 0 size

  earlier_at : (i : ℕ) → i < size → get_or earlier i 0 ≡ byte i
  unfolding earlier
  earlier_at i lt = get_or-map-range_with_len byte 0 size i i 0 lt (omega arith)

  small : (i : ℕ) → byte i < 256
  unfolding byte
  small i =
      let here = byte_at c i within.bytes in
      either_small (cases_lt i at) _ _ here (either_small (cases_lt i (at + n)) _ _ (either_small (cases_lt i (length base)) _ _ (byte_at base i are) here) here)

  bytes-earlier : AreBytes earlier
  bytes-earlier = bytes_by_index earlier (λ i. elim (cases_lt i size) [
    | inl lt ↦ subst (λ (x : ℕ). x < 256) (sym (earlier_at i lt)) (small i)
    | inr ge ↦ subst (λ (x : ℕ). x < 256) (sym (get_or_past earlier i 0 (omega (arith, length-earlier, ge)))) (omega arith)
  ])

  before : (i : ℕ) → i < at → byte i ≡ get_or c i 0
  unfolding byte
  before i lt = either_left (cases_lt i at) _ _ (λ ge. omega (arith, lt, ge))

  behind : (i : ℕ) → at + n ≤ i → byte i ≡ get_or c i 0
  unfolding byte
  behind i ge = either_right (cases_lt i at) _ _ (λ lt. omega (arith, lt, ge)) ∙ either_right (cases_lt i (at + n)) _ _ (λ lt. omega (arith, lt, ge))

  inside : (i : ℕ) → at ≤ i → i < at + n → i < length base → byte i ≡ get_or base i 0
  unfolding byte
  inside i ge lt long = either_right (cases_lt i at) _ _ (λ l. omega (arith, l, ge)) ∙ either_left (cases_lt i (at + n)) _ _ (λ g. omega (arith, g, lt)) ∙ either_left (cases_lt i (length base)) _ _ (λ g. omega (arith, g, long))

  long_enough : length base ≤ size
  unfolding size
  long_enough = omega (arith, within.no_shorter)

  no_longer : length c ≤ max size (end_of at n)
  unfolding size
  no_longer = omega (arith, within.no_longer)

  not_longer : size ≤ length c
  unfolding size
  not_longer = omega arith

  reaches : size ≤ max (length base) (furthest ws)
  unfolding size
  reaches = omega arith

  torn : Torn at n earlier c
  torn = record {
    bytes = within.bytes;
    no_shorter = omega (arith, length-earlier, not_longer);
    no_longer = omega (arith, length-earlier, no_longer);
    below = λ i long lt. sym (earlier_at i (omega (arith, length-earlier, long)) ∙ before i lt);
    above = λ i long ge. sym (earlier_at i (omega (arith, length-earlier, long)) ∙ behind i ge);
  }

  stays : (i : ℕ) → i < length base → Spares ws i → byte i ≡ get_or base i 0
  stays i long spares = elim (cases_lt i at) [
    | inl lt ↦ before i lt ∙ within.stays i long (inl lt, spares)
    | inr ge ↦ elim (cases_lt i (at + n)) [
      | inl lt ↦ inside i ge lt long
      | inr past ↦ behind i past ∙ within.stays i long (inr past, spares)
    ]
  ]

  earlier_within : IsWithin base ws earlier
  earlier_within = record {
    bytes = bytes-earlier;
    no_shorter = omega (arith, length-earlier, long_enough);
    no_longer = omega (arith, length-earlier, reaches);
    stays = λ i long spares. earlier_at i (omega (arith, long, long_enough)) ∙ stays i long spares;
  }

pub within_image : (base : List ℕ) (ranges : List (ℕ × ℕ)) (c : List ℕ) → AreBytes base → IsWithin base ranges c → IsImage base ranges c
within_image base [] c are within = ext_get_or 0 c base (omega (arith, within.no_shorter, within.no_longer)) (λ i lt. within.stays i (omega (arith, lt, within.no_longer)) tt)
within_image base (w ∷ ws) c are within = (earlier base w.0 w.1 ws c within are, within_image base ws (earlier base w.0 w.1 ws c within are) are (earlier_within base w.0 w.1 ws c within are), torn base w.0 w.1 ws c within are)
