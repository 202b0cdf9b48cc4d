-- Parts of a file, and what a write or a change elsewhere makes of them.
use Rattle.std.proofs.Common.{◌≡◌, ⊎_elim, ℕ, zero, suc, ◌^◌, ◌+◌, ◌<◌, ◌≤◌, List, [], ◌∷◌, length, drop, get_or, refl, sym, ◌∙◌, ap, arith, length-drop}
use Rattle.std.proofs.lemmas.List.{ext_get_or, get_or-take, get_or-drop, length-take-le}
use Rattle.std.specs.Int.{w32, w64, from_le_bytes, to_le_bytes}
use Rattle.std.proofs.lemmas.Nat.{from_le_bytes-to_le_bytes_4, from_le_bytes-to_le_bytes_8}
use Rattle.site_disk.specs.Disk.{put, Torn, end_of}
use Rattle.site_disk.specs.Puts.{length-put, put_below, put_inside, put_above}
use Rattle.page_gate.specs.Gate.{part, number_4, number_8}
use Rattle.page_gate.specs.Same.{Same, IsOutside}

pub length-part : (at n : ℕ) (c : List ℕ) → at + n ≤ length c → length (part at n c) ≡ n
unfolding part
length-part at n c long = length-take-le n (drop at c) (omega (arith, length-drop at c, long))

pub part_at : (at n : ℕ) (c : List ℕ) (i : ℕ) → i < n → get_or (part at n c) i 0 ≡ get_or c (at + i) 0
unfolding part
part_at at n c i lt = get_or-take n (drop at c) i 0 lt ∙ get_or-drop at c i 0

pub part_same : (at n : ℕ) (old new : List ℕ) → at + n ≤ length old → at + n ≤ length new → ((i : ℕ) → at ≤ i → i < at + n → get_or new i 0 ≡ get_or old i 0)
    → part at n new ≡ part at n old
part_same at n old new long_old long_new each =
    ext_get_or 0 (part at n new) (part at n old) (length-part at n new long_new ∙ sym (length-part at n old long_old)) (λ i lt.
    let within : i < n = omega (arith, lt, length-part at n new long_new) in
    part_at at n new i within ∙ each (at + i) (omega arith) (omega (arith, within)) ∙ sym (part_at at n old i within))

-- what is kept
module _ (kept : ℕ → Type 0) (top : ℕ) where
  pub same_part : (at n : ℕ) {old new : List ℕ} → Same kept top old new → at + n ≤ length old → ((i : ℕ) → at ≤ i → i < at + n → kept i) → part at n new ≡ part at n old
  same_part at n {old} {new} is long within = part_same at n old new long (omega (arith, is.no_shorter, long)) (λ i ge lt. is.stays i (omega (arith, lt, long)) (within i ge lt))

  pub same_byte : (i : ℕ) {old new : List ℕ} → Same kept top old new → i < length old → kept i → get_or new i 0 ≡ get_or old i 0
  same_byte i is long keeps = is.stays i long keeps

  pub same_refl : (c : List ℕ) → Same kept top c c
  same_refl c = record { no_shorter = omega arith; no_longer = omega arith; stays = λ i lt keeps. refl }

  pub same_trans : {c d e : List ℕ} → Same kept top c d → Same kept top d e → Same kept top c e
  same_trans {c} {d} {e} cd de = record {
    no_shorter = omega (arith, cd.no_shorter, de.no_shorter);
    no_longer = omega (arith, cd.no_longer, de.no_longer);
    stays = λ i lt keeps. de.stays i (omega (arith, lt, cd.no_shorter)) keeps ∙ cd.stays i lt keeps;
  }

  -- fewer places are kept, and the file may end later
  pub same_weaker : (less : ℕ → Type 0) (above : ℕ) {c d : List ℕ} → Same kept top c d → ((i : ℕ) → less i → kept i) → top ≤ above → Same less above c d
  same_weaker less above {c} {d} is fewer le = record {
    no_shorter = is.no_shorter;
    no_longer = omega (arith, is.no_longer, le);
    stays = λ i lt keeps. is.stays i lt (fewer i keeps);
  }

end_le : (at n : ℕ) → end_of at n ≤ at + n
end_le at zero = omega arith
end_le at (suc n) = omega arith

-- one write leaves the places outside of it
pub torn_same : (at n : ℕ) {old new : List ℕ} → Torn at n old new → Same (IsOutside at n) (at + n) old new
torn_same at n {old} {new} torn = record {
  no_shorter = torn.no_shorter;
  no_longer = omega (arith, torn.no_longer, end_le at n);
  stays = λ i lt out. ⊎_elim (λ below. torn.below i lt below) (λ above. torn.above i lt above) out;
}

pub put_same : (at : ℕ) (bytes file : List ℕ) → Same (IsOutside at (length bytes)) (at + length bytes) file (put at bytes file)
put_same at [] file = record { no_shorter = omega arith; no_longer = omega arith; stays = λ i lt out. refl }
put_same at (b ∷ more) file = record {
  no_shorter = omega (arith, length-put at b more file);
  no_longer = omega (arith, length-put at b more file);
  stays = λ i lt out. ⊎_elim (λ below. put_below at b more file i below) (λ above. put_above at b more file i above) out;
}

pub put_long : (at : ℕ) (bytes file : List ℕ) → 0 < length bytes → at + length bytes ≤ length (put at bytes file)
put_long at [] file some = absurd (omega (arith, some))
put_long at (b ∷ more) file some = omega (arith, length-put at b more file)

pub put_part : (at n : ℕ) (bytes file : List ℕ) → length bytes ≡ n → 0 < n → part at n (put at bytes file) ≡ bytes
put_part at n [] file len some = absurd (omega (arith, len, some))
put_part at n (b ∷ more) file len some =
    let long : at + n ≤ length (put at (b ∷ more) file) = omega (arith, length-put at b more file, len) in
    ext_get_or 0 (part at n (put at (b ∷ more) file)) (b ∷ more) (length-part at n _ long ∙ sym len) (λ i lt.
    let within : i < n = omega (arith, lt, length-part at n (put at (b ∷ more) file) long) in
    part_at at n (put at (b ∷ more) file) i within ∙ put_inside at b more file i (omega (arith, within, len)))

-- numbers that were written
pub put_number_8 : (at n : ℕ) (file : List ℕ) → n < 2 ^ 64 → number_8 at (put at (to_le_bytes w64 n) file) ≡ n
unfolding number_8
put_number_8 at n file small = ap (from_le_bytes w64) (put_part at 8 (to_le_bytes w64 n) file refl (omega arith)) ∙ from_le_bytes-to_le_bytes_8 n small

pub put_number_4 : (at n : ℕ) (file : List ℕ) → n < 2 ^ 32 → number_4 at (put at (to_le_bytes w32 n) file) ≡ n
unfolding number_4
put_number_4 at n file small = ap (from_le_bytes w32) (put_part at 4 (to_le_bytes w32 n) file refl (omega arith)) ∙ from_le_bytes-to_le_bytes_4 n small

-- numbers of parts
pub number_8_of : (at : ℕ) (c d : List ℕ) → part at 8 c ≡ part at 8 d → number_8 at c ≡ number_8 at d
unfolding number_8
number_8_of at c d is = ap (from_le_bytes w64) is

pub number_4_of : (at : ℕ) (c d : List ℕ) → part at 4 c ≡ part at 4 d → number_4 at c ≡ number_4 at d
unfolding number_4
number_4_of at c d is = ap (from_le_bytes w32) is
