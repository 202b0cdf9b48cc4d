-- What is read, and what it says.
use Rattle.std.proofs.Common.{◌≡◌, inl, inr, ℕ, suc, ◌+◌, ◌<◌, ◌≤◌, Bool, true, false, ◌&&◌, ltb, leb, List, length, get_or, refl, sym, ◌∙◌, ap, arith}
use Rattle.std.specs.Int.{w32, w64, from_le_bytes}
use Rattle.std.proofs.lemmas.List.{ext_get_or}
use Rattle.std.proofs.lemmas.Bool.{cases_lt}
use Rattle.page_gate.specs.Gate.{part, number_4, number_8, is_signed, first_set, is_open, redo_start, redo_count, gate_of, items, rises}
use Rattle.page_gate.proofs.Parts.{length-part, part_at, part_same, number_4_of, number_8_of}
use Rattle.page_gate.proofs.Gates.{short_and}
use Rattle.page_gate.proofs.Openings.{signed_same, zeros_same}

pub part_read : (at n : ℕ) (word c : List ℕ) → length word ≡ n → ((i : ℕ) → i < length word → get_or word i 0 ≡ get_or c (at + i) 0) → at + n ≤ length c → word ≡ part at n c
part_read at n word c len each room = ext_get_or 0 word (part at n c) (len ∙ sym (length-part at n c room)) (λ i lt. each i lt ∙ sym (part_at at n c i (omega (arith, lt, len))))

pub read_4 : (at : ℕ) (word c : List ℕ) → length word ≡ 4 → ((i : ℕ) → i < length word → get_or word i 0 ≡ get_or c (at + i) 0) → at + 4 ≤ length c → from_le_bytes w32 word ≡ number_4 at c
unfolding number_4
read_4 at word c len each room = ap (from_le_bytes w32) (part_read at 4 word c len each room)

pub read_8 : (at : ℕ) (word c : List ℕ) → length word ≡ 8 → ((i : ℕ) → i < length word → get_or word i 0 ≡ get_or c (at + i) 0) → at + 8 ≤ length c → from_le_bytes w64 word ≡ number_8 at c
unfolding number_8
read_8 at word c len each room = ap (from_le_bytes w64) (part_read at 8 word c len each room)

open_by : (c d : List ℕ) → get_or d 1 0 ≡ get_or c 1 0 → is_open d ≡ is_open c
unfolding is_open
open_by c d is = rw is refl

start_by : (c d : List ℕ) → part 8 8 d ≡ part 8 8 c → redo_start d ≡ redo_start c
unfolding redo_start
start_by c d is = number_8_of 8 d c is

count_by_part : (c d : List ℕ) → part 16 4 d ≡ part 16 4 c → redo_count d ≡ redo_count c
unfolding redo_count
count_by_part c d is = number_4_of 16 d c is

-- page 0 says what the file says
pub gate_read : (first c : List ℕ) → length first ≡ 16384 → ((i : ℕ) → i < 16384 → get_or first i 0 ≡ get_or c i 0) → gate_of (length c) first ≡ gate_of (length c) c
unfolding gate_of
gate_read first c len each = elim (cases_lt (length c) 32768) [
  | inl lt ↦
      let gate : get_or first 0 0 ≡ get_or c 0 0 = each 0 (omega arith) in
      let one : (leb 32768 (length c) && is_signed first) ≡ false = short_and (length c) (is_signed first) lt in
      let two : (leb 32768 (length c) && is_signed c) ≡ false = short_and (length c) (is_signed c) lt in
      rw (gate, one, two) refl
  | inr ge ↦
      let same : (at n : ℕ) → at + n ≤ 16384 → part at n first ≡ part at n c = λ at n le. part_same at n c first (omega (arith, le, ge)) (omega (arith, le, len)) (λ i above below. each i (omega (arith, below, le))) in
      let gate : get_or first 0 0 ≡ get_or c 0 0 = each 0 (omega arith) in
      let signed : is_signed first ≡ is_signed c = signed_same c first gate (same 2 6 (omega arith)) in
      let zeros : first_set first ≡ first_set c = zeros_same c first (same 20 16364 (omega arith)) in
      let opened : is_open first ≡ is_open c = open_by c first (each 1 (omega arith)) in
      let started : redo_start first ≡ redo_start c = start_by c first (same 8 8 (omega arith)) in
      let counted : redo_count first ≡ redo_count c = count_by_part c first (same 16 4 (omega arith)) in
      rw (gate, signed, zeros, opened, started, counted) refl
]

-- the test of the numbers, one by one
pub rises_step : (low limit at left rest number : ℕ) (c : List ℕ) → left ≡ suc rest → number ≡ number_8 at c → rises low limit (items at left c) ≡ (ltb low number && (ltb number limit && rises number limit (items (at + 16392) rest c)))
unfolding items
rises_step low limit at left rest number c left_is number_is = rw (left_is, number_is) refl

pub rises_none : (low limit at left : ℕ) (c : List ℕ) → left ≡ 0 → rises low limit (items at left c) ≡ true
unfolding items
rises_none low limit at left c is = rw is refl

pub between_no : (x y z : Bool) → (x && y) ≡ false → (x && (y && z)) ≡ false
between_no true true z h = absurd (cc h)
between_no true false z h = refl
between_no false y z h = refl

pub between_yes : (x y z : Bool) → (x && y) ≡ true → (x && (y && z)) ≡ z
between_yes true true z h = refl
between_yes true false z h = absurd (cc h)
between_yes false y z h = absurd (cc h)
