-- Writes of slots into pages of records.
use Rattle.std.proofs.Common.{◌≡◌, ℕ, zero, suc, ◌+◌, ◌-◌, ◌*◌, ◌<◌, ◌≤◌, List, [], ◌∷◌, ◌++◌, length, get_or, take, drop, set, replicate, Option, Some, None, refl, sym, ap, ◌∙◌, append_assoc, arith}
use Rattle.std.specs.List.{AllByRecursion, flat_map}
use Rattle.std.proofs.lemmas.List.{take_at, drop_at, take-append-drop, drop_more, set_split, length-append, length-replicate, length-take-le, replicate-append-replicate}
use Rattle.std.proofs.lemmas.List.Concat.{flat_map-append}
use Rattle.std.proofs.Math.Nat.{mul-le-mul_left}
use Rattle.std.proofs.lemmas.Nat.{div-add-mod'}
use Rattle.vec_record.specs.Limits.{width_of}
use Rattle.page_layout.specs.declared.slot.Slot.{Slot}
use Rattle.page_layout.specs.Fields.{word}
use Rattle.page_layout.specs.Heads.{Values}
use Rattle.page_layout.specs.Slots.{Rows, slots_in_page, slot_at, IsRow, AreRows, slot_bytes, record_page}
use Rattle.page_layout.proofs.Places.{put_more}

-- the slots of a page end within it
pub slots_fit : (width : ℕ) → slot_at width (slots_in_page width) ≤ 16384
slots_fit width = omega (arith, div-add-mod' 16368 (16 + width))

pub slot_fits : (width place : ℕ) → place < slots_in_page width → slot_at width place + (16 + width) ≤ 16384
slot_fits width place lt =
    let le : place + 1 ≤ slots_in_page width = omega (arith, lt) in
    omega (arith, mul-le-mul_left (16 + width) le, slots_fit width)

-- ---- free slots

free_bytes : (width n : ℕ) → flat_map (slot_bytes width) (replicate n None) ≡ replicate ((16 + width) * n) 0
free_bytes width zero = let none : 0 ≡ (16 + width) * 0 = omega arith in ap (λ (k : ℕ). replicate k 0) none
free_bytes width (suc n) =
    let front : List ℕ = replicate (16 + width) 0 in
    let more : 16 + width + (16 + width) * n ≡ (16 + width) * suc n = omega arith in
    ap (λ (l : List ℕ). front ++ l) (free_bytes width n) ∙ replicate-append-replicate (16 + width) ((16 + width) * n) 0 ∙ ap (λ (k : ℕ). replicate k 0) more

first_set_to : (n b : ℕ) (blank : List ℕ) → blank ≡ replicate (suc n) 0 → set blank 0 b ≡ b ∷ replicate n 0
first_set_to n b blank are = ap (λ (l : List ℕ). set l 0 b) are

abbrev zeros : ℕ → List ℕ
zeros n = replicate n 0

zeros_joined : (a b c n : ℕ) → a + (b + c) ≡ n → zeros a ++ (zeros b ++ zeros c) ≡ zeros n
zeros_joined a b c n is =
    let front : List ℕ = replicate a 0 in
    ap (λ (l : List ℕ). front ++ l) (replicate-append-replicate b c 0) ∙ replicate-append-replicate a (b + c) 0 ∙ ap (λ (k : ℕ). replicate k 0) is

pub free_page : (width : ℕ) (blank new : List ℕ) → blank ≡ replicate 16384 0 → new ≡ set blank 0 1 → new ≡ record_page width (replicate (slots_in_page width) None)
unfolding record_page
free_page width blank new are is =
    let n : ℕ = slots_in_page width in
    let m : ℕ = (16 + width) * n in
    let fits : 16 + m ≤ 16384 = slots_fit width in
    let sizes : 15 + (m + (16384 - (16 + m))) ≡ 16383 = omega (arith, fits) in
    let tail : List ℕ = zeros (16384 - (16 + m)) in
    let filled : zeros 15 ++ (flat_map (slot_bytes width) (replicate n None) ++ tail) ≡ zeros 16383 =
    ap (λ (l : List ℕ). zeros 15 ++ (l ++ tail)) (free_bytes width n) ∙ zeros_joined 15 m (16384 - (16 + m)) 16383 sizes in
    is ∙ first_set_to 16383 1 blank are ∙ ap (λ (l : List ℕ). 1 ∷ l) (sym filled)

-- ---- one slot

pub length-row : (v : Values) (row : Option Slot) → IsRow v row → length (slot_bytes (width_of v.metric v.dim) row) ≡ 16 + width_of v.metric v.dim
length-row v None is = length-replicate (16 + width_of v.metric v.dim) 0
length-row v (Some s) is = omega (arith, is.vector.len)

pub length-rows : (v : Values) (rows : Rows) → AllByRecursion (IsRow v) rows → length (flat_map (slot_bytes (width_of v.metric v.dim)) rows) ≡ (16 + width_of v.metric v.dim) * length rows
length-rows v [] each = omega arith
length-rows v (row ∷ rows) each =
    omega (arith, length-append (slot_bytes (width_of v.metric v.dim) row) (flat_map (slot_bytes (width_of v.metric v.dim)) rows), length-row v row each.0, length-rows v rows each.1)

pub each-take : (v : Values) (n : ℕ) (rows : Rows) → AllByRecursion (IsRow v) rows → AllByRecursion (IsRow v) (take n rows)
each-take v zero rows each = tt
each-take v (suc n) [] each = tt
each-take v (suc n) (row ∷ rows) each = (each.0, each-take v n rows each.1)

pub each-get : (v : Values) (k : ℕ) (rows : Rows) → AllByRecursion (IsRow v) rows → IsRow v (get_or rows k None)
each-get v k [] each = tt
each-get v zero (row ∷ rows) each = each.0
each-get v (suc k) (row ∷ rows) each = each-get v k rows each.1

-- what lies between two ends is replaced
replaced : (front mid back new : List ℕ) (at n : ℕ) → length front ≡ at → length mid ≡ n → take at (front ++ (mid ++ back)) ++ new ++ drop (at + n) (front ++ (mid ++ back)) ≡ front ++ (new ++ back)
replaced front mid back new at n at_is n_is =
    let both : length (front ++ mid) ≡ at + n = omega (arith, length-append front mid, at_is, n_is) in
    let after : drop (at + n) (front ++ (mid ++ back)) ≡ back = ap (drop (at + n)) (sym (append_assoc front mid back)) ∙ drop_at (front ++ mid) back (at + n) both in
    ap (λ (l : List ℕ). l ++ new ++ drop (at + n) (front ++ (mid ++ back))) (take_at front (mid ++ back) at at_is) ∙ ap (λ (l : List ℕ). front ++ new ++ l) after ∙ append_assoc front new back

page_parts : (width : ℕ) (before : Rows) (row : Option Slot) (after : Rows)
    → record_page width (before ++ row ∷ after)
    ≡ ((1 ∷ replicate 15 0) ++ flat_map (slot_bytes width) before) ++ (slot_bytes width row ++ (flat_map (slot_bytes width) after ++ replicate (16384 - slot_at width (slots_in_page width)) 0))
unfolding record_page
page_parts width before row after =
    let f = slot_bytes width in
    let tail : List ℕ = replicate (16384 - slot_at width (slots_in_page width)) 0 in
    ap (λ (l : List ℕ). (1 ∷ replicate 15 0) ++ (l ++ tail)) (flat_map-append f before (row ∷ after))
    ∙ ap (λ (l : List ℕ). (1 ∷ replicate 15 0) ++ l) (append_assoc (flat_map f before) (f row ++ flat_map f after) tail ∙ ap (λ (l : List ℕ). flat_map f before ++ l) (append_assoc (f row) (flat_map f after) tail))
    ∙ sym (append_assoc (1 ∷ replicate 15 0) (flat_map f before) (f row ++ (flat_map f after ++ tail)))

rows_split : (rows : Rows) (place : ℕ) → place < length rows → rows ≡ take place rows ++ get_or rows place None ∷ drop (place + 1) rows
rows_split rows place lt = sym (take-append-drop place rows) ∙ ap (λ (l : Rows). take place rows ++ l) (drop_more rows place None lt)

pub slot_written : (v : Values) (rows : Rows) (place : ℕ) (s : Slot) (old new : List ℕ) → AreRows v rows → place < slots_in_page (width_of v.metric v.dim) → old ≡ record_page (width_of v.metric v.dim) rows
    → new ≡ take (slot_at (width_of v.metric v.dim) place) old ++ slot_bytes (width_of v.metric v.dim) (Some s) ++ drop (slot_at (width_of v.metric v.dim) place + (16 + width_of v.metric v.dim)) old
    → new ≡ record_page (width_of v.metric v.dim) (set rows place (Some s))
slot_written v rows place s old new are lt old_is new_is =
    let width : ℕ = width_of v.metric v.dim in
    let at : ℕ = slot_at width place in
    let f = slot_bytes width in
    let within : place < length rows = omega (arith, are.count, lt) in
    let row : Option Slot = get_or rows place None in
    let front : List ℕ = (1 ∷ replicate 15 0) ++ flat_map f (take place rows) in
    let back : List ℕ = flat_map f (drop (place + 1) rows) ++ replicate (16384 - slot_at width (slots_in_page width)) 0 in
    let len : length front ≡ at = omega (arith, length-append (1 ∷ replicate 15 0) (flat_map f (take place rows)), length-rows v (take place rows) (each-take v place rows are.each), ap (λ (n : ℕ). (16 + width) * n) (length-take-le place rows (omega (arith, within)))) in
    let was : old ≡ front ++ (f row ++ back) = old_is ∙ ap (record_page width) (rows_split rows place within) ∙ page_parts width (take place rows) row (drop (place + 1) rows) in
    let one : suc place ≡ place + 1 = omega arith in
    let rows_are : set rows place (Some s) ≡ take place rows ++ Some s ∷ drop (place + 1) rows = set_split rows place (Some s) within ∙ ap (λ (k : ℕ). take place rows ++ Some s ∷ drop k rows) one in
    new_is ∙ ap (λ (l : List ℕ). take at l ++ f (Some s) ++ drop (at + (16 + width)) l) was
    ∙ replaced front (f row) back (f (Some s)) at (16 + width) len (length-row v row (each-get v place rows are.each))
    ∙ sym (ap (record_page width) rows_are ∙ page_parts width (take place rows) (Some s) (drop (place + 1) rows))

-- ---- the two writes of a slot

pub slot_put : (at : ℕ) (old mid new bytes : List ℕ) (s : Slot) → at ≤ length old → bytes ≡ s.vector
    → mid ≡ take at old ++ flat_map word (s.number ∷ s.count ∷ s.anchor ∷ s.label ∷ []) ++ drop (at + 16) old
    → new ≡ take (at + 16) mid ++ bytes ++ drop (at + 16 + length bytes) mid
    → new ≡ take at old ++ slot_bytes (length s.vector) (Some s) ++ drop (at + 16 + length s.vector) old
slot_put at old mid new bytes s le bytes_are mid_is new_is =
    let words : List ℕ = flat_map word (s.number ∷ s.count ∷ s.anchor ∷ s.label ∷ []) in
    new_is ∙ ap (λ (b : List ℕ). take (at + 16) mid ++ b ++ drop (at + 16 + length b) mid) bytes_are ∙ ap (λ (l : List ℕ). take (at + 16) l ++ s.vector ++ drop (at + 16 + length s.vector) l) mid_is
    ∙ put_more at (at + 16) (length s.vector) old words s.vector refl le

pub slot_put_written : (v : Values) (place n : ℕ) (s : Slot) (old new : List ℕ) → n ≡ width_of v.metric v.dim → place < slots_in_page (width_of v.metric v.dim) → length s.vector ≡ width_of v.metric v.dim
    → new ≡ take (16 + (16 + n) * place) old ++ slot_bytes (length s.vector) (Some s) ++ drop (16 + (16 + n) * place + 16 + length s.vector) old
    → (rows : Rows) → AreRows v rows → old ≡ record_page (width_of v.metric v.dim) rows → new ≡ record_page (width_of v.metric v.dim) (set rows place (Some s))
slot_put_written v place n s old new n_is lt len new_is rows are old_is =
    let width : ℕ = width_of v.metric v.dim in
    let at_is : 16 + (16 + n) * place ≡ slot_at width place = ap (λ (k : ℕ). 16 + (16 + k) * place) n_is in
    let end_is : 16 + (16 + n) * place + 16 + length s.vector ≡ slot_at width place + (16 + width) = omega (arith, at_is, len) in
    slot_written v rows place s old new are lt old_is
    (new_is ∙ ap (λ (k : ℕ). take k old ++ slot_bytes width (Some s) ++ drop (16 + (16 + n) * place + 16 + length s.vector) old) at_is ∙ ap (λ (k : ℕ). take (slot_at width place) old ++ slot_bytes width (Some s) ++ drop k old) end_is)
