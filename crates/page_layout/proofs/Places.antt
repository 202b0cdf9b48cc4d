-- Parts of a page, the numbers in them, and what writes leave.
use Rattle.std.proofs.Common.{◌≡◌, ℕ, zero, suc, ◌+◌, ◌-◌, ◌*◌, ◌^◌, ◌<◌, ◌≤◌, true, false, eqb, List, [], ◌∷◌, ◌++◌, length, get_or, take, drop, replicate, Option, Some, None, Ok, Err, refl, sym, ap, ◌∙◌, append_assoc, arith}
use Rattle.std.specs.Int.{w32, from_le_bytes}
use Rattle.std.specs.List.{flat_map}
use Rattle.std.proofs.lemmas.Bool.{eqb-true, eq-eqb}
use Rattle.std.proofs.lemmas.List.{take_at, drop_at, take-append-drop, drop-drop, drop_more, take_more, get_or-drop, length-append, length-take-le, length-drop}
use Rattle.std.proofs.lemmas.List.Concat.{flat_map-append}
use Rattle.std.proofs.lemmas.Nat.{le_bytes_4, from_le_bytes-to_le_bytes_4}
use Rattle.vec_record.specs.Vectors.{AreBytes}
use Rattle.page_gate.specs.Gate.{part, number_4}
use Rattle.page_layout.specs.declared.fault.LayoutFault.TheVariants.{Damaged}
use Rattle.page_layout.specs.Fields.{Field, unless_bad, word, zero_fields, first_bad}

-- one write behind another
pub put_more : (at here n : ℕ) (old done bytes : List ℕ) → here ≡ at + length done → at ≤ length old
    → take here (take at old ++ done ++ drop here old) ++ bytes ++ drop (here + n) (take at old ++ done ++ drop here old) ≡ take at old ++ (done ++ bytes) ++ drop (here + n) old
put_more at here n old done bytes is le =
    let front : length (take at old ++ done) ≡ here = omega (arith, length-append (take at old) done, length-take-le at old le, is) in
    let before : take here (take at old ++ done ++ drop here old) ≡ take at old ++ done = take_at (take at old ++ done) (drop here old) here front in
    let behind : drop here (take at old ++ done ++ drop here old) ≡ drop here old = drop_at (take at old ++ done) (drop here old) here front in
    let after : drop (here + n) (take at old ++ done ++ drop here old) ≡ drop (here + n) old = sym (drop-drop n here _) ∙ ap (λ (l : List ℕ). drop n l) behind ∙ drop-drop n here old in
    ap (λ (l : List ℕ). l ++ bytes ++ drop (here + n) (take at old ++ done ++ drop here old)) before ∙ ap (λ (l : List ℕ). take at old ++ done ++ bytes ++ l) after
    ∙ ap (λ (l : List ℕ). l ++ drop (here + n) old) (append_assoc (take at old) done bytes)

pub length-words : (words : List ℕ) → length (flat_map word words) ≡ 4 * length words
length-words [] = refl
length-words (w ∷ words) = omega (arith, length-words words)

pub words_more : (words : List ℕ) (k d : ℕ) → k < length words → flat_map word (take (k + 1) words) ≡ flat_map word (take k words) ++ word (get_or words k d)
words_more words k d lt = ap (flat_map word) (take_more words k d lt) ∙ flat_map-append word (take k words) (get_or words k d ∷ [])

pub words_put : (at k : ℕ) (old words bytes out new : List ℕ) → at ≤ length old → k < length words → bytes ≡ word (get_or words k 0)
    → out ≡ take at old ++ flat_map word (take k words) ++ drop (at + 4 * k) old → new ≡ take (at + 4 * k) out ++ bytes ++ drop (at + 4 * k + length bytes) out
    → new ≡ take at old ++ flat_map word (take (k + 1) words) ++ drop (at + 4 * (k + 1)) old
words_put at k old words bytes out new le lt bytes_are out_is new_is =
    let done : List ℕ = flat_map word (take k words) in
    let len : at + 4 * k ≡ at + length done = omega (arith, length-words (take k words), length-take-le k words (omega arith)) in
    let whole : List ℕ → List ℕ → List ℕ = λ l b. take (at + 4 * k) l ++ b ++ drop (at + 4 * k + length b) l in
    let next : at + 4 * k + 4 ≡ at + 4 * (k + 1) = omega arith in
    new_is ∙ ap (λ (l : List ℕ). whole l bytes) out_is ∙ ap (λ (b : List ℕ). whole (take at old ++ done ++ drop (at + 4 * k) old) b) bytes_are
    ∙ put_more at (at + 4 * k) 4 old done (word (get_or words k 0)) len le
    ∙ ap (λ (l : List ℕ). take at old ++ l ++ drop (at + 4 * k + 4) old) (sym (words_more words k 0 lt))
    ∙ ap (λ (n : ℕ). take at old ++ flat_map word (take (k + 1) words) ++ drop n old) next

-- ---- bytes and numbers

pub bytes_by_index : (bytes : List ℕ) → ((i : ℕ) → get_or bytes i 0 < 256) → AreBytes bytes
bytes_by_index [] are = tt
bytes_by_index (b ∷ bytes) are = (are 0, bytes_by_index bytes (λ i. are (suc i)))

pub byte_at : (bytes : List ℕ) → AreBytes bytes → (i : ℕ) → get_or bytes i 0 < 256
byte_at [] are i = omega arith
byte_at (b ∷ bytes) are zero = are.0
byte_at (b ∷ bytes) are (suc i) = byte_at bytes are.1 i

bytes-drop : (n : ℕ) (bytes : List ℕ) → AreBytes bytes → AreBytes (drop n bytes)
bytes-drop zero bytes are = are
bytes-drop (suc n) [] are = tt
bytes-drop (suc n) (b ∷ bytes) are = bytes-drop n bytes are.1

bytes-take : (n : ℕ) (bytes : List ℕ) → AreBytes bytes → AreBytes (take n bytes)
bytes-take zero bytes are = tt
bytes-take (suc n) [] are = tt
bytes-take (suc n) (b ∷ bytes) are = (are.0, bytes-take n bytes are.1)

pub bytes-part : (at n : ℕ) (page : List ℕ) → AreBytes page → AreBytes (part at n page)
unfolding part
bytes-part at n page are = bytes-take n (drop at page) (bytes-drop at page are)

pub length-part : (at n : ℕ) (page : List ℕ) → at + n ≤ length page → length (part at n page) ≡ n
unfolding part
length-part at n page le = length-take-le n (drop at page) (omega (arith, length-drop at page))

-- a page from a place on is a part and what is behind it
pub part_then : (at n : ℕ) (page : List ℕ) → drop at page ≡ part at n page ++ drop (at + n) page
unfolding part
part_then at n page = sym (take-append-drop n (drop at page)) ∙ ap (λ (l : List ℕ). take n (drop at page) ++ l) (drop-drop n at page)

-- what stands at a place, and behind it
pub part_is : (at n : ℕ) (page front rest : List ℕ) → drop at page ≡ front ++ rest → length front ≡ n → part at n page ≡ front
unfolding part
part_is at n page front rest is len = ap (take n) is ∙ take_at front rest n len

pub behind : (at n : ℕ) (page front rest : List ℕ) → drop at page ≡ front ++ rest → length front ≡ n → drop (at + n) page ≡ rest
behind at n page front rest is len = sym (drop-drop n at page) ∙ ap (drop n) is ∙ drop_at front rest n len

pub number_small : (at : ℕ) (page : List ℕ) → AreBytes page → number_4 at page < 2 ^ 32
unfolding number_4
number_small at page are =
    let bytes = byte_at (part at 4 page) (bytes-part at 4 page are) in
    omega (arith, bytes 0, bytes 1, bytes 2, bytes 3)

pub word_of : (at : ℕ) (page : List ℕ) → AreBytes page → at + 4 ≤ length page → part at 4 page ≡ word (number_4 at page)
unfolding number_4
word_of at page are le = sym (le_bytes_4 (part at 4 page) _ (length-part at 4 page le) (byte_at (part at 4 page) (bytes-part at 4 page are)) refl)

-- a number that stands there
pub word_then : (at : ℕ) (page : List ℕ) → AreBytes page → at + 4 ≤ length page → drop at page ≡ word (number_4 at page) ++ drop (at + 4) page
word_then at page are le = part_then at 4 page ∙ ap (λ (l : List ℕ). l ++ drop (at + 4) page) (word_of at page are le)

pub number_is : (at n : ℕ) (page rest : List ℕ) → n < 2 ^ 32 → drop at page ≡ word n ++ rest → number_4 at page ≡ n
unfolding number_4
number_is at n page rest small is = ap (from_le_bytes w32) (part_is at 4 page (word n) rest is refl) ∙ from_le_bytes-to_le_bytes_4 n small

-- ---- zeros

-- the first field is lawful where all are
pub first_lawful : (field : Field) (fields : List Field) → first_bad (field ∷ fields) ≡ None → (field.1 ≡ true) × (first_bad fields ≡ None)
first_lawful (offset, true) fields lawful = (refl, lawful)
first_lawful (offset, false) fields lawful = absurd cc

pub then_lawful : (field : Field) (fields : List Field) → field.1 ≡ true → first_bad (field ∷ fields) ≡ first_bad fields
then_lawful (offset, true) fields lawful = refl
then_lawful (offset, false) fields lawful = absurd cc

pub then_bad : (field : Field) (fields : List Field) → field.1 ≡ false → first_bad (field ∷ fields) ≡ Some field.0
then_bad (offset, false) fields bad = refl
then_bad (offset, true) fields bad = absurd cc

-- fields that end with others
pub append_lawful : (front back : List Field) → first_bad front ≡ None → first_bad (front ++ back) ≡ first_bad back
append_lawful [] back lawful = refl
append_lawful (field ∷ front) back lawful =
    let both = first_lawful field front lawful in
    then_lawful field (front ++ back) both.0 ∙ append_lawful front back both.1

pub append_bad : (front back : List Field) (offset : ℕ) → first_bad front ≡ Some offset → first_bad (front ++ back) ≡ Some offset
append_bad [] back offset bad = absurd cc
append_bad ((at, true) ∷ front) back offset bad = append_bad front back offset bad
append_bad ((at, false) ∷ front) back offset bad = bad

-- ---- zeros

pub zeros_more : (i end : ℕ) (page : List ℕ) → i < end → get_or page i 0 ≡ 0 → first_bad (zero_fields i (end - i) page) ≡ first_bad (zero_fields (i + 1) (end - (i + 1)) page)
zeros_more i end page lt zero_is =
    let one : end - i ≡ suc (end - (i + 1)) = omega arith in
    ap (λ (n : ℕ). first_bad (zero_fields i n page)) one ∙ then_lawful (i, eqb (get_or page i 0) 0) (zero_fields (i + 1) (end - (i + 1)) page) (eq-eqb (get_or page i 0) 0 zero_is)

pub zeros_then : (n at : ℕ) (page : List ℕ) → at + n ≤ length page → first_bad (zero_fields at n page) ≡ None → drop at page ≡ replicate n 0 ++ drop (at + n) page
zeros_then zero at page le lawful = let none : at ≡ at + 0 = omega arith in ap (λ (k : ℕ). drop k page) none
zeros_then (suc n) at page le lawful =
    let both = first_lawful (at, eqb (get_or page at 0) 0) (zero_fields (at + 1) n page) lawful in
    let on : at + 1 + n ≡ at + suc n = omega arith in
    let more : drop (at + 1) page ≡ replicate n 0 ++ drop (at + suc n) page = zeros_then n (at + 1) page (omega arith) both.1 ∙ ap (λ (k : ℕ). replicate n 0 ++ drop k page) on in
    drop_more page at 0 (omega arith) ∙ ap (λ (b : ℕ). b ∷ drop (at + 1) page) (eqb-true (get_or page at 0) 0 both.0) ∙ ap (λ (l : List ℕ). 0 ∷ l) more

pub zeros_are : (n at : ℕ) (page rest : List ℕ) → drop at page ≡ replicate n 0 ++ rest → first_bad (zero_fields at n page) ≡ None
zeros_are zero at page rest is = refl
zeros_are (suc n) at page rest is =
    let here : get_or page at 0 ≡ 0 = ap (λ (k : ℕ). get_or page k 0) (let none : at ≡ at + 0 = omega arith in none) ∙ sym (get_or-drop at page 0 0) ∙ ap (λ (l : List ℕ). get_or l 0 0) is in
    let more : drop (at + 1) page ≡ replicate n 0 ++ rest = sym (drop-drop 1 at page) ∙ ap (drop 1) is in
    then_lawful (at, eqb (get_or page at 0) 0) (zero_fields (at + 1) n page) (eq-eqb (get_or page at 0) 0 here) ∙ zeros_are n (at + 1) page rest more

-- ---- what is read where all fields are lawful

pub said_bad : {A : Type 0} (bad : Option ℕ) (value : A) (offset : ℕ) → unless_bad bad value ≡ Err (Damaged offset) → bad ≡ Some offset
said_bad None value offset is = absurd cc
said_bad (Some at) value offset is = cc

pub said_ok : {A : Type 0} (bad : Option ℕ) (value given : A) → unless_bad bad value ≡ Ok given → (bad ≡ None) × (value ≡ given)
said_ok None value given is = (refl, cc)
said_ok (Some at) value given is = absurd cc
