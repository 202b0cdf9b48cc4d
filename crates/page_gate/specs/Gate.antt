-- What a file of pages says: the gate page, the page list, and the checks of an opening, each a function of the
-- content alone, a list of bytes.
use Rattle.std.specs.Prelude.{ℕ, zero, suc, ◌+◌, ◌*◌, ◌-◌, ◌/◌, ◌%◌, ◌==◌, Bool, true, false, ◌&&◌, ◌||◌, not, cond, ltb, leb, Option, Some, None, List, [], ◌∷◌, length, take, drop, map, get_or}
use Rattle.std.specs.Int.{w32, w64, from_le_bytes}
use Rattle.std.specs.Cmp.Lexicographic.{pointwise}
use Rattle.std.specs.List.{position, range_with_len}
use Rattle.std.specs.Prelude.{nat_eq}
use Rattle.page_gate.specs.declared.fault.OpenFault.{OpenFault}
use Rattle.page_gate.specs.declared.fault.OpenFault.TheVariants.{Blank, Foreign, Damaged}
use Rattle.page_gate.specs.declared.gate.Gate.{Gate}
use Rattle.page_gate.specs.declared.gate.Gate.TheVariants.{Bad, Closed, Open}

-- n bytes from the offset on
unfoldable pub part : ℕ → ℕ → List ℕ → List ℕ
part at n c = take n (drop at c)

-- the number in 4 and in 8 bytes from the offset on, the least byte first
unfoldable pub number_4 : ℕ → List ℕ → ℕ
number_4 at c = from_le_bytes w32 (part at 4 c)

unfoldable pub number_8 : ℕ → List ℕ → ℕ
number_8 at c = from_le_bytes w64 (part at 8 c)

-- the six letters `denswh`
abbrev pub letters : List ℕ
letters = 100 ∷ 101 ∷ 110 ∷ 115 ∷ 119 ∷ 104 ∷ []

-- no store has begun here: a file of at most one byte, or one no longer than a new store whose birth gate is closed
abbrev pub blank_by : ℕ → ℕ → Bool
blank_by len gate = leb len 1 || (leb len 32768 && not (gate == 1))

unfoldable pub is_blank : List ℕ → Bool
is_blank c = blank_by (length c) (get_or c 0 0)

-- an open birth gate and the letters
unfoldable pub is_signed : List ℕ → Bool
is_signed first = (get_or first 0 0 == 1) && pointwise nat_eq (part 2 6 first) letters

-- the place of the first byte that isn't zero, behind the fields of the gate page
unfoldable pub first_set : List ℕ → Option ℕ
first_set first = position (λ b. not (b == 0)) (part 20 16364 first)

-- the redo gate, where the redo items start, and how many they are
unfoldable pub is_open : List ℕ → Bool
is_open first = get_or first 1 0 == 1

unfoldable pub redo_start : List ℕ → ℕ
redo_start first = number_8 8 first

unfoldable pub redo_count : List ℕ → ℕ
redo_count first = number_4 16 first

-- the items start at a page behind page 1, are some, and end within the file
unfoldable pub fits : ℕ → ℕ → ℕ → Bool
fits len start count = ((start % 16384 == 0) && leb 32768 start) && (leb 1 count && leb (start + 16392 * count) len)

-- What the gate page of a file of this length says: the refusal of the first check that fails, a closed redo gate, or
-- an open one with the start and the count of the redo items.
abbrev pub redo_gate : Bool → Bool → ℕ → ℕ → Gate
redo_gate false good start count = Closed
redo_gate true true start count = Open start count
redo_gate true false start count = Bad (Damaged 0 8)

abbrev pub behind_zeros : Option ℕ → Gate → Gate
behind_zeros None gate = gate
behind_zeros (Some i) gate = Bad (Damaged 0 (20 + i))

abbrev pub signed_gate : Bool → Gate → Gate
signed_gate true gate = gate
signed_gate false gate = Bad Foreign

abbrev pub begun_gate : Bool → Gate → Gate
begun_gate true gate = Bad Blank
begun_gate false gate = gate

unfoldable pub gate_of : ℕ → List ℕ → Gate
gate_of len first =
    begun_gate (blank_by len (get_or first 0 0)) (signed_gate (leb 32768 len && is_signed first) (behind_zeros (first_set first)
    (redo_gate (is_open first) (fits len (redo_start first) (redo_count first)) (redo_start first) (redo_count first))))

-- the redo items from an offset on, each the number of a page and its image
unfoldable pub items : ℕ → ℕ → List ℕ → List (ℕ × List ℕ)
items at zero c = []
items at (suc n) c = (number_8 at c, part (at + 8) 16384 c) ∷ items (at + 16392) n c

-- the numbers rise above the first bound and stay below the second
abbrev pub rises : ℕ → ℕ → List (ℕ × List ℕ) → Bool
rises low limit [] = true
rises low limit (item ∷ rest) = ltb low item.0 && (ltb item.0 limit && rises item.0 limit rest)

-- the image that one of the items gives to a page, or else what stands in its place
abbrev pub image_of : ℕ → List (ℕ × List ℕ) → List ℕ → List ℕ
image_of page [] place = place
image_of page (item ∷ rest) place = cond (item.0 == page) item.1 (image_of page rest place)

-- a page, with the images of the items in place of the pages that they name
unfoldable pub page_of : List (ℕ × List ℕ) → List ℕ → ℕ → List ℕ
page_of redo c page = image_of page redo (part (16384 * page) 16384 c)

-- the number of pages with page 0, as page 1 has it
unfoldable pub count_of : List ℕ → ℕ
count_of first = number_4 0 first

-- the pages from page 1 on
unfoldable pub list_of : List (ℕ × List ℕ) → List ℕ → List (List ℕ)
list_of redo c = map (page_of redo c) (range_with_len 1 (count_of (page_of redo c 1) - 1))

-- what the opening of a file comes to: a refusal, or the list of its pages
pub data Opening : Type 0 where
  Refuses : OpenFault → Opening
  Opens : List (List ℕ) → Opening

-- page 1 counts itself at least, and no page past the end of the file
unfoldable pub counts : ℕ → ℕ → Bool
counts len pages = leb 2 pages && leb (16384 * pages) len

abbrev pub listed_by : Bool → List (List ℕ) → Opening
listed_by true pages = Opens pages
listed_by false pages = Refuses (Damaged 1 0)

unfoldable pub listed : List (ℕ × List ℕ) → List ℕ → Opening
listed redo c = listed_by (counts (length c) (count_of (page_of redo c 1))) (list_of redo c)

-- the items name pages behind page 0 and before themselves, each once and in order
abbrev pub taken_by : Bool → Opening → Opening
taken_by true opening = opening
taken_by false opening = Refuses (Damaged 0 16)

unfoldable pub through : Gate → List ℕ → Opening
through (Bad refusal) c = Refuses refusal
through Closed c = listed [] c
through (Open start count) c = taken_by (rises 0 (start / 16384) (items start count c)) (listed (items start count c) c)

unfoldable pub opening : List ℕ → Opening
opening c = through (gate_of (length c) c) c
