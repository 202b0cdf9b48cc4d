-- What single steps leave in a file.
use Rattle.std.specs.Prelude.{◌≡◌, ◌⊎◌, ℕ, ◌+◌, ◌*◌, ◌<◌, ◌≤◌, List, [], ◌∷◌, length}
use Rattle.page_gate.specs.Gate.{part, number_4, number_8, items}
use Rattle.page_gate.specs.Writes.{Names}
use Rattle.page_gate.specs.Same.{IsOutside}

-- every place but this one
abbrev pub IsOther : ℕ → ℕ → Type 0
IsOther at i = IsOutside at 1 i

-- a number of 4 bytes, and one of 8
pub record IsWord (at number : ℕ) (c : List ℕ) : Type 0 where
  pub number_is : number_4 at c ≡ number
  pub room : at + 4 ≤ length c

pub record IsNumber (at number : ℕ) (c : List ℕ) : Type 0 where
  pub number_is : number_8 at c ≡ number
  pub room : at + 8 ≤ length c

-- a page or an image at an offset
pub record IsThere (at : ℕ) (image c : List ℕ) : Type 0 where
  pub image_is : part at 16384 c ≡ image
  pub room : at + 16384 ≤ length c

-- a redo item
pub record IsItem (at page : ℕ) (image c : List ℕ) : Type 0 where
  pub number_is : number_8 at c ≡ page
  pub image_is : part (at + 8) 16384 c ≡ image
  pub room : at + 16392 ≤ length c

-- redo items from an offset on
pub record HasItems (start count : ℕ) (redo : List (ℕ × List ℕ)) (c : List ℕ) : Type 0 where
  pub list : items start count c ≡ redo
  pub room : 0 < count → start + 16392 * count ≤ length c

-- the places before an offset
abbrev pub IsBefore : ℕ → ℕ → Type 0
IsBefore end i = i < end

-- the places outside of the pages that the items name
abbrev pub IsUnnamed : List (ℕ × List ℕ) → ℕ → Type 0
IsUnnamed redo i = (page : ℕ) → Names page redo → IsOutside (16384 * page) 16384 i

-- each image stands in its place
abbrev pub InPlace : List (ℕ × List ℕ) → List ℕ → Type 0
InPlace [] c = Unit {0}
InPlace (item ∷ rest) c = IsThere (16384 * item.0) item.1 c × InPlace rest c

-- the places of the old pages and of page 0, but for where the redo start and the redo count stand
abbrev pub IsSettled : ℕ → ℕ → Type 0
IsSettled start i = (i < 8) ⊎ ((20 ≤ i) × (i < start))

-- where the redo items start and how many they are
pub record HasFields (start count : ℕ) (c : List ℕ) : Type 0 where
  pub start_is : number_8 8 c ≡ start
  pub count_is : number_4 16 c ≡ count
  pub room : 20 ≤ length c

-- the redo items of a commit, ready to be taken in
pub record Staged (start : ℕ) (redo : List (ℕ × List ℕ)) (c : List ℕ) : Type 0 where
  pub start_is : number_8 8 c ≡ start
  pub count_is : number_4 16 c ≡ length redo
  pub list : items start (length redo) c ≡ redo
  pub room : start + 16392 * length redo ≤ length c
