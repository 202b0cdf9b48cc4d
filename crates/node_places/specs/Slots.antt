-- Numbers by slot, in which 0 stands for a free slot, and what a save makes of those of records.
use Rattle.std.specs.Prelude.{◌≡◌, ℕ, ◌-◌, ◌%◌, ◌==◌, Bool, false, not, ◌⊎◌, if◌then◌else◌, List, [], ◌∷◌, ◌++◌, length, map, filter, replicate}
use Rattle.std.specs.List.{list_any}
use Rattle.std.specs.FinMap as maps
use Rattle.vec_record.specs.Held as held

-- whether a number stands in a list
abbrev pub has : List ℕ → ℕ → Bool
has numbers n = list_any (λ m. m == n) numbers

-- the numbers that don't stand in the slots
abbrev pub absent : List ℕ → List ℕ → List ℕ
absent slots numbers = filter (λ n. not (has slots n)) numbers

-- numbers take the free slots in order, and the rest of them come behind the last slot
abbrev pub filled : List ℕ → List ℕ → List ℕ
filled [] new = new
filled (n ∷ slots) [] = n ∷ slots
filled (n ∷ slots) (m ∷ new) =
    if n == 0 then m ∷ filled slots new else n ∷ filled slots (m ∷ new)

-- so many free slots behind the last as fill its page
abbrev pub padded : ℕ → List ℕ → List ℕ
padded size numbers = numbers ++ replicate ((size - length numbers % size) % size) 0

-- the slots of numbers that are no longer there become free
abbrev pub freed : held.Rows → List ℕ → List ℕ
freed vectors numbers = map (λ n. if maps.contains_key vectors n then n else 0) numbers

-- the numbers without a slot, rising
abbrev pub slotless : held.Rows → List ℕ → List ℕ
slotless vectors numbers = absent numbers (maps.keys vectors)

-- the numbers by record slot after a save: what is gone frees its slot, and new numbers, rising,
-- take the lowest free ones
abbrev pub record_slots : ℕ → held.Rows → List ℕ → List ℕ
record_slots size vectors numbers =
    padded size (filled (freed vectors numbers) (slotless vectors numbers))

-- no number but 0 stands twice
abbrev pub AreApart : List ℕ → Type 0
AreApart [] = Unit {0}
AreApart (n ∷ numbers) = ((n ≡ 0) ⊎ (has numbers n ≡ false)) × AreApart numbers
