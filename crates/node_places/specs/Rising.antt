-- Lists of numbers that rise.
use Rattle.std.specs.Prelude.{ℕ, ◌<◌, List, length, get_or}

-- each number is above those in front of it
abbrev pub IsRising : List ℕ → Type 0
IsRising numbers = (i j : ℕ) → i < j → j < length numbers
    → get_or numbers i 0 < get_or numbers j 0
