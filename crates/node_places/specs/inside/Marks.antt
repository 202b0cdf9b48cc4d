-- Numbers that are marked in a list beside them.
use Rattle.std.specs.Prelude.{ℕ, Bool, if◌then◌else◌, List, [], ◌∷◌}

-- those of the numbers that aren't marked
abbrev pub unmarked : List Bool → List ℕ → List ℕ
unmarked [] numbers = []
unmarked (m ∷ marks) [] = []
unmarked (m ∷ marks) (n ∷ numbers) =
    if m then unmarked marks numbers else n ∷ unmarked marks numbers
