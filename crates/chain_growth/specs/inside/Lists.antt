-- Lists of numbers: what is in them, and how much of one is missing from another.
use Rattle.std.specs.Prelude.{◌≡◌, ℕ, Bool, false, not, List, [], ◌∷◌, ◌++◌, count_by, nat_eq, IsTrue, if◌then◌else◌}
use Rattle.std.specs.List.{list_any}

-- whether a number is in the list
abbrev pub is_in : List ℕ → ℕ → Bool
is_in xs x = list_any (λ y. nat_eq y x) xs

-- a number is in the list
abbrev pub In : List ℕ → ℕ → Type 0
In xs x = IsTrue (is_in xs x)

-- no number twice
abbrev pub Distinct : List ℕ → Type 0
Distinct [] = Unit {0}
Distinct (x ∷ xs) = (is_in xs x ≡ false) × Distinct xs

-- how many of these are not in the other list
abbrev pub missing : List ℕ → List ℕ → ℕ
missing wanted order = count_by (λ c. not (is_in order c)) wanted

-- the members of all groups
abbrev pub flat : List (List ℕ) → List ℕ
flat [] = []
flat (g ∷ gs) = g ++ flat gs

-- the list with x at its end, unless it has x
abbrev pub with_one : List ℕ → ℕ → List ℕ
with_one xs x = if is_in xs x then xs else xs ++ x ∷ []

-- the second list goes on from the first
pub record IsLonger (old new : List ℕ) : Type 0 where
  pub added : List ℕ
  pub is : new ≡ old ++ added
