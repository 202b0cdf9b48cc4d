-- What records are: a width, and a map from numbers to lists of bytes.
use Rattle.std.specs.Prelude.{◌≡◌, ◌≢◌, ℕ, List, None, Some, refl}
use Rattle.std.specs.List.{AllByRecursion}
use Rattle.std.specs.Coded.{Coded, code_by, coded×, coded_ℕ, coded_list}
use Rattle.std.specs.Ordering.{nat_cmp}
use Rattle.std.specs.FinMap as map
use Rattle.vec_record.specs.Vectors.{IsVector}

-- vectors by their numbers
abbrev pub Rows : Type 0
Rows = map.FinMap nat_cmp (List ℕ)

-- the width, and the vectors by their numbers
pub record Held : Type 0 where
  pub width : ℕ
  pub vectors : Rows

-- stored as a pair
abbrev pub held_code : Coded Held
held_code =
    code_by (ℕ × Rows) (coded× coded_ℕ (map.code coded_ℕ (coded_list coded_ℕ))) (λ h. (h.width, h.vectors)) (λ p. record { width = p.0; vectors = p.1 }) (λ _. refl)

-- a number, which is never 0, and a vector of the width
pub record IsRecord (width : ℕ) (e : ℕ × List ℕ) : Type 0 where
  pub number : e.0 ≢ 0
  pub vector : IsVector width e.1

-- each entry is a record of the width
abbrev pub AreAll : ℕ → List (ℕ × List ℕ) → Type 0
AreAll width es = AllByRecursion (IsRecord width) es

-- each vector has the width
abbrev pub HaveWidth : ℕ → Rows → Type 0
HaveWidth width rows = (number : ℕ) (v : List ℕ) → map.get rows number ≡ Some v → IsVector width v

-- no vector has the number 0
abbrev pub NoneAtZero : Rows → Type 0
NoneAtZero rows = map.get rows 0 ≡ None
