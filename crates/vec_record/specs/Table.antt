-- What a block of vectors is: a width, and rows of that width.
use Rattle.std.specs.Prelude.{ℕ, List, [], ◌∷◌, ◌++◌, slice_index_or, refl}
use Rattle.std.specs.List.{AllByRecursion, insert, remove}
use Rattle.std.specs.Coded.{Coded, code_by, coded×, coded_ℕ, coded_list}
use Rattle.vec_record.specs.Vectors.{IsVector}

-- rows of one width, in their order
pub record Table : Type 0 where
  pub width : ℕ
  pub rows : List (List ℕ)

-- stored as a pair
abbrev pub table_code : Coded Table
table_code =
    code_by (ℕ × List (List ℕ)) (coded× coded_ℕ (coded_list (coded_list coded_ℕ))) (λ t. (t.width, t.rows)) (λ p. record { width = p.0; rows = p.1 }) (λ _. refl)

-- the row at a place, counted from 0
abbrev pub row_at : Table → ℕ → List ℕ
row_at t place = slice_index_or t.rows place []

-- each row is a list of bytes of the width
abbrev pub AreRows : Table → Type 0
AreRows t = AllByRecursion (IsVector t.width) t.rows

-- the table with a row more at its end
abbrev pub with_last : Table → List ℕ → Table
with_last t row = record { width = t.width; rows = t.rows ++ row ∷ [] }

-- the table with a row more at a place, before the rows from there on
abbrev pub with_row : Table → ℕ → List ℕ → Table
with_row t place row = record { width = t.width; rows = insert t.rows place row }

-- the table without the row at a place
abbrev pub without_row : Table → ℕ → Table
without_row t place = record { width = t.width; rows = remove t.rows place }
