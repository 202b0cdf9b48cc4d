-- What a count book is: `minpts`, and a map from numbers to counts and anchors.
use Rattle.std.specs.Prelude.{ℕ, ◌+◌, ◌-◌, ◌≤◌, cond, nat_lt, min, None, Some, refl, IsSomeAnd}
use Rattle.std.specs.declared.option.Option.{Option}
use Rattle.std.specs.Coded.{Coded, code_by, coded×, coded_ℕ, coded_option}
use Rattle.std.specs.Ordering.{nat_cmp}
use Rattle.std.specs.FinMap as map
use Rattle.count_book.specs.declared.row.Row.{Row}

-- Counts and anchors by their numbers.
abbrev pub Rows : Type 0
Rows = map.FinMap nat_cmp Row

-- A book: the count from which on a number is core, and the rows.
pub record Counted : Type 0 where
  pub minpts : ℕ
  pub rows : Rows

-- A row is stored as the pair of its fields.
abbrev pub row_code : Coded Row
row_code = code_by (ℕ × Option ℕ) (coded× coded_ℕ (coded_option coded_ℕ)) (λ r. (r.count, r.anchor)) (λ p. record { count = p.0; anchor = p.1 }) (λ _. refl)

-- A book is stored as the pair of its fields.
abbrev pub counted_code : Coded Counted
counted_code = code_by (ℕ × Rows) (coded× coded_ℕ (map.code coded_ℕ row_code)) (λ c. (c.minpts, c.rows)) (λ p. record { minpts = p.0; rows = p.1 }) (λ _. refl)

-- The row of a count and an anchor.
abbrev pub row_of : ℕ → Option ℕ → Row
row_of count anchor = record { count = count; anchor = anchor }

-- The anchor of a row, where there is a row that has one.
abbrev pub anchor_in : Option Row → Option ℕ
anchor_in None = None
anchor_in (Some r) = r.anchor

-- The number is in the book, and its count is at least `minpts`.
abbrev pub IsCore : Counted → ℕ → Type 0
IsCore book number = IsSomeAnd (map.get book.rows number) (λ r. book.minpts ≤ r.count)

-- The number is core in the second book and wasn't in the first.
abbrev pub BecameCore : Counted → Counted → ℕ → Type 0
BecameCore old new number = (IsCore old number → ⊥) × IsCore new number

-- The number was core in the first book and isn't in the second.
abbrev pub CeasedToBeCore : Counted → Counted → ℕ → Type 0
CeasedToBeCore old new number = IsCore old number × (IsCore new number → ⊥)

-- The book with this row under a number.
abbrev pub entered : Counted → ℕ → Row → Counted
entered book number row = record book { rows = map.insert book.rows number row }

-- The book without a number.
abbrev pub left : Counted → ℕ → Counted
left book number = record book { rows = map.remove book.rows number }

-- The rows with what f makes of this row under its number, where there is a row.
abbrev pub put_back : (Row → Row) → Rows → ℕ → Option Row → Rows
put_back f rows number None = rows
put_back f rows number (Some r) = map.insert rows number (f r)

-- The rows with the row of a number changed by f, where it is there.
abbrev pub changed : (Row → Row) → Rows → ℕ → Rows
changed f rows number = put_back f rows number (map.get rows number)

-- The book with the row of a number changed by f, where it is there.
abbrev pub updated : (Row → Row) → Counted → ℕ → Counted
updated f book number = record book { rows = changed f book.rows number }

-- The row with one more counted, up to the greatest number of 32 bits.
abbrev pub one_more : Row → Row
one_more r = record r { count = min (r.count + 1) 4294967295 }

-- The row with one less counted, down to 0.
abbrev pub one_less : Row → Row
one_less r = record r { count = r.count - 1 }

-- The row with this anchor.
abbrev pub anchored : Option ℕ → Row → Row
anchored anchor r = record r { anchor = anchor }

-- The lesser of an anchor, if there is one, and a core.
abbrev pub lesser : Option ℕ → ℕ → ℕ
lesser None core = core
lesser (Some old) core = min old core

-- The row of a number that isn't core with the lesser of its anchor and this core as its anchor.
abbrev pub offered : ℕ → ℕ → Row → Row
offered minpts core r = record r { anchor = cond (nat_lt r.count minpts) (Some (lesser r.anchor core)) r.anchor }
