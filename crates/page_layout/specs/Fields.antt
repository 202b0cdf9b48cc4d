-- Pages as lists of fields by rising offset, and the first field that is not lawful.
use Rattle.std.specs.Prelude.{◌≡◌, ℕ, ◌==◌, Bool, if◌then◌else◌, List, [], ◌∷◌, map, get_or, Option, Some, None, Result, Ok, Err}
use Rattle.std.specs.Int.{w32, to_le_bytes}
use Rattle.std.specs.List.{range_with_len}
use Rattle.page_layout.specs.declared.fault.LayoutFault.{LayoutFault}
use Rattle.page_layout.specs.declared.fault.LayoutFault.TheVariants.{Foreign, Damaged, Memory}

-- a number as it stands in a page: 4 bytes, the least first
abbrev pub word : ℕ → List ℕ
word n = to_le_bytes w32 n

-- a field of a page: its offset, and whether what stands there is lawful
abbrev pub Field : Type 0
Field = ℕ × Bool

-- the offset of the first field that is not lawful
abbrev pub first_bad : List Field → Option ℕ
first_bad [] = None
first_bad (f ∷ fs) = if f.1 then first_bad fs else Some f.0

-- n bytes from an offset on that must be zero, each a field of its own
abbrev pub zero_fields : ℕ → ℕ → List ℕ → List Field
zero_fields at n page = map (λ i. (i, get_or page i 0 == 0)) (range_with_len at n)

-- what is read where all fields are lawful, or else that the page is damaged at the first that isn't
abbrev pub unless_bad : {A : Type 0} → Option ℕ → A → Result A LayoutFault
unless_bad None value = Ok value
unless_bad (Some offset) value = Err (Damaged offset)

-- a fault that may be answered in place of what a definition says: want of memory, which is free, or damage exactly where
-- the definition has it; never foreign
abbrev pub IsWhy : {A : Type 0} → Result A LayoutFault → LayoutFault → Type 0
IsWhy said Memory = Unit {0}
IsWhy said Foreign = ⊥
IsWhy said (Damaged offset) = said ≡ Err (Damaged offset)
