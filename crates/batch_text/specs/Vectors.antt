-- What the fields of a vector spell, and the bytes of that vector.
use Rattle.std.specs.Prelude.{ℕ, ◌+◌, ◌-◌, ◌*◌, ◌/◌, ◌^◌, ◌==◌, Bool, ◌&&◌, ◌||◌, nat_le, if◌then◌else◌, List, [], ◌∷◌, ◌++◌, length, get_or, map, sum_by, Option, Some, None}
use Rattle.std.specs.List.{list_all, range_with_len}
use Rattle.vec_record.specs.declared.kind.MetricKind.{MetricKind}
use Rattle.vec_record.specs.declared.kind.MetricKind.TheVariants.{L1, Max, Hamming}
use Rattle.batch_text.specs.Numbers.{number_of, within}

-- whether a character is 0 or 1
abbrev pub is_bit : ℕ → Bool
is_bit c = (c == 48) || (c == 49)

-- one or more characters 0 or 1
abbrev pub bits_in : List ℕ → Option (List ℕ)
bits_in f = if nat_le 1 (length f) && list_all is_bit f then Some f else None

-- the list of one number, if there is one
abbrev pub alone : Option ℕ → Option (List ℕ)
alone None = None
alone (Some n) = Some (n ∷ [])

-- what one field spells: a coordinate from 0 to 255, or characters 0 and 1
abbrev pub spelled_by : MetricKind → List ℕ → Option (List ℕ)
spelled_by L1 f = alone (within 0 255 (number_of f))
spelled_by Max f = alone (within 0 255 (number_of f))
spelled_by Hamming f = bits_in f

-- both lists, one after the other, if both are there
abbrev pub joined : Option (List ℕ) → Option (List ℕ) → Option (List ℕ)
joined None b = None
joined (Some a) None = None
joined (Some a) (Some b) = Some (a ++ b)

-- what all fields spell, joined: the coordinates, or the characters of the bits
abbrev pub spelled : MetricKind → List (List ℕ) → Option (List ℕ)
spelled metric [] = Some []
spelled metric (f ∷ fs) = joined (spelled_by metric f) (spelled metric fs)

-- bit j of a text of characters 0 and 1, which is 0 past its end
abbrev pub text_bit : List ℕ → ℕ → ℕ
text_bit text j = if get_or text j 48 == 49 then 1 else 0

-- byte i has the bits from 8 i on, the first of them at the value 128 and the last at 1
abbrev pub packed_byte : List ℕ → ℕ → ℕ
packed_byte text i =
    sum_by (λ j. text_bit text (8 * i + j) * 2 ^ (7 - j)) (0 ∷ 1 ∷ 2 ∷ 3 ∷ 4 ∷ 5 ∷ 6 ∷ 7 ∷ [])

-- the bits of a text in bytes, eight in each
abbrev pub packed : List ℕ → List ℕ
packed text = map (packed_byte text) (range_with_len 0 ((length text + 7) / 8))

-- the bytes of the vector that was spelled
abbrev pub bytes_of : MetricKind → List ℕ → List ℕ
bytes_of L1 parts = parts
bytes_of Max parts = parts
bytes_of Hamming parts = packed parts
