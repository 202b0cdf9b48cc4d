-- Where the bytes of a vector lie. No public clause cites this module.
use Rattle.std.specs.Prelude.{◌≡◌, ℕ, ◌<◌, ◌≤◌, List, length, take, drop}
use Rattle.std.specs.List.{AllByRecursion}
use Rattle.vec_record.specs.declared.vector.Place.{Place}
use Rattle.vec_record.specs.declared.vector.Place.TheVariants.{Short, Long}

-- the bytes of a vector, of those in the value itself the first `len`
abbrev pub bytes_of : Place → List ℕ
bytes_of (Short len bytes) = take len bytes
bytes_of (Long v) = v.items

-- the length of a short one is within its place, with zeros behind it; a long one doesn't fit there
abbrev pub IsWithin : Place → Type 0
IsWithin (Short len bytes) = (len ≤ 30) × AllByRecursion (λ x. x ≡ 0) (drop len bytes)
IsWithin (Long v) = 30 < length v.items
