-- The disk model: what a write does to the bytes of a file, and what a crash may make of them.
use Rattle.std.specs.Prelude.{◌≡◌, ◌⊎◌, ℕ, zero, suc, ◌+◌, ◌-◌, ◌<◌, ◌≤◌, max, List, [], ◌∷◌, ◌++◌, length, take, drop, replicate, get_or}
use Rattle.vec_record.specs.Vectors.{AreBytes}

-- where a range ends; an empty one reaches nowhere
abbrev pub end_of : ℕ → ℕ → ℕ
end_of at zero = 0
end_of at (suc n) = at + suc n

abbrev pub zeros : ℕ → List ℕ
zeros n = replicate n 0

-- the file with these bytes at this offset, zeros in the gap; an empty write changes nothing
abbrev pub put : ℕ → List ℕ → List ℕ → List ℕ
put at [] file = file
put at (b ∷ bytes) file = take at (file ++ zeros (at - length file)) ++ ((b ∷ bytes) ++ drop (at + length (b ∷ bytes)) file)

-- What a crash may make of one write of n bytes: any bytes in its range and past the old end, of which some may be
-- missing from the end, and all else as before.
pub record Torn (at n : ℕ) (old new : List ℕ) : Type 0 where
  pub bytes : AreBytes new
  pub no_shorter : length old ≤ length new
  pub no_longer : length new ≤ max (length old) (end_of at n)
  pub below : (i : ℕ) → i < length old → i < at → get_or new i 0 ≡ get_or old i 0
  pub above : (i : ℕ) → i < length old → at + n ≤ i → get_or new i 0 ≡ get_or old i 0

-- What a crash may leave. The ranges are pairs of an offset and a length: those written since the last sync that
-- succeeded, the newest first. The base is what that sync left.
abbrev pub IsImage : List ℕ → List (ℕ × ℕ) → List ℕ → Type 0
IsImage base [] c = c ≡ base
IsImage base (w ∷ ws) c = (d : List ℕ) × IsImage base ws d × Torn w.0 w.1 d c

-- place i lies in none of the ranges
abbrev pub Spares : List (ℕ × ℕ) → ℕ → Type 0
Spares [] i = Unit {0}
Spares (w ∷ ws) i = ((i < w.0) ⊎ (w.0 + w.1 ≤ i)) × Spares ws i

-- where the furthest write ends
abbrev pub furthest : List (ℕ × ℕ) → ℕ
furthest [] = 0
furthest (w ∷ ws) = max (end_of w.0 w.1) (furthest ws)

-- The same, byte by byte: each written range may hold any bytes, what lies past the old end may hold any bytes or be
-- missing from the end, and all other bytes stay.
pub record IsWithin (base : List ℕ) (ranges : List (ℕ × ℕ)) (image : List ℕ) : Type 0 where
  pub bytes : AreBytes image
  pub no_shorter : length base ≤ length image
  pub no_longer : length image ≤ max (length base) (furthest ranges)
  pub stays : (i : ℕ) → i < length base → Spares ranges i → get_or image i 0 ≡ get_or base i 0
