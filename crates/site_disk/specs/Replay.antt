-- A site in memory: what it held at first and its list of calls give all that it tells.
use Rattle.std.specs.Prelude.{◌≡◌, ◌⊎◌, ℕ, ◌%◌, ◌≤◌, List, [], ◌∷◌, ◌++◌, length, take, map}
use Rattle.site_disk.specs.declared.mem_site.Call.{Call}
use Rattle.site_disk.specs.declared.mem_site.Call.TheVariants.{Write, Say, Sync}
use Rattle.site_disk.specs.Disk.{put, IsImage}
use Rattle.site_disk.specs.State.{SiteState}
use Rattle.site_disk.specs.Calls.{IsTorn}

-- The list as bytes. A list of bytes is itself; a law of sites speaks of every list of numbers.
abbrev pub as_bytes : List ℕ → List ℕ
as_bytes l = map (λ x. x % 256) l

-- what the last sync left, the ranges written since then with the newest first, the content, and the bytes said
pub record Replayed : Type 0 where
  pub base : List ℕ
  pub ranges : List (ℕ × ℕ)
  pub content : List ℕ
  pub said : List ℕ

abbrev pub fresh : List ℕ → Replayed
fresh start = record { base = as_bytes start; ranges = []; content = as_bytes start; said = [] }

-- one call that succeeded
abbrev pub step : Replayed → Call → Replayed
step d (Write at bytes) = record { base = d.base; ranges = (at, length bytes) ∷ d.ranges; content = put at (as_bytes bytes) d.content; said = d.said }
step d (Say bytes) = record { base = d.base; ranges = d.ranges; content = d.content; said = d.said ++ bytes }
step d Sync = record { base = d.content; ranges = []; content = d.content; said = d.said }

-- the calls that succeeded, the newest first
abbrev pub replay : List ℕ → List Call → Replayed
replay start [] = fresh start
replay start (e ∷ es) = step (replay start es) e

-- an image of now
abbrev pub Image : Replayed → List ℕ → Type 0
Image d c = IsImage d.base d.ranges c

-- the moments of one call
abbrev pub During : Replayed → Call → List ℕ → List ℕ → Type 0
During d (Write at bytes) s c = (s ≡ d.said) × (Image d c ⊎ IsTorn at (length bytes) (Image d) c)
During d (Say bytes) s c = ((n : ℕ) × (s ≡ d.said ++ take n bytes)) × Image d c
During d Sync s c = (s ≡ d.said) × Image d c

-- the moments of the calls since t
abbrev pub Had : List ℕ → List Call → ℕ → List ℕ → List ℕ → Type 0
Had start [] t s c = ⊥
Had start (e ∷ es) t s c = ((t ≤ length es) × During (replay start es) e s c) ⊎ Had start es t s c

abbrev pub Now : Replayed → List ℕ → List ℕ → Type 0
Now d s c = (s ≡ d.said) × Image d c

-- the time is the number of calls
abbrev pub told_state : List ℕ → List Call → SiteState
told_state start events = record {
  content = (replay start events).content;
  said = (replay start events).said;
  may_leave = Image (replay start events);
  moment = length events;
  since = λ t s c. Now (replay start events) s c ⊎ Had start events t s c;
}
