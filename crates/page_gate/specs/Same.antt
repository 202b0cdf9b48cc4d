-- Files that differ in some places alone, and the moments of steps that touch no other place.
use Rattle.std.specs.Prelude.{◌≡◌, ◌⊎◌, ℕ, ◌+◌, ◌<◌, ◌≤◌, max, List, length, get_or, Result, OnOk}
use Rattle.site_disk.specs.State.{SiteState, Safe}

-- The places that are kept have the same bytes, and the file ends no earlier, and no later than it did or at this offset.
pub record Same (kept : ℕ → Type 0) (top : ℕ) (old new : List ℕ) : Type 0 where
  pub no_shorter : length old ≤ length new
  pub no_longer : length new ≤ max (length old) top
  pub stays : (i : ℕ) → i < length old → kept i → get_or new i 0 ≡ get_or old i 0

-- the places outside of n from an offset on
abbrev pub IsOutside : ℕ → ℕ → ℕ → Type 0
IsOutside at n i = (i < at) ⊎ (at + n ≤ i)

-- one of these images, changed in other places than the kept ones
abbrev pub IsNear : (ℕ → Type 0) → ℕ → (List ℕ → Type 0) → List ℕ → Type 0
IsNear kept top old c = (d : List ℕ) × old d × Same kept top d c

-- nothing is said, and each image is near one of the start
abbrev pub IsMoved : (ℕ → Type 0) → ℕ → SiteState → List ℕ → List ℕ → Type 0
IsMoved kept top a s c = (s ≡ a.said) × IsNear kept top a.may_leave c

-- Writes that say nothing and change other places than the kept ones alone, whatever they answer; and what the content
-- is after all of them.
pub record Puts {E : Type 0} (kept : ℕ → Type 0) (top : ℕ) (Done : List ℕ → Type 0) (result : Result Unit E) (a b : SiteState) : Type 0 where
  pub safe : Safe a b (IsMoved kept top a)
  pub said : b.said ≡ a.said
  pub same : OnOk result (Same kept top a.content b.content)
  pub done : OnOk result (Done b.content)

-- a crash leaves the content and nothing else
abbrev pub IsOnly : SiteState → Type 0
IsOnly a = (c : List ℕ) → a.may_leave c → c ≡ a.content

-- Writes, and the sync that makes what they left the only image.
pub record Keeps {E : Type 0} (kept : ℕ → Type 0) (top : ℕ) (Done : List ℕ → Type 0) (result : Result Unit E) (a b : SiteState) : Type 0 where
  pub puts : Puts kept top Done result a b
  pub only : OnOk result (IsOnly b)

-- A step that says nothing: each image, at each moment, has X, and after Ok the content is one that the step is to reach.
pub record Leaves {E : Type 0} (X Done : List ℕ → Type 0) (result : Result Unit E) (a b : SiteState) : Type 0 where
  pub safe : Safe a b (λ s c. (s ≡ a.said) × X c)
  pub said : b.said ≡ a.said
  pub done : OnOk result (Done b.content)
