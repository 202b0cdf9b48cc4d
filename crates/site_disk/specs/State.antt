-- What a site tells, in one value, and what is said of the moments of a call.
use Rattle.std.specs.Prelude.{◌≡◌, ◌⊎◌, ℕ, ◌≤◌, List}
use Rattle.vec_record.specs.Vectors.{AreBytes}

-- The content as read, the bytes said, the images that a crash now may leave, the time now, and for each time the
-- moments since then: pairs of the bytes said and an image.
pub record SiteState : Type 1 where
  pub content : List ℕ
  pub said : List ℕ
  pub may_leave : List ℕ → Type 0
  pub moment : ℕ
  pub since : ℕ → List ℕ → List ℕ → Type 0

-- The moments since now are exactly the pairs of the bytes said now and an image of now. What is read is one of the
-- images, and each image is a list of bytes.
pub record IsNow (a : SiteState) : Type 0 where
  pub only : (s c : List ℕ) → a.since a.moment s c → (s ≡ a.said) × a.may_leave c
  pub counts : (t : ℕ) (c : List ℕ) → t ≤ a.moment → a.may_leave c → a.since t a.said c
  pub read : a.may_leave a.content
  pub bytes : (c : List ℕ) → a.may_leave c → AreBytes c

-- Time goes on from a to b: the moments since a time not later than a are those that a knew and those since a.
pub record Joins (a b : SiteState) : Type 0 where
  pub later : a.moment ≤ b.moment
  pub splits : (t : ℕ) (s c : List ℕ) → t ≤ a.moment → b.since t s c → a.since t s c ⊎ b.since a.moment s c
  pub keeps : (t : ℕ) (s c : List ℕ) → t ≤ a.moment → a.since t s c → b.since t s c
  pub counts : (t : ℕ) (s c : List ℕ) → t ≤ a.moment → b.since a.moment s c → b.since t s c

-- each moment from a to b has P
abbrev pub Each : SiteState → SiteState → (List ℕ → List ℕ → Type 0) → Type 0
Each a b P = (s c : List ℕ) → b.since a.moment s c → P s c

-- Each moment from a to b has P, and so has what stands at b.
pub record Safe (a b : SiteState) (P : List ℕ → List ℕ → Type 0) : Type 0 where
  pub joins : Joins a b
  pub each : Each a b P
  pub now : (c : List ℕ) → b.may_leave c → P b.said c
