-- What two writes with a sync between them, and a line said after them, leave at each moment.
use Rattle.std.specs.Prelude.{◌≡◌, ◌⊎◌, ℕ, List, [], ◌∷◌, ◌++◌, length, take, Result, OnOk}
use Rattle.site_disk.specs.Disk.{put, IsImage}
use Rattle.site_disk.specs.State.{SiteState, Safe}

-- the content is the only image
abbrev pub IsSettledState : SiteState → Type 0
IsSettledState a = (c : List ℕ) → a.may_leave c → c ≡ a.content

-- before the second write: nothing more is said, and a crash may leave what it may make of the first
abbrev pub IsEarly : SiteState → ℕ → ℕ → List ℕ → List ℕ → Type 0
IsEarly a at n s c = (s ≡ a.said) × IsImage a.content ((at, n) ∷ []) c

-- from then on: a prefix of the line is said, and a crash may leave what it may make of the second over the first
abbrev pub IsLate : SiteState → ℕ → List ℕ → ℕ → ℕ → List ℕ → List ℕ → List ℕ → Type 0
IsLate a at bytes next n line s c = ((k : ℕ) × (s ≡ a.said ++ take k line)) × IsImage (put at bytes a.content) ((next, n) ∷ []) c

pub record WritesTwice {E : Type 0} (at : ℕ) (bytes : List ℕ) (next : ℕ) (more line : List ℕ) (result : Result Unit E) (a b : SiteState) : Type 0 where
  pub safe : Safe a b (λ s c. IsEarly a at (length bytes) s c ⊎ IsLate a at bytes next (length more) line s c)
  pub said : OnOk result (b.said ≡ a.said ++ line)
  pub content : OnOk result (b.content ≡ put next more (put at bytes a.content))
  pub images : OnOk result ((c : List ℕ) → b.may_leave c → IsImage (put at bytes a.content) ((next, length more) ∷ []) c)
