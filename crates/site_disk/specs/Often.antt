-- Saying leaves the images alone.
use Rattle.std.specs.Prelude.{◌≡◌, ℕ, zero, suc, List, [], ◌++◌}
use Rattle.site_disk.specs.State.{SiteState}

-- each moment has an image of the start, and begins with what was said then
pub record IsCalm (a : SiteState) (s c : List ℕ) : Type 0 where
  pub image : a.may_leave c
  pub begins : (more : List ℕ) × (s ≡ a.said ++ more)

-- a line, so often
abbrev pub lines : ℕ → List ℕ → List ℕ
lines zero line = []
lines (suc n) line = lines n line ++ line
