-- What a run does to a site, at every moment of it.
use Rattle.std.specs.Prelude.{◌≡◌, ◌↔◌, ℕ, false, List, ◌++◌, take}
use Rattle.site_disk.specs.State.{SiteState, Joins, Each, Safe}
use Rattle.session_desk.specs.declared.status.Status.{Status}
use Rattle.session_desk.specs.Statuses.{is_fault}

-- A prefix of a text was said behind what had been said at the start, over an image of the start.
pub record IsSaying (start : SiteState) (text : List ℕ) (said image : List ℕ) : Type 0 where
  pub prefix : (n : ℕ) × (said ≡ start.said ++ take n text)
  pub is_image : start.may_leave image

-- The content and the images are as they were, and each moment since the start had an image of the start.
pub record LeavesAlone (a b : SiteState) : Type 0 where
  pub joins : Joins a b
  pub content : b.content ≡ a.content
  pub images : (c : List ℕ) → b.may_leave c ↔ a.may_leave c
  pub moments : Each a b (λ s c. a.may_leave c)

-- A run that says one text: all of it where neither a fault nor want of memory ended the run, and a prefix of it
-- at the end and at every moment, over an image of the start.
pub record Says (text : List ℕ) (result : Status) (a b : SiteState) : Type 0 where
  pub all : is_fault result ≡ false → b.said ≡ a.said ++ text
  pub prefix : (n : ℕ) × (b.said ≡ a.said ++ take n text)
  pub moments : Safe a b (IsSaying a text)
