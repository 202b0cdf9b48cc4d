-- A birth over a blank file. The code alone speaks of this.
use Rattle.std.specs.Prelude.{◌≡◌, ◌⊎◌, ℕ, true, List, ◌++◌, take, codes}
use Rattle.site_disk.specs.State.{SiteState}
use Rattle.page_gate.specs.Gate.{is_blank, opening, Opens}
use Rattle.page_layout.specs.Heads.{Values}
use Rattle.session_desk.specs.Births.{new_pages}

-- a prefix of the word was said, and nothing but over the new store; before it each image is blank
pub record IsBearing (v : Values) (a : SiteState) (said image : List ℕ) : Type 0 where
  pub prefix : (n : ℕ) × (said ≡ a.said ++ take n (codes "born\n"))
  pub image_is : ((said ≡ a.said) × (is_blank image ≡ true)) ⊎ (opening image ≡ Opens (new_pages v))
