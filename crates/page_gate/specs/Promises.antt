-- What the calls on a file of pages need and promise, where the site tells.
use Rattle.std.specs.Prelude.{◌≡◌, ◌≢◌, ◌≤◌, ◌⊎◌, ℕ, ◌*◌, Bool, true, false, List, [], ◌∷◌, length, get_or, Result, OnOk, MatchResult}
use Rattle.site_disk.specs.State.{SiteState, Safe}
use Rattle.site_disk.specs.Causes.{Rose}
use Rattle.page_gate.specs.Room.{Room}
use Rattle.page_gate.specs.declared.fault.OpenFault.{OpenFault}
use Rattle.page_gate.specs.declared.fault.OpenFault.TheVariants.{Blank, Foreign, Damaged, SiteFault, Memory}
use Rattle.page_gate.specs.declared.gate.Gate.TheVariants.{Open}
use Rattle.page_gate.specs.Gate.{is_blank, is_open, gate_of, opening, Opening, Refuses, Opens}
use Rattle.page_gate.specs.Writes.{new_count}
use Rattle.page_gate.specs.Same.{IsOnly}
use Rattle.page_gate.specs.Steps.{Staged}

-- the only image is this page list behind a closed redo gate
pub record Holds (pages : List (List ℕ)) (a : SiteState) : Type 0 where
  pub only : IsOnly a
  pub list : opening a.content ≡ Opens pages
  pub shut : is_open a.content ≡ false

-- the only image is blank
pub record IsUnborn (a : SiteState) : Type 0 where
  pub only : IsOnly a
  pub blank : is_blank a.content ≡ true

-- the answer is whether the content is blank
pub record Asks {E : Type 0} (result : Result Bool E) (a b : SiteState) : Type 0 where
  pub safe : Safe a b (λ s c. (s ≡ a.said) × a.may_leave c)
  pub said : b.said ≡ a.said
  pub only : OnOk result (IsOnly b)
  pub content : OnOk result (b.content ≡ a.content)
  pub answer : MatchResult result (λ answer. answer ≡ is_blank a.content) (λ _. Unit {0})

-- at each moment each image is blank or holds exactly the first page, and after Ok the only one holds it
pub record Bears {E : Type 0} (first : List ℕ) (result : Result Unit E) (a b : SiteState) : Type 0 where
  pub safe : Safe a b (λ s c. (s ≡ a.said) × ((is_blank c ≡ true) ⊎ (opening c ≡ Opens (first ∷ []))))
  pub said : b.said ≡ a.said
  pub holds : OnOk result (Holds (first ∷ []) b)

-- at each moment each image has the old or the new page list, and after Ok the only one has the new one
pub record Commits {E : Type 0} (old new : List (List ℕ)) (result : Result Unit E) (a b : SiteState) : Type 0 where
  pub safe : Safe a b (λ s c. (s ≡ a.said) × ((opening c ≡ Opens old) ⊎ (opening c ≡ Opens new)))
  pub said : b.said ≡ a.said
  pub holds : OnOk result (Holds new b)

-- a file behind a commit: the redo gate is 0, and the redo items still stand behind the pages, where page 0 says
pub record IsBehind (ws : List (ℕ × List ℕ)) (c : List ℕ) : Type 0 where
  pub gate : get_or c 1 0 ≡ 0
  pub redo : Staged (16384 * new_count ws) ws c

-- a refusal is the one of the content; a fault of the site and want of memory may come in place of any answer
abbrev pub IsRefusal : OpenFault → Opening → Type 0
IsRefusal Blank opens = opens ≡ Refuses Blank
IsRefusal Foreign opens = opens ≡ Refuses Foreign
IsRefusal (Damaged page offset) opens = opens ≡ Refuses (Damaged page offset)
IsRefusal SiteFault opens = Unit {0}
IsRefusal Memory opens = Unit {0}

-- at each moment each image is one of the start, or opens as the content of the start does
abbrev pub IsAsWas : SiteState → List ℕ → List ℕ → Type 0
IsAsWas a s c = (s ≡ a.said) × (a.may_leave c ⊎ (opening c ≡ opening a.content))

-- the redo items of a file were taken in: its redo gate was open and passed its checks, and is 0 now
pub record IsTakenIn (old new : List ℕ) : Type 0 where
  pub start : ℕ
  pub count : ℕ
  pub was : gate_of (length old) old ≡ Open start count
  pub now : get_or new 1 0 ≡ 0

-- the content is the only image and opens as that of the start does: it is the same, or its redo items were taken in
pub record Rests (a b : SiteState) : Type 0 where
  pub only : IsOnly b
  pub opens : opening b.content ≡ opening a.content
  pub content : (b.content ≡ a.content) ⊎ IsTakenIn a.content b.content

-- An opening: the list of the content of the start, behind a closed redo gate in the only image, or a refusal. Unless
-- the site failed, the site is at rest after it, whatever the answer.
pub record Finds (result : Result Room OpenFault) (a b : SiteState) : Type 0 where
  pub safe : Safe a b (IsAsWas a)
  pub said : b.said ≡ a.said
  pub list : MatchResult result (λ pages. opening a.content ≡ Opens pages.list) (λ fault. IsRefusal fault (opening a.content))
  pub holds : MatchResult result (λ pages. Holds pages.list b) (λ _. Unit {0})
  pub rests : MatchResult result (λ _. Rests a b) (λ fault. fault ≢ SiteFault → Rests a b)

-- the count of faults never falls, and the site is at fault only where it rose
pub record HasFault {T : Type 0} (before now : ℕ) (result : Result T OpenFault) : Type 0 where
  pub later : before ≤ now
  pub failed : MatchResult result (λ _. Unit {0}) (λ fault. fault ≡ SiteFault → Rose before now)
