-- What the steps of an opening find.
use Rattle.std.specs.Prelude.{◌≡◌, ◌≢◌, ℕ, ◌+◌, ◌-◌, ◌*◌, ◌/◌, ◌^◌, ◌<◌, ◌≤◌, Bool, false, List, [], length, get_or, Result, OnOk, MatchResult, IsTrue}
use Rattle.site_disk.specs.State.{SiteState, Safe}
use Rattle.site_disk.specs.Calls.{Stays}
use Rattle.page_gate.specs.declared.fault.OpenFault.{OpenFault}
use Rattle.page_gate.specs.declared.gate.Gate.TheVariants.{Bad, Closed, Open}
use Rattle.page_gate.specs.declared.gate.Gate.{Gate}
use Rattle.page_gate.specs.declared.fault.OpenFault.TheVariants.{SiteFault}
use Rattle.page_gate.specs.Room.{Room}
use Rattle.page_gate.specs.Gate.{part, number_4, number_8, gate_of, is_open, items, rises, listed, opening, Opening, Opens}
use Rattle.page_gate.specs.Same.{IsOnly, IsOutside, Puts}
use Rattle.page_gate.specs.Steps.{IsThere}
use Rattle.page_gate.specs.Promises.{IsRefusal, Rests}

-- the length, and what page 0 says
pub record Looks {E : Type 0} (result : Result ℕ E) (first : List ℕ) (a b : SiteState) : Type 0 where
  pub stays : Stays a b
  pub gate : MatchResult result (λ len. (len ≡ length a.content) × (gate_of len first ≡ gate_of (length a.content) a.content)) (λ _. Unit {0})

-- a number of 4 or of 8 bytes, read
pub record ReadsWord {E : Type 0} (at : ℕ) (result : Result ℕ E) (a b : SiteState) : Type 0 where
  pub stays : Stays a b
  pub number_is : MatchResult result (λ n. n ≡ number_4 at a.content) (λ _. Unit {0})

pub record ReadsNumber {E : Type 0} (at : ℕ) (result : Result ℕ E) (a b : SiteState) : Type 0 where
  pub stays : Stays a b
  pub number_is : MatchResult result (λ n. n ≡ number_8 at a.content) (λ _. Unit {0})

-- whether the numbers of the items rise
pub record Tests {E : Type 0} (start count : ℕ) (result : Result Bool E) (a b : SiteState) : Type 0 where
  pub stays : Stays a b
  pub answer : MatchResult result (λ answer. answer ≡ rises 0 (start / 16384) (items start count a.content)) (λ _. Unit {0})

-- items that can be taken in
pub record IsReady (start count : ℕ) (c : List ℕ) : Type 0 where
  pub rising : IsTrue (rises 0 (start / 16384) (items start count c))
  pub room : start + 16392 * count ≤ length c

-- one item: its image stands in the place of its page
abbrev pub TakesItem : {E : Type 0} → ℕ → ℕ → Result Unit E → SiteState → SiteState → Type 0
TakesItem at limit result a b =
    number_8 at a.content < limit → Puts (IsOutside (16384 * number_8 at a.content) 16384) (16384 * number_8 at a.content + 16384) (IsThere (16384 * number_8 at a.content) (part (at + 8) 16384 a.content)) result a b

-- the list behind a closed gate, or its refusal
pub record Lists (result : Result Room OpenFault) (a b : SiteState) : Type 0 where
  pub stays : Stays a b
  pub list : MatchResult result (λ pages. listed [] a.content ≡ Opens pages.list) (λ fault. IsRefusal fault (listed [] a.content))

-- the pages from page 1 to before this one
abbrev pub Places : List ℕ → ℕ → List (List ℕ) → Type 0
Places c end pages = (length pages + 1 ≡ end) × ((p : ℕ) → p < length pages → get_or pages p [] ≡ part (16384 * (p + 1)) 16384 c)

-- a content behind a closed redo gate, whose pages are those of an opening
pub record Settled (opens_as : Opening) (n : ℕ) (c : List ℕ) : Type 0 where
  pub list : listed [] c ≡ opens_as
  pub opens : opening c ≡ opens_as
  pub shut : is_open c ≡ false
  pub long : 32768 ≤ length c
  pub len : length c ≡ n

-- the redo items are taken in and the redo gate is closed; each image, at each moment, opens as before
pub record Settles {E : Type 0} (opens_as : Opening) (n : ℕ) (result : Result Unit E) (a b : SiteState) : Type 0 where
  pub safe : Safe a b (λ s c. (s ≡ a.said) × (opening c ≡ opens_as))
  pub said : b.said ≡ a.said
  pub only : OnOk result (IsOnly b)
  pub done : OnOk result (Settled opens_as n b.content)
  pub zero : OnOk result (get_or b.content 1 0 ≡ 0)

-- a file whose redo items are to be taken in
pub record CanTake (start count : ℕ) (a : SiteState) : Type 0 where
  pub only : IsOnly a
  pub gate : gate_of (length a.content) a.content ≡ Open start count
  pub rising : IsTrue (rises 0 (start / 16384) (items start count a.content))

-- the only image has this redo gate
pub record HasGate (gate : Gate) (a : SiteState) : Type 0 where
  pub only : IsOnly a
  pub gate_is : gate ≡ gate_of (length a.content) a.content

-- a gate that a file of the greatest length can have
abbrev pub IsSound : Gate → Type 0
IsSound (Bad SiteFault) = ⊥
IsSound (Bad fault) = Unit {0}
IsSound Closed = Unit {0}
IsSound (Open start count) = start + 16392 * count ≤ 2 ^ 63 - 1

-- behind a closed redo gate now, or refused
pub record Recovers (result : Result Unit OpenFault) (a b : SiteState) : Type 0 where
  pub safe : Safe a b (λ s c. (s ≡ a.said) × (opening c ≡ opening a.content))
  pub said : b.said ≡ a.said
  pub answer : MatchResult result (λ _. IsOnly b × Settled (opening a.content) (length a.content) b.content) (λ fault. IsRefusal fault (opening a.content))
  pub rests : MatchResult result (λ _. Rests a b) (λ fault. fault ≢ SiteFault → Rests a b)

-- a fault that may come in place of any answer
abbrev pub IsAny : OpenFault → Type 0
IsAny fault = (opens : Opening) → IsRefusal fault opens

-- a page, and all of them
pub record Loads (at : ℕ) (result : Result (List ℕ) OpenFault) (a b : SiteState) : Type 0 where
  pub stays : Stays a b
  pub page : MatchResult result (λ page. page ≡ part at 16384 a.content) IsAny

pub record Fills (count : ℕ) (result : Result Room OpenFault) (a b : SiteState) : Type 0 where
  pub stays : Stays a b
  pub list : MatchResult result (λ pages. Places a.content count pages.list) IsAny
