-- What the calls of a site promise where it tells: relations of what it tells before (a) and after (b).
use Rattle.std.specs.Prelude.{◌≡◌, ◌⊎◌, ◌↔◌, ℕ, ◌+◌, ◌<◌, List, ◌++◌, length, take, get_or, Result, OnOk}
use Rattle.site_disk.specs.Disk.{put, Torn}
use Rattle.site_disk.specs.State.{SiteState, Joins, Each}

-- one that a crash in this write may make of an image of the start
abbrev pub IsTorn : ℕ → ℕ → (List ℕ → Type 0) → List ℕ → Type 0
IsTorn at n old c = (d : List ℕ) × old d × Torn at n d c

-- A call that changes nothing.
pub record Stays (a b : SiteState) : Type 0 where
  pub joins : Joins a b
  pub said : b.said ≡ a.said
  pub content : b.content ≡ a.content
  pub images : (c : List ℕ) → b.may_leave c ↔ a.may_leave c
  pub moments : Each a b (λ s c. (s ≡ a.said) × a.may_leave c)

-- Whatever a write answers, its images are at most those of the start and those that the disk model adds.
pub record Writes {E : Type 0} (at : ℕ) (bytes : List ℕ) (result : Result Unit E) (a b : SiteState) : Type 0 where
  pub joins : Joins a b
  pub said : b.said ≡ a.said
  pub content : OnOk result (b.content ≡ put at bytes a.content)
  pub images : (c : List ℕ) → b.may_leave c → a.may_leave c ⊎ IsTorn at (length bytes) a.may_leave c
  pub moments : Each a b (λ s c. (s ≡ a.said) × (a.may_leave c ⊎ IsTorn at (length bytes) a.may_leave c))

-- A sync that succeeds makes the content the only image; after one that fails each image is one of the start.
pub record Syncs {E : Type 0} (result : Result Unit E) (a b : SiteState) : Type 0 where
  pub joins : Joins a b
  pub said : b.said ≡ a.said
  pub content : OnOk result (b.content ≡ a.content)
  pub only : OnOk result ((c : List ℕ) → b.may_leave c → c ≡ b.content)
  pub images : (c : List ℕ) → b.may_leave c → a.may_leave c
  pub moments : Each a b (λ s c. (s ≡ a.said) × a.may_leave c)

-- All of the bytes are said, or, where the call fails, a prefix of them.
pub record Speaks {E : Type 0} (bytes : List ℕ) (result : Result Unit E) (a b : SiteState) : Type 0 where
  pub joins : Joins a b
  pub said : OnOk result (b.said ≡ a.said ++ bytes)
  pub prefix : (n : ℕ) × (b.said ≡ a.said ++ take n bytes)
  pub content : b.content ≡ a.content
  pub images : (c : List ℕ) → b.may_leave c ↔ a.may_leave c
  pub moments : Each a b (λ s c. ((n : ℕ) × (s ≡ a.said ++ take n bytes)) × a.may_leave c)

-- bytes past the end read as zero
abbrev pub Reads : {E : Type 0} → ℕ → Result Unit E → List ℕ → List ℕ → Type 0
Reads at result into content = OnOk result ((i : ℕ) → i < length into → get_or into i 0 ≡ get_or content (at + i) 0)
