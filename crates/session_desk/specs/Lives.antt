-- Runs of `serve`, one after another, over what the run before left, however it was cut off.
use Rattle.std.specs.Prelude.{◌≡◌, ◌⊎◌, ℕ, ◌≤◌, ◌<◌, List, [], ◌∷◌, length, take}
use Rattle.vec_record.specs.Held.{Rows}
use Rattle.site_disk.specs.State.{SiteState}
use Rattle.event_feed.specs.Meanings.{Slots}
use Rattle.store_image.specs.Stores.{IsSound, records_on}
use Rattle.session_desk.specs.Session.{acked, rows_after_all}
use Rattle.session_desk.specs.Courses.{session, values_on, accepted}
use Rattle.session_desk.specs.Headline.{IsCrash}

-- a run: the site at its start, its watchers, its input, and how many bytes it had said at its end
pub record Run (S : Type 0) : Type 0 where
  pub start : S
  pub watchers : Slots
  pub input : List ℕ
  pub said : ℕ

-- the content that a run found, and those that it could find
abbrev pub content_of : {S : Type 0} → (S → SiteState) → Run S → List ℕ
content_of state r = (state r.start).content

abbrev pub Finds : {S : Type 0} → (S → SiteState) → Run S → List ℕ → Type 0
Finds state r c = (state r.start).may_leave c

-- what a run may leave: what it could find, where it said nothing, or what a crash leaves of its session
abbrev pub MayLeave : {S : Type 0} → (S → SiteState) → Run S → List ℕ → Type 0
MayLeave state r image = ((r.said ≡ 0) × Finds state r image) ⊎ IsCrash (content_of state r) r.watchers r.input r.said image

-- a run found one of the contents that it could find, and each of these has P
pub record Starts {S : Type 0} (state : S → SiteState) (r : Run S) (P : List ℕ → Type 0) : Type 0 where
  pub found : Finds state r (content_of state r)
  pub each : (c : List ℕ) → Finds state r c → P c

-- A life, the newest run first: the first run could find sound contents alone, and each later one what the run before it may leave.
abbrev pub IsLife : {S : Type 0} → (S → SiteState) → List (Run S) → Type 0
IsLife state [] = Unit {0}
IsLife state (r ∷ []) = Starts state r IsSound
IsLife state (r ∷ before ∷ more) = Starts state r (MayLeave state before) × IsLife state (before ∷ more)

-- what the newest run may leave
abbrev pub Leaves : {S : Type 0} → (S → SiteState) → List (Run S) → List ℕ → Type 0
Leaves state [] image = ⊥
Leaves state (r ∷ before) image = MayLeave state r image

-- what the first run could find
abbrev pub FoundFirst : {S : Type 0} → (S → SiteState) → List (Run S) → List ℕ → Type 0
FoundFirst state [] c = ⊥
FoundFirst state (r ∷ []) c = Finds state r c
FoundFirst state (r ∷ before ∷ more) c = FoundFirst state (before ∷ more) c

-- The records go, in each run, from those of a content that the run could find through the first m batches
-- that it accepts, with every one whose receipt it had said. Where it took a batch or said anything, that
-- content is the one that it found.
pub record GoesThrough {S : Type 0} (state : S → SiteState) (r : Run S) (rows next : Rows) : Type 0 where
  pub before : List ℕ
  pub found : Finds state r before
  pub rows_before : rows ≡ records_on before
  pub m : ℕ
  pub own : (0 < m) ⊎ (0 < r.said) → before ≡ content_of state r
  pub some : m ≤ length (accepted (content_of state r) r.watchers r.input)
  pub holds : acked r.said (session (content_of state r) r.watchers r.input).answers ≤ m
  pub rows_are : next ≡ rows_after_all (values_on (content_of state r)) rows (take m (accepted (content_of state r) r.watchers r.input))

abbrev pub Grows : {S : Type 0} → (S → SiteState) → List (Run S) → Rows → Rows → Type 0
Grows state [] first last = last ≡ first
Grows state (r ∷ before) first last = (mid : Rows) × Grows state before first mid × GoesThrough state r mid last

-- A store that a life may leave: it is sound, and its records grew, through all runs, from those of a content that the first run could find.
pub record Survives {S : Type 0} (state : S → SiteState) (runs : List (Run S)) (image : List ℕ) : Type 0 where
  pub sound : IsSound image
  pub first : List ℕ
  pub found : FoundFirst state runs first
  pub grows : Grows state runs (records_on first) (records_on image)

abbrev pub LivesKeepBatches : {S : Type 0} → (S → SiteState) → Type 0
LivesKeepBatches {S} state = (runs : List (Run S)) (image : List ℕ) → IsLife state runs → Leaves state runs image → Survives state runs image

-- so each run starts on a sound store
abbrev pub AllStartSound : {S : Type 0} → (S → SiteState) → List (Run S) → Type 0
AllStartSound state [] = Unit {0}
AllStartSound state (r ∷ before) = Starts state r IsSound × AllStartSound state before

abbrev pub RunsStartSound : {S : Type 0} → (S → SiteState) → Type 0
RunsStartSound {S} state = (runs : List (Run S)) → IsLife state runs → AllStartSound state runs
