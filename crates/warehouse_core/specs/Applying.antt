-- What one batch does to a warehouse and to its site.
use Rattle.std.specs.Prelude.{◌≡◌, ◌⊎◌, ℕ, ◌+◌, ◌++◌, Bool, true, false, List, [], Result, Ok, Err, IfErr}
use Rattle.vec_record.specs.declared.change.Change.{Change}
use Rattle.vec_record.specs.declared.event.Event.{Event}
use Rattle.site_disk.specs.State.{SiteState, Safe}
use Rattle.vec_record.specs.Held.{Rows}
use Rattle.page_layout.specs.Heads.{Values, HeadValue}
use Rattle.mtree_index.specs.Plain.{PlainTree}
use Rattle.kept_clusters.specs.Kept.{Kept, with_tags}
use Rattle.stored_tree.specs.Shapes.{with_tags as tree_with_tags}
use Rattle.page_layout.specs.declared.body.Body.{Body}
use Rattle.store_image.specs.Placing.{saved_pages, saved_laid, ArePagesOf}
use Rattle.store_image.specs.Stores.{IsStore, AreDueIn}
use Rattle.warehouse_core.specs.declared.refusal.Refusal.{Refusal}
use Rattle.warehouse_core.specs.declared.refusal.Refusal.TheVariants.{Malformed, WrongLength, Repeated, Unknown, Full, TooManyRecords, BatchesUsedUp, SiteFault, Memory}
use Rattle.warehouse_core.specs.Batches.{outcome, rows_after, events_of}
use Rattle.warehouse_core.specs.Receipts.{receipt_text}
use Rattle.warehouse_core.specs.States.{State, IsClustered, LoadsAs}

-- whether a refusal has a number: only faults of the site and want of memory have none
abbrev pub is_numbered : Refusal → Bool
is_numbered (Malformed place) = true
is_numbered (WrongLength place) = true
is_numbered (Repeated place) = true
is_numbered (Unknown place) = true
is_numbered (Full place) = true
is_numbered TooManyRecords = true
is_numbered BatchesUsedUp = true
is_numbered SiteFault = false
is_numbered Memory = false

-- what is due to a body over a warehouse
abbrev pub due : State → List ℕ → Result (List Change) Refusal
due w body = outcome w.values w.batches w.rows body

-- the events of what is due to a body; a refused batch has none
abbrev pub events_unless_refused : Values → Rows → Result (List Change) Refusal → List Event
events_unless_refused v rows (Ok changes) = events_of v rows changes
events_unless_refused v rows (Err refusal) = []

abbrev pub events_due : State → List ℕ → List Event
events_due w body = events_unless_refused w.values w.rows (due w body)

-- what is due to a body is never a fault of the site and never want of memory
abbrev pub DueAreNumbered : Type 0
DueAreNumbered =
    (v : Values) (batches : ℕ) (rows : Rows) (body : List ℕ)
    → IfErr (outcome v batches rows body) (λ e. is_numbered e ≡ true)

-- a refusal is answered, or memory is wanting in its place
abbrev pub IsRefusedBy : Refusal → Result Unit Refusal → Type 0
IsRefusedBy e result = (result ≡ Err e) ⊎ (result ≡ Err Memory)

-- The pages are those that the rules of placing give where these records, and what was kept of their clusters before the
-- save, follow the pages of another warehouse; the save gave the nodes of the tree the tags of their places.
pub record IsSavedAs (before : Kept) (w next : State) : Type 0 where
  pub head : HeadValue
  pub bodies : List Body
  pub were : ArePagesOf head bodies w.pages
  pub pages : next.pages ≡ saved_pages head bodies next.rows before
  pub kept : next.kept ≡ with_tags (saved_laid head.values bodies next.rows before).refs before

-- An accepted batch: its records, one batch more, and pages by the rules of placing. Where the clusters stood for the
-- records, they stand for the new ones, and the receipt stands behind the text; and where they stand, the pages load as
-- the new records, with the lines that are due.
pub record Accepts (body : List ℕ) (w next : State) (text more : List ℕ) : Type 0 where
  pub changes : List Change
  pub accepted : due w body ≡ Ok changes
  pub values : next.values ≡ w.values
  pub rows : next.rows ≡ rows_after w.values w.rows changes
  pub batches : next.batches ≡ w.batches + 1
  pub stored : next.stored ≡ true
  pub failed : next.failed ≡ false
  pub before : Kept
  pub pages : IsSavedAs before w next
  pub clustered : IsClustered w → IsClustered next
  pub receipt : IsClustered w
      → more ≡ text ++ receipt_text (w.batches + 1) changes (events_of w.values w.rows changes)
  pub loads : IsClustered next → LoadsAs next.pages next.values next.rows next.batches
  pub due_are : IsClustered next → AreDueIn next.pages

-- a tree is another one with other tags
abbrev pub IsTagged : PlainTree → PlainTree → Type 0
IsTagged before tree = (tags : List ℕ) × (tree ≡ tree_with_tags tags before)

-- the store before the batch, or, where it is accepted, the one after it
abbrev pub IsBefore : State → List ℕ → Type 0
IsBefore w c = IsStore w.values w.rows w.batches c

pub record IsAfter (body : List ℕ) (w : State) (c : List ℕ) : Type 0 where
  pub changes : List Change
  pub accepted : due w body ≡ Ok changes
  pub store : IsStore w.values (rows_after w.values w.rows changes) (w.batches + 1) c

-- Nothing is said, and each image, at each moment, holds the batch wholly or not at all; after want of memory not at all.
pub record Steps (body : List ℕ) (result : Result Unit Refusal) (w : State) (a b : SiteState) : Type 0 where
  pub safe : Safe a b (λ s c. (s ≡ a.said) × (IsBefore w c ⊎ IsAfter body w c))
  pub said : b.said ≡ a.said
  pub unsaved : result ≡ Err Memory → Safe a b (λ s c. (s ≡ a.said) × IsBefore w c)
