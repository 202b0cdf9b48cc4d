-- What a save promises of the pages that it leads to, as laws over the definitions.
use Rattle.std.specs.Prelude.{◌≡◌, ℕ, List, Ok}
use Rattle.std.specs.List.{AllByRecursion}
use Rattle.vec_record.specs.Held as held
use Rattle.vec_record.specs.Distance.{distance_of}
use Rattle.node_walks.specs.Alike.{AreAlike}
use Rattle.kept_clusters.specs.Kept.{Kept}
use Rattle.stored_lines.specs.Laws.{AreHung}
use Rattle.page_layout.specs.declared.body.Body.{Body}
use Rattle.page_layout.specs.Heads.{HeadValue, IsHead}
use Rattle.page_layout.specs.Bodies.{IsBody}
use Rattle.store_image.specs.Loading.{load_of}
use Rattle.store_image.specs.Placing.{saved_head, saved_bodies, saved_pages, saved_image, ArePagesOf, CanBeSaved}

-- a head page and body pages that can be written
pub record AreLawful (h : HeadValue) (bodies : List Body) : Type 0 where
  pub head : IsHead h
  pub each : AllByRecursion (IsBody h.values) bodies

-- a distance that is the metric's on vectors of the records' width
abbrev pub IsOfKind : HeadValue → held.Held → (List ℕ → List ℕ → ℕ) → Type 0
IsOfKind h records dist = AreAlike records.width dist (distance_of h.values.metric)

-- what is saved can be written
abbrev pub SavedAreLawful : Type 0
SavedAreLawful =
    (dist : List ℕ → List ℕ → ℕ) (most : ℕ → ℕ) (h : HeadValue) (bodies : List Body)
    (pages : List (List ℕ)) (records : held.Held) (kept : Kept)
    → ArePagesOf h bodies pages → CanBeSaved dist most h records kept
    → AreLawful (saved_head h bodies records.vectors kept) (saved_bodies h.values bodies records.vectors kept)

-- what is saved is read again: its head and its body pages
abbrev pub SavedAreRead : Type 0
SavedAreRead =
    (dist : List ℕ → List ℕ → ℕ) (most : ℕ → ℕ) (h : HeadValue) (bodies : List Body)
    (pages : List (List ℕ)) (records : held.Held) (kept : Kept)
    → ArePagesOf h bodies pages → CanBeSaved dist most h records kept
    → ArePagesOf (saved_head h bodies records.vectors kept) (saved_bodies h.values bodies records.vectors kept)
    (saved_pages h bodies records.vectors kept)

-- where the clusters hang on cores, what is saved loads as what it was; the distance is to be that of the metric on
-- vectors of the width
abbrev pub SavedLoad : Type 0
SavedLoad =
    (dist : List ℕ → List ℕ → ℕ) (most : ℕ → ℕ) (h : HeadValue) (bodies : List Body)
    (pages : List (List ℕ)) (records : held.Held) (kept : Kept)
    → ArePagesOf h bodies pages → CanBeSaved dist most h records kept → AreHung kept.counts
    → IsOfKind h records dist
    → load_of (saved_pages h bodies records.vectors kept) ≡ Ok (saved_image h bodies records kept)
