-- What the content of a file is as a store: the verdict of an opening, the records, the batches and the parameters. All
-- are functions of what the gate checks come to.
use Rattle.std.specs.Prelude.{◌≡◌, ◌⊎◌, ◌↔◌, ◌==◌, if◌then◌else◌, ℕ, Bool, true, false, List, [], ◌∷◌, drop, get_or, Option, Some, None, IfSome, Result, Ok, Err}
use Rattle.std.specs.List.{flat_map}
use Rattle.std.specs.FinMap as map
use Rattle.vec_record.specs.Held as held
use Rattle.vec_record.specs.Distance.{distance_of}
use Rattle.vec_record.specs.Limits.{width_of}
use Rattle.page_gate.specs.declared.fault.OpenFault as gate
use Rattle.page_gate.specs.declared.fault.OpenFault.TheVariants as open_fault
use Rattle.page_gate.specs.Gate.{number_4, count_of, is_blank, opening, Opening, Refuses, Opens}
use Rattle.page_layout.specs.Heads.{Values, HeadValue, IsHead, head_page, values_in}
use Rattle.page_layout.specs.Slots.{Rows, rows_in}
use Rattle.store_image.specs.declared.fault.StoreFault.{StoreFault}
use Rattle.store_image.specs.declared.fault.StoreFault.TheVariants.{Foreign, Damaged, Memory}
use Rattle.kept_clusters.specs.Kept.{Kept, Stand, nothing_kept}
use Rattle.store_image.specs.Images.{Image, image_with, vectors_of, lines_of}
use Rattle.store_image.specs.Loading.{load_of, count_said}
use Rattle.store_image.specs.Clustered.{AreDue}
use Rattle.stored_lines.specs.Laws.{AreHung}

-- what page 1 of a list of pages has as parameters and as the number of batches, and what its used slots hold
abbrev pub values_in_pages : List (List ℕ) → Values
values_in_pages pages = values_in (get_or pages 0 [])

abbrev pub batches_in_pages : List (List ℕ) → ℕ
batches_in_pages pages = number_4 28 (get_or pages 0 [])

-- the slots of a page, where it is a record page
abbrev pub slots_if_any : ℕ → List ℕ → Rows
slots_if_any width page = if get_or page 0 0 == 1 then rows_in width page else []

abbrev pub slots_in_pages : List (List ℕ) → Rows
slots_in_pages pages =
    let v = values_in_pages pages in
    flat_map (slots_if_any (width_of v.metric v.dim)) (drop 1 pages)

abbrev pub vectors_in_pages : List (List ℕ) → held.Rows
vectors_in_pages pages = vectors_of (slots_in_pages pages)

-- each line that they hold is the one that is due to its record
abbrev pub AreDueIn : List (List ℕ) → Type 0
AreDueIn pages =
    AreDue (values_in_pages pages) (vectors_in_pages pages) (lines_of (slots_in_pages pages))

-- the refusal of a load, as that of an opening
abbrev pub refusal_of : Result Image StoreFault → Option gate.OpenFault
refusal_of (Ok image) = None
refusal_of (Err Foreign) = Some open_fault.Foreign
refusal_of (Err (Damaged page offset)) = Some (open_fault.Damaged page offset)
refusal_of (Err Memory) = Some open_fault.Memory

abbrev pub verdict : Opening → Option gate.OpenFault
verdict (Refuses fault) = Some fault
verdict (Opens pages) = refusal_of (load_of pages)

abbrev pub records_by : Opening → held.Rows
records_by (Refuses fault) = map.empty
records_by (Opens pages) = vectors_in_pages pages

abbrev pub batches_by : Opening → ℕ
batches_by (Refuses fault) = 0
batches_by (Opens pages) = batches_in_pages pages

abbrev pub AreDueBy : Opening → Type 0
AreDueBy (Refuses fault) = Unit {0}
AreDueBy (Opens pages) = AreDueIn pages

abbrev pub params_by : Opening → Option Values
params_by (Refuses fault) = None
params_by (Opens pages) = Some (values_in_pages pages)

-- the first check of an opening that fails, the gate checks before the load checks; none where the store opens
unfoldable pub refusal_on : List ℕ → Option gate.OpenFault
refusal_on c = verdict (opening c)

-- the records, the number of batches and the parameters of a content
unfoldable pub records_on : List ℕ → held.Rows
records_on c = records_by (opening c)

unfoldable pub batches_on : List ℕ → ℕ
batches_on c = batches_by (opening c)

unfoldable pub params_on : List ℕ → Option Values
params_on c = params_by (opening c)

-- each count, anchor and label that an open store has is the one that is due to its record
abbrev pub AreDueOn : List ℕ → Type 0
AreDueOn c = AreDueBy (opening c)

-- what is assumed of the content of a store that is served: it is blank, or opens and has the lines that are due
pub record IsSound (c : List ℕ) : Type 0 where
  pub begins : (is_blank c ≡ true) ⊎ (refusal_on c ≡ None)
  pub due : AreDueOn c

-- an open store with these parameters, records and number of batches, whose lines are those that are due
pub record IsStore (v : Values) (rows : held.Rows) (batches : ℕ) (c : List ℕ) : Type 0 where
  pub opens : refusal_on c ≡ None
  pub due : AreDueOn c
  pub params : params_on c ≡ Some v
  pub records : records_on c ≡ rows
  pub batches_are : batches_on c ≡ batches

-- what two contents have alike as stores
pub record AreAlike (c d : List ℕ) : Type 0 where
  pub refusal : refusal_on c ≡ refusal_on d
  pub records : records_on c ≡ records_on d
  pub batches : batches_on c ≡ batches_on d
  pub params : params_on c ≡ params_on d
  pub due : AreDueOn c ↔ AreDueOn d
  pub sound : IsSound c ↔ IsSound d

-- whether a refusal speaks of the content: a fault of the site and want of memory don't
abbrev pub is_of_content : gate.OpenFault → Bool
is_of_content open_fault.Blank = true
is_of_content open_fault.Foreign = true
is_of_content (open_fault.Damaged page offset) = true
is_of_content open_fault.SiteFault = false
is_of_content open_fault.Memory = false

-- an opening, and a load of pages, are never refused by a fault of the site or by want of memory
pub record RefusalsAreOfContents : Type 0 where
  pub openings : (c : List ℕ) → IfSome (refusal_on c) (λ fault. is_of_content fault ≡ true)
  pub gates : (c : List ℕ) (fault : gate.OpenFault) → opening c ≡ Refuses fault → is_of_content fault ≡ true
  pub loads : (pages : List (List ℕ)) → load_of pages ≡ Err Memory → ⊥

-- contents that the gate checks answer alike, with the same list of pages, are alike as stores
abbrev pub SameOpeningsAreAlike : Type 0
SameOpeningsAreAlike = (c d : List ℕ) → opening c ≡ opening d → AreAlike c d

-- a list of pages that loads, with the lines that are due, is, behind the gate, a store with what was loaded
abbrev pub LoadsAreStores : Type 0
LoadsAreStores =
    (c : List ℕ) (pages : List (List ℕ)) (image : Image) → opening c ≡ Opens pages → load_of pages ≡ Ok image
    → AreDueIn pages → IsStore image.head.values image.records.vectors image.head.batches c

-- where a list of pages loads, its lines are due exactly where what was loaded stands for the records
abbrev pub DueLinesStand : Type 0
DueLinesStand =
    (pages : List (List ℕ)) (image : Image) → load_of pages ≡ Ok image
    → AreDueIn pages ↔ Stand (distance_of image.head.values.metric) image.records image.kept

-- a list of pages that loads has as many records as page 1 says
abbrev pub LoadsCountRecords : Type 0
LoadsCountRecords =
    (pages : List (List ℕ)) (image : Image) → load_of pages ≡ Ok image
    → count_said pages ≡ map.len image.records.vectors

-- clusters whose lines are due hang on cores
abbrev pub StandingAreHung : Type 0
StandingAreHung =
    (dist : List ℕ → List ℕ → ℕ) (records : held.Held) (kept : Kept) → Stand dist records kept
    → AreHung kept.counts

-- a store that no batch has come to
pub record IsNew (h : HeadValue) : Type 0 where
  pub lawful : IsHead h
  pub pages : h.pages ≡ 2
  pub batches : h.batches ≡ 0
  pub count : h.count ≡ 0

-- what a new store loads as: no records
abbrev pub new_image : HeadValue → Image
new_image h =
    let width = width_of h.values.metric h.values.dim in
    image_with h (record { width = width; vectors = map.empty }) (nothing_kept width h.values.eps h.values.minpts)

-- the head page of a new store, alone, loads as no records
abbrev pub NewStoresLoad : Type 0
NewStoresLoad = (h : HeadValue) → IsNew h → load_of (head_page h ∷ []) ≡ Ok (new_image h)

-- and has no line that isn't due
abbrev pub NewStoresAreDue : Type 0
NewStoresAreDue = (h : HeadValue) → IsNew h → AreDueIn (head_page h ∷ [])

-- the gate counts as many pages as a head page says
abbrev pub HeadsCountPages : Type 0
HeadsCountPages = (h : HeadValue) → IsHead h → count_of (head_page h) ≡ h.pages
