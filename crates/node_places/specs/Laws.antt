-- Laws over the definitions.
use Rattle.std.specs.Prelude.{◌≡◌, ◌≢◌, ℕ, ◌+◌, ◌-◌, ◌*◌, ◌/◌, ◌%◌, ◌<◌, ◌≤◌, max, true, false, List, ◌++◌, length, get_or}
use Rattle.std.specs.List.{flat_map, range_with_len}
use Rattle.std.specs.FinMap as maps
use Rattle.vec_record.specs.Held as held
use Rattle.vec_record.specs.Held.{NoneAtZero}
use Rattle.node_places.specs.declared.nodes.Tagged.{Tagged}
use Rattle.node_places.specs.Slots.{has, record_slots, AreApart}
use Rattle.node_places.specs.Rising.{IsRising}
use Rattle.node_places.specs.Nodes.{refs_from, pages_from, leaf_refs, inner_refs, numbers_from, leaf_slots, inner_slots, count_of, kinds_after, refs_after}

-- Numbers stand in slots, each in one and nothing else but 0, over whole pages: no fewer than there
-- were slots before, and no page more than they or the numbers fill.
pub record AreSlots (size before : ℕ) (numbers slots : List ℕ) : Type 0 where
  pub once : AreApart slots
  pub same : (n : ℕ) → n ≢ 0 → has slots n ≡ has numbers n
  pub pages : ℕ
  pub whole : length slots ≡ pages * size
  pub no_fewer : before ≤ length slots
  pub few : length slots < max before (length numbers) + size

-- where no number stood in two slots, the records stand in slots after a save
abbrev pub RecordsStand : Type 0
RecordsStand = (size : ℕ) (vectors : held.Rows) (numbers : List ℕ)
    → 0 < size → NoneAtZero vectors → AreApart numbers
    → AreSlots size (length numbers) (maps.keys vectors) (record_slots size vectors numbers)

-- the leaves stand in leaf slots after a save
abbrev pub LeavesStand : Type 0
LeavesStand = (kinds : List ℕ) (nodes : List Tagged)
    → AreSlots 63 (63 * count_of 2 kinds) (numbers_from 1 true nodes) (leaf_slots kinds nodes)

-- and the inner nodes in inner pages
abbrev pub InnersStand : Type 0
InnersStand = (kinds : List ℕ) (nodes : List Tagged)
    → AreSlots 1 (count_of 3 kinds) (numbers_from 1 false nodes) (inner_slots kinds nodes)

-- a number stands in a slot that has this reference
pub record StandsAt (slots refs : List ℕ) (n reference : ℕ) : Type 0 where
  pub at : ℕ
  pub within : at < length slots
  pub number : get_or slots at 0 ≡ n
  pub its : get_or refs at 0 ≡ reference

-- Each node has a reference, none of them twice and none 0: that of the slot in which it stands.
pub record HaveRefs (kinds leaves inners : List ℕ) (nodes : List Tagged) (refs : List ℕ) : Type 0 where
  pub long : length refs ≡ length nodes
  pub once : AreApart refs
  pub some : has refs 0 ≡ false
  pub leaf : (n : ℕ) → has (numbers_from 1 true nodes) n ≡ true
      → StandsAt leaves (leaf_refs kinds) n (get_or refs (n - 1) 0)
  pub inner : (n : ℕ) → has (numbers_from 1 false nodes) n ≡ true
      → StandsAt inners (inner_refs kinds) n (get_or refs (n - 1) 0)

-- so it is where the pages have a slot for each that the nodes stand in
abbrev pub NodesHaveRefs : Type 0
NodesHaveRefs = (kinds leaves inners : List ℕ) (nodes : List Tagged)
    (leaf_size leaf_before inner_size inner_before : ℕ)
    → AreSlots leaf_size leaf_before (numbers_from 1 true nodes) leaves
    → AreSlots inner_size inner_before (numbers_from 1 false nodes) inners
    → length leaves ≤ length (leaf_refs kinds) → length inners ≤ length (inner_refs kinds)
    → HaveRefs kinds leaves inners nodes (refs_after kinds leaves inners nodes)

-- after a save the pages have exactly the slots that its nodes by slot have
pub record AreEnough (kinds leaves inners : List ℕ) : Type 0 where
  pub leaf : length (leaf_refs kinds) ≡ length leaves
  pub inner : length (inner_refs kinds) ≡ length inners

abbrev pub PagesAreEnough : Type 0
PagesAreEnough = (kinds : List ℕ) (nodes : List Tagged) (records : ℕ)
    → AreEnough
    (kinds_after kinds records (length (leaf_slots kinds nodes) / 63)
    (length (inner_slots kinds nodes)))
    (leaf_slots kinds nodes) (inner_slots kinds nodes)

-- references rise, and no leaf has that of an inner node
pub record AreParted (kinds : List ℕ) : Type 0 where
  pub leaves : IsRising (leaf_refs kinds)
  pub inners : IsRising (inner_refs kinds)
  pub apart : (n : ℕ) → has (leaf_refs kinds) n ≡ true → has (inner_refs kinds) n ≡ false

abbrev pub RefsAreParted : Type 0
RefsAreParted = (kinds : List ℕ) → AreParted kinds

-- a reference is 64 times a page of the kind, and a slot in it
pub record NamesSlot (kind slots : ℕ) (kinds : List ℕ) (reference : ℕ) : Type 0 where
  pub page : 2 ≤ reference / 64
  pub of_kind : get_or kinds (reference / 64 - 2) 0 ≡ kind
  pub slot : reference % 64 < slots

abbrev pub RefsNameSlots : Type 0
RefsNameSlots = (kind slots : ℕ) (kinds : List ℕ) (reference : ℕ)
    → slots ≤ 64 → has (refs_from kind slots 2 kinds) reference ≡ true
    → NamesSlot kind slots kinds reference

-- the references are those of the pages one after the other, as many as the pages of the kind have slots
pub record AreByPages (kind slots page : ℕ) (kinds : List ℕ) : Type 0 where
  pub pages : refs_from kind slots page kinds
      ≡ flat_map (λ p. range_with_len (64 * p) slots) (pages_from kind page kinds)
  pub count : length (pages_from kind page kinds) ≡ count_of kind kinds
  pub long : length (refs_from kind slots page kinds) ≡ slots * count_of kind kinds
  pub at : (k slot : ℕ) → k < count_of kind kinds → slot < slots
      → get_or (refs_from kind slots page kinds) (k * slots + slot) 0
      ≡ 64 * get_or (pages_from kind page kinds) k 0 + slot
  pub more : (new : List ℕ) → refs_from kind slots page (kinds ++ new)
      ≡ refs_from kind slots page kinds ++ refs_from kind slots (page + length kinds) new

abbrev pub RefsAreByPages : Type 0
RefsAreByPages = (kind slots page : ℕ) (kinds : List ℕ) → AreByPages kind slots page kinds

-- after a save a kind has as many pages as it needs, and none fewer than before
pub record AreCounted (kinds after : List ℕ) (records leaves inners : ℕ) : Type 0 where
  pub record_pages : count_of 1 after ≡ max (count_of 1 kinds) records
  pub leaf_pages : count_of 2 after ≡ max (count_of 2 kinds) leaves
  pub inner_pages : count_of 3 after ≡ max (count_of 3 kinds) inners

abbrev pub KindsAreCounted : Type 0
KindsAreCounted = (kinds : List ℕ) (records leaves inners : ℕ)
    → AreCounted kinds (kinds_after kinds records leaves inners) records leaves inners
