-- Pages of leaves: slots of one size, each free or with the entries of a leaf.
use Rattle.std.specs.Prelude.{◌≡◌, ◌≢◌, ℕ, ◌+◌, ◌-◌, ◌*◌, ◌<◌, ◌≤◌, ◌^◌, ◌==◌, nat_le, not, List, [], ◌∷◌, ◌++◌, length, map, replicate, get_or, set, Result}
use Rattle.std.specs.List.{AllByRecursion, flat_map, range_with_len}
use Rattle.page_gate.specs.Gate.{number_4}
use Rattle.mtree_node.specs.Preorder.{LeafRow}
use Rattle.page_layout.specs.declared.fault.LayoutFault.{LayoutFault}
use Rattle.page_layout.specs.Fields.{Field, word, zero_fields, first_bad, unless_bad}

-- where a slot begins
abbrev pub leaf_slot_at : ℕ → ℕ
leaf_slot_at i = 16 + 256 * i

-- where an entry of the slot at an offset begins
abbrev pub leaf_row_at : ℕ → ℕ → ℕ
leaf_row_at at k = at + 16 + 8 * k

-- the one field of an entry: its number is not 0
abbrev pub leaf_row_fields : List ℕ → ℕ → List Field
leaf_row_fields page at = (at, not (number_4 at page == 0)) ∷ []

-- the fields of the first n entries of the slot at an offset
abbrev pub leaf_rows_fields : List ℕ → ℕ → ℕ → List Field
leaf_rows_fields page at n = flat_map (λ k. leaf_row_fields page (leaf_row_at at k)) (range_with_len 0 n)

-- The fields of a slot: how many entries it has, none if it is free, zeros, the entries, and zeros to its end.
abbrev pub leaf_slot_fields : List ℕ → ℕ → List Field
leaf_slot_fields page at =
    let fill = number_4 at page in
    (at, nat_le fill 30) ∷ (zero_fields (at + 4) 12 page ++ (leaf_rows_fields page at fill ++ zero_fields (leaf_row_at at fill) (240 - 8 * fill) page))

-- the fields of the 63 slots
unfoldable pub leaf_slots_fields : List ℕ → List Field
leaf_slots_fields page = flat_map (λ i. leaf_slot_fields page (leaf_slot_at i)) (range_with_len 0 63)

-- the fields of a page of leaves by rising offset: its kind, zeros, the slots, and zeros
unfoldable pub leaf_fields : List ℕ → List Field
leaf_fields page = (0, get_or page 0 0 == 2) ∷ (zero_fields 1 15 page ++ (leaf_slots_fields page ++ zero_fields 16144 240 page))

-- what an entry says
abbrev pub leaf_row_in : List ℕ → ℕ → LeafRow
leaf_row_in page at = (number_4 at page, number_4 (at + 4) page)

-- what a slot says: its entries, none if it is free
abbrev pub leaf_rows_in : List ℕ → ℕ → List LeafRow
leaf_rows_in page at = map (λ k. leaf_row_in page (leaf_row_at at k)) (range_with_len 0 (number_4 at page))

-- what the 63 slots say
unfoldable pub leaves_in : List ℕ → List (List LeafRow)
leaves_in page = map (λ i. leaf_rows_in page (leaf_slot_at i)) (range_with_len 0 63)

-- what a page says as a page of leaves: damaged at the first field that isn't lawful, or its slots
unfoldable pub leaves_of : List ℕ → Result (List (List LeafRow)) LayoutFault
leaves_of page = unless_bad (first_bad (leaf_fields page)) (leaves_in page)

-- what an entry may hold
pub record IsLeafRow (row : LeafRow) : Type 0 where
  pub number : row.0 ≢ 0
  pub small : row.0 < 2 ^ 32
  pub parent : row.1 < 2 ^ 32

-- what a slot may hold
pub record IsLeaf (rows : List LeafRow) : Type 0 where
  pub few : length rows ≤ 30
  pub each : AllByRecursion IsLeafRow rows

-- what the slots of a page may be
pub record AreLeaves (leaves : List (List LeafRow)) : Type 0 where
  pub count : length leaves ≡ 63
  pub each : AllByRecursion IsLeaf leaves

-- the bytes of an entry and of a slot
abbrev pub leaf_row_bytes : LeafRow → List ℕ
leaf_row_bytes row = word row.0 ++ word row.1

abbrev pub leaf_bytes : List LeafRow → List ℕ
leaf_bytes rows = word (length rows) ++ (replicate 12 0 ++ (flat_map leaf_row_bytes rows ++ replicate (240 - 8 * length rows) 0))

-- the written form of a page of leaves, 16,384 bytes
unfoldable pub leaf_page : List (List LeafRow) → List ℕ
leaf_page leaves = (2 ∷ replicate 15 0) ++ (flat_map leaf_bytes leaves ++ replicate 240 0)

-- a page whose slots are lawful gets these entries at a slot that is free, and keeps its other slots
abbrev pub FillsLeaf : ℕ → List LeafRow → List ℕ → List ℕ → Type 0
FillsLeaf slot rows old new =
    (leaves : List (List LeafRow)) → AreLeaves leaves → get_or leaves slot [] ≡ [] → old ≡ leaf_page leaves
    → new ≡ leaf_page (set leaves slot rows)
