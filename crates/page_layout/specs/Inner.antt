-- Pages of inner nodes, each with one node: its entries, or none if it is free.
use Rattle.std.specs.Prelude.{◌≢◌, ℕ, ◌+◌, ◌-◌, ◌*◌, ◌<◌, ◌≤◌, ◌^◌, ◌==◌, nat_le, Bool, ◌||◌, not, List, [], ◌∷◌, ◌++◌, length, map, replicate, get_or, Result, IsTrue}
use Rattle.std.specs.List.{AllByRecursion, flat_map, range_with_len}
use Rattle.vec_record.specs.Distance.{greatest_of}
use Rattle.vec_record.specs.Limits.{is_between, width_of}
use Rattle.vec_record.specs.Spelled.{is_spelled}
use Rattle.vec_record.specs.Vectors.{IsVector}
use Rattle.page_gate.specs.Gate.{part, number_4}
use Rattle.mtree_node.specs.Preorder.{InnerRow}
use Rattle.page_layout.specs.declared.fault.LayoutFault.{LayoutFault}
use Rattle.page_layout.specs.Fields.{Field, word, zero_fields, first_bad, unless_bad}
use Rattle.page_layout.specs.Heads.{Values}

-- where an entry begins, for objects of this width
abbrev pub inner_row_at : ℕ → ℕ → ℕ
inner_row_at width k = 16 + (12 + width) * k

-- how many entries there may be: none in a free page, else 2 to 30
abbrev pub is_inner_fill : ℕ → Bool
is_inner_fill n = (n == 0) || is_between 2 30 n

-- The fields of an entry: its child is not 0, its radius is at most the greatest distance, and its object has no bit
-- past its last, which is charged to its last byte.
abbrev pub inner_row_fields : Values → List ℕ → ℕ → List Field
inner_row_fields v page at =
    let width = width_of v.metric v.dim in
    (at, not (number_4 at page == 0)) ∷ (at + 8, nat_le (number_4 (at + 8) page) (greatest_of v.metric width))
    ∷ (at + 11 + width, is_spelled v.metric v.dim (part (at + 12) width page)) ∷ []

-- the fields of the first n entries
abbrev pub inner_rows_fields : Values → List ℕ → ℕ → List Field
inner_rows_fields v page n = flat_map (λ k. inner_row_fields v page (inner_row_at (width_of v.metric v.dim) k)) (range_with_len 0 n)

-- the fields of a node: how many entries it has, zeros, the entries, and zeros to the page's end
unfoldable pub inner_node_fields : Values → List ℕ → List Field
inner_node_fields v page =
    let fill = number_4 4 page in
    let end = inner_row_at (width_of v.metric v.dim) fill in
    (4, is_inner_fill fill) ∷ (zero_fields 8 8 page ++ (inner_rows_fields v page fill ++ zero_fields end (16384 - end) page))

-- the fields of a page with an inner node by rising offset: its kind, zeros, and the node
unfoldable pub inner_fields : Values → List ℕ → List Field
inner_fields v page = (0, get_or page 0 0 == 3) ∷ (zero_fields 1 3 page ++ inner_node_fields v page)

-- what an entry says
abbrev pub inner_row_in : ℕ → List ℕ → ℕ → InnerRow
inner_row_in width page at = (number_4 at page, number_4 (at + 4) page, number_4 (at + 8) page, part (at + 12) width page)

-- what the entries of a page say
abbrev pub inner_rows_in : ℕ → List ℕ → List InnerRow
inner_rows_in width page = map (λ k. inner_row_in width page (inner_row_at width k)) (range_with_len 0 (number_4 4 page))

-- what a page says as a page with an inner node: damaged at the first field that isn't lawful, or its entries
unfoldable pub inner_of : Values → List ℕ → Result (List InnerRow) LayoutFault
inner_of v page = unless_bad (first_bad (inner_fields v page)) (inner_rows_in (width_of v.metric v.dim) page)

-- what an entry may hold
pub record IsInnerRow (v : Values) (row : InnerRow) : Type 0 where
  pub child : row.0 ≢ 0
  pub small : row.0 < 2 ^ 32
  pub parent : row.1 < 2 ^ 32
  pub radius : row.2 ≤ greatest_of v.metric (width_of v.metric v.dim)
  pub object : IsVector (width_of v.metric v.dim) row.3
  pub spelled : IsTrue (is_spelled v.metric v.dim row.3)

-- what the entries of a page may be
pub record AreInner (v : Values) (rows : List InnerRow) : Type 0 where
  pub fill : IsTrue (is_inner_fill (length rows))
  pub each : AllByRecursion (IsInnerRow v) rows

-- the bytes of an entry
abbrev pub inner_row_bytes : InnerRow → List ℕ
inner_row_bytes row = word row.0 ++ (word row.1 ++ (word row.2 ++ row.3))

-- the written form of a page with an inner node, 16,384 bytes
unfoldable pub inner_page : ℕ → List InnerRow → List ℕ
inner_page width rows =
    (3 ∷ replicate 3 0) ++ (word (length rows) ++ (replicate 8 0 ++ (flat_map inner_row_bytes rows ++ replicate (16384 - inner_row_at width (length rows)) 0)))
