-- Each page has one spelling: it is read as a value exactly where it is the written form of that value.
use Rattle.std.specs.Prelude.{◌≡◌, ◌↔◌, ℕ, List, length, Ok, IsTrue}
use Rattle.vec_record.specs.Vectors.{AreBytes}
use Rattle.vec_record.specs.Limits.{are_within, width_of}
use Rattle.page_layout.specs.Heads.{Values, HeadValue, IsHead, head_of, head_page}
use Rattle.page_layout.specs.Slots.{Rows, AreRows, rows_of_page, record_page}
use Rattle.page_layout.specs.declared.body.Body.{Body}
use Rattle.page_layout.specs.Bodies.{body_of, IsBody, body_bytes}
use Rattle.mtree_node.specs.Preorder.{LeafRow, InnerRow}
use Rattle.page_layout.specs.Leaves.{AreLeaves, leaves_of, leaf_page}
use Rattle.page_layout.specs.Inner.{AreInner, inner_of, inner_page}

-- the bytes of a page
pub record IsPage (page : List ℕ) : Type 0 where
  pub len : length page ≡ 16384
  pub bytes : AreBytes page

-- a head page
abbrev pub HeadsHaveOneSpelling : Type 0
HeadsHaveOneSpelling = (page : List ℕ) (h : HeadValue) → IsPage page → (head_of page ≡ Ok h) ↔ (IsHead h × (page ≡ head_page h))

-- a page of records
abbrev pub RowsHaveOneSpelling : Type 0
RowsHaveOneSpelling =
    (v : Values) (page : List ℕ) (rows : Rows) → IsTrue (are_within v.metric v.dim v.eps v.minpts v.cap) → IsPage page
    → (rows_of_page v page ≡ Ok rows) ↔ (AreRows v rows × (page ≡ record_page (width_of v.metric v.dim) rows))

-- a body page of any kind
abbrev pub BodiesHaveOneSpelling : Type 0
BodiesHaveOneSpelling =
    (v : Values) (page : List ℕ) (body : Body) → IsTrue (are_within v.metric v.dim v.eps v.minpts v.cap) → IsPage page
    → (body_of v page ≡ Ok body) ↔ (IsBody v body × (page ≡ body_bytes v body))

-- and what is written is a page
abbrev pub WrittenArePages : Type 0
WrittenArePages =
    ((h : HeadValue) → IsHead h → IsPage (head_page h))
    × ((v : Values) (body : Body) → IsTrue (are_within v.metric v.dim v.eps v.minpts v.cap) → IsBody v body → IsPage (body_bytes v body))

-- the same of a page of leaves, and of a page with an inner node
abbrev pub LeavesHaveOneSpelling : Type 0
LeavesHaveOneSpelling = (page : List ℕ) (leaves : List (List LeafRow)) → IsPage page → (leaves_of page ≡ Ok leaves) ↔ (AreLeaves leaves × (page ≡ leaf_page leaves))

abbrev pub LeavesArePages : Type 0
LeavesArePages = (leaves : List (List LeafRow)) → AreLeaves leaves → IsPage (leaf_page leaves)

abbrev pub InnerHaveOneSpelling : Type 0
InnerHaveOneSpelling =
    (v : Values) (page : List ℕ) (rows : List InnerRow) → IsTrue (are_within v.metric v.dim v.eps v.minpts v.cap) → IsPage page
    → (inner_of v page ≡ Ok rows) ↔ (AreInner v rows × (page ≡ inner_page (width_of v.metric v.dim) rows))

abbrev pub InnerArePages : Type 0
InnerArePages = (v : Values) (rows : List InnerRow) → IsTrue (are_within v.metric v.dim v.eps v.minpts v.cap) → AreInner v rows → IsPage (inner_page (width_of v.metric v.dim) rows)
