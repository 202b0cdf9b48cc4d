-- What stands in pages that were filled slot by slot, and which of their places are used.
use Rattle.std.proofs.Common.{◌≡◌, inl, inr, ℕ, zero, suc, ◌+◌, ◌-◌, ◌*◌, ◌/◌, ◌%◌, ◌<◌, ◌≤◌, List, [], ◌∷◌, ◌++◌, length, take, drop, get_or, refl, sym, ◌∙◌, ap, subst, arith, length-append}
use Rattle.std.specs.Prelude.{◌==◌, if◌then◌else◌}
use Rattle.std.specs.List.{range_with_len, AllByRecursion}
use Rattle.std.proofs.lemmas.Bool.{cases_lt}
use Rattle.std.proofs.lemmas.List.{get_or-take, get_or-drop, get_or_append_left, get_or-append-add, length-take, length-drop}
use Rattle.std.proofs.lemmas.List.FromFn.{length-range_with_len, get_or-range_with_len}
use Rattle.std.proofs.lemmas.Nat.{div-mul-add, mod-mul-add}
use Rattle.mtree_node.specs.Preorder.{LeafRow, InnerRow}
use Rattle.node_refs.specs.declared.pages.NodePage.{NodePage}
use Rattle.node_refs.specs.declared.pages.NodePage.TheVariants as page
use Rattle.node_refs.specs.Pages.{leaf_in, inner_in, slot_refs, page_refs, refs_from as used_from}
use Rattle.node_places.specs.Nodes.{refs_from}
use Rattle.tree_layout.specs.Layouts.{pages_with}
use Rattle.tree_layout.specs.Laws.{IsKind, AreKinds}
use Rattle.tree_layout.proofs.Lists.{all_both}

-- at a reference stand the rows of a leaf, where the first page has this number
pub record HoldsLeaf (first : ℕ) (pages : List NodePage) (r : ℕ) (rows : List LeafRow) : Type 0 where
  pub from : first ≤ r / 64
  pub its : leaf_in (get_or pages (r / 64 - first) page.Records) (r % 64) ≡ rows

-- and those of an inner node
pub record HoldsInner (first : ℕ) (pages : List NodePage) (r : ℕ) (rows : List InnerRow) : Type 0 where
  pub from : first ≤ r / 64
  pub slot : r % 64 ≡ 0
  pub its : inner_in (get_or pages (r / 64 - first) page.Records) ≡ rows

leaf_same : (first : ℕ) (pages : List NodePage) (r q : ℕ) (rows others : List LeafRow) → r ≡ q
    → rows ≡ others → HoldsLeaf first pages r rows → HoldsLeaf first pages q others
leaf_same first pages r q rows others at same holds =
    subst (λ (k : ℕ). HoldsLeaf first pages k others) at (record { from = holds.from; its = holds.its ∙ same })

inner_same : (first : ℕ) (pages : List NodePage) (r q : ℕ) (rows others : List InnerRow) → r ≡ q
    → rows ≡ others → HoldsInner first pages r rows → HoldsInner first pages q others
inner_same first pages r q rows others at same holds =
    subst (λ (k : ℕ). HoldsInner first pages k others) at (record { from = holds.from; slot = holds.slot; its = holds.its ∙ same })

leaf_behind : (first : ℕ) (p : NodePage) (pages : List NodePage) (r : ℕ) (rows : List LeafRow)
    → HoldsLeaf (first + 1) pages r rows → HoldsLeaf first (p ∷ pages) r rows
leaf_behind first p pages r rows holds =
    let next : r / 64 - first ≡ suc (r / 64 - (first + 1)) = omega (arith, holds.from) in
    record {
      from = omega (arith, holds.from);
      its = ap (λ (i : ℕ). leaf_in (get_or (p ∷ pages) i page.Records) (r % 64)) next ∙ holds.its;
    }

inner_behind : (first : ℕ) (p : NodePage) (pages : List NodePage) (r : ℕ) (rows : List InnerRow)
    → HoldsInner (first + 1) pages r rows → HoldsInner first (p ∷ pages) r rows
inner_behind first p pages r rows holds =
    let next : r / 64 - first ≡ suc (r / 64 - (first + 1)) = omega (arith, holds.from) in
    record {
      from = omega (arith, holds.from);
      slot = holds.slot;
      its = ap (λ (i : ℕ). inner_in (get_or (p ∷ pages) i page.Records)) next ∙ holds.its;
    }

-- a reference's page and slot
module _ (first slot : ℕ) (few : slot < 64) where
  page_of : (64 * first + slot) / 64 ≡ first
  page_of = let same : 64 * first + slot ≡ first * 64 + slot = omega arith in
      ap (λ (r : ℕ). r / 64) same ∙ div-mul-add first 64 slot few

  slot_of : (64 * first + slot) % 64 ≡ slot
  slot_of = let same : 64 * first + slot ≡ first * 64 + slot = omega arith in
      ap (λ (r : ℕ). r % 64) same ∙ mod-mul-add first 64 slot few

  leaf_here : (slots : List (List LeafRow)) (pages : List NodePage)
      → HoldsLeaf first (page.Leaves slots ∷ pages) (64 * first + slot) (get_or slots slot [])
  leaf_here slots pages =
      let here : (64 * first + slot) / 64 - first ≡ 0 = omega (arith, page_of) in
      record {
        from = omega (arith, page_of);
        its = ap (λ (i : ℕ). leaf_in (get_or (page.Leaves slots ∷ pages) i page.Records) ((64 * first + slot) % 64)) here
            ∙ ap (λ (i : ℕ). get_or slots i []) slot_of;
      }

inner_here : (first : ℕ) (rows : List InnerRow) (pages : List NodePage)
    → HoldsInner first (page.Inner rows ∷ pages) (64 * first + 0) rows
inner_here first rows pages =
    let page_is = page_of first 0 (omega arith) in
    let here : (64 * first + 0) / 64 - first ≡ 0 = omega (arith, page_is) in
    record {
      from = omega (arith, page_is);
      slot = slot_of first 0 (omega arith);
      its = ap (λ (i : ℕ). inner_in (get_or (page.Inner rows ∷ pages) i page.Records)) here;
    }

-- pages with so many slots in a leaf page
module _ (size : ℕ) where
  abbrev pub pages_by : List ℕ → List (List LeafRow) → List (List InnerRow) → List NodePage
  pages_by [] leaves inners = []
  pages_by (kind ∷ kinds) leaves inners =
      if kind == 1 then page.Records ∷ pages_by kinds leaves inners
      else if kind == 2 then page.Leaves (take size leaves) ∷ pages_by kinds (drop size leaves) inners
      else page.Inner (get_or inners 0 []) ∷ pages_by kinds leaves (drop 1 inners)

  -- each case of the first page's kind
  by_kind : (P : ℕ → Type 0) → P 1 → P 2 → P 3 → (kind : ℕ) → IsKind kind → P kind
  by_kind P one two three kind (inl is) = subst P (sym is) one
  by_kind P one two three kind (inr (inl is)) = subst P (sym is) two
  by_kind P one two three kind (inr (inr is)) = subst P (sym is) three

  -- the references of a page of leaves, and those behind it
  module _ (first : ℕ) (refs : List ℕ) where
    abbrev with_page : List ℕ
    with_page = range_with_len (64 * first) size ++ refs

    ref_here : (k : ℕ) → k < size → get_or with_page k 0 ≡ 64 * first + k
    ref_here k lt =
        get_or_append_left (range_with_len (64 * first) size) refs 0 k (omega (arith, lt, length-range_with_len (64 * first) size))
        ∙ get_or-range_with_len (64 * first) size k 0 lt

    ref_later : (j : ℕ) → get_or with_page (size + j) 0 ≡ get_or refs j 0
    ref_later j = ap (λ (n : ℕ). get_or with_page (n + j) 0) (sym (length-range_with_len (64 * first) size))
        ∙ get_or-append-add (range_with_len (64 * first) size) refs j 0

    ref_count : length with_page ≡ size + length refs
    ref_count = length-append (range_with_len (64 * first) size) refs
        ∙ ap (λ (n : ℕ). n + length refs) (length-range_with_len (64 * first) size)

  module _ (few : size ≤ 64) where
    -- each leaf slot holds its leaf
    abbrev pub LeavesHold : ℕ → List ℕ → Type 0
    LeavesHold first kinds =
        (leaves : List (List LeafRow)) (inners : List (List InnerRow)) (k : ℕ)
        → length leaves ≡ length (refs_from 2 size first kinds) → k < length leaves
        → HoldsLeaf first (pages_by kinds leaves inners) (get_or (refs_from 2 size first kinds) k 0) (get_or leaves k [])

    module _ (kinds : List ℕ) (first : ℕ) (rest : LeavesHold (first + 1) kinds) where
      abbrev refs : List ℕ
      refs = refs_from 2 size (first + 1) kinds

      in_leaves : LeavesHold first (2 ∷ kinds)
      in_leaves leaves inners k long within =
          let behind = pages_by kinds (drop size leaves) inners in
          let pages = page.Leaves (take size leaves) ∷ behind in
          elim (cases_lt k size) [
            | inl lt ↦ leaf_same first pages (64 * first + k) (get_or (with_page first refs) k 0) (get_or (take size leaves) k []) (get_or leaves k []) (sym (ref_here first refs k lt)) (get_or-take size leaves k [] lt)
                (leaf_here first k (omega (arith, lt, few)) (take size leaves) behind)
            | inr ge ↦
                let j = k - size in
                let at : size + j ≡ k = omega (arith, ge) in
                let count = ref_count first refs in
                leaf_same first pages (get_or refs j 0) (get_or (with_page first refs) k 0) (get_or (drop size leaves) j []) (get_or leaves k []) (sym (ref_later first refs j) ∙ ap (λ (i : ℕ). get_or (with_page first refs) i 0) at) (get_or-drop size leaves j [] ∙ ap (λ (i : ℕ). get_or leaves i []) at)
                (leaf_behind first (page.Leaves (take size leaves)) behind (get_or refs j 0) (get_or (drop size leaves) j []) (rest (drop size leaves) inners j (omega (arith, length-drop size leaves, long, count)) (omega (arith, length-drop size leaves, within, ge))))
          ]

      pub leaf_more : (kind : ℕ) → IsKind kind → LeavesHold first (kind ∷ kinds)
      leaf_more = by_kind (λ kind. LeavesHold first (kind ∷ kinds))
          (λ leaves inners k long within. leaf_behind first page.Records (pages_by kinds leaves inners) (get_or refs k 0) (get_or leaves k []) (rest leaves inners k long within))
          in_leaves
          (λ leaves inners k long within. leaf_behind first (page.Inner (get_or inners 0 [])) (pages_by kinds leaves (drop 1 inners)) (get_or refs k 0) (get_or leaves k []) (rest leaves (drop 1 inners) k long within))

    pub leaves_hold : (kinds : List ℕ) (first : ℕ) → AreKinds kinds → LeavesHold first kinds
    leaves_hold [] first are = λ leaves inners k long within. absurd (omega (arith, long, within))
    leaves_hold (kind ∷ kinds) first are =
        leaf_more kinds first (leaves_hold kinds (first + 1) are.1) kind are.0

  -- each inner page holds its node
  abbrev pub InnersHold : ℕ → List ℕ → Type 0
  InnersHold first kinds =
      (leaves : List (List LeafRow)) (inners : List (List InnerRow)) (k : ℕ)
      → length inners ≡ length (refs_from 3 1 first kinds) → k < length inners
      → HoldsInner first (pages_by kinds leaves inners) (get_or (refs_from 3 1 first kinds) k 0) (get_or inners k [])

  module _ (kinds : List ℕ) (first : ℕ) (rest : InnersHold (first + 1) kinds) where
    abbrev inner_refs : List ℕ
    inner_refs = refs_from 3 1 (first + 1) kinds

    in_inner : InnersHold first (3 ∷ kinds)
    in_inner leaves inners zero long within =
        let same : 64 * first + 0 ≡ 64 * first = omega arith in
        inner_same first (pages_by (3 ∷ kinds) leaves inners) (64 * first + 0) (64 * first) (get_or inners 0 []) (get_or inners 0 []) same refl
        (inner_here first (get_or inners 0 []) (pages_by kinds leaves (drop 1 inners)))
    in_inner leaves inners (suc j) long within =
        let at : 1 + j ≡ suc j = omega arith in
        inner_same first (pages_by (3 ∷ kinds) leaves inners) (get_or inner_refs j 0) (get_or inner_refs j 0) (get_or (drop 1 inners) j []) (get_or inners (suc j) []) refl (get_or-drop 1 inners j [] ∙ ap (λ (i : ℕ). get_or inners i []) at)
        (inner_behind first (page.Inner (get_or inners 0 [])) (pages_by kinds leaves (drop 1 inners)) (get_or inner_refs j 0) (get_or (drop 1 inners) j []) (rest leaves (drop 1 inners) j (omega (arith, length-drop 1 inners, long)) (omega (arith, length-drop 1 inners, within))))

    pub inner_more : (kind : ℕ) → IsKind kind → InnersHold first (kind ∷ kinds)
    inner_more = by_kind (λ kind. InnersHold first (kind ∷ kinds))
        (λ leaves inners k long within. inner_behind first page.Records (pages_by kinds leaves inners) (get_or inner_refs k 0) (get_or inners k []) (rest leaves inners k long within))
        (λ leaves inners k long within. inner_behind first (page.Leaves (take size leaves)) (pages_by kinds (drop size leaves) inners) (get_or inner_refs k 0) (get_or inners k []) (rest (drop size leaves) inners k long within))
        in_inner

  pub inners_hold : (kinds : List ℕ) (first : ℕ) → AreKinds kinds → InnersHold first kinds
  inners_hold [] first are = λ leaves inners k long within. absurd (omega (arith, long, within))
  inners_hold (kind ∷ kinds) first are =
      inner_more kinds first (inners_hold kinds (first + 1) are.1) kind are.0

  -- what holds of the references of the slots that have rows holds of all used places
  module _ (Q : ℕ → Type 0) where
    abbrev pub AreUsed : {A : Type 0} → List (List A) → List ℕ → Type 0
    AreUsed slots refs =
        (k : ℕ) → k < length slots → 0 < length (get_or slots k []) → Q (get_or refs k 0)

    abbrev pub UsedHold : ℕ → List ℕ → Type 0
    UsedHold first kinds = (leaves : List (List LeafRow)) (inners : List (List InnerRow))
        → length leaves ≡ length (refs_from 2 size first kinds)
        → length inners ≡ length (refs_from 3 1 first kinds)
        → AreUsed leaves (refs_from 2 size first kinds)
        → AreUsed inners (refs_from 3 1 first kinds)
        → AllByRecursion Q (used_from first (pages_by kinds leaves inners))

    slots_used : (r : ℕ) (slots : List (List LeafRow))
        → ((k : ℕ) → k < length slots → 0 < length (get_or slots k []) → Q (r + k))
        → AllByRecursion Q (slot_refs r slots)
    slots_used r [] each = tt
    slots_used r ([] ∷ slots) each = slots_used (r + 1) slots (λ k lt some.
        let next : r + suc k ≡ r + 1 + k = omega arith in subst Q next (each (suc k) (omega (arith, lt)) some))
    slots_used r ((row ∷ rows) ∷ slots) each =
        let here : r + 0 ≡ r = omega arith in (
          subst Q here (each 0 (omega arith) (omega arith)),
          slots_used (r + 1) slots (λ k lt some.
              let next : r + suc k ≡ r + 1 + k = omega arith in subst Q next (each (suc k) (omega (arith, lt)) some)),
        )

    inner_used : (first : ℕ) (rows : List InnerRow) → (0 < length rows → Q (64 * first))
        → AllByRecursion Q (page_refs first (page.Inner rows))
    inner_used first [] each = tt
    inner_used first (row ∷ rows) each = (each (omega arith), tt)

    module _ (kinds : List ℕ) (first : ℕ) (rest : UsedHold (first + 1) kinds) where
      used_leaves : UsedHold first (2 ∷ kinds)
      used_leaves leaves inners leaf_long inner_long leaf inner =
          let refs = refs_from 2 size (first + 1) kinds in
          let count = ref_count first refs in
          all_both Q (slot_refs (64 * first) (take size leaves)) (used_from (first + 1) (pages_by kinds (drop size leaves) inners))
          (slots_used (64 * first) (take size leaves) (λ k lt some.
          let in_page : k < size = omega (arith, lt, length-take size leaves) in
          subst Q (ref_here first refs k in_page) (leaf k (omega (arith, lt, length-take size leaves)) (subst (λ (rows : List LeafRow). 0 < length rows) (get_or-take size leaves k [] in_page) some))))
          (rest (drop size leaves) inners (omega (arith, length-drop size leaves, leaf_long, count)) inner_long (λ j lt some.
          subst Q (ref_later first refs j) (leaf (size + j) (omega (arith, lt, length-drop size leaves)) (subst (λ (rows : List LeafRow). 0 < length rows) (get_or-drop size leaves j []) some))) inner)

      used_inner : UsedHold first (3 ∷ kinds)
      used_inner leaves inners leaf_long inner_long leaf inner =
          let refs = refs_from 3 1 (first + 1) kinds in
          all_both Q (page_refs first (page.Inner (get_or inners 0 []))) (used_from (first + 1) (pages_by kinds leaves (drop 1 inners)))
          (inner_used first (get_or inners 0 []) (λ some. inner 0 (omega (arith, inner_long)) some))
          (rest leaves (drop 1 inners) leaf_long (omega (arith, length-drop 1 inners, inner_long)) leaf (λ j lt some.
          let at : 1 + j ≡ suc j = omega arith in
          inner (suc j) (omega (arith, lt, length-drop 1 inners)) (subst (λ (rows : List InnerRow). 0 < length rows) (get_or-drop 1 inners j [] ∙ ap (λ (i : ℕ). get_or inners i []) at) some)))

      pub used_more : (kind : ℕ) → IsKind kind → UsedHold first (kind ∷ kinds)
      used_more = by_kind (λ kind. UsedHold first (kind ∷ kinds))
          (λ leaves inners leaf_long inner_long leaf inner. rest leaves inners leaf_long inner_long leaf inner)
          used_leaves
          used_inner

    pub used_hold : (kinds : List ℕ) (first : ℕ) → AreKinds kinds → UsedHold first kinds
    used_hold [] first are = λ leaves inners leaf_long inner_long leaf inner. tt
    used_hold (kind ∷ kinds) first are =
        used_more kinds first (used_hold kinds (first + 1) are.1) kind are.0

pub pages_same : (kinds : List ℕ) (leaves : List (List LeafRow)) (inners : List (List InnerRow))
    → pages_with kinds leaves inners ≡ pages_by 63 kinds leaves inners
pages_same kinds leaves inners = refl
