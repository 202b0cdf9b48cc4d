-- How many slots and pages there are after a save, and that each reference names a body page.
use Rattle.std.proofs.Common.{◌≡◌, ◌≢◌, ◌⊎◌, inl, inr, ⊎_elim, ℕ, zero, suc, ◌+◌, ◌-◌, ◌*◌, ◌/◌, ◌<◌, ◌≤◌, max, Bool, true, false, cond, List, [], ◌∷◌, ◌++◌, length, map, replicate, get_or, refl, sym, ◌∙◌, ap, subst, arith}
use Rattle.std.specs.Prelude.{not}
use Rattle.std.specs.List.{count_by}
use Rattle.std.proofs.lemmas.Bool.{cases_Bool, false≢true}
use Rattle.std.proofs.lemmas.List.{length-map}
use Rattle.mtree_node.specs.declared.shape.Shape.{Shape}
use Rattle.node_refs.proofs.Once.{counted_cons, uncounted_cons}
use Rattle.node_places.specs.declared.nodes.Tagged.{Tagged}
use Rattle.node_places.specs.Slots.{has}
use Rattle.node_places.specs.Nodes.{refs_from, leaf_refs, inner_refs, is_of, numbers_from, count_of, leaf_slots, inner_slots, kinds_after, refs_after}
use Rattle.node_places.specs.Laws.{AreSlots, AreEnough, AreCounted, HaveRefs, StandsAt}
use Rattle.node_places.proofs.Parted.{length-refs, kinds_are_counted}
use Rattle.node_places.proofs.References.{refs_below}
use Rattle.node_places.proofs.Keeping.{numbers_more, numbers_here, leaves_stand, inners_stand}
use Rattle.node_places.proofs.Returned.{nodes_have_refs, pages_are_enough}
use Rattle.node_refs.specs.Laws.{AreLaid}
use Rattle.tree_layout.specs.Layouts.{Laid, tagged, laid_of, pages_of}
use Rattle.tree_layout.specs.Laws.{IsKind, AreKinds, AreSized, leaf_count, inner_count, NodesAreLaid, LayoutsAreSized}
use Rattle.tree_layout.proofs.Lists.{all_at, all_both, has_at}
use Rattle.tree_layout.proofs.Saved.{are_laid}

-- the kinds of pages that are added
kinds_same : (n kind : ℕ) → IsKind kind → AreKinds (replicate n kind)
kinds_same zero kind is = tt
kinds_same (suc n) kind is = (is, kinds_same n kind is)

pub kinds_are : (kinds : List ℕ) (records leaves inners : ℕ) → AreKinds kinds
    → AreKinds (kinds_after kinds records leaves inners)
kinds_are kinds records leaves inners are =
    let a = records - count_of 1 kinds in
    let b = leaves - count_of 2 kinds in
    let c = inners - count_of 3 kinds in
    all_both IsKind kinds (replicate a 1 ++ (replicate b 2 ++ replicate c 3)) are
    (all_both IsKind (replicate a 1) (replicate b 2 ++ replicate c 3) (kinds_same a 1 (inl refl))
    (all_both IsKind (replicate b 2) (replicate c 3) (kinds_same b 2 (inr (inl refl))) (kinds_same c 3 (inr (inr refl)))))

-- how many numbers nodes of a kind have
pub numbers_count : (leaf : Bool) (i : ℕ) (nodes : List Tagged)
    → length (numbers_from i leaf nodes) ≡ count_by (is_of leaf) nodes
numbers_count leaf i [] = refl
numbers_count leaf i (node ∷ nodes) =
    let behind = numbers_from (i + 1) leaf nodes in
    let rest = numbers_count leaf (i + 1) nodes in
    let Long : Bool → Type 0 = λ b. length (cond b (i ∷ behind) behind) ≡ count_by (is_of leaf) (node ∷ nodes) in
    elim (cases_Bool (is_of leaf node)) [
      | inl is ↦ subst Long (sym is) (omega (arith, rest, counted_cons (is_of leaf) node nodes is))
      | inr other ↦ subst Long (sym other) (rest ∙ sym (uncounted_cons (is_of leaf) node nodes other))
    ]

-- each node is a leaf or none
kind_of : (i : ℕ) (nodes : List Tagged) (k : ℕ) → k < length nodes
    → (has (numbers_from i true nodes) (i + k) ≡ true) ⊎ (has (numbers_from i false nodes) (i + k) ≡ true)
kind_of i [] k lt = absurd (omega (arith, lt))
kind_of i (node ∷ nodes) zero lt =
    let here : i ≡ i + 0 = omega arith in
    let Its : Bool → ℕ → Type 0 = λ leaf n. has (numbers_from i leaf (node ∷ nodes)) n ≡ true in
    elim (cases_Bool node.leaf) [
      | inl is ↦ inl (subst (Its true) here (numbers_here true i node nodes is))
      | inr is ↦ inr (subst (Its false) here (numbers_here false i node nodes (ap not is)))
    ]
kind_of i (node ∷ nodes) (suc k) lt =
    let next : i + 1 + k ≡ i + suc k = omega arith in
    let Its : Bool → ℕ → Type 0 = λ leaf n. has (numbers_from i leaf (node ∷ nodes)) n ≡ true in
    ⊎_elim
    (λ is. inl (subst (Its true) next (numbers_more true i node nodes (i + 1 + k) is)))
    (λ is. inr (subst (Its false) next (numbers_more false i node nodes (i + 1 + k) is)))
    (kind_of (i + 1) nodes k (omega (arith, lt)))

-- numbers of slots and pages
pages_few : (before nodes slots pages : ℕ) → slots < max (63 * before) nodes + 63
    → pages ≡ max before (slots / 63) → pages ≤ max before ((nodes + 62) / 63)
pages_few before nodes slots pages few is = omega (arith, few, is)

inners_few : (before nodes slots pages : ℕ) → slots < max before nodes + 1
    → pages ≡ max before slots → pages ≤ max before nodes
inners_few before nodes slots pages few is = omega (arith, few, is)

page_below : (r pages : ℕ) → r < 64 * (2 + pages) → r / 64 < pages + 2
page_below r pages lt = omega (arith, lt)

at_most : (a b : ℕ) → a ≡ b → b ≤ a
at_most a b same = omega (arith, same)

module _ (kinds : List ℕ) (records : ℕ) (after leaves inners refs : List ℕ) (shapes : List Shape) where
  abbrev nodes : List Tagged
  nodes = map tagged shapes

  abbrev laid : Laid
  laid = record { leaves = leaves; inners = inners; kinds = after; refs = refs }

  module _ (are : AreKinds after) (leaf : AreSlots 63 (63 * count_of 2 kinds) (numbers_from 1 true nodes) leaves) (inner : AreSlots 1 (count_of 3 kinds) (numbers_from 1 false nodes) inners)
      (have : HaveRefs after leaves inners nodes refs) (enough : AreEnough after leaves inners) (counted : AreCounted kinds after records (length leaves / 63) (length inners)) where
    -- a reference of a slot of a kind names a body page
    below : (kind slots k : ℕ) → slots ≤ 64 → k < length (refs_from kind slots 2 after)
        → get_or (refs_from kind slots 2 after) k 0 / 64 < length after + 2
    below kind slots k few lt =
        page_below (get_or (refs_from kind slots 2 after) k 0) (length after) (refs_below kind slots 2 after (64 * (2 + length after)) few (omega arith) k 0 lt)

    abbrev IsBelow : ℕ → Type 0
    IsBelow r = r / 64 < length after + 2

    ref_below : (k : ℕ) → k < length refs → IsBelow (get_or refs k 0)
    ref_below k lt =
        let back : 1 + k - 1 ≡ k = omega arith in
        let is_at : get_or refs (1 + k - 1) 0 ≡ get_or refs k 0 = ap (λ (i : ℕ). get_or refs i 0) back in
        elim (kind_of 1 nodes k (subst (λ (n : ℕ). k < n) have.long lt)) [
          | inl is ↦
              let its : StandsAt leaves (leaf_refs after) (1 + k) (get_or refs (1 + k - 1) 0) = have.leaf (1 + k) is in
              subst IsBelow (its.its ∙ is_at) (below 2 63 its.at (omega arith) (subst (λ (n : ℕ). its.at < n) (sym enough.leaf) its.within))
          | inr is ↦
              let its : StandsAt inners (inner_refs after) (1 + k) (get_or refs (1 + k - 1) 0) = have.inner (1 + k) is in
              subst IsBelow (its.its ∙ is_at) (below 3 1 its.at (omega arith) (subst (λ (n : ℕ). its.at < n) (sym enough.inner) its.within))
        ]

    ref_some : (k : ℕ) → k < length refs → get_or refs k 0 ≢ 0
    ref_some k lt is = false≢true (sym have.some ∙ ap (has refs) (sym is) ∙ has_at refs k lt)

    one_each : (n : ℕ) → 1 * n ≡ n
    one_each n = omega arith

    pub are_sized : AreSized kinds records shapes laid
    are_sized = record {
      kinds_are = are;
      leaf_slots_are = sym enough.leaf ∙ length-refs 2 63 2 after;
      inner_slots_are = sym enough.inner ∙ length-refs 3 1 2 after ∙ one_each (count_of 3 after);
      record_pages = counted.record_pages;
      leaf_pages = pages_few (count_of 2 kinds) (leaf_count shapes) (length leaves) (count_of 2 after) (subst (λ (n : ℕ). length leaves < max (63 * count_of 2 kinds) n + 63) (numbers_count true 1 nodes) leaf.few) counted.leaf_pages;
      inner_pages = inners_few (count_of 3 kinds) (inner_count shapes) (length inners) (count_of 3 after) (subst (λ (n : ℕ). length inners < max (count_of 3 kinds) n + 1) (numbers_count false 1 nodes) inner.few) counted.inner_pages;
      refs_are = have.long ∙ length-map shapes tagged;
      some = all_at (λ r. r ≢ 0) refs ref_some;
      below = all_at IsBelow refs ref_below;
    }

-- the slots, pages and references of a save
module _ (kinds : List ℕ) (records : ℕ) (shapes : List Shape) (are : AreKinds kinds) where
  abbrev tags : List Tagged
  tags = map tagged shapes

  abbrev leaves : List ℕ
  leaves = leaf_slots kinds tags

  abbrev inners : List ℕ
  inners = inner_slots kinds tags

  abbrev after : List ℕ
  after = kinds_after kinds records (length leaves / 63) (length inners)

  abbrev refs : List ℕ
  refs = refs_after after leaves inners tags

  after_are : AreKinds after
  after_are = kinds_are kinds records (length leaves / 63) (length inners) are

  enough : AreEnough after leaves inners
  enough = pages_are_enough kinds tags records

  have : HaveRefs after leaves inners tags refs
  have = nodes_have_refs after leaves inners tags 63 (63 * count_of 2 kinds) 1 (count_of 3 kinds) (leaves_stand kinds tags) (inners_stand kinds tags)
      (at_most (length (leaf_refs after)) (length leaves) enough.leaf) (at_most (length (inner_refs after)) (length inners) enough.inner)

  pub saved_are_laid : AreLaid (pages_of (laid_of kinds records shapes) shapes) shapes refs
  saved_are_laid =
      are_laid after leaves inners refs shapes after_are have enough (leaves_stand kinds tags).once (inners_stand kinds tags).once

  pub saved_are_sized : AreSized kinds records shapes (laid_of kinds records shapes)
  saved_are_sized =
      are_sized kinds records after leaves inners refs shapes after_are (leaves_stand kinds tags) (inners_stand kinds tags) have enough (kinds_are_counted kinds records (length leaves / 63) (length inners))

pub nodes_are_laid : NodesAreLaid
nodes_are_laid kinds records shapes are rows = saved_are_laid kinds records shapes are

pub layouts_are_sized : LayoutsAreSized
layouts_are_sized kinds records shapes are = saved_are_sized kinds records shapes are
