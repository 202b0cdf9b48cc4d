-- The nodes of a tree after a save: each stands at its reference, and nothing else stands anywhere.
use Rattle.std.proofs.Common.{◌≡◌, ◌≢◌, inl, inr, ℕ, zero, suc, ◌+◌, ◌-◌, ◌/◌, ◌%◌, ◌<◌, Bool, true, false, List, [], ◌∷◌, length, map, get_or, Option, Some, None, refl, sym, ◌∙◌, ap, subst, arith}
use Rattle.std.specs.Prelude.{◌==◌, nat_le, nat_eq}
use Rattle.std.specs.List.{slice_get}
use Rattle.std.specs.Option.{option_map}
use Rattle.std.proofs.lemmas.Bool.{cases_eq, cond-true, cond-false, eq-eqb, ne_eqb, le-leb}
use Rattle.std.proofs.lemmas.List.{get_or-map, length-map}
use Rattle.std.proofs.lemmas.Option.{slice_get-map, slice_get_within}
use Rattle.mtree_node.specs.declared.shape.Shape.{Shape}
use Rattle.mtree_node.specs.declared.shape.Shape.TheVariants as shape
use Rattle.mtree_node.specs.Preorder.{LeafRow, InnerRow}
use Rattle.node_refs.specs.declared.pages.NodePage.{NodePage}
use Rattle.node_refs.specs.declared.pages.NodePage.TheVariants as page
use Rattle.node_refs.specs.Pages.{page_at, leaf_in, inner_in, leaf_at, inner_at, is_in}
use Rattle.node_refs.specs.Laws.{referring, Stands, AreLaid}
use Rattle.node_places.specs.declared.nodes.Tagged.{Tagged}
use Rattle.node_places.specs.Slots.{has, AreApart}
use Rattle.node_places.specs.Nodes.{leaf_refs, inner_refs, is_of, numbers_from}
use Rattle.node_places.specs.Laws.{AreEnough, HaveRefs, StandsAt}
use Rattle.node_places.proofs.Keeping.{numbers_more, numbers_here}
use Rattle.tree_layout.specs.Layouts.{tagged, node_at, leaf_rows, inner_rows, referred, leaf_for, inner_for, pages_with}
use Rattle.tree_layout.specs.Laws.{AreKinds}
use Rattle.tree_layout.proofs.Lists.{zip_at, has_at, apart_once, same_place}
use Rattle.tree_layout.proofs.Filled.{HoldsLeaf, HoldsInner, leaves_hold, inners_hold, used_hold, AreUsed}

-- nodes by their numbers, which count from i
pub numbered : (leaf : Bool) (i : ℕ) (nodes : List Tagged) (k : ℕ) (node : Tagged)
    → slice_get nodes k ≡ Some node → is_of leaf node ≡ true
    → has (numbers_from i leaf nodes) (i + k) ≡ true
numbered leaf i [] k node at is = absurd (let none : None ≡ Some node = at in cc)
numbered leaf i (n ∷ nodes) zero node at is =
    let same : n ≡ node = let first : Some n ≡ Some node = at in cc in
    let here : i ≡ i + 0 = omega arith in
    subst (λ (m : ℕ). has (numbers_from i leaf (n ∷ nodes)) m ≡ true) here (numbers_here leaf i n nodes (ap (is_of leaf) same ∙ is))
numbered leaf i (n ∷ nodes) (suc k) node at is =
    let next : i + 1 + k ≡ i + suc k = omega arith in
    subst (λ (m : ℕ). has (numbers_from i leaf (n ∷ nodes)) m ≡ true) next (numbers_more leaf i n nodes (i + 1 + k) (numbered leaf (i + 1) nodes k node at is))

-- what stands at a reference
pub leaf_found : (pages : List NodePage) (r : ℕ) (rows : List LeafRow) → HoldsLeaf 2 pages r rows
    → leaf_at pages r ≡ rows
leaf_found pages r rows holds =
    ap (λ (p : NodePage). leaf_in p (r % 64)) (cond-true (nat_le 2 (r / 64)) (get_or pages (r / 64 - 2) page.Records) page.Records (le-leb 2 (r / 64) holds.from))
    ∙ holds.its

pub inner_found : (pages : List NodePage) (r : ℕ) (rows : List InnerRow) → HoldsInner 2 pages r rows
    → inner_at pages r ≡ rows
inner_found pages r rows holds =
    cond-true (nat_eq (r % 64) 0) (inner_in (page_at pages (r / 64))) [] (eq-eqb (r % 64) 0 holds.slot)
    ∙ ap inner_in (cond-true (nat_le 2 (r / 64)) (get_or pages (r / 64 - 2) page.Records) page.Records (le-leb 2 (r / 64) holds.from))
    ∙ holds.its

module _ (kinds leaves inners refs : List ℕ) (shapes : List Shape) where
  abbrev nodes : List Tagged
  nodes = map tagged shapes

  abbrev done : List Shape
  done = map (referred refs) shapes

  abbrev leaf_lists : List (List LeafRow)
  leaf_lists = map (leaf_for done) leaves

  abbrev inner_lists : List (List InnerRow)
  inner_lists = map (inner_for done) inners

  abbrev pages : List NodePage
  pages = pages_with kinds leaf_lists inner_lists

  node_is : (k : ℕ) (s : Shape) → slice_get shapes k ≡ Some s
      → node_at done (k + 1) ≡ Some (referred refs s)
  node_is k s at =
      let back : k + 1 - 1 ≡ k = omega arith in
      cond-false ((k + 1) == 0) None (slice_get done (k + 1 - 1)) (ne_eqb (k + 1) 0 (λ is. omega (arith, is)))
      ∙ ap (slice_get done) back
      ∙ slice_get-map (referred refs) shapes k
      ∙ ap (option_map (referred refs)) at

  number_is : (leaf : Bool) (k : ℕ) (s : Shape) → slice_get shapes k ≡ Some s
      → is_of leaf (tagged s) ≡ true → has (numbers_from 1 leaf nodes) (k + 1) ≡ true
  number_is leaf k s at is =
      let turned : 1 + k ≡ k + 1 = omega arith in
      subst (λ (n : ℕ). has (numbers_from 1 leaf nodes) n ≡ true) turned (numbered leaf 1 nodes k (tagged s) (slice_get-map tagged shapes k ∙ ap (option_map tagged) at) is)

  -- the number of a node that is a leaf, or is none
  record IsNamed (leaf : Bool) (n : ℕ) : Type 0 where
    some : n ≢ 0
    there : has (numbers_from 1 leaf nodes) n ≡ true
    within : n - 1 < length shapes

  named : (leaf : Bool) (n : ℕ) (s : Shape) → n ≢ 0 → slice_get shapes (n - 1) ≡ Some s
      → is_of leaf (tagged s) ≡ true → IsNamed leaf n
  named leaf n s some at is =
      let same : n - 1 + 1 ≡ n = omega (arith, some) in
      record {
        some = some;
        there = subst (λ (m : ℕ). has (numbers_from 1 leaf nodes) m ≡ true) same (number_is leaf (n - 1) s at is);
        within = slice_get_within shapes (n - 1) s at;
      }

  node_of : (n : ℕ) → n ≢ 0
      → node_at done n ≡ option_map (referred refs) (slice_get shapes (n - 1))
  node_of n some = cond-false (n == 0) None (slice_get done (n - 1)) (ne_eqb n 0 some)
      ∙ slice_get-map (referred refs) shapes (n - 1)

  node_none : (n : ℕ) → n ≡ 0 → node_at done n ≡ None
  node_none n is = cond-true (n == 0) None (slice_get done (n - 1)) (eq-eqb n 0 is)

  leaf_named : (n : ℕ) → 0 < length (leaf_for done n) → IsNamed true n
  leaf_named n used = elim (cases_eq n 0) [
    | inl is ↦ let none : length (leaf_for done n) ≡ 0 = ap (λ (o : Option Shape). length (leaf_rows o)) (node_none n is) in absurd (omega (arith, used, none))
    | inr some ↦ of_option some (slice_get shapes (n - 1)) refl (subst (λ (o : Option Shape). 0 < length (leaf_rows o)) (node_of n some) used)
  ]
    where
      of_option : n ≢ 0 → (o : Option Shape) → slice_get shapes (n - 1) ≡ o
          → 0 < length (leaf_rows (option_map (referred refs) o)) → IsNamed true n
      of_option some None at used = absurd (omega (arith, used))
      of_option some (Some (shape.Leaf tag rows)) at used = named true n (shape.Leaf tag rows) some at refl
      of_option some (Some (shape.Inner tag rows)) at used = absurd (omega (arith, used))

  inner_named : (n : ℕ) → 0 < length (inner_for done n) → IsNamed false n
  inner_named n used = elim (cases_eq n 0) [
    | inl is ↦ let none : length (inner_for done n) ≡ 0 = ap (λ (o : Option Shape). length (inner_rows o)) (node_none n is) in absurd (omega (arith, used, none))
    | inr some ↦ of_option some (slice_get shapes (n - 1)) refl (subst (λ (o : Option Shape). 0 < length (inner_rows o)) (node_of n some) used)
  ]
    where
      of_option : n ≢ 0 → (o : Option Shape) → slice_get shapes (n - 1) ≡ o
          → 0 < length (inner_rows (option_map (referred refs) o)) → IsNamed false n
      of_option some None at used = absurd (omega (arith, used))
      of_option some (Some (shape.Leaf tag rows)) at used = absurd (omega (arith, used))
      of_option some (Some (shape.Inner tag rows)) at used = named false n (shape.Inner tag rows) some at refl

  module _ (are : AreKinds kinds) (have : HaveRefs kinds leaves inners nodes refs) (enough : AreEnough kinds leaves inners) (leaves_apart : AreApart leaves) (inners_apart : AreApart inners) where
    leaf_long : length leaf_lists ≡ length (leaf_refs kinds)
    leaf_long = length-map leaves (leaf_for done) ∙ sym enough.leaf

    inner_long : length inner_lists ≡ length (inner_refs kinds)
    inner_long = length-map inners (inner_for done) ∙ sym enough.inner

    refs_long : length refs ≡ length shapes
    refs_long = have.long ∙ length-map shapes tagged

    back : (k : ℕ) → get_or refs (k + 1 - 1) 0 ≡ get_or refs k 0
    back k = let same : k + 1 - 1 ≡ k = omega arith in ap (λ (i : ℕ). get_or refs i 0) same

    stands_at : (k : ℕ) (s : Shape) → slice_get shapes k ≡ Some s → Stands pages refs s (get_or refs k 0)
    stands_at k (shape.Leaf tag rows) at =
        let its : StandsAt leaves (leaf_refs kinds) (k + 1) (get_or refs (k + 1 - 1) 0) = have.leaf (k + 1) (number_is true k (shape.Leaf tag rows) at refl) in
        let inside : its.at < length leaf_lists = subst (λ (n : ℕ). its.at < n) (sym (length-map leaves (leaf_for done))) its.within in
        let rows_are : get_or leaf_lists its.at [] ≡ rows = get_or-map (leaf_for done) leaves its.at 0 [] its.within
        ∙ ap (leaf_for done) its.number
        ∙ ap leaf_rows (node_is k (shape.Leaf tag rows) at) in
        let found : leaf_at pages (get_or (leaf_refs kinds) its.at 0) ≡ get_or leaf_lists its.at [] = leaf_found pages (get_or (leaf_refs kinds) its.at 0) (get_or leaf_lists its.at []) (leaves_hold 63 (omega arith) kinds 2 are leaf_lists inner_lists its.at leaf_long inside) in
        ap (leaf_at pages) (sym (its.its ∙ back k)) ∙ found ∙ rows_are
    stands_at k (shape.Inner tag rows) at =
        let its : StandsAt inners (inner_refs kinds) (k + 1) (get_or refs (k + 1 - 1) 0) = have.inner (k + 1) (number_is false k (shape.Inner tag rows) at refl) in
        let inside : its.at < length inner_lists = subst (λ (n : ℕ). its.at < n) (sym (length-map inners (inner_for done))) its.within in
        let rows_are : get_or inner_lists its.at [] ≡ map (referring refs) rows = get_or-map (inner_for done) inners its.at 0 [] its.within
        ∙ ap (inner_for done) its.number
        ∙ ap inner_rows (node_is k (shape.Inner tag rows) at) in
        let found : inner_at pages (get_or (inner_refs kinds) its.at 0) ≡ get_or inner_lists its.at [] = inner_found pages (get_or (inner_refs kinds) its.at 0) (get_or inner_lists its.at []) (inners_hold 63 kinds 2 are leaf_lists inner_lists its.at inner_long inside) in
        ap (inner_at pages) (sym (its.its ∙ back k)) ∙ found ∙ rows_are

    abbrev IsRef : ℕ → Type 0
    IsRef r = is_in refs r ≡ true

    -- the reference of the slot that has a node
    is_ref : (slots places : List ℕ) (n k : ℕ) → AreApart slots → n ≢ 0 → n - 1 < length shapes
        → k < length slots → get_or slots k 0 ≡ n
        → StandsAt slots places n (get_or refs (n - 1) 0) → IsRef (get_or places k 0)
    is_ref slots places n k apart some inside within here its =
        let same : its.at ≡ k = same_place slots n its.at k apart some its.within within its.number here in
        let at : get_or refs (n - 1) 0 ≡ get_or places k 0 = sym its.its
        ∙ ap (λ (i : ℕ). get_or places i 0) same in
        subst IsRef at (has_at refs (n - 1) (omega (arith, refs_long, inside)))

    leaf_used : AreUsed 63 IsRef leaf_lists (leaf_refs kinds)
    leaf_used k lt used =
        let within : k < length leaves = subst (λ (n : ℕ). k < n) (length-map leaves (leaf_for done)) lt in
        let n = get_or leaves k 0 in
        let its : IsNamed true n = leaf_named n (subst (λ (rows : List LeafRow). 0 < length rows) (get_or-map (leaf_for done) leaves k 0 [] within) used) in
        is_ref leaves (leaf_refs kinds) n k leaves_apart its.some its.within within refl (have.leaf n its.there)

    inner_used : AreUsed 63 IsRef inner_lists (inner_refs kinds)
    inner_used k lt used =
        let within : k < length inners = subst (λ (n : ℕ). k < n) (length-map inners (inner_for done)) lt in
        let n = get_or inners k 0 in
        let its : IsNamed false n = inner_named n (subst (λ (rows : List InnerRow). 0 < length rows) (get_or-map (inner_for done) inners k 0 [] within) used) in
        is_ref inners (inner_refs kinds) n k inners_apart its.some its.within within refl (have.inner n its.there)

    pub are_laid : AreLaid pages shapes refs
    are_laid = record {
      stand = zip_at (Stands pages refs) 0 shapes refs (sym refs_long) stands_at;
      once = apart_once refs have.once have.some;
      only = used_hold 63 IsRef kinds 2 are leaf_lists inner_lists leaf_long inner_long leaf_used inner_used;
    }
