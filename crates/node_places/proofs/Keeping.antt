-- The nodes of a kind that keep their places: no node keeps two, and each has the tag of the place that it keeps.
use Rattle.std.proofs.Common.{◌≡◌, ◌⊎◌, inl, inr, ⊎_elim, ℕ, ◌+◌, ◌*◌, ◌<◌, ◌≤◌, Bool, true, false, cond, ◌||◌, ◌&&◌, List, [], ◌∷◌, length, refl, sym, ◌∙◌, ap, subst, arith}
use Rattle.std.specs.Prelude.{◌==◌}
use Rattle.std.proofs.lemmas.Bool.{cases_Bool, cases_eq, eqb-true, eq-eqb, ne_eqb, false≢true, or_cases, or_left, or_right, and_parts}
use Rattle.std.proofs.lemmas.List.{length-map}
use Rattle.node_places.specs.declared.nodes.Tagged.{Tagged}
use Rattle.node_places.specs.Slots.{has, padded, AreApart}
use Rattle.node_places.specs.Nodes.{refs_from, is_of, holder, numbers_from, keepers, settled, leaf_slots, inner_slots, count_of}
use Rattle.node_places.specs.Laws.{AreSlots}
use Rattle.node_places.proofs.Parted.{refs_rise, rising_apart, never_zero, length-refs}
use Rattle.node_places.proofs.Standing.{settle, padded_one}

-- the numbers of nodes count up
pub from_low : (leaf : Bool) (i : ℕ) (nodes : List Tagged) (m : ℕ) → m < i
    → has (numbers_from i leaf nodes) m ≡ false
from_low leaf i [] m lt = refl
from_low leaf i (node ∷ nodes) m lt =
    of_test (is_of leaf node) (from_low leaf (i + 1) nodes m (omega (arith, lt)))
  where
    of_test : (b : Bool) → has (numbers_from (i + 1) leaf nodes) m ≡ false
        → has (cond b (i ∷ numbers_from (i + 1) leaf nodes) (numbers_from (i + 1) leaf nodes)) m ≡ false
    of_test true rest =
        ap (λ (b : Bool). b || has (numbers_from (i + 1) leaf nodes) m) (ne_eqb i m (λ is. omega (arith, is, lt)))
        ∙ rest
    of_test false rest = rest

pub not_below : (leaf : Bool) (i : ℕ) (nodes : List Tagged) (m : ℕ)
    → has (numbers_from i leaf nodes) m ≡ true → m < i → ⊥
not_below leaf i nodes m is lt = false≢true (sym (from_low leaf i nodes m lt) ∙ is)

pub numbers_apart : (leaf : Bool) (i : ℕ) (nodes : List Tagged)
    → AreApart (numbers_from i leaf nodes)
numbers_apart leaf i [] = tt
numbers_apart leaf i (node ∷ nodes) = of_test (is_of leaf node) (numbers_apart leaf (i + 1) nodes)
  where
    of_test : (b : Bool) → AreApart (numbers_from (i + 1) leaf nodes)
        → AreApart (cond b (i ∷ numbers_from (i + 1) leaf nodes) (numbers_from (i + 1) leaf nodes))
    of_test true rest = (inr (from_low leaf (i + 1) nodes i (omega arith)), rest)
    of_test false rest = rest

pub numbers_more : (leaf : Bool) (i : ℕ) (node : Tagged) (nodes : List Tagged) (n : ℕ)
    → has (numbers_from (i + 1) leaf nodes) n ≡ true
    → has (numbers_from i leaf (node ∷ nodes)) n ≡ true
numbers_more leaf i node nodes n is = of_test (is_of leaf node)
  where
    of_test : (b : Bool)
        → has (cond b (i ∷ numbers_from (i + 1) leaf nodes) (numbers_from (i + 1) leaf nodes)) n ≡ true
    of_test true = or_right (i == n) (has (numbers_from (i + 1) leaf nodes) n) is
    of_test false = is

pub numbers_here : (leaf : Bool) (i : ℕ) (node : Tagged) (nodes : List Tagged)
    → is_of leaf node ≡ true → has (numbers_from i leaf (node ∷ nodes)) i ≡ true
numbers_here leaf i node nodes is =
    ap (λ (b : Bool). has (cond b (i ∷ numbers_from (i + 1) leaf nodes) (numbers_from (i + 1) leaf nodes)) i) is
    ∙ or_left (i == i) (has (numbers_from (i + 1) leaf nodes) i) (eq-eqb i i refl)

-- the tag of a node, where nodes count from i
abbrev pub tag_of : ℕ → List Tagged → ℕ → ℕ
tag_of i [] n = 0
tag_of i (node ∷ nodes) n = cond (i == n) node.tag (tag_of (i + 1) nodes n)

-- a node of the kind has this tag
pub record Holds (leaf : Bool) (i : ℕ) (nodes : List Tagged) (tag n : ℕ) : Type 0 where
  pub there : has (numbers_from i leaf nodes) n ≡ true
  pub its : tag_of i nodes n ≡ tag

pub holds : (leaf : Bool) (i : ℕ) (nodes : List Tagged) (tag : ℕ)
    → (holder i leaf nodes tag ≡ 0) ⊎ Holds leaf i nodes tag (holder i leaf nodes tag)
holds leaf i [] tag = inl refl
holds leaf i (node ∷ nodes) tag =
    let rest = holder (i + 1) leaf nodes tag in
    elim (cases_Bool (is_of leaf node && (node.tag == tag))) [
      | inl is ↦ subst Fine (sym (ap (λ (b : Bool). cond b i rest) is)) (inr (first (and_parts (is_of leaf node) (node.tag == tag) is)))
      | inr other ↦ subst Fine (sym (ap (λ (b : Bool). cond b i rest) other)) (later (holds leaf (i + 1) nodes tag))
    ]
  where
    Fine : ℕ → Type 0
    Fine n = (n ≡ 0) ⊎ Holds leaf i (node ∷ nodes) tag n

    first : (is_of leaf node ≡ true) × ((node.tag == tag) ≡ true)
        → Holds leaf i (node ∷ nodes) tag i
    first its = record {
      there = numbers_here leaf i node nodes its.0;
      its = ap (λ (b : Bool). cond b node.tag (tag_of (i + 1) nodes i)) (eq-eqb i i refl)
          ∙ eqb-true node.tag tag its.1;
    }

    later : (holder (i + 1) leaf nodes tag ≡ 0) ⊎ Holds leaf (i + 1) nodes tag (holder (i + 1) leaf nodes tag)
        → Fine (holder (i + 1) leaf nodes tag)
    later (inl none) = inl none
    later (inr its) =
        let n = holder (i + 1) leaf nodes tag in
        let other : (i == n) ≡ false = ne_eqb i n (λ is. not_below leaf (i + 1) nodes n its.there (omega (arith, is))) in
        inr (record {
          there = numbers_more leaf i node nodes n its.there;
          its = ap (λ (b : Bool). cond b node.tag (tag_of (i + 1) nodes n)) other ∙ its.its;
        })

module _ (leaf : Bool) (nodes : List Tagged) where
  abbrev held_by : ℕ → ℕ
  held_by tag = holder 1 leaf nodes tag

  held_so : (r n : ℕ) → (n ≡ 0 → ⊥) → held_by r ≡ n → Holds leaf 1 nodes r n
  held_so r n some same = elim (holds leaf 1 nodes r) [
    | inl none ↦ absurd (some (sym same ∙ none))
    | inr its ↦ subst (Holds leaf 1 nodes r) same its
  ]

  pub kept_within : (refs : List ℕ) (n : ℕ) → (n ≡ 0 → ⊥) → has (keepers leaf refs nodes) n ≡ true
      → has (numbers_from 1 leaf nodes) n ≡ true
  kept_within [] n some is = absurd (false≢true is)
  kept_within (r ∷ refs) n some is =
      elim (or_cases (held_by r == n) (has (keepers leaf refs nodes) n) is) [
        | inl here ↦ (held_so r n some (eqb-true (held_by r) n here)).there
        | inr later ↦ kept_within refs n some later
      ]

  kept_at : (refs : List ℕ) (n : ℕ) → (n ≡ 0 → ⊥) → has (keepers leaf refs nodes) n ≡ true
      → has refs (tag_of 1 nodes n) ≡ true
  kept_at [] n some is = absurd (false≢true is)
  kept_at (r ∷ refs) n some is =
      elim (or_cases (held_by r == n) (has (keepers leaf refs nodes) n) is) [
        | inl here ↦ or_left (r == tag_of 1 nodes n) (has refs (tag_of 1 nodes n)) (eq-eqb r (tag_of 1 nodes n) (sym (held_so r n some (eqb-true (held_by r) n here)).its))
        | inr later ↦ or_right (r == tag_of 1 nodes n) (has refs (tag_of 1 nodes n)) (kept_at refs n some later)
      ]

  pub keepers_apart : (refs : List ℕ) → AreApart refs → has refs 0 ≡ false
      → AreApart (keepers leaf refs nodes)
  keepers_apart [] apart none = tt
  keepers_apart (r ∷ refs) apart none = (once, keepers_apart refs apart.1 (none_behind none))
    where
      none_behind : has (r ∷ refs) 0 ≡ false → has refs 0 ≡ false
      none_behind none = elim (cases_Bool (has refs 0)) [
        | inl there ↦ absurd (false≢true (sym none ∙ or_right (r == 0) (has refs 0) there))
        | inr away ↦ away
      ]

      other : has refs r ≡ false
      other = ⊎_elim (λ is. absurd (false≢true (sym none ∙ or_left (r == 0) (has refs 0) (eq-eqb r 0 is)))) (λ away. away) apart.0

      once : (held_by r ≡ 0) ⊎ (has (keepers leaf refs nodes) (held_by r) ≡ false)
      once = elim (cases_eq (held_by r) 0) [
        | inl free ↦ inl free
        | inr some ↦ elim (cases_Bool (has (keepers leaf refs nodes) (held_by r))) [
          | inl there ↦ absurd (false≢true (sym other ∙ ap (has refs) (sym (held_so r (held_by r) some refl).its) ∙ kept_at refs (held_by r) some there))
          | inr away ↦ inr away
        ]
      ]

-- the nodes of a kind stand in slots
pub nodes_stand : (leaf : Bool) (kind slots size : ℕ) (kinds : List ℕ) (nodes : List Tagged)
    → 0 < size → slots ≤ 64
    → AreSlots size (slots * count_of kind kinds) (numbers_from 1 leaf nodes) (padded size (settled leaf (refs_from kind slots 2 kinds) nodes))
nodes_stand leaf kind slots size kinds nodes some few =
    let refs = refs_from kind slots 2 kinds in
    let numbers = numbers_from 1 leaf nodes in
    let apart : AreApart (keepers leaf refs nodes) = keepers_apart leaf nodes refs (rising_apart refs (refs_rise kind slots 2 kinds few)) (never_zero kind slots 2 kinds (omega arith)) in
    let long : length (keepers leaf refs nodes) ≡ slots * count_of kind kinds = length-map refs (holder 1 leaf nodes)
    ∙ length-refs kind slots 2 kinds in
    subst (λ (k : ℕ). AreSlots size k numbers (padded size (settled leaf refs nodes))) long
    (settle size (keepers leaf refs nodes) numbers some apart (numbers_apart leaf 1 nodes) (from_low leaf 1 nodes 0 (omega arith)) (kept_within leaf nodes refs))

pub leaves_stand : (kinds : List ℕ) (nodes : List Tagged)
    → AreSlots 63 (63 * count_of 2 kinds) (numbers_from 1 true nodes) (leaf_slots kinds nodes)
leaves_stand kinds nodes = nodes_stand true 2 63 63 kinds nodes (omega arith) (omega arith)

pub inners_stand : (kinds : List ℕ) (nodes : List Tagged)
    → AreSlots 1 (count_of 3 kinds) (numbers_from 1 false nodes) (inner_slots kinds nodes)
inners_stand kinds nodes =
    let numbers = numbers_from 1 false nodes in
    let one : 1 * count_of 3 kinds ≡ count_of 3 kinds = omega arith in
    subst (AreSlots 1 (count_of 3 kinds) numbers) (padded_one (inner_slots kinds nodes))
    (subst (λ (k : ℕ). AreSlots 1 k numbers (padded 1 (inner_slots kinds nodes))) one (nodes_stand false 3 1 1 kinds nodes (omega arith) (omega arith)))
