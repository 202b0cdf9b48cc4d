-- The references of nodes after a save: each that of the slot in which the node stands, and none twice.
use Rattle.std.proofs.Common.{◌≡◌, inl, inr, ⊎_elim, ℕ, suc, ◌+◌, ◌-◌, ◌/◌, ◌<◌, ◌≤◌, Bool, true, false, cond, not, ◌||◌, List, [], ◌∷◌, length, get_or, refl, sym, ◌∙◌, ap, subst, arith}
use Rattle.std.specs.Prelude.{◌==◌}
use Rattle.std.proofs.lemmas.Bool.{cases_Bool, cases_eq, cases_lt, eqb-true, eq-eqb, ne_eqb, false≢true, or_cases, or_parts, or_left, or_right}
use Rattle.std.proofs.lemmas.Nat.{div-mul-add}
use Rattle.node_places.specs.declared.nodes.Tagged.{Tagged}
use Rattle.node_places.specs.Slots.{has, AreApart}
use Rattle.node_places.specs.Nodes.{leaf_refs, inner_refs, is_of, numbers_from, leaf_slots, inner_slots, kinds_after, ref_of, refs_by, refs_after}
use Rattle.node_places.specs.Laws.{AreSlots, AreEnough, HaveRefs, StandsAt}
use Rattle.node_places.proofs.Parted.{refs_rise, rising_apart, never_zero, length-refs, refs_are_parted, kinds_are_counted}
use Rattle.node_places.proofs.Keeping.{not_below, numbers_more, numbers_here, leaves_stand, inners_stand}

-- the reference of a number, and the number of a reference
pub ref_stands : (slots refs : List ℕ) (n : ℕ) → length slots ≤ length refs → has slots n ≡ true
    → StandsAt slots refs n (ref_of slots refs n)
ref_stands [] refs n le is = absurd (false≢true is)
ref_stands (m ∷ slots) [] n le is = absurd (omega (arith, le))
ref_stands (m ∷ slots) (r ∷ refs) n le is = elim (cases_Bool (m == n)) [
  | inl here ↦ subst (λ (b : Bool). StandsAt (m ∷ slots) (r ∷ refs) n (cond b r (ref_of slots refs n))) (sym here) (record { at = 0; within = omega arith; number = eqb-true m n here; its = refl })
  | inr other ↦
      let rest : StandsAt slots refs n (ref_of slots refs n) = ref_stands slots refs n (omega (arith, le)) (sym (ap (λ (b : Bool). b || has slots n) other) ∙ is) in
      subst (λ (b : Bool). StandsAt (m ∷ slots) (r ∷ refs) n (cond b r (ref_of slots refs n))) (sym other) (record { at = suc rest.at; within = omega (arith, rest.within); number = rest.number; its = rest.its })
]

ref_in : (slots refs : List ℕ) (n : ℕ) → length slots ≤ length refs → has slots n ≡ true
    → has refs (ref_of slots refs n) ≡ true
ref_in [] refs n le is = absurd (false≢true is)
ref_in (m ∷ slots) [] n le is = absurd (omega (arith, le))
ref_in (m ∷ slots) (r ∷ refs) n le is = elim (cases_Bool (m == n)) [
  | inl here ↦ subst (λ (b : Bool). has (r ∷ refs) (cond b r (ref_of slots refs n)) ≡ true) (sym here) (or_left (r == r) (has refs r) (eq-eqb r r refl))
  | inr other ↦ subst (λ (b : Bool). has (r ∷ refs) (cond b r (ref_of slots refs n)) ≡ true) (sym other)
      (or_right (r == ref_of slots refs n) (has refs (ref_of slots refs n)) (ref_in slots refs n (omega (arith, le)) (sym (ap (λ (b : Bool). b || has slots n) other) ∙ is)))
]

ref_back : (slots refs : List ℕ) (n : ℕ) → AreApart refs → has refs 0 ≡ false
    → length slots ≤ length refs → has slots n ≡ true → ref_of refs slots (ref_of slots refs n) ≡ n
ref_back [] refs n apart none le is = absurd (false≢true is)
ref_back (m ∷ slots) [] n apart none le is = absurd (omega (arith, le))
ref_back (m ∷ slots) (r ∷ refs) n apart none le is = elim (cases_Bool (m == n)) [
  | inl here ↦
      ap (λ (b : Bool). ref_of (r ∷ refs) (m ∷ slots) (cond b r (ref_of slots refs n))) here
      ∙ ap (λ (b : Bool). cond b m (ref_of refs slots r)) (eq-eqb r r refl) ∙ eqb-true m n here
  | inr other ↦
      let v = ref_of slots refs n in
      let later : has slots n ≡ true = sym (ap (λ (b : Bool). b || has slots n) other) ∙ is in
      let parts = or_parts (r == 0) (has refs 0) none in
      let away : has refs r ≡ false = ⊎_elim (λ zero_is. absurd (false≢true (sym parts.0 ∙ eq-eqb r 0 zero_is))) (λ away. away) apart.0 in
      let differ : (r == v) ≡ false = ne_eqb r v (λ same. false≢true (sym away ∙ ap (has refs) same ∙ ref_in slots refs n (omega (arith, le)) later)) in
      ap (λ (b : Bool). ref_of (r ∷ refs) (m ∷ slots) (cond b r v)) other
      ∙ ap (λ (b : Bool). cond b m (ref_of refs slots v)) differ
      ∙ ref_back slots refs n apart.1 parts.1 (omega (arith, le)) later
]

ref_away : (slots refs : List ℕ) (n : ℕ) → has slots n ≡ false → ref_of slots refs n ≡ 0
ref_away [] refs n away = refl
ref_away (m ∷ slots) [] n away = refl
ref_away (m ∷ slots) (r ∷ refs) n away =
    let parts = or_parts (m == n) (has slots n) away in
    ap (λ (b : Bool). cond b r (ref_of slots refs n)) parts.0 ∙ ref_away slots refs n parts.1

-- nodes that have references
module _ (f g : ℕ → ℕ) where
  pub length-refs_by : (i : ℕ) (nodes : List Tagged) → length (refs_by f g i nodes) ≡ length nodes
  length-refs_by i [] = refl
  length-refs_by i (node ∷ nodes) = ap suc (length-refs_by (i + 1) nodes)

  same_kind : (leaf b : Bool) (i : ℕ) → cond leaf b (not b) ≡ true
      → cond b (f i) (g i) ≡ cond leaf (f i) (g i)
  same_kind true true i is = refl
  same_kind true false i is = absurd (false≢true is)
  same_kind false true i is = absurd (false≢true is)
  same_kind false false i is = refl

  pub at_node : (leaf : Bool) (i : ℕ) (nodes : List Tagged) (n : ℕ)
      → has (numbers_from i leaf nodes) n ≡ true
      → get_or (refs_by f g i nodes) (n - i) 0 ≡ cond leaf (f n) (g n)
  at_node leaf i [] n is = absurd (false≢true is)
  at_node leaf i (node ∷ nodes) n is = elim (cases_eq i n) [
    | inl same ↦
        let first : n - i ≡ 0 = omega (arith, same) in
        ap (λ (k : ℕ). get_or (refs_by f g i (node ∷ nodes)) k 0) first
        ∙ same_kind leaf node.leaf i (of_kind same) ∙ ap (λ (k : ℕ). cond leaf (f k) (g k)) same
    | inr differ ↦
        let later : has (numbers_from (i + 1) leaf nodes) n ≡ true = behind differ (is_of leaf node) is in
        let above : i < n = elim (cases_lt i n) [ inl lt ↦ lt | inr ge ↦ absurd (not_below leaf (i + 1) nodes n later (omega (arith, ge))) ] in
        let next : n - i ≡ suc (n - (i + 1)) = omega (arith, above) in
        ap (λ (k : ℕ). get_or (refs_by f g i (node ∷ nodes)) k 0) next
        ∙ at_node leaf (i + 1) nodes n later
  ]
    where
      behind : (i ≡ n → ⊥) → (b : Bool)
          → has (cond b (i ∷ numbers_from (i + 1) leaf nodes) (numbers_from (i + 1) leaf nodes)) n ≡ true
          → has (numbers_from (i + 1) leaf nodes) n ≡ true
      behind differ true is =
          sym (ap (λ (b : Bool). b || has (numbers_from (i + 1) leaf nodes) n) (ne_eqb i n differ))
          ∙ is
      behind differ false is = is

      of_kind : i ≡ n → is_of leaf node ≡ true
      of_kind same = elim (cases_Bool (is_of leaf node)) [
        | inl yes' ↦ yes'
        | inr no' ↦ absurd (not_below leaf (i + 1) nodes n (sym (ap (λ (b : Bool). has (cond b (i ∷ numbers_from (i + 1) leaf nodes) (numbers_from (i + 1) leaf nodes)) n) no') ∙ is) (omega (arith, same)))
      ]

  -- a function that leads from the reference of each node back to the node
  module _ (h : ℕ → ℕ) where
    abbrev Leads : ℕ → List Tagged → Type 0
    Leads i [] = Unit {0}
    Leads i (node ∷ nodes) = (h (cond node.leaf (f i) (g i)) ≡ i) × Leads (i + 1) nodes

    pub leads : (i : ℕ) (nodes : List Tagged)
        → ((n : ℕ) → has (numbers_from i true nodes) n ≡ true → h (f n) ≡ n)
        → ((n : ℕ) → has (numbers_from i false nodes) n ≡ true → h (g n) ≡ n) → Leads i nodes
    leads i [] leaf inner = tt
    leads i (node ∷ nodes) leaf inner =
        (of_node, leads (i + 1) nodes (λ n is. leaf n (numbers_more true i node nodes n is)) (λ n is. inner n (numbers_more false i node nodes n is)))
      where
        of_node : h (cond node.leaf (f i) (g i)) ≡ i
        of_node = elim (cases_Bool node.leaf) [
          | inl is ↦ ap (λ (b : Bool). h (cond b (f i) (g i))) is
              ∙ leaf i (numbers_here true i node nodes is)
          | inr is ↦ ap (λ (b : Bool). h (cond b (f i) (g i))) is
              ∙ inner i (numbers_here false i node nodes (ap not is))
        ]

    pub led_above : (i : ℕ) (nodes : List Tagged) (r : ℕ) → Leads i nodes
        → has (refs_by f g i nodes) r ≡ true → i ≤ h r
    led_above i [] r good is = absurd (false≢true is)
    led_above i (node ∷ nodes) r good is =
        let v = cond node.leaf (f i) (g i) in
        elim (or_cases (v == r) (has (refs_by f g (i + 1) nodes) r) is) [
          | inl here ↦ let same : h r ≡ i = ap h (sym (eqb-true v r here))
              ∙ good.0 in omega (arith, same)
          | inr later ↦ omega (arith, led_above (i + 1) nodes r good.1 later)
        ]

    pub led_apart : (i : ℕ) (nodes : List Tagged) → Leads i nodes → AreApart (refs_by f g i nodes)
    led_apart i [] good = tt
    led_apart i (node ∷ nodes) good =
        let v = cond node.leaf (f i) (g i) in
        let away : has (refs_by f g (i + 1) nodes) v ≡ false = elim (cases_Bool (has (refs_by f g (i + 1) nodes) v)) [
          | inl there ↦ let above : i + 1 ≤ h v = led_above (i + 1) nodes v good.1 there in absurd (omega (arith, above, good.0))
          | inr away ↦ away
        ] in
        (inr away, led_apart (i + 1) nodes good.1)

module _ (kinds leaves inners : List ℕ) (nodes : List Tagged) (leaf_size leaf_before inner_size inner_before : ℕ)
    (leaf : AreSlots leaf_size leaf_before (numbers_from 1 true nodes) leaves) (inner : AreSlots inner_size inner_before (numbers_from 1 false nodes) inners)
    (leaf_room : length leaves ≤ length (leaf_refs kinds)) (inner_room : length inners ≤ length (inner_refs kinds)) where
  abbrev f : ℕ → ℕ
  f n = ref_of leaves (leaf_refs kinds) n

  abbrev g : ℕ → ℕ
  g n = ref_of inners (inner_refs kinds) n

  abbrev h : ℕ → ℕ
  h r = cond (has (leaf_refs kinds) r) (ref_of (leaf_refs kinds) leaves r) (ref_of (inner_refs kinds) inners r)

  leaf_there : (n : ℕ) → has (numbers_from 1 true nodes) n ≡ true → has leaves n ≡ true
  leaf_there n is = leaf.same n (λ none. not_below true 1 nodes n is (omega (arith, none))) ∙ is

  inner_there : (n : ℕ) → has (numbers_from 1 false nodes) n ≡ true → has inners n ≡ true
  inner_there n is = inner.same n (λ none. not_below false 1 nodes n is (omega (arith, none))) ∙ is

  leaf_back : (n : ℕ) → has (numbers_from 1 true nodes) n ≡ true → h (f n) ≡ n
  leaf_back n is =
      let there = leaf_there n is in
      ap (λ (b : Bool). cond b (ref_of (leaf_refs kinds) leaves (f n)) (ref_of (inner_refs kinds) inners (f n))) (ref_in leaves (leaf_refs kinds) n leaf_room there)
      ∙ ref_back leaves (leaf_refs kinds) n (rising_apart (leaf_refs kinds) (refs_rise 2 63 2 kinds (omega arith))) (never_zero 2 63 2 kinds (omega arith)) leaf_room there

  inner_back : (n : ℕ) → has (numbers_from 1 false nodes) n ≡ true → h (g n) ≡ n
  inner_back n is =
      let there = inner_there n is in
      let its : has (inner_refs kinds) (g n) ≡ true = ref_in inners (inner_refs kinds) n inner_room there in
      let away : has (leaf_refs kinds) (g n) ≡ false = elim (cases_Bool (has (leaf_refs kinds) (g n))) [
        | inl both ↦ absurd (false≢true (sym ((refs_are_parted kinds).apart (g n) both) ∙ its))
        | inr away ↦ away
      ] in
      ap (λ (b : Bool). cond b (ref_of (leaf_refs kinds) leaves (g n)) (ref_of (inner_refs kinds) inners (g n))) away
      ∙ ref_back inners (inner_refs kinds) n (rising_apart (inner_refs kinds) (refs_rise 3 1 2 kinds (omega arith))) (never_zero 3 1 2 kinds (omega arith)) inner_room there

  none_back : h 0 ≡ 0
  none_back =
      ap (λ (b : Bool). cond b (ref_of (leaf_refs kinds) leaves 0) (ref_of (inner_refs kinds) inners 0)) (never_zero 2 63 2 kinds (omega arith))
      ∙ ref_away (inner_refs kinds) inners 0 (never_zero 3 1 2 kinds (omega arith))

  pub nodes_have_refs : HaveRefs kinds leaves inners nodes (refs_after kinds leaves inners nodes)
  nodes_have_refs =
      let all = leads f g h 1 nodes leaf_back inner_back in
      record {
        long = length-refs_by f g 1 nodes;
        once = led_apart f g h 1 nodes all;
        some = elim (cases_Bool (has (refs_after kinds leaves inners nodes) 0)) [
          | inl there ↦ let above : 1 ≤ h 0 = led_above f g h 1 nodes 0 all there in absurd (omega (arith, above, none_back))
          | inr away ↦ away
        ];
        leaf = λ n is. subst (StandsAt leaves (leaf_refs kinds) n) (sym (at_node f g true 1 nodes n is)) (ref_stands leaves (leaf_refs kinds) n leaf_room (leaf_there n is));
        inner = λ n is. subst (StandsAt inners (inner_refs kinds) n) (sym (at_node f g false 1 nodes n is)) (ref_stands inners (inner_refs kinds) n inner_room (inner_there n is));
      }

-- the pages after a save have exactly the slots in which nodes stand
pub pages_are_enough : (kinds : List ℕ) (nodes : List Tagged) (records : ℕ)
    → AreEnough (kinds_after kinds records (length (leaf_slots kinds nodes) / 63) (length (inner_slots kinds nodes))) (leaf_slots kinds nodes) (inner_slots kinds nodes)
pages_are_enough kinds nodes records =
    let leaf = leaves_stand kinds nodes in
    let inner = inners_stand kinds nodes in
    let after = kinds_after kinds records (length (leaf_slots kinds nodes) / 63) (length (inner_slots kinds nodes)) in
    let counted = kinds_are_counted kinds records (length (leaf_slots kinds nodes) / 63) (length (inner_slots kinds nodes)) in
    let pages : length (leaf_slots kinds nodes) / 63 ≡ leaf.pages = ap (λ (n : ℕ). n / 63) (leaf.whole ∙ omega arith)
    ∙ div-mul-add leaf.pages 63 0 (omega arith) in
    record {
      leaf = length-refs 2 63 2 after
          ∙ omega (arith, counted.leaf_pages, pages, leaf.whole, leaf.no_fewer);
      inner = length-refs 3 1 2 after ∙ omega (arith, counted.inner_pages, inner.no_fewer);
    }
