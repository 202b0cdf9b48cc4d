-- Roots that merge where cores are near each other.
use Rattle.std.proofs.Common.{◌≡◌, ◌≢◌, ℕ, zero, suc, ◌+◌, ◌<◌, ◌≤◌, List, [], ◌∷◌, length, get_or, map, max, min, IsTrue, sym, ap, subst, ◌∙◌, inl, inr, arith}
use Rattle.std.proofs.lemmas.Bool.{cases_eq, cases_lt}
use Rattle.std.proofs.lemmas.Bool.Decides.{nat_tests}
use Rattle.std.specs.List.{range_with_len, AllByRecursion}
use Rattle.std.proofs.lemmas.List.{get_or-map, length-map}
use Rattle.std.proofs.lemmas.List.FromFn.{length-range_with_len, get_or-range_with_len}
use Rattle.plain_dbscan.specs.Chains.{IsChain, Joined, IsLabel}
use Rattle.plain_dbscan.specs.Marks.{Density, Entries, numbers_of, is_near}
use Rattle.plain_dbscan.specs.Merging.{relabelled, merged, is_there, AreLowered, AgreesBefore, AgreeBelow, AreLabels}
use Rattle.plain_dbscan.specs.inside.Roots.{joined_pair, joined_each}
use Rattle.plain_dbscan.proofs.Chains.{Member, chain_start, joined_start, joined_near, joined_on, joined_back, joined_itself}
use Rattle.plain_dbscan.proofs.Members.{Rises, member_at, place_of}
use Rattle.plain_dbscan.proofs.CoresOf.{there, among}

pub relabelled_here : (from to l : ℕ) → l ≡ from → relabelled from to l ≡ to
relabelled_here from to l h = grind (arith, nat_tests)

pub relabelled_other : (from to l : ℕ) → l ≢ from → relabelled from to l ≡ l
relabelled_other from to l h = grind (arith, nat_tests)

-- of two labels that merge, both become the lesser
merged_left : (a b : ℕ) → relabelled (max a b) (min a b) a ≡ min a b
merged_left a b = elim (cases_eq a (max a b)) [
  | inl h ↦ relabelled_here (max a b) (min a b) a h
  | inr h ↦ relabelled_other (max a b) (min a b) a h ∙ omega arith
]

merged_right : (a b : ℕ) → relabelled (max a b) (min a b) b ≡ min a b
merged_right a b = elim (cases_eq b (max a b)) [
  | inl h ↦ relabelled_here (max a b) (min a b) b h
  | inr h ↦ relabelled_other (max a b) (min a b) b h ∙ omega arith
]

-- numbers that rise, by place
rise : (xs : List ℕ) → Rises xs → (i j : ℕ) → i ≤ j → j < length xs → get_or xs i 0 ≤ get_or xs j 0
rise [] r i j le h = absurd (omega arith)
rise (x ∷ xs) r zero zero le h = omega arith
rise (x ∷ xs) r zero (suc j) le h = omega (arith, r.0 _ (member_at xs j (omega arith)))
rise (x ∷ xs) r (suc i) zero le h = absurd (omega arith)
rise (x ∷ xs) r (suc i) (suc j) le h = rise xs r.1 i j (omega arith) (omega arith)

module _ (d : Density) (es : Entries) where
  abbrev num : ℕ → ℕ
  num i = get_or (numbers_of es) i 0

  -- each core begins as its own root
  pub lowered_first : AreLowered d es (range_with_len 0 (length es))
  lowered_first = record {
    lengths = length-range_with_len 0 (length es);
    joined = λ i h.
        let own : get_or (range_with_len 0 (length es)) i 0 ≡ i = get_or-range_with_len 0 (length es) i 0 h ∙ omega arith in
        subst (λ (x : ℕ). Joined (is_there es) (is_near d es) (num i) (num x)) (sym own) (joined_itself (is_there es) (is_near d es) _ (there es _ (member_at (numbers_of es) i (simp length-map h))));
    lower = λ i h. omega (arith, get_or-range_with_len 0 (length es) i 0 h);
  }

  -- equal labels stay equal, whatever is done to each
  pub agrees_mapped : (f : ℕ → ℕ) (labels : List ℕ) (i j : ℕ) → i < length labels → j ≤ length labels → AgreesBefore d es labels i j → AgreesBefore d es (map f labels) i j
  agrees_mapped f labels i j hi hj agree k h n = get_or-map f labels i 0 0 hi ∙ ap f (agree k h n) ∙ sym (get_or-map f labels k 0 0 (omega arith))

  pub agree_mapped : (f : ℕ → ℕ) (labels : List ℕ) (n : ℕ) → n ≤ length labels → AgreeBelow d es labels n → AgreeBelow d es (map f labels) n
  agree_mapped f labels n hn agree i h = agrees_mapped f labels i i (omega arith) (omega arith) (agree i h)

  -- one more place
  pub agrees_more : (labels : List ℕ) (i j : ℕ) → AgreesBefore d es labels i j → (IsTrue (is_near d es (get_or (numbers_of es) i 0) (get_or (numbers_of es) j 0)) → get_or labels i 0 ≡ get_or labels j 0) → AgreesBefore d es labels i (j + 1)
  agrees_more labels i j agree here k h n = elim (cases_eq k j) [
    | inl same ↦ subst (λ (x : ℕ). get_or labels i 0 ≡ get_or labels x 0) (sym same) (here (subst (λ (x : ℕ). IsTrue (is_near d es (get_or (numbers_of es) i 0) (get_or (numbers_of es) x 0))) same n))
    | inr other ↦ agree k (omega arith) n
  ]

  pub agree_more : (labels : List ℕ) (i : ℕ) → AgreeBelow d es labels i → AgreesBefore d es labels i i → AgreeBelow d es labels (i + 1)
  agree_more labels i agree here k h = elim (cases_eq k i) [
    | inl same ↦ subst (λ (x : ℕ). AgreesBefore d es labels x x) (sym same) here
    | inr other ↦ agree k (omega arith)
  ]

  -- what merges at two places is equal there
  merged_same : (labels : List ℕ) (i j : ℕ) → i < length labels → j < length labels → get_or (merged (get_or labels i 0) (get_or labels j 0) labels) i 0 ≡ get_or (merged (get_or labels i 0) (get_or labels j 0) labels) j 0
  merged_same labels i j hi hj =
      let a = get_or labels i 0 in
      let b = get_or labels j 0 in
      get_or-map (relabelled (max a b) (min a b)) labels i 0 0 hi ∙ merged_left a b ∙ sym (get_or-map (relabelled (max a b) (min a b)) labels j 0 0 hj ∙ merged_right a b)

  pub agrees_merged : (labels : List ℕ) (i j : ℕ) → i < length labels → j < length labels → AgreesBefore d es labels i j → AgreesBefore d es (merged (get_or labels i 0) (get_or labels j 0) labels) i (j + 1)
  agrees_merged labels i j hi hj agree =
      let a = get_or labels i 0 in
      let b = get_or labels j 0 in
      agrees_more (merged a b labels) i j (agrees_mapped (relabelled (max a b) (min a b)) labels i j hi (omega arith) agree) (λ n. merged_same labels i j hi hj)

  pub agree_merged : (labels : List ℕ) (i j n : ℕ) → n ≤ length labels → AgreeBelow d es labels n → AgreeBelow d es (merged (get_or labels i 0) (get_or labels j 0) labels) n
  agree_merged labels i j n hn agree = agree_mapped (relabelled (max (get_or labels i 0) (get_or labels j 0)) (min (get_or labels i 0) (get_or labels j 0))) labels n hn agree

  module _ (alike : (a b : ℕ) → is_near d es a b ≡ is_near d es b a) where
    module _ (labels : List ℕ) (low : AreLowered d es labels) where
      -- the label at one place in the place of that at another, which a chain joins
      lowered_relabelled : (p q : ℕ) → p < length es → q < length es → Joined (is_there es) (is_near d es) (get_or (numbers_of es) p 0) (get_or (numbers_of es) q 0) → get_or labels q 0 ≤ get_or labels p 0 → AreLowered d es (map (relabelled (get_or labels p 0) (get_or labels q 0)) labels)
      lowered_relabelled p q hp hq joined less =
          let from = get_or labels p 0 in
          let to = get_or labels q 0 in
          let J : ℕ → ℕ → Type 0 = Joined (is_there es) (is_near d es) in
          record {
            lengths = simp length-map low.lengths;
            joined = λ k h.
                let at = get_or-map (relabelled from to) labels k 0 0 (omega (arith, low.lengths)) in
                elim (cases_eq (get_or labels k 0) from) [
                  | inl same ↦
                      let is : get_or (map (relabelled from to) labels) k 0 ≡ to = at ∙ relabelled_here from to _ same in
                      let to_p : J (num k) (num from) = subst (λ (x : ℕ). J (num k) (num x)) same (low.joined k h) in
                      let back = joined_back (is_there es) (is_near d es) alike _ _ (low.joined p hp) in
                      let on = joined_on (is_there es) (is_near d es) _ _ _ to_p (joined_on (is_there es) (is_near d es) _ _ _ back (joined_on (is_there es) (is_near d es) _ _ _ joined (low.joined q hq))) in
                      subst (λ (x : ℕ). J (num k) (num x)) (sym is) on
                  | inr other ↦ subst (λ (x : ℕ). J (num k) (num x)) (sym (at ∙ relabelled_other from to _ other)) (low.joined k h)
                ];
            lower = λ k h.
                let at = get_or-map (relabelled from to) labels k 0 0 (omega (arith, low.lengths)) in
                elim (cases_eq (get_or labels k 0) from) [
                  | inl same ↦
                      let is : get_or (map (relabelled from to) labels) k 0 ≡ to = at ∙ relabelled_here from to _ same in
                      omega (arith, is, low.lower k h, same, less)
                  | inr other ↦
                      let is : get_or (map (relabelled from to) labels) k 0 ≡ get_or labels k 0 = at ∙ relabelled_other from to _ other in
                      omega (arith, is, low.lower k h)
                ];
          }

      lowered_as : (a b from to : ℕ) → max a b ≡ from → min a b ≡ to → AreLowered d es (map (relabelled from to) labels) → AreLowered d es (merged a b labels)
      lowered_as a b from to e f h =
          subst (λ (x : ℕ). AreLowered d es (map (relabelled x (min a b)) labels)) (sym e) (subst (λ (y : ℕ). AreLowered d es (map (relabelled from y) labels)) (sym f) h)

      pub lowered_merged : (i j : ℕ) → i < length es → j < length es → IsTrue (is_near d es (get_or (numbers_of es) i 0) (get_or (numbers_of es) j 0)) → AreLowered d es (merged (get_or labels i 0) (get_or labels j 0) labels)
      lowered_merged i j hi hj n =
          let a = get_or labels i 0 in
          let b = get_or labels j 0 in
          let joined = joined_near (is_there es) (is_near d es) _ _ (joined_start (is_there es) (is_near d es) _ _ (low.joined i hi)) (joined_start (is_there es) (is_near d es) _ _ (low.joined j hj)) n in
          elim (cases_lt a b) [
            | inl less ↦ lowered_as a b b a (omega arith) (omega arith) (lowered_relabelled j i hj hi (joined_back (is_there es) (is_near d es) alike _ _ joined) (omega arith))
            | inr more ↦ lowered_as a b a b (omega arith) (omega arith) (lowered_relabelled i j hi hj joined (omega arith))
          ]

      -- near cores have one label, in either order
      agree_all : AgreeBelow d es labels (length es) → (i k : ℕ) → i < length es → k < length es → IsTrue (is_near d es (get_or (numbers_of es) i 0) (get_or (numbers_of es) k 0)) → get_or labels i 0 ≡ get_or labels k 0
      agree_all agree i k hi hk n = elim (cases_lt k i) [
        | inl below ↦ agree i hi k below n
        | inr above ↦ elim (cases_eq i k) [
          | inl same ↦ ap (λ (x : ℕ). get_or labels x 0) same
          | inr other ↦ sym (agree k hk i (omega arith) (sym (alike _ _) ∙ n))
        ]
      ]

      -- where near cores have one root each, the number of each root is the label of its core
      pub labels_are : Rises (numbers_of es) → AgreeBelow d es labels (length es) → (numbers : List ℕ) → numbers ≡ map num labels → AreLabels d es numbers
      labels_are rises agree numbers are = record {
        lengths = ap length are ∙ length-map labels num ∙ low.lengths;
        each = λ i h.
            let is : get_or numbers i 0 ≡ num (get_or labels i 0) = ap (λ (xs : List ℕ). get_or xs i 0) are ∙ get_or-map num labels i 0 0 (omega (arith, low.lengths)) in
            subst (λ (x : ℕ). IsLabel (is_there es) (is_near d es) (num i) x) (sym is) (record { joined = low.joined i h; least = λ c j. along c j.steps i h j.chain });
      }
        where
          along : (c : ℕ) (steps : List ℕ) (i : ℕ) → i < length es → IsChain (is_there es) (is_near d es) (num i) steps c → num (get_or labels i 0) ≤ c
          along c [] i h chain =
              let up : num (get_or labels i 0) ≤ num i = rise (numbers_of es) rises (get_or labels i 0) i (low.lower i h) (simp length-map h) in
              omega (arith, up, chain.1)
          along c (x ∷ rest) i h chain =
              let at = place_of (numbers_of es) x (among es x (chain_start (is_there es) (is_near d es) x rest c chain.2)) in
              let below : at.0 < length es = simp length-map at at.1.below in
              let onto : IsChain (is_there es) (is_near d es) (num at.0) rest c = subst (λ (y : ℕ). IsChain (is_there es) (is_near d es) y rest c) (sym at.1.is) chain.2 in
              let here : get_or labels i 0 ≡ get_or labels at.0 0 = agree_all agree i at.0 h below (subst (λ (y : ℕ). IsTrue (is_near d es (num i) y)) (sym at.1.is) chain.1) in
              omega (arith, along c rest at.0 below onto, ap num here)

module _ (d : Density) (es : Entries) (alike : (a b : ℕ) → is_near d es a b ≡ is_near d es b a) where
  -- what is near the core at a place
  abbrev pub NearTo : ℕ → ℕ → Type 0
  NearTo i j = (j < length es) × IsTrue (is_near d es (get_or (numbers_of es) i 0) (get_or (numbers_of es) j 0))

  pub length_pair : (i j : ℕ) (roots : List ℕ) → length (joined_pair i j roots) ≡ length roots
  length_pair i j roots = length-map roots (relabelled (max (get_or roots i 0) (get_or roots j 0)) (min (get_or roots i 0) (get_or roots j 0)))

  -- joined with several that are near it, a core's root stays lowered
  pub lowered_each : (i : ℕ) (js roots : List ℕ) → i < length es → AllByRecursion (NearTo i) js → AreLowered d es roots → AreLowered d es (joined_each i js roots)
  lowered_each i [] roots h near low = low
  lowered_each i (j ∷ js) roots h near low = lowered_each i js (joined_pair i j roots) h near.1 (lowered_merged d es alike roots low i j h near.0.0 near.0.1)

  -- places that have one root keep one
  same_pair : (i j x y : ℕ) (roots : List ℕ) → x < length roots → y < length roots → get_or roots x 0 ≡ get_or roots y 0 → get_or (joined_pair i j roots) x 0 ≡ get_or (joined_pair i j roots) y 0
  same_pair i j x y roots hx hy same =
      let f = relabelled (max (get_or roots i 0) (get_or roots j 0)) (min (get_or roots i 0) (get_or roots j 0)) in
      get_or-map f roots x 0 0 hx ∙ ap f same ∙ sym (get_or-map f roots y 0 0 hy)

  same_each : (i : ℕ) (js : List ℕ) (x y : ℕ) (roots : List ℕ) → x < length roots → y < length roots → get_or roots x 0 ≡ get_or roots y 0 → get_or (joined_each i js roots) x 0 ≡ get_or (joined_each i js roots) y 0
  same_each i [] x y roots hx hy same = same
  same_each i (j ∷ js) x y roots hx hy same =
      same_each i js x y (joined_pair i j roots) (omega (arith, hx, length_pair i j roots)) (omega (arith, hy, length_pair i j roots)) (same_pair i j x y roots hx hy same)

  -- the core has one root with each of those
  pub met_each : (i : ℕ) (js : List ℕ) (k : ℕ) (roots : List ℕ) → i < length roots → k < length roots → Member k js → get_or (joined_each i js roots) i 0 ≡ get_or (joined_each i js roots) k 0
  met_each i [] k roots hi hk m = absurd m
  met_each i (j ∷ js) k roots hi hk (inl same) =
      let hj : j < length roots = omega (arith, hk, same) in
      let now : get_or (joined_pair i j roots) i 0 ≡ get_or (joined_pair i j roots) j 0 = merged_same d es roots i j hi hj in
      let at : get_or (joined_pair i j roots) i 0 ≡ get_or (joined_pair i j roots) k 0 = now ∙ ap (λ (x : ℕ). get_or (joined_pair i j roots) x 0) (sym same) in
      same_each i js i k (joined_pair i j roots) (omega (arith, hi, length_pair i j roots)) (omega (arith, hk, length_pair i j roots)) at
  met_each i (j ∷ js) k roots hi hk (inr m) = met_each i js k (joined_pair i j roots) (omega (arith, hi, length_pair i j roots)) (omega (arith, hk, length_pair i j roots)) m

  -- near ones that have one root keep one
  pub agree_each : (i : ℕ) (js roots : List ℕ) (n : ℕ) → n ≤ length roots → AgreeBelow d es roots n → AgreeBelow d es (joined_each i js roots) n
  agree_each i [] roots n h agree = agree
  agree_each i (j ∷ js) roots n h agree = agree_each i js (joined_pair i j roots) n (omega (arith, h, length_pair i j roots)) (agree_merged d es roots i j n h agree)
