-- What lawful fields say, for those who read and write pages.
use Rattle.std.proofs.Common.{◌≡◌, inl, inr, ℕ, ◌≤◌, Bool, true, false, eqb, leb, cond, sym, ap, ◌∙◌, arith}
use Rattle.std.specs.Prelude.{◌↔◌}
use Rattle.std.proofs.lemmas.Bool.{cases_eq, eqb-true, eq-eqb, ne_eqb, leb-true, le-leb, and_parts, and_from}
use Rattle.vec_record.specs.Limits.{is_between}
use Rattle.page_layout.specs.Heads.{Values, is_root, is_height}
use Rattle.page_layout.specs.Slots.{is_core_count, is_anchor, is_label}

-- ---- the root and the height of a head page

module _ (count root : ℕ) where
  abbrev root_test : Bool → Bool
  root_test none = cond none (eqb root 0) (leb 1 root)

  -- there is a root exactly where there are records
  pub root_alike : is_root count root ≡ true → (count ≡ 0) ↔ (root ≡ 0)
  root_alike is = (
    λ none. eqb-true root 0 (ap root_test (sym (eq-eqb count 0 none)) ∙ is),
    λ no_root. elim (cases_eq count 0) [
      | inl none ↦ none
      | inr some ↦ let ge : 1 ≤ root = leb-true 1 root (ap root_test (sym (ne_eqb count 0 some)) ∙ is) in omega (arith, ge, no_root)
    ],
  )

  pub root_from : ((count ≡ 0) ↔ (root ≡ 0)) → is_root count root ≡ true
  root_from both =
      elim (cases_eq count 0) [
        | inl none ↦ ap root_test (eq-eqb count 0 none) ∙ eq-eqb root 0 (both.0 none)
        | inr some ↦
            let other : root ≡ 0 → ⊥ = λ no_root. some (both.1 no_root) in
            let ge : 1 ≤ root = omega (arith, other) in
            ap root_test (ne_eqb count 0 some) ∙ le-leb 1 root ge
      ]

module _ (count height : ℕ) where
  abbrev height_test : Bool → Bool
  height_test none = cond none (eqb height 0) (is_between 1 6 height)

  -- there are levels exactly where there are records
  pub height_alike : is_height count height ≡ true → (count ≡ 0) ↔ (height ≡ 0)
  height_alike is = (
    λ none. eqb-true height 0 (ap height_test (sym (eq-eqb count 0 none)) ∙ is),
    λ flat. elim (cases_eq count 0) [
      | inl none ↦ none
      | inr some ↦ let ge : 1 ≤ height = leb-true 1 height (and_parts _ _ (ap height_test (sym (ne_eqb count 0 some)) ∙ is)).0 in omega (arith, ge, flat)
    ],
  )

  pub height_from : ((count ≡ 0) ↔ (height ≡ 0)) → height ≤ 6 → is_height count height ≡ true
  height_from both le =
      elim (cases_eq count 0) [
        | inl none ↦ ap height_test (eq-eqb count 0 none) ∙ eq-eqb height 0 (both.0 none)
        | inr some ↦
            let other : height ≡ 0 → ⊥ = λ flat. some (both.1 flat) in
            let ge : 1 ≤ height = omega (arith, other) in
            ap height_test (ne_eqb count 0 some) ∙ and_from _ _ (le-leb 1 height ge) (le-leb height 6 le)
      ]

-- ---- the anchor and the label of a slot

module _ (v : Values) (number count : ℕ) where
  abbrev anchor_test : ℕ → Bool → Bool
  anchor_test anchor core = cond core (eqb anchor 0) true

  abbrev label_test : ℕ → Bool → Bool
  label_test label core = cond core (is_between 1 number label) (eqb label 0)

  module _ (core : is_core_count v count ≡ true) where
    pub core_anchor : (anchor : ℕ) → is_anchor v count anchor ≡ true → anchor ≡ 0
    core_anchor anchor is = eqb-true anchor 0 (ap (anchor_test anchor) (sym core) ∙ is)

    pub anchor_of_core : is_anchor v count 0 ≡ true
    anchor_of_core = ap (anchor_test 0) core

    pub core_label : (label : ℕ) → is_label v number count label ≡ true → (1 ≤ label) × (label ≤ number)
    core_label label is =
        let both = and_parts _ _ (ap (label_test label) (sym core) ∙ is) in
        (leb-true 1 label both.0, leb-true label number both.1)

    pub label_of_core : (label : ℕ) → 1 ≤ label → label ≤ number → is_label v number count label ≡ true
    label_of_core label ge le = ap (label_test label) core ∙ and_from _ _ (le-leb 1 label ge) (le-leb label number le)

  module _ (other : is_core_count v count ≡ false) where
    pub anchor_of_other : (anchor : ℕ) → is_anchor v count anchor ≡ true
    anchor_of_other anchor = ap (anchor_test anchor) other

    pub other_label : (label : ℕ) → is_label v number count label ≡ true → label ≡ 0
    other_label label is = eqb-true label 0 (ap (label_test label) (sym other) ∙ is)

    pub label_of_other : is_label v number count 0 ≡ true
    label_of_other = ap (label_test 0) other
