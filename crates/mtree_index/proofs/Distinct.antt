-- Distinct numbers, said by sums: what a list of entries holds under a number.
use Rattle.std.proofs.Common.{◌≡◌, ℕ, ◌+◌, ◌≤◌, false, cond, List, [], ◌∷◌, length, map, get_or, Option, Some, None, refl, sym, ap, subst, ◌∙◌, arith, inl, inr, ◌⊎◌}
use Rattle.std.specs.Prelude.{◌==◌}
use Rattle.std.specs.Option.{is_some}
use Rattle.std.specs.Ordering.{nat_cmp, eq_by_cmp}
use Rattle.std.specs.Cmp.{nat_cmp_total}
use Rattle.std.proofs.lemmas.Bool.Decides.{eqb_tells}
use Rattle.std.proofs.lemmas.Grind.{same_number_lists}
use Rattle.std.specs.FinMap.{find, insert, from_entries, get-from_entries, get-insert, same_map, nat_cmp-IsAntisymmetric, len, len-insert, len-empty, contains_key}
use Rattle.mtree_node.specs.declared.node.LeafEntry.{LeafEntry}
use Rattle.mtree_node.specs.Tree.{record_of, AreDistinct}
use Rattle.mtree_node.proofs.Distinct.{ties}
use Rattle.mtree_index.proofs.Totals.{total, total-cons}

-- a number of the vectors under one number alone
abbrev pub under : ℕ → (List ℕ → ℕ) → ℕ → List ℕ → ℕ
under q g n v = cond (n == q) (g v) 0

abbrev pub one : List ℕ → ℕ
one v = 1

abbrev pub at : ℕ → List LeafEntry → Option (List ℕ)
at q es = find nat_cmp q (map record_of es)

pub here : (q : ℕ) (g : List ℕ → ℕ) (n : ℕ) (v : List ℕ) → q ≡ n → under q g n v ≡ g v
here q g n v e = elim (eqb_tells n q) [ inl t ↦ rw t.0 refl | inr f ↦ absurd (f.1 (sym e)) ]

pub other : (q : ℕ) (g : List ℕ → ℕ) (n : ℕ) (v : List ℕ) → (q ≡ n → ⊥) → under q g n v ≡ 0
other q g n v d = elim (eqb_tells n q) [ inl t ↦ absurd (d (sym t.1)) | inr f ↦ rw f.0 refl ]

-- nothing stands under a number
pub none_total : (q : ℕ) (g : List ℕ → ℕ) (es : List LeafEntry) → at q es ≡ None → total (under q g) es ≡ 0
none_total q g [] none = refl
none_total q g (e ∷ es) none =
    elim (ties q e.number) [
      | inl t ↦ let x : Some e.vector ≡ None = rw t.0 at none in absurd (cc)
      | inr f ↦
          let rest : at q es ≡ None = rw f.0 at none in
          omega (arith, total-cons (under q g) e es, other q g e.number e.vector f.1, none_total q g es rest)
    ]

pub total_none : (q : ℕ) (es : List LeafEntry) → total (under q one) es ≡ 0 → at q es ≡ None
total_none q [] none = refl
total_none q (e ∷ es) none =
    elim (ties q e.number) [
      | inl t ↦ absurd (omega (arith, none, total-cons (under q one) e es, here q one e.number e.vector t.1))
      | inr f ↦ rw f.0 (total_none q es (omega (arith, none, total-cons (under q one) e es)))
    ]

-- one vector stands under a number
pub some_total : (q : ℕ) (g : List ℕ → ℕ) (es : List LeafEntry) (v : List ℕ) → total (under q one) es ≤ 1 → at q es ≡ Some v → total (under q g) es ≡ g v
some_total q g [] v once some = absurd (let x : None ≡ Some v = some in cc)
some_total q g (e ∷ es) v once some =
    elim (ties q e.number) [
      | inl t ↦
          let is : Some e.vector ≡ Some v = rw t.0 at some in
          let same : e.vector ≡ v = cc in
          let rest : at q es ≡ None = total_none q es (omega (arith, once, total-cons (under q one) e es, here q one e.number e.vector t.1)) in
          omega (arith, total-cons (under q g) e es, here q g e.number e.vector t.1, none_total q g es rest, ap g same)
      | inr f ↦
          let rest : at q es ≡ Some v = rw f.0 at some in
          omega (arith, total-cons (under q g) e es, other q g e.number e.vector f.1, some_total q g es v (omega (arith, once, total-cons (under q one) e es)) rest)
    ]

go : (o : Option (List ℕ)) → {p : Option (List ℕ)} → p ≡ o → (p ≡ None) ⊎ ((v : List ℕ) × (p ≡ Some v))
go None e = inl e
go (Some v) e = inr (v, e)

pub none_or_some : (q : ℕ) (es : List LeafEntry) → (at q es ≡ None) ⊎ ((v : List ℕ) × (at q es ≡ Some v))
none_or_some q es = go (at q es) refl

-- lists that every number agrees on are the same
pub same_by_all : (u v : List ℕ) → ((g : List ℕ → ℕ) → g u ≡ g v) → u ≡ v
same_by_all u v h = same_number_lists u v (h (λ x. length x)) (λ k l. h (λ x. get_or x k 0))

module _ (number : ℕ) (v : List ℕ) (old new : List LeafEntry) (adds : (f : ℕ → List ℕ → ℕ) → total f new ≡ f number v + total f old) (distinct : AreDistinct old) (absent : at number old ≡ None) where
  -- the numbers stay distinct
  pub distinct_then : AreDistinct new
  distinct_then q =
      elim (eqb_tells q number) [
        | inl t ↦ omega (arith, adds (under q one), here q one number v t.1, none_total q one old (subst (λ k. at k old ≡ None) (sym t.1) absent))
        | inr f ↦ omega (arith, adds (under q one), other q one number v f.1, distinct q)
      ]

  found_then : (q : ℕ) → at q new ≡ cond (eq_by_cmp nat_cmp q number) (Some v) (at q old)
  found_then q =
      elim (ties q number) [
        | inl t ↦
            let none : at q old ≡ None = subst (λ k. at k old ≡ None) (sym t.1) absent in
            let sum : (g : List ℕ → ℕ) → total (under q g) new ≡ g v = λ g. omega (arith, adds (under q g), here q g number v t.1, none_total q g old none) in
            rw t.0 (elim (none_or_some q new) [
              | inl nothing ↦ absurd (omega (arith, none_total q one new nothing, sum one))
              | inr u ↦ u.1 ∙ ap Some (same_by_all u.0 v (λ g. sym (some_total q g new u.0 (distinct_then q) u.1) ∙ sum g))
            ])
        | inr f ↦
            let sum : (g : List ℕ → ℕ) → total (under q g) new ≡ total (under q g) old = λ g. omega (arith, adds (under q g), other q g number v f.1) in
            rw f.0 (elim (none_or_some q old) [
              | inl nothing ↦ total_none q new (omega (arith, sum one, none_total q one old nothing)) ∙ sym nothing
              | inr w ↦ elim (none_or_some q new) [
                | inl nothing ↦ absurd (omega (arith, none_total q one new nothing, sum one, some_total q one old w.0 (distinct q) w.1))
                | inr u ↦ u.1 ∙ (ap Some (same_by_all u.0 w.0 (λ g. sym (some_total q g new u.0 (distinct_then q) u.1) ∙ (sum g ∙ some_total q g old w.0 (distinct q) w.1))) ∙ sym w.1)
              ]
            ])
      ]

  -- the map has the pair beside those that it had
  pub contents_then : from_entries {R = nat_cmp} (map record_of new) ≡ insert (from_entries (map record_of old)) number v
  contents_then =
      same_map nat_cmp_total nat_cmp-IsAntisymmetric _ _ (λ q.
      get-from_entries nat_cmp_total (map record_of new) q
      ∙ (found_then q
      ∙ (ap (cond (eq_by_cmp nat_cmp q number) (Some v)) (sym (get-from_entries nat_cmp_total (map record_of old) q))
      ∙ sym (get-insert nat_cmp_total (from_entries (map record_of old)) number v q))))

-- there are as many pairs as entries
pub len_is : (es : List LeafEntry) → AreDistinct es → len (from_entries {R = nat_cmp} (map record_of es)) ≡ length es
len_is [] d = len-empty nat_cmp (List ℕ)
len_is (e ∷ es) d =
    let rest : AreDistinct es = λ q. omega (arith, d q, total-cons (under q one) e es) in
    let none : at e.number es ≡ None = total_none e.number es (omega (arith, d e.number, total-cons (under e.number one) e es, here e.number one e.number e.vector refl)) in
    let absent : contains_key (from_entries {R = nat_cmp} (map record_of es)) e.number ≡ false = ap is_some (get-from_entries nat_cmp_total (map record_of es) e.number ∙ none) in
    len-insert nat_cmp_total (from_entries (map record_of es)) e.number e.vector ∙ rw absent (omega (arith, len_is es rest))
