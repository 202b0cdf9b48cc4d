-- What is near a record that is gone, and that little else changes.
use Rattle.std.proofs.Common.{◌≡◌, ◌≢◌, ℕ, ◌≤◌, Bool, true, false, ◌&&◌, List, [], ◌∷◌, length, IsTrue, refl, sym, ap, subst, ◌∙◌, None, Some, inl, inr, arith}
use lib.Dec.{T}
use Rattle.std.specs.Prelude.{nat_le}
use Rattle.std.specs.declared.option.Option.{Option}
use Rattle.std.specs.Option.{is_some}
use Rattle.std.specs.Ordering.{nat_cmp}
use Rattle.std.specs.FinMap as map
use Rattle.std.specs.FinMap.Entries.{is_sorted, find as value_at}
use Rattle.std.proofs.lemmas.Bool.{cases_eq}
use Rattle.vec_record.specs.Held.{Rows, HaveWidth}
use Rattle.vec_record.specs.Vectors.{IsVector}
use Rattle.plain_dbscan.specs.Marks.{Density, density, Entries, numbers_of, within, is_near, near_of, size_of, is_core, is_near_vector}
use Rattle.plain_dbscan.specs.Change.{ChangesByOne}
use Rattle.plain_dbscan.specs.Index.{near}
use Rattle.plain_dbscan.proofs.CoresOf.{among, rises_sorted}
use Rattle.plain_dbscan.proofs.Members.{Rises}
use Rattle.plain_dbscan.proofs.OneMore.{are_changed, changes_by_one}
use Rattle.plain_dbscan.proofs.SizesOf.{none_above}
use Rattle.label_book.specs.Labels.{IsMember, EachOnce}
use Rattle.label_book.proofs.Taken.{removed_same, removed_other}
use Rattle.label_book.proofs.Views.{no_value}
use Rattle.update_seed.proofs.Clusters.{near_alike}
use Rattle.update_seed.proofs.Lists.{Apart, apart_once, once_filter, in_filter, to_filter, from_member}

-- the numbers of a list that rises are there once
rises_apart : (xs : List ℕ) → Rises xs → Apart xs
rises_apart [] r = tt
rises_apart (x ∷ xs) r = ((λ m. let bad = r.0 x m in omega (arith, bad)), rises_apart xs r.1)

pub numbers_once : (es : Entries) → T (is_sorted nat_cmp es) → EachOnce (numbers_of es)
numbers_once es sorted = apart_once (numbers_of es) (rises_apart (numbers_of es) (rises_sorted es sorted))

is_within : (d : Density) (o p : Option (List ℕ)) → IsTrue (within d o p) → IsTrue (is_some p)
is_within d None p h = absurd (cc)
is_within d (Some u) None h = absurd (cc)
is_within d (Some u) (Some v) h = refl

pub same_within : (dist : List ℕ → List ℕ → ℕ) (eps m n : ℕ) (o p : Option (List ℕ)) → within (density dist eps m) o p ≡ within (density dist eps n) o p
same_within dist eps m n None p = refl
same_within dist eps m n (Some u) None = refl
same_within dist eps m n (Some u) (Some v) = refl

some_length : (xs : List ℕ) (q : ℕ) → IsMember xs q → 1 ≤ length xs
some_length [] q m = absurd (no_value refl m.1)
some_length (x ∷ xs) q m = omega arith

-- each record is near itself, so it has a size
module _ (dist : List ℕ → List ℕ → ℕ) (eps minpts w : ℕ) (rows : Rows) (wide : HaveWidth w rows) (itself : (u : List ℕ) → IsVector w u → dist u u ≡ 0) where
  near_itself : (a : ℕ) (u : List ℕ) → map.get rows a ≡ Some u → IsTrue (is_near (density dist eps minpts) (map.entries rows) a a)
  near_itself a u e =
      ap (λ (o : Option (List ℕ)). within (density dist eps minpts) o o) (sym (map.get-entries rows a) ∙ e)
      ∙ ap (λ (n : ℕ). nat_le n eps) (itself u (wide a u e))
      ∙ none_above eps

  pub some_size : (a : ℕ) (u : List ℕ) → map.get rows a ≡ Some u → 1 ≤ size_of (density dist eps minpts) (map.entries rows) a
  some_size a u e =
      let d = density dist eps minpts in
      let es = map.entries rows in
      let there = among es a (ap is_some (sym (map.get-entries rows a) ∙ e)) in
      some_length (near_of d es a) a (to_filter (is_near d es a) (numbers_of es) a (from_member (numbers_of es) a there) (near_itself a u e))

module _ (dist : List ℕ → List ℕ → ℕ) (eps minpts w : ℕ) (rows : Rows) (p : ℕ) (v : List ℕ) (at : map.get rows p ≡ Some v) (wide : HaveWidth w rows)
    (back : (u x : List ℕ) → IsVector w u → IsVector w x → dist u x ≡ dist x u) where
  abbrev d : Density
  d = density dist eps minpts

  abbrev rows' : Rows
  rows' = map.remove rows p

  abbrev before : Entries
  before = map.entries rows

  abbrev after : Entries
  after = map.entries rows'

  -- a deletion is an insertion read backwards
  pub changes : ChangesByOne d p after before
  changes = changes_by_one d p v after before ((are_changed rows p v).removed at)

  pub alike : (a b : ℕ) → is_near d before a b ≡ is_near d before b a
  alike = near_alike dist eps minpts w rows wide back

  pub wide_still : HaveWidth w rows'
  wide_still a u e = elim (cases_eq a p) [
    | inl s ↦ absurd (no_value (subst (λ (x : ℕ). map.get rows' x ≡ None) (sym s) (removed_same rows p)) e)
    | inr n ↦ wide a u (sym (removed_other rows p a n) ∙ e)
  ]

  pub alike_still : (a b : ℕ) → is_near d after a b ≡ is_near d after b a
  alike_still = near_alike dist eps minpts w rows' wide_still back

  value_here : value_at nat_cmp p before ≡ Some v
  value_here = sym (map.get-entries rows p) ∙ at

  pub value_gone : value_at nat_cmp p after ≡ None
  value_gone = sym (map.get-entries rows' p) ∙ removed_same rows p

  pub value_other : (a : ℕ) → a ≢ p → value_at nat_cmp a before ≡ value_at nat_cmp a after
  value_other a n = sym (map.get-entries rows a) ∙ sym (removed_other rows p a n) ∙ map.get-entries rows' a

  pub not_core : is_core d after p ≡ false
  not_core = ap (λ (o : Option (List ℕ)). is_some o && nat_le minpts (size_of d after p)) value_gone

  pub near_none : (q : ℕ) → is_near d after p q ≡ false
  near_none q = ap (λ (o : Option (List ℕ)). within d o (value_at nat_cmp q after)) value_gone

  near_is : (q : ℕ) → q ≢ p → is_near d before p q ≡ within d (Some v) (value_at nat_cmp q after)
  near_is q n =
      ap (λ (o : Option (List ℕ)). within d o (value_at nat_cmp q before)) value_here
      ∙ ap (λ (o : Option (List ℕ)). within d (Some v) o) (value_other q n)

  -- what a query at the vector finds among the others is what was near the record
  module _ (around : List ℕ) (found : around ≡ near dist rows' v eps) where
    abbrev test : ℕ → Bool
    test = is_near_vector (density dist eps 1) after v

    passes : (q : ℕ) → IsMember around q → IsTrue (within d (Some v) (value_at nat_cmp q after))
    passes q m =
        same_within dist eps minpts 1 (Some v) (value_at nat_cmp q after)
        ∙ (in_filter test (numbers_of after) q (subst (λ (xs : List ℕ). IsMember xs q) found m)).1

    pub around_there : (q : ℕ) → IsMember around q → IsTrue (is_some (map.get rows' q))
    around_there q m = ap is_some (map.get-entries rows' q) ∙ is_within d (Some v) (value_at nat_cmp q after) (passes q m)

    pub around_other : IsMember around p → ⊥
    around_other m = let bad : false ≡ true = sym (ap is_some (removed_same rows p)) ∙ around_there p m in cc

    pub apart_from : (q : ℕ) → IsMember around q → q ≢ p
    apart_from q m e = around_other (subst (IsMember around) e m)

    pub around_near : (q : ℕ) → IsMember around q → IsTrue (is_near d before p q)
    around_near q m = near_is q (apart_from q m) ∙ passes q m

    pub near_around : (q : ℕ) → q ≢ p → IsTrue (is_near d before p q) → IsMember around q
    near_around q n h =
        let inside : IsTrue (within d (Some v) (value_at nat_cmp q after)) = sym (near_is q n) ∙ h in
        let there = from_member (numbers_of after) q (among after q (is_within d (Some v) (value_at nat_cmp q after) inside)) in
        subst (λ (xs : List ℕ). IsMember xs q) (sym found)
        (to_filter test (numbers_of after) q there (same_within dist eps 1 minpts (Some v) (value_at nat_cmp q after) ∙ inside))

    pub around_once : EachOnce around
    around_once = subst EachOnce (sym found) (once_filter test (numbers_of after) (numbers_once after (map.entries_sorted rows')))
