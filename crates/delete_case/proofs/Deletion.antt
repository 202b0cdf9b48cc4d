-- A deletion from books that stood for the records: former clusters by the cores before and after, the
-- labels that are due then, and what was paid.
use Rattle.std.proofs.Common.{◌≡◌, ◌≢◌, ℕ, ◌+◌, ◌<◌, ◌≤◌, Bool, false, not, ◌&&◌, ◌||◌, eqb, List, [], ◌∷◌, ◌++◌, length, IsTrue, is_some, refl, sym, ap, subst, ◌∙◌, None, Some, inl, inr, slice_get, sum_by, arith}
use lib.Dec.{T}
use Rattle.std.specs.declared.option.Option.{Option}
use Rattle.std.specs.Ordering.{nat_cmp}
use Rattle.std.specs.FinMap as map
use Rattle.std.specs.FinMap.Entries.{is_sorted, find as value_at}
use Rattle.std.proofs.Math.Path.{fun_ext}
use Rattle.std.proofs.lemmas.Bool.{cases_Bool, cases_eq}
use Rattle.std.proofs.lemmas.Bool.Decides.{nat_tests}
use Rattle.std.proofs.lemmas.List.Sums.{sum_by-append}
use Rattle.vec_record.specs.Held.{Rows, HaveWidth}
use Rattle.vec_record.specs.Vectors.{IsVector}
use Rattle.plain_dbscan.specs.Change.{ChangesByOne}
use Rattle.plain_dbscan.specs.Marks.{Density, density, Entries, numbers_of, within, is_near, is_core, anchor_of}
use Rattle.plain_dbscan.specs.Asked.{is_new_core, is_lost_anchor, was_with_lost, is_shaken, asked_of_deletion}
use Rattle.plain_dbscan.specs.Index.{near}
use Rattle.plain_dbscan.proofs.Chains.{both, first_of_both, left_or, right_or}
use Rattle.plain_dbscan.proofs.CoresOf.{among, core_anchor, anchor_is}
use Rattle.count_book.specs.Counted.{Counted, anchor_in}
use Rattle.label_book.specs.Labels.{Labels, IsMember, EachOnce}
use Rattle.label_book.proofs.Views.{no_value, some_and}
use Rattle.update_seed.specs.declared.former.Former.{Former}
use Rattle.update_seed.specs.Books.{row_due, AreLabelsDue, core_in}
use Rattle.update_seed.specs.Outgoing.{IsLost, IsNearLost, IsFormer, AreFormer, AreLoose}
use Rattle.update_seed.proofs.Lists.{Apart, once_apart, from_member, to_filter}
use Rattle.chain_growth.specs.Hops.{IsGrown}
use Rattle.chain_growth.specs.inside.Lists.{is_in, Distinct}
use Rattle.chain_growth.proofs.Lists.{member_in, is_out, in_cases, distinct_append, sum_inside}
use Rattle.chain_growth.proofs.Views.{listed_in, in_listed, grown_as}
use Rattle.delete_case.specs.Counting.{AreCountedOut}
use Rattle.delete_case.specs.Deleted.{IsLostOf, IsKeptOf, IsSeedOf, IsGrownOf, outer_asked}
use Rattle.delete_case.specs.Parting.{Remains, IsSeeded, AreAllParted, AreAllPaid}
use Rattle.delete_case.proofs.Labelled.{due_core, was_core, was_cluster}
use Rattle.delete_case.proofs.Remaining.{IsLostIn, IsFormerOf, AreFormerOf, is_seeded, labels_due}
use Rattle.delete_case.proofs.Gone.{same_within, changes, alike, alike_still, not_core, near_none, around_near, near_around, apart_from}
use Rattle.delete_case.proofs.Counted.{core_tested, test_core, counted_flag, lost_was, lost_out, is_lost}
use Rattle.delete_case.proofs.DueRows.{loose_anchor}

distinct_of : (xs : List ℕ) → Apart xs → Distinct xs
distinct_of [] a = tt
distinct_of (x ∷ xs) a = (is_out (is_in xs x) (λ h. a.0 (member_in xs x h)), distinct_of xs a.1)

pub once_distinct : (xs : List ℕ) → EachOnce xs → Distinct xs
once_distinct xs once = distinct_of xs (once_apart xs once)

-- a list that names no number twice costs no more than one that has all its members
pub costs_less : (cost : ℕ → ℕ) (xs ys : List ℕ) → EachOnce xs → ((a : ℕ) → IsMember xs a → IsMember ys a) → sum_by cost xs ≤ sum_by cost ys
costs_less cost xs ys once inside = sum_inside cost xs ys (once_distinct xs once) (λ a h. listed_in ys a (inside a (in_listed xs a h)))

-- nor do two such lists that are apart
pub both_cost : (cost : ℕ → ℕ) (xs ys zs : List ℕ) → EachOnce xs → EachOnce ys → ((a : ℕ) → IsMember xs a → IsMember ys a → ⊥) → ((a : ℕ) → IsMember xs a → IsMember zs a)
    → ((a : ℕ) → IsMember ys a → IsMember zs a) → sum_by cost xs + sum_by cost ys ≤ sum_by cost zs
both_cost cost xs ys zs once_x once_y apart in_x in_y =
    let distinct = distinct_append xs ys (once_distinct xs once_x) (once_distinct ys once_y) (λ a h k. apart a (in_listed xs a h) (in_listed ys a k)) in
    let less = sum_inside cost (xs ++ ys) zs distinct (λ a h. elim (in_cases xs ys a h) [
      | inl x ↦ listed_in zs a (in_x a (in_listed xs a x))
      | inr y ↦ listed_in zs a (in_y a (in_listed ys a y))
    ]) in
    omega (arith, sum_by-append cost xs ys, less)

not_false : (b : Bool) → b ≡ false → IsTrue (not b)
not_false b e = ap not e

not_equal : (a p : ℕ) → a ≢ p → IsTrue (not (eqb a p))
not_equal a p n = grind (arith, nat_tests)

first_member : (xs : List ℕ) → 0 < length xs → (b : ℕ) × IsMember xs b
first_member [] h = absurd (omega arith)
first_member (x ∷ xs) h = (x, (0, refl))

-- what has an anchor is there
anchored_there : (d : Density) (es : Entries) (sorted : T (is_sorted nat_cmp es)) (a c : ℕ) → anchor_of d es a ≡ Some c → IsTrue (is_some (value_at nat_cmp a es))
anchored_there d es sorted a c e = near_there (value_at nat_cmp a es) (anchor_is d es sorted a c e).is_near
  where
    near_there : (o : Option (List ℕ)) → IsTrue (within d o (value_at nat_cmp c es)) → IsTrue (is_some o)
    near_there None h = absurd (cc)
    near_there (Some u) h = refl

module _ (dist : List ℕ → List ℕ → ℕ) (eps minpts w : ℕ) (rows : Rows) (p : ℕ) (v : List ℕ) (at : map.get rows p ≡ Some v) (wide : HaveWidth w rows)
    (back : (u x : List ℕ) → IsVector w u → IsVector w x → dist u x ≡ dist x u) (itself : (u : List ℕ) → IsVector w u → dist u u ≡ 0)
    (around : List ℕ) (found : around ≡ near dist (map.remove rows p) v eps)
    (counts counted : Counted) (lost : List ℕ) (labels : Labels)
    (due : (a : ℕ) → map.get counts.rows a ≡ row_due (density dist eps minpts) (map.entries rows) rows a) (same : counts.minpts ≡ minpts)
    (out : AreCountedOut p around counts counted lost) (labelled : AreLabelsDue (density dist eps minpts) (map.entries rows) labels) where
  abbrev d : Density
  d = density dist eps minpts

  abbrev before : Entries
  before = map.entries rows

  abbrev after : Entries
  after = map.entries (map.remove rows p)

  abbrev near' : ℕ → ℕ → Bool
  near' = is_near (density dist eps 1) after

  the : ChangesByOne d p after before
  the = changes dist eps minpts w rows p v at wide back

  flag : (a : ℕ) → core_in counted a ≡ is_core d after a
  flag = counted_flag dist eps minpts w rows p v at wide back itself around found counts counted lost labels due same out

  -- by the counts and by the definition the same are core, and near each other
  pub flags_are : core_in counted ≡ is_core d after
  flags_are = fun_ext flag

  pub nears_are : near' ≡ is_near d after
  nears_are = fun_ext (λ a. fun_ext (λ b. same_within dist eps 1 minpts (value_at nat_cmp a after) (value_at nat_cmp b after)))

  was : (b : ℕ) → IsLost labels p lost b → IsTrue (is_core d before b)
  was = lost_was dist eps minpts w rows p v at wide back itself around found counts counted lost labels due same out labelled

  gone : (b : ℕ) → IsLost labels p lost b → is_core d after b ≡ false
  gone = lost_out dist eps minpts w rows p v at wide back itself around found counts counted lost labels due same out labelled

  lose : (b : ℕ) → IsTrue (is_core d before b) → is_core d after b ≡ false → IsLost labels p lost b
  lose = is_lost dist eps minpts w rows p v at wide back itself around found counts counted lost labels due same out labelled

  present_apart : (c : ℕ) → IsTrue (is_core d after c) → c ≢ p
  present_apart c h e = let bad : is_core d after c ≡ false = ap (is_core d after) e ∙ not_core dist eps minpts w rows p v at wide back in absurd (cc)

  -- what is near a lost core, either way
  beside : (b q : ℕ) → q ≢ p → IsTrue (is_near d before b q) → IsNearLost near' p around b q
  beside b q n h = elim (cases_eq b p) [
    | inl s ↦ inr (s, near_around dist eps minpts w rows p v at wide back around found q n (subst (λ (x : ℕ). IsTrue (is_near d before x q)) s h))
    | inr m ↦ inl (same_within dist eps 1 minpts (value_at nat_cmp b after) (value_at nat_cmp q after) ∙ (sym (the.near b q m n) ∙ h))
  ]

  was_near : (b q : ℕ) → q ≢ p → IsNearLost near' p around b q → IsTrue (is_near d before b q)
  was_near b q n (inr h) = subst (λ (x : ℕ). IsTrue (is_near d before x q)) (sym h.0) (around_near dist eps minpts w rows p v at wide back around found q h.1)
  was_near b q n (inl h) =
      let h' : IsTrue (is_near d after b q) = same_within dist eps minpts 1 (value_at nat_cmp b after) (value_at nat_cmp q after) ∙ h in
      elim (cases_eq b p) [
        | inl s ↦ let bad : is_near d after b q ≡ false = ap (λ (x : ℕ). is_near d after x q) s ∙ near_none dist eps minpts w rows p v at wide back q in absurd (cc)
        | inr m ↦ the.near b q m n ∙ h'
      ]

  module _ (list : List Former) (former : AreFormer near' counted labels p around lost list) where
    one_former : (f : Former) → IsFormer near' counted labels p around lost f → IsFormerOf (is_core d before) (is_core d after) (is_near d before) labels f
    one_former f is =
        let one = first_member f.lost is.some in
        let lost_in = λ (b : ℕ) (m : IsMember f.lost b). let h = (is.lost_are b).0 m in let r : IsLostIn (is_core d before) (is_core d after) labels f.label b = record { was = was b h.0; out = gone b h.0; label = h.1 } in r in
        record {
          one = one.0;
          lost = lost_in one.0 one.1;
          lost_are = λ b. (lost_in b, λ h. (is.lost_are b).1 (lose b h.was h.out, h.label));
          seeds_in = λ q m. let h = (is.seeds_are q).0 m in (sym (flag q) ∙ core_tested counted q h.0.0, h.0.1);
          seeds_are = λ q b r m h. (is.seeds_are q).1 ((test_core counted q (flag q ∙ r.0), r.1), (b, (m, beside b q (present_apart q r.0) h)));
        }

    pub former_of : AreFormerOf (is_core d before) (is_core d after) (is_near d before) labels list
    former_of = record {
      each = λ j f stands. one_former f (former.each j f stands);
      all = λ b h off. let r = former.all b (lose b h off) in (r.0, r.1.0, r.1.1.0, r.1.1.1);
    }

    pub labels_after : (new : Labels) → AreAllParted (core_in counted) near' labels list new → AreLabelsDue d after new
    labels_after new parted =
        let by_flags = subst (λ (f : ℕ → Bool). AreAllParted f near' labels list new) flags_are parted in
        let by_nears = subst (λ (n : ℕ → ℕ → Bool). AreAllParted (is_core d after) n labels list new) nears_are by_flags in
        labels_due d before after labels labelled (map.entries_sorted rows) (map.entries_sorted (map.remove rows p)) the.within
        (alike dist eps minpts w rows p v at wide back) (alike_still dist eps minpts w rows p v at wide back)
        list former_of (λ a h all. the.kept a h all) new by_nears

    seeded : (j : ℕ) (f : Former) → slice_get list j ≡ Some f → IsSeeded (is_core d after) (is_near d after) labels f
    seeded j f stands =
        is_seeded d before after labels labelled (map.entries_sorted rows) (map.entries_sorted (map.remove rows p)) the.within
        (alike dist eps minpts w rows p v at wide back) (alike_still dist eps minpts w rows p v at wide back) f (former_of.each j f stands)

    -- each that may be asked is grown
    module _ (f : Former) (is : IsFormer near' counted labels p around lost f) where
      kept_in : (a : ℕ) → Remains (is_core d after) labels f.label a → IsKeptOf d before after f.label a
      kept_in a r = record { was_core = was_core d before labels labelled a f.label r.1; is_core = r.0; label = was_cluster d before labels labelled a f.label r.1 }

      lost_in : (b : ℕ) → IsMember f.lost b → IsLostOf d before after f.label b
      lost_in b m =
          let h = (is.lost_are b).0 m in
          record { was_core = was b h.0; no_core = gone b h.0; label = was_cluster d before labels labelled b f.label h.1 }

      seed_in : (q : ℕ) → IsMember f.seeds q → IsSeedOf d before after f.label q
      seed_in q m =
          let h = (is.seeds_are q).0 m in
          let here : IsTrue (is_core d after q) = sym (flag q) ∙ core_tested counted q h.0.0 in
          record {
            kept = kept_in q (here, h.0.1);
            beside = h.1.0;
            lost = lost_in h.1.0 h.1.1.0;
            is_near = was_near h.1.0 q (present_apart q here) h.1.1.1;
          }

      in_seed : (q : ℕ) → IsSeedOf d before after f.label q → IsMember f.seeds q
      in_seed q s =
          let of = one_former f is in
          of.seeds_are q s.beside
          (s.kept.is_core, due_core d before labels labelled q s.kept.was_core ∙ ap (λ n. Some n) s.kept.label)
          ((of.lost_are s.beside).1 (record { was = s.lost.was_core; out = s.lost.no_core; label = due_core d before labels labelled s.beside s.lost.was_core ∙ ap (λ n. Some n) s.lost.label }))
          s.is_near

      grown_in : (a : ℕ) → IsGrown (is_core d after) (is_near d after) (Remains (is_core d after) labels f.label) (IsMember f.seeds) a → IsGrownOf d before after a
      grown_in a g =
          let one = first_member f.lost is.some in
          record {
            label = f.label;
            beside = one.0;
            lost = lost_in one.0 one.1;
            grown = grown_as (is_core d after) (is_near d after) (Remains (is_core d after) labels f.label) (IsKeptOf d before after f.label) (IsMember f.seeds) (IsSeedOf d before after f.label) kept_in seed_in in_seed a g;
          }

    pub grown_cost : (cost : ℕ → ℕ) (steps steps' : ℕ) → AreAllPaid (core_in counted) near' cost labels list steps steps' → (grown : List ℕ) → ((a : ℕ) → IsGrownOf d before after a → IsMember grown a)
        → steps' ≤ steps + sum_by cost grown
    grown_cost cost steps steps' paid grown all =
        let by_flags = subst (λ (f : ℕ → Bool). AreAllPaid f near' cost labels list steps steps') flags_are paid in
        let by_nears = subst (λ (n : ℕ → ℕ → Bool). AreAllPaid (is_core d after) n cost labels list steps steps') nears_are by_flags in
        let asked = by_nears seeded in
        let less = costs_less cost asked.asked grown asked.once (λ a m. let may = asked.may a m in all a (grown_in may.former (former.each may.place may.former may.stands) a may.grown)) in
        omega (arith, asked.count, less)

  -- those that are asked and are no core
  outer_member : (a : ℕ) → a ≢ p → is_core d after a ≡ false → IsMember (numbers_of before) a → IsTrue (is_shaken d before after a) → IsMember (outer_asked d before after p) a
  outer_member a n off there shaken =
      to_filter (λ x. not (eqb x p) && not (is_core d after x)) (asked_of_deletion d before after p) a
      (to_filter (λ x. eqb x p || is_shaken d before after x) (numbers_of before) a there (right_or (eqb a p) (is_shaken d before after a) shaken))
      (both (not (eqb a p)) (not (is_core d after a)) (not_equal a p n) (not_false (is_core d after a) off))

  in_numbers : (a : ℕ) → IsTrue (is_some (value_at nat_cmp a before)) → IsMember (numbers_of before) a
  in_numbers a h = from_member (numbers_of before) a (among before a h)

  lost_asked : (b : ℕ) → IsMember lost b → IsMember (outer_asked d before after p) b
  lost_asked b m =
      let core = was b (inl m) in
      let off = gone b (inl m) in
      let n = apart_from dist eps minpts w rows p v at wide back around found b ((out.lost_are b).0 m).0 in
      let shaken : IsTrue (is_shaken d before after b) =
      left_or (is_new_core d after before b) (is_lost_anchor d after (anchor_of d before b) || was_with_lost d before after b)
      (both (is_core d before b) (not (is_core d after b)) core (not_false (is_core d after b) off)) in
      outer_member b n off (in_numbers b (first_of_both (is_some (value_at nat_cmp b before)) _ core)) shaken

  module _ (loose : List ℕ) (are : AreLoose near' counted labels p around lost loose) where
    loose_not_p : (a : ℕ) → IsMember loose a → a ≢ p
    loose_not_p a m e =
        let some = some_and (anchor_in (map.get counted.rows a)) _ ((are.exact a).0 m).1 in
        no_value (ap (λ (x : ℕ). anchor_in (map.get counted.rows x)) e ∙ ap anchor_in out.left) some.1

    anchor_was : (a : ℕ) → IsMember loose a → (c : ℕ) × (anchor_of d before a ≡ Some c) × (is_core d after c ≡ false)
    anchor_was a m =
        let some = some_and (anchor_in (map.get counted.rows a)) _ ((are.exact a).0 m).1 in
        let had = loose_anchor dist eps minpts w rows p v at wide back itself around found counts counted lost labels due same out labelled a (loose_not_p a m) some.0 some.1 in
        (some.0, had, gone some.0 some.2.0)

    loose_off : (a : ℕ) → IsMember loose a → is_core d after a ≡ false
    loose_off a m = elim (cases_Bool (is_core d after a)) [
      | inl h ↦ absurd (((are.exact a).0 m).0 (test_core counted a (flag a ∙ h)))
      | inr h ↦ h
    ]

    loose_asked : (a : ℕ) → IsMember loose a → IsMember (outer_asked d before after p) a
    loose_asked a m =
        let c = anchor_was a m in
        let lost_anchor : IsTrue (is_lost_anchor d after (anchor_of d before a)) = ap (is_lost_anchor d after) c.1 ∙ not_false (is_core d after c.0) c.2 in
        let shaken : IsTrue (is_shaken d before after a) =
        right_or (is_new_core d after before a) (is_lost_anchor d after (anchor_of d before a) || was_with_lost d before after a)
        (left_or (is_lost_anchor d after (anchor_of d before a)) (was_with_lost d before after a) lost_anchor) in
        outer_member a (loose_not_p a m) (loose_off a m) (in_numbers a (anchored_there d before (map.entries_sorted rows) a c.0 c.1)) shaken

    apart_lists : (a : ℕ) → IsMember lost a → IsMember loose a → ⊥
    apart_lists a m k = no_value (core_anchor d before a (was a (inl m))) (anchor_was a k).1

    pub outer_cost : (cost : ℕ → ℕ) → sum_by cost lost + sum_by cost loose ≤ sum_by cost (outer_asked d before after p)
    outer_cost cost = both_cost cost lost loose (outer_asked d before after p) out.lost_once are.once apart_lists lost_asked loose_asked

  pub lost_cost : (cost : ℕ → ℕ) → sum_by cost lost ≤ sum_by cost (outer_asked d before after p)
  lost_cost cost = costs_less cost lost (outer_asked d before after p) out.lost_once lost_asked
