-- The counts after one record more was counted, where they stood for the records before.
use Rattle.std.proofs.Common.{◌≡◌, ◌≢◌, ℕ, suc, ◌+◌, ◌<◌, ◌≤◌, Bool, true, false, cond, ◌&&◌, nat_le, List, [], ◌∷◌, min, length, filter, IsTrue, IsSome, IsSomeAnd, is_some, is_none, None, Some, inl, inr, ◌↔◌, refl, sym, ap, subst, ◌∙◌, if◌then◌else◌, arith}
use Rattle.std.specs.Prelude.{nat_lt}
use lib.Dec.{T}
use Rattle.std.proofs.lemmas.Bool.{cases_Bool, cases_eq}
use Rattle.std.specs.Ordering.{nat_cmp}
use Rattle.std.specs.declared.option.Option.{Option}
use Rattle.std.specs.Option.{option_map}
use Rattle.std.specs.FinMap as map
use Rattle.std.specs.FinMap.Entries.{is_sorted, find as value_at}
use Rattle.vec_record.specs.Held.{Rows}
use Rattle.count_book.specs.declared.row.Row.{Row}
use Rattle.count_book.specs.Counted.{Counted, row_of, IsCore, BecameCore}
use Rattle.label_book.specs.Labels.{Labels, IsMember}
use Rattle.label_book.proofs.Added.{here, apart}
use Rattle.label_book.proofs.Views.{known, no_value}
use Rattle.plain_dbscan.specs.Marks.{Density, density, Entries, within, numbers_of, is_near, near_of, size_of, is_core, anchor_of, cluster_of}
use Rattle.plain_dbscan.specs.Change.{ChangesByOne}
use Rattle.plain_dbscan.proofs.Chains.{Member, both, first_of_both}
use Rattle.plain_dbscan.proofs.Members.{member_filter, passes_in, rises_filter}
use Rattle.plain_dbscan.proofs.CoresOf.{rises_sorted, among, core_anchor}
use Rattle.update_seed.specs.Books.{row_due, AreLabelsDue}
use Rattle.update_seed.specs.Offers.{AreOffered, hung, offers, least_of}
use Rattle.update_seed.proofs.Lists.{to_member, from_member, in_filter, to_filter}
use Rattle.insert_case.specs.Told.{AreNewCores}
use Rattle.insert_case.specs.inside.Counting.{raised, anchor_after, first_labelled, IsCountedIn}
use Rattle.insert_case.proofs.Tests.{le_true, lt_true, lt_false, true_le, false_le, none_either, anchor_became, anchor_stays}
use Rattle.insert_case.proofs.Raised.{no_core}
use Rattle.insert_case.proofs.Anchors.{IsHung, not_both, first_hung, hung_alike, hung_more, due_hung, hung_due}

pub filter_short : (p : ℕ → Bool) (xs : List ℕ) → length (filter p xs) ≤ length xs
filter_short p [] = omega arith
filter_short p (x ∷ xs) =
    let r = filter_short p xs in
    elim (p x) as (λ b. length (cond b (x ∷ filter p xs) (filter p xs)) ≤ length (x ∷ xs)) [ true ↦ omega arith | false ↦ omega arith ]

numbers_long : (es : Entries) → length (numbers_of es) ≡ length es
numbers_long [] = refl
numbers_long (e ∷ es) = ap suc (numbers_long es)

pub size_small : (d : Density) (es : Entries) (a : ℕ) → size_of d es a ≤ length es
size_small d es a = let s = filter_short (is_near d es a) (numbers_of es) in let l = numbers_long es in omega (arith, s, l)

pub is_within : (d : Density) (o p : Option (List ℕ)) → IsTrue (within d o p) → IsTrue (is_some p)
is_within d None p h = absurd (cc)
is_within d (Some u) None h = absurd (cc)
is_within d (Some u) (Some v) h = refl

-- the neighbourhood has what is near
pub near_members : (d : Density) (es : Entries) (a c : ℕ) → Member c (near_of d es a) ↔ IsTrue (is_near d es a c)
near_members d es a c = (
  (λ m. (passes_in (is_near d es a) (numbers_of es) c m).passes),
  (λ h. member_filter (is_near d es a) (numbers_of es) c (among es c (is_within d (value_at nat_cmp a es) (value_at nat_cmp c es) h)) h),
)

-- a row has a size, and an anchor for which this holds
pub record HasRow (o : Option Row) (n : ℕ) (P : Option ℕ → Type 0) : Type 0 where
  pub anchor : Option ℕ
  pub row : o ≡ Some (row_of n anchor)
  pub holds : P anchor

-- an anchor as it is once the cores before were looked at: none at a core, else the least core before
pub record IsHalfDue (d : Density) (before after : Entries) (a : ℕ) (o : Option ℕ) : Type 0 where
  pub core : IsTrue (is_core d after a) → o ≡ None
  pub other : is_core d after a ≡ false → IsHung (is_core d before) (is_near d after) a o

module _ (dist : List ℕ → List ℕ → ℕ) (eps : ℕ) (old new : Counted) (labels : Labels) (rows : Rows) (p : ℕ) (v : List ℕ) where
  abbrev pub d : Density
  d = density dist eps old.minpts

  abbrev pub rows' : Rows
  rows' = map.insert rows p v

  abbrev pub before : Entries
  before = map.entries rows

  abbrev pub after : Entries
  after = map.entries rows'

  module _ (absent : map.get rows p ≡ None) (by : ChangesByOne d p before after) (alike : (a b : ℕ) → is_near d after a b ≡ is_near d after b a) (few : length after < 4294967295)
      (due : (a : ℕ) → map.get old.rows a ≡ row_due d before rows a) (labels_due : AreLabelsDue d before labels) (counted : IsCountedIn labels p (near_of d after p) old new) where
    sorted : T (is_sorted nat_cmp before)
    sorted = map.entries_sorted rows

    sorted' : T (is_sorted nat_cmp after)
    sorted' = map.entries_sorted rows'

    present : (a : ℕ) → IsSome (map.get rows' a) → IsTrue (is_some (value_at nat_cmp a after))
    present a h = ap is_some (sym (map.get-entries rows' a)) ∙ h

    was_present : (a : ℕ) → IsSome (map.get rows a) → IsTrue (is_some (value_at nat_cmp a before))
    was_present a h = ap is_some (sym (map.get-entries rows a)) ∙ h

    by_size : (a : ℕ) → IsSome (map.get rows' a) → is_core d after a ≡ nat_le old.minpts (size_of d after a)
    by_size a h = ap (λ b. b && nat_le old.minpts (size_of d after a)) (present a h)

    by_size_before : (a : ℕ) → IsSome (map.get rows a) → is_core d before a ≡ nat_le old.minpts (size_of d before a)
    by_size_before a h = ap (λ b. b && nat_le old.minpts (size_of d before a)) (was_present a h)

    labelled : (c : ℕ) → IsTrue (is_some (map.get labels c)) ↔ IsTrue (is_core d before c)
    labelled c = (
      (λ h. elim (cases_Bool (is_core d before c)) [
        | inl k ↦ k
        | inr k ↦ absurd (not_both (is_some (map.get labels c)) (ap is_some (labels_due c ∙ ap (λ b. if b then Some (cluster_of d before c) else None) k)) h)
      ]),
      (λ k. ap is_some (labels_due c ∙ ap (λ b. if b then Some (cluster_of d before c) else None) k)),
    )

    -- cores before are other numbers
    pub core_other : (c : ℕ) → IsTrue (is_core d before c) → c ≢ p
    core_other c h e =
        let there : is_some (value_at nat_cmp c before) ≡ true = first_of_both _ _ h in
        let out : is_some (value_at nat_cmp c before) ≡ false = ap is_some (ap (λ x. value_at nat_cmp x before) e ∙ (sym (map.get-entries rows p) ∙ absent)) in
        not_both _ out there

    -- the new record's row
    own_row : HasRow (map.get new.rows p) (size_of d after p) (IsHalfDue d before after p)
    own_row =
        let n = size_of d after p in
        let there : IsSome (map.get rows' p) = ap is_some (here rows p v) in
        let first = first_labelled labels (near_of d after p) in
        record {
          anchor = cond (nat_lt n old.minpts) first None;
          row = counted.entered;
          holds = record {
            core = λ h. let le = true_le old.minpts n (sym (by_size p there) ∙ h) in rw (lt_false n old.minpts le) refl;
            other = λ h.
                let lt = false_le old.minpts n (sym (by_size p there) ∙ h) in
                subst (IsHung (is_core d before) (is_near d after) p) (sym (ap (λ b. cond b first None) (lt_true n old.minpts lt)))
                (first_hung (is_core d before) (λ c. is_some (map.get labels c)) (is_near d after) p (near_of d after p)
                (rises_filter (is_near d after p) (numbers_of after) (rises_sorted after sorted')) (near_members d after p) labelled);
          };
        }

    module _ (a : ℕ) (ne : a ≢ p) (there : IsSome (map.get rows a)) where
      there' : IsSome (map.get rows' a)
      there' = ap is_some (apart rows p v a ne) ∙ there

      old_row : map.get old.rows a ≡ Some (row_of (size_of d before a) (anchor_of d before a))
      old_row = due a ∙ ap (λ b. if b then Some (row_of (size_of d before a) (anchor_of d before a)) else None) there

      was_other : is_core d after a ≡ false → is_core d before a ≡ false
      was_other h = elim (cases_Bool (is_core d before a)) [ inl k ↦ absurd (not_both _ h (by.within.cores a k)) | inr k ↦ k ]

      still_hung : is_core d after a ≡ false → IsHung (is_core d before) (is_near d after) a (anchor_of d before a)
      still_hung h =
          hung_alike (is_core d before) (is_near d before) (is_near d after) a (anchor_of d before a)
          (λ c k. by.near a c ne (core_other c k)) (due_hung d before sorted a (was_other h))

      near_row : IsTrue (is_near d after p a) → HasRow (map.get new.rows a) (size_of d after a) (IsHalfDue d before after a)
      near_row n =
          let s = size_of d before a in
          let s' = size_of d after a in
          let o = anchor_of d before a in
          let m = old.minpts in
          let size : s' ≡ s + 1 = by.size a ne ∙ ap (λ b. s + (if b then 1 else 0)) (alike a p ∙ n) in
          let small = size_small d after a in
          let top : min (s + 1) 4294967295 ≡ s' = omega (arith, size, small, few) in
          let in_it = from_member (near_of d after p) a ((near_members d after p a).1 n) in
          record {
            anchor = anchor_after m s s' o;
            row = counted.raised_is a in_it ne ∙ ap (option_map (raised m)) old_row ∙ ap (λ k. Some (row_of k (anchor_after m s k o))) top;
            holds = record {
              core = λ h.
                  let le = true_le m s' (sym (by_size a there') ∙ h) in
                  elim (cases_Bool (is_core d before a)) [
                    | inl k ↦ none_either (nat_lt s m && nat_le m s') o (core_anchor d before a k)
                    | inr k ↦ anchor_became m s s' o (false_le m s (sym (by_size_before a there) ∙ k)) le
                  ];
              other = λ h.
                  let lt = false_le m s' (sym (by_size a there') ∙ h) in
                  subst (IsHung (is_core d before) (is_near d after) a) (sym (anchor_stays m s s' o lt)) (still_hung h);
            };
          }

      far_row : is_near d after p a ≡ false → HasRow (map.get new.rows a) (size_of d after a) (IsHalfDue d before after a)
      far_row n =
          let s = size_of d before a in
          let s' = size_of d after a in
          let o = anchor_of d before a in
          let size : s' ≡ s = by.size a ne ∙ ap (λ b. s + (if b then 1 else 0)) (alike a p ∙ n) ∙ omega arith in
          let off : IsMember (near_of d after p) a → ⊥ = λ i. not_both _ n ((near_members d after p a).0 (to_member (near_of d after p) a i)) in
          record {
            anchor = o;
            row = counted.others a off ne ∙ old_row ∙ ap (λ k. Some (row_of k o)) (sym size);
            holds = record {
              core = λ h. core_anchor d before a (by_size_before a there ∙ (ap (nat_le old.minpts) (sym size) ∙ (sym (by_size a there') ∙ h)));
              other = still_hung;
            };
          }

    pub new_row : (a : ℕ) → IsSome (map.get rows' a) → HasRow (map.get new.rows a) (size_of d after a) (IsHalfDue d before after a)
    new_row a h = elim (cases_eq a p) [
      | inl e ↦ subst (λ x. HasRow (map.get new.rows x) (size_of d after x) (IsHalfDue d before after x)) (sym e) own_row
      | inr ne ↦
          let there : IsSome (map.get rows a) = ap is_some (sym (apart rows p v a ne)) ∙ h in
          elim (cases_Bool (is_near d after p a)) [ inl n ↦ near_row a ne there n | inr n ↦ far_row a ne there n ]
    ]

    pub no_row : (a : ℕ) → map.get rows' a ≡ None → map.get new.rows a ≡ None
    no_row a e = elim (cases_eq a p) [
      | inl same ↦ absurd (no_value e (ap (map.get rows') same ∙ here rows p v))
      | inr ne ↦
          let out : map.get rows a ≡ None = sym (apart rows p v a ne) ∙ e in
          let off : IsMember (near_of d after p) a → ⊥ = λ i.
          let n = (near_members d after p a).0 (to_member (near_of d after p) a i) in
          not_both _ (ap is_some (sym (map.get-entries rows' a) ∙ e)) (is_within d (value_at nat_cmp p after) (value_at nat_cmp a after) n) in
          counted.others a off ne ∙ due a ∙ ap (λ b. if b then Some (row_of (size_of d before a) (anchor_of d before a)) else None) (ap is_some out)
    ]

    core_by_row : (c : ℕ) → IsSome (map.get rows' c) → IsCore new c ↔ IsTrue (is_core d after c)
    core_by_row c h =
        let r = new_row c h in (
          (λ k.
              let le : new.minpts ≤ size_of d after c = subst (λ o. IsSomeAnd o (λ r. new.minpts ≤ r.count)) r.row k in
              by_size c h ∙ le_true old.minpts (size_of d after c) (subst (λ m. m ≤ size_of d after c) counted.minpts_kept le)),
          (λ k.
              let le = true_le old.minpts (size_of d after c) (sym (by_size c h) ∙ k) in
              subst (λ o. IsSomeAnd o (λ r. new.minpts ≤ r.count)) (sym r.row) (subst (λ m. m ≤ size_of d after c) (sym counted.minpts_kept) le)),
        )

    pub core_is : (c : ℕ) → IsCore new c ↔ IsTrue (is_core d after c)
    core_is c = elim (known (map.get rows' c)) [
      | inl e ↦ (
        (λ k. absurd (no_core new c (no_row c e) k)),
        (λ k. absurd (not_both _ (ap is_some (sym (map.get-entries rows' c) ∙ e)) (first_of_both _ _ k))),
      )
      | inr x ↦ core_by_row c (ap is_some x.1)
    ]

    pub old_core_is : (c : ℕ) → IsCore old c ↔ IsTrue (is_core d before c)
    old_core_is c =
        let due_row : (b : Bool) → map.get old.rows c ≡ (if b then Some (row_of (size_of d before c) (anchor_of d before c)) else None) → IsSomeAnd (map.get old.rows c) (λ r. old.minpts ≤ r.count) ↔ IsTrue (b && nat_le old.minpts (size_of d before c)) =
        λ b. elim b as (λ b. map.get old.rows c ≡ (if b then Some (row_of (size_of d before c) (anchor_of d before c)) else None) → IsSomeAnd (map.get old.rows c) (λ r. old.minpts ≤ r.count) ↔ IsTrue (b && nat_le old.minpts (size_of d before c))) [
          | true ↦ λ e. (
            (λ k. le_true old.minpts (size_of d before c) (subst (λ o. IsSomeAnd o (λ r. old.minpts ≤ r.count)) e k)),
            (λ k. subst (λ o. IsSomeAnd o (λ r. old.minpts ≤ r.count)) (sym e) (true_le old.minpts (size_of d before c) k)),
          )
          | false ↦ λ e. ((λ k. absurd (no_core old c e k)), (λ k. absurd (not_both false refl k)))
        ] in
        subst (λ b. IsCore old c ↔ IsTrue (b && nat_le old.minpts (size_of d before c))) (ap is_some (map.get-entries rows c)) (due_row (is_some (map.get rows c)) (due c))

    pub became_is : (c : ℕ) → BecameCore old new c ↔ (IsTrue (is_core d after c) × (is_core d before c ≡ false))
    became_is c = (
      (λ h. ((core_is c).0 h.1, elim (cases_Bool (is_core d before c)) [ inl k ↦ absurd (h.0 ((old_core_is c).1 k)) | inr k ↦ k ])),
      (λ h. ((λ k. not_both _ h.1 ((old_core_is c).0 k)), (core_is c).1 h.0)),
    )

    -- all rows stand once the new cores were offered
    module _ (final : Counted) (cores : List ℕ) (are : AreNewCores old new cores) (near1 : ℕ → ℕ → Bool) (same : (a b : ℕ) → near1 a b ≡ is_near d after a b) (offered : AreOffered near1 labels cores new final) where
      module _ (a : ℕ) (off : is_core d after a ≡ false) where
        unlabelled : map.get labels a ≡ None
        unlabelled =
            let was : is_core d before a ≡ false = elim (cases_Bool (is_core d before a)) [ inl k ↦ absurd (not_both _ off (by.within.cores a k)) | inr k ↦ k ] in
            labels_due a ∙ ap (λ b. if b then Some (cluster_of d before a) else None) was

        offers_are : (c : ℕ) → Member c (offers near1 labels cores a) ↔ ((IsTrue (is_core d after c) × (is_core d before c ≡ false)) × IsTrue (is_near d after a c))
        offers_are c = (
          (λ m.
              let i = in_filter (λ n. near1 n a && is_none (map.get labels a)) cores c (from_member (offers near1 labels cores a) c m) in
              ((became_is c).0 ((are.became c).0 i.0), alike a c ∙ (sym (same c a) ∙ first_of_both _ _ i.1))),
          (λ h.
              let near : IsTrue (near1 c a) = same c a ∙ (alike c a ∙ h.1) in
              to_member (offers near1 labels cores a) c
              (to_filter (λ n. near1 n a && is_none (map.get labels a)) cores c ((are.became c).1 ((became_is c).1 h.0)) (both _ _ near (ap is_none unlabelled)))),
        )

        anchor_due : (o : Option ℕ) → IsHalfDue d before after a o → least_of o (offers near1 labels cores a) ≡ anchor_of d after a
        anchor_due o h = hung_due d after sorted' a off _ (hung_more (is_core d before) (is_core d after) (is_near d after) a o (offers near1 labels cores a) by.within.cores offers_are (h.other off))

      abbrev hangs : ℕ → ℕ → Option ℕ → List ℕ → Option ℕ
      hangs m n o cs = cond (nat_lt n m) (least_of o cs) o

      final_anchor : (a : ℕ) → IsSome (map.get rows' a) → (o : Option ℕ) → IsHalfDue d before after a o → hangs new.minpts (size_of d after a) o (offers near1 labels cores a) ≡ anchor_of d after a
      final_anchor a there o h =
          let n = size_of d after a in
          let cs = offers near1 labels cores a in
          let to = ap (λ m. hangs m n o cs) counted.minpts_kept in
          elim (cases_Bool (is_core d after a)) [
            | inl k ↦
                let le = true_le old.minpts n (sym (by_size a there) ∙ k) in
                to ∙ ap (λ b. cond b (least_of o cs) o) (lt_false n old.minpts le) ∙ (h.core k ∙ sym (core_anchor d after a k))
            | inr k ↦
                let lt = false_le old.minpts n (sym (by_size a there) ∙ k) in
                to ∙ ap (λ b. cond b (least_of o cs) o) (lt_true n old.minpts lt) ∙ anchor_due a k o h
          ]

      pub rows_due : (a : ℕ) → map.get final.rows a ≡ row_due d after rows' a
      rows_due a =
          let cs = offers near1 labels cores a in
          let due_to = λ (b : Bool). if b then Some (row_of (size_of d after a) (anchor_of d after a)) else None in
          elim (known (map.get rows' a)) [
            | inl e ↦ offered.row a ∙ ap (option_map (hung new.minpts cs)) (no_row a e) ∙ sym (ap due_to (ap is_some e))
            | inr x ↦
                let there : IsSome (map.get rows' a) = ap is_some x.1 in
                let r = new_row a there in
                offered.row a ∙ ap (option_map (hung new.minpts cs)) r.row
                ∙ ap (λ o. Some (row_of (size_of d after a) o)) (final_anchor a there r.anchor r.holds) ∙ sym (ap due_to there)
          ]
