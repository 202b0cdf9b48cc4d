-- The rows that are due once what hung on lost cores was hung anew.
use Rattle.std.proofs.Common.{◌≡◌, ◌≢◌, ℕ, Bool, true, false, cond, List, [], ◌∷◌, IsTrue, IsSomeAnd, refl, sym, ap, subst, ◌∙◌, None, Some, inl, inr, if◌then◌else◌}
use Rattle.std.specs.Prelude.{filter, find}
use Rattle.std.specs.declared.option.Option.{Option}
use Rattle.std.specs.Option.{is_some, option_map}
use Rattle.std.specs.Ordering.{nat_cmp}
use Rattle.std.specs.FinMap as map
use Rattle.std.specs.FinMap.Entries.{find as value_at}
use Rattle.std.proofs.Math.Path.{fun_ext}
use Rattle.std.proofs.lemmas.Bool.{cases_Bool, cases_eq}
use Rattle.vec_record.specs.Held.{Rows, HaveWidth}
use Rattle.vec_record.specs.Vectors.{IsVector}
use Rattle.plain_dbscan.specs.Change.{ChangesByOne}
use Rattle.plain_dbscan.specs.Marks.{Density, density, Entries, numbers_of, is_near, near_of, size_of, is_core, anchor_of}
use Rattle.plain_dbscan.specs.Index.{near}
use Rattle.plain_dbscan.proofs.CoresOf.{core_anchor, other_anchor, anchor_is, is_anchor, none_anchor, no_anchor}
use Rattle.count_book.specs.Counted.{Counted, row_of, anchor_in, anchored}
use Rattle.label_book.specs.Labels.{Labels, IsMember}
use Rattle.label_book.proofs.Joined.{member_or}
use Rattle.label_book.proofs.Taken.{removed_same, removed_other}
use Rattle.label_book.proofs.Views.{known, no_value, some_and}
use Rattle.update_seed.specs.Books.{row_due, AreLabelsDue, core_in}
use Rattle.update_seed.specs.Outgoing.{IsLost, IsNearLost, IsLoose, AreLoose, AreHung}
use Rattle.delete_case.specs.Counting.{AreCountedOut}
use Rattle.delete_case.proofs.Gone.{same_within, changes, alike, not_core, near_around, apart_from}
use Rattle.delete_case.proofs.Counted.{core_tested, test_core, counted_row, counted_flag, lost_was, lost_out, is_lost}
use Rattle.delete_case.proofs.Hung.{hung_flags}

-- the first that passes one test among those that pass another, either way round
found_among : (p q : ℕ → Bool) (xs : List ℕ) → find p (filter q xs) ≡ find q (filter p xs)
found_among p q [] = refl
found_among p q (x ∷ xs) =
    elim (p x) as (λ b. p x ≡ b → find p (cond (q x) (x ∷ filter q xs) (filter q xs)) ≡ find q (cond b (x ∷ filter p xs) (filter p xs))) [
      | true ↦ λ e. elim (q x) as (λ c. find p (cond c (x ∷ filter q xs) (filter q xs)) ≡ cond c (Some x) (find q (filter p xs))) [
        | true ↦ ap (λ b. cond b (Some x) (find p (filter q xs))) e
        | false ↦ found_among p q xs
      ]
      | false ↦ λ e. elim (q x) as (λ c. find p (cond c (x ∷ filter q xs) (filter q xs)) ≡ find q (filter p xs)) [
        | true ↦ ap (λ b. cond b (Some x) (find p (filter q xs))) e ∙ found_among p q xs
        | false ↦ found_among p q xs
      ]
    ] refl

record_row : (b : Bool) (s : ℕ) (o x : Option ℕ) → option_map (anchored x) (if b then Some (row_of s o) else None) ≡ (if b then Some (row_of s x) else None)
record_row true s o x = refl
record_row false s o x = refl

row_anchor : (b : Bool) (s c : ℕ) (o : Option ℕ) → IsTrue b → o ≡ Some c → anchor_in (if b then Some (row_of s o) else None) ≡ Some c
row_anchor true s c o h e = e
row_anchor false s c o h e = absurd (cc)

anchor_of_row : (b : Bool) (s c : ℕ) (o : Option ℕ) → anchor_in (if b then Some (row_of s o) else None) ≡ Some c → o ≡ Some c
anchor_of_row true s c o e = e
anchor_of_row false s c o e = absurd (no_value refl e)

module _ (dist : List ℕ → List ℕ → ℕ) (eps minpts w : ℕ) (rows : Rows) (p : ℕ) (v : List ℕ) (at : map.get rows p ≡ Some v) (wide : HaveWidth w rows)
    (back : (u x : List ℕ) → IsVector w u → IsVector w x → dist u x ≡ dist x u) (itself : (u : List ℕ) → IsVector w u → dist u u ≡ 0)
    (around : List ℕ) (found : around ≡ near dist (map.remove rows p) v eps)
    (counts counted : Counted) (lost : List ℕ) (labels : Labels)
    (due : (a : ℕ) → map.get counts.rows a ≡ row_due (density dist eps minpts) (map.entries rows) rows a) (same : counts.minpts ≡ minpts)
    (out : AreCountedOut p around counts counted lost) (labelled : AreLabelsDue (density dist eps minpts) (map.entries rows) labels) where
  abbrev d : Density
  d = density dist eps minpts

  abbrev rows' : Rows
  rows' = map.remove rows p

  abbrev before : Entries
  before = map.entries rows

  abbrev after : Entries
  after = map.entries rows'

  abbrev near' : ℕ → ℕ → Bool
  near' = is_near (density dist eps 1) after

  abbrev all' : ℕ → List ℕ
  all' a = near_of (density dist eps 1) after a

  the : ChangesByOne d p after before
  the = changes dist eps minpts w rows p v at wide back

  there' : (a : ℕ) → a ≢ p → is_some (map.get rows a) ≡ is_some (map.get rows' a)
  there' a n = ap is_some (sym (removed_other rows p a n))

  row_now : (a : ℕ) → a ≢ p → map.get counted.rows a ≡ (if is_some (map.get rows' a) then Some (row_of (size_of d after a) (anchor_of d before a)) else None)
  row_now a n =
      counted_row dist eps minpts w rows p v at wide back itself around found counts counted lost labels due same out a n
      ∙ ap (λ (b : Bool). if b then Some (row_of (size_of d after a) (anchor_of d before a)) else None) (there' a n)

  -- the anchor in the book is the one that was due
  pub loose_anchor : (a : ℕ) → a ≢ p → (c : ℕ) → anchor_in (map.get counted.rows a) ≡ Some c → anchor_of d before a ≡ Some c
  loose_anchor a n c e = anchor_of_row (is_some (map.get rows' a)) (size_of d after a) c (anchor_of d before a) (sym (ap anchor_in (row_now a n)) ∙ e)

  flag : (a : ℕ) → core_in counted a ≡ is_core d after a
  flag = counted_flag dist eps minpts w rows p v at wide back itself around found counts counted lost labels due same out

  was : (b : ℕ) → IsLost labels p lost b → IsTrue (is_core d before b)
  was = lost_was dist eps minpts w rows p v at wide back itself around found counts counted lost labels due same out labelled

  gone : (b : ℕ) → IsLost labels p lost b → is_core d after b ≡ false
  gone = lost_out dist eps minpts w rows p v at wide back itself around found counts counted lost labels due same out labelled

  lose : (b : ℕ) → IsTrue (is_core d before b) → is_core d after b ≡ false → IsLost labels p lost b
  lose = is_lost dist eps minpts w rows p v at wide back itself around found counts counted lost labels due same out labelled

  present_apart : (c : ℕ) → IsTrue (is_core d after c) → c ≢ p
  present_apart c h e = let bad : is_core d after c ≡ false = ap (is_core d after) e ∙ not_core dist eps minpts w rows p v at wide back in absurd (cc)

  -- the first core near a record that is no core is its anchor
  first_is : (a : ℕ) → is_core d after a ≡ false → find (core_in counted) (all' a) ≡ anchor_of d after a
  first_is a off =
      ap (λ (f : ℕ → Bool). find f (all' a)) (fun_ext flag)
      ∙ ap (λ (f : ℕ → Bool). find (is_core d after) (filter f (numbers_of after)))
      (fun_ext (λ b. same_within dist eps 1 minpts (value_at nat_cmp a after) (value_at nat_cmp b after)))
      ∙ found_among (is_core d after) (is_near d after a) (numbers_of after)
      ∙ sym (other_anchor d after a off)

  -- an anchor that is no lost core is the anchor still
  kept_none : (a : ℕ) → a ≢ p → is_core d before a ≡ false → is_core d after a ≡ false → anchor_of d before a ≡ None → anchor_of d after a ≡ None
  kept_none a n off off' none = none_anchor d after a off' (λ c h. sym (the.near a c n (present_apart c h)) ∙ no_anchor d before a off none c (the.within.cores c h))

  kept_some : (a c : ℕ) → a ≢ p → is_core d after a ≡ false → anchor_of d before a ≡ Some c → IsTrue (is_core d after c) → anchor_of d after a ≡ Some c
  kept_some a c n off' e h =
      let anchor = anchor_is d before (map.entries_sorted rows) a c e in
      is_anchor d after (map.entries_sorted rows') a c (record {
        no_core = off';
        is_core = h;
        is_near = sym (the.near a c n (present_apart c h)) ∙ anchor.is_near;
        least = λ b k m. anchor.least b (the.within.cores b k) (the.near a b n (present_apart b k) ∙ m);
      })

  -- what hung on a lost core is loose
  hung_on : (a c : ℕ) → a ≢ p → IsTrue (is_some (map.get rows' a)) → is_core d after a ≡ false → anchor_of d before a ≡ Some c → is_core d after c ≡ false → IsLoose near' counted labels p around lost a
  hung_on a c n there off' e off =
      let anchor = anchor_is d before (map.entries_sorted rows) a c e in
      let is : anchor_in (map.get counted.rows a) ≡ Some c = ap anchor_in (row_now a n) ∙ row_anchor (is_some (map.get rows' a)) (size_of d after a) c (anchor_of d before a) there e in
      let close : IsTrue (is_near d before c a) = alike dist eps minpts w rows p v at wide back c a ∙ anchor.is_near in
      let beside : IsNearLost near' p around c a = elim (cases_eq c p) [
        | inl s ↦ inr (s, near_around dist eps minpts w rows p v at wide back around found a n (subst (λ (x : ℕ). IsTrue (is_near d before x a)) s close))
        | inr m ↦ inl (same_within dist eps 1 minpts (value_at nat_cmp c after) (value_at nat_cmp a after) ∙ (sym (the.near c a m n) ∙ close))
      ] in (
        λ k. let bad : is_core d after a ≡ true = sym (flag a) ∙ core_tested counted a k in absurd (cc),
        subst (λ (o : Option ℕ). IsSomeAnd o (λ b. IsLost labels p lost b × IsNearLost near' p around b a)) (sym is) (lose c anchor.is_core off, beside),
      )

  module _ (loose : List ℕ) (hung new : Counted) (first : AreHung all' lost counted hung) (are : AreLoose near' counted labels p around lost loose) (second : AreHung all' loose hung new) where
    not_lost : (a : ℕ) → IsTrue (is_core d after a) → IsMember lost a → ⊥
    not_lost a h m = let bad : is_core d after a ≡ false = gone a (inl m) in absurd (cc)

    not_loose : (a : ℕ) → IsTrue (is_core d after a) → IsMember loose a → ⊥
    not_loose a h m = ((are.exact a).0 m).0 (test_core counted a (flag a ∙ h))

    p_not_lost : IsMember lost p → ⊥
    p_not_lost m = apart_from dist eps minpts w rows p v at wide back around found p ((out.lost_are p).0 m).0 refl

    p_not_loose : IsMember loose p → ⊥
    p_not_loose m =
        let some = some_and (anchor_in (map.get counted.rows p)) _ ((are.exact p).0 m).1 in
        no_value (ap anchor_in out.left) some.1

    -- a loose one was no core
    loose_was : (a : ℕ) → a ≢ p → IsMember loose a → (c : ℕ) × (anchor_of d before a ≡ Some c)
    loose_was a n m =
        let some = some_and (anchor_in (map.get counted.rows a)) _ ((are.exact a).0 m).1 in
        (some.0, anchor_of_row (is_some (map.get rows' a)) (size_of d after a) some.0 (anchor_of d before a) (sym (ap anchor_in (row_now a n)) ∙ some.1))

    lost_not_loose : (a : ℕ) → a ≢ p → IsMember lost a → IsMember loose a → ⊥
    lost_not_loose a n m k = let c = loose_was a n k in no_value (core_anchor d before a (was a (inl m))) c.1

    untouched : (a : ℕ) → (IsMember lost a → ⊥) → (IsMember loose a → ⊥) → map.get new.rows a ≡ map.get counted.rows a
    untouched a m k = second.others a k ∙ first.others a m

    due_by : (a : ℕ) → a ≢ p → anchor_of d before a ≡ anchor_of d after a → map.get new.rows a ≡ map.get counted.rows a → map.get new.rows a ≡ row_due d after rows' a
    due_by a n e is = is ∙ row_now a n ∙ ap (λ (o : Option ℕ). if is_some (map.get rows' a) then Some (row_of (size_of d after a) o) else None) e

    hung_by : (a : ℕ) → a ≢ p → is_core d after a ≡ false → map.get new.rows a ≡ option_map (anchored (find (core_in counted) (all' a))) (map.get counted.rows a) → map.get new.rows a ≡ row_due d after rows' a
    hung_by a n off is =
        is
        ∙ ap (λ (x : Option ℕ). option_map (anchored x) (map.get counted.rows a)) (first_is a off)
        ∙ ap (option_map (anchored (anchor_of d after a))) (row_now a n)
        ∙ record_row (is_some (map.get rows' a)) (size_of d after a) (anchor_of d before a) (anchor_of d after a)

    due_p : map.get new.rows p ≡ row_due d after rows' p
    due_p =
        untouched p p_not_lost p_not_loose
        ∙ out.left
        ∙ sym (ap (λ (o : Option (List ℕ)). if is_some o then Some (row_of (size_of d after p) (anchor_of d after p)) else None) (removed_same rows p))

    due_core : (a : ℕ) → a ≢ p → IsTrue (is_core d after a) → map.get new.rows a ≡ row_due d after rows' a
    due_core a n h = due_by a n (core_anchor d before a (the.within.cores a h) ∙ sym (core_anchor d after a h)) (untouched a (not_lost a h) (not_loose a h))

    due_lost : (a : ℕ) → a ≢ p → is_core d after a ≡ false → IsMember lost a → map.get new.rows a ≡ row_due d after rows' a
    due_lost a n off m = hung_by a n off (second.others a (lost_not_loose a n m) ∙ first.hung a m)

    due_loose : (a : ℕ) → a ≢ p → is_core d after a ≡ false → (IsMember lost a → ⊥) → IsMember loose a → map.get new.rows a ≡ row_due d after rows' a
    due_loose a n off m k = hung_by a n off (
        second.hung a k
        ∙ ap (λ (f : ℕ → Bool). option_map (anchored (find f (all' a))) (map.get hung.rows a)) (hung_flags all' lost counted hung first)
        ∙ ap (option_map (anchored (find (core_in counted) (all' a)))) (first.others a m))

    due_other : (a : ℕ) → a ≢ p → is_core d after a ≡ false → (IsMember lost a → ⊥) → (IsMember loose a → ⊥) → map.get new.rows a ≡ row_due d after rows' a
    due_other a n off m k =
        let is = untouched a m k in
        elim (cases_Bool (is_some (map.get rows' a))) [
          | inr absent ↦
              is ∙ row_now a n
              ∙ ap (λ (b : Bool). if b then Some (row_of (size_of d after a) (anchor_of d before a)) else None) absent
              ∙ sym (ap (λ (b : Bool). if b then Some (row_of (size_of d after a) (anchor_of d after a)) else None) absent)
          | inl there ↦
              let not : is_core d before a ≡ false = elim (cases_Bool (is_core d before a)) [
                | inl h ↦ elim (lose a h off) [ inl l ↦ absurd (m l) | inr e ↦ absurd (n e.0) ]
                | inr h ↦ h
              ] in
              due_by a n (elim (known (anchor_of d before a)) [
                | inl none ↦ none ∙ sym (kept_none a n not off none)
                | inr c ↦ elim (cases_Bool (is_core d after c.0)) [
                  | inl h ↦ c.1 ∙ sym (kept_some a c.0 n off c.1 h)
                  | inr h ↦ absurd (k ((are.exact a).1 (hung_on a c.0 n there off c.1 h)))
                ]
              ]) is
        ]

    pub rows_due : (a : ℕ) → map.get new.rows a ≡ row_due d after rows' a
    rows_due a = elim (cases_eq a p) [
      | inl s ↦ subst (λ (x : ℕ). map.get new.rows x ≡ row_due d after rows' x) (sym s) due_p
      | inr n ↦ elim (cases_Bool (is_core d after a)) [
        | inl h ↦ due_core a n h
        | inr off ↦ elim (member_or lost a) [
          | inl m ↦ due_lost a n off m
          | inr m ↦ elim (member_or loose a) [
            | inl k ↦ due_loose a n off m k
            | inr k ↦ due_other a n off m k
          ]
        ]
      ]
    ]
