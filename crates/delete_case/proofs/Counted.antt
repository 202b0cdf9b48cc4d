-- The counts that are due once one record less was counted, and which cores are lost by it.
use Rattle.std.proofs.Common.{◌≡◌, ◌≢◌, ℕ, ◌+◌, ◌-◌, ◌≤◌, Bool, true, false, cond, ◌&&◌, List, IsTrue, IsSomeAnd, refl, sym, ap, subst, ◌∙◌, None, Some, inl, inr, if◌then◌else◌, arith}
use Rattle.std.specs.Prelude.{nat_le, nat_lt}
use Rattle.std.specs.declared.option.Option.{Option}
use Rattle.std.specs.Option.{is_some, option_map}
use Rattle.std.specs.Ordering.{nat_cmp}
use Rattle.std.specs.FinMap as map
use Rattle.std.specs.FinMap.Entries.{find as value_at}
use Rattle.std.proofs.lemmas.Bool.{cases_Bool, cases_eq}
use Rattle.std.proofs.lemmas.Bool.Decides.{nat_tests}
use Rattle.vec_record.specs.Held.{Rows, HaveWidth}
use Rattle.vec_record.specs.Vectors.{IsVector}
use Rattle.plain_dbscan.specs.Marks.{Density, density, Entries, is_near, size_of, is_core, anchor_of}
use Rattle.plain_dbscan.specs.Index.{near}
use Rattle.count_book.specs.declared.row.Row.{Row}
use Rattle.count_book.specs.Counted.{Counted, row_of, IsCore}
use Rattle.label_book.specs.Labels.{Labels, IsMember}
use Rattle.label_book.proofs.Joined.{member_or}
use Rattle.label_book.proofs.Taken.{removed_other}
use Rattle.label_book.proofs.Views.{known}
use Rattle.update_seed.specs.Books.{row_due, AreLabelsDue, is_core_row, core_in}
use Rattle.update_seed.specs.Outgoing.{IsLost}
use Rattle.delete_case.specs.Counting.{lowered, AreCountedOut}
use Rattle.delete_case.proofs.Labelled.{due_core, was_core}
use Rattle.delete_case.proofs.Gone.{some_size, changes, alike, wide_still, value_other, not_core, around_near, near_around}

-- whether a number is core by the book, said either way
pub core_tested : (c : Counted) (a : ℕ) → IsCore c a → IsTrue (core_in c a)
core_tested c a h = by (map.get c.rows a) h
  where
    by : (o : Option Row) → IsSomeAnd o (λ r. c.minpts ≤ r.count) → IsTrue (is_core_row c.minpts o)
    by None k = absurd k
    by (Some r) k = grind (arith, nat_tests)

pub test_core : (c : Counted) (a : ℕ) → IsTrue (core_in c a) → IsCore c a
test_core c a h = by (map.get c.rows a) h
  where
    by : (o : Option Row) → IsTrue (is_core_row c.minpts o) → IsSomeAnd o (λ r. c.minpts ≤ r.count)
    by None k = absurd (cc)
    by (Some r) k = grind (arith, nat_tests)

due_test : (m s : ℕ) (o : Option ℕ) (b : Bool) → is_core_row m (if b then Some (row_of s o) else None) ≡ b && nat_le m s
due_test m s o true = refl
due_test m s o false = refl

-- the flags of rows that are due
pub due_flag : (c : Counted) (a s : ℕ) (o : Option ℕ) (b : Bool) → map.get c.rows a ≡ (if b then Some (row_of s o) else None) → core_in c a ≡ b && nat_le c.minpts s
due_flag c a s o b e = ap (is_core_row c.minpts) e ∙ due_test c.minpts s o b

one_off : (n s : ℕ) → n ≡ s + 1 → 1 ≤ s → (if nat_lt 1 n then n - 1 else n) ≡ s
one_off n s e h = let t : nat_lt 1 n ≡ true = grind (arith, nat_tests) in ap (λ (b : Bool). cond b (n - 1) n) t ∙ omega (arith, e)

lowered_due : (n s : ℕ) (o : Option ℕ) (b : Bool) → (IsTrue b → (n ≡ s + 1) × (1 ≤ s)) → option_map lowered (if b then Some (row_of n o) else None) ≡ (if b then Some (row_of s o) else None)
lowered_due n s o true h = let k = h refl in ap (λ (m : ℕ). Some (row_of m o)) (one_off n s k.0 k.1)
lowered_due n s o false h = refl

module _ (dist : List ℕ → List ℕ → ℕ) (eps minpts w : ℕ) (rows : Rows) (p : ℕ) (v : List ℕ) (at : map.get rows p ≡ Some v) (wide : HaveWidth w rows)
    (back : (u x : List ℕ) → IsVector w u → IsVector w x → dist u x ≡ dist x u) (itself : (u : List ℕ) → IsVector w u → dist u u ≡ 0)
    (around : List ℕ) (found : around ≡ near dist (map.remove rows p) v eps)
    (counts counted : Counted) (lost : List ℕ) (labels : Labels)
    (due : (a : ℕ) → map.get counts.rows a ≡ row_due (density dist eps minpts) (map.entries rows) rows a) (same : counts.minpts ≡ minpts)
    (out : AreCountedOut p around counts counted lost) where
  abbrev d : Density
  d = density dist eps minpts

  abbrev before : Entries
  before = map.entries rows

  abbrev after : Entries
  after = map.entries (map.remove rows p)

  present : (a : ℕ) → is_some (map.get rows a) ≡ is_some (value_at nat_cmp a before)
  present a = ap is_some (map.get-entries rows a)

  -- the flags before
  pub was_flag : (a : ℕ) → core_in counts a ≡ is_core d before a
  was_flag a =
      due_flag counts a (size_of d before a) (anchor_of d before a) (is_some (map.get rows a)) (due a)
      ∙ ap (λ (m : ℕ). is_some (map.get rows a) && nat_le m (size_of d before a)) same
      ∙ ap (λ (b : Bool). b && nat_le minpts (size_of d before a)) (present a)

  -- the row of another record has its size after
  pub counted_row : (a : ℕ) → a ≢ p → map.get counted.rows a ≡ (if is_some (map.get rows a) then Some (row_of (size_of d after a) (anchor_of d before a)) else None)
  counted_row a n =
      let gained = (changes dist eps minpts w rows p v at wide back).size a n in
      elim (member_or around a) [
        | inl m ↦
            let close : IsTrue (is_near d before a p) = alike dist eps minpts w rows p v at wide back a p ∙ around_near dist eps minpts w rows p v at wide back around found a m in
            let more : size_of d before a ≡ size_of d after a + 1 = gained ∙ ap (λ (b : Bool). size_of d after a + cond b 1 0) close in
            out.near a m
            ∙ ap (option_map lowered) (due a)
            ∙ lowered_due (size_of d before a) (size_of d after a) (anchor_of d before a) (is_some (map.get rows a)) (λ there. (more, few a n there))
        | inr off ↦
            let far : is_near d before a p ≡ false = not_near a n off in
            let as_many : size_of d before a ≡ size_of d after a = gained ∙ ap (λ (b : Bool). size_of d after a + cond b 1 0) far ∙ omega arith in
            out.far a n off
            ∙ due a
            ∙ ap (λ (s : ℕ). if is_some (map.get rows a) then Some (row_of s (anchor_of d before a)) else None) as_many
      ]
    where
      few : (a : ℕ) → a ≢ p → IsTrue (is_some (map.get rows a)) → 1 ≤ size_of d after a
      few a n there = elim (known (map.get (map.remove rows p) a)) [
        | inl none ↦ let bad : is_some (map.get rows a) ≡ false = ap is_some (sym (removed_other rows p a n) ∙ none) in absurd (cc)
        | inr u ↦ some_size dist eps minpts w (map.remove rows p) (wide_still dist eps minpts w rows p v at wide back) itself a u.0 u.1
      ]

      not_near : (a : ℕ) → a ≢ p → (IsMember around a → ⊥) → is_near d before a p ≡ false
      not_near a n off = elim (cases_Bool (is_near d before a p)) [
        | inl h ↦ absurd (off (near_around dist eps minpts w rows p v at wide back around found a n (alike dist eps minpts w rows p v at wide back p a ∙ h)))
        | inr h ↦ h
      ]

  -- and the flags after
  pub counted_flag : (a : ℕ) → core_in counted a ≡ is_core d after a
  counted_flag a = elim (cases_eq a p) [
    | inl s ↦
        let none : map.get counted.rows a ≡ None = ap (map.get counted.rows) s ∙ out.left in
        ap (is_core_row counted.minpts) none ∙ sym (not_core dist eps minpts w rows p v at wide back) ∙ ap (is_core d after) (sym s)
    | inr n ↦
        due_flag counted a (size_of d after a) (anchor_of d before a) (is_some (map.get rows a)) (counted_row a n)
        ∙ ap (λ (m : ℕ). is_some (map.get rows a) && nat_le m (size_of d after a)) (out.minpts_kept ∙ same)
        ∙ ap (λ (b : Bool). b && nat_le minpts (size_of d after a)) (present a ∙ ap is_some (value_other dist eps minpts w rows p v at wide back a n))
  ]

  module _ (labelled : AreLabelsDue d before labels) where
    -- a lost core was core and isn't
    pub lost_was : (b : ℕ) → IsLost labels p lost b → IsTrue (is_core d before b)
    lost_was b (inl m) = sym (was_flag b) ∙ core_tested counts b ((out.lost_are b).0 m).1.0
    lost_was b (inr h) = elim (known (map.get labels p)) [
      | inl none ↦ let bad : false ≡ true = sym (ap is_some none) ∙ h.1 in absurd (cc)
      | inr l ↦ subst (λ (x : ℕ). IsTrue (is_core d before x)) (sym h.0) (was_core d before labels labelled p l.0 l.1)
    ]

    pub lost_out : (b : ℕ) → IsLost labels p lost b → is_core d after b ≡ false
    lost_out b (inl m) = elim (cases_Bool (is_core d after b)) [
      | inl h ↦ absurd (((out.lost_are b).0 m).1.1 (test_core counted b (counted_flag b ∙ h)))
      | inr h ↦ h
    ]
    lost_out b (inr h) = ap (is_core d after) h.0 ∙ not_core dist eps minpts w rows p v at wide back

    -- and what was core and isn't is lost
    pub is_lost : (b : ℕ) → IsTrue (is_core d before b) → is_core d after b ≡ false → IsLost labels p lost b
    is_lost b was off = elim (cases_eq b p) [
      | inl s ↦ inr (s, ap is_some (due_core d before labels labelled p (subst (λ (x : ℕ). IsTrue (is_core d before x)) s was)))
      | inr n ↦
          let beside = (changes dist eps minpts w rows p v at wide back).new b n off was in
          let m = near_around dist eps minpts w rows p v at wide back around found b n (alike dist eps minpts w rows p v at wide back p b ∙ beside) in
          inl ((out.lost_are b).1 (
            m,
            (
              test_core counts b (was_flag b ∙ was),
              λ k. let bad : is_core d after b ≡ true = sym (counted_flag b) ∙ core_tested counted b k in absurd (cc),
            ),
          ))
    ]
