-- The books fit what remains, whether or not they stood for the records.
use Rattle.std.proofs.Common.{◌≡◌, ◌≢◌, ◌↔◌, ◌⊎◌, ℕ, ◌-◌, ◌<◌, ◌≤◌, Bool, true, false, cond, List, [], ◌∷◌, length, if◌then◌else◌, IsSome, IsSomeAnd, is_some, refl, sym, ap, subst, ◌∙◌, None, Some, inl, inr, arith}
use Rattle.std.specs.Prelude.{nat_lt, find}
use Rattle.std.specs.declared.option.Option.{Option}
use Rattle.std.specs.Option.{option_map}
use Rattle.std.specs.FinMap as map
use Rattle.std.proofs.lemmas.Bool.{cases_Bool, cases_eq, cases_lt}
use Rattle.std.proofs.lemmas.Bool.Decides.{nat_tests}
use Rattle.vec_record.specs.Held.{Held, Rows}
use Rattle.count_book.specs.declared.row.Row.{Row}
use Rattle.count_book.specs.Counted.{Counted, IsCore, anchored, anchor_in}
use Rattle.label_book.specs.Labels.{Labels, HasLeast, IsMember}
use Rattle.label_book.proofs.Joined.{member_or}
use Rattle.label_book.proofs.Parted.{grouped_or}
use Rattle.label_book.proofs.Taken.{removed_same, removed_other}
use Rattle.label_book.proofs.Views.{known, same_value, no_value, some_and}
use Rattle.update_seed.specs.declared.former.Former.{Former}
use Rattle.update_seed.specs.Books.{IsHeld, Fits, core_in}
use Rattle.update_seed.specs.Outgoing.{IsLost, IsFormer, AreFormer, AreHung}
use Rattle.delete_case.specs.Counting.{lowered, AreCountedOut}
use Rattle.delete_case.specs.Deleted.{without}
use Rattle.delete_case.specs.Parting.{IsPartable, ArePartable, CoresAreThere, IsCut, AreAllParted}
use Rattle.delete_case.proofs.Counted.{core_tested, test_core}
use Rattle.delete_case.proofs.Hung.{hung_flag}
use Rattle.delete_case.proofs.Remaining.{labelled_or}

-- a row and what one less makes of it
pub record IsFrom (r' r : Row) : Type 0 where
  pub anchor : r'.anchor ≡ r.anchor
  pub lower : r'.count ≤ r.count
  pub some : 1 ≤ r.count → 1 ≤ r'.count

less : (n : ℕ) → (if nat_lt 1 n then n - 1 else n) ≤ n
less n = grind (arith, nat_tests)

some : (n : ℕ) → 1 ≤ n → 1 ≤ (if nat_lt 1 n then n - 1 else n)
some n h = elim (cases_lt 1 n) [
  | inl more ↦ let t : nat_lt 1 n ≡ true = grind (arith, nat_tests) in subst (λ (b : Bool). 1 ≤ cond b (n - 1) n) (sym t) (omega arith)
  | inr few ↦ let t : nat_lt 1 n ≡ false = grind (arith, nat_tests) in subst (λ (b : Bool). 1 ≤ cond b (n - 1) n) (sym t) h
]

lowered_from : (r : Row) → IsFrom (lowered r) r
lowered_from r = record { anchor = refl; lower = less r.count; some = some r.count }

itself : (r : Row) → IsFrom r r
itself r = record { anchor = refl; lower = omega arith; some = λ h. h }

map_back : (f : Row → Row) (o : Option Row) (r' : Row) → option_map f o ≡ Some r' → (r : Row) × (o ≡ Some r) × (f r ≡ r')
map_back f None r' e = absurd (no_value refl e)
map_back f (Some r) r' e = (r, refl, same_value refl e)

map_some : (f : Row → Row) (o : Option Row) → is_some (option_map f o) ≡ is_some o
map_some f None = refl
map_some f (Some r) = refl

no_some : {X : Type 0} (o : Option X) → o ≡ None → IsSome o → ⊥
no_some o e h = let bad : false ≡ true = sym (ap is_some e) ∙ h in cc

-- whether it is core is decided
core_or : (c : Counted) (a : ℕ) → IsCore c a ⊎ (IsCore c a → ⊥)
core_or c a = elim (cases_Bool (core_in c a)) [
  | inl h ↦ inl (test_core c a h)
  | inr h ↦ inr (λ k. let bad : core_in c a ≡ true = core_tested c a k in absurd (cc))
]

-- a core has a row that counts enough
pub core_row : (c : Counted) (a : ℕ) → IsCore c a → (r : Row) × (map.get c.rows a ≡ Some r) × (c.minpts ≤ r.count)
core_row c a h = some_and (map.get c.rows a) _ h

row_core : (c : Counted) (a : ℕ) (r : Row) → map.get c.rows a ≡ Some r → c.minpts ≤ r.count → IsCore c a
row_core c a r e h = subst (λ (o : Option Row). IsSomeAnd o (λ x. c.minpts ≤ x.count)) (sym e) h

module _ (all : ℕ → List ℕ) (done : List ℕ) (old new : Counted) (h : AreHung all done old new) where
  pub hung_core : (a : ℕ) → IsCore new a → IsCore old a
  hung_core a k = test_core old a (sym (hung_flag all done old new h a) ∙ core_tested new a k)

  pub core_hung : (a : ℕ) → IsCore old a → IsCore new a
  core_hung a k = test_core new a (hung_flag all done old new h a ∙ core_tested old a k)

  pub hung_there : (a : ℕ) → is_some (map.get new.rows a) ≡ is_some (map.get old.rows a)
  hung_there a = elim (member_or done a) [
    | inl m ↦ ap is_some (h.hung a m) ∙ map_some (anchored (find (core_in old) (all a))) (map.get old.rows a)
    | inr n ↦ ap is_some (h.others a n)
  ]

  pub hung_row : (a : ℕ) (r' : Row) → map.get new.rows a ≡ Some r' → (r : Row) × (map.get old.rows a ≡ Some r) × (r'.count ≡ r.count)
  hung_row a r' e = elim (member_or done a) [
    | inl m ↦
        let was = map_back (anchored (find (core_in old) (all a))) (map.get old.rows a) r' (sym (h.hung a m) ∙ e) in
        (was.0, was.1, sym (ap (λ (r : Row). r.count) was.2))
    | inr n ↦ (r', sym (h.others a n) ∙ e, refl)
  ]

module _ (p : ℕ) (around : List ℕ) (counts counted : Counted) (lost : List ℕ) (out : AreCountedOut p around counts counted lost) where
  other_than : (a : ℕ) (r' : Row) → map.get counted.rows a ≡ Some r' → a ≢ p
  other_than a r' e s = no_value (ap (map.get counted.rows) s ∙ out.left) e

  pub counted_from : (a : ℕ) (r' : Row) → map.get counted.rows a ≡ Some r' → (r : Row) × (map.get counts.rows a ≡ Some r) × IsFrom r' r
  counted_from a r' e = elim (member_or around a) [
    | inl m ↦
        let was = map_back lowered (map.get counts.rows a) r' (sym (out.near a m) ∙ e) in
        (was.0, was.1, subst (λ (x : Row). IsFrom x was.0) was.2 (lowered_from was.0))
    | inr n ↦ (r', sym (out.far a (other_than a r' e) n) ∙ e, itself r')
  ]

  pub counted_there : (a : ℕ) → a ≢ p → is_some (map.get counted.rows a) ≡ is_some (map.get counts.rows a)
  counted_there a ne = elim (member_or around a) [
    | inl m ↦ ap is_some (out.near a m) ∙ map_some lowered (map.get counts.rows a)
    | inr n ↦ ap is_some (out.far a ne n)
  ]

  -- a core is one that was, and is lost by nothing
  pub counted_core : (a : ℕ) → IsCore counted a → IsCore counts a
  counted_core a h =
      let row = core_row counted a h in
      let was = counted_from a row.0 row.1 in
      row_core counts a was.0 was.1 (omega (arith, out.minpts_kept, row.2, was.2.lower))

  pub lost_no_core : (labels : Labels) (a : ℕ) → IsLost labels p lost a → IsCore counted a → ⊥
  lost_no_core labels a (inl m) k = ((out.lost_are a).0 m).1.1 k
  lost_no_core labels a (inr h) k = let row = core_row counted a k in other_than a row.0 row.1 h.0

  pub still_core : (labels : Labels) (a : ℕ) → IsSome (map.get labels a) → IsCore counts a → (IsLost labels p lost a → ⊥) → IsCore counted a
  still_core labels a l h not = elim (core_or counted a) [
    | inl k ↦ k
    | inr k ↦ absurd (elim (cases_eq a p) [
      | inl s ↦ not (inr (s, subst (λ (x : ℕ). IsSome (map.get labels x)) s l))
      | inr ne ↦ elim (member_or around a) [
        | inl m ↦ not (inl ((out.lost_are a).1 (m, (h, k))))
        | inr n ↦
            let row = core_row counts a h in
            k (row_core counted a row.0 (out.far a ne n ∙ row.1) (omega (arith, out.minpts_kept, row.2)))
      ]
    ])
  ]

  module _ (width : ℕ) (contents : Rows) (records : Held) (labels : Labels) (fits : Fits width contents records counts labels) where
    pub counted_numbers : (a : ℕ) → is_some (map.get counted.rows a) ≡ is_some (map.get (without records p).vectors a)
    counted_numbers a = elim (cases_eq a p) [
      | inl s ↦
          ap (λ (x : ℕ). is_some (map.get counted.rows x)) s
          ∙ ap is_some out.left
          ∙ sym (ap is_some (removed_same records.vectors p))
          ∙ ap (λ (x : ℕ). is_some (map.get (without records p).vectors x)) (sym s)
      | inr ne ↦ counted_there a ne ∙ fits.numbers a ∙ ap is_some (sym (removed_other records.vectors p a ne))
    ]

    pub cores_there : CoresAreThere (without records p) counted
    cores_there a h = let row = core_row counted a h in sym (counted_numbers a) ∙ ap is_some row.1

    -- what the next calls need
    pub are_out : (b : ℕ) → IsMember lost b → IsSome (map.get labels b) × (anchor_in (map.get counted.rows b) ≡ None)
    are_out b m =
        let h = (out.lost_are b).0 m in
        let row = core_row counts b h.1.0 in
        let no_anchor = fits.unhung b row.0 row.1 row.2 in
        ((fits.labelled b).1 h.1.0, ap anchor_in (out.near b h.0 ∙ ap (option_map lowered) row.1) ∙ no_anchor)

    module _ (labels' : Labels) (least : HasLeast labels') (keep : (a : ℕ) → IsSome (map.get labels' a) ↔ (IsSome (map.get labels a) × (IsLost labels p lost a → ⊥)))
        (new : Counted) (same : new.minpts ≡ counted.minpts) (flags : (a : ℕ) → IsCore new a ↔ IsCore counted a)
        (there : (a : ℕ) → is_some (map.get new.rows a) ≡ is_some (map.get counted.rows a))
        (row_of : (a : ℕ) (r' : Row) → map.get new.rows a ≡ Some r' → (r : Row) × (map.get counted.rows a ≡ Some r) × (r'.count ≡ r.count))
        (core_row_of : (a : ℕ) → IsCore counted a → map.get new.rows a ≡ map.get counted.rows a)
        (width' : ℕ) (contents' : Rows) (held : IsHeld width' contents' (without records p)) where
      pub fits_after : Fits width' contents' (without records p) new labels'
      fits_after = record {
        held = held;
        numbers = λ a. there a ∙ counted_numbers a;
        counted = λ a r' e.
            let r = row_of a r' e in
            let was = counted_from a r.0 r.1 in
            let one = was.2.some (fits.counted a was.0 was.1) in
            omega (arith, r.2, one);
        unhung = λ a r' e h.
            let k = (flags a).0 (row_core new a r' e h) in
            let was = counted_from a r' (sym (core_row_of a k) ∙ e) in
            was.2.anchor ∙ fits.unhung a was.0 was.1 (omega (arith, was.2.lower, h, same, out.minpts_kept));
        labelled = λ a. (
          (λ l. let k = (keep a).0 l in (flags a).1 (still_core labels a k.0 ((fits.labelled a).0 k.0) k.1)),
          (λ h. let k = (flags a).0 h in (keep a).1 ((fits.labelled a).1 (counted_core a k), λ x. lost_no_core labels a x k)),
        );
        least = least;
      }

  -- after the parting exactly those have a label that had one and aren't lost
  module _ (near : ℕ → ℕ → Bool) (core : ℕ → Bool) (labels labels' : Labels) (list : List Former) (former : AreFormer near counted labels p around lost list) (parted : AreAllParted core near labels list labels') where
    cut_keeps : (a l : ℕ) (f : Former) → IsFormer near counted labels p around lost f → IsCut core near labels f labels' → map.get labels a ≡ Some l → f.label ≡ l → (IsLost labels p lost a → ⊥) → IsSome (map.get labels' a)
    cut_keeps a l f is cut e s not = elim (grouped_or cut.groups a) [
      | inl of ↦ ap is_some (some_and (map.get labels' a) _ (cut.grouped a of)).1
      | inr off ↦ ap is_some (some_and (map.get labels' a) _ (cut.rest a (record {
        member = e ∙ ap (λ n. Some n) (sym s);
        kept = λ m. not ((is.lost_are a).0 m).0;
        alone = off;
      }))).1
    ]

    keeps : (a l : ℕ) → map.get labels a ≡ Some l → (IsLost labels p lost a → ⊥) → IsSome (map.get labels' a)
    keeps a l e not = elim (labelled_or list l) [
      | inl f ↦ cut_keeps a l f.1 (former.each f.0 f.1 f.2) (parted.each f.0 f.1 f.2) e f.3 not
      | inr off ↦ ap is_some (parted.others a (λ j f at e'. off j f at (same_value e' e)) ∙ e)
    ]

    kept_back : (a : ℕ) → IsSome (map.get labels' a) → IsSome (map.get labels a)
    kept_back a h = elim (known (map.get labels a)) [
      | inl off ↦ absurd (no_some (map.get labels' a) (parted.others a (λ j f at e. no_value off e) ∙ off) h)
      | inr l ↦ ap is_some l.1
    ]

    pub labels_keep : (a : ℕ) → IsSome (map.get labels' a) ↔ (IsSome (map.get labels a) × (IsLost labels p lost a → ⊥))
    labels_keep a = (
      (λ h. (kept_back a h, λ x. let f = former.all a x in no_some (map.get labels' a) ((parted.each f.0 f.1.0 f.1.1.0).gone a f.1.1.1) h)),
      (λ k. elim (known (map.get labels a)) [
        | inl off ↦ absurd (no_some (map.get labels a) off k.0)
        | inr l ↦ keeps a l.0 l.1 k.1
      ]),
    )

  -- the former clusters can part
  pub are_partable : (near : ℕ → ℕ → Bool) (labels : Labels) (list : List Former) → HasLeast labels → AreFormer near counted labels p around lost list → ArePartable counted labels list
  are_partable near labels list least former = record {
    each = λ j f at. partable f (former.each j f at);
    rising = former.rising;
  }
    where
      first_of : (xs : List ℕ) → 0 < length xs → (b : ℕ) × IsMember xs b
      first_of [] h = absurd (omega arith)
      first_of (x ∷ xs) h = (x, (0, refl))

      partable : (f : Former) → IsFormer near counted labels p around lost f → IsPartable counted labels f
      partable f is =
          let one = first_of f.lost is.some in
          record {
            label_is = (least one.0 f.label ((is.lost_are one.0).0 one.1).1).1;
            lost_in = λ b m. ((is.lost_are b).0 m).1;
            lost_once = is.lost_once;
            lost_out = λ b m k. lost_no_core labels b ((is.lost_are b).0 m).0 k;
            seeds_in = λ q m. ((is.seeds_are q).0 m).0;
          }
