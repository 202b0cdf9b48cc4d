-- The books fit the records after an insertion.
use Rattle.std.proofs.Common.{◌≡◌, ℕ, ◌+◌, ◌≤◌, Bool, true, false, cond, List, [], ◌∷◌, min, length, IsSome, IsSomeAnd, is_some, None, Some, inl, inr, ◌⊎◌, ◌↔◌, refl, sym, ap, subst, ◌∙◌, arith}
use Rattle.std.proofs.lemmas.Bool.{cases_eq, cases_lt}
use Rattle.std.specs.declared.option.Option.{Option}
use Rattle.std.specs.Option.{option_map}
use Rattle.std.specs.FinMap as map
use Rattle.vec_record.specs.Held.{Held, Rows}
use Rattle.count_book.specs.declared.row.Row.{Row}
use Rattle.count_book.specs.Counted.{Counted, IsCore}
use Rattle.label_book.specs.Labels.{Labels, HasLeast, IsMember}
use Rattle.label_book.proofs.Added.{here, apart}
use Rattle.label_book.proofs.Joined.{member_or}
use Rattle.label_book.proofs.Views.{known, same_value, no_value}
use Rattle.update_seed.specs.Books.{IsHeld, Fits}
use Rattle.update_seed.specs.Offers.{AreOffered, hung, offers, least_of}
use Rattle.insert_case.specs.Inserted.{with_record}
use Rattle.insert_case.specs.Told.{AreNewCores}
use Rattle.insert_case.specs.inside.Counting.{raised, first_row, IsCountedIn}
use Rattle.insert_case.proofs.Raised.{no_core}
use Rattle.insert_case.proofs.Tests.{lt_false, anchor_became, none_either}

some_mapped : {X : Type 0} (f : X → X) (o : Option X) → is_some (option_map f o) ≡ is_some o
some_mapped f None = refl
some_mapped f (Some x) = refl

-- a row that was made of another
of_mapped : (f : Row → Row) (o : Option Row) (r : Row) → option_map f o ≡ Some r → (s : Row) × ((o ≡ Some s) × (r ≡ f s))
of_mapped f None r e = absurd (no_value refl e)
of_mapped f (Some s) r e = (s, (refl, sym (same_value refl e)))

some_long : (xs : List ℕ) (q : ℕ) → IsMember xs q → 1 ≤ length xs
some_long [] q m = absurd (no_value refl m.1)
some_long (x ∷ xs) q m = omega arith

-- what fits says of one row
abbrev HasForm : ℕ → Row → Type 0
HasForm minpts r = (1 ≤ r.count) × (minpts ≤ r.count → r.anchor ≡ None)

first_form : (m : ℕ) (labels : Labels) (around : List ℕ) (p : ℕ) → IsMember around p → HasForm m (first_row m labels around)
first_form m labels around p i = (some_long around p i, λ le. rw (lt_false (length around) m le) refl)

raised_form : (m : ℕ) (r : Row) → HasForm m r → HasForm m (raised m r)
raised_form m r f = (
  (let s = f.0 in omega arith),
  λ le. elim (cases_lt r.count m) [
    | inl lt ↦ anchor_became m r.count (min (r.count + 1) 4294967295) r.anchor lt le
    | inr ge ↦ none_either _ r.anchor (f.1 ge)
  ],
)

hung_form : (m : ℕ) (cs : List ℕ) (r : Row) → HasForm m r → HasForm m (hung m cs r)
hung_form m cs r f = (f.0, λ le. ap (λ b. cond b (least_of r.anchor cs) r.anchor) (lt_false r.count m le) ∙ f.1 le)

module _ (width width' : ℕ) (contents contents' : Rows) (records : Held) (p : ℕ) (v : List ℕ) (old new : Counted) (labels : Labels) (around cores : List ℕ)
    (fits : Fits width contents records old labels) (itself : IsMember around p) (counted : IsCountedIn labels p around old new) (are : AreNewCores old new cores) where
  row_form : (a : ℕ) (r : Row) → map.get old.rows a ≡ Some r → HasForm old.minpts r
  row_form a r e = (fits.counted a r e, fits.unhung a r e)

  new_form : (a : ℕ) (r : Row) → map.get new.rows a ≡ Some r → HasForm old.minpts r
  new_form a r e = elim (cases_eq a p) [
    | inl same ↦
        let is : first_row old.minpts labels around ≡ r = same_value counted.entered (ap (map.get new.rows) (sym same) ∙ e) in
        subst (HasForm old.minpts) is (first_form old.minpts labels around p itself)
    | inr ne ↦ elim (member_or around a) [
      | inl m ↦
          let s = of_mapped (raised old.minpts) (map.get old.rows a) r (sym (counted.raised_is a m ne) ∙ e) in
          subst (HasForm old.minpts) (sym s.1.1) (raised_form old.minpts s.0 (row_form a s.0 s.1.0))
      | inr off ↦ row_form a r (sym (counted.others a off ne) ∙ e)
    ]
  ]

  pub new_numbers : (a : ℕ) → is_some (map.get new.rows a) ≡ is_some (map.get (map.insert records.vectors p v) a)
  new_numbers a = elim (cases_eq a p) [
    | inl same ↦
        let left : is_some (map.get new.rows a) ≡ true = ap (λ x. is_some (map.get new.rows x)) same ∙ ap is_some counted.entered in
        let right : is_some (map.get (map.insert records.vectors p v) a) ≡ true = ap (λ x. is_some (map.get (map.insert records.vectors p v) x)) same ∙ ap is_some (here records.vectors p v) in
        left ∙ sym right
    | inr ne ↦
        let right = ap is_some (apart records.vectors p v a ne) in
        elim (member_or around a) [
          | inl m ↦ ap is_some (counted.raised_is a m ne) ∙ some_mapped (raised old.minpts) (map.get old.rows a) ∙ fits.numbers a ∙ sym right
          | inr off ↦ ap is_some (counted.others a off ne) ∙ fits.numbers a ∙ sym right
        ]
  ]

  -- the new cores are free
  pub new_free : (n : ℕ) → IsMember cores n → map.get labels n ≡ None
  new_free n m = elim (known (map.get labels n)) [
    | inl e ↦ e
    | inr l ↦ absurd (((are.became n).0 m).0 ((fits.labelled n).0 (ap is_some l.1)))
  ]

  pub new_cores_are : (a : ℕ) → IsCore new a ↔ (IsSome (map.get labels a) ⊎ IsMember cores a)
  new_cores_are a = (
    (λ h. elim (known (map.get labels a)) [
      | inl e ↦ inr ((are.became a).1 ((λ c. let bad : false ≡ true = sym (ap is_some e) ∙ (fits.labelled a).1 c in cc), h))
      | inr l ↦ inl (ap is_some l.1)
    ]),
    (λ o. elim o [
      | inl l ↦ counted.stay a ((fits.labelled a).0 l)
      | inr m ↦ ((are.became a).0 m).1
    ]),
  )

  module _ (final : Counted) (labels' : Labels) (near : ℕ → ℕ → Bool) (offered : AreOffered near labels cores new final) where
    final_minpts : final.minpts ≡ old.minpts
    final_minpts = offered.minpts_kept ∙ counted.minpts_kept

    final_form : (a : ℕ) (r : Row) → map.get final.rows a ≡ Some r → HasForm old.minpts r
    final_form a r e =
        let cs = offers near labels cores a in
        let s = of_mapped (hung new.minpts cs) (map.get new.rows a) r (sym (offered.row a) ∙ e) in
        let to : r ≡ hung old.minpts cs s.0 = s.1.1 ∙ ap (λ m. hung m cs s.0) counted.minpts_kept in
        subst (HasForm old.minpts) (sym to) (hung_form old.minpts cs s.0 (new_form a s.0 s.1.0))

    pub core_kept : (a : ℕ) → IsCore final a ↔ IsCore new a
    core_kept a = elim (known (map.get new.rows a)) [
      | inl e ↦
          let f : map.get final.rows a ≡ None = offered.row a ∙ ap (option_map (hung new.minpts (offers near labels cores a))) e in
          ((λ h. absurd (no_core final a f h)), (λ h. absurd (no_core new a e h)))
      | inr s ↦
          let f : map.get final.rows a ≡ Some (hung new.minpts (offers near labels cores a) s.0) = offered.row a ∙ ap (option_map (hung new.minpts (offers near labels cores a))) s.1 in (
            (λ h.
                let le : final.minpts ≤ s.0.count = subst (λ o. IsSomeAnd o (λ r. final.minpts ≤ r.count)) f h in
                subst (λ o. IsSomeAnd o (λ r. new.minpts ≤ r.count)) (sym s.1) (subst (λ m. m ≤ s.0.count) offered.minpts_kept le)),
            (λ h.
                let le : new.minpts ≤ s.0.count = subst (λ o. IsSomeAnd o (λ r. new.minpts ≤ r.count)) s.1 h in
                subst (λ o. IsSomeAnd o (λ r. final.minpts ≤ r.count)) (sym f) (subst (λ m. m ≤ s.0.count) (sym offered.minpts_kept) le)),
          )
    ]

    pub fits_after : IsHeld width' contents' (with_record records p v) → ((a : ℕ) → IsSome (map.get labels' a) ↔ (IsSome (map.get labels a) ⊎ IsMember cores a)) → HasLeast labels' → Fits width' contents' (with_record records p v) final labels'
    fits_after held labelled least = record {
      held = held;
      numbers = λ a. ap is_some (offered.row a) ∙ some_mapped (hung new.minpts (offers near labels cores a)) (map.get new.rows a) ∙ new_numbers a;
      counted = λ a r e. (final_form a r e).0;
      unhung = λ a r e le. (final_form a r e).1 (subst (λ m. m ≤ r.count) final_minpts le);
      labelled = λ a. (
        (λ h. (core_kept a).1 ((new_cores_are a).1 ((labelled a).0 h))),
        (λ h. (labelled a).1 ((new_cores_are a).0 ((core_kept a).0 h))),
      );
      least = least;
    }
