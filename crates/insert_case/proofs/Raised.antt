-- The counts while one more is counted at one number after another, and the numbers that became core.
use Rattle.std.proofs.Common.{◌≡◌, ◌≢◌, ℕ, ◌<◌, ◌≤◌, cond, List, [], ◌∷◌, ◌++◌, None, Some, IsSome, IsSomeAnd, inl, inr, refl, sym, ap, subst, ◌∙◌, arith}
use Rattle.std.specs.Prelude.{nat_lt}
use Rattle.std.proofs.lemmas.Bool.{cases_eq, cases_lt}
use Rattle.std.specs.declared.option.Option.{Option}
use Rattle.std.specs.Option.{option_map}
use Rattle.std.specs.FinMap as map
use Rattle.count_book.specs.declared.row.Row.{Row}
use Rattle.count_book.specs.Counted.{Counted, Rows, row_of, updated, put_back, entered, one_more, anchored, IsCore, BecameCore}
use Rattle.label_book.specs.Labels.{Labels, IsMember}
use Rattle.label_book.proofs.Added.{here, apart}
use Rattle.label_book.proofs.Joined.{pushed, pushed_old, pushed_new}
use Rattle.label_book.proofs.Parted.{once_more}
use Rattle.update_seed.proofs.Lists.{none, no_members}
use Rattle.insert_case.specs.Told.{AreNewCores}
use Rattle.insert_case.specs.inside.Counting.{raised, first_row, IsNoted, ChangesRow, IsRaised, AreRaised, IsCountedIn}
use Rattle.insert_case.proofs.Tests.{lt_true, lt_false, anchor_became, anchor_stays, anchor_kept}

at_put : (f : Row → Row) (rows : Rows) (k : ℕ) (o : Option Row) → map.get rows k ≡ o → map.get (put_back f rows k o) k ≡ option_map f o
at_put f rows k None e = e
at_put f rows k (Some r) e = here rows k (f r)

off_put : (f : Row → Row) (rows : Rows) (k q : ℕ) (o : Option Row) → (q ≡ k → ⊥) → map.get (put_back f rows k o) q ≡ map.get rows q
off_put f rows k q None ne = refl
off_put f rows k q (Some r) ne = apart rows k (f r) q ne

-- a change of one row
pub at_updated : (f : Row → Row) (old new : Counted) (k : ℕ) → new ≡ updated f old k → map.get new.rows k ≡ option_map f (map.get old.rows k)
at_updated f old new k is = ap (λ c. map.get c.rows k) is ∙ at_put f old.rows k (map.get old.rows k) refl

pub off_updated : (f : Row → Row) (old new : Counted) (k q : ℕ) → new ≡ updated f old k → (q ≡ k → ⊥) → map.get new.rows q ≡ map.get old.rows q
off_updated f old new k q is ne = ap (λ c. map.get c.rows q) is ∙ off_put f old.rows k q (map.get old.rows k) ne

-- a number is core alike where `minpts` and its row are alike
pub core_alike : (a b : Counted) (q : ℕ) → b.minpts ≡ a.minpts → map.get b.rows q ≡ map.get a.rows q → IsCore a q → IsCore b q
core_alike a b q m e h =
    subst (λ o. IsSomeAnd o (λ r. b.minpts ≤ r.count)) (sym e)
    (subst (λ n. IsSomeAnd (map.get a.rows q) (λ r. n ≤ r.count)) (sym m) h)

pub no_core : (a : Counted) (q : ℕ) → map.get a.rows q ≡ None → IsCore a q → ⊥
no_core a q e h = subst (λ o. IsSomeAnd o (λ r. a.minpts ≤ r.count)) e h

module _ (old now new : Counted) (b : ℕ) (was : now.minpts ≡ old.minpts) (is : new.minpts ≡ now.minpts) (same : map.get now.rows b ≡ map.get old.rows b)
    (off : (q : ℕ) → (q ≡ b → ⊥) → map.get new.rows q ≡ map.get now.rows q) where
  not_yet : BecameCore old now b → ⊥
  not_yet h = h.0 (core_alike now old b (sym was) (sym same) h.1)

  up : (q : ℕ) → (q ≡ b → ⊥) → BecameCore old now q → BecameCore old new q
  up q ne h = (h.0, core_alike now new q is (off q ne) h.1)

  down : (q : ℕ) → (q ≡ b → ⊥) → BecameCore old new q → BecameCore old now q
  down q ne h = (h.0, core_alike new now q (sym is) (sym (off q ne)) h.1)

  from_now : BecameCore now new b → BecameCore old new b
  from_now h = ((λ c. h.0 (core_alike old now b was same c)), h.1)

  to_now : BecameCore old new b → BecameCore now new b
  to_now h = ((λ c. h.0 (core_alike now old b (sym was) (sym same) c)), h.1)

  apart_from : (q : ℕ) → BecameCore old now q → q ≡ b → ⊥
  apart_from q h e = not_yet (subst (BecameCore old now) e h)

  noted : (cores cores' : List ℕ) → AreNewCores old now cores → IsNoted now new b cores cores' → AreNewCores old new cores'
  noted cores cores' are (inl n) = subst (AreNewCores old new) (sym n.1) (record {
    once = once_more cores b are.once (λ m. not_yet ((are.became b).0 m));
    became = λ q. (
      (λ m. elim (pushed cores b q m) [
        | inl o ↦ let h = (are.became q).0 o in up q (apart_from q h) h
        | inr e ↦ subst (BecameCore old new) (sym e) (from_now n.0)
      ]),
      (λ h. elim (cases_eq q b) [
        | inl e ↦ subst (IsMember (cores ++ b ∷ [])) (sym e) (pushed_new cores b)
        | inr ne ↦ pushed_old cores b q ((are.became q).1 (down q ne h))
      ]),
    );
  })
  noted cores cores' are (inr n) = subst (AreNewCores old new) (sym n.1) (record {
    once = are.once;
    became = λ q. (
      (λ m. let h = (are.became q).0 m in up q (apart_from q h) h),
      (λ h. elim (cases_eq q b) [
        | inl e ↦ absurd (n.0 (to_now (subst (BecameCore old new) e h)))
        | inr ne ↦ (are.became q).1 (down q ne h)
      ]),
    );
  })

pub no_new_cores : (c : Counted) (cores : List ℕ) → cores ≡ [] → AreNewCores c c cores
no_new_cores c cores e = subst (AreNewCores c c) (sym e) (record {
  once = no_members;
  became = λ q. ((λ m. absurd (none q m)), (λ h. absurd (h.0 h.1)));
})

pub none_raised : (number : ℕ) (c : Counted) → AreRaised number [] c c
none_raised number c = record {
  minpts_kept = refl;
  raised_is = λ q m ne. absurd (none q m);
  others = λ q o. refl;
  stay = λ q h. h;
}

module _ (number : ℕ) (done : List ℕ) (old now new : Counted) (b : ℕ) (so : AreRaised number done old now) where
  -- one more is counted at the next number
  module _ (fresh : IsMember done b → ⊥) (other : b ≢ number) (is : IsRaised b now new) (stays : IsCore now b → IsCore new b) where
    as_before : map.get now.rows b ≡ map.get old.rows b
    as_before = so.others b (inl fresh)

    elsewhere : (q : ℕ) → (q ≡ b → ⊥) → map.get new.rows q ≡ map.get now.rows q
    elsewhere q ne = is.others q ne

    at_next : map.get new.rows b ≡ option_map (raised old.minpts) (map.get old.rows b)
    at_next =
        is.at
        ∙ ap (option_map (raised now.minpts)) as_before
        ∙ ap (λ n. option_map (raised n) (map.get old.rows b)) so.minpts_kept

    same_minpts : new.minpts ≡ now.minpts
    same_minpts = is.minpts_kept

    pub raised_more : AreRaised number (done ++ b ∷ []) old new
    raised_more = record {
      minpts_kept = same_minpts ∙ so.minpts_kept;
      raised_is = λ q m ne. elim (pushed done b q m) [
        | inl o ↦ elsewhere q (λ e. fresh (subst (IsMember done) e o)) ∙ so.raised_is q o ne
        | inr e ↦ subst (λ x. map.get new.rows x ≡ option_map (raised old.minpts) (map.get old.rows x)) (sym e) at_next
      ];
      others = λ q o. elim o [
        | inl out ↦ elsewhere q (λ e. out (subst (IsMember (done ++ b ∷ [])) (sym e) (pushed_new done b))) ∙ so.others q (inl (λ m. out (pushed_old done b q m)))
        | inr e ↦ elsewhere q (λ f. other (sym f ∙ e)) ∙ so.others q (inr e)
      ];
      stay = λ q h. elim (cases_eq q b) [
        | inl e ↦ subst (IsCore new) (sym e) (stays (subst (IsCore now) e (so.stay q h)))
        | inr ne ↦ core_alike now new q same_minpts (elsewhere q ne) (so.stay q h)
      ];
    }

    pub noted_more : (cores cores' : List ℕ) → AreNewCores old now cores → IsNoted now new b cores cores' → AreNewCores old new cores'
    noted_more = noted old now new b so.minpts_kept same_minpts as_before elsewhere

  -- the number itself is passed over
  pub raised_over : b ≡ number → AreRaised number (done ++ b ∷ []) old now
  raised_over e = record {
    minpts_kept = so.minpts_kept;
    raised_is = λ q m ne. elim (pushed done b q m) [ inl o ↦ so.raised_is q o ne | inr f ↦ absurd (ne (f ∙ e)) ];
    others = λ q o. elim o [
      | inl out ↦ so.others q (inl (λ m. out (pushed_old done b q m)))
      | inr f ↦ so.others q (inr f)
    ];
    stay = so.stay;
  }

-- the number is entered at last
module _ (labels : Labels) (number : ℕ) (around : List ℕ) (old now new : Counted) (so : AreRaised number around old now) (absent : map.get old.rows number ≡ None)
    (is : ChangesRow number (Some (first_row now.minpts labels around)) now new) where
  pub counted_in : IsCountedIn labels number around old new
  counted_in = record {
    minpts_kept = is.minpts_kept ∙ so.minpts_kept;
    entered = is.at ∙ ap (λ n. Some (first_row n labels around)) so.minpts_kept;
    raised_is = λ q m ne. is.others q ne ∙ so.raised_is q m ne;
    others = λ q out ne. is.others q ne ∙ so.others q (inl out);
    stay = λ q h. elim (cases_eq q number) [
      | inl e ↦ absurd (no_core old number absent (subst (IsCore old) e h))
      | inr ne ↦ core_alike now new q is.minpts_kept (is.others q ne) (so.stay q h)
    ];
  }

  still_absent : map.get now.rows number ≡ None
  still_absent = so.others number (inr refl) ∙ absent

  pub last_noted : (cores cores' : List ℕ) → AreNewCores old now cores → IsNoted now new number cores cores' → AreNewCores old new cores'
  last_noted = noted old now new number so.minpts_kept is.minpts_kept (so.others number (inr refl)) is.others

  pub was_core : (cores cores' : List ℕ) → IsCore new number → cores' ≡ cores ++ number ∷ [] → IsNoted now new number cores cores'
  was_core cores cores' h e = inl ((no_core now number still_absent, h), e)

  pub was_none : (cores cores' : List ℕ) → (IsCore new number → ⊥) → cores' ≡ cores → IsNoted now new number cores cores'
  was_none cores cores' h e = inr ((λ b. h b.1), e)

-- one number: a row with one more counted, and then maybe without anchor
module _ (old new : Counted) (k : ℕ) (r : Row) (was : map.get old.rows k ≡ Some r) (is : new ≡ updated one_more old k) where
  new_is : map.get new.rows k ≡ Some (one_more r)
  new_is = at_updated one_more old new k is ∙ ap (option_map one_more) was

  same_least : new.minpts ≡ old.minpts
  same_least = ap (λ c. c.minpts) is

  core_old : old.minpts ≤ r.count → IsCore old k
  core_old h = subst (λ o. IsSomeAnd o (λ r. old.minpts ≤ r.count)) (sym was) h

  core_new : old.minpts ≤ (one_more r).count → IsCore new k
  core_new h = subst (λ o. IsSomeAnd o (λ r. new.minpts ≤ r.count)) (sym new_is) (subst (λ m. m ≤ (one_more r).count) (sym same_least) h)

  new_core : IsCore new k → old.minpts ≤ (one_more r).count
  new_core h = subst (λ m. m ≤ (one_more r).count) same_least (subst (λ o. IsSomeAnd o (λ r. new.minpts ≤ r.count)) new_is h)

  at_core : BecameCore old new k → raised old.minpts r ≡ row_of (one_more r).count None
  at_core b =
      let low : (old.minpts ≤ r.count → ⊥) = λ h. b.0 (core_old h) in
      let lt : r.count < old.minpts = omega (arith, low) in
      ap (row_of (one_more r).count) (anchor_became old.minpts r.count (one_more r).count r.anchor lt (new_core b.1))

  at_other : (BecameCore old new k → ⊥) → raised old.minpts r ≡ one_more r
  at_other b = ap (row_of (one_more r).count) (elim (cases_lt (one_more r).count old.minpts) [
    | inl lt ↦ anchor_stays old.minpts r.count (one_more r).count r.anchor lt
    | inr ge ↦ elim (cases_lt r.count old.minpts) [
      | inl lt ↦ absurd (b ((λ c. let le : old.minpts ≤ r.count = subst (λ o. IsSomeAnd o (λ r. old.minpts ≤ r.count)) was c in omega (arith, le, lt)), core_new ge))
      | inr le ↦ anchor_kept old.minpts r.count (one_more r).count r.anchor le
    ]
  ])

  pub other_raised : (BecameCore old new k → ⊥) → IsRaised k old new
  other_raised b = record {
    minpts_kept = same_least;
    at = new_is ∙ ap (λ x. Some x) (sym (at_other b)) ∙ sym (ap (option_map (raised old.minpts)) was);
    others = λ q ne. off_updated one_more old new k q is ne;
  }

  module _ (last : Counted) (then : last ≡ updated (anchored None) new k) where
    last_is : map.get last.rows k ≡ Some (row_of (one_more r).count None)
    last_is = at_updated (anchored None) new last k then ∙ ap (option_map (anchored None)) new_is

    last_least : last.minpts ≡ new.minpts
    last_least = ap (λ c. c.minpts) then

    pub core_raised : BecameCore old new k → IsRaised k old last
    core_raised b = record {
      minpts_kept = last_least ∙ same_least;
      at = last_is ∙ ap (λ x. Some x) (sym (at_core b)) ∙ sym (ap (option_map (raised old.minpts)) was);
      others = λ q ne. off_updated (anchored None) new last k q then ne ∙ off_updated one_more old new k q is ne;
    }

    pub became_last : BecameCore old new k → BecameCore old last k
    became_last b = (b.0, subst (λ o. IsSomeAnd o (λ r. last.minpts ≤ r.count)) (sym last_is) (subst (λ m. m ≤ (one_more r).count) (sym (last_least ∙ same_least)) (new_core b.1)))

-- a record is entered without anchor, and then maybe gets one
module _ (old new : Counted) (k n : ℕ) (is : new ≡ entered old k (row_of n None)) where
  entered_is : map.get new.rows k ≡ Some (row_of n None)
  entered_is = ap (λ c. map.get c.rows k) is ∙ here old.rows k (row_of n None)

  beside : (q : ℕ) → (q ≡ k → ⊥) → map.get new.rows q ≡ map.get old.rows q
  beside q ne = ap (λ c. map.get c.rows q) is ∙ apart old.rows k (row_of n None) q ne

  least : new.minpts ≡ old.minpts
  least = ap (λ c. c.minpts) is

  core_entered : old.minpts ≤ n → IsCore new k
  core_entered h = subst (λ o. IsSomeAnd o (λ r. new.minpts ≤ r.count)) (sym entered_is) (subst (λ m. m ≤ n) (sym least) h)

  entered_core : IsCore new k → old.minpts ≤ n
  entered_core h = subst (λ m. m ≤ n) least (subst (λ o. IsSomeAnd o (λ r. new.minpts ≤ r.count)) entered_is h)

  pub enters_core : (o : Option ℕ) → IsCore new k → ChangesRow k (Some (row_of n (cond (nat_lt n old.minpts) o None))) old new
  enters_core o h = record {
    minpts_kept = least;
    at = entered_is ∙ ap (λ b. Some (row_of n (cond b o None))) (sym (lt_false n old.minpts (entered_core h)));
    others = beside;
  }

  pub enters_other : (o : Option ℕ) (last : Counted) → (IsCore new k → ⊥) → last ≡ updated (anchored o) new k → ChangesRow k (Some (row_of n (cond (nat_lt n old.minpts) o None))) old last
  enters_other o last h then =
      let low : (old.minpts ≤ n → ⊥) = λ le. h (core_entered le) in
      let lt : n < old.minpts = omega (arith, low) in
      record {
        minpts_kept = ap (λ c. c.minpts) then ∙ least;
        at =
            at_updated (anchored o) new last k then ∙ ap (option_map (anchored o)) entered_is
            ∙ ap (λ b. Some (row_of n (cond b o None))) (sym (lt_true n old.minpts lt));
        others = λ q ne. off_updated (anchored o) new last k q then ne ∙ beside q ne;
      }

pub is_there : (o : Option Row) → IsSome o → (r : Row) × (o ≡ Some r)
is_there None h = absurd (cc)
is_there (Some r) h = (r, refl)
