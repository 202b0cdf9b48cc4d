-- What looking at the numbers near a lost core finds, one number after another.
use Rattle.std.proofs.Common.{◌≡◌, ℕ, ◌≤◌, Bool, true, false, not, ◌&&◌, cond, List, [], ◌∷◌, ◌++◌, filter, IsTrue, IsSome, is_some, IsSomeAnd, ◌↔◌, refl, sym, ap, subst, ◌∙◌, None, Some, inl, inr, ◌⊎◌, append_assoc}
use Rattle.std.specs.declared.option.Option.{Option}
use Rattle.std.specs.Option.{option_eq}
use Rattle.std.specs.FinMap as finite
use lib.Dec.{eqb}
use Rattle.std.specs.Ordering.{nat_cmp}
use Rattle.std.proofs.lemmas.Bool.{cases_eq, leb-true, le-leb}
use Rattle.std.proofs.lemmas.Bool.Decides.{eqb_tells}
use Rattle.std.proofs.lemmas.List.{append-nil}
use Rattle.std.proofs.lemmas.List.Elements.{filter-append}
use Rattle.count_book.specs.declared.row.Row.{Row}
use Rattle.count_book.specs.Counted.{Counted, IsCore, anchor_in}
use Rattle.label_book.specs.Labels.{Labels, IsMember, EachOnce}
use Rattle.label_book.proofs.Views.{no_value}
use Rattle.label_book.proofs.Added.{here, apart}
use Rattle.label_book.proofs.Joined.{pushed, pushed_old, pushed_new}
use Rattle.label_book.proofs.Parted.{once_more}
use Rattle.update_seed.specs.declared.labelled.Labelled.{Labelled}
use Rattle.update_seed.specs.declared.found.Found.{Found}
use Rattle.update_seed.specs.Books.{is_core_row, core_in}
use Rattle.update_seed.specs.inside.Split.{numbers_of, AreLabelled}
use Rattle.update_seed.specs.inside.Found.{seeds_of, IsKept, IsAdded, hangs_on, is_at, IsKin, IsLooked}
use Rattle.update_seed.proofs.Lists.{only, the_one, none}
use Rattle.update_seed.proofs.ByLabel.{place_or}

pub found : {X : Type 0} {o : Option X} {x : X} → o ≡ Some x → IsSome o
found e = ap is_some e

pub missing : {X : Type 0} {o : Option X} → o ≡ None → IsSome o → ⊥
missing e h = let f : false ≡ true = sym (ap is_some e) ∙ h in cc

pub nothing : {X : Type 0} (o : Option X) → is_some o ≡ false → o ≡ None
nothing None h = refl
nothing (Some x) h = absurd (cc)

-- what a test of two options tells
pub same_option : (o : Option ℕ) (l : ℕ) → option_eq eqb o (Some l) ≡ true → o ≡ Some l
same_option None l h = absurd (cc)
same_option (Some x) l h = elim (eqb_tells x l) [ inl t ↦ ap (λ n. Some n) t.1 | inr f ↦ let g : false ≡ true = sym f.0 ∙ h in absurd (cc) ]

pub row_core : (minpts : ℕ) (o : Option Row) → IsTrue (is_core_row minpts o) ↔ IsSomeAnd o (λ r. minpts ≤ r.count)
row_core minpts None = (λ h. absurd (cc), λ h. absurd h)
row_core minpts (Some r) = (leb-true minpts r.count, le-leb minpts r.count)

pub core_in_is : (c : Counted) (q : ℕ) → IsTrue (core_in c q) ↔ IsCore c q
core_in_is c q = row_core c.minpts (finite.get c.rows q)

told : (b d : Bool) → (IsTrue b → IsTrue d) → (IsTrue d → IsTrue b) → b ≡ d
told true true f g = refl
told true false f g = sym (f refl)
told false true f g = g refl
told false false f g = refl

-- what the book answers is the test
pub core_told : (c : Counted) (q : ℕ) (b : Bool) → (IsTrue b ↔ IsCore c q) → core_in c q ≡ b
core_told c q b h = told (core_in c q) b (λ t. h.1 ((core_in_is c q).0 t)) (λ t. (core_in_is c q).1 (h.0 t))

-- a core hangs on nothing
pub core_hangs_not : (c : Counted) (core q : ℕ) → core_in c q ≡ true → hangs_on c core q ≡ false
core_hangs_not c core q e = ap (λ b. not b && is_at core (anchor_in (finite.get c.rows q))) e

pub numbers_more : (list : List Labelled) (p : Labelled) → numbers_of (list ++ p ∷ []) ≡ numbers_of list ++ p.number ∷ []
numbers_more [] p = refl
numbers_more (x ∷ list) p = ap (λ ys. x.number ∷ ys) (numbers_more list p)

pub labelled_more : (m : Labels) (list : List Labelled) (p : Labelled) → AreLabelled m list → finite.get m p.number ≡ Some p.label → AreLabelled m (list ++ p ∷ [])
labelled_more m list p all e k r at = elim (place_or list p k r at) [
  | inl b ↦ all k r b
  | inr b ↦ subst (λ (x : Labelled). finite.get m x.number ≡ Some x.label) (sym b.1) e
]

pub kept_none : (m : Labels) (f : Found) → f.seeds.items ≡ [] → f.seen ≡ finite.empty → IsKept m f
kept_none m f seeds seen = record {
  labelled = subst (AreLabelled m) (sym seeds) (λ k p e. absurd (no_value refl e));
  once = subst (λ xs. EachOnce (numbers_of xs)) (sym seeds) (λ i j core a b. absurd (no_value refl a));
  seen = λ q. (
    λ h. absurd (missing (ap (λ x. finite.get x q) seen ∙ finite.get-empty nat_cmp q) h),
    λ m. absurd (none q (subst (λ xs. IsMember (numbers_of xs) q) seeds m)),
  );
}

-- a seed put in
module _ (m : Labels) (seed : Labelled) (old new : Found) (kept : IsKept m old) (label : finite.get m seed.number ≡ Some seed.label) (is : IsAdded seed old new) where
  pub added_loose : new.loose ≡ old.loose
  added_loose = elim is [ inl h ↦ ap (λ (f : Found). f.loose) h.1 | inr h ↦ h.1.1.1 ]

  new_numbers : new.seeds.items ≡ old.seeds.items ++ seed ∷ [] → seeds_of new ≡ seeds_of old ++ seed.number ∷ []
  new_numbers e = ap numbers_of e ∙ numbers_more old.seeds.items seed

  pub added_seeds : (q : ℕ) → IsMember (seeds_of new) q ↔ (IsMember (seeds_of old) q ⊎ (q ≡ seed.number))
  added_seeds q = elim is [
    | inl h ↦
        let e = ap seeds_of h.1 in (
          λ i. inl (subst (λ xs. IsMember xs q) e i),
          λ s. subst (λ xs. IsMember xs q) (sym e) (elim s [ inl i ↦ i | inr n ↦ subst (IsMember (seeds_of old)) (sym n) ((kept.seen seed.number).0 h.0) ]),
        )
    | inr h ↦
        let e = new_numbers h.1.0 in (
          λ i. pushed (seeds_of old) seed.number q (subst (λ xs. IsMember xs q) e i),
          λ s. subst (λ xs. IsMember xs q) (sym e) (elim s [
            | inl i ↦ pushed_old (seeds_of old) seed.number q i
            | inr n ↦ subst (IsMember (seeds_of old ++ seed.number ∷ [])) (sym n) (pushed_new (seeds_of old) seed.number)
          ]),
        )
  ]

  pub added_kept : IsKept m new
  added_kept = elim is [
    | inl h ↦ subst (IsKept m) (sym h.1) kept
    | inr h ↦ record {
      labelled = subst (AreLabelled m) (sym h.1.0) (labelled_more m old.seeds.items seed kept.labelled label);
      once = subst EachOnce (sym (new_numbers h.1.0)) (once_more (seeds_of old) seed.number kept.once (λ i. missing h.0 ((kept.seen seed.number).1 i)));
      seen = λ q. (
        λ s. (added_seeds q).1 (elim (cases_eq q seed.number) [
          | inl e ↦ inr e
          | inr ne ↦ inl ((kept.seen q).0 (subst IsSome (apart old.seen seed.number tt q ne) (subst (λ x. IsSome (finite.get x q)) h.1.1.0 s)))
        ]),
        λ i. subst (λ x. IsSome (finite.get x q)) (sym h.1.1.0) (elim (cases_eq q seed.number) [
          | inl e ↦ found (ap (finite.get (finite.insert old.seen seed.number tt)) e ∙ here old.seen seed.number tt)
          | inr ne ↦ elim ((added_seeds q).0 i) [
            | inl o ↦ subst IsSome (sym (apart old.seen seed.number tt q ne)) ((kept.seen q).1 o)
            | inr e ↦ absurd (ne e)
          ]
        ]),
      );
    }
  ]

module _ (counts : Counted) (labels : Labels) (core : ℕ) where
  pub looked_none : (f g : Found) → IsKept labels f → g ≡ f → IsLooked counts labels core [] f g
  looked_none f g kept e = subst (IsLooked counts labels core [] f) (sym e) (record {
    kept = kept;
    seeds = λ q. (λ i. inl i, λ s. elim s [ inl i ↦ i | inr n ↦ absurd (none q n.0) ]);
    loose = sym (append-nil f.loose);
  })

  one_less : (q : ℕ) → hangs_on counts core q ≡ false → filter (hangs_on counts core) (q ∷ []) ≡ []
  one_less q off = ap (λ b. cond b (q ∷ []) []) off

  -- a seed
  pub looked_kin : (seed : Labelled) (f g : Found) → IsKept labels f → IsKin counts labels core seed.number → finite.get labels seed.number ≡ Some seed.label
      → hangs_on counts core seed.number ≡ false → IsAdded seed f g → IsLooked counts labels core (seed.number ∷ []) f g
  looked_kin seed f g kept kin label off is = record {
    kept = added_kept labels seed f g kept label is;
    seeds = λ x. (
      λ i. elim ((added_seeds labels seed f g kept label is x).0 i) [
        | inl o ↦ inl o
        | inr e ↦ inr (subst (λ y. IsMember (seed.number ∷ []) y × IsKin counts labels core y) (sym e) (the_one seed.number, kin))
      ],
      λ s. (added_seeds labels seed f g kept label is x).1 (elim s [ inl o ↦ inl o | inr n ↦ inr (only seed.number x n.0) ]),
    );
    loose = added_loose labels seed f g kept label is ∙ sym (ap (λ ys. f.loose ++ ys) (one_less seed.number off) ∙ append-nil f.loose);
  }

  pub looked_more : (done : List ℕ) (q : ℕ) (f g h : Found) → IsLooked counts labels core done f g → IsLooked counts labels core (q ∷ []) g h → IsLooked counts labels core (done ++ q ∷ []) f h
  looked_more done q f g h a b = record {
    kept = b.kept;
    seeds = λ x. (
      λ i. elim ((b.seeds x).0 i) [
        | inl o ↦ elim ((a.seeds x).0 o) [ inl p ↦ inl p | inr n ↦ inr (pushed_old done q x n.0, n.1) ]
        | inr n ↦ inr (subst (IsMember (done ++ q ∷ [])) (sym (only q x n.0)) (pushed_new done q), n.1)
      ],
      λ s. (b.seeds x).1 (elim s [
        | inl p ↦ inl ((a.seeds x).1 (inl p))
        | inr n ↦ elim (pushed done q x n.0) [
          | inl o ↦ inl ((a.seeds x).1 (inr (o, n.1)))
          | inr e ↦ inr (subst (IsMember (q ∷ [])) (sym e) (the_one q), n.1)
        ]
      ]),
    );
    loose =
        b.loose
        ∙ ap (λ ys. ys ++ filter (hangs_on counts core) (q ∷ [])) a.loose
        ∙ append_assoc f.loose (filter (hangs_on counts core) done) (filter (hangs_on counts core) (q ∷ []))
        ∙ ap (λ ys. f.loose ++ ys) (sym (filter-append (hangs_on counts core) done (q ∷ [])));
  }
