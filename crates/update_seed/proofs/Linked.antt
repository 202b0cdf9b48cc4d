-- New cores are linked to what is near them, and offered to it, one after another.
use Rattle.std.proofs.Common.{◌≡◌, ◌↔◌, ℕ, ◌≤◌, Bool, true, false, cond, ◌&&◌, List, [], ◌∷◌, ◌++◌, filter, IsTrue, IsSome, is_none, refl, sym, ap, subst, ◌∙◌, None, Some, inl, inr, ◌⊎◌, arith}
use Rattle.std.specs.Prelude.{nat_lt}
use Rattle.std.specs.declared.option.Option.{Option}
use Rattle.std.specs.Option.{option_map}
use Rattle.std.specs.FinMap as map
use Rattle.std.proofs.lemmas.Bool.{cases_Bool}
use Rattle.std.proofs.lemmas.Bool.Decides.{nat_tests}
use Rattle.std.proofs.lemmas.List.Elements.{filter-append}
use Rattle.count_book.specs.declared.row.Row.{Row}
use Rattle.count_book.specs.Counted.{Counted, IsCore, offered, lesser, row_of}
use Rattle.label_book.specs.Labels.{Labels, IsMember, AreFree}
use Rattle.label_book.proofs.Views.{same_value, no_value, known, some_and}
use Rattle.label_book.proofs.Joined.{member_or, pushed}
use Rattle.update_seed.specs.Offers.{least_of, hung, offers, AreOffered}
use Rattle.update_seed.specs.inside.Ties.{Same, AreTied, IsNamed, IsOffered, AreAlone, AreLinked}
use Rattle.update_seed.proofs.Lists.{none}
use Rattle.update_seed.proofs.Tied.{is_there, not_there, same_itself, same_there}

-- the list has exactly the numbers near a core
abbrev pub AreNear : (ℕ → ℕ → Bool) → ℕ → List ℕ → Type 0
AreNear near core found = (q : ℕ) → IsMember found q ↔ IsTrue (near core q)

module _ (near : ℕ → ℕ → Bool) (labels : Labels) (cores : List ℕ) (free : AreFree labels cores) where
  pub linked_none : (m : Labels) → AreAlone cores m → AreLinked near labels cores [] m
  linked_none m alone = record {
    there = λ n i. is_there (alone.own n i);
    keys = λ q h. inl (inside q h);
    label = λ n b l i. absurd (none n i);
    core = λ n b i. absurd (none n i);
    finest = λ e two same by_label by_core a b s.
        let one : s.0 ≡ a = same_value s.1.0 (alone.own a (inside a (is_there s.1.0))) in
        let other : s.0 ≡ b = same_value s.1.1 (alone.own b (inside b (is_there s.1.1))) in
        subst (λ x. IsTrue (e a x)) (sym one ∙ other) (same a (inside a (is_there s.1.0)));
  }
    where
      inside : (q : ℕ) → IsSome (map.get m q) → IsMember cores q
      inside q h = elim (member_or cores q) [ inl i ↦ i | inr n ↦ absurd (not_there (alone.other q n) h) ]

  pub linked_more : (done found : List ℕ) (core : ℕ) (old new : Labels) → IsMember cores core → AreNear near core found → AreLinked near labels cores done old → AreTied labels core found old new
      → AreLinked near labels cores (done ++ core ∷ []) new
  linked_more done found core old new here all l t = record {
    there = λ n i. same_there new n n (t.kept n n (same_itself old n (l.there n i)));
    keys = λ q h. elim (t.keys q h) [ inl o ↦ l.keys q o | inr k ↦ inr k ];
    label = λ n b k i h e. elim (pushed done core n i) [
      | inl o ↦ t.kept n k (l.label n b k o h e)
      | inr s ↦ subst (λ x. Same new x k) (sym s) (t.tied b k ((all b).1 (subst (λ x. IsTrue (near x b)) s h)) (inl e))
    ];
    core = λ n b i h j. elim (pushed done core n i) [
      | inl o ↦ t.kept n b (l.core n b o h j)
      | inr s ↦ subst (λ x. Same new x b) (sym s) (t.tied b b ((all b).1 (subst (λ x. IsTrue (near x b)) s h)) (inr (free b j, (l.there b j, refl))))
    ];
    finest = λ e two same by_label by_core.
        t.finest e two
        (λ b x i is. elim is [
          | inl k ↦ by_label core b x here ((all b).0 i) k
          | inr r ↦ elim (l.keys b r.1.0) [
            | inl j ↦ subst (λ y. IsTrue (e core y)) (sym r.1.1) (by_core core b here ((all b).0 i) j)
            | inr k ↦ absurd (no_value r.0 k)
          ]
        ])
        (l.finest e two same by_label by_core);
  }

  -- a row with one offer more
  least_more : (a : Option ℕ) (xs : List ℕ) (c : ℕ) → least_of a (xs ++ c ∷ []) ≡ Some (lesser (least_of a xs) c)
  least_more a [] c = refl
  least_more a (x ∷ xs) c = least_more (Some (lesser a x)) xs c

  hang : (b : Bool) (a : Option ℕ) (xs : List ℕ) (c : ℕ) → cond b (least_of a (xs ++ c ∷ [])) a ≡ cond b (Some (lesser (cond b (least_of a xs) a) c)) (cond b (least_of a xs) a)
  hang true a xs c = least_more a xs c
  hang false a xs c = refl

  hung_more : (minpts : ℕ) (xs : List ℕ) (c : ℕ) (o : Option Row) → option_map (hung minpts (xs ++ c ∷ [])) o ≡ option_map (offered minpts c) (option_map (hung minpts xs) o)
  hung_more minpts xs c None = refl
  hung_more minpts xs c (Some r) = ap (λ x. Some (row_of r.count x)) (hang (nat_lt r.count minpts) r.anchor xs c)

  -- a core's row stays
  stays : (minpts : ℕ) (xs : List ℕ) (r : Row) → minpts ≤ r.count → hung minpts xs r ≡ r
  stays minpts xs r h = ap (λ b. row_of r.count (cond b (least_of r.anchor xs) r.anchor)) (not_below r.count minpts h)
    where
      not_below : (a b : ℕ) → b ≤ a → nat_lt a b ≡ false
      not_below a b h = grind (arith, nat_tests)

  none_hung : (minpts : ℕ) (o : Option Row) → option_map (hung minpts []) o ≡ o
  none_hung minpts None = refl
  none_hung minpts (Some r) = ap (λ x. Some (row_of r.count x)) (either (nat_lt r.count minpts) r.anchor)
    where
      either : (b : Bool) (a : Option ℕ) → cond b a a ≡ a
      either true a = refl
      either false a = refl

  pub offers_none : (c : Counted) → AreOffered near labels [] c c
  offers_none c = record { minpts_kept = refl; row = λ q. sym (none_hung c.minpts (map.get c.rows q)) }

  module _ (done found : List ℕ) (core : ℕ) (m : Labels) (was is will : Counted) (all : AreNear near core found) (keys : (q : ℕ) → IsSome (map.get m q) → IsMember cores q ⊎ (map.get labels q ≡ Some q))
      (flagged : (n : ℕ) → IsMember cores n → IsCore was n) (d : AreOffered near labels done was is) (s : IsOffered labels m core found is will) where
    more : (q : ℕ) → offers near labels (done ++ core ∷ []) q ≡ offers near labels done q ++ filter (λ n. near n q && is_none (map.get labels q)) (core ∷ [])
    more q = filter-append (λ n. near n q && is_none (map.get labels q)) done (core ∷ [])

    -- where the core isn't offered, nothing is
    same : (q : ℕ) → (near core q && is_none (map.get labels q)) ≡ false → offers near labels (done ++ core ∷ []) q ≡ offers near labels done q
    same q off = more q ∙ ap (λ b. offers near labels done q ++ cond b (core ∷ []) []) off ∙ nothing (offers near labels done q)
      where
        nothing : (xs : List ℕ) → xs ++ [] ≡ xs
        nothing [] = refl
        nothing (x ∷ xs) = ap (λ ys. x ∷ ys) (nothing xs)

    added : (q : ℕ) → (near core q && is_none (map.get labels q)) ≡ true → offers near labels (done ++ core ∷ []) q ≡ offers near labels done q ++ core ∷ []
    added q on = more q ∙ ap (λ b. offers near labels done q ++ cond b (core ∷ []) []) on

    abbrev Due : ℕ → List ℕ → Type 0
    Due q xs = map.get will.rows q ≡ option_map (hung was.minpts xs) (map.get was.rows q)

    unchanged : (q : ℕ) → (near core q && is_none (map.get labels q)) ≡ false → map.get will.rows q ≡ map.get is.rows q → Due q (offers near labels (done ++ core ∷ []) q)
    unchanged q off e = subst (Due q) (sym (same q off)) (e ∙ d.row q)

    far : (q : ℕ) → near core q ≡ false → Due q (offers near labels (done ++ core ∷ []) q)
    far q off = unchanged q (ap (λ b. b && is_none (map.get labels q)) off) (s.far q (λ i. absurd (let on = (all q).0 i in let bad : false ≡ true = sym off ∙ on in cc)))

    labelled : (q l : ℕ) → map.get labels q ≡ Some l → Due q (offers near labels (done ++ core ∷ []) q)
    labelled q l e = unchanged q (ap (λ o. near core q && is_none o) e ∙ no_both (near core q)) (s.named q (inl (is_there e)))
      where
        no_both : (b : Bool) → (b && false) ≡ false
        no_both true = refl
        no_both false = refl

    -- another new core is a core already, and nothing hangs it
    new_core : (q : ℕ) → IsMember cores q → IsSome (map.get m q) → Due q (offers near labels (done ++ core ∷ []) q)
    new_core q i h =
        let r = some_and (map.get was.rows q) (λ r. was.minpts ≤ r.count) (flagged q i) in
        let due : (xs : List ℕ) → option_map (hung was.minpts xs) (map.get was.rows q) ≡ Some r.0 = λ xs. ap (option_map (hung was.minpts xs)) r.1 ∙ ap (λ x. Some x) (stays was.minpts xs r.0 r.2) in
        s.named q (inr h) ∙ d.row q ∙ due (offers near labels done q) ∙ sym (due (offers near labels (done ++ core ∷ []) q))

    offer : (q : ℕ) → near core q ≡ true → map.get labels q ≡ None → map.get m q ≡ None → Due q (offers near labels (done ++ core ∷ []) q)
    offer q on off out =
        let un : IsNamed labels m q → ⊥ = λ h. elim h [ inl k ↦ not_there off k | inr k ↦ not_there out k ] in
        let both : (near core q && is_none (map.get labels q)) ≡ true = ap (λ b. b && is_none (map.get labels q)) on ∙ ap is_none off in
        subst (Due q) (sym (added q both))
        (s.row q ((all q).1 on) un
        ∙ ap (λ n. option_map (offered n core) (map.get is.rows q)) d.minpts_kept
        ∙ ap (option_map (offered was.minpts core)) (d.row q)
        ∙ sym (hung_more was.minpts (offers near labels done q) core (map.get was.rows q)))

    pub offers_more : AreOffered near labels (done ++ core ∷ []) was will
    offers_more = record {
      minpts_kept = s.minpts_kept ∙ d.minpts_kept;
      row = λ q. elim (cases_Bool (near core q)) [
        | inr off ↦ far q off
        | inl on ↦ elim (known (map.get labels q)) [
          | inr l ↦ labelled q l.0 l.1
          | inl off ↦ elim (known (map.get m q)) [
            | inl out ↦ offer q on off out
            | inr k ↦ elim (keys q (is_there k.1)) [ inl i ↦ new_core q i (is_there k.1) | inr l ↦ absurd (no_value off l) ]
          ]
        ]
      ];
    }
