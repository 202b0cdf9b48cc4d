-- What joining classes brings together, and nothing else.
use Rattle.std.proofs.Common.{◌≡◌, ℕ, ◌+◌, ◌<◌, Bool, true, false, List, [], ◌∷◌, ◌++◌, length, take, get_or, IsTrue, IsSome, is_some, refl, sym, ap, subst, ◌∙◌, None, Some, inl, inr, ◌⊎◌}
use Rattle.std.specs.declared.option.Option.{Option}
use Rattle.std.specs.Ordering.{nat_cmp}
use Rattle.std.specs.FinMap as map
use Rattle.label_book.specs.Labels.{Labels, HasLeast, IsMember, EachOnce, AreFree, AreLabels, HasOneOf, IsJoined, IsLeastOfBoth, IsLeastOf, IsFounded}
use Rattle.label_book.proofs.Views.{same_value, no_value, known}
use Rattle.label_book.proofs.Joined.{member_or, pushed, pushed_old, pushed_new}
use Rattle.update_seed.specs.inside.Ties.{Same, IsTwoWay, Finer, IsTied, AreAlone}
use Rattle.update_seed.proofs.Lists.{only, the_one, none, of_two, next, not_before}

pub is_there : {o : Option ℕ} {k : ℕ} → o ≡ Some k → IsSome o
is_there e = ap is_some e

pub not_there : {o : Option ℕ} → o ≡ None → IsSome o → ⊥
not_there e h = let f : false ≡ true = sym (ap is_some e) ∙ h in cc

pub same_back : (m : Labels) (a b : ℕ) → Same m a b → Same m b a
same_back m a b s = (s.0, (s.1.1, s.1.0))

pub same_on : (m : Labels) (a b c : ℕ) → Same m a b → Same m b c → Same m a c
same_on m a b c s t = (s.0, (s.1.0, t.1.1 ∙ ap (λ n. Some n) (same_value t.1.0 s.1.1)))

pub same_itself : (m : Labels) (a : ℕ) → IsSome (map.get m a) → Same m a a
same_itself m a h = elim (known (map.get m a)) [ inl none ↦ absurd (not_there none h) | inr k ↦ (k.0, (k.1, k.1)) ]

pub same_there : (m : Labels) (a b : ℕ) → Same m a b → IsSome (map.get m a)
same_there m a b s = is_there s.1.0

-- a label is of the class that it names
pub same_label : (m : Labels) → HasLeast m → (a k : ℕ) → map.get m a ≡ Some k → Same m a k
same_label m least a k e = (k, (e, (least a k e).1))

-- what is tied to one of a class is tied to each of it
pub tied_from : (old new : Labels) (c a b : ℕ) → Same old c a → IsTied old a b new → IsTied old c b new
tied_from old new c a b s t = record {
  kept = t.kept;
  tied = same_on new c a b (t.kept c a s) t.tied;
  keys = t.keys;
  finest = λ e two h fine. t.finest e two (two.on a c b (two.back c a (fine c a s)) h) fine;
}

pub tied_to : (old new : Labels) (a b c : ℕ) → Same old b c → IsTied old a b new → IsTied old a c new
tied_to old new a b c s t = record {
  kept = t.kept;
  tied = same_on new a b c t.tied (t.kept b c s);
  keys = λ q h. elim (t.keys q h) [ inl o ↦ inl o | inr e ↦ inl (subst (λ x. IsSome (map.get old x)) (sym e) (same_there old b c s)) ];
  finest = λ e two h fine. t.finest e two (two.on a c b h (two.back b c (fine b c s))) fine;
}

pub tied_itself : (old : Labels) (a : ℕ) → IsSome (map.get old a) → IsTied old a a old
tied_itself old a h = record {
  kept = λ x y s. s;
  tied = same_itself old a h;
  keys = λ q k. inl k;
  finest = λ e two _ fine. fine;
}

-- joining the clusters of one or two labels, and a number without label, ties them
module _ (old new : Labels) (labels cores : List ℕ) (l a b : ℕ) (least : HasLeast old) (are : AreLabels old labels) (free : AreFree old cores)
    (here : IsMember labels a) (there : IsMember labels b ⊎ IsMember cores b) (ends : (x : ℕ) → IsMember labels x → (x ≡ a) ⊎ (x ≡ b)) (end : (x : ℕ) → IsMember cores x → x ≡ b)
    (join : IsJoined old labels cores l new) (is : IsLeastOfBoth l labels cores) where
  not_core : (x k : ℕ) → map.get old x ≡ Some k → IsMember cores x → ⊥
  not_core x k e m = no_value (free x m) e

  alone : (x k : ℕ) → map.get old x ≡ Some k → (IsMember labels k → ⊥) → HasOneOf old labels x → ⊥
  alone x k e n has = n (subst (λ j. IsMember labels j) (same_value has.1.1 e) has.1.0)

  stays : (x k : ℕ) → map.get old x ≡ Some k → (IsMember labels k → ⊥) → map.get new x ≡ Some k
  stays x k e n = join.others x (not_core x k e) (alone x k e n) ∙ e

  moves : (x k : ℕ) → map.get old x ≡ Some k → IsMember labels k → map.get new x ≡ Some l
  moves x k e m = join.joined x (k, (m, e))

  kept : (x y : ℕ) → Same old x y → Same new x y
  kept x y s = elim (member_or labels s.0) [
    | inl m ↦ (l, (moves x s.0 s.1.0 m, moves y s.0 s.1.1 m))
    | inr n ↦ (s.0, (stays x s.0 s.1.0 n, stays y s.0 s.1.1 n))
  ]

  tied : Same new a b
  tied = (l, (moves a a (are a here) here, elim there [ inl m ↦ moves b b (are b m) m | inr m ↦ join.core b m ]))

  unlabelled : (x : ℕ) → map.get old x ≡ None → HasOneOf old labels x → ⊥
  unlabelled x e has = no_value e has.1.1

  keys : (q : ℕ) → IsSome (map.get new q) → IsSome (map.get old q) ⊎ (q ≡ b)
  keys q h = elim (known (map.get old q)) [
    | inl e ↦ elim (member_or cores q) [
      | inl m ↦ inr (end q m)
      | inr n ↦ absurd (not_there (join.others q n (unlabelled q e) ∙ e) h)
    ]
    | inr k ↦ inl (is_there k.1)
  ]

  module _ (e : ℕ → ℕ → Bool) (two : IsTwoWay e) (ab : IsTrue (e a b)) (fine : Finer old e) where
    to_label : (k : ℕ) → IsMember labels k → IsTrue (e a k)
    to_label k m = elim (ends k m) [
      | inl s ↦ subst (λ x. IsTrue (e a x)) (sym s) (two.on a b a ab (two.back a b ab))
      | inr s ↦ subst (λ x. IsTrue (e a x)) (sym s) ab
    ]

    -- what has a label after was brought to it, or had it
    from : (x k : ℕ) → map.get new x ≡ Some k → (IsTrue (e a x) × (k ≡ l)) ⊎ ((map.get old x ≡ Some k) × (IsMember labels k → ⊥))
    from x k h = elim (known (map.get old x)) [
      | inl off ↦ elim (member_or cores x) [
        | inl m ↦ inl (subst (λ y. IsTrue (e a y)) (sym (end x m)) ab, same_value h (join.core x m))
        | inr n ↦ absurd (no_value (join.others x n (unlabelled x off) ∙ off) h)
      ]
      | inr j ↦ elim (member_or labels j.0) [
        | inl m ↦ inl (
          two.on a j.0 x (to_label j.0 m) (fine j.0 x (j.0, (are j.0 m, j.1))),
          same_value h (moves x j.0 j.1 m),
        )
        | inr n ↦
            let same : j.0 ≡ k = same_value (stays x j.0 j.1 n) h in
            inr (j.1 ∙ ap (λ y. Some y) same, subst (λ y. IsMember labels y → ⊥) same n)
      ]
    ]

    -- no class that was left alone has the label of those that were joined
    apart : (x k : ℕ) → k ≡ l → map.get old x ≡ Some k → (IsMember labels k → ⊥) → ⊥
    apart x k s h n =
        let at : map.get old l ≡ Some l = (least x l (h ∙ ap (λ y. Some y) s)).1 in
        elim is.one [
          | inl m ↦ n (subst (λ y. IsMember labels y) (sym s) m)
          | inr m ↦ no_value (free l m) at
        ]

    finest : Finer new e
    finest x y s = elim (from x s.0 s.1.0) [
      | inl p ↦ elim (from y s.0 s.1.1) [
        | inl q ↦ two.on x a y (two.back a x p.0) q.0
        | inr q ↦ absurd (apart y s.0 p.1 q.0 q.1)
      ]
      | inr p ↦ elim (from y s.0 s.1.1) [
        | inl q ↦ absurd (apart x s.0 q.1 p.0 p.1)
        | inr q ↦ fine x y (s.0, (p.0, q.0))
      ]
    ]

  joined_tied : IsTied old a b new
  joined_tied = record { kept = kept; tied = tied; keys = keys; finest = finest }

-- two classes become one
pub tied_both : (old new : Labels) (a b l : ℕ) (xs ys : List ℕ) → HasLeast old → map.get old a ≡ Some a → map.get old b ≡ Some b
    → xs ≡ a ∷ b ∷ [] → ys ≡ [] → IsJoined old xs ys l new → IsLeastOfBoth l xs ys → IsTied old a b new
tied_both old new a b l xs ys least at bt ex ey join is =
    joined_tied old new xs ys l a b least
    (λ x m. elim (ends x m) [ inl s ↦ subst (λ y. map.get old y ≡ Some y) (sym s) at | inr s ↦ subst (λ y. map.get old y ≡ Some y) (sym s) bt ])
    (λ x m. absurd (off x m)) (subst (λ zs. IsMember zs a) (sym ex) (0, refl)) (inl (subst (λ zs. IsMember zs b) (sym ex) (1, refl))) ends (λ x m. absurd (off x m)) join is
  where
    ends : (x : ℕ) → IsMember xs x → (x ≡ a) ⊎ (x ≡ b)
    ends x m = of_two a b x (subst (λ zs. IsMember zs x) ex m)

    off : (x : ℕ) → IsMember ys x → ⊥
    off x m = none x (subst (λ zs. IsMember zs x) ey m)

-- a number comes to a class
pub tied_one : (old new : Labels) (a b l : ℕ) (xs ys : List ℕ) → HasLeast old → map.get old a ≡ Some a → map.get old b ≡ None
    → xs ≡ a ∷ [] → ys ≡ b ∷ [] → IsJoined old xs ys l new → IsLeastOfBoth l xs ys → IsTied old a b new
tied_one old new a b l xs ys least at off ex ey join is =
    joined_tied old new xs ys l a b least
    (λ x m. subst (λ y. map.get old y ≡ Some y) (sym (here x m)) at)
    (λ x m. subst (λ y. map.get old y ≡ None) (sym (there x m)) off)
    (subst (λ zs. IsMember zs a) (sym ex) (the_one a)) (inr (subst (λ zs. IsMember zs b) (sym ey) (the_one b))) (λ x m. inl (here x m)) there join is
  where
    here : (x : ℕ) → IsMember xs x → x ≡ a
    here x m = only a x (subst (λ zs. IsMember zs x) ex m)

    there : (x : ℕ) → IsMember ys x → x ≡ b
    there x m = only b x (subst (λ zs. IsMember zs x) ey m)

-- each core is alone, one after another
pub alone_none : (m : Labels) → m ≡ map.empty → AreAlone [] m
alone_none m e = record {
  own = λ q i. absurd (none q i);
  other = λ q n. ap (λ x. map.get x q) e ∙ map.get-empty nat_cmp q;
}

pub alone_free : (m : Labels) (cores list : List ℕ) (i : ℕ) → EachOnce cores → i < length cores → AreAlone (take i cores) m → list ≡ get_or cores i 0 ∷ [] → AreFree m list
alone_free m cores list i once h alone e q at =
    let is : q ≡ get_or cores i 0 = only (get_or cores i 0) q (subst (λ zs. IsMember zs q) e at) in
    alone.other q (λ b. not_before cores i once h (subst (IsMember (take i cores)) is b))

founded_alone : (old new : Labels) (done list : List ℕ) (core l : ℕ) → AreAlone done old → list ≡ core ∷ [] → IsLeastOf l list → IsFounded old list l new → AreAlone (done ++ core ∷ []) new
founded_alone old new done list core l alone e least found = record {
  own = λ q m. elim (pushed done core q m) [
    | inl o ↦ elim (member_or list q) [
      | inl at ↦ (found q).0 at ∙ ap (λ n. Some n) (is l least.0 ∙ sym (is q at))
      | inr off ↦ (found q).1 off ∙ alone.own q o
    ]
    | inr s ↦ (found q).0 (subst (λ zs. IsMember zs q) (sym e) (subst (λ x. IsMember (core ∷ []) x) (sym s) (the_one core))) ∙ ap (λ n. Some n) (is l least.0 ∙ sym s)
  ];
  other = λ q n.
      (found q).1 (λ at. n (subst (IsMember (done ++ core ∷ [])) (sym (is q at)) (pushed_new done core)))
      ∙ alone.other q (λ o. n (pushed_old done core q o));
}
  where
    is : (q : ℕ) → IsMember list q → q ≡ core
    is q at = only core q (subst (λ zs. IsMember zs q) e at)

pub alone_more : (old new : Labels) (cores list : List ℕ) (i l : ℕ) → i < length cores → AreAlone (take i cores) old → list ≡ get_or cores i 0 ∷ []
    → IsLeastOf l list → IsFounded old list l new → AreAlone (take (i + 1) cores) new
alone_more old new cores list i l h alone e least found =
    subst (λ zs. AreAlone zs new) (sym (next cores i h)) (founded_alone old new (take i cores) list (get_or cores i 0) l alone e least found)
