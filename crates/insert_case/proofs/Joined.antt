-- Groups of new cores become clusters, one after another.
use Rattle.std.proofs.Common.{◌≡◌, ℕ, zero, suc, ◌+◌, ◌<◌, ◌≤◌, List, [], ◌∷◌, take, IsSome, IsSomeAnd, refl, sym, ap, subst, ◌∙◌, None, Some, inl, inr, ◌⊎◌, slice_get, arith}
use Rattle.std.specs.declared.option.Option.{Option}
use Rattle.std.specs.Option.{option_map}
use Rattle.std.specs.FinMap as map
use Rattle.std.proofs.lemmas.Bool.{cases_lt}
use Rattle.std.proofs.lemmas.Option.{slice_get-map}
use Rattle.label_book.specs.Labels.{Labels, IsMember, EachOnce, AreFree, HasOneOf, IsLeastOf, IsLeastOfBoth, IsFounded, IsJoined}
use Rattle.label_book.specs.Parting.{IsGrouped}
use Rattle.label_book.proofs.Views.{same_value, no_value, known, some_and}
use Rattle.label_book.proofs.Joined.{member_or}
use Rattle.update_seed.specs.declared.groups.InGroup.{InGroup}
use Rattle.update_seed.specs.Groups.{AreGathered, IsInGroup, cores_in, labels_in}
use Rattle.update_seed.proofs.Tied.{is_there}
use Rattle.insert_case.specs.Joining.{IsLabelOf, IsInSome, AreAllJoined, AreLabelled}
use Rattle.insert_case.specs.inside.Joins.{IsJoinable, IsUnited}

-- the first ones of a list
pub took : {X : Type 0} (xs : List X) (n j : ℕ) (x : X) → slice_get (take n xs) j ≡ Some x → (j < n) × (slice_get xs j ≡ Some x)
took [] zero j x e = absurd (no_value refl e)
took [] (suc n) j x e = absurd (no_value refl e)
took (y ∷ xs) zero j x e = absurd (no_value refl e)
took (y ∷ xs) (suc n) zero x e = (omega arith, e)
took (y ∷ xs) (suc n) (suc j) x e = let r = took xs n j x e in (omega (arith, r.0), r.1)

pub takes : {X : Type 0} (xs : List X) (n j : ℕ) (x : X) → j < n → slice_get xs j ≡ Some x → slice_get (take n xs) j ≡ Some x
takes [] zero j x h e = absurd (omega arith)
takes [] (suc n) j x h e = e
takes (y ∷ xs) zero j x h e = absurd (omega arith)
takes (y ∷ xs) (suc n) zero x h e = e
takes (y ∷ xs) (suc n) (suc j) x h e = takes xs n j x (omega arith) e

-- a core is in a group or it isn't
has_or : (m : Labels) (labels : List ℕ) (q : ℕ) → HasOneOf m labels q ⊎ (HasOneOf m labels q → ⊥)
has_or m labels q = elim (known (map.get m q)) [
  | inl off ↦ inr (λ h. no_value off h.1.1)
  | inr k ↦ elim (member_or labels k.0) [
    | inl i ↦ inl (k.0, (i, k.1))
    | inr n ↦ inr (λ h. n (subst (IsMember labels) (same_value h.1.1 k.1) h.1.0))
  ]
]

in_or : (m : Labels) (g : InGroup) (q : ℕ) → IsInGroup m g q ⊎ (IsInGroup m g q → ⊥)
in_or m g q = elim (member_or g.new_cores q) [
  | inl i ↦ inl (inl i)
  | inr n ↦ elim (has_or m g.old_labels q) [
    | inl h ↦ inl (inr h)
    | inr k ↦ inr (λ h. elim h [ inl i ↦ n i | inr f ↦ k f ])
  ]
]

in_rest : (m : Labels) (g : InGroup) (gs : List InGroup) (q : ℕ) → (IsInGroup m g q → ⊥) → (j : ℕ) (h : InGroup) → slice_get (g ∷ gs) j ≡ Some h → IsInGroup m h q → IsInSome m gs q
in_rest m g gs q n zero h at i = absurd (n (subst (λ (x : InGroup). IsInGroup m x q) (sym (same_value refl at)) i))
in_rest m g gs q n (suc j) h at i = (j, (h, (at, i)))

pub some_or : (m : Labels) (groups : List InGroup) (q : ℕ) → IsInSome m groups q ⊎ (IsInSome m groups q → ⊥)
some_or m [] q = inr (λ h. no_value refl h.1.1.0)
some_or m (g ∷ gs) q = elim (in_or m g q) [
  | inl h ↦ inl (0, (g, (refl, h)))
  | inr n ↦ elim (some_or m gs q) [
    | inl h ↦ inl (suc h.0, h.1)
    | inr k ↦ inr (λ h. k (in_rest m g gs q n h.0 h.1.0 h.1.1.0 h.1.1.1))
  ]
]

-- a core or a label of a group, among those of all groups
pub new_at : (groups : List InGroup) (j : ℕ) (g : InGroup) (q : ℕ) → slice_get groups j ≡ Some g → IsMember g.new_cores q → IsGrouped (cores_in groups) q
new_at groups j g q at i = (j, (g.new_cores, (slice_get-map (λ (x : InGroup). x.new_cores) groups j ∙ ap (option_map (λ (x : InGroup). x.new_cores)) at, i)))

pub label_at : (groups : List InGroup) (j : ℕ) (g : InGroup) (q : ℕ) → slice_get groups j ≡ Some g → IsMember g.old_labels q → IsGrouped (labels_in groups) q
label_at groups j g q at i = (j, (g.old_labels, (slice_get-map (λ (x : InGroup). x.old_labels) groups j ∙ ap (option_map (λ (x : InGroup). x.old_labels)) at, i)))

-- and the group of such a core
group_of : (o : Option InGroup) (xs : List ℕ) → option_map (λ (x : InGroup). x.new_cores) o ≡ Some xs → (g : InGroup) × ((o ≡ Some g) × (g.new_cores ≡ xs))
group_of None xs e = absurd (no_value refl e)
group_of (Some g) xs e = (g, (refl, same_value refl e))

pub in_group_of : (m : Labels) (groups : List InGroup) (q : ℕ) → IsGrouped (cores_in groups) q → IsInSome m groups q
in_group_of m groups q i =
    let f = group_of (slice_get groups i.0) i.1.0 (sym (slice_get-map (λ (x : InGroup). x.new_cores) groups i.0) ∙ i.1.1.0) in
    (i.0, (f.0, (f.1.0, inl (subst (λ xs. IsMember xs q) (sym f.1.1) i.1.1.1))))

-- a cluster of no old label is founded
pub founded_joined : (old new : Labels) (cores : List ℕ) (label : ℕ) → IsFounded old cores label new → IsJoined old [] cores label new
founded_joined old new cores label f = record {
  core = λ q. (f q).0;
  joined = λ q h. absurd (no_value refl h.1.0.1);
  others = λ q n m. (f q).1 n;
}

pub least_both : (label : ℕ) (cores : List ℕ) → IsLeastOf label cores → IsLeastOfBoth label [] cores
least_both label cores l = record {
  one = inr l.0;
  first = λ x m. absurd (no_value refl m.1);
  second = λ y m. l.1 m.0 y m.1;
}

-- a group has one label
pub one_least : (label other : ℕ) (g : InGroup) → IsLabelOf g label → IsLabelOf g other → label ≡ other
one_least label other g l k =
    let up : label ≤ other = elim k.one [ inl m ↦ l.first other m | inr m ↦ l.second other m ] in
    let down : other ≤ label = elim l.one [ inl m ↦ k.first label m | inr m ↦ k.second label m ] in
    omega arith

module _ (old : Labels) (groups : List InGroup) (cores : List ℕ) (gathered : AreGathered old cores groups) where
  pub label_in : (j : ℕ) (g : InGroup) (l : ℕ) → slice_get groups j ≡ Some g → IsLabelOf g l → IsInGroup old g l
  label_in j g l at is = elim is.one [
    | inl m ↦ inr (l, (m, gathered.labels_are l (label_at groups j g l at m)))
    | inr m ↦ inl m
  ]

  -- exactly what had a label, and the cores of the groups, have one
  module _ (new : Labels) (joined : AreAllJoined old groups new) where
    grouped_labelled : (a : ℕ) → IsInSome old groups a → IsSome (map.get new a)
    grouped_labelled a s =
        let l = some_and (map.get new a) (IsLabelOf s.1.0) (joined.label s.0 a s.1.0 s.1.1.0 s.1.1.1) in
        is_there l.1

    pub labelled : AreLabelled old cores new
    labelled a = (
      (λ h. elim (some_or old groups a) [
        | inl s ↦ elim s.1.1.1 [
          | inl i ↦ inr ((gathered.cores_are a).1 (new_at groups s.0 s.1.0 a s.1.1.0 i))
          | inr f ↦ inl (is_there f.1.1)
        ]
        | inr out ↦ inl (subst IsSome (joined.others a out) h)
      ]),
      (λ h. elim h [
        | inl k ↦ elim (some_or old groups a) [
          | inl s ↦ grouped_labelled a s
          | inr out ↦ subst IsSome (sym (joined.others a out)) k
        ]
        | inr i ↦ grouped_labelled a (in_group_of old groups a ((gathered.cores_are a).0 i))
      ]),
    )

  module _ (free : AreFree old cores) where
    is_new : (j : ℕ) (g : InGroup) (q : ℕ) → slice_get groups j ≡ Some g → IsMember g.new_cores q → map.get old q ≡ None
    is_new j g q at i = free q ((gathered.cores_are q).1 (new_at groups j g q at i))

    -- no core is in two groups
    pub one_group : (j k : ℕ) (g h : InGroup) (q : ℕ) → slice_get groups j ≡ Some g → slice_get groups k ≡ Some h → IsInGroup old g q → IsInGroup old h q → j ≡ k
    unfolding new_at label_at
    one_group j k g h q at at' (inl i) (inl i') = gathered.core_apart q (new_at groups j g q at i) (new_at groups k h q at' i')
    one_group j k g h q at at' (inl i) (inr f) = absurd (no_value (is_new j g q at i) f.1.1)
    one_group j k g h q at at' (inr f) (inl i) = absurd (no_value (is_new k h q at' i) f.1.1)
    one_group j k g h q at at' (inr e) (inr f) =
        gathered.label_apart f.0 (label_at groups j g f.0 at (subst (IsMember g.old_labels) (same_value e.1.1 f.1.1) e.1.0)) (label_at groups k h f.0 at' f.1.0)

    pub one_label : (j k : ℕ) (g h : InGroup) (l : ℕ) → slice_get groups j ≡ Some g → slice_get groups k ≡ Some h → IsLabelOf g l → IsLabelOf h l → j ≡ k
    one_label j k g h l at at' is is' = one_group j k g h l at at' (label_in j g l at is) (label_in k h l at' is')

    -- the first groups are joined, and the next one comes
    module _ (n : ℕ) (g : InGroup) (now : Labels) (at : slice_get groups n ≡ Some g) (all : AreAllJoined old (take n groups) now) where
      not_before : (q : ℕ) → IsInGroup old g q → IsInSome old (take n groups) q → ⊥
      not_before q i s =
          let t = took groups n s.0 s.1.0 s.1.1.0 in
          let same = one_group s.0 n s.1.0 g q t.1 at s.1.1.1 i in
          absurd (let lt = t.0 in omega (arith, same, lt))

      untouched : (q : ℕ) → IsInGroup old g q → map.get now q ≡ map.get old q
      untouched q i = all.others q (not_before q i)

      own : (l : ℕ) → IsMember g.old_labels l → map.get old l ≡ Some l
      own l m = gathered.labels_are l (label_at groups n g l at m)

      pub joinable : IsJoinable now g
      joinable = record {
        some = gathered.some n g at;
        once = gathered.core_once n g.new_cores (slice_get-map (λ (x : InGroup). x.new_cores) groups n ∙ ap (option_map (λ (x : InGroup). x.new_cores)) at);
        free = λ q i. untouched q (inl i) ∙ is_new n g q at i;
        are_labels = λ l m. untouched l (inr (l, (m, own l m))) ∙ own l m;
      }

      -- the group has the cores that it had at first
      had : (q : ℕ) → HasOneOf now g.old_labels q → HasOneOf old g.old_labels q
      had q f = elim (some_or old (take n groups) q) [
        | inl s ↦
            let l = some_and (map.get now q) (IsLabelOf s.1.0) (all.label s.0 q s.1.0 s.1.1.0 s.1.1.1) in
            let same : l.0 ≡ f.0 = same_value l.1 f.1.1 in
            let is : IsInGroup old s.1.0 f.0 = subst (IsInGroup old s.1.0) same (label_in s.0 s.1.0 l.0 (took groups n s.0 s.1.0 s.1.1.0).1 l.2) in
            absurd (not_before f.0 (inr (f.0, (f.1.0, own f.0 f.1.0))) (s.0, (s.1.0, (s.1.1.0, is))))
        | inr out ↦ (f.0, (f.1.0, sym (all.others q out) ∙ f.1.1))
      ]

      has : (q : ℕ) → HasOneOf old g.old_labels q → HasOneOf now g.old_labels q
      has q f = (f.0, (f.1.0, untouched q (inr f) ∙ f.1.1))

      module _ (label : ℕ) (new : Labels) (u : IsUnited now g label new) where
        here : (q : ℕ) → IsInGroup old g q → map.get new q ≡ Some label
        here q (inl i) = u.joined.core q i
        here q (inr f) = u.joined.joined q (has q f)

        elsewhere : (q : ℕ) → (IsInGroup old g q → ⊥) → map.get new q ≡ map.get now q
        elsewhere q out = u.joined.others q (λ i. out (inl i)) (λ f. out (inr (had q f)))

        last : (j : ℕ) (h : InGroup) (q : ℕ) → slice_get groups j ≡ Some h → IsInGroup old h q → (j < n → ⊥) → j < n + 1 → IsSomeAnd (map.get new q) (IsLabelOf h)
        last j h q is i not lt =
            let e : j ≡ n = elim (cases_lt j n) [ inl l ↦ absurd (not l) | inr l ↦ omega (arith, l, lt) ] in
            let same : g ≡ h = same_value at (subst (λ k. slice_get groups k ≡ Some h) e is) in
            subst (λ (x : InGroup). IsSomeAnd (map.get new q) (IsLabelOf x)) same
            (subst (λ o. IsSomeAnd o (IsLabelOf g)) (sym (here q (subst (λ (x : InGroup). IsInGroup old x q) (sym same) i))) u.is_label)

        pub joined_more : AreAllJoined old (take (n + 1) groups) new
        joined_more = record {
          label = λ j q h at' i.
              let t = took groups (n + 1) j h at' in
              elim (cases_lt j n) [
                | inl lt ↦
                    let before = takes groups n j h lt t.1 in
                    let out = elsewhere q (λ k. not_before q k (j, (h, (before, i)))) in
                    subst (λ o. IsSomeAnd o (IsLabelOf h)) (sym out) (all.label j q h before i)
                | inr le ↦ last j h q t.1 i (λ lt. absurd (omega (arith, le, lt))) t.0
              ];
          others = λ q out.
              elsewhere q (λ i. out (n, (g, (takes groups (n + 1) n g (omega arith) at, i))))
              ∙ all.others q (λ s.
              let t = took groups n s.0 s.1.0 s.1.1.0 in
              let lt = t.0 in
              out (s.0, (s.1.0, (takes groups (n + 1) s.0 s.1.0 (omega (arith, lt)) t.1, s.1.1.1))));
        }

-- before the first group
pub joined_none : (old : Labels) (groups : List InGroup) → AreAllJoined old (take 0 groups) old
joined_none old groups = record {
  label = λ j q g at i. let t = took groups 0 j g at in absurd (let lt = t.0 in omega (arith, lt));
  others = λ q out. refl;
}

-- the old labels of each group, each once
pub labels_once : (old : Labels) (groups : List InGroup) (cores : List ℕ) → AreGathered old cores groups → (j : ℕ) (g : InGroup) → slice_get groups j ≡ Some g → EachOnce g.old_labels
labels_once old groups cores gathered j g at =
    gathered.label_once j g.old_labels (slice_get-map (λ (x : InGroup). x.old_labels) groups j ∙ ap (option_map (λ (x : InGroup). x.old_labels)) at)
