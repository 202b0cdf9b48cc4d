-- The classes of the heads as groups.
use Rattle.std.proofs.Common.{◌≡◌, ℕ, zero, suc, ◌<◌, Bool, List, [], ◌∷◌, ◌++◌, length, filter, map, Result, IsTrue, IsSome, is_some, is_none, refl, sym, ap, subst, ◌∙◌, None, Some, inl, inr, ◌⊎◌, slice_get, arith}
use Rattle.std.specs.Prelude.{Ok, Err, IfOk}
use Rattle.std.specs.declared.option.Option.{Option}
use Rattle.std.specs.Option.{option_map}
use Rattle.std.specs.FinMap as finite
use Rattle.std.proofs.lemmas.Option.{slice_get_within, slice_get-get_or, slice_get-map}
use Rattle.std.proofs.lemmas.Bool.{cases_lt}
use Rattle.label_book.specs.Labels.{Labels, IsMember, EachOnce, AreMembers, AreFree, IsLeastOf}
use Rattle.label_book.specs.Parting.{IsGrouped}
use Rattle.label_book.proofs.Views.{same_value, no_value, known}
use Rattle.update_seed.specs.declared.groups.InGroup.{InGroup}
use Rattle.update_seed.specs.Groups.{cores_in, AreGathered}
use Rattle.update_seed.specs.inside.Ties.{Same, IsClassOf, ArePaired, AreClasses}
use Rattle.update_seed.proofs.Lists.{once_filter, in_filter, to_filter}
use Rattle.update_seed.proofs.Tied.{is_there, not_there, same_back, same_on}

none_is : (o : Option ℕ) → IsTrue (is_none o) → o ≡ None
none_is None h = refl
none_is (Some x) h = absurd (cc)

is_none_of : (o : Option ℕ) → o ≡ None → IsTrue (is_none o)
is_none_of o e = ap is_none e

-- the members of a class, the new ones and the old ones apart
pub class_is : (labels m : Labels) (core label : ℕ) (members : List ℕ) (g : InGroup) → finite.get m core ≡ Some label → AreMembers m label members
    → g.new_cores ≡ filter (λ q. is_none (finite.get labels q)) members → g.old_labels ≡ filter (λ q. is_some (finite.get labels q)) members → IsClassOf labels m core g
class_is labels m core label members g at are new old = record {
  new = λ q. (
    (λ i. let f = in_filter fresh members q (subst (λ xs. IsMember xs q) new i) in (same q f.0, none_is (finite.get labels q) f.1)),
    (λ h. subst (λ xs. IsMember xs q) (sym new) (to_filter fresh members q (in_it q h.0) (is_none_of (finite.get labels q) h.1))),
  );
  old = λ q. (
    (λ i. let f = in_filter named members q (subst (λ xs. IsMember xs q) old i) in (same q f.0, f.1)),
    (λ h. subst (λ xs. IsMember xs q) (sym old) (to_filter named members q (in_it q h.0) h.1)),
  );
  new_once = subst EachOnce (sym new) (once_filter fresh members are.once);
  old_once = subst EachOnce (sym old) (once_filter named members are.once);
}
  where
    fresh : ℕ → Bool
    fresh q = is_none (finite.get labels q)

    named : ℕ → Bool
    named q = is_some (finite.get labels q)

    same : (q : ℕ) → IsMember members q → Same m core q
    same q i = (label, (at, (are.exact q).0 i))

    in_it : (q : ℕ) → Same m core q → IsMember members q
    in_it q s = (are.exact q).1 (s.1.1 ∙ ap (λ n. Some n) (same_value s.1.0 at))

both_if_ok : {T E : Type 0} {P Q S : T → Type 0} (r : Result T E) → ((x : T) → P x → Q x → S x) → IfOk r P → IfOk r Q → IfOk r S
both_if_ok (Ok x) f p q = f x p q
both_if_ok (Err e) f p q = tt

-- the parted members of a class, where they were parted
pub class_parted : {E : Type 0} (r : Result InGroup E) (labels m : Labels) (core label : ℕ) (members : List ℕ) → finite.get m core ≡ Some label → AreMembers m label members
    → IfOk r (λ g. g.new_cores ≡ filter (λ q. is_none (finite.get labels q)) members) → IfOk r (λ g. g.old_labels ≡ filter (λ q. is_some (finite.get labels q)) members)
    → IfOk r (λ g. IsClassOf labels m core g)
class_parted r labels m core label members at are new old = both_if_ok r (λ g. class_is labels m core label members g at are) new old

pub paired_none : (labels m : Labels) → ArePaired labels m [] []
paired_none labels m = record { long = refl; each = λ j h g e f. absurd (no_value refl e) }

last_of : {X : Type 0} (xs : List X) (y : X) (i : ℕ) (a : X) → slice_get (xs ++ y ∷ []) i ≡ Some a → (slice_get xs i ≡ Some a) ⊎ ((i ≡ length xs) × (a ≡ y))
last_of [] y zero a e = inr (refl, sym (same_value refl e))
last_of [] y (suc i) a e = absurd (no_value refl e)
last_of (x ∷ xs) y zero a e = inl e
last_of (x ∷ xs) y (suc i) a e = elim (last_of xs y i a e) [ inl h ↦ inl h | inr r ↦ inr (omega (arith, r.0), r.1) ]

long_more : {X : Type 0} (xs : List X) (y : X) → length (xs ++ y ∷ []) ≡ suc (length xs)
long_more [] y = refl
long_more (x ∷ xs) y = ap suc (long_more xs y)

pub paired_more : (labels m : Labels) (heads : List ℕ) (groups : List InGroup) (h : ℕ) (g : InGroup) → ArePaired labels m heads groups → IsClassOf labels m h g
    → ArePaired labels m (heads ++ h ∷ []) (groups ++ g ∷ [])
paired_more labels m heads groups h g p is = record {
  long = long_more groups g ∙ ap suc p.long ∙ sym (long_more heads h);
  each = λ j k f a b. elim (last_of heads h j k a) [
    | inl c ↦ elim (last_of groups g j f b) [
      | inl d ↦ p.each j k f c d
      | inr d ↦ let short = slice_get_within heads j k c in let long = p.long in absurd (omega (arith, short, d.0, long))
    ]
    | inr c ↦ elim (last_of groups g j f b) [
      | inl d ↦ let short = slice_get_within groups j f d in let long = p.long in absurd (omega (arith, short, c.0, long))
      | inr d ↦ subst (λ x. IsClassOf labels m x f) (sym c.1) (subst (IsClassOf labels m h) (sym d.1) is)
    ]
  ];
}

nobody : InGroup
nobody = record { new_cores = []; old_labels = [] }

-- what stands at a place of a list that was taken of each group
pub group_of : (f : InGroup → List ℕ) (groups : List InGroup) (j : ℕ) (xs : List ℕ) → slice_get (map f groups) j ≡ Some xs → (g : InGroup) × ((slice_get groups j ≡ Some g) × (f g ≡ xs))
group_of f groups j xs e = at (slice_get groups j) refl (sym (slice_get-map f groups j) ∙ e)
  where
    at : (o : Option InGroup) → slice_get groups j ≡ o → option_map f o ≡ Some xs → (g : InGroup) × ((slice_get groups j ≡ Some g) × (f g ≡ xs))
    at None is h = absurd (no_value refl h)
    at (Some g) is h = (g, (is, same_value refl h))

pub to_group : (f : InGroup → List ℕ) (groups : List InGroup) (j q : ℕ) (g : InGroup) → slice_get groups j ≡ Some g → IsMember (f g) q → IsGrouped (map f groups) q
to_group f groups j q g e m = (j, (f g, (slice_get-map f groups j ∙ ap (option_map f) e, m)))

some_of : (xs : List ℕ) (q : ℕ) → IsMember xs q → 0 < length xs
some_of xs q m = let low = slice_get_within xs m.0 q m.1 in omega (arith, low)

module _ (labels m : Labels) (cores : List ℕ) (groups : List InGroup) (free : AreFree labels cores)
    (keys : (q : ℕ) → IsSome (finite.get m q) → IsMember cores q ⊎ (finite.get labels q ≡ Some q)) (there : (n : ℕ) → IsMember cores n → IsSome (finite.get m n)) (are : AreClasses labels m cores groups) where
  pub head_at : (j : ℕ) (g : InGroup) → slice_get groups j ≡ Some g → (h : ℕ) × ((slice_get are.heads j ≡ Some h) × IsClassOf labels m h g)
  head_at j g e =
      let short = slice_get_within groups j g e in
      let long = are.paired.long in
      let at = slice_get-get_or are.heads j 0 (omega (arith, short, long)) in
      (_, (at, are.paired.each j _ g at e))

  group_at : (j h : ℕ) → slice_get are.heads j ≡ Some h → (g : InGroup) × ((slice_get groups j ≡ Some g) × IsClassOf labels m h g)
  group_at j h e =
      let short = slice_get_within are.heads j h e in
      let long = are.paired.long in
      let at = slice_get-get_or groups j nobody (omega (arith, short, long)) in
      (_, (at, are.paired.each j h _ e at))

  -- two heads of one class are one
  one_head : (i j h k : ℕ) → slice_get are.heads i ≡ Some h → slice_get are.heads j ≡ Some k → Same m h k → i ≡ j
  one_head i j h k a b s =
      let up = are.heads_are.least h k (i, a) (are.heads_are.member k (j, b)) s in
      let down = are.heads_are.least k h (j, b) (are.heads_are.member h (i, a)) (same_back m h k s) in
      elim (cases_lt i j) [
        | inl lt ↦ let less = are.heads_are.rising i j h k lt a b in absurd (omega (arith, less, down))
        | inr ge ↦ elim (cases_lt j i) [
          | inl lt ↦ let less = are.heads_are.rising j i k h lt b a in absurd (omega (arith, less, up))
          | inr le ↦ omega (arith, ge, le)
        ]
      ]

  pub core_of : (j : ℕ) (g : InGroup) (n : ℕ) → slice_get groups j ≡ Some g → IsMember g.new_cores n → IsMember cores n
  core_of j g n e i =
      let c = (head_at j g e).1.1.new n in
      elim (keys n (is_there (c.0 i).0.1.1)) [ inl is ↦ is | inr l ↦ absurd (no_value (c.0 i).1 l) ]

  label_of : (j : ℕ) (g : InGroup) (l : ℕ) → slice_get groups j ≡ Some g → IsMember g.old_labels l → finite.get labels l ≡ Some l
  label_of j g l e i =
      let c = (head_at j g e).1.1.old l in
      elim (keys l (is_there (c.0 i).0.1.1)) [ inl is ↦ absurd (not_there (free l is) (c.0 i).1) | inr is ↦ is ]

  -- the head is the least new core of its group
  head_in : (j : ℕ) (g : InGroup) (e : slice_get groups j ≡ Some g) → IsMember g.new_cores (head_at j g e).0
  head_in j g e =
      let h = head_at j g e in
      let core = are.heads_are.member h.0 (j, h.1.0) in
      let k = known (finite.get m h.0) in
      (h.1.1.new h.0).1 (elim k [ inl off ↦ absurd (not_there off (there h.0 core)) | inr at ↦ (at.0, (at.1, at.1)) ], free h.0 core)

  head_least : (j : ℕ) (g : InGroup) (a : ℕ) (e : slice_get groups j ≡ Some g) → IsLeastOf a g.new_cores → a ≡ (head_at j g e).0
  head_least j g a e is =
      let h = head_at j g e in
      let here = head_in j g e in
      let up = is.1 here.0 h.0 here.1 in
      let down = are.heads_are.least h.0 a (j, h.1.0) (core_of j g a e is.0) ((h.1.1.new a).0 is.0).0 in
      omega (arith, up, down)

  cores_at : (n : ℕ) → IsMember cores n → IsGrouped (cores_in groups) n
  cores_at n i =
      let f = are.heads_are.every n i in
      let g = group_at f.1.0.0 f.0 f.1.0.1 in
      to_group (λ x. x.new_cores) groups f.1.0.0 n g.0 g.1.0 ((g.1.1.new n).1 (f.1.1, free n i))

  pub gathered : AreGathered labels cores groups
  gathered = record {
    cores_are = λ n. (
      cores_at n,
      λ f. let g = group_of (λ x. x.new_cores) groups f.0 f.1.0 f.1.1.0 in core_of f.0 g.0 n g.1.0 (subst (λ xs. IsMember xs n) (sym g.1.1) f.1.1.1),
    );
    core_once = λ j xs e. let g = group_of (λ x. x.new_cores) groups j xs e in subst EachOnce g.1.1 (head_at j g.0 g.1.0).1.1.new_once;
    core_apart = λ q a b.
        let f = group_of (λ x. x.new_cores) groups a.0 a.1.0 a.1.1.0 in
        let g = group_of (λ x. x.new_cores) groups b.0 b.1.0 b.1.1.0 in
        let h = head_at a.0 f.0 f.1.0 in
        let k = head_at b.0 g.0 g.1.0 in
        let s = ((h.1.1.new q).0 (subst (λ xs. IsMember xs q) (sym f.1.1) a.1.1.1)).0 in
        let t = ((k.1.1.new q).0 (subst (λ xs. IsMember xs q) (sym g.1.1) b.1.1.1)).0 in
        one_head a.0 b.0 h.0 k.0 h.1.0 k.1.0 (same_on m h.0 q k.0 s (same_back m k.0 q t));
    some = λ j g e. some_of g.new_cores _ (head_in j g e);
    labels_are = λ l f.
        let g = group_of (λ x. x.old_labels) groups f.0 f.1.0 f.1.1.0 in label_of f.0 g.0 l g.1.0 (subst (λ xs. IsMember xs l) (sym g.1.1) f.1.1.1);
    label_once = λ j xs e. let g = group_of (λ x. x.old_labels) groups j xs e in subst EachOnce g.1.1 (head_at j g.0 g.1.0).1.1.old_once;
    label_apart = λ q a b.
        let f = group_of (λ x. x.old_labels) groups a.0 a.1.0 a.1.1.0 in
        let g = group_of (λ x. x.old_labels) groups b.0 b.1.0 b.1.1.0 in
        let h = head_at a.0 f.0 f.1.0 in
        let k = head_at b.0 g.0 g.1.0 in
        let s = ((h.1.1.old q).0 (subst (λ xs. IsMember xs q) (sym f.1.1) a.1.1.1)).0 in
        let t = ((k.1.1.old q).0 (subst (λ xs. IsMember xs q) (sym g.1.1) b.1.1.1)).0 in
        one_head a.0 b.0 h.0 k.0 h.1.0 k.1.0 (same_on m h.0 q k.0 s (same_back m k.0 q t));
    rising = λ i j g h lt e f a b la lb.
        let x = head_at i g e in
        let y = head_at j h f in
        let up = are.heads_are.rising i j x.0 y.0 lt x.1.0 y.1.0 in
        let sa = head_least i g a e la in
        let sb = head_least j h b f lb in
        omega (arith, up, sa, sb);
  }

pub paired_start : (labels m : Labels) (groups : List InGroup) → groups ≡ [] → ArePaired labels m [] groups
paired_start labels m groups e = subst (ArePaired labels m []) (sym e) (paired_none labels m)

pub paired_push : (labels m : Labels) (heads : List ℕ) (groups more : List InGroup) (h : ℕ) (g : InGroup) → ArePaired labels m heads groups → IsClassOf labels m h g
    → more ≡ groups ++ g ∷ [] → ArePaired labels m (heads ++ h ∷ []) more
paired_push labels m heads groups more h g p is e = subst (ArePaired labels m (heads ++ h ∷ [])) (sym e) (paired_more labels m heads groups h g p is)
