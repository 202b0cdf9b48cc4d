-- Former clusters part one after another.
use Rattle.std.proofs.Common.{◌≡◌, ◌↔◌, ◌⊎◌, ℕ, zero, suc, ◌≤◌, Bool, List, [], ◌∷◌, ◌++◌, length, IsSomeAnd, refl, sym, ap, subst, ◌∙◌, append_assoc, Some, inl, inr, slice_get, arith}
use Rattle.std.specs.FinMap as map
use Rattle.std.proofs.lemmas.List.Sums.{sum_by-append}
use Rattle.vec_record.specs.declared.event.Event.{Event}
use Rattle.plain_dbscan.specs.Cases.{decline}
use Rattle.label_book.specs.Labels.{Labels, IsMember, EachOnce, IsLeastOf}
use Rattle.label_book.specs.Parting.{IsParted, IsRest}
use Rattle.label_book.proofs.Added.{some_is}
use Rattle.label_book.proofs.Joined.{member_or}
use Rattle.label_book.proofs.Parted.{grouped_or}
use Rattle.label_book.proofs.Views.{known, same_value, no_value, some_and}
use Rattle.update_seed.specs.declared.former.Former.{Former}
use Rattle.update_seed.proofs.Lists.{Apart, apart_once}
use Rattle.chain_growth.specs.Hops.{IsGrown}
use Rattle.chain_growth.specs.inside.Lists.{is_in, Distinct}
use Rattle.chain_growth.proofs.Lists.{in_member, out_of, in_cases, distinct_append}
use Rattle.chain_growth.proofs.Views.{listed_in, in_listed, union_as, seeds_as, grown_as}
use Rattle.delete_case.specs.Parting.{Remains, IsSeeded, IsLeft, IsCut, AreAllParted, AreRisen, AreTold, AreAllTold, MayBeAsked, AreAllPaid}
use Rattle.delete_case.specs.inside.Cutting.{IsCutBy, IsOneCut, IsOneTold, IsOnePaid}
use Rattle.delete_case.proofs.Deletion.{once_distinct}
use Rattle.delete_case.proofs.Remaining.{labelled_or}

-- a list and one more at its end, by place
pub at_last : {X : Type 0} (xs : List X) (y : X) (i : ℕ) (x : X) → slice_get (xs ++ y ∷ []) i ≡ Some x → (slice_get xs i ≡ Some x) ⊎ (x ≡ y)
at_last [] y zero x e = inr (sym (same_value refl e))
at_last [] y (suc i) x e = absurd (no_value refl e)
at_last (z ∷ xs) y zero x e = inl e
at_last (z ∷ xs) y (suc i) x e = at_last xs y i x e

pub at_old : {X : Type 0} (xs : List X) (y : X) (i : ℕ) (x : X) → slice_get xs i ≡ Some x → slice_get (xs ++ y ∷ []) i ≡ Some x
at_old [] y i x e = absurd (no_value refl e)
at_old (z ∷ xs) y zero x e = e
at_old (z ∷ xs) y (suc i) x e = at_old xs y i x e

pub at_new : {X : Type 0} (xs : List X) (y : X) → slice_get (xs ++ y ∷ []) (length xs) ≡ Some y
at_new [] y = refl
at_new (z ∷ xs) y = at_new xs y

-- a cluster is cut by its groups
pub cut_from : (core : ℕ → Bool) (near : ℕ → ℕ → Bool) (old new : Labels) (f : Former) (groups : List (List ℕ)) → IsCutBy core near old f groups → IsParted old f.label f.lost groups new → IsCut core near old f new
cut_from core near old new f groups by parted = record {
  groups = groups;
  grouped_in = by.parting.grouped_in;
  gone = parted.gone;
  grouped = parted.grouped;
  rest = λ a l.
      let got = some_and (map.get new a) _ (parted.rest a (to_rest a l)) in
      some_is (λ m. IsLeft old f groups m × ((b : ℕ) → IsLeft old f groups b → m ≤ b)) got.1
      (from_rest got.0 got.2.0, λ b k. got.2.1 b (to_rest b k));
  split = by.split;
}
  where
    to_rest : (a : ℕ) → IsLeft old f groups a → IsRest old f.label f.lost groups a
    to_rest a l = record { member = l.member; kept = l.kept; alone = l.alone }

    from_rest : (a : ℕ) → IsRest old f.label f.lost groups a → IsLeft old f groups a
    from_rest a r = record { member = r.member; kept = r.kept; alone = r.alone }

-- the same cut, by other labels with the same members before and the same labels of them after
module _ (core : ℕ → Bool) (near : ℕ → ℕ → Bool) (now old : Labels) (f : Former) (mem : (c : ℕ) → map.get now c ≡ Some f.label ↔ map.get old c ≡ Some f.label) where
  remains_as : (a : ℕ) → Remains core now f.label a → Remains core old f.label a
  remains_as a r = (r.0, (mem a).0 r.1)

  remains_back : (a : ℕ) → Remains core old f.label a → Remains core now f.label a
  remains_back a r = (r.0, (mem a).1 r.1)

  pub seeded_as : IsSeeded core near old f → IsSeeded core near now f
  seeded_as s = record {
    union = union_as core near (Remains core old f.label) (Remains core now f.label) remains_back remains_as s.union;
    seeds = seeds_as core near (Remains core old f.label) (Remains core now f.label) (IsMember f.seeds) (IsMember f.seeds) remains_back remains_as (λ a m. m) (λ a m. m) s.seeds;
  }

  left_as : (groups : List (List ℕ)) (a : ℕ) → IsLeft now f groups a → IsLeft old f groups a
  left_as groups a l = record { member = (mem a).0 l.member; kept = l.kept; alone = l.alone }

  left_back : (groups : List (List ℕ)) (a : ℕ) → IsLeft old f groups a → IsLeft now f groups a
  left_back groups a l = record { member = (mem a).1 l.member; kept = l.kept; alone = l.alone }

  pub cut_as : (new new' : Labels) → ((b : ℕ) → IsMember f.lost b → map.get old b ≡ Some f.label) → ((c : ℕ) → map.get old c ≡ Some f.label → map.get new' c ≡ map.get new c) → IsCut core near now f new → IsCut core near old f new'
  cut_as new new' lost_in kept cut = record {
    groups = cut.groups;
    grouped_in = λ a of. (mem a).0 (cut.grouped_in a of);
    gone = λ b m. kept b (lost_in b m) ∙ cut.gone b m;
    grouped = λ a of. subst (λ o. IsSomeAnd o (λ l. IsLeastOf l of.1.0)) (sym (kept a ((mem a).0 (cut.grouped_in a of)))) (cut.grouped a of);
    rest = λ a l.
        let got = some_and (map.get new a) _ (cut.rest a (left_back cut.groups a l)) in
        some_is (λ m. IsLeft old f cut.groups m × ((b : ℕ) → IsLeft old f cut.groups b → m ≤ b)) (kept a l.member ∙ got.1)
        (left_as cut.groups got.0 got.2.0, λ b k. got.2.1 b (left_back cut.groups b k));
    split = λ s. let c = cut.split (seeded_as s) in record {
      classes = c.classes;
      rest = λ a b ra rb. c.rest a b (remains_back a ra) (remains_back b rb);
    };
  }

pub parted_none : (core : ℕ → Bool) (near : ℕ → ℕ → Bool) (old : Labels) → AreAllParted core near old [] old
parted_none core near old = record { each = λ j f at. absurd (no_value refl at); others = λ q e. refl }

-- the labels that members have now
pub risen_as : (old old' new new' : Labels) (l : ℕ) (ks : List ℕ) → ((c : ℕ) → map.get old c ≡ Some l ↔ map.get old' c ≡ Some l) → ((c : ℕ) → map.get old' c ≡ Some l → map.get new' c ≡ map.get new c) → AreRisen old l new ks → AreRisen old' l new' ks
risen_as old old' new new' l ks mem kept r = record {
  are = record {
    each = λ k m. let h = r.are.each k m in let was = (mem h.0).0 h.1.was in (h.0, record { was = was; is = kept h.0 was ∙ h.1.is });
    all = λ k c h. r.are.all k c (record { was = (mem c).1 h.was; is = sym (kept c h.was) ∙ h.is });
  };
  rising = r.rising;
}

same_members : (m : Labels) (l c : ℕ) → map.get m c ≡ Some l ↔ map.get m c ≡ Some l
same_members m l c = ((λ e. e), (λ e. e))

told_as : (old now new : Labels) (list : List Former) (told : List Event) → ((j : ℕ) (g : Former) → slice_get list j ≡ Some g → (c : ℕ) → map.get old c ≡ Some g.label → map.get new c ≡ map.get now c) → AreTold old list now told → AreTold old list new told
told_as old now new [] told kept t = t
told_as old now new (g ∷ list) told kept t =
    (t.0, t.1, risen_as old old now new g.label t.0 (same_members old g.label) (kept 0 g refl) t.2, t.3, told_as old now new list t.1 (λ j h at. kept (suc j) h at) t.4)

pub append_none : {X : Type 0} (xs : List X) → xs ≡ xs ++ []
append_none [] = refl
append_none (x ∷ xs) = ap (λ ys. x ∷ ys) (append_none xs)

told_end : (old new : Labels) (list : List Former) (f : Former) (ks : List ℕ) (told : List Event) → AreRisen old f.label new ks → AreTold old list new told → AreTold old (list ++ f ∷ []) new (told ++ decline f.label ks)
told_end old new [] f ks told r t = (ks, [], r, ap (λ es. es ++ decline f.label ks) t ∙ append_none (decline f.label ks), refl)
told_end old new (g ∷ list) f ks told r t =
    (t.0, t.1 ++ decline f.label ks, t.2, ap (λ es. es ++ decline f.label ks) t.3 ∙ append_assoc (decline g.label t.0) t.1 (decline f.label ks), told_end old new list f ks t.1 r t.4)

distinct_apart : (xs : List ℕ) → Distinct xs → Apart xs
distinct_apart [] d = tt
distinct_apart (x ∷ xs) d = ((λ m. out_of (is_in xs x) d.0 (in_member xs x m)), distinct_apart xs d.1)

once_append : (xs ys : List ℕ) → EachOnce xs → EachOnce ys → ((a : ℕ) → IsMember xs a → IsMember ys a → ⊥) → EachOnce (xs ++ ys)
once_append xs ys once_x once_y apart =
    apart_once (xs ++ ys) (distinct_apart (xs ++ ys) (distinct_append xs ys (once_distinct xs once_x) (once_distinct ys once_y) (λ a h k. apart a (in_listed xs a h) (in_listed ys a k))))

module _ (core : ℕ → Bool) (near : ℕ → ℕ → Bool) (old now : Labels) (done : List Former) (f : Former)
    (label_is : map.get old f.label ≡ Some f.label) (lost_in : (b : ℕ) → IsMember f.lost b → map.get old b ≡ Some f.label)
    (other : (j : ℕ) (g : Former) → slice_get done j ≡ Some g → g.label ≡ f.label → ⊥) (parted : AreAllParted core near old done now) where
  pub untouched : (c : ℕ) → map.get old c ≡ Some f.label → map.get now c ≡ map.get old c
  untouched c e = parted.others c (λ j g at e'. other j g at (same_value e' e))

  -- no member of an earlier cluster has this label
  cut_other : (g : Former) → (g.label ≡ f.label → ⊥) → IsCut core near old g now → (c : ℕ) → map.get old c ≡ Some g.label → map.get now c ≡ Some f.label → ⊥
  cut_other g ne cut c e h = elim (member_or g.lost c) [
    | inl m ↦ no_value (cut.gone c m) h
    | inr kept ↦ elim (grouped_or cut.groups c) [
      | inl of ↦
          let got = some_and (map.get now c) _ (cut.grouped c of) in
          let least = subst (λ (l : ℕ). IsLeastOf l of.1.0) (same_value got.1 h) got.2 in
          ne (same_value (cut.grouped_in f.label (of.0, (of.1.0, (of.1.1.0, least.0)))) label_is)
      | inr off ↦
          let got = some_and (map.get now c) _ (cut.rest c (record { member = e; kept = kept; alone = off })) in
          let left = subst (IsLeft old g cut.groups) (same_value got.1 h) got.2.0 in
          ne (same_value left.member label_is)
    ]
  ]

  was_member : (c : ℕ) → map.get now c ≡ Some f.label → map.get old c ≡ Some f.label
  was_member c h = elim (known (map.get old c)) [
    | inl off ↦ absurd (no_value (parted.others c (λ j g at e. no_value off e) ∙ off) h)
    | inr l ↦ elim (labelled_or done l.0) [
      | inl g ↦ absurd (cut_other g.1 (other g.0 g.1 g.2) (parted.each g.0 g.1 g.2) c (l.1 ∙ ap (λ n. Some n) (sym g.3)) h)
      | inr off ↦ sym (parted.others c (λ j g at e. off j g at (same_value e l.1))) ∙ h
    ]
  ]

  -- the members are those of before
  pub members_as : (c : ℕ) → map.get now c ≡ Some f.label ↔ map.get old c ≡ Some f.label
  members_as c = (was_member c, λ e. untouched c e ∙ e)

  pub paid_more : (cost : ℕ → ℕ) (s t u : ℕ) → AreAllPaid core near cost old done s t → IsOnePaid core near cost now f t u → AreAllPaid core near cost old (done ++ f ∷ []) s u
  paid_more cost s t u one two all =
      let first = one (λ j g at. all j g (at_old done f j g at)) in
      let second = two (seeded_as core near now old f members_as (all (length done) f (at_new done f))) in
      let of_f = λ (a : ℕ) (m : IsMember second.asked a). let r : IsGrown core near (Remains core now f.label) (IsMember f.seeds) a = grown_of (second.may a m) in r in
      record {
        asked = first.asked ++ second.asked;
        once = once_append first.asked second.asked first.once second.once (λ a m k.
            let may = first.may a m in
            other may.place may.former may.stands (same_value may.grown.member.1 ((members_as a).0 (of_f a k).member.1)));
        may = λ a m. elim (in_cases first.asked second.asked a (listed_in (first.asked ++ second.asked) a m)) [
          | inl h ↦
              let may = first.may a (in_listed first.asked a h) in
              record { place = may.place; former = may.former; stands = at_old done f may.place may.former may.stands; grown = may.grown }
          | inr h ↦ record {
            place = length done;
            former = f;
            stands = at_new done f;
            grown = grown_as core near (Remains core now f.label) (Remains core old f.label) (IsMember f.seeds) (IsMember f.seeds)
                (remains_as core near now old f members_as) (λ q k. k) (λ q k. k) a (of_f a (in_listed second.asked a h));
          }
        ];
        count = omega (arith, first.count, second.count, sum_by-append cost first.asked second.asked);
      }
    where
      grown_of : {a : ℕ} → MayBeAsked core near now (f ∷ []) a → IsGrown core near (Remains core now f.label) (IsMember f.seeds) a
      grown_of {a = a} may = elim (at_last [] f may.place may.former may.stands) [
        | inl e ↦ absurd (no_value refl e)
        | inr e ↦ subst (λ (g : Former). IsGrown core near (Remains core now g.label) (IsMember g.seeds) a) e may.grown
      ]

  module _ (new : Labels) (one : IsOneCut core near now f new) where
    stays : (g : Former) → (g.label ≡ f.label → ⊥) → (c : ℕ) → map.get old c ≡ Some g.label → map.get new c ≡ map.get now c
    stays g ne c e = one.others c (λ h. ne (same_value e (was_member c h)))

    pub parted_more : ((j : ℕ) (g : Former) → slice_get done j ≡ Some g → (b : ℕ) → IsMember g.lost b → map.get old b ≡ Some g.label) → AreAllParted core near old (done ++ f ∷ []) new
    parted_more lost_before = record {
      each = λ j g at. elim (at_last done f j g at) [
        | inl early ↦ cut_as core near old old g (same_members old g.label) now new (lost_before j g early) (stays g (other j g early)) (parted.each j g early)
        | inr e ↦ subst (λ (h : Former). IsCut core near old h new) (sym e) (cut_as core near now old f members_as new new lost_in (λ c h. refl) one.cut)
      ];
      others = λ q off.
          one.others q (λ h. off (length done) f (at_new done f) (was_member q h))
          ∙ parted.others q (λ j g at. off j g (at_old done f j g at));
    }

    pub told_more : (out mid out' : List Event) → AreAllTold old done now out mid → IsOneTold now f new mid out' → AreAllTold old (done ++ f ∷ []) new out out'
    told_more out mid out' all told = (
      all.0 ++ decline f.label told.labels,
      told_end old new done f told.labels all.0 (risen_as now old new new f.label told.labels members_as (λ c h. refl) told.risen)
          (told_as old now new done all.0 (λ j g at. stays g (other j g at)) all.1),
      told.told ∙ ap (λ es. es ++ decline f.label told.labels) all.2 ∙ append_assoc out all.0 (decline f.label told.labels),
    )
