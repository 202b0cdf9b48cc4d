-- Groups one behind another in one list, and the same groups by their places.
use Rattle.std.proofs.Common.{◌≡◌, ℕ, zero, suc, ◌<◌, Bool, false, List, [], ◌∷◌, ◌++◌, length, refl, sym, ap, subst, ◌∙◌, Some, inl, inr, ◌⊎◌, slice_get}
use Rattle.plain_dbscan.proofs.Chains.{joined_on, joined_back}
use Rattle.label_book.specs.Labels.{EachOnce}
use Rattle.label_book.specs.Parting.{IsGrouped, AreEachOnce, AreApart}
use Rattle.label_book.proofs.Views.{same_value, no_value}
use Rattle.chain_growth.specs.inside.Lists.{is_in, In, Distinct, flat}
use Rattle.chain_growth.specs.inside.Work.{IsClassOf, AreClasses, IsCut}
use Rattle.chain_growth.proofs.Lists.{member_in, in_front, in_back, in_cases, out_of, is_out, distinct_front, distinct_back}
use Rattle.chain_growth.proofs.Views.{listed_in, in_listed}
use Rattle.split_expand.specs.Split.{AreGroupsOf, IsClass, AreSplit}
use Rattle.split_expand.specs.inside.Growing.{HasSame}

-- the places of a list with one more in front
head_case : (g : List ℕ) (gs : List (List ℕ)) (P : ℕ → List ℕ → Type 0) → P 0 g → ((j : ℕ) (h : List ℕ) → slice_get gs j ≡ Some h → P (suc j) h) → (j : ℕ) (h : List ℕ) → slice_get (g ∷ gs) j ≡ Some h → P j h
head_case g gs P here later zero h e = subst (P 0) (same_value refl e) here
head_case g gs P here later (suc j) h e = later j h e

-- each group is a part of the flat list
pub part_of : (gs : List (List ℕ)) (j : ℕ) (g : List ℕ) → slice_get gs j ≡ Some g → (x : ℕ) → In g x → In (flat gs) x
part_of [] j g e x m = absurd (no_value refl e)
part_of (h ∷ gs) j g e x m = head_case h gs (λ (i : ℕ) (k : List ℕ). In k x → In (flat (h ∷ gs)) x) (in_front h (flat gs) x) (λ i k at n. in_back h (flat gs) x (part_of gs i k at x n)) j g e m

pub grouped_in : (gs : List (List ℕ)) (x : ℕ) → IsGrouped gs x → In (flat gs) x
grouped_in gs x h = part_of gs h.0 h.1.0 h.1.1.0 x (listed_in h.1.0 x h.1.1.1)

pub in_grouped : (gs : List (List ℕ)) (x : ℕ) → In (flat gs) x → IsGrouped gs x
in_grouped [] x m = absurd (cc)
in_grouped (g ∷ gs) x m = elim (in_cases g (flat gs) x m) [
  | inl here ↦ (0, (g, (refl, in_listed g x here)))
  | inr later ↦ let r = in_grouped gs x later in (suc r.0, (r.1.0, (r.1.1.0, r.1.1.1)))
]

pub out_grouped : (gs : List (List ℕ)) (x : ℕ) → (IsGrouped gs x → ⊥) → is_in (flat gs) x ≡ false
out_grouped gs x h = is_out (is_in (flat gs) x) (λ m. h (in_grouped gs x m))

-- a list with no number twice, by places
head_place : (x : ℕ) (xs : List ℕ) (i c : ℕ) → slice_get (x ∷ xs) i ≡ Some c → ((i ≡ 0) × (c ≡ x)) ⊎ ((j : ℕ) × (i ≡ suc j) × (slice_get xs j ≡ Some c))
head_place x xs zero c e = inl (refl, sym (same_value refl e))
head_place x xs (suc i) c e = inr (i, refl, e)

pub each_once : (xs : List ℕ) → Distinct xs → EachOnce xs
each_once [] d i j c a b = absurd (no_value refl a)
each_once (x ∷ xs) d i j c a b = elim (head_place x xs i c a) [
  | inl p ↦ elim (head_place x xs j c b) [
    | inl q ↦ p.0 ∙ sym q.0
    | inr q ↦ absurd (out_of (is_in xs x) d.0 (subst (λ (y : ℕ). In xs y) p.1 (listed_in xs c (q.0, q.2))))
  ]
  | inr p ↦ elim (head_place x xs j c b) [
    | inl q ↦ absurd (out_of (is_in xs x) d.0 (subst (λ (y : ℕ). In xs y) q.1 (listed_in xs c (p.0, p.2))))
    | inr q ↦ p.1 ∙ ap suc (each_once xs d.1 p.0 q.0 c p.2 q.2) ∙ sym q.1
  ]
]

pub groups_once : (gs : List (List ℕ)) → Distinct (flat gs) → AreEachOnce gs
groups_once [] d j g e = absurd (no_value refl e)
groups_once (h ∷ gs) d j g e = head_case h gs (λ (i : ℕ) (k : List ℕ). EachOnce k) (each_once h (distinct_front h (flat gs) d)) (groups_once gs (distinct_back h (flat gs) d)) j g e

-- nothing is in both parts of a list with no number twice
not_both : (xs ys : List ℕ) (x : ℕ) → Distinct (xs ++ ys) → In xs x → In ys x → ⊥
not_both [] ys x d m n = absurd (cc)
not_both (y ∷ xs) ys x d m n = elim (in_cases (y ∷ []) xs x m) [
  | inl here ↦ elim (member_in (y ∷ []) x here) [
    | inl e ↦ out_of (is_in (xs ++ ys) y) d.0 (in_back xs ys y (subst (λ (z : ℕ). In ys z) e n))
    | inr none ↦ absurd none
  ]
  | inr later ↦ not_both xs ys x d.1 later n
]

head_group : (h : List ℕ) (gs : List (List ℕ)) (i : ℕ) (g : List ℕ) → slice_get (h ∷ gs) i ≡ Some g → ((i ≡ 0) × (h ≡ g)) ⊎ ((j : ℕ) × (i ≡ suc j) × (slice_get gs j ≡ Some g))
head_group h gs zero g e = inl (refl, same_value refl e)
head_group h gs (suc i) g e = inr (i, refl, e)

apart_at : (gs : List (List ℕ)) → Distinct (flat gs) → (x i j : ℕ) (g h : List ℕ) → slice_get gs i ≡ Some g → slice_get gs j ≡ Some h → In g x → In h x → i ≡ j
apart_at [] d x i j g h a b m n = absurd (no_value refl a)
apart_at (k ∷ gs) d x i j g h a b m n = elim (head_group k gs i g a) [
  | inl p ↦ elim (head_group k gs j h b) [
    | inl q ↦ p.0 ∙ sym q.0
    | inr q ↦ absurd (not_both k (flat gs) x d (subst (λ (l : List ℕ). In l x) (sym p.1) m) (part_of gs q.0 h q.2 x n))
  ]
  | inr p ↦ elim (head_group k gs j h b) [
    | inl q ↦ absurd (not_both k (flat gs) x d (subst (λ (l : List ℕ). In l x) (sym q.1) n) (part_of gs p.0 g p.2 x m))
    | inr q ↦ p.1 ∙ ap suc (apart_at gs (distinct_back k (flat gs) d) x p.0 q.0 g h p.2 q.2 m n) ∙ sym q.1
  ]
]

pub groups_apart : (gs : List (List ℕ)) → Distinct (flat gs) → AreApart gs
groups_apart gs d x a b = apart_at gs d x a.0 b.0 a.1.0 b.1.0 a.1.1.0 b.1.1.0 (listed_in a.1.0 x a.1.1.1) (listed_in b.1.0 x b.1.1.1)

-- no group is empty
abbrev pub AreSome : List (List ℕ) → Type 0
AreSome gs = (j : ℕ) (g : List ℕ) → slice_get gs j ≡ Some g → 0 < length g

pub none_some : AreSome []
none_some j g e = absurd (no_value refl e)

pub some_push : (gs : List (List ℕ)) (g : List ℕ) → AreSome gs → 0 < length g → AreSome (gs ++ g ∷ [])
some_push [] g all one j h e = head_case g [] (λ (i : ℕ) (k : List ℕ). 0 < length k) one (λ i k at. absurd (no_value refl at)) j h e
some_push (k ∷ gs) g all one j h e = head_case k (gs ++ g ∷ []) (λ (i : ℕ) (l : List ℕ). 0 < length l) (all 0 k refl) (some_push gs g (λ i l at. all (suc i) l at) one) j h e

pub groups_of : (former members : List ℕ) (gs : List (List ℕ)) → HasSame former members → ((x : ℕ) → In (flat gs) x → In members x) → AreSome gs → Distinct (flat gs) → AreGroupsOf former gs
groups_of former members gs set within some once = record {
  members = λ a m. (set a).0 (within a (grouped_in gs a m));
  some = some;
  once = groups_once gs once;
  apart = groups_apart gs once;
}

module _ (core : ℕ → Bool) (near : ℕ → ℕ → Bool) (alike : (a b : ℕ) → near a b ≡ near b a) where
  class_at : (seeds : List ℕ) (gs : List (List ℕ)) → AreClasses core near seeds gs → (j : ℕ) (g : List ℕ) → slice_get gs j ≡ Some g → (s : ℕ) × IsClassOf core near s g
  class_at seeds [] h j g e = absurd (no_value refl e)
  class_at seeds (k ∷ gs) h j g e = head_case k gs (λ (i : ℕ) (l : List ℕ). (s : ℕ) × IsClassOf core near s l) (h.0.0, h.0.2) (class_at seeds gs h.1) j g e

  class_of_each : (s : ℕ) (g : List ℕ) → IsClassOf core near s g → IsClass core near g
  class_of_each s g h t a m =
      let st = h.joined t (listed_in g t m) in (
        (λ ta. in_listed g a (h.all a (joined_on core near s t a st ta))),
        (λ i. joined_on core near t s a (joined_back core near alike s t st) (h.joined a (listed_in g a i))),
      )

  pub split_of : (former members seeds : List ℕ) (gs : List (List ℕ)) → HasSame former members → IsCut core near members seeds gs → AreSplit core near former gs
  split_of former members seeds gs set cut = record {
    classes = λ j g e. let c = class_at seeds gs cut.classes j g e in class_of_each c.0 g c.1;
    rest = λ a b fa fb oa ob. cut.rest a b ((set a).1 fa) ((set b).1 fb) (out_grouped gs a oa) (out_grouped gs b ob);
  }
