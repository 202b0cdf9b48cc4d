-- Sets made of lists of numbers.
use Rattle.std.proofs.Common.{◌≡◌, ℕ, ◌+◌, ◌<◌, ◌≤◌, false, List, [], ◌∷◌, length, get_or, refl, sym, subst, ◌∙◌, inl, inr, arith}
use Rattle.std.proofs.lemmas.Bool.{cases_Bool, cases_eq}
use Rattle.std.specs.Prelude.{nat_eq}
use Rattle.std.specs.List.{list_any, AllByRecursion, IsDistinct}
use Rattle.std.proofs.lemmas.Bool.Decides.{nat_tests}
use Rattle.chain_growth.specs.inside.Lists.{is_in, In, Distinct, with_one}
use Rattle.plain_dbscan.proofs.Members.{place_of, member_at}
use Rattle.chain_growth.proofs.Lists.{in_member, member_in, in_front, in_back, in_itself}
use Rattle.chain_growth.proofs.Entering.{any_flip, one_there, one_new, distinct_one, with_within}
use Rattle.chain_growth.proofs.Views.{listed_in, in_listed}
use Rattle.split_expand.specs.inside.Growing.{IsSetOf}

apart_all : (x : ℕ) (xs : List ℕ) → AllByRecursion (λ y. nat_eq x y ≡ false) xs → is_in xs x ≡ false
apart_all x [] h = refl
apart_all x (y ∷ ys) h = let e : nat_eq y x ≡ false = let e' : nat_eq x y ≡ false = h.0 in grind (arith, nat_tests) in rw e (apart_all x ys h.1)

pub distinct_of : (xs : List ℕ) → IsDistinct nat_eq xs → Distinct xs
unfolding IsDistinct
distinct_of [] h = tt
distinct_of (x ∷ xs) h = (apart_all x xs h.0, distinct_of xs h.1)

pub one_stays : (xs : List ℕ) (b x : ℕ) → In xs x → In (with_one xs b) x
one_stays xs b x m = elim (cases_Bool (is_in xs b)) [
  | inl t ↦ subst (λ (ys : List ℕ). In ys x) (sym (one_there xs b t)) m
  | inr f ↦ subst (λ (ys : List ℕ). In ys x) (sym (one_new xs b f)) (in_front xs (b ∷ []) x m)
]

pub one_here : (xs : List ℕ) (b : ℕ) → In (with_one xs b) b
one_here xs b = elim (cases_Bool (is_in xs b)) [
  | inl t ↦ subst (λ (ys : List ℕ). In ys b) (sym (one_there xs b t)) t
  | inr f ↦ subst (λ (ys : List ℕ). In ys b) (sym (one_new xs b f)) (in_back xs (b ∷ []) b (in_itself b []))
]

-- a set of the first ones of a list
pub record IsSetUpTo (xs : List ℕ) (i : ℕ) (keys : List ℕ) : Type 0 where
  pub once : Distinct keys
  pub sound : (q : ℕ) → In keys q → In xs q
  pub complete : (j : ℕ) → j < i → In keys (get_or xs j 0)

pub set_none : (xs keys : List ℕ) → keys ≡ [] → IsSetUpTo xs 0 keys
set_none xs keys e = record {
  once = subst Distinct (sym e) tt;
  sound = λ q m. let bad : In [] q = subst (λ (ys : List ℕ). In ys q) e m in absurd (cc);
  complete = λ j h. absurd (omega arith);
}

pub set_next : (xs keys new : List ℕ) (i : ℕ) → i < length xs → IsSetUpTo xs i keys → new ≡ with_one keys (get_or xs i 0) → IsSetUpTo xs (i + 1) new
set_next xs keys new i lt h e =
    let b = get_or xs i 0 in
    record {
      once = subst Distinct (sym e) (distinct_one keys b h.once);
      sound = λ q m. with_within keys xs b h.sound (in_member xs b (member_at xs i lt)) q (subst (λ (ys : List ℕ). In ys q) e m);
      complete = λ j l. subst (λ (ys : List ℕ). In ys (get_or xs j 0)) (sym e) (elim (cases_eq j i) [
        | inl same ↦ subst (λ (n : ℕ). In (with_one keys b) (get_or xs n 0)) (sym same) (one_here keys b)
        | inr other ↦ one_stays keys b (get_or xs j 0) (h.complete j (omega arith))
      ]);
    }

pub set_all : (xs keys : List ℕ) (i : ℕ) → length xs ≤ i → IsSetUpTo xs i keys → IsSetOf xs keys
set_all xs keys i le h = record {
  same = λ q. (
    (λ m. in_listed xs q (h.sound q m)),
    (λ m. let p = place_of xs q (member_in xs q (listed_in xs q m)) in subst (λ (x : ℕ). In keys x) p.1.is (h.complete p.0 (omega (arith, p.1.below, le)))),
  );
  once = h.once;
}

pub set_moved : (xs keys new : List ℕ) → IsSetOf xs keys → ((q : ℕ) → list_any (nat_eq q) new ≡ list_any (nat_eq q) keys) → IsDistinct nat_eq new → IsSetOf xs new
set_moved xs keys new s h d = record {
  same = λ q. (
    (λ m. (s.same q).0 (sym (any_flip q keys) ∙ sym (h q) ∙ any_flip q new ∙ m)),
    (λ m. sym (any_flip q new) ∙ h q ∙ any_flip q keys ∙ (s.same q).1 m),
  );
  once = distinct_of new d;
}
