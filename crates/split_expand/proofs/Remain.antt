-- What is left of a cluster, member by member.
use Rattle.std.proofs.Common.{◌≡◌, ◌↔◌, ℕ, Bool, true, false, cond, List, [], ◌∷◌, map as list_map, ◌&&◌, IsTrue, None, Some, refl, sym, ap, subst, ◌∙◌, inl, inr, arith}
use Rattle.std.specs.declared.option.Option.{Option}
use Rattle.std.specs.FinMap as map
use Rattle.std.specs.FinMap.Entries.{find}
use Rattle.std.specs.Ordering.{nat_cmp, eq_by_cmp}
use Rattle.std.proofs.lemmas.Bool.Decides.{nat_tests, eqb_tells}
use Rattle.plain_dbscan.proofs.Chains.{Member}
use Rattle.count_book.specs.Counted.{Counted, IsCore}
use Rattle.label_book.specs.Labels.{Labels, IsMember}
use Rattle.label_book.proofs.Views.{no_value}
use Rattle.update_seed.specs.Books.{core_in}
use Rattle.update_seed.proofs.Looking.{core_in_is}
use Rattle.update_seed.proofs.Lists.{from_member, in_filter, to_filter}
use Rattle.split_expand.specs.Remaining.{is_label, remaining}

-- a number that has a value stands among the numbers
found_in : (es : List (ℕ × ℕ)) (q v : ℕ) → find nat_cmp q es ≡ Some v → Member q (list_map (λ e. e.0) es)
found_in [] q v h = absurd (no_value refl h)
found_in (e ∷ es) q v h =
    elim (eq_by_cmp nat_cmp q e.0) as (λ b. eq_by_cmp nat_cmp q e.0 ≡ b → cond b (Some e.1) (find nat_cmp q es) ≡ Some v → Member q (list_map (λ e. e.0) (e ∷ es))) [
      | true ↦ λ t _. inl (grind (arith, nat_tests))
      | false ↦ λ _ later. inr (found_in es q v later)
    ] refl h

is_it : (l : ℕ) (o : Option ℕ) → IsTrue (is_label l o) → o ≡ Some l
is_it l None h = absurd (cc)
is_it l (Some x) h = elim (eqb_tells x l) [ inl a ↦ ap (λ n. Some n) a.1 | inr a ↦ let f : false ≡ true = sym a.0 ∙ h in absurd (cc) ]

it_is : (l : ℕ) (o : Option ℕ) → o ≡ Some l → IsTrue (is_label l o)
it_is l o e = subst (λ (p : Option ℕ). IsTrue (is_label l p)) (sym e) (grind (arith, nat_tests))

both : (a b : Bool) → IsTrue a → IsTrue b → IsTrue (a && b)
both true b h k = k
both false b h k = absurd (cc)

first_of : (a b : Bool) → IsTrue (a && b) → IsTrue a
first_of true b h = refl
first_of false b h = absurd (cc)

second_of : (a b : Bool) → IsTrue (a && b) → IsTrue b
second_of true b h = h
second_of false b h = absurd (cc)

-- a number is left exactly where it is core and has the label
pub remains : (counts : Counted) (labels : Labels) (l a : ℕ) → IsMember (remaining counts labels l) a ↔ (IsTrue (core_in counts a) × (map.get labels a ≡ Some l))
remains counts labels l a =
    let test : ℕ → Bool = λ q. core_in counts q && is_label l (map.get labels q) in
    let numbers : List ℕ = list_map (λ e. e.0) (map.entries labels) in (
      (λ m.
          let t = (in_filter test numbers a m).1 in
          (first_of (core_in counts a) (is_label l (map.get labels a)) t, is_it l (map.get labels a) (second_of (core_in counts a) (is_label l (map.get labels a)) t))),
      (λ h.
          let there = from_member numbers a (found_in (map.entries labels) a l (sym (map.get-entries labels a) ∙ h.1)) in
          to_filter test numbers a there (both (core_in counts a) (is_label l (map.get labels a)) h.0 (it_is l (map.get labels a) h.1))),
    )

-- the two tests of membership, one after the other
pub has_core : (counts : Counted) (labels : Labels) (l a : ℕ) (xs : List ℕ) → xs ≡ remaining counts labels l → IsCore counts a → (b : Bool) → (IsTrue b ↔ (map.get labels a ≡ Some l)) → IsTrue b ↔ IsMember xs a
has_core counts labels l a xs is core b h = (
  (λ t. subst (λ (ys : List ℕ). IsMember ys a) (sym is) ((remains counts labels l a).1 ((core_in_is counts a).1 core, h.0 t))),
  (λ m. h.1 ((remains counts labels l a).0 (subst (λ (ys : List ℕ). IsMember ys a) is m)).1),
)

pub has_none : (counts : Counted) (labels : Labels) (l a : ℕ) (xs : List ℕ) → xs ≡ remaining counts labels l → (b : Bool) → (IsTrue b ↔ IsCore counts a) → b ≡ false → IsTrue b ↔ IsMember xs a
has_none counts labels l a xs is b h no_core = (
  (λ t. let bad : false ≡ true = sym no_core ∙ t in absurd (cc)),
  (λ m. h.1 ((core_in_is counts a).0 ((remains counts labels l a).0 (subst (λ (ys : List ℕ). IsMember ys a) is m)).0)),
)
