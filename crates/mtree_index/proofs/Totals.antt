-- Sums over leaf entries, of numbers that don't look at parent distances.
use Rattle.std.proofs.Common.{◌≡◌, ℕ, ◌+◌, ◌≤◌, List, [], ◌∷◌, ◌++◌, sum_by, if◌then◌else◌, refl, arith, inl, inr}
use Rattle.std.specs.List.{AllByRecursion, flat_map}
use Rattle.std.specs.Prelude.{nat_le}
use Rattle.std.proofs.lemmas.Bool.Decides.{leb_tells}
use Rattle.std.proofs.lemmas.List.Sums.{sum_by-cons, sum_by-append}
use Rattle.mtree_node.specs.declared.node.LeafEntry.{LeafEntry}

-- the sum of a number of each record
abbrev pub total : (ℕ → List ℕ → ℕ) → List LeafEntry → ℕ
total f es = sum_by (λ (e : LeafEntry). f e.number e.vector) es

pub total-cons : (f : ℕ → List ℕ → ℕ) (e : LeafEntry) (es : List LeafEntry) → total f (e ∷ es) ≡ f e.number e.vector + total f es
total-cons f e es = sum_by-cons (λ (x : LeafEntry). f x.number x.vector) e es

pub total-append : (f : ℕ → List ℕ → ℕ) (xs ys : List LeafEntry) → total f (xs ++ ys) ≡ total f xs + total f ys
total-append f xs ys = sum_by-append (λ (e : LeafEntry). f e.number e.vector) xs ys

pub total-flat_map : {A : Type 0} (f : ℕ → List ℕ → ℕ) (under : A → List LeafEntry) (es : List A) → total f (flat_map under es) ≡ sum_by (λ e. total f (under e)) es
total-flat_map f under [] = refl
total-flat_map f under (e ∷ es) = omega (arith, total-append f (under e) (flat_map under es), total-flat_map f under es, sum_by-cons (λ x. total f (under x)) e es)

pub total-one_each : (f : ℕ → List ℕ → ℕ) (es : List LeafEntry) → sum_by (λ (e : LeafEntry). total f (e ∷ [])) es ≡ total f es
total-one_each f [] = refl
total-one_each f (e ∷ es) = omega (arith, total-one_each f es, total-cons f e es, total-cons f e [], sum_by-cons (λ (x : LeafEntry). total f (x ∷ [])) e es)

module _ (dist : List ℕ → List ℕ → ℕ) (object : List ℕ) (radius : ℕ) where
  -- 1 for a vector that is farther from an object than a radius, 0 otherwise
  abbrev pub far : ℕ → List ℕ → ℕ
  far number v = if nat_le (dist object v) radius then 0 else 1

  far_none : (number : ℕ) (v : List ℕ) → dist object v ≤ radius → far number v ≡ 0
  far_none number v l = elim (leb_tells (dist object v) radius) [ inl t ↦ rw t.0 refl | inr f ↦ absurd (omega (arith, f.1, l)) ]

  far_within : (number : ℕ) (v : List ℕ) → far number v ≡ 0 → dist object v ≤ radius
  far_within number v e = elim (leb_tells (dist object v) radius) [ inl t ↦ t.1 | inr f ↦ absurd (let h : 1 ≡ 0 = rw f.0 at e in omega (arith, h)) ]

  -- no vector of a list is too far, said by a sum
  pub none_far : (es : List LeafEntry) → AllByRecursion (λ e. dist object e.vector ≤ radius) es → total far es ≡ 0
  none_far [] p = refl
  none_far (e ∷ es) p = omega (arith, far_none e.number e.vector p.0, none_far es p.1, total-cons far e es)

  pub all_within : (es : List LeafEntry) → total far es ≡ 0 → AllByRecursion (λ e. dist object e.vector ≤ radius) es
  all_within [] p = tt
  all_within (e ∷ es) p = (far_within e.number e.vector (omega (arith, p, total-cons far e es)), all_within es (omega (arith, p, total-cons far e es)))
