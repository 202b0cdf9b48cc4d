-- What holds of all elements of lists.
use Rattle.std.proofs.Common.{ℕ, zero, suc, ◌<◌, List, [], ◌∷◌, ◌++◌, length, map, get_or, arith}
use Rattle.std.specs.List.{AllByRecursion}
use Rattle.mtree_index.specs.Insertion.{replaced_at}
use Rattle.mtree_index.proofs.Places.{all_append}

module _ {A : Type 0} (P : A → Type 0) where
  -- the first of two lists that were joined, and the second
  pub all_front : (xs ys : List A) → AllByRecursion P (xs ++ ys) → AllByRecursion P xs
  all_front [] ys a = tt
  all_front (x ∷ xs) ys a = (a.0, all_front xs ys a.1)

  pub all_back : (xs ys : List A) → AllByRecursion P (xs ++ ys) → AllByRecursion P ys
  all_back [] ys a = a
  all_back (x ∷ xs) ys a = all_back xs ys a.1

  -- an element gives way to others
  pub all_replaced : (f : A → List A) (at : ℕ) (xs : List A) → AllByRecursion P xs
      → ((x : A) → P x → AllByRecursion P (f x)) → AllByRecursion P (replaced_at at f xs)
  all_replaced f at [] a k = tt
  all_replaced f zero (x ∷ xs) a k = all_append P (f x) xs (k x a.0) a.1
  all_replaced f (suc at) (x ∷ xs) a k = (a.0, all_replaced f at xs a.1 k)

module _ {A B : Type 0} (P : A → Type 0) (Q : B → Type 0) (f : A → B) where
  -- each element is moved
  pub all_map : (xs : List A) → ((x : A) → P x → Q (f x)) → AllByRecursion P xs
      → AllByRecursion Q (map f xs)
  all_map [] k a = tt
  all_map (x ∷ xs) k a = (k x a.0, all_map xs k a.1)

-- what holds of all holds of the one at a place
pub get_all : {A : Type 0} (P : A → Type 0) (xs : List A) (at : ℕ) (d : A) → AllByRecursion P xs
    → at < length xs → P (get_or xs at d)
get_all P [] at d a l = absurd (omega (arith, l))
get_all P (x ∷ xs) zero d a l = a.0
get_all P (x ∷ xs) (suc at) d a l = get_all P xs at d a.1 (omega (arith, l))
