-- Elements of a list in place of one.
use Rattle.std.proofs.Common.{◌≡◌, ℕ, zero, suc, ◌+◌, ◌<◌, ◌≤◌, List, [], ◌∷◌, ◌++◌, length, map, slice_index, slice_set, insert, Some, refl, sym, ap, subst, ◌∙◌, arith, length-append}
use Rattle.std.specs.List.{slice_get, AllByRecursion}
use Rattle.mtree_index.specs.Insertion.{replaced_at}
pub use Rattle.mtree_node.proofs.Sizes.{all_weaker}

module _ {A : Type 0} where
  -- one element stays
  pub replaced_by_itself : (xs : List A) (at : ℕ) (x : A) → slice_get xs at ≡ Some x → replaced_at at (λ _. x ∷ []) xs ≡ xs
  replaced_by_itself [] at x g = refl
  replaced_by_itself (y ∷ ys) zero x g = let same : y ≡ x = cc in ap (λ z. z ∷ ys) (sym same)
  replaced_by_itself (y ∷ ys) (suc at) x g = ap (λ zs. y ∷ zs) (replaced_by_itself ys at x g)

  -- two elements in place of one
  pub replaced_by_two : (xs : List A) (at : ℕ) (x y : A) → at < length xs → insert (slice_set xs at x) (suc at) y ≡ replaced_at at (λ _. x ∷ y ∷ []) xs
  replaced_by_two [] at x y l = absurd (omega (arith, l))
  replaced_by_two (z ∷ zs) zero x y l = refl
  replaced_by_two (z ∷ zs) (suc at) x y l = ap (λ ws. z ∷ ws) (replaced_by_two zs at x y (omega (arith, l)))

  -- what is put in place of an element that was changed first
  pub replaced_there : (f : A → List A) (xs : List A) (at : ℕ) (e now : A) (new : List A) → slice_get xs at ≡ Some e → new ≡ f e → replaced_at at (λ _. new) (slice_set xs at now) ≡ replaced_at at f xs
  replaced_there f [] at e now new g is = refl
  replaced_there f (y ∷ ys) zero e now new g is = let same : y ≡ e = cc in ap (λ zs. zs ++ ys) (is ∙ ap f (sym same))
  replaced_there f (y ∷ ys) (suc at) e now new g is = ap (λ zs. y ∷ zs) (replaced_there f ys at e now new g is)

  pub get_set : (xs : List A) (at : ℕ) (e now : A) → slice_get xs at ≡ Some e → slice_get (slice_set xs at now) at ≡ Some now
  get_set [] at e now g = cc
  get_set (y ∷ ys) zero e now g = refl
  get_set (y ∷ ys) (suc at) e now g = get_set ys at e now g

module _ {A : Type 0} (P : A → Type 0) where
  pub all_append : (xs ys : List A) → AllByRecursion P xs → AllByRecursion P ys → AllByRecursion P (xs ++ ys)
  all_append [] ys p q = q
  all_append (x ∷ xs) ys p q = (p.0, all_append xs ys p.1 q)

  pub all_replaced : (f : A → List A) (xs : List A) (at : ℕ) → AllByRecursion P xs → ((x : A) → slice_get xs at ≡ Some x → AllByRecursion P (f x)) → AllByRecursion P (replaced_at at f xs)
  all_replaced f [] at p k = tt
  all_replaced f (x ∷ xs) zero p k = all_append (f x) xs (k x refl) p.1
  all_replaced f (x ∷ xs) (suc at) p k = (p.0, all_replaced f xs at p.1 k)

  pub all_set : (xs : List A) (at : ℕ) (x : A) → AllByRecursion P xs → P x → AllByRecursion P (slice_set xs at x)
  all_set [] at x p q = tt
  all_set (y ∷ ys) zero x p q = (q, p.1)
  all_set (y ∷ ys) (suc at) x p q = (p.0, all_set ys at x p.1 q)

  pub all_get : (xs : List A) (at : ℕ) (x : A) → AllByRecursion P xs → slice_get xs at ≡ Some x → P x
  all_get [] at x p g = cc
  all_get (y ∷ ys) zero x p g = let same : y ≡ x = cc in subst P same p.0
  all_get (y ∷ ys) (suc at) x p g = all_get ys at x p.1 g

pub length_replaced : {A : Type 0} (f : A → List A) (xs : List A) (at most : ℕ) → ((x : A) → length (f x) ≤ most) → 1 ≤ most → length (replaced_at at f xs) + 1 ≤ length xs + most
length_replaced f [] at most few some = omega (arith, some)
length_replaced f (x ∷ xs) zero most few some = omega (arith, few x, length-append (f x) xs)
length_replaced f (x ∷ xs) (suc at) most few some = omega (arith, length_replaced f xs at most few some)

pub length-set_at : {A : Type 0} (xs : List A) (at : ℕ) (x : A) → length (slice_set xs at x) ≡ length xs
length-set_at [] at x = refl
length-set_at (y ∷ ys) zero x = refl
length-set_at (y ∷ ys) (suc at) x = omega (arith, length-set_at ys at x)

pub get_index : {A : Type 0} (f : A → ℕ) (xs : List A) (at : ℕ) (x : A) → slice_get xs at ≡ Some x → slice_index (map f xs) at ≡ f x
get_index f [] at x g = cc
get_index f (y ∷ ys) zero x g = let same : y ≡ x = cc in ap f same
get_index f (y ∷ ys) (suc at) x g = get_index f ys at x g
