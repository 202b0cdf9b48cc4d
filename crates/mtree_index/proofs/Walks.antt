-- Loops over the places of a list.
use Rattle.std.proofs.Common.{◌≡◌, ℕ, zero, suc, ◌+◌, ◌<◌, ◌≤◌, Bool, true, false, List, [], ◌∷◌, ◌++◌, length, get_or, take, drop, map, slice_set, remove, sum_by, Option, Some, None, refl, sym, ap, ◌∙◌, arith}
use Rattle.std.specs.Option.{option_map}
use Rattle.std.specs.List.{slice_get, AllByRecursion}
use Rattle.std.proofs.lemmas.List.Sums.{sum_by-cons}
use Rattle.mtree_index.specs.Removal.{without_first, changed_here, first_changed, joined_at}
use Rattle.mtree_index.specs.Insertion.{replaced_at}

module _ {A : Type 0} where
  -- the list from a place on
  pub here : (xs : List A) (i : ℕ) (x : A) → slice_get xs i ≡ Some x → drop i xs ≡ x ∷ drop (suc i) xs
  here [] zero x g = cc
  here [] (suc i) x g = cc
  here (y ∷ ys) zero x g = let same : y ≡ x = cc in rw same refl
  here (y ∷ ys) (suc i) x g = here ys i x g

  pub sum_here : (F : A → ℕ) (xs : List A) (i : ℕ) (x : A) → slice_get xs i ≡ Some x → sum_by F (drop i xs) ≡ F x + sum_by F (drop (suc i) xs)
  sum_here F xs i x g = ap (sum_by F) (here xs i x g) ∙ sum_by-cons F x (drop (suc i) xs)

  pub set_same : (xs : List A) (i : ℕ) (x : A) → slice_get xs i ≡ Some x → slice_set xs i x ≡ xs
  set_same [] zero x g = refl
  set_same [] (suc i) x g = refl
  set_same (z ∷ zs) zero x g = let same : z ≡ x = cc in rw same refl
  set_same (z ∷ zs) (suc i) x g = ap (λ ys. z ∷ ys) (set_same zs i x g)

  pub there : (xs : List A) (i : ℕ) (x : A) → slice_get xs i ≡ Some x → i < length xs
  there [] zero x g = cc
  there [] (suc i) x g = cc
  there (y ∷ ys) zero x g = omega arith
  there (y ∷ ys) (suc i) x g = omega (arith, there ys i x g)

  -- the element at an index, as a list gives it
  pub got : (xs : List A) (i : ℕ) (x : A) → i < length xs → x ≡ get_or xs i x → slice_get xs i ≡ Some x
  got [] i x l e = absurd (omega (arith, l))
  got (y ∷ ys) zero x l e = ap Some (sym e)
  got (y ∷ ys) (suc i) x l e = got ys i x (omega (arith, l)) e

  -- an element before one that is taken out
  pub get_before : (xs : List A) (j i : ℕ) → i < j → slice_get (remove xs j) i ≡ slice_get xs i
  get_before [] zero i l = refl
  get_before [] (suc j) i l = refl
  get_before (y ∷ ys) zero i l = absurd (omega (arith, l))
  get_before (y ∷ ys) (suc j) zero l = refl
  get_before (y ∷ ys) (suc j) (suc i) l = get_before ys j i (omega (arith, l))

  -- what is put in place of two neighbours
  pub joined_there : (f : A → A → List A) (xs : List A) (at : ℕ) (l r now : A) (new : List A) → slice_get xs at ≡ Some l → slice_get xs (suc at) ≡ Some r → new ≡ f l r → replaced_at at (λ _. new) (slice_set (remove xs (suc at)) at now) ≡ joined_at at f xs
  joined_there f [] at l r now new a b is = refl
  joined_there f (x ∷ []) zero l r now new a b is = cc
  joined_there f (x ∷ []) (suc at) l r now new a b is = cc
  joined_there f (x ∷ y ∷ ys) zero l r now new a b is =
      let left : x ≡ l = cc in let right : y ≡ r = cc in
      ap (λ zs. zs ++ ys) (is ∙ (ap (λ z. f z r) (sym left) ∙ ap (f x) (sym right)))
  joined_there f (x ∷ y ∷ ys) (suc at) l r now new a b is = ap (λ zs. x ∷ zs) (joined_there f (y ∷ ys) at l r now new a b is)

  -- the elements before a place are changed
  abbrev pub moved : ℕ → (A → A) → List A → List A
  moved zero f xs = xs
  moved (suc i) f [] = []
  moved (suc i) f (x ∷ xs) = f x ∷ moved i f xs

  pub moved_length : (i : ℕ) (f : A → A) (xs : List A) → length (moved i f xs) ≡ length xs
  moved_length zero f xs = refl
  moved_length (suc i) f [] = refl
  moved_length (suc i) f (x ∷ xs) = omega (arith, moved_length i f xs)

  pub moved_get : (i : ℕ) (f : A → A) (xs : List A) (e : A) → slice_get (moved i f xs) i ≡ Some e → slice_get xs i ≡ Some e
  moved_get zero f xs e g = g
  moved_get (suc i) f [] e g = cc
  moved_get (suc i) f (x ∷ xs) e g = moved_get i f xs e g

  pub moved_set : (i : ℕ) (f : A → A) (xs : List A) (e : A) → slice_get xs i ≡ Some e → slice_set (moved i f xs) i (f e) ≡ moved (suc i) f xs
  moved_set zero f [] e g = cc
  moved_set zero f (x ∷ xs) e g = let same : x ≡ e = cc in ap (λ y. f y ∷ xs) (sym same)
  moved_set (suc i) f [] e g = cc
  moved_set (suc i) f (x ∷ xs) e g = ap (λ ys. f x ∷ ys) (moved_set i f xs e g)

  pub moved_all : (i : ℕ) (f : A → A) (xs : List A) → length xs ≤ i → moved i f xs ≡ map f xs
  moved_all zero f [] l = refl
  moved_all zero f (x ∷ xs) l = absurd (omega (arith, l))
  moved_all (suc i) f [] l = refl
  moved_all (suc i) f (x ∷ xs) l = ap (λ ys. f x ∷ ys) (moved_all i f xs (omega (arith, l)))

  module _ (f : A → Option A) where
    -- nothing changes before a place
    abbrev pub AreNone : ℕ → List A → Type 0
    AreNone i xs = AllByRecursion (λ e. f e ≡ None) (take i xs)

    pub none_more : (xs : List A) (i : ℕ) (e : A) → slice_get xs i ≡ Some e → f e ≡ None → AreNone i xs → AreNone (suc i) xs
    none_more [] i e g n a = cc
    none_more (x ∷ xs) zero e g n a = let same : x ≡ e = cc in (ap f same ∙ n, tt)
    none_more (x ∷ xs) (suc i) e g n a = (a.0, none_more xs i e g n a.1)

    pub changed_there : (xs : List A) (i : ℕ) (e x : A) → slice_get xs i ≡ Some e → f e ≡ Some x → AreNone i xs → first_changed f xs ≡ Some (i, slice_set xs i x)
    changed_there [] i e x g y a = cc
    changed_there (z ∷ zs) zero e x g y a = let same : z ≡ e = cc in rw (ap f same ∙ y) refl
    changed_there (z ∷ zs) (suc i) e x g y a = rw a.0 (ap (option_map (λ p. (suc p.0, z ∷ p.1))) (changed_there zs i e x g y a.1))

    pub changed_none : (xs : List A) (i : ℕ) → length xs ≤ i → AreNone i xs → first_changed f xs ≡ None
    changed_none [] i l a = refl
    changed_none (x ∷ xs) zero l a = absurd (omega (arith, l))
    changed_none (x ∷ xs) (suc i) l a = rw a.0 (ap (option_map (λ p. (suc p.0, x ∷ p.1))) (changed_none xs i (omega (arith, l)) a.1))

    map_none : {B C : Type 0} (g : B → C) (o : Option B) → option_map g o ≡ None → o ≡ None
    map_none g None e = refl
    map_none g (Some x) e = cc

    head_none : (o : Option A) (x : A) (xs : List A) (later : Option (ℕ × List A)) → changed_here o x xs later ≡ None → (o ≡ None) × (later ≡ None)
    head_none None x xs later n = (refl, map_none (λ (p : ℕ × List A). (suc p.0, x ∷ p.1)) later n)
    head_none (Some y) x xs later n = cc

    -- where nothing changes, no element does
    pub none_there : (xs : List A) (i : ℕ) (e : A) → slice_get xs i ≡ Some e → first_changed f xs ≡ None → f e ≡ None
    none_there [] i e g n = cc
    none_there (x ∷ xs) zero e g n = let same : x ≡ e = cc in ap f (sym same) ∙ (head_none (f x) x xs (first_changed f xs) n).0
    none_there (x ∷ xs) (suc i) e g n = none_there xs i e g (head_none (f x) x xs (first_changed f xs) n).1

  module _ (test : A → Bool) where
    -- no element before a place passes
    abbrev pub FailAll : ℕ → List A → Type 0
    FailAll i xs = AllByRecursion (λ e. test e ≡ false) (take i xs)

    pub fail_more : (xs : List A) (i : ℕ) (e : A) → slice_get xs i ≡ Some e → test e ≡ false → FailAll i xs → FailAll (suc i) xs
    fail_more [] i e g n a = cc
    fail_more (x ∷ xs) zero e g n a = let same : x ≡ e = cc in (ap test same ∙ n, tt)
    fail_more (x ∷ xs) (suc i) e g n a = (a.0, fail_more xs i e g n a.1)

    pub without_there : (xs : List A) (i : ℕ) (e : A) → slice_get xs i ≡ Some e → test e ≡ true → FailAll i xs → without_first test xs ≡ Some (remove xs i)
    without_there [] i e g y a = cc
    without_there (z ∷ zs) zero e g y a = let same : z ≡ e = cc in rw (ap test same ∙ y) refl
    without_there (z ∷ zs) (suc i) e g y a = rw a.0 (ap (option_map (λ xs. z ∷ xs)) (without_there zs i e g y a.1))

    pub without_none : (xs : List A) (i : ℕ) → length xs ≤ i → FailAll i xs → without_first test xs ≡ None
    without_none [] i l a = refl
    without_none (x ∷ xs) zero l a = absurd (omega (arith, l))
    without_none (x ∷ xs) (suc i) l a = rw a.0 (ap (option_map (λ ys. x ∷ ys)) (without_none xs i (omega (arith, l)) a.1))
