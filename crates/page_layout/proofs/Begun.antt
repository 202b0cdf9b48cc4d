-- Lists in the making: the first items stand, and free ones behind them.
use Rattle.std.proofs.Common.{◌≡◌, ℕ, zero, suc, ◌+◌, ◌-◌, ◌<◌, ◌≤◌, List, [], ◌∷◌, ◌++◌, length, get_or, take, set, replicate, sym, ap, ◌∙◌, append_assoc, arith}
use Rattle.std.specs.List.{AllByRecursion}
use Rattle.std.proofs.lemmas.List.{length-append, length-replicate, length-take-le, take_more, get_or_at, set_at}

-- the first k of n items, and free ones behind them
abbrev pub begun : {A : Type 0} → A → ℕ → List A → ℕ → List A
begun free n items k = take k items ++ replicate (n - k) free

module _ {A : Type 0} (P : A → Type 0) where
  each-begun : (k : ℕ) (items : List A) → AllByRecursion P items → AllByRecursion P (take k items)
  each-begun zero items each = tt
  each-begun (suc k) [] each = tt
  each-begun (suc k) (item ∷ items) each = (each.0, each-begun k items each.1)

  each-free : (free : A) → P free → (n : ℕ) → AllByRecursion P (replicate n free)
  each-free free is zero = tt
  each-free free is (suc n) = (is, each-free free is n)

  each-append : (front back : List A) → AllByRecursion P front → AllByRecursion P back → AllByRecursion P (front ++ back)
  each-append [] back each more = more
  each-append (item ∷ front) back each more = (each.0, each-append front back each.1 more)

module _ {A : Type 0} (free : A) (n : ℕ) (items : List A) (count : length items ≡ n) (k : ℕ) where
  pub begun_count : k ≤ length items → length (begun free n items k) ≡ n
  begun_count le = omega (arith, length-append (take k items) (replicate (n - k) free), length-take-le k items le, length-replicate {A = A} (n - k) free, count)

  pub begun_each : (P : A → Type 0) → P free → AllByRecursion P items → AllByRecursion P (begun free n items k)
  begun_each P is each = each-append P (take k items) (replicate (n - k) free) (each-begun P k items each) (each-free P free is (n - k))

  module _ (lt : k < length items) where
    more_free : begun free n items k ≡ take k items ++ free ∷ replicate (n - (k + 1)) free
    more_free =
        let one : n - k ≡ suc (n - (k + 1)) = omega (arith, count, lt) in
        ap (λ (m : ℕ). take k items ++ replicate m free) one

    pub begun_free : get_or (begun free n items k) k free ≡ free
    begun_free = ap (λ (l : List A). get_or l k free) more_free ∙ get_or_at (take k items) free (replicate (n - (k + 1)) free) free k (length-take-le k items (omega (arith, lt)))

    pub begun_more : (item : A) → item ≡ get_or items k item → set (begun free n items k) k item ≡ begun free n items (k + 1)
    begun_more item is =
        let rest : List A = replicate (n - (k + 1)) free in
        ap (λ (l : List A). set l k item) more_free ∙ set_at (take k items) free rest item k (length-take-le k items (omega (arith, lt)))
        ∙ sym (append_assoc (take k items) (item ∷ []) rest) ∙ ap (λ (i : A). take k items ++ i ∷ [] ++ rest) is ∙ ap (λ (l : List A). l ++ rest) (sym (take_more items k item lt))
