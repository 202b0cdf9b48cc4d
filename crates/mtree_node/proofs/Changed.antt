-- A list that is changed in place from the front: the elements from a place on are as they were.
use Rattle.std.proofs.Common.{◌≡◌, ℕ, zero, suc, ◌+◌, ◌<◌, List, [], ◌∷◌, ◌++◌, length, take, drop, slice_set, Some, sym, ap, ◌∙◌, arith}
use Rattle.std.specs.List.{slice_get}
use Rattle.std.proofs.lemmas.List.{drop-set-lt, take_more_set}
use Rattle.std.proofs.lemmas.Grind.{drop_more_same}

module _ {A : Type 0} where
  here : (xs : List A) (i : ℕ) (x : A) → slice_get xs i ≡ Some x → drop i xs ≡ x ∷ drop (suc i) xs
  here [] zero x g = cc
  here [] (suc i) x g = cc
  here (y ∷ ys) zero x g = let same : y ≡ x = cc in ap (λ z. z ∷ ys) same
  here (y ∷ ys) (suc i) x g = here ys i x g

  there : (xs : List A) (i : ℕ) (x : A) → slice_get xs i ≡ Some x → i < length xs
  there [] zero x g = cc
  there [] (suc i) x g = cc
  there (y ∷ ys) zero x g = omega arith
  there (y ∷ ys) (suc i) x g = omega (arith, there ys i x g)

  module _ (now old : List A) (i : ℕ) (e : A) (same : drop i now ≡ drop i old) (get : slice_get now i ≡ Some e) where
    pub next_is : drop i old ≡ e ∷ drop (i + 1) old
    next_is =
        let one : suc i ≡ i + 1 = omega arith in
        sym same ∙ here now i e get ∙ ap (λ (k : ℕ). e ∷ drop k now) one ∙ ap (λ xs. e ∷ xs) (drop_more_same now old i same)

    pub rest_is : (new : A) → drop (i + 1) (slice_set now i new) ≡ drop (i + 1) old
    rest_is new = drop-set-lt (i + 1) now i new (omega arith) ∙ drop_more_same now old i same

    pub front_is : (new : A) → take (i + 1) (slice_set now i new) ≡ take i now ++ new ∷ []
    front_is new = take_more_set now i new (there now i e get)
