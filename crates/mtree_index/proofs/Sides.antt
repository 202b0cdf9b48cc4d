-- The entries of a side, one entry at a time.
use Rattle.std.proofs.Common.{◌≡◌, ℕ, zero, suc, ◌+◌, ◌<◌, Bool, true, false, List, [], ◌∷◌, ◌++◌, length, drop, get_or, refl, sym, ap, ◌∙◌, arith, drop-cons, append_assoc, append-nil}
use Rattle.mtree_split.specs.Sides.{is_on}
use Rattle.mtree_index.specs.Split.{on_side, with_parents}

-- a list that has an element from a place on is longer
pub more_there : {A : Type 0} (xs : List A) (k : ℕ) (x : A) (ys : List A) → x ∷ ys ≡ drop k xs → (k < length xs) × (ys ≡ drop (suc k) xs)
more_there [] zero x ys e = cc
more_there [] (suc k) x ys e = cc
more_there (z ∷ xs) zero x ys e = (omega arith, cc)
more_there (z ∷ xs) (suc k) x ys e = let h = more_there xs k x ys e in (omega (arith, h.0), h.1)

module _ {A : Type 0} (set : ℕ → A → A) (side : Bool) where
  pub none_left : (sides : List Bool) (ds : List ℕ) → on_side side sides (with_parents set ds []) ≡ []
  none_left [] ds = refl
  none_left (b ∷ sides) [] = refl
  none_left (b ∷ sides) (d ∷ ds) = refl

  module _ (sides : List Bool) (ds : List ℕ) (k : ℕ) (inside : k < length sides) (far : k < length ds) (e : A) (rest : List A) where
    here : on_side side (drop k sides) (with_parents set (drop k ds) (e ∷ rest))
        ≡ on_side side (get_or sides k false ∷ drop (suc k) sides) (set (get_or ds k 0) e ∷ with_parents set (drop (suc k) ds) rest)
    here = rw (drop-cons sides k false inside, drop-cons ds k 0 far) refl

    pub takes : is_on side (get_or sides k false) ≡ true
        → on_side side (drop k sides) (with_parents set (drop k ds) (e ∷ rest)) ≡ set (get_or ds k 0) e ∷ on_side side (drop (suc k) sides) (with_parents set (drop (suc k) ds) rest)
    takes on = here ∙ rw on refl

    pub passes : is_on side (get_or sides k false) ≡ false
        → on_side side (drop k sides) (with_parents set (drop k ds) (e ∷ rest)) ≡ on_side side (drop (suc k) sides) (with_parents set (drop (suc k) ds) rest)
    passes on = here ∙ rw on refl

    -- a loop that takes the entry, or passes over it
    pub taken : (done now whole old : List A) (n : ℕ) → is_on side (get_or sides k false) ≡ true → old ≡ e ∷ rest → n ≡ k + 1 → now ≡ done ++ set (get_or ds k 0) e ∷ []
        → done ++ on_side side (drop k sides) (with_parents set (drop k ds) old) ≡ whole
        → now ++ on_side side (drop n sides) (with_parents set (drop n ds) rest) ≡ whole
    taken done now whole old n on is next added before =
        let more : n ≡ suc k = omega (arith, next) in
        rw (added, more) (append_assoc done (set (get_or ds k 0) e ∷ []) _ ∙ (ap (λ (xs : List A). done ++ xs) (sym (takes on)) ∙ (ap (λ (xs : List A). done ++ on_side side (drop k sides) (with_parents set (drop k ds) xs)) (sym is) ∙ before)))

    pub passed : (done whole old : List A) (n : ℕ) → is_on side (get_or sides k false) ≡ false → old ≡ e ∷ rest → n ≡ k + 1
        → done ++ on_side side (drop k sides) (with_parents set (drop k ds) old) ≡ whole
        → done ++ on_side side (drop n sides) (with_parents set (drop n ds) rest) ≡ whole
    passed done whole old n on is next before =
        let more : n ≡ suc k = omega (arith, next) in
        rw more (ap (λ (xs : List A). done ++ xs) (sym (passes on)) ∙ (ap (λ (xs : List A). done ++ on_side side (drop k sides) (with_parents set (drop k ds) xs)) (sym is) ∙ before))

  -- a loop that has come to the end
  pub ended : (sides : List Bool) (ds : List ℕ) (done whole old : List A) → old ≡ [] → done ++ on_side side sides (with_parents set ds old) ≡ whole → done ≡ whole
  ended sides ds done whole old none before = sym (append-nil done) ∙ (ap (λ (xs : List A). done ++ xs) (sym (ap (λ (xs : List A). on_side side sides (with_parents set ds xs)) none ∙ none_left sides ds)) ∙ before)

pub no_more : {A : Type 0} (xs : List A) → length xs ≡ 0 → xs ≡ []
no_more [] e = refl
no_more (x ∷ xs) e = absurd (omega (arith, e))
