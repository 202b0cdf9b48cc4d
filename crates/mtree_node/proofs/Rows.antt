-- Rows that are walked one after the other, by a loop that keeps what was built so far.
use Rattle.std.proofs.Common.{◌≡◌, ℕ, zero, suc, ◌+◌, ◌<◌, ◌≤◌, List, [], ◌∷◌, ◌++◌, length, drop, get_or, refl, sym, ap, subst, ◌∙◌, append_assoc, append-nil, drop-cons, add-one, arith}
use Rattle.std.specs.Prelude.{Result, Err}
use Rattle.std.specs.Result.{IsErrAnd}
use Rattle.mtree_node.specs.Walk.{Standing, Walked, Fails, Builds, go_on, walk_all}
use Rattle.mtree_node.specs.declared.shape.BadPlace.{BadPlace}

-- the walk of the rows that are left, behind what was built so far
abbrev pub behind : {E : Type 0} → List E → Walked (List E) → Walked (List E)
behind acc w = go_on w (λ es t. Builds (acc ++ es) t)

module _ {E : Type 0} where
  pub behind_none : (w : Walked (List E)) → w ≡ behind [] w
  behind_none (Fails p) = refl
  behind_none (Builds es t) = refl

  moved : (acc : List E) (e : E) (w : Walked (List E)) → behind acc (go_on w (λ es u. Builds (e ∷ es) u)) ≡ behind (acc ++ e ∷ []) w
  moved acc e (Fails p) = refl
  moved acc e (Builds es t) = ap (λ (xs : List E). Builds xs t) (sym (append_assoc acc (e ∷ []) es))

module _ {R E : Type 0} (f : ℕ → R → Standing → Walked E) (i : ℕ) (r : R) (rs : List R) (s : Standing) where
  -- a row that was built
  pub row_built : (acc : List E) (e : E) (t : Standing) → f i r s ≡ Builds e t → behind acc (walk_all f i (r ∷ rs) s) ≡ behind (acc ++ e ∷ []) (walk_all f (suc i) rs t)
  row_built acc e t is = rw is (moved acc e (walk_all f (suc i) rs t))

  -- a row that fails
  pub row_fails : (acc : List E) (p : BadPlace) → f i r s ≡ Fails p → behind acc (walk_all f i (r ∷ rs) s) ≡ Fails p
  row_fails acc p is = rw is refl

-- the rows from a place on begin with the one there
pub next_row : {A : Type 0} (xs : List A) (i : ℕ) (x : A) → i < length xs → x ≡ get_or xs i x → drop i xs ≡ x ∷ drop (suc i) xs
next_row [] i x few is = absurd (omega (arith, few))
next_row (y ∷ ys) zero x few is = ap (λ (z : _). z ∷ ys) (sym is)
next_row (y ∷ ys) (suc i) x few is = next_row ys i x (omega (arith, few)) is

-- none are left past the last
pub no_rows : {A : Type 0} (xs : List A) (i : ℕ) → length xs ≤ i → drop i xs ≡ []
no_rows [] zero past = refl
no_rows [] (suc i) past = refl
no_rows (x ∷ xs) zero past = absurd (omega (arith, past))
no_rows (x ∷ xs) (suc i) past = no_rows xs i (omega (arith, past))

module _ {R E : Type 0} (f : ℕ → R → Standing → Walked E) (rows : List R) (i : ℕ) (acc : List E) (w : Walked (List E)) (s : Standing) (far : w ≡ behind acc (walk_all f i (drop i rows) s)) where
  -- a turn of the loop that builds an entry
  pub loop_builds : (d : R) (new : List E) (e : E) (t : Standing) → i < length rows → f i (get_or rows i d) s ≡ Builds e t → new ≡ acc ++ e ∷ [] → w ≡ behind new (walk_all f (i + 1) (drop (i + 1) rows) t)
  loop_builds d new e t few is pushed =
      far ∙ (ap (λ (rs : List R). behind acc (walk_all f i rs s)) (drop-cons rows i d few)
      ∙ (row_built f i (get_or rows i d) (drop (suc i) rows) s acc e t is
      ∙ (ap (λ (es : List E). behind es (walk_all f (suc i) (drop (suc i) rows) t)) (sym pushed) ∙ ap (λ (k : ℕ). behind new (walk_all f k (drop k rows) t)) (sym (add-one i)))))

  -- a turn that fails
  pub loop_fails : (d : R) (p : BadPlace) → i < length rows → f i (get_or rows i d) s ≡ Fails p → w ≡ Fails p
  loop_fails d p few is =
      far ∙ (ap (λ (rs : List R). behind acc (walk_all f i rs s)) (drop-cons rows i d few) ∙ row_fails f i (get_or rows i d) (drop (suc i) rows) s acc p is)

  -- the end of the loop
  pub loop_ends : length rows ≤ i → w ≡ Builds acc s
  loop_ends past = far ∙ (ap (λ (rs : List R). behind acc (walk_all f i rs s)) (no_rows rows i past) ∙ ap (λ (es : List E). Builds es s) (append-nil acc))

-- what is said of an error
pub error_is : {A E : Type 0} (P : E → Type 0) (r : Result A E) (y : E) → IsErrAnd r P → r ≡ Err y → P y
error_is P r y f is = subst (λ (x : Result _ _). IsErrAnd x P) is f
