-- Marks in a list beside numbers.
use Rattle.std.proofs.Common.{◌≡◌, inl, inr, ℕ, suc, ◌+◌, ◌<◌, ◌≤◌, Bool, true, false, cond, not, ◌||◌, List, [], ◌∷◌, ◌++◌, length, drop, set, get_or, refl, sym, ◌∙◌, ap, arith, append_assoc}
use Rattle.std.specs.Prelude.{◌==◌}
use Rattle.std.proofs.lemmas.Bool.{cases_eq, eq-eqb}
use Rattle.std.proofs.lemmas.List.{drop_more, get_or-set_same, get_or-set_other, drop_all, append-nil}
use Rattle.node_places.specs.Slots.{has, absent}
use Rattle.node_places.specs.Rising.{IsRising}
use Rattle.node_places.specs.inside.Marks.{unmarked}
use Rattle.node_places.proofs.Keys.{other_at}

pub or_true : (b : Bool) → (b || true) ≡ true
or_true true = refl
or_true false = refl

pub or_false : (b : Bool) → (b || false) ≡ b
or_false true = refl
or_false false = refl

-- one number more is marked
pub marked_at : (xs : List ℕ) (marks : List Bool) (x i : ℕ) → IsRising xs → length marks ≡ length xs
    → (i < length xs) × (get_or xs i 0 ≡ x)
    → (k : ℕ) → k < length xs
    → get_or (set marks i true) k false ≡ (get_or marks k false || (x == get_or xs k 0))
marked_at xs marks x i rising long at k lt = elim (cases_eq k i) [
  | inl same ↦
      let here : (x == get_or xs k 0) ≡ true = eq-eqb x (get_or xs k 0) (sym at.1 ∙ ap (λ (j : ℕ). get_or xs j 0) (sym same)) in
      ap (λ (j : ℕ). get_or (set marks i true) j false) same
      ∙ get_or-set_same marks i true false (omega (arith, at.0, long))
      ∙ sym (ap (λ (b : Bool). get_or marks k false || b) here ∙ or_true (get_or marks k false))
  | inr differ ↦
      let away : (x == get_or xs k 0) ≡ false = ap (λ (n : ℕ). n == get_or xs k 0) (sym at.1)
      ∙ other_at xs i k rising at.0 lt (λ is. differ (sym is)) in
      get_or-set_other marks i k true false differ
      ∙ sym (ap (λ (b : Bool). get_or marks k false || b) away ∙ or_false (get_or marks k false))
]

-- one number on the way
module _ (marks : List Bool) (ns : List ℕ) (k : ℕ) where
  abbrev rest : List ℕ
  rest = unmarked (drop (k + 1) marks) (drop (k + 1) ns)

  one : k < length ns → length marks ≡ length ns
      → unmarked (drop k marks) (drop k ns) ≡ cond (get_or marks k false) rest (get_or ns k 0 ∷ rest)
  one lt long =
      ap (λ (l : List Bool). unmarked l (drop k ns)) (drop_more marks k false (omega (arith, lt, long)))
      ∙ ap (unmarked (get_or marks k false ∷ drop (k + 1) marks)) (drop_more ns k 0 lt)

  pub mark_on : (before all : List ℕ) → k < length ns → length marks ≡ length ns
      → get_or marks k false ≡ true → before ++ unmarked (drop k marks) (drop k ns) ≡ all
      → before ++ rest ≡ all
  mark_on before all lt long is whole =
      ap (λ (l : List ℕ). before ++ l) (sym (one lt long ∙ ap (λ (b : Bool). cond b rest (get_or ns k 0 ∷ rest)) is))
      ∙ whole

  pub mark_off : (before after all : List ℕ) → k < length ns → length marks ≡ length ns
      → get_or marks k false ≡ false → after ≡ before ++ get_or ns k 0 ∷ []
      → before ++ unmarked (drop k marks) (drop k ns) ≡ all → after ++ rest ≡ all
  mark_off before after all lt long is pushed whole =
      ap (λ (l : List ℕ). l ++ rest) pushed
      ∙ append_assoc before (get_or ns k 0 ∷ []) rest
      ∙ ap (λ (l : List ℕ). before ++ l) (sym (one lt long ∙ ap (λ (b : Bool). cond b rest (get_or ns k 0 ∷ rest)) is))
      ∙ whole

pub unmarked_end : (marks : List Bool) (ns before all : List ℕ) (k : ℕ) → length ns ≤ k
    → length marks ≡ length ns → before ++ unmarked (drop k marks) (drop k ns) ≡ all → before ≡ all
unmarked_end marks ns before all k past long whole =
    sym (ap (λ (l : List Bool). before ++ unmarked l (drop k ns)) (drop_all k marks (omega (arith, past, long))) ∙ append-nil before)
    ∙ whole

-- the marks of those that stand in the slots
pub unmarked_is : (slots ns : List ℕ) (marks : List Bool) → length marks ≡ length ns
    → ((k : ℕ) → k < length ns → get_or marks k false ≡ has slots (get_or ns k 0))
    → unmarked marks ns ≡ absent slots ns
unmarked_is slots [] [] long same = refl
unmarked_is slots [] (m ∷ marks) long same = refl
unmarked_is slots (n ∷ ns) [] long same = absurd (omega (arith, long))
unmarked_is slots (n ∷ ns) (m ∷ marks) long same =
    let rest : unmarked marks ns ≡ absent slots ns = unmarked_is slots ns marks (omega (arith, long)) (λ k lt. same (suc k) (omega (arith, lt))) in
    ap (λ (b : Bool). cond b (unmarked marks ns) (n ∷ unmarked marks ns)) (same 0 (omega arith))
    ∙ turned (has slots n) (unmarked marks ns) (n ∷ unmarked marks ns)
    ∙ ap (λ (l : List ℕ). cond (not (has slots n)) (n ∷ l) l) rest
  where
    turned : (b : Bool) (x y : List ℕ) → cond b x y ≡ cond (not b) y x
    turned true x y = refl
    turned false x y = refl
