-- Pages and slots found by their place among those of their kind.
use Rattle.std.proofs.Common.{◌≡◌, ℕ, zero, suc, ◌+◌, ◌-◌, ◌<◌, Bool, cond, not, List, ◌∷◌, length, drop, get_or, refl, ◌∙◌, ap, arith}
use Rattle.std.specs.Prelude.{◌==◌}
use Rattle.std.specs.List.{filter, range_with_len}
use Rattle.std.proofs.lemmas.Bool.{eq-eqb, ne_eqb}
use Rattle.std.proofs.lemmas.List.{drop_more, drop_all}
use Rattle.node_places.specs.Nodes.{pages_from}

-- the record pages from a place on
abbrev pub pages_at : List ℕ → ℕ → List ℕ
pages_at kinds i = pages_from 1 (i + 2) (drop i kinds)

step_is : (kinds : List ℕ) (i : ℕ) → i < length kinds → pages_at kinds i ≡ cond (get_or kinds i 0 == 1) ((i + 2) ∷ pages_at kinds (i + 1)) (pages_at kinds (i + 1))
step_is kinds i lt = ap (pages_from 1 (i + 2)) (drop_more kinds i 0 lt) ∙ ap (λ (p : ℕ). cond (get_or kinds i 0 == 1) ((i + 2) ∷ pages_from 1 p (drop (i + 1) kinds)) (pages_from 1 p (drop (i + 1) kinds))) (omega arith)

pub page_other : (kinds : List ℕ) (i left : ℕ) → i < length kinds → (get_or kinds i 0 ≡ 1 → ⊥) → get_or (pages_at kinds i) left 0 ≡ get_or (pages_at kinds (i + 1)) left 0
page_other kinds i left lt other = ap (λ (l : List ℕ). get_or l left 0) (step_is kinds i lt ∙ ap (λ (b : Bool). cond b ((i + 2) ∷ pages_at kinds (i + 1)) (pages_at kinds (i + 1))) (ne_eqb (get_or kinds i 0) 1 other))

pages_here : (kinds : List ℕ) (i : ℕ) → i < length kinds → get_or kinds i 0 ≡ 1 → pages_at kinds i ≡ (i + 2) ∷ pages_at kinds (i + 1)
pages_here kinds i lt one = step_is kinds i lt ∙ ap (λ (b : Bool). cond b ((i + 2) ∷ pages_at kinds (i + 1)) (pages_at kinds (i + 1))) (eq-eqb (get_or kinds i 0) 1 one)

pub page_here : (kinds : List ℕ) (i left : ℕ) → i < length kinds → get_or kinds i 0 ≡ 1 → left ≡ 0 → get_or (pages_at kinds i) left 0 ≡ i + 2
page_here kinds i left lt one none = ap (λ (l : List ℕ). get_or l left 0) (pages_here kinds i lt one) ∙ ap (λ (k : ℕ). get_or ((i + 2) ∷ pages_at kinds (i + 1)) k 0) none

behind : (x : ℕ) (xs : List ℕ) (left : ℕ) → (left ≡ 0 → ⊥) → get_or (x ∷ xs) left 0 ≡ get_or xs (left - 1) 0
behind x xs zero some = absurd (some refl)
behind x xs (suc left) some = ap (λ (k : ℕ). get_or xs k 0) (omega arith)

pub page_behind : (kinds : List ℕ) (i left : ℕ) → i < length kinds → get_or kinds i 0 ≡ 1 → (left ≡ 0 → ⊥) → get_or (pages_at kinds i) left 0 ≡ get_or (pages_at kinds (i + 1)) (left - 1) 0
page_behind kinds i left lt one some = ap (λ (l : List ℕ). get_or l left 0) (pages_here kinds i lt one) ∙ behind (i + 2) (pages_at kinds (i + 1)) left some

pub page_none : (kinds : List ℕ) (i left : ℕ) → length kinds ≡ i → get_or (pages_at kinds i) left 0 ≡ 0
page_none kinds i left is = ap (λ (l : List ℕ). get_or (pages_from 1 (i + 2) l) left 0) (drop_all i kinds (omega (arith, is)))

-- the used slots from a place on
abbrev pub used_at : List ℕ → ℕ → List ℕ
used_at numbers i = filter (λ k. not (get_or numbers k 0 == 0)) (range_with_len i (length numbers - i))

used_step : (numbers : List ℕ) (i : ℕ) → i < length numbers → used_at numbers i ≡ cond (not (get_or numbers i 0 == 0)) (i ∷ used_at numbers (i + 1)) (used_at numbers (i + 1))
used_step numbers i lt = by_count (length numbers - i) (length numbers - (i + 1)) (omega (arith, lt))
  where
    used : ℕ → Bool
    used k = not (get_or numbers k 0 == 0)

    by_count : (m n : ℕ) → m ≡ suc n → filter used (range_with_len i m) ≡ cond (used i) (i ∷ filter used (range_with_len (i + 1) n)) (filter used (range_with_len (i + 1) n))
    by_count m n is = ap (λ (k : ℕ). filter used (range_with_len i k)) is

pub used_other : (numbers : List ℕ) (i left : ℕ) → i < length numbers → get_or numbers i 0 ≡ 0 → get_or (used_at numbers i) left 0 ≡ get_or (used_at numbers (i + 1)) left 0
used_other numbers i left lt free = ap (λ (l : List ℕ). get_or l left 0) (used_step numbers i lt ∙ ap (λ (b : Bool). cond (not b) (i ∷ used_at numbers (i + 1)) (used_at numbers (i + 1))) (eq-eqb (get_or numbers i 0) 0 free))

used_is : (numbers : List ℕ) (i : ℕ) → i < length numbers → (get_or numbers i 0 ≡ 0 → ⊥) → used_at numbers i ≡ i ∷ used_at numbers (i + 1)
used_is numbers i lt used = used_step numbers i lt ∙ ap (λ (b : Bool). cond (not b) (i ∷ used_at numbers (i + 1)) (used_at numbers (i + 1))) (ne_eqb (get_or numbers i 0) 0 used)

pub used_here : (numbers : List ℕ) (i left : ℕ) → i < length numbers → (get_or numbers i 0 ≡ 0 → ⊥) → left ≡ 0 → get_or (used_at numbers i) left 0 ≡ i
used_here numbers i left lt used none = ap (λ (l : List ℕ). get_or l left 0) (used_is numbers i lt used) ∙ ap (λ (k : ℕ). get_or (i ∷ used_at numbers (i + 1)) k 0) none

pub used_behind : (numbers : List ℕ) (i left : ℕ) → i < length numbers → (get_or numbers i 0 ≡ 0 → ⊥) → (left ≡ 0 → ⊥) → get_or (used_at numbers i) left 0 ≡ get_or (used_at numbers (i + 1)) (left - 1) 0
used_behind numbers i left lt used some = ap (λ (l : List ℕ). get_or l left 0) (used_is numbers i lt used) ∙ behind i (used_at numbers (i + 1)) left some

pub used_none : (numbers : List ℕ) (i left : ℕ) → length numbers ≡ i → get_or (used_at numbers i) left 0 ≡ 0
used_none numbers i left is =
    let none : length numbers - i ≡ 0 = omega (arith, is) in
    ap (λ (n : ℕ). get_or (filter (λ k. not (get_or numbers k 0 == 0)) (range_with_len i n)) left 0) none
