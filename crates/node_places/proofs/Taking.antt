-- Numbers that take free slots one by one.
use Rattle.std.proofs.Common.{◌≡◌, ℕ, ◌+◌, ◌<◌, ◌≤◌, Bool, false, cond, List, [], ◌∷◌, ◌++◌, length, take, drop, set, get_or, refl, sym, ◌∙◌, ap, arith, append_assoc}
use Rattle.std.specs.Prelude.{◌==◌}
use Rattle.std.proofs.lemmas.Bool.{eq-eqb, ne_eqb}
use Rattle.std.proofs.lemmas.List.{take_more, take_more_set, drop_more, drop-set-lt, drop_all}
use Rattle.node_places.specs.Slots.{filled}

pub filled_none : (slots : List ℕ) → filled slots [] ≡ slots
filled_none [] = refl
filled_none (n ∷ slots) = refl

filled_used : (n : ℕ) (slots new : List ℕ) → (n == 0) ≡ false
    → filled (n ∷ slots) new ≡ n ∷ filled slots new
filled_used n slots [] used = ap (λ (l : List ℕ). n ∷ l) (sym (filled_none slots))
filled_used n slots (k ∷ new) used =
    ap (λ (b : Bool). cond b (k ∷ filled slots new) (n ∷ filled slots (k ∷ new))) used

pub slot_taken : (slots new : List ℕ) (i next : ℕ) → i < length slots → next < length new
    → get_or slots i 0 ≡ 0
    → take (i + 1) (set slots i (get_or new next 0)) ++ filled (drop (i + 1) (set slots i (get_or new next 0))) (drop (next + 1) new) ≡ take i slots ++ filled (drop i slots) (drop next new)
slot_taken slots new i next lt some free =
    let x = get_or new next 0 in
    ap (λ (l : List ℕ). take (i + 1) (set slots i x) ++ filled l (drop (next + 1) new)) (drop-set-lt (i + 1) slots i x (omega arith))
    ∙ ap (λ (l : List ℕ). l ++ filled (drop (i + 1) slots) (drop (next + 1) new)) (take_more_set slots i x lt)
    ∙ append_assoc (take i slots) (x ∷ []) (filled (drop (i + 1) slots) (drop (next + 1) new))
    ∙ ap (λ (l : List ℕ). take i slots ++ l) (sym (ap (λ (l : List ℕ). filled l (drop next new)) (drop_more slots i 0 lt)
    ∙ ap (λ (l : List ℕ). filled (get_or slots i 0 ∷ drop (i + 1) slots) l) (drop_more new next 0 some)
    ∙ ap (λ (b : Bool). cond b (x ∷ filled (drop (i + 1) slots) (drop (next + 1) new)) (get_or slots i 0 ∷ filled (drop (i + 1) slots) (x ∷ drop (next + 1) new))) (eq-eqb (get_or slots i 0) 0 free)))

stays_by : (slots new : List ℕ) (i next : ℕ) → i < length slots
    → filled (get_or slots i 0 ∷ drop (i + 1) slots) (drop next new) ≡ get_or slots i 0 ∷ filled (drop (i + 1) slots) (drop next new)
    → take (i + 1) slots ++ filled (drop (i + 1) slots) (drop next new) ≡ take i slots ++ filled (drop i slots) (drop next new)
stays_by slots new i next lt one =
    ap (λ (l : List ℕ). l ++ filled (drop (i + 1) slots) (drop next new)) (take_more slots i 0 lt)
    ∙ append_assoc (take i slots) (get_or slots i 0 ∷ []) (filled (drop (i + 1) slots) (drop next new))
    ∙ ap (λ (l : List ℕ). take i slots ++ l) (sym (ap (λ (l : List ℕ). filled l (drop next new)) (drop_more slots i 0 lt) ∙ one))

pub slot_used : (slots new : List ℕ) (i next : ℕ) → i < length slots → (get_or slots i 0 ≡ 0 → ⊥)
    → take (i + 1) slots ++ filled (drop (i + 1) slots) (drop next new) ≡ take i slots ++ filled (drop i slots) (drop next new)
slot_used slots new i next lt used =
    stays_by slots new i next lt (filled_used (get_or slots i 0) (drop (i + 1) slots) (drop next new) (ne_eqb (get_or slots i 0) 0 used))

pub slot_left : (slots new : List ℕ) (i next : ℕ) → i < length slots → length new ≤ next
    → take (i + 1) slots ++ filled (drop (i + 1) slots) (drop next new) ≡ take i slots ++ filled (drop i slots) (drop next new)
slot_left slots new i next lt none = stays_by slots new i next lt
    (ap (filled (get_or slots i 0 ∷ drop (i + 1) slots)) (drop_all next new none) ∙ ap (λ (l : List ℕ). get_or slots i 0 ∷ l) (sym (filled_none (drop (i + 1) slots)) ∙ ap (filled (drop (i + 1) slots)) (sym (drop_all next new none))))
