-- What a watcher says with its last line ended, and the dropping of one.
use Rattle.std.proofs.Common.{◌≡◌, ℕ, zero, suc, ◌+◌, ◌-◌, ◌<◌, ◌≤◌, ◌==◌, Bool, true, false, cond, List, [], ◌∷◌, ◌++◌, length, get_or, set, eqb, refl, sym, ap, ◌∙◌, append_assoc, arith, length-append}
use Rattle.std.specs.Prelude.{Option, Some, None, is_some}
use Rattle.std.specs.List.{slice_get}
use Rattle.std.proofs.lemmas.Bool.Decides.{nat_tests}
use Rattle.std.proofs.Math.Seq.{get_or-append_right}
use native.Mathlib.Numerals.{unary_clauses}
use Rattle.event_feed.specs.Meanings.{Meaning, Slots, slot_or_none, slot_at, is_full, without_slot}
use Rattle.session_desk.specs.Session.{ended, drop_answer, without_dropped}

-- a text is ended by a line feed where its last byte is none
ended-by : (said : List ℕ) (t : Bool) → 0 < length said → eqb (get_or said (length said - 1) 0) 10 ≡ t → ended said ≡ cond t said (said ++ 10 ∷ [])
ended-by [] t some last = absurd (omega arith)
ended-by (b ∷ []) t some last = ap (λ (x : Bool). cond x (b ∷ []) (b ∷ 10 ∷ [])) last
ended-by (b ∷ c ∷ more) t some last =
    let rest = simp unary_clauses at last in
    ap (λ (l : List ℕ). b ∷ l) (ended-by (c ∷ more) t (omega arith) (simp unary_clauses rest)) ∙ in-front t b (c ∷ more) ((c ∷ more) ++ 10 ∷ [])
  where
    in-front : (t : Bool) (b : ℕ) (x y : List ℕ) → b ∷ cond t x y ≡ cond t (b ∷ x) (b ∷ y)
    in-front true b x y = refl
    in-front false b x y = refl

-- what is appended ends as the whole does
last-of : (before said : List ℕ) → 0 < length said → get_or (before ++ said) (length (before ++ said) - 1) 0 ≡ get_or said (length said - 1) 0
last-of before said some =
    let long : length (before ++ said) ≡ length before + length said = length-append before said in
    let at : length (before ++ said) - 1 - length before ≡ length said - 1 = omega (arith, long) in
    get_or-append_right before said (length (before ++ said) - 1) 0 (omega (arith, long)) ∙ ap (λ (n : ℕ). get_or said n 0) at

ended-behind : (out before said : List ℕ) (t : Bool) → out ≡ before ++ said → length before < length out → eqb (get_or out (length out - 1) 0) 10 ≡ t → before ++ ended said ≡ cond t out (out ++ 10 ∷ [])
ended-behind out before said t is more last =
    let long : length out ≡ length before + length said = ap (λ (l : List ℕ). length l) is ∙ length-append before said in
    let some : 0 < length said = omega (arith, long) in
    let ends : eqb (get_or said (length said - 1) 0) 10 ≡ t = ap (λ (b : ℕ). eqb b 10) (sym (last-of before said some) ∙ sym (ap (λ (l : List ℕ). get_or l (length l - 1) 0) is)) ∙ last in
    ap (λ (l : List ℕ). before ++ l) (ended-by said t some ends) ∙ both t ∙ ap (λ (l : List ℕ). cond t l (l ++ 10 ∷ [])) (sym is)
  where
    both : (t : Bool) → before ++ cond t said (said ++ 10 ∷ []) ≡ cond t (before ++ said) ((before ++ said) ++ 10 ∷ [])
    both true = refl
    both false = sym (append_assoc before said (10 ∷ []))

-- a last line that isn't ended, and one that is
pub unended-line : (out text before said : List ℕ) → text ≡ out → out ≡ before ++ said → length before < length text → (get_or text (length text - 1) 0 ≡ 10 → ⊥) → out ++ 10 ∷ [] ≡ before ++ ended said
unended-line out text before said same is more unended =
    let isnt : eqb (get_or text (length text - 1) 0) 10 ≡ false = grind (arith, nat_tests, unended) in
    ap (λ (l : List ℕ). l ++ 10 ∷ []) (sym same) ∙ sym (ended-behind text before said false (same ∙ is) more isnt)

pub ended-line : (out text before said : List ℕ) → text ≡ out → out ≡ before ++ said → length before < length text → get_or text (length text - 1) 0 ≡ 10 → out ≡ before ++ ended said
ended-line out text before said same is more feed = sym same ∙ sym (ended-behind text before said true (same ∙ is) more (ap (λ (b : ℕ). eqb b 10) feed))

-- where nothing was appended there is no line to end
pub ended-none : (out before said : List ℕ) → out ≡ before ++ said → length out ≤ length before → out ≡ before ++ ended said
ended-none out before [] is few = is
ended-none out before (b ∷ more) is few = let long = ap (λ (l : List ℕ). length l) is ∙ length-append before (b ∷ more) in absurd (omega (arith, long))

-- a slot that is empty stays so
empty-set : (slots : Slots) (i : ℕ) → slot_or_none (slice_get slots i) ≡ None → set slots i None ≡ slots
empty-set [] i none = refl
empty-set (slot ∷ more) zero none = ap (λ (s : Option Meaning). s ∷ more) (sym none)
empty-set (slot ∷ more) (suc i) none = ap (λ (l : Slots). slot ∷ l) (empty-set more i none)

none-of : (o : Option Meaning) → is_some o ≡ false → o ≡ None
none-of None e = refl
none-of (Some says) e = absurd (cc e)

without-empty : (t : Bool) (i : ℕ) (slots : Slots) → cond t None (slot_or_none (slice_get slots i)) ≡ None → cond t slots (set slots i None) ≡ slots
without-empty true i slots none = refl
without-empty false i slots none = empty-set slots i none

pub drops-nothing : (k : ℕ) (slots slots' : Slots) (full : Bool) → full ≡ false → full ≡ is_full k slots → slots' ≡ without_slot k slots → slots' ≡ without_dropped (drop_answer k (slot_at k slots)).dropped slots
drops-nothing k slots slots' full isnt is same =
    let none : slot_at k slots ≡ None = none-of (slot_at k slots) (sym is ∙ isnt) in
    same ∙ without-empty (k == 0) (k - 1) slots none ∙ sym (ap (λ (o : Option Meaning). without_dropped (drop_answer k o).dropped slots) none)
