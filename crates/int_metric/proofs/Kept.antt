-- Places that are kept one after the other, each as its test says.
use Rattle.std.proofs.Common.{◌≡◌, ◌∙◌, sym, ap, ℕ, suc, ◌+◌, ◌-◌, ◌<◌, Bool, true, false, List, [], ◌∷◌, ◌++◌, take, length, slice_set, cond, arith}
use Rattle.std.proofs.lemmas.List.{take_more_set, take-set, append_assoc}
use Rattle.std.specs.List.{filter, range_with_len}
use mir.Val.{bool_byte}

-- a place is put behind those that are kept, and kept itself or not
pub kept_next : (p : ℕ → Bool) (keep : Bool) (at : List ℕ) (count more k : ℕ) (rest all : List ℕ) → count < length at → more ≡ bool_byte keep → keep ≡ p k → take count at ++ filter p (k ∷ rest) ≡ all → take (count + more) (slice_set at count k) ++ filter p rest ≡ all
kept_next p true at count more k rest all room m e before =
    let one : more ≡ 1 = m in
    let now : filter p (k ∷ rest) ≡ k ∷ filter p rest = ap (λ b. cond b (k ∷ filter p rest) (filter p rest)) (sym e) in
    ap (λ j. take (count + j) (slice_set at count k) ++ filter p rest) one
    ∙ (ap (λ z. z ++ filter p rest) (take_more_set at count k room)
    ∙ (append_assoc (take count at) (k ∷ []) (filter p rest) ∙ (ap (λ z. take count at ++ z) (sym now) ∙ before)))
kept_next p false at count more k rest all room m e before =
    let none : count + more ≡ count = omega (arith, m) in
    let now : filter p (k ∷ rest) ≡ filter p rest = ap (λ b. cond b (k ∷ filter p rest) (filter p rest)) (sym e) in
    ap (λ j. take j (slice_set at count k) ++ filter p rest) none
    ∙ (ap (λ z. z ++ filter p rest) (take-set at count k) ∙ (ap (λ z. take count at ++ z) (sym now) ∙ before))

pub from_here : (k n : ℕ) → k < n → range_with_len k (n - k) ≡ k ∷ range_with_len (k + 1) (n - (k + 1))
from_here k n h =
    let e : n - k ≡ suc (n - (k + 1)) = omega arith in
    ap (range_with_len k) e

-- the same where the places are a range
pub kept_next_of_range : (p : ℕ → Bool) (keep : Bool) (at : List ℕ) (count more k end : ℕ) (all : List ℕ) → k < end → count < length at → more ≡ bool_byte keep → keep ≡ p k → take count at ++ filter p (range_with_len k (end - k)) ≡ all → take (count + more) (slice_set at count k) ++ filter p (range_with_len (k + 1) (end - (k + 1))) ≡ all
kept_next_of_range p keep at count more k end all h room m e before =
    kept_next p keep at count more k (range_with_len (k + 1) (end - (k + 1))) all room m e (ap (λ z. take count at ++ filter p z) (sym (from_here k end h)) ∙ before)
