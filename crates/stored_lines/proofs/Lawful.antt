-- Lines that are found lawful one by one.
use Rattle.std.proofs.Common.{◌≡◌, ℕ, ◌+◌, ◌<◌, ◌≤◌, ◌||◌, false, cond, List, [], ◌∷◌, ◌++◌, map, length, take, get_or, refl, sym, ap, subst, ◌∙◌, inl, inr, arith}
use Rattle.std.specs.Prelude.{◌==◌, count_by}
use Rattle.std.specs.List.{list_any, AllByRecursion}
use Rattle.std.proofs.lemmas.Bool.Decides.{eqb_tells}
use Rattle.std.proofs.lemmas.List.{take_more, map-append}
use Rattle.stored_lines.specs.declared.line.Line.{Line}
use Rattle.stored_lines.specs.Lines.{AreOnce, AreLines, IsLine, number_of}
use Rattle.stored_lines.proofs.Numbers.{counted, counted_not, either_not}

pub no_lines : (minpts : ℕ) → AreLines minpts []
no_lines minpts = record { each = tt; once = λ n. let few : count_by (λ m. m == n) [] ≤ 1 = omega arith in few }

all_push : {A : Type 0} (P : A → Type 0) (xs : List A) (x : A) → AllByRecursion P xs → P x → AllByRecursion P (xs ++ x ∷ [])
all_push P [] x each here = (here, tt)
all_push P (y ∷ ys) x each here = (each.0, all_push P ys x each.1 here)

-- a number that isn't there isn't counted, and adds one at the end
not_counted : (q : ℕ) (xs : List ℕ) → list_any (λ m. m == q) xs ≡ false → count_by (λ m. m == q) xs ≡ 0
not_counted q [] h = refl
not_counted q (x ∷ xs) h =
    let parts = either_not (x == q) (list_any (λ m. m == q) xs) h in
    counted_not q x xs parts.0 ∙ not_counted q xs parts.1

counted_last : (q : ℕ) (xs : List ℕ) (x : ℕ) → count_by (λ m. m == q) (xs ++ x ∷ []) ≡ count_by (λ m. m == q) xs + cond (x == q) 1 0
counted_last q [] x = let e : cond (x == q) 1 0 + 0 ≡ 0 + cond (x == q) 1 0 = omega arith in counted q x [] ∙ e
counted_last q (y ∷ ys) x = let behind = counted_last q ys x in omega (arith, behind, counted q y (ys ++ x ∷ []), counted q y ys)

once_push : (xs : List ℕ) (x : ℕ) → AreOnce xs → list_any (λ m. m == x) xs ≡ false → AreOnce (xs ++ x ∷ [])
once_push xs x once fresh q = elim (eqb_tells x q) [
  | inl s ↦
      let none : count_by (λ m. m == q) xs ≡ 0 = subst (λ k. count_by (λ m. m == k) xs ≡ 0) s.1 (not_counted x xs fresh) in
      let last : count_by (λ m. m == q) (xs ++ x ∷ []) ≡ count_by (λ m. m == q) xs + 1 = counted_last q xs x ∙ rw s.0 refl in
      omega (arith, none, last)
  | inr o ↦
      let last : count_by (λ m. m == q) (xs ++ x ∷ []) ≡ count_by (λ m. m == q) xs + 0 = counted_last q xs x ∙ rw o.0 refl in
      omega (arith, last, once q)
]

any_number : (lines : List Line) (q : ℕ) → list_any (λ n. n == q) (map number_of lines) ≡ list_any (λ line. line.number == q) lines
any_number [] q = refl
any_number (l ∷ ls) q = ap (λ b. (l.number == q) || b) (any_number ls q)

pub lawful_more : (minpts : ℕ) (lines : List Line) (i : ℕ) (d : Line) → i < length lines → AreLines minpts (take i lines) → IsLine minpts (get_or lines i d) → list_any (λ line. line.number == (get_or lines i d).number) (take i lines) ≡ false → AreLines minpts (take (i + 1) lines)
lawful_more minpts lines i d within are here fresh =
    let l = get_or lines i d in
    subst (AreLines minpts) (sym (take_more lines i d within)) (record {
      each = all_push (IsLine minpts) (take i lines) l are.each here;
      once = subst AreOnce (sym (map-append number_of (take i lines) (l ∷ []))) (once_push (map number_of (take i lines)) l.number are.once (any_number (take i lines) l.number ∙ fresh));
    })
