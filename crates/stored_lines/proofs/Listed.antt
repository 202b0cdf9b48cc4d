-- Lists of cores under their labels, as lines are taken in one by one.
use Rattle.std.proofs.Common.{◌≡◌, ℕ, true, false, cond, List, [], ◌∷◌, ◌++◌, map, filter, refl, sym, ap, ◌∙◌, inl, inr}
use Rattle.std.specs.Prelude.{◌==◌, nat_le}
use Rattle.std.specs.Ordering.{nat_cmp}
use Rattle.std.specs.FinMap as maps
use Rattle.std.proofs.lemmas.Bool.Decides.{eqb_tells}
use Rattle.std.proofs.lemmas.List.{map-append, append-nil}
use Rattle.std.proofs.lemmas.List.Elements.{filter-append}
use Rattle.label_book.proofs.Added.{here, apart}
use Rattle.stored_lines.specs.declared.line.Line.{Line}
use Rattle.stored_lines.specs.Lines.{number_of}
use Rattle.stored_lines.specs.inside.Steps.{Groups, has_label, numbers_with, numbers_in, AreGroups, IsPut, IsTaken}

pub groups_start : (minpts : ℕ) (groups : Groups) → groups ≡ maps.empty → AreGroups minpts [] groups
groups_start minpts groups e q = ap (λ g. numbers_in (maps.get g q)) e ∙ ap numbers_in (maps.get-empty nat_cmp q)

numbers_append : (minpts : ℕ) (xs ys : List Line) (q : ℕ) → numbers_with minpts (xs ++ ys) q ≡ numbers_with minpts xs q ++ numbers_with minpts ys q
numbers_append minpts xs ys q =
    ap (map number_of) (filter-append (has_label minpts q) xs ys) ∙ map-append number_of (filter (has_label minpts q) xs) (filter (has_label minpts q) ys)

pub groups_more : (minpts : ℕ) (lines : List Line) (l : Line) (old new : Groups) → AreGroups minpts lines old → IsTaken minpts l old new → AreGroups minpts (lines ++ l ∷ []) new
groups_more minpts lines l old new are taken q =
    taken q ∙ ap (λ ys. ys ++ numbers_with minpts (l ∷ []) q) (are q) ∙ sym (numbers_append minpts lines (l ∷ []) q)

-- a core was taken in where it was put under its label
pub taken_core : (minpts : ℕ) (l : Line) (old new : Groups) → nat_le minpts l.count ≡ true → IsPut l.label l.number old new → IsTaken minpts l old new
taken_core minpts l old new core put q =
    put q ∙ rw core (elim (l.label == q) as (λ b. cond b (numbers_in (maps.get old q) ++ l.number ∷ []) (numbers_in (maps.get old q)) ≡ numbers_in (maps.get old q) ++ map number_of (cond b (l ∷ []) [])) [
      | true ↦ refl
      | false ↦ sym (append-nil (numbers_in (maps.get old q)))
    ])

pub taken_none : (minpts : ℕ) (l : Line) (old : Groups) → nat_le minpts l.count ≡ false → IsTaken minpts l old old
taken_none minpts l old core q = rw core (sym (append-nil (numbers_in (maps.get old q))))

-- a list that is written back under its label
pub put_back : (label number : ℕ) (old new : Groups) (before after : List ℕ) → numbers_in (maps.get old label) ≡ before → after ≡ before ++ number ∷ [] → new ≡ maps.insert old label after → IsPut label number old new
put_back label number old new before after was is made q =
    ap (λ g. numbers_in (maps.get g q)) made
    ∙ elim (eqb_tells label q) [
      | inl s ↦ rw s.0 (ap (λ k. numbers_in (maps.get (maps.insert old label after) k)) (sym s.1) ∙ ap numbers_in (here old label after) ∙ is ∙ ap (λ xs. xs ++ number ∷ []) (sym was ∙ ap (λ k. numbers_in (maps.get old k)) s.1))
      | inr o ↦ rw o.0 (ap numbers_in (apart old label after q (λ e. o.1 (sym e))))
    ]
