-- The books of lines have the form of books.
use Rattle.std.proofs.Common.{◌≡◌, ℕ, ◌≤◌, Bool, true, false, cond, List, [], ◌∷◌, map, refl, sym, ap, subst, ◌∙◌, inl, inr, None, Some, IsSome, is_some, IsSomeAnd, ◌↔◌, arith}
use Rattle.std.specs.Prelude.{◌==◌, nat_le}
use Rattle.std.specs.declared.option.Option.{Option}
use Rattle.std.specs.Option.{option_map}
use Rattle.std.specs.List.{AllByRecursion}
use Rattle.std.specs.FinMap as maps
use Rattle.std.proofs.lemmas.Bool.{leb-true, le-leb, and_parts}
use Rattle.std.proofs.lemmas.Bool.Decides.{eqb_tells}
use Rattle.count_book.specs.declared.row.Row.{Row}
use Rattle.count_book.specs.Counted.{IsCore}
use Rattle.label_book.specs.Labels.{HasLeast}
use Rattle.label_book.proofs.Views.{same_value, no_value}
use Rattle.stored_lines.specs.declared.line.Line.{Line}
use Rattle.stored_lines.specs.Lines.{AreLines, IsLine, number_of, line_with, is_core, is_head, is_core_line, leads, first_loose, rows_of, row_in, named_by, labels_of}
use Rattle.stored_lines.specs.Laws.{HaveForm, AreNumbers, counts_of, BooksHaveForm}
use Rattle.stored_lines.proofs.Looked.{has_line, found_each, get_rows, label_in, get_labels}
use Rattle.stored_lines.proofs.Tied.{IsTied, tied_each}
use Rattle.stored_lines.proofs.Led.{known_line, label_leads}

-- the line behind a row
record IsRow (lines : List Line) (q : ℕ) (r : Row) : Type 0 where
  line : Line
  is : line_with lines q ≡ Some line
  row : row_in line ≡ r

row_line : (lines : List Line) (q : ℕ) (r : Row) → maps.get (rows_of lines) q ≡ Some r → IsRow lines q r
row_line lines q r is = elim (known_line (line_with lines q)) [
  | inl none ↦ absurd (no_value (get_rows lines q ∙ ap (option_map row_in) none) is)
  | inr some ↦ record { line = some.0; is = some.1; row = same_value (get_rows lines q ∙ ap (option_map row_in) some.1) is }
]

no_anchor : (n : ℕ) → n ≡ 0 → named_by n ≡ None
no_anchor n e = ap named_by e

-- an anchor is named where it isn't 0
an_anchor : (n b : ℕ) → named_by n ≡ Some b → ((n == 0) ≡ false) × (n ≡ b)
an_anchor n b is = elim (eqb_tells n 0) [
  | inl s ↦ absurd (no_value (no_anchor n s.1) is)
  | inr o ↦ (o.0, same_value (let e : named_by n ≡ Some n = rw o.0 refl in e) is)
]

pub core_line : (minpts : ℕ) (lines : List Line) (q : ℕ) → is_core_line minpts lines q ≡ true → IsCore (counts_of minpts lines) q
core_line minpts lines q is = subst (λ o. IsSomeAnd o (λ (r : Row). minpts ≤ r.count)) (sym (get_rows lines q)) (told (line_with lines q) is) where
  told : (o : Option Line) → is_core minpts o ≡ true → IsSomeAnd (option_map row_in o) (λ (r : Row). minpts ≤ r.count)
  told None e = absurd (let f : false ≡ true = e in cc)
  told (Some l) e = leb-true minpts l.count e

labelled_core : (minpts : ℕ) (o : Option Line) → IsSome (label_in minpts o) ↔ IsSomeAnd (option_map row_in o) (λ (r : Row). minpts ≤ r.count)
labelled_core minpts None = (λ h. absurd (let f : false ≡ true = h in cc), λ h. absurd h)
labelled_core minpts (Some l) = (there (nat_le minpts l.count) refl, λ h. rw (le-leb minpts l.count h) refl) where
  there : (b : Bool) → nat_le minpts l.count ≡ b → IsSome (cond b (Some l.label) None) → minpts ≤ l.count
  there true core h = leb-true minpts l.count core
  there false core h = absurd (let f : false ≡ true = h in cc)

-- a number with a label, by its line
record HasLabel (minpts : ℕ) (o : Option Line) (label : ℕ) : Type 0 where
  line : Line
  is : o ≡ Some line
  core : nat_le minpts line.count ≡ true
  label_is : line.label ≡ label

has_label : (minpts : ℕ) (o : Option Line) (label : ℕ) → label_in minpts o ≡ Some label → HasLabel minpts o label
has_label minpts None label e = absurd (no_value refl e)
has_label minpts (Some l) label e = by_core (nat_le minpts l.count) refl e where
  by_core : (b : Bool) → nat_le minpts l.count ≡ b → cond b (Some l.label) None ≡ Some label → HasLabel minpts (Some l) label
  by_core true core f = record { line = l; is = refl; core = core; label_is = same_value refl f }
  by_core false core f = absurd (no_value refl f)

-- a number that leads has itself as label
leads_itself : (minpts n : ℕ) (lines : List Line) → AreLines minpts lines → leads minpts lines n ≡ true → label_in minpts (line_with lines n) ≡ Some n
leads_itself minpts n lines are lead = elim (known_line (line_with lines n)) [
  | inl none ↦ absurd (let f : false ≡ true = ap (is_head minpts) (sym none) ∙ lead in cc)
  | inr some ↦
      let l = some.0 in
      let parts = and_parts (nat_le minpts l.count) (l.label == l.number) (ap (is_head minpts) (sym some.1) ∙ lead) in
      let its = (found_each (IsLine minpts) lines n l are.each some.1).1 in
      let same_number : l.label ≡ l.number = elim (eqb_tells l.label l.number) [ inl s ↦ s.1 | inr o ↦ absurd (let f : false ≡ true = sym o.0 ∙ parts.1 in cc) ] in
      ap (label_in minpts) some.1 ∙ rw parts.0 (ap (λ m. Some m) (same_number ∙ its))
]

least_labels : (minpts : ℕ) (lines : List Line) → AreLines minpts lines → first_loose minpts lines ≡ None → HasLeast (labels_of minpts lines)
least_labels minpts lines are tied core label is =
    let k = has_label minpts (line_with lines core) label (sym (get_labels minpts lines core are.once) ∙ is) in
    let line = found_each (IsLine minpts) lines core k.line are.each k.is in
    let low = line.0.least (leb-true minpts k.line.count k.core) in
    let lead : leads minpts lines label ≡ true = subst (λ n. leads minpts lines n ≡ true) k.label_is (label_leads minpts lines are tied core k.line k.is k.core) in
    (omega (arith, low, k.label_is, line.1), get_labels minpts lines label are.once ∙ leads_itself minpts label lines are lead)

some_numbers : (minpts : ℕ) (lines : List Line) → AllByRecursion (IsLine minpts) lines → AllByRecursion (λ n. 1 ≤ n) (map number_of lines)
some_numbers minpts [] each = tt
some_numbers minpts (l ∷ ls) each = (each.0.number, some_numbers minpts ls each.1)

row_there : (o : Option Line) → is_some (option_map row_in o) ≡ is_some o
row_there None = refl
row_there (Some l) = refl

pub form : (minpts : ℕ) (lines : List Line) → AreLines minpts lines → first_loose minpts lines ≡ None → HaveForm (counts_of minpts lines) (labels_of minpts lines)
form minpts lines are tied = record {
  counted = λ a r is.
      let k = row_line lines a r is in
      subst (λ (x : Row). 1 ≤ x.count) k.row (found_each (IsLine minpts) lines a k.line are.each k.is).0.count;
  unhung = λ a r is core.
      let k = row_line lines a r is in
      let high : minpts ≤ k.line.count = subst (λ (x : Row). minpts ≤ x.count) (sym k.row) core in
      ap (λ (x : Row). x.anchor) (sym k.row) ∙ no_anchor k.line.anchor ((found_each (IsLine minpts) lines a k.line are.each k.is).0.unhung high);
  anchored = λ a r b is at.
      let k = row_line lines a r is in
      let named = an_anchor k.line.anchor b (ap (λ (x : Row). x.anchor) k.row ∙ at) in
      let ties = found_each (IsTied (is_core_line minpts lines) (leads minpts lines)) lines a k.line (tied_each (is_core_line minpts lines) (leads minpts lines) 0 lines tied) k.is in
      core_line minpts lines b (subst (λ n. is_core_line minpts lines n ≡ true) named.1 (ties.0.anchor named.0));
  labelled = λ a.
      subst (λ o. IsSome o ↔ IsCore (counts_of minpts lines) a) (sym (get_labels minpts lines a are.once))
      (subst (λ o. IsSome (label_in minpts (line_with lines a)) ↔ IsSomeAnd o (λ (r : Row). minpts ≤ r.count)) (sym (get_rows lines a)) (labelled_core minpts (line_with lines a)));
  least = least_labels minpts lines are tied;
}

pub numbers_are : (minpts : ℕ) (lines : List Line) → AreLines minpts lines → AreNumbers (counts_of minpts lines) (map number_of lines)
numbers_are minpts lines are = record {
  exact = λ a. ap is_some (get_rows lines a) ∙ row_there (line_with lines a) ∙ has_line lines a;
  once = are.once;
  some = some_numbers minpts lines are.each;
}

pub books_have_form : BooksHaveForm
books_have_form minpts lines are tied = (form minpts lines are tied, numbers_are minpts lines are)
