-- The cores that have a label, by the lines of their numbers.
use Rattle.std.proofs.Common.{◌≡◌, ℕ, ◌≤◌, ◌&&◌, ◌||◌, Bool, true, false, cond, List, [], ◌∷◌, map, filter, refl, sym, ap, ◌∙◌, inl, inr, None, Some, arith}
use Rattle.std.specs.Prelude.{◌==◌, nat_le, count_by}
use Rattle.std.specs.declared.option.Option.{Option}
use Rattle.std.specs.List.{list_any}
use Rattle.std.proofs.lemmas.Bool.{and_parts}
use Rattle.std.proofs.lemmas.Bool.Decides.{eqb_tells}
use Rattle.label_book.specs.Labels.{IsMember, EachOnce}
use Rattle.label_book.proofs.Sorting.{among}
use Rattle.stored_lines.specs.declared.line.Line.{Line}
use Rattle.stored_lines.specs.Lines.{AreOnce, number_of, line_with}
use Rattle.stored_lines.specs.inside.Steps.{has_label, numbers_with}
use Rattle.stored_lines.proofs.Numbers.{once_rest, each_once, counted, equal}
use Rattle.stored_lines.proofs.Looked.{first_alone}

-- whether there is a line, of a core with this label
abbrev pub labelled_by : ℕ → ℕ → Option Line → Bool
labelled_by minpts label None = false
labelled_by minpts label (Some l) = has_label minpts label l

abbrev has : List ℕ → ℕ → Bool
has xs q = list_any (λ m. m == q) xs

here_or : (b : Bool) (l : Line) (ls : List Line) (q : ℕ) → has (map number_of (cond b (l ∷ ls) ls)) q ≡ ((b && (l.number == q)) || has (map number_of ls) q)
here_or true l ls q = refl
here_or false l ls q = refl

both_so : (b : Bool) → ((b && true) || false) ≡ b
both_so true = refl
both_so false = refl

both_not : (b c : Bool) → ((b && false) || c) ≡ c
both_not true c = refl
both_not false c = refl

-- a number is listed where its line is that of a core with the label
pub listed : (minpts label : ℕ) (lines : List Line) (q : ℕ) → AreOnce (map number_of lines) → list_any (λ m. m == q) (numbers_with minpts lines label) ≡ labelled_by minpts label (line_with lines q)
listed minpts label [] q once = refl
listed minpts label (l ∷ ls) q once =
    let b = has_label minpts label l in
    let rest = filter (has_label minpts label) ls in
    let behind = listed minpts label ls q (once_rest l.number (map number_of ls) once) in
    here_or b l rest q
    ∙ elim (eqb_tells l.number q) [
      | inl s ↦
          let gone : has (map number_of rest) q ≡ false = behind ∙ ap (labelled_by minpts label) (first_alone l ls q once s.1) in
          rw s.0 (ap (λ c. (b && true) || c) gone ∙ both_so b)
      | inr o ↦ rw o.0 (both_not b (has (map number_of rest) q) ∙ behind)
    ]

-- the line of a core with this label
pub record IsLabelled (minpts label : ℕ) (o : Option Line) : Type 0 where
  pub line : Line
  pub is : o ≡ Some line
  pub core : nat_le minpts line.count ≡ true
  pub label_is : line.label ≡ label

labelled_line : (minpts label : ℕ) (o : Option Line) → labelled_by minpts label o ≡ true → IsLabelled minpts label o
labelled_line minpts label None h = absurd (let f : false ≡ true = h in cc)
labelled_line minpts label (Some l) h =
    let parts = and_parts (nat_le minpts l.count) (l.label == label) h in
    record {
      line = l;
      is = refl;
      core = parts.0;
      label_is = elim (eqb_tells l.label label) [ inl s ↦ s.1 | inr o ↦ absurd (let f : false ≡ true = sym o.0 ∙ parts.1 in cc) ];
    }

pub in_group : (minpts label : ℕ) (lines : List Line) (q : ℕ) → AreOnce (map number_of lines) → IsMember (numbers_with minpts lines label) q → IsLabelled minpts label (line_with lines q)
in_group minpts label lines q once m =
    let group = numbers_with minpts lines label in
    labelled_line minpts label (line_with lines q) (sym (listed minpts label lines q once) ∙ (among group q (has group q) refl).1 m)

pub to_group : (minpts label : ℕ) (lines : List Line) (q : ℕ) → AreOnce (map number_of lines) → (l : Line) → line_with lines q ≡ Some l → nat_le minpts l.count ≡ true → l.label ≡ label → IsMember (numbers_with minpts lines label) q
to_group minpts label lines q once l is core label_is =
    let group = numbers_with minpts lines label in
    let so : has_label minpts label l ≡ true = rw (core, label_is) (equal label) in
    (among group q (has group q) refl).0 (listed minpts label lines q once ∙ ap (labelled_by minpts label) is ∙ so)

fewer : (b : Bool) (l : Line) (xs : List ℕ) (ls : List Line) (q : ℕ) → count_by (λ m. m == q) (map number_of ls) ≤ count_by (λ m. m == q) xs → count_by (λ m. m == q) (map number_of (cond b (l ∷ ls) ls)) ≤ count_by (λ m. m == q) (l.number ∷ xs)
fewer true l xs ls q h = omega (arith, h, counted q l.number (map number_of ls), counted q l.number xs)
fewer false l xs ls q h = omega (arith, h, counted q l.number xs)

few : (minpts label : ℕ) (lines : List Line) (q : ℕ) → count_by (λ m. m == q) (numbers_with minpts lines label) ≤ count_by (λ m. m == q) (map number_of lines)
few minpts label [] q = omega arith
few minpts label (l ∷ ls) q = fewer (has_label minpts label l) l (map number_of ls) (filter (has_label minpts label) ls) q (few minpts label ls q)

pub group_once : (minpts label : ℕ) (lines : List Line) → AreOnce (map number_of lines) → EachOnce (numbers_with minpts lines label)
group_once minpts label lines once = each_once (numbers_with minpts lines label) (λ q. omega (arith, once q, few minpts label lines q))
