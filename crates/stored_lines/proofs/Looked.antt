-- What looking a number up finds, in lines and in the books that they say.
use Rattle.std.proofs.Common.{◌≡◌, ℕ, Bool, true, false, cond, List, [], ◌∷◌, ◌++◌, map, filter, refl, sym, ap, subst, ◌∙◌, inl, inr, None, Some, is_some}
use Rattle.std.specs.Prelude.{◌==◌, nat_le}
use Rattle.std.specs.declared.option.Option.{Option}
use Rattle.std.specs.Option.{option_map, option_or}
use Rattle.std.specs.Ordering.{nat_cmp}
use Rattle.std.specs.List.{list_any, AllByRecursion}
use Rattle.std.specs.FinMap as maps
use Rattle.std.proofs.lemmas.Bool.Decides.{eqb_tells}
use Rattle.label_book.proofs.Added.{here, apart}
use Rattle.label_book.proofs.Views.{same_value, no_value}
use Rattle.stored_lines.specs.declared.line.Line.{Line}
use Rattle.stored_lines.specs.Lines.{AreOnce, number_of, line_with, row_in, rows_of, labels_of}
use Rattle.stored_lines.proofs.Numbers.{once_rest, once_first}

-- there is a line of a number where the numbers have it
pub has_line : (lines : List Line) (q : ℕ) → is_some (line_with lines q) ≡ list_any (λ m. m == q) (map number_of lines)
has_line [] q = refl
has_line (l ∷ ls) q = elim (eqb_tells l.number q) [ inl s ↦ rw s.0 refl | inr o ↦ rw o.0 (has_line ls q) ]

nothing : {X : Type 0} (o : Option X) → is_some o ≡ false → o ≡ None
nothing None h = refl
nothing (Some x) h = absurd (let f : true ≡ false = h in cc)

pub no_line : (lines : List Line) (q : ℕ) → list_any (λ m. m == q) (map number_of lines) ≡ false → line_with lines q ≡ None
no_line lines q h = nothing (line_with lines q) (has_line lines q ∙ h)

-- the first line of a list is that of no other number
pub first_alone : (l : Line) (ls : List Line) (q : ℕ) → AreOnce (map number_of (l ∷ ls)) → l.number ≡ q → line_with ls q ≡ None
first_alone l ls q once is = subst (λ n. line_with ls n ≡ None) is (no_line ls l.number (once_first l.number (map number_of ls) once))

-- what holds of each line holds of the one that is found, whose number it is
pub found_each : (P : Line → Type 0) (lines : List Line) (q : ℕ) (l : Line) → AllByRecursion P lines → line_with lines q ≡ Some l → P l × (l.number ≡ q)
found_each P [] q l each is = absurd (no_value refl is)
found_each P (k ∷ ks) q l each is =
    elim (eqb_tells k.number q) [
      | inl s ↦
          let e : k ≡ l = same_value (let w : line_with (k ∷ ks) q ≡ Some k = rw s.0 refl in w) is in
          (subst P e each.0, ap number_of (sym e) ∙ s.1)
      | inr o ↦ found_each P ks q l each.1 (let w : line_with ks q ≡ line_with (k ∷ ks) q = rw o.0 refl in w ∙ is)
    ]

-- the rows that lines say
pub get_rows : (lines : List Line) (q : ℕ) → maps.get (rows_of lines) q ≡ option_map row_in (line_with lines q)
get_rows [] q = maps.get-empty nat_cmp q
get_rows (l ∷ ls) q =
    elim (eqb_tells l.number q) [
      | inl s ↦ rw s.0 (ap (maps.get (rows_of (l ∷ ls))) (sym s.1) ∙ here (rows_of ls) l.number (row_in l))
      | inr o ↦ rw o.0 (apart (rows_of ls) l.number (row_in l) q (λ e. o.1 (sym e)) ∙ get_rows ls q)
    ]

-- the label of a line, where it is that of a core
abbrev pub label_in : ℕ → Option Line → Option ℕ
label_in minpts None = None
label_in minpts (Some l) = cond (nat_le minpts l.count) (Some l.label) None

abbrev pub label_entry : Line → ℕ × ℕ
label_entry l = (l.number, l.label)

abbrev labels_from : List Line → maps.FinMap nat_cmp ℕ
labels_from lines = maps.from_entries (map label_entry lines)

-- the labels of lines with one more in front, where a test says so
with_first : (b : Bool) (l : Line) (ls : List Line) (q : ℕ) → l.number ≡ q → maps.get (labels_from ls) q ≡ None → maps.get (labels_from (cond b (l ∷ ls) ls)) q ≡ cond b (Some l.label) None
with_first true l ls q is none = ap (maps.get (labels_from (l ∷ ls))) (sym is) ∙ here (labels_from ls) l.number l.label
with_first false l ls q is none = none

with_other : (b : Bool) (l : Line) (ls : List Line) (q : ℕ) → (l.number ≡ q → ⊥) → maps.get (labels_from (cond b (l ∷ ls) ls)) q ≡ maps.get (labels_from ls) q
with_other true l ls q other = apart (labels_from ls) l.number l.label q (λ e. other (sym e))
with_other false l ls q other = refl

-- the labels that lines say
pub get_labels : (minpts : ℕ) (lines : List Line) (q : ℕ) → AreOnce (map number_of lines) → maps.get (labels_of minpts lines) q ≡ label_in minpts (line_with lines q)
get_labels minpts [] q once = maps.get-empty nat_cmp q
get_labels minpts (l ∷ ls) q once =
    let rest = filter (λ (k : Line). nat_le minpts k.count) ls in
    let behind = get_labels minpts ls q (once_rest l.number (map number_of ls) once) in
    elim (eqb_tells l.number q) [
      | inl s ↦ rw s.0 (with_first (nat_le minpts l.count) l rest q s.1 (behind ∙ ap (label_in minpts) (first_alone l ls q once s.1)))
      | inr o ↦ rw o.0 (with_other (nat_le minpts l.count) l rest q o.1 ∙ behind)
    ]

-- the line of a number among lines and one more
pub with_last : (lines : List Line) (l : Line) (q : ℕ) → line_with (lines ++ l ∷ []) q ≡ option_or (line_with lines q) (cond (l.number == q) (Some l) None)
with_last [] l q = refl
with_last (k ∷ ks) l q = elim (eqb_tells k.number q) [ inl s ↦ rw s.0 refl | inr o ↦ rw o.0 (with_last ks l q) ]

-- a line between others is found by its number
pub found_between : (seen : List Line) (l : Line) (rest : List Line) → AreOnce (map number_of (seen ++ l ∷ rest)) → line_with (seen ++ l ∷ rest) l.number ≡ Some l
found_between [] l rest once = elim (eqb_tells l.number l.number) [ inl s ↦ rw s.0 refl | inr o ↦ absurd (o.1 refl) ]
found_between (k ∷ ks) l rest once =
    let behind = found_between ks l rest (once_rest k.number (map number_of (ks ++ l ∷ rest)) once) in
    elim (eqb_tells k.number l.number) [
      | inl s ↦ absurd (no_value (first_alone k (ks ++ l ∷ rest) l.number once s.1) behind)
      | inr o ↦ rw o.0 behind
    ]

-- and its number is that of none before it
pub new_between : (seen : List Line) (l : Line) (rest : List Line) → AreOnce (map number_of (seen ++ l ∷ rest)) → line_with seen l.number ≡ None
new_between [] l rest once = refl
new_between (k ∷ ks) l rest once =
    let after = once_rest k.number (map number_of (ks ++ l ∷ rest)) once in
    elim (eqb_tells k.number l.number) [
      | inl s ↦ absurd (no_value (first_alone k (ks ++ l ∷ rest) l.number once s.1) (found_between ks l rest after))
      | inr o ↦ rw o.0 (new_between ks l rest after)
    ]
