-- What each step over the lines leads to, by its place.
use Rattle.std.proofs.Common.{◌≡◌, ℕ, suc, ◌+◌, ◌<◌, Bool, true, List, [], ◌∷◌, ◌++◌, map, length, take, drop, get_or, refl, sym, ap, subst, ◌∙◌, inl, inr, None, Some, add-one}
use Rattle.std.specs.declared.option.Option.{Option}
use Rattle.std.specs.Option.{option_map, option_or}
use Rattle.std.specs.Cmp.{nat_cmp_total}
use Rattle.std.specs.FinMap as maps
use Rattle.std.proofs.Math.Seq.{drop-cons}
use Rattle.std.proofs.lemmas.Bool.Decides.{eqb_tells}
use Rattle.std.proofs.lemmas.List.{take_more, take-append-drop}
use Rattle.count_book.specs.Counted.{Counted, row_of, entered}
use Rattle.label_book.specs.Labels.{Labels}
use Rattle.label_book.proofs.Added.{here, apart}
use Rattle.stored_lines.specs.declared.line.Line.{Line}
use Rattle.stored_lines.specs.Lines.{AreOnce, AreLines, number_of, line_with, is_core_line, leads, loose_at, loose_from, first_loose, named_by, row_in, rows_of}
use Rattle.stored_lines.specs.Laws.{counts_of}
use Rattle.stored_lines.specs.inside.Steps.{core_in, leads_in, numbers_with, numbers_in, Groups, AreGroups, is_leader, IsReady, IsLed, IsLedBy}
use Rattle.stored_lines.proofs.Looked.{get_rows, with_last, new_between}
use Rattle.stored_lines.proofs.Tied.{loose_alike}
use Rattle.stored_lines.proofs.Led.{ready, led_more, leads_told, core_told}

-- the lines before a place, the one there, and those behind it
pub parted : (lines : List Line) (i : ℕ) (d : Line) → i < length lines → lines ≡ take i lines ++ get_or lines i d ∷ drop (suc i) lines
parted lines i d within = sym (take-append-drop i lines) ∙ ap (λ ls. take i lines ++ ls) (drop-cons lines i d within)

pub new_number : (lines : List Line) (i : ℕ) (d : Line) → AreOnce (map number_of lines) → i < length lines → line_with (take i lines) (get_or lines i d).number ≡ None
new_number lines i d once within =
    new_between (take i lines) (get_or lines i d) (drop (suc i) lines) (subst (λ ls. AreOnce (map number_of ls)) (parted lines i d within) once)

-- ---- the counts

pub fresh : (minpts : ℕ) (lines : List Line) (i : ℕ) (d : Line) (counts : Counted) → AreOnce (map number_of lines) → i < length lines → counts ≡ counts_of minpts (take i lines) → maps.get counts.rows (get_or lines i d).number ≡ None
fresh minpts lines i d counts once within is =
    ap (λ (c : Counted). maps.get c.rows (get_or lines i d).number) is
    ∙ get_rows (take i lines) (get_or lines i d).number ∙ ap (option_map row_in) (new_number lines i d once within)

row_last : (lines : List Line) (l : Line) (q : ℕ) → line_with lines l.number ≡ None → maps.get (rows_of (lines ++ l ∷ [])) q ≡ maps.get (maps.insert (rows_of lines) l.number (row_in l)) q
row_last lines l q none =
    get_rows (lines ++ l ∷ []) q ∙ ap (option_map row_in) (with_last lines l q)
    ∙ elim (eqb_tells l.number q) [
      | inl s ↦
          rw (s.0, subst (λ n. line_with lines n ≡ None) s.1 none)
          (sym (here (rows_of lines) l.number (row_in l)) ∙ ap (maps.get (maps.insert (rows_of lines) l.number (row_in l))) s.1)
      | inr o ↦
          rw o.0 (ap (option_map row_in) (or_none (line_with lines q)) ∙ sym (get_rows lines q)
          ∙ sym (apart (rows_of lines) l.number (row_in l) q (λ e. o.1 (sym e))))
    ] where
      or_none : (o : Option Line) → option_or o None ≡ o
      or_none None = refl
      or_none (Some k) = refl

rows_last : (lines : List Line) (l : Line) → line_with lines l.number ≡ None → rows_of (lines ++ l ∷ []) ≡ maps.insert (rows_of lines) l.number (row_in l)
rows_last lines l none =
    maps.same_map nat_cmp_total maps.nat_cmp-IsAntisymmetric (rows_of (lines ++ l ∷ [])) (maps.insert (rows_of lines) l.number (row_in l)) (λ q. row_last lines l q none)

pub entered_more : (minpts : ℕ) (lines : List Line) (i : ℕ) (d : Line) (old new : Counted) (anchor : Option ℕ) → AreOnce (map number_of lines) → i < length lines → old ≡ counts_of minpts (take i lines)
    → anchor ≡ named_by (get_or lines i d).anchor → new ≡ entered old (get_or lines i d).number (row_of (get_or lines i d).count anchor) → new ≡ counts_of minpts (take (i + 1) lines)
entered_more minpts lines i d old new anchor once within is named made =
    let l = get_or lines i d in
    made
    ∙ ap (λ a. entered old l.number (row_of l.count a)) named
    ∙ ap (λ c. entered c l.number (row_in l)) is
    ∙ ap (λ rs. let c : Counted = record { minpts = minpts; rows = rs } in c) (sym (rows_last (take i lines) l (new_number lines i d once within)))
    ∙ ap (counts_of minpts) (sym (take_more lines i d within))

-- ---- the labels

pub ready_at : (minpts : ℕ) (lines : List Line) (i : ℕ) (d : Line) (groups : Groups) (labels : Labels) → AreLines minpts lines → i < length lines → AreGroups minpts lines groups → IsLed minpts lines (take i lines) labels
    → is_leader minpts (get_or lines i d) ≡ true → IsReady labels (get_or lines i d).number (numbers_in (maps.get groups (get_or lines i d).number))
ready_at minpts lines i d groups labels are within listed led lead =
    let l = get_or lines i d in
    let e = parted lines i d within in
    ready minpts (take i lines) l (drop (suc i) lines) labels (numbers_in (maps.get groups l.number))
    (subst (AreLines minpts) e are) (subst (λ ls. IsLed minpts ls (take i lines) labels) e led)
    (listed l.number ∙ ap (λ ls. numbers_with minpts ls l.number) e) lead

pub led_at : (minpts : ℕ) (lines : List Line) (i : ℕ) (d : Line) (groups : Groups) (old new : Labels) → AreLines minpts lines → i < length lines → AreGroups minpts lines groups → IsLed minpts lines (take i lines) old
    → IsLedBy minpts (get_or lines i d) (numbers_in (maps.get groups (get_or lines i d).number)) old new → IsLed minpts lines (take (i + 1) lines) new
led_at minpts lines i d groups old new are within listed led by =
    let l = get_or lines i d in
    let e = parted lines i d within in
    let more = led_more minpts (take i lines) l (drop (suc i) lines) old new (numbers_in (maps.get groups l.number))
    (subst (AreLines minpts) e are) (subst (λ ls. IsLed minpts ls (take i lines) old) e led)
    (listed l.number ∙ ap (λ ls. numbers_with minpts ls l.number) e) by in
    subst (λ ls. IsLed minpts lines ls new) (sym (take_more lines i d within))
    (subst (λ ls. IsLed minpts ls (take i lines ++ l ∷ []) new) (sym e) more)

-- ---- what is loose

pub loose_step : (core leader : ℕ → Bool) (lines : List Line) (i : ℕ) (d : Line) → i < length lines → loose_from core leader i (drop i lines) ≡ option_or (loose_at core leader i (get_or lines i d)) (loose_from core leader (i + 1) (drop (i + 1) lines))
loose_step core leader lines i d within =
    ap (loose_from core leader i) (drop-cons lines i d within)
    ∙ ap (λ k. option_or (loose_at core leader i (get_or lines i d)) (loose_from core leader k (drop k lines))) (sym (add-one i))

-- the tests that the books give find what the lines say
pub loose_is : (minpts : ℕ) (lines : List Line) (counts : Counted) (labels : Labels) → AreLines minpts lines → counts ≡ counts_of minpts lines → IsLed minpts lines lines labels → loose_from (core_in counts) (leads_in labels) 0 lines ≡ first_loose minpts lines
loose_is minpts lines counts labels are is led =
    loose_alike (core_in counts) (leads_in labels) (is_core_line minpts lines) (leads minpts lines) 0 lines
    (λ n. ap (λ c. core_in c n) is ∙ core_told minpts lines n) (leads_told minpts lines labels are led)
