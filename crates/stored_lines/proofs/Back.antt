-- Books come back from their lines.
use Rattle.std.proofs.Common.{◌≡◌, ℕ, ◌≤◌, true, false, cond, List, [], ◌∷◌, map, refl, sym, ap, subst, ◌∙◌, inl, inr, ◌⊎◌, None, Some, is_some, IsSomeAnd, arith}
use Rattle.std.specs.Prelude.{◌==◌, nat_le, unwrap_or}
use Rattle.std.specs.declared.option.Option.{Option}
use Rattle.std.specs.Option.{option_map}
use Rattle.std.specs.Cmp.{nat_cmp_total}
use Rattle.std.specs.List.{AllByRecursion, list_any}
use Rattle.std.specs.FinMap as maps
use Rattle.std.proofs.lemmas.Bool.{leb-true, le-leb}
use Rattle.std.proofs.lemmas.Bool.Decides.{eqb_tells}
use Rattle.count_book.specs.declared.row.Row.{Row}
use Rattle.count_book.specs.Counted.{Counted, IsCore, anchor_in}
use Rattle.label_book.specs.Labels.{Labels}
use Rattle.label_book.proofs.Views.{same_value, labels_same, some_and}
use Rattle.stored_lines.specs.declared.line.Line.{Line}
use Rattle.stored_lines.specs.Lines.{AreOnce, AreLines, IsLine, number_of, line_with, is_core, is_head, is_core_line, leads, rows_of, row_in, named_by, labels_of, count_in, line_in}
use Rattle.stored_lines.specs.Laws.{AreFormed, AreHung, AreNumbers, AreLinesOf, BooksComeBack, LinesAreLawful}
use Rattle.stored_lines.proofs.Numbers.{equal}
use Rattle.stored_lines.proofs.Looked.{get_rows, label_in, get_labels}
use Rattle.stored_lines.proofs.Tied.{IsTied, each_tied}
use Rattle.stored_lines.proofs.Led.{told_both, never}

-- what a line says where there is a row and a label, or none
abbrev line_by : ℕ → Option Row → Option ℕ → Line
line_by n o label = record { number = n; count = count_in o; anchor = unwrap_or (anchor_in o) 0; label = unwrap_or label 0 }

known : {X : Type 0} (o : Option X) → (o ≡ None) ⊎ ((x : X) × (o ≡ Some x))
known None = inl refl
known (Some x) = inr (x, refl)

not_there : (o : Option Row) → o ≡ None → (F : Row → Type 0) → IsSomeAnd o F → ⊥
not_there o e F h = subst (λ p. IsSomeAnd p F) e h

-- an anchor that isn't 0 is named again
named_again : (o : Option ℕ) → ((b : ℕ) → o ≡ Some b → (b == 0) ≡ false) → named_by (unwrap_or o 0) ≡ o
named_again None h = refl
named_again (Some b) h = rw (h b refl) refl

module _ (counts : Counted) (labels : Labels) (has : AreFormed counts labels) (numbers : List ℕ) (are : AreNumbers counts numbers) where
  abbrev of : ℕ → Line
  of n = line_in counts labels n

  abbrev lines : List Line
  lines = map of numbers

  abbrev row_at : ℕ → Option Row
  row_at n = maps.get counts.rows n

  -- ---- 0 is no number

  not_listed : (ns : List ℕ) → AllByRecursion (λ n. 1 ≤ n) ns → list_any (λ n. n == 0) ns ≡ false
  not_listed [] each = refl
  not_listed (n ∷ ns) each = elim (eqb_tells n 0) [
    | inl s ↦ let low : 1 ≤ n = each.0 in absurd (omega (arith, low, s.1))
    | inr o ↦ rw o.0 (not_listed ns each.1)
  ]

  no_row : is_some (row_at 0) ≡ false
  no_row = are.exact 0 ∙ not_listed numbers are.some

  core_row : (n : ℕ) → IsCore counts n → (r : Row) × (row_at n ≡ Some r) × (counts.minpts ≤ r.count)
  core_row n core = some_and (row_at n) (λ (r : Row). counts.minpts ≤ r.count) core

  core_not_0 : (n : ℕ) → IsCore counts n → (n == 0) ≡ false
  core_not_0 n core = elim (eqb_tells n 0) [
    | inl s ↦
        let r = core_row n core in
        let there : is_some (row_at 0) ≡ true = ap (λ k. is_some (row_at k)) (sym s.1) ∙ ap is_some r.1 in
        absurd (never (is_some (row_at 0)) no_row there)
    | inr o ↦ o.0
  ]

  -- ---- the line of a number

  with_in : (ns : List ℕ) (q : ℕ) → line_with (map of ns) q ≡ cond (list_any (λ n. n == q) ns) (Some (of q)) None
  with_in [] q = refl
  with_in (n ∷ ns) q = elim (eqb_tells n q) [
    | inl s ↦ rw s.0 (ap (λ k. Some (of k)) s.1)
    | inr o ↦ rw o.0 (with_in ns q)
  ]

  found : (q : ℕ) → line_with lines q ≡ cond (is_some (row_at q)) (Some (of q)) None
  found q = with_in numbers q ∙ ap (λ b. cond b (Some (of q)) None) (sym (are.exact q))

  found_some : (q : ℕ) (r : Row) → row_at q ≡ Some r → line_with lines q ≡ Some (of q)
  found_some q r is = found q ∙ ap (λ o. cond (is_some o) (Some (of q)) None) is

  count_is : (q : ℕ) (r : Row) → row_at q ≡ Some r → (of q).count ≡ r.count
  count_is q r is = ap count_in is

  anchor_is : (q : ℕ) (r : Row) → row_at q ≡ Some r → (of q).anchor ≡ unwrap_or r.anchor 0
  anchor_is q r is = ap (λ o. unwrap_or (anchor_in o) 0) is

  core_at : (q : ℕ) (r : Row) → row_at q ≡ Some r → counts.minpts ≤ r.count → IsCore counts q
  core_at q r is high = subst (λ o. IsSomeAnd o (λ (x : Row). counts.minpts ≤ x.count)) (sym is) high

  label_some : (q : ℕ) → IsCore counts q → (l : ℕ) × (maps.get labels q ≡ Some l)
  label_some q core = elim (known (maps.get labels q)) [
    | inl none ↦ absurd (let f : false ≡ true = ap is_some (sym none) ∙ (has.labelled q).1 core in cc)
    | inr some ↦ some
  ]

  label_core : (q l : ℕ) → maps.get labels q ≡ Some l → IsCore counts q
  label_core q l is = (has.labelled q).0 (ap is_some is)

  label_is : (q l : ℕ) → maps.get labels q ≡ Some l → (of q).label ≡ l
  label_is q l is = ap (λ o. unwrap_or o 0) is

  label_not_0 : (q l : ℕ) → maps.get labels q ≡ Some l → (l == 0) ≡ false
  label_not_0 q l is = core_not_0 l (label_core l l (has.least q l is).1)

  -- ---- the rows and the labels

  row_again : AreHung counts → (q : ℕ) (r : Row) → row_at q ≡ Some r → row_in (of q) ≡ r
  row_again hung q r is =
      let anchor : named_by (of q).anchor ≡ r.anchor = ap named_by (anchor_is q r is) ∙ named_again r.anchor (λ b at. core_not_0 b (hung q r b is at)) in
      let count = count_is q r is in
      λ i. record { count = count i; anchor = anchor i }

  rows_told : AreHung counts → (q : ℕ) → option_map row_in (line_with lines q) ≡ row_at q
  rows_told hung q = elim (known (row_at q)) [
    | inl none ↦ ap (option_map row_in) (found q ∙ ap (λ o. cond (is_some o) (Some (of q)) None) none) ∙ sym none
    | inr some ↦ ap (option_map row_in) (found_some q some.0 some.1) ∙ ap (λ (x : Row). Some x) (row_again hung q some.0 some.1) ∙ sym some.1
  ]

  pub rows_back : AreHung counts → rows_of lines ≡ counts.rows
  rows_back hung = maps.same_map nat_cmp_total maps.nat_cmp-IsAntisymmetric (rows_of lines) counts.rows (λ q. get_rows lines q ∙ rows_told hung q)

  no_label : (q : ℕ) → (IsCore counts q → ⊥) → maps.get labels q ≡ None
  no_label q plain = elim (known (maps.get labels q)) [
    | inl none ↦ none
    | inr some ↦ absurd (plain (label_core q some.0 some.1))
  ]

  labels_told : (q : ℕ) → label_in counts.minpts (line_with lines q) ≡ maps.get labels q
  labels_told q = elim (known (row_at q)) [
    | inl none ↦
        ap (label_in counts.minpts) (found q ∙ ap (λ o. cond (is_some o) (Some (of q)) None) none)
        ∙ sym (no_label q (not_there (row_at q) none (λ (r : Row). counts.minpts ≤ r.count)))
    | inr some ↦
        let r = some.0 in
        let count = count_is q r some.1 in
        ap (label_in counts.minpts) (found_some q r some.1)
        ∙ elim (told_both (nat_le counts.minpts (of q).count)) [
          | inl core ↦
              let high : counts.minpts ≤ r.count = subst (λ n. counts.minpts ≤ n) count (leb-true counts.minpts (of q).count core) in
              let its = label_some q (core_at q r some.1 high) in
              rw core (ap (λ n. Some n) (label_is q its.0 its.1) ∙ sym its.1)
          | inr plain ↦
              rw plain (sym (no_label q (λ core.
              let k = core_row q core in
              let one : k.0 ≡ r = same_value k.1 some.1 in
              let high : counts.minpts ≤ (of q).count = subst (λ n. counts.minpts ≤ n) (ap (λ (x : Row). x.count) one ∙ sym count) k.2 in
              never (nat_le counts.minpts (of q).count) plain (le-leb counts.minpts (of q).count high))))
        ]
  ]

  -- ---- lawful lines

  listed_row : (ns : List ℕ) (n : ℕ) (rest : List ℕ) → ((a : ℕ) → list_any (λ m. m == a) (n ∷ rest) ≡ true → is_some (row_at a) ≡ true) → is_some (row_at n) ≡ true
  listed_row ns n rest all = all n (rw (equal n) refl)

  lawful_line : (n : ℕ) (r : Row) → 1 ≤ n → row_at n ≡ Some r → IsLine counts.minpts (of n)
  lawful_line n r low is =
      let count = count_is n r is in
      let some = has.counted n r is in
      record {
        number = low;
        count = omega (arith, some, count);
        unhung = λ high.
            let core : counts.minpts ≤ r.count = omega (arith, high, count) in
            anchor_is n r is ∙ ap (λ o. unwrap_or o 0) (has.unhung n r is core);
        labelled = λ high.
            let core : counts.minpts ≤ r.count = omega (arith, high, count) in
            let its = label_some n (core_at n r is core) in
            subst (λ l. 1 ≤ l) (sym (label_is n its.0 its.1)) (above its.0 (label_not_0 n its.0 its.1));
        least = λ high.
            let core : counts.minpts ≤ r.count = omega (arith, high, count) in
            let its = label_some n (core_at n r is core) in
            subst (λ l. l ≤ n) (sym (label_is n its.0 its.1)) (has.least n its.0 its.1).0;
        unlabelled = λ few.
            ap (λ o. unwrap_or o 0) (no_label n (λ core.
            let k = core_row n core in
            let one : k.0.count ≡ r.count = ap (λ (x : Row). x.count) (same_value k.1 is) in
            let high = k.2 in
            omega (arith, few, high, one, count)));
      } where
        above : (l : ℕ) → (l == 0) ≡ false → 1 ≤ l
        above l h = elim (eqb_tells l 0) [ inl s ↦ absurd (never (l == 0) h s.0) | inr o ↦ omega (arith, o.1) ]

  tied_line : AreHung counts → (n : ℕ) (r : Row) → row_at n ≡ Some r → IsTied (is_core_line counts.minpts lines) (leads counts.minpts lines) (of n)
  tied_line hung n r is = record {
    anchor = λ h. elim (known r.anchor) [
      | inl none ↦ absurd (never ((of n).anchor == 0) h (ap (λ a. a == 0) (anchor_is n r is ∙ ap (λ o. unwrap_or o 0) none) ∙ equal 0))
      | inr some ↦
          let at : (of n).anchor ≡ some.0 = anchor_is n r is ∙ ap (λ o. unwrap_or o 0) some.1 in
          let core = core_row some.0 (hung n r some.0 is some.1) in
          let high : counts.minpts ≤ (of some.0).count = subst (λ k. counts.minpts ≤ k) (sym (count_is some.0 core.0 core.1)) core.2 in
          ap (is_core_line counts.minpts lines) at ∙ ap (is_core counts.minpts) (found_some some.0 core.0 core.1) ∙ le-leb counts.minpts (of some.0).count high
    ];
    label = λ h. elim (known (maps.get labels n)) [
      | inl none ↦ absurd (never ((of n).label == 0) h (ap (λ o. unwrap_or o 0 == 0) none ∙ equal 0))
      | inr some ↦
          let l = some.0 in
          let own = (has.least n l some.1).1 in
          let core = core_row l (label_core l l own) in
          let high : counts.minpts ≤ (of l).count = subst (λ k. counts.minpts ≤ k) (sym (count_is l core.0 core.1)) core.2 in
          ap (leads counts.minpts lines) (label_is n l some.1) ∙ ap (is_head counts.minpts) (found_some l core.0 core.1)
          ∙ rw (le-leb counts.minpts (of l).count high, label_is l l own) (equal l)
    ];
  }

  each_line : (P : Line → Type 0) → ((n : ℕ) (r : Row) → 1 ≤ n → row_at n ≡ Some r → P (of n)) → (ns : List ℕ) → AllByRecursion (λ n. 1 ≤ n) ns → ((a : ℕ) → list_any (λ m. m == a) ns ≡ true → is_some (row_at a) ≡ true) → AllByRecursion P (map of ns)
  each_line P each [] low there = tt
  each_line P each (n ∷ ns) low there =
      let here : is_some (row_at n) ≡ true = there n (let e : list_any (λ m. m == n) (n ∷ ns) ≡ true = rw (equal n) refl in e) in (
        elim (known (row_at n)) [
          | inl none ↦ absurd (let f : false ≡ true = ap is_some (sym none) ∙ here in cc)
          | inr some ↦ each n some.0 low.0 some.1
        ],
        each_line P each ns low.1 (λ a h. there a (elim (eqb_tells n a) [ inl s ↦ rw s.0 refl | inr o ↦ rw o.0 h ])),
      )

  all_lines : (P : Line → Type 0) → ((n : ℕ) (r : Row) → 1 ≤ n → row_at n ≡ Some r → P (of n)) → AllByRecursion P lines
  all_lines P each = each_line P each numbers are.some (λ a h. are.exact a ∙ h)

  numbers_back : (ns : List ℕ) → map number_of (map of ns) ≡ ns
  numbers_back [] = refl
  numbers_back (n ∷ ns) = ap (λ xs. n ∷ xs) (numbers_back ns)

  lines_once : AreOnce (map number_of lines)
  lines_once = subst AreOnce (sym (numbers_back numbers)) are.once

  pub lawful_lines : AreLines counts.minpts lines
  lawful_lines = record { each = all_lines (IsLine counts.minpts) lawful_line; once = lines_once }

  pub came_back : AreHung counts → AreLinesOf counts labels lines
  came_back hung = record {
    lawful = lawful_lines;
    tied = each_tied (is_core_line counts.minpts lines) (leads counts.minpts lines) 0 lines (all_lines (IsTied (is_core_line counts.minpts lines) (leads counts.minpts lines)) (λ n r low is. tied_line hung n r is));
    rows = rows_back hung;
    labels_are = labels_same (labels_of counts.minpts lines) labels (λ q. get_labels counts.minpts lines q lines_once ∙ labels_told q);
  }

pub books_come_back : BooksComeBack
books_come_back counts labels numbers has are =
    let formed : AreFormed counts labels = record {
      counted = has.counted;
      unhung = has.unhung;
      labelled = has.labelled;
      least = has.least;
    } in came_back counts labels formed numbers are has.anchored

pub lines_are_lawful : LinesAreLawful
lines_are_lawful counts labels numbers has are = lawful_lines counts labels has numbers are
