-- The clusters that lines lead, founded one by one, and the labels in the end.
use Rattle.std.proofs.Common.{◌≡◌, ℕ, ◌&&◌, Bool, true, false, cond, List, [], ◌∷◌, ◌++◌, refl, sym, ap, subst, ◌∙◌, inl, inr, ◌⊎◌, None, Some, arith}
use Rattle.std.specs.Prelude.{◌==◌, nat_eq, nat_le}
use Rattle.std.specs.declared.option.Option.{Option}
use Rattle.std.specs.Option.{option_or, option_map, option_eq}
use Rattle.std.specs.Ordering.{nat_cmp}
use Rattle.std.specs.FinMap as maps
use Rattle.std.proofs.lemmas.Bool.{leb-true}
use Rattle.std.proofs.lemmas.Bool.Decides.{eqb_tells}
use Rattle.label_book.specs.Labels.{Labels, IsMember, IsFounded}
use Rattle.label_book.proofs.Views.{same_value, no_value, labels_same}
use Rattle.stored_lines.specs.declared.line.Line.{Line}
use Rattle.stored_lines.specs.Lines.{AreLines, IsLine, line_with, is_core, is_head, is_core_line, leads, first_loose, row_in, labels_of}
use Rattle.stored_lines.specs.Laws.{counts_of}
use Rattle.stored_lines.specs.inside.Steps.{is_core_row, core_in, leads_in, numbers_with, is_leader, IsReady, led_label, IsLed, IsLedBy}
use Rattle.stored_lines.proofs.Numbers.{equal, some_member}
use Rattle.stored_lines.proofs.Looked.{found_each, get_rows, label_in, get_labels, with_last, found_between, new_between}
use Rattle.stored_lines.proofs.Tied.{IsTied, tied_each}
use Rattle.stored_lines.proofs.Members.{IsLabelled, in_group, to_group, group_once}

pub told_both : (b : Bool) → (b ≡ true) ⊎ (b ≡ false)
told_both true = inl refl
told_both false = inr refl

pub known_line : (o : Option Line) → (o ≡ None) ⊎ ((l : Line) × (o ≡ Some l))
known_line None = inl refl
known_line (Some l) = inr (l, refl)

pub never : (b : Bool) → b ≡ false → b ≡ true → ⊥
never b e f = let g : false ≡ true = sym e ∙ f in cc

-- a leader's label is its number, and it is a core
pub leader_parts : (minpts : ℕ) (l : Line) → is_leader minpts l ≡ true → (nat_le minpts l.count ≡ true) × (l.label ≡ l.number)
leader_parts minpts l is = leader_by (nat_le minpts l.count) l is where
  leader_by : (b : Bool) (k : Line) → (b && (k.label == k.number)) ≡ true → (b ≡ true) × (k.label ≡ k.number)
  leader_by true k h = (refl, elim (eqb_tells k.label k.number) [ inl s ↦ s.1 | inr o ↦ absurd (never (k.label == k.number) o.0 h) ])
  leader_by false k h = absurd (never false refl h)

-- ---- what a leader may found

no_lead : (minpts label : ℕ) (seen : List Line) (o : Option Line) → line_with seen label ≡ None → IsLabelled minpts label o → led_label minpts seen o ≡ None
no_lead minpts label seen o none k =
    let apart : leads minpts seen k.line.label ≡ false = ap (leads minpts seen) k.label_is ∙ ap (is_head minpts) none in
    ap (led_label minpts seen) k.is ∙ rw (k.core, apart) refl

pub ready : (minpts : ℕ) (seen : List Line) (l : Line) (rest : List Line) (labels : Labels) (group : List ℕ) → AreLines minpts (seen ++ l ∷ rest) → IsLed minpts (seen ++ l ∷ rest) seen labels
    → group ≡ numbers_with minpts (seen ++ l ∷ rest) l.number → is_leader minpts l ≡ true → IsReady labels l.number group
ready minpts seen l rest labels group lines led is lead =
    let all = seen ++ l ∷ rest in
    let parts = leader_parts minpts l lead in
    let here : IsMember (numbers_with minpts all l.number) l.number = to_group minpts l.number all l.number lines.once l (found_between seen l rest lines.once) parts.0 parts.1 in
    let all_ready : IsReady labels l.number (numbers_with minpts all l.number) = record {
      some = some_member (numbers_with minpts all l.number) l.number here;
      once = group_once minpts l.number all lines.once;
      free = λ q m. led q ∙ no_lead minpts l.number seen (line_with all q) (new_between seen l rest lines.once) (in_group minpts l.number all q lines.once m);
      least = (
        here,
        λ i q m.
            let k = in_group minpts l.number all q lines.once (i, m) in
            let found = found_each (IsLine minpts) all q k.line lines.each k.is in
            let low = found.0.least (leb-true minpts k.line.count k.core) in
            omega (arith, low, k.label_is, found.1),
      );
    } in
    subst (IsReady labels l.number) (sym is) all_ready

-- ---- what is led then

pub led_start : (minpts : ℕ) (lines : List Line) (labels : Labels) → labels ≡ maps.empty → IsLed minpts lines [] labels
led_start minpts lines labels e q =
    ap (λ m. maps.get m q) e ∙ maps.get-empty nat_cmp q ∙ sym (unled (line_with lines q)) where
      and_false : (b : Bool) (x : Option ℕ) → cond (b && false) x None ≡ None
      and_false true x = refl
      and_false false x = refl

      unled : (o : Option Line) → led_label minpts [] o ≡ None
      unled None = refl
      unled (Some l) = and_false (nat_le minpts l.count) (Some l.label)

leads_other : (minpts : ℕ) (seen : List Line) (l : Line) (n : ℕ) → (l.number ≡ n → ⊥) → leads minpts (seen ++ l ∷ []) n ≡ leads minpts seen n
leads_other minpts seen l n other =
    ap (is_head minpts) (with_last seen l n)
    ∙ elim (eqb_tells l.number n) [ inl s ↦ absurd (other s.1) | inr o ↦ rw o.0 (or_none (line_with seen n)) ] where
      or_none : (o : Option Line) → is_head minpts (option_or o None) ≡ is_head minpts o
      or_none None = refl
      or_none (Some k) = refl

leads_less : (minpts : ℕ) (seen : List Line) (l : Line) (n : ℕ) → is_leader minpts l ≡ false → leads minpts (seen ++ l ∷ []) n ≡ leads minpts seen n
leads_less minpts seen l n plain =
    ap (is_head minpts) (with_last seen l n) ∙ or_last (line_with seen n) (l.number == n) where
      or_last : (o : Option Line) (b : Bool) → is_head minpts (option_or o (cond b (Some l) None)) ≡ is_head minpts o
      or_last None true = plain
      or_last None false = refl
      or_last (Some k) b = refl

leads_here : (minpts : ℕ) (seen : List Line) (l : Line) → line_with seen l.number ≡ None → is_leader minpts l ≡ true → leads minpts (seen ++ l ∷ []) l.number ≡ true
leads_here minpts seen l none lead =
    ap (is_head minpts) (with_last seen l l.number) ∙ rw (none, equal l.number) lead

led_alike : (minpts : ℕ) (seen more : List Line) (o : Option Line) → ((l : Line) → o ≡ Some l → leads minpts more l.label ≡ leads minpts seen l.label) → led_label minpts seen o ≡ led_label minpts more o
led_alike minpts seen more None h = refl
led_alike minpts seen more (Some l) h = ap (λ b. cond (nat_le minpts l.count && b) (Some l.label) None) (sym (h l refl))

led_more_line : (minpts : ℕ) (seen : List Line) (l : Line) (rest : List Line) (old new : Labels) → AreLines minpts (seen ++ l ∷ rest) → IsLed minpts (seen ++ l ∷ rest) seen old
    → IsFounded old (numbers_with minpts (seen ++ l ∷ rest) l.number) l.number new → is_leader minpts l ≡ true → (q : ℕ) (k : Line) → line_with (seen ++ l ∷ rest) q ≡ Some k
    → maps.get new q ≡ led_label minpts (seen ++ l ∷ []) (Some k)
led_more_line minpts seen l rest old new lines led founded lead q k is =
    let all = seen ++ l ∷ rest in
    let group = numbers_with minpts all l.number in
    let none = new_between seen l rest lines.once in
    let was : maps.get old q ≡ led_label minpts seen (Some k) = led q ∙ ap (led_label minpts seen) is in
    let same_line : (g : IsLabelled minpts l.number (line_with all q)) → g.line ≡ k = λ g. same_value g.is is in
    elim (told_both (nat_le minpts k.count)) [
      | inr plain ↦
          let out : IsMember group q → ⊥ = λ m.
          let g = in_group minpts l.number all q lines.once m in
          never (nat_le minpts k.count) plain (subst (λ (x : Line). nat_le minpts x.count ≡ true) (same_line g) g.core) in
          (founded q).1 out ∙ was ∙ rw plain refl
      | inl core ↦ elim (eqb_tells k.label l.number) [
        | inl s ↦
            let lead_here : leads minpts (seen ++ l ∷ []) k.label ≡ true = ap (leads minpts (seen ++ l ∷ [])) s.1 ∙ leads_here minpts seen l none lead in
            (founded q).0 (to_group minpts l.number all q lines.once k is core s.1) ∙ rw (core, lead_here) (ap (λ n. Some n) (sym s.1))
        | inr o ↦
            let out : IsMember group q → ⊥ = λ m.
            let g = in_group minpts l.number all q lines.once m in
            o.1 (subst (λ (x : Line). x.label ≡ l.number) (same_line g) g.label_is) in
            (founded q).1 out ∙ was ∙ led_alike minpts seen (seen ++ l ∷ []) (Some k) (λ x e.
            let here : k.label ≡ x.label = ap (λ (y : Line). y.label) (same_value refl e) in
            leads_other minpts seen l x.label (λ d. o.1 (here ∙ sym d)))
      ]
    ]

pub led_more : (minpts : ℕ) (seen : List Line) (l : Line) (rest : List Line) (old new : Labels) (group : List ℕ) → AreLines minpts (seen ++ l ∷ rest) → IsLed minpts (seen ++ l ∷ rest) seen old
    → group ≡ numbers_with minpts (seen ++ l ∷ rest) l.number → IsLedBy minpts l group old new → IsLed minpts (seen ++ l ∷ rest) (seen ++ l ∷ []) new
led_more minpts seen l rest old new group lines led is by q =
    let all = seen ++ l ∷ rest in
    elim (told_both (is_leader minpts l)) [
      | inl lead ↦
          let founded = subst (λ g. IsFounded old g l.number new) is (by.0 lead) in
          elim (known_line (line_with all q)) [
            | inl none ↦
                let out : IsMember (numbers_with minpts all l.number) q → ⊥ = λ m. no_value none (in_group minpts l.number all q lines.once m).is in
                (founded q).1 out ∙ led q ∙ ap (led_label minpts seen) none ∙ sym (ap (led_label minpts (seen ++ l ∷ [])) none)
            | inr some ↦
                led_more_line minpts seen l rest old new lines led founded lead q some.0 some.1 ∙ sym (ap (led_label minpts (seen ++ l ∷ [])) some.1)
          ]
      | inr plain ↦
          ap (λ m. maps.get m q) (by.1 plain) ∙ led q ∙ led_alike minpts seen (seen ++ l ∷ []) (line_with all q) (λ x e. leads_less minpts seen l x.label plain)
    ]

-- ---- all lines

-- what the labels tell of a number is whether it leads
pub leads_told : (minpts : ℕ) (lines : List Line) (labels : Labels) → AreLines minpts lines → IsLed minpts lines lines labels → (n : ℕ) → leads_in labels n ≡ leads minpts lines n
leads_told minpts lines labels are led n =
    ap (λ o. option_eq nat_eq o (Some n)) (led n) ∙ told (line_with lines n) refl where
      seen_by : (l : Line) (b : Bool) → l.number ≡ n → line_with lines n ≡ Some l → nat_le minpts l.count ≡ b → option_eq nat_eq (cond (b && leads minpts lines l.label) (Some l.label) None) (Some n) ≡ (b && (l.label == l.number))
      seen_by l false is at core = refl
      seen_by l true is at core =
          elim (eqb_tells l.label l.number) [
            | inl s ↦
                let itself : leads minpts lines l.label ≡ true = ap (leads minpts lines) (s.1 ∙ is) ∙ ap (is_head minpts) at ∙ rw (core, s.0) refl in
                rw (itself, s.0) (rw (s.1 ∙ is) (equal n))
            | inr o ↦ rw o.0 (elim (leads minpts lines l.label) as (λ c. option_eq nat_eq (cond c (Some l.label) None) (Some n) ≡ false) [
              | true ↦ elim (eqb_tells l.label n) [ inl t ↦ absurd (o.1 (t.1 ∙ sym is)) | inr t ↦ t.0 ]
              | false ↦ refl
            ])
          ]

      told : (o : Option Line) → line_with lines n ≡ o → option_eq nat_eq (led_label minpts lines o) (Some n) ≡ is_head minpts o
      told None at = refl
      told (Some l) at = seen_by l (nat_le minpts l.count) (found_each (IsLine minpts) lines n l are.each at).1 at refl

-- what the counts tell of a number is whether it is core
pub core_told : (minpts : ℕ) (lines : List Line) (n : ℕ) → core_in (counts_of minpts lines) n ≡ is_core_line minpts lines n
core_told minpts lines n = ap (is_core_row minpts) (get_rows lines n) ∙ told (line_with lines n) where
  told : (o : Option Line) → is_core_row minpts (option_map row_in o) ≡ is_core minpts o
  told None = refl
  told (Some l) = refl

-- where no label is loose, each core is led
pub label_leads : (minpts : ℕ) (lines : List Line) → AreLines minpts lines → first_loose minpts lines ≡ None → (q : ℕ) (l : Line) → line_with lines q ≡ Some l → nat_le minpts l.count ≡ true → leads minpts lines l.label ≡ true
label_leads minpts lines are tied q l is core =
    let line = found_each (IsLine minpts) lines q l are.each is in
    let ties = found_each (IsTied (is_core_line minpts lines) (leads minpts lines)) lines q l (tied_each (is_core_line minpts lines) (leads minpts lines) 0 lines tied) is in
    let low = line.0.labelled (leb-true minpts l.count core) in
    ties.0.label (elim (eqb_tells l.label 0) [ inl s ↦ absurd (omega (arith, low, s.1)) | inr o ↦ o.0 ])

pub labels_are : (minpts : ℕ) (lines : List Line) (labels : Labels) → AreLines minpts lines → IsLed minpts lines lines labels → first_loose minpts lines ≡ None → labels ≡ labels_of minpts lines
labels_are minpts lines labels are led tied =
    labels_same labels (labels_of minpts lines) (λ q. led q ∙ told q (line_with lines q) refl ∙ sym (get_labels minpts lines q are.once)) where
      by_core : (q : ℕ) (l : Line) (b : Bool) → line_with lines q ≡ Some l → nat_le minpts l.count ≡ b → cond (b && leads minpts lines l.label) (Some l.label) None ≡ cond b (Some l.label) None
      by_core q l true is core = rw (label_leads minpts lines are tied q l is core) refl
      by_core q l false is core = refl

      told : (q : ℕ) (o : Option Line) → line_with lines q ≡ o → led_label minpts lines o ≡ label_in minpts o
      told q None is = refl
      told q (Some l) is = by_core q l (nat_le minpts l.count) is refl
