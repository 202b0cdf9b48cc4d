-- Lines of which each is lawful and no two have one number.
use Rattle.std.proofs.Common.{◌≡◌, inl, inr, ℕ, ◌+◌, Bool, true, false, cond, List, [], ◌∷◌, ◌++◌, map, refl, sym, ◌∙◌, ap, subst, arith, IsTrue}
use Rattle.std.specs.Prelude.{◌==◌, count_by, nat_le}
use Rattle.std.specs.List.{AllByRecursion}
use Rattle.std.proofs.lemmas.Bool.{cases_eq, eq-eqb, ne_eqb, eqb-true, le-leb, lt-leb, leb-true, or_parts, and_parts}
use Rattle.std.proofs.lemmas.List.{map_push}
use Rattle.stored_lines.specs.declared.line.Line.{Line}
use Rattle.stored_lines.specs.Lines.{AreLines, AreOnce, IsLine, number_of}
use Rattle.stored_lines.proofs.Numbers.{counted, counted_not}
use Rattle.page_layout.specs.declared.slot.Slot.{Slot}
use Rattle.page_layout.specs.Heads.{Values}
use Rattle.page_layout.specs.Slots.{IsSlot}
use Rattle.vec_record.specs.Limits.{is_between}
use Rattle.node_places.specs.Slots.{has}
use Rattle.store_image.specs.inside.Reads.{line_with}

count_push : (q : ℕ) (ns : List ℕ) (n : ℕ) → count_by (λ m. m == q) (ns ++ n ∷ []) ≡ count_by (λ m. m == q) ns + cond (n == q) 1 0
count_push q [] n = omega (arith, counted q n [])
count_push q (k ∷ ns) n = omega (arith, counted q k (ns ++ n ∷ []), counted q k ns, count_push q ns n)

absent_count : (q : ℕ) (ns : List ℕ) → has ns q ≡ false → count_by (λ m. m == q) ns ≡ 0
absent_count q [] away = refl
absent_count q (k ∷ ns) away =
    let parts = or_parts (k == q) (has ns q) away in
    counted_not q k ns parts.0 ∙ absent_count q ns parts.1

pub once_more : (ns : List ℕ) (n : ℕ) → AreOnce ns → has ns n ≡ false → AreOnce (ns ++ n ∷ [])
once_more ns n once away q = elim (cases_eq n q) [
  | inl same ↦
      let none : count_by (λ m. m == q) ns ≡ 0 = absent_count q ns (subst (λ (k : ℕ). has ns k ≡ false) same away) in
      let one : ◌≡◌ {A = ℕ} (cond (n == q) 1 0) 1 = ap (λ (b : Bool). cond {A = ℕ} b 1 0) (eq-eqb n q same) in
      omega (arith, count_push q ns n, none, one)
  | inr differ ↦
      let none : ◌≡◌ {A = ℕ} (cond (n == q) 1 0) 0 = ap (λ (b : Bool). cond {A = ℕ} b 1 0) (ne_eqb n q differ) in
      omega (arith, count_push q ns n, once q, none)
]

pub all_push : {A : Type 0} (P : A → Type 0) (xs : List A) (x : A) → AllByRecursion P xs → P x → AllByRecursion P (xs ++ x ∷ [])
all_push P [] x all one = (one, tt)
all_push P (y ∷ xs) x all one = (all.0, all_push P xs x all.1 one)

pub slot_line : (v : Values) (s : Slot) → IsSlot v s → IsLine v.minpts (line_with s)
slot_line v s is = record {
  number = let some = is.number in omega (arith, some);
  count = is.count;
  unhung = λ high. eqb-true s.anchor 0 (anchored (nat_le v.minpts s.count) (le-leb v.minpts s.count high) is.anchor);
  labelled = λ high. leb-true 1 s.label (and_parts (nat_le 1 s.label) (nat_le s.label s.number) (labelled (nat_le v.minpts s.count) (le-leb v.minpts s.count high) is.label)).0;
  least = λ high. leb-true s.label s.number (and_parts (nat_le 1 s.label) (nat_le s.label s.number) (labelled (nat_le v.minpts s.count) (le-leb v.minpts s.count high) is.label)).1;
  unlabelled = λ low. eqb-true s.label 0 (unlabelled (nat_le v.minpts s.count) (lt-leb v.minpts s.count low) is.label);
}
  where
    anchored : (b : Bool) → b ≡ true → IsTrue (cond b (s.anchor == 0) true) → (s.anchor == 0) ≡ true
    anchored true core is = is
    anchored false core is = absurd (let no : false ≡ true = core in cc)

    labelled : (b : Bool) → b ≡ true → IsTrue (cond b (is_between 1 s.number s.label) (s.label == 0)) → is_between 1 s.number s.label ≡ true
    labelled true core is = is
    labelled false core is = absurd (let no : false ≡ true = core in cc)

    unlabelled : (b : Bool) → b ≡ false → IsTrue (cond b (is_between 1 s.number s.label) (s.label == 0)) → (s.label == 0) ≡ true
    unlabelled false other is = is
    unlabelled true other is = absurd (let no : true ≡ false = other in cc)

pub lines_more : (minpts : ℕ) (lines : List Line) (line : Line) → AreLines minpts lines → IsLine minpts line → has (map number_of lines) line.number ≡ false → AreLines minpts (lines ++ line ∷ [])
lines_more minpts lines line are is away = record {
  each = all_push (IsLine minpts) lines line are.each is;
  once = subst AreOnce (sym (map_push number_of lines line)) (once_more (map number_of lines) line.number are.once away);
}
