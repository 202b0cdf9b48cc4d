-- Under books that stand for records, the books give each number its mark.
use Rattle.std.proofs.Common.{◌≡◌, ℕ, Bool, true, false, cond, List, [], ◌∷◌, map, filter, nat_eq, None, Some, is_some, IsTrue, IsSome, refl, sym, ap, subst, ◌∙◌, inl, inr, unwrap_or}
use lib.Dec.{T}
use Rattle.std.specs.List.{list_any}
use Rattle.std.specs.Option.{option_map}
use Rattle.std.specs.Ordering.{nat_cmp}
use Rattle.std.specs.declared.option.Option.{Option}
use Rattle.std.specs.FinMap as finite
use Rattle.std.specs.FinMap.Entries.{is_sorted, find as value_at}
use Rattle.std.proofs.lemmas.Bool.{cases_Bool}
use Rattle.std.proofs.lemmas.Bool.Decides.{eqb_tells}
use Rattle.vec_record.specs.Held.{Held, Rows}
use Rattle.plain_dbscan.specs.declared.marks.Mark.{Mark}
use Rattle.plain_dbscan.specs.declared.marks.Mark.TheVariants.{Noise}
use Rattle.plain_dbscan.specs.Marks.{Density, Entries, numbers_of, is_core, size_of, cluster_of, anchor_of, outer_mark, mark_of, marks_of}
use Rattle.plain_dbscan.specs.Cases.{is_core_of, is_member_of}
use Rattle.plain_dbscan.proofs.Chains.{Member, first_of_both, either, left_or, right_or}
use Rattle.plain_dbscan.proofs.CoresOf.{anchor_is, core_mark, other_mark, among}
use Rattle.plain_dbscan.proofs.MarksRise.{mark_at_marks, mark_in_marks}
use Rattle.count_book.specs.declared.row.Row.{Row}
use Rattle.count_book.specs.Counted.{Counted, row_of, anchor_in}
use Rattle.label_book.specs.Labels.{Labels}
use Rattle.label_book.proofs.Views.{no_value}
use Rattle.update_seed.specs.Books.{StandsFor}
use Rattle.kept_clusters.specs.Asked.{mark_due, members_of}
use Rattle.kept_clusters.specs.inside.Looked.{border_of, hung_mark, mark_by, mark_in_books, marks_in_books}

-- a test of some number of a list
any_in : (p : ℕ × Mark → Bool) (f : ℕ → Mark) (xs : List ℕ) → IsTrue (list_any p (map (λ a. (a, f a)) xs)) → (a : ℕ) × (Member a xs × IsTrue (p (a, f a)))
any_in p f [] h = absurd (cc)
any_in p f (x ∷ xs) h = elim (either (p (x, f x)) (list_any p (map (λ a. (a, f a)) xs)) h) [
  | inl k ↦ (x, (inl refl, k))
  | inr k ↦ let r = any_in p f xs k in (r.0, (inr r.1.0, r.1.1))
]

in_any : (p : ℕ × Mark → Bool) (f : ℕ → Mark) (xs : List ℕ) (a : ℕ) → Member a xs → IsTrue (p (a, f a)) → IsTrue (list_any p (map (λ b. (b, f b)) xs))
in_any p f [] a m h = absurd m
in_any p f (x ∷ xs) a (inl s) h = left_or (p (x, f x)) (list_any p (map (λ b. (b, f b)) xs)) (subst (λ (b : ℕ). IsTrue (p (b, f b))) s h)
in_any p f (x ∷ xs) a (inr m) h = right_or (p (x, f x)) (list_any p (map (λ b. (b, f b)) xs)) (in_any p f xs a m h)

equal_of : (a b : ℕ) → IsTrue (nat_eq a b) → a ≡ b
equal_of a b h = elim (eqb_tells a b) [ inl t ↦ t.1 | inr f ↦ let bad : false ≡ true = sym f.0 ∙ h in absurd (cc) ]

of_equal : (a b : ℕ) → a ≡ b → IsTrue (nat_eq a b)
of_equal a b e = elim (eqb_tells a b) [ inl t ↦ t.0 | inr f ↦ absurd (f.1 e) ]

outer_not_of : (d : Density) (es : Entries) (l : ℕ) (o : Option ℕ) → is_core_of l (outer_mark d es o) ≡ false
outer_not_of d es l None = refl
outer_not_of d es l (Some b) = refl

-- whether a count was found is whether the number is in the book
pub counted_there : (o : Option Row) (n : ℕ) → Some n ≡ option_map (λ (r : Row). r.count) o → is_some o ≡ true
counted_there None n e = absurd (no_value refl (sym e))
counted_there (Some r) n e = refl

pub no_label : {X : Type 0} (o : Option X) → is_some o ≡ false → (P : Type 0) → (P → IsSome o) → P → ⊥
no_label o off P some p = let bad : false ≡ true = sym off ∙ some p in cc

pub counted_absent : (o : Option Row) → None ≡ option_map (λ (r : Row). r.count) o → is_some o ≡ false
counted_absent None e = refl
counted_absent (Some r) e = absurd (no_value refl e)

module _ {d : Density} {width : ℕ} {contents : Rows} {records : Held} {counts : Counted} {labels : Labels} (stands : StandsFor d width contents records counts labels) where
  abbrev es : Entries
  es = finite.entries records.vectors

  sorted : T (is_sorted nat_cmp es)
  sorted = finite.entries_sorted records.vectors

  label_is : (a : ℕ) → IsTrue (is_core d es a) → finite.get labels a ≡ Some (cluster_of d es a)
  label_is a core = stands.labels_due a ∙ ap (λ b. cond b (Some (cluster_of d es a)) None) core

  label_none : (a : ℕ) → is_core d es a ≡ false → finite.get labels a ≡ None
  label_none a off = stands.labels_due a ∙ ap (λ b. cond b (Some (cluster_of d es a)) None) off

  hung : (a : ℕ) (o : Option ℕ) → anchor_of d es a ≡ o → hung_mark labels o ≡ outer_mark d es o
  hung a None e = refl
  hung a (Some b) e = ap border_of (label_is b (anchor_is d es sorted a b e).is_core)

  present : (a : ℕ) → is_some (finite.get records.vectors a) ≡ true → anchor_in (finite.get counts.rows a) ≡ anchor_of d es a
  present a there = ap anchor_in (stands.rows a ∙ ap (λ (b : Bool). cond b (Some (row_of (size_of d es a) (anchor_of d es a))) None) there)

  absent_row : (a : ℕ) → is_some (finite.get records.vectors a) ≡ false → anchor_in (finite.get counts.rows a) ≡ None
  absent_row a off = ap anchor_in (stands.rows a ∙ ap (λ (b : Bool). cond b (Some (row_of (size_of d es a) (anchor_of d es a))) None) off)

  absent_mark : (a : ℕ) → is_some (finite.get records.vectors a) ≡ false → mark_of d es a ≡ Noise
  absent_mark a off =
      let gone : is_some (value_at nat_cmp a es) ≡ false = ap is_some (sym (finite.get-entries records.vectors a)) ∙ off in
      sym (mark_in_marks d es a) ∙ ap (λ (m : Option Mark). unwrap_or m Noise) (mark_at_marks d es a ∙ ap (λ b. cond b (Some (mark_of d es a)) None) gone)

  pub mark_is : (a : ℕ) → mark_in_books counts labels a ≡ mark_of d es a
  mark_is a = elim (cases_Bool (is_core d es a)) [
    | inl core ↦ ap (λ o. mark_by labels o (anchor_in (finite.get counts.rows a))) (label_is a core) ∙ sym (core_mark d es a core)
    | inr off ↦
        let outer : mark_in_books counts labels a ≡ hung_mark labels (anchor_in (finite.get counts.rows a)) =
        ap (λ o. mark_by labels o (anchor_in (finite.get counts.rows a))) (label_none a off) in
        elim (cases_Bool (is_some (finite.get records.vectors a))) [
          | inl there ↦ outer ∙ ap (hung_mark labels) (present a there) ∙ hung a (anchor_of d es a) refl ∙ sym (other_mark d es a off)
          | inr gone ↦ outer ∙ ap (hung_mark labels) (absent_row a gone) ∙ sym (absent_mark a gone)
        ]
  ]

  pub marks_are : marks_in_books counts labels es ≡ marks_of d es
  marks_are = let same : mark_in_books counts labels ≡ mark_of d es = λ i a. mark_is a i in ap (λ (f : ℕ → Mark). map (λ a. (a, f a)) (numbers_of es)) same

  -- the mark that is due, by whether the number is in the book
  pub due_there : (a : ℕ) → is_some (finite.get counts.rows a) ≡ true → Some (mark_in_books counts labels a) ≡ mark_due d records.vectors a
  due_there a there =
      ap (λ m. Some m) (mark_is a) ∙ sym (ap (λ b. cond b (Some (mark_of d es a)) None) (sym (stands.fits.numbers a) ∙ there))

  pub due_absent : (a : ℕ) → is_some (finite.get counts.rows a) ≡ false → None ≡ mark_due d records.vectors a
  due_absent a off = sym (ap (λ b. cond b (Some (mark_of d es a)) None) (sym (stands.fits.numbers a) ∙ off))

  -- a core has the label exactly where it is its own label in the book
  of_core : (l a : ℕ) → IsTrue (is_core_of l (mark_of d es a)) → IsTrue (is_core d es a) × (cluster_of d es a ≡ l)
  of_core l a t = elim (cases_Bool (is_core d es a)) [
    | inl h ↦ (h, equal_of (cluster_of d es a) l (sym (ap (is_core_of l) (core_mark d es a h)) ∙ t))
    | inr h ↦ let bad : false ≡ true = sym (ap (is_core_of l) (other_mark d es a h) ∙ outer_not_of d es l (anchor_of d es a)) ∙ t in absurd (cc)
  ]

  abbrev has_core : ℕ → Bool
  has_core l = list_any (λ (m : ℕ × Mark). is_core_of l m.1) (marks_of d es)

  label_of_some : (l : ℕ) → IsTrue (has_core l) → finite.get labels l ≡ Some l
  label_of_some l t =
      let r = any_in (λ (m : ℕ × Mark). is_core_of l m.1) (mark_of d es) (numbers_of es) t in
      let c = of_core l r.0 r.1.1 in
      (stands.fits.least r.0 l (label_is r.0 c.0 ∙ ap (λ k. Some k) c.1)).1

  some_of_label : (l : ℕ) → finite.get labels l ≡ Some l → IsTrue (has_core l)
  some_of_label l at = elim (cases_Bool (is_core d es l)) [
    | inl core ↦
        let own : cluster_of d es l ≡ l = ap (λ (o : Option ℕ). unwrap_or o l) (sym (label_is l core) ∙ at) in
        let is : IsTrue (is_core_of l (mark_of d es l)) = ap (is_core_of l) (core_mark d es l core) ∙ of_equal (cluster_of d es l) l own in
        in_any (λ (m : ℕ × Mark). is_core_of l m.1) (mark_of d es) (numbers_of es) l (among es l (first_of_both _ _ core)) is
    | inr off ↦ absurd (no_value (label_none l off) at)
  ]

  pub no_members : (l : ℕ) → (finite.get labels l ≡ Some l → ⊥) → None ≡ members_of l (marks_of d es)
  no_members l none = elim (cases_Bool (has_core l)) [
    | inl some ↦ absurd (none (label_of_some l some))
    | inr off ↦ sym (ap (λ b. cond b (Some (filter (λ (m : ℕ × Mark). is_member_of l m.1) (marks_of d es))) None) off)
  ]

  pub some_members : (l : ℕ) → finite.get labels l ≡ Some l → Some (filter (λ (m : ℕ × Mark). is_member_of l m.1) (marks_in_books counts labels es)) ≡ members_of l (marks_of d es)
  some_members l at =
      ap (λ ms. Some (filter (λ (m : ℕ × Mark). is_member_of l m.1) ms)) marks_are
      ∙ sym (ap (λ b. cond b (Some (filter (λ (m : ℕ × Mark). is_member_of l m.1) (marks_of d es))) None) (some_of_label l at))
