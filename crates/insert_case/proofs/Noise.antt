-- Where no record became core, the events of an insertion are noise at the new record.
use Rattle.std.proofs.Common.{◌≡◌, ℕ, Bool, true, false, cond, not, ◌&&◌, List, [], ◌∷◌, map, IsTrue, is_some, is_none, None, Some, inl, inr, refl, sym, ap, ◌∙◌, if◌then◌else◌, unwrap_or}
use Rattle.std.specs.Prelude.{find}
use Rattle.std.specs.List.{list_any, flat_map}
use Rattle.std.specs.Ordering.{nat_cmp}
use Rattle.std.specs.declared.option.Option.{Option}
use Rattle.std.specs.FinMap as finite
use Rattle.std.specs.FinMap.Entries.{find as value_at}
use Rattle.std.proofs.lemmas.Bool.{cases_Bool, cases_eq}
use Rattle.vec_record.specs.Held.{Rows}
use Rattle.vec_record.specs.declared.event.Kind.TheVariants as kind
use Rattle.plain_dbscan.specs.declared.marks.Mark.{Mark}
use Rattle.plain_dbscan.specs.Texts.{is_core_mark}
use Rattle.plain_dbscan.specs.Marks.{Density, Entries, numbers_of, is_core, outer_mark, anchor_of, mark_of, marks_of}
use Rattle.plain_dbscan.specs.Cases.{mark_in, mark_at, is_core_here_alone, changed_clusters, labels_across, new_number, event, growth, insertion_events}
use Rattle.plain_dbscan.proofs.Chains.{Member}
use Rattle.plain_dbscan.proofs.Members.{first_of}
use Rattle.plain_dbscan.proofs.CoresOf.{rises_sorted, there, among, core_mark, other_mark}
use Rattle.plain_dbscan.proofs.MarksRise.{mark_at_marks, mark_in_marks}
use Rattle.label_book.proofs.Added.{here, apart}
use Rattle.insert_case.proofs.Anchors.{not_both}

-- where no number passes, none of a list does
none_any : (p : ℕ × Mark → Bool) (f : ℕ → Mark) (xs : List ℕ) → ((a : ℕ) → p (a, f a) ≡ false) → list_any p (map (λ a. (a, f a)) xs) ≡ false
none_any p f [] off = refl
none_any p f (x ∷ xs) off = rw (off x) (none_any p f xs off)

numbers_are : (f : ℕ → Mark) (xs : List ℕ) → map (λ (m : ℕ × Mark). m.0) (map (λ a. (a, f a)) xs) ≡ xs
numbers_are f [] = refl
numbers_are f (x ∷ xs) = ap (λ (ys : List ℕ). x ∷ ys) (numbers_are f xs)

outer_no_core : (d : Density) (es : Entries) (o : Option ℕ) → is_core_mark (outer_mark d es o) ≡ false
outer_no_core d es None = refl
outer_no_core d es (Some b) = refl

core_in_mark : (d : Density) (es : Entries) (a : ℕ) → is_core_mark (mark_of d es a) ≡ is_core d es a
core_in_mark d es a = elim (cases_Bool (is_core d es a)) [
  | inl h ↦ ap is_core_mark (core_mark d es a h) ∙ sym h
  | inr h ↦ ap is_core_mark (other_mark d es a h) ∙ outer_no_core d es (anchor_of d es a) ∙ sym h
]

none_new : (b c : Bool) → (IsTrue b → IsTrue c) → b && not c ≡ false
none_new true true h = refl
none_new true false h = absurd (not_both false refl (h refl))
none_new false c h = refl

module _ (d : Density) (rows : Rows) (p : ℕ) (v : List ℕ) (absent : finite.get rows p ≡ None) where
  abbrev before : Entries
  before = finite.entries rows

  abbrev after : Entries
  after = finite.entries (finite.insert rows p v)

  in_before : (a : ℕ) → mark_at (marks_of d before) a ≡ None → finite.get rows a ≡ None
  in_before a e = go (value_at nat_cmp a before) (finite.get-entries rows a) (sym (mark_at_marks d before a) ∙ e)
    where
      go : (o : Option (List ℕ)) → finite.get rows a ≡ o → cond (is_some o) (Some (mark_of d before a)) None ≡ None → finite.get rows a ≡ None
      go None f c = f
      go (Some x) f c = absurd (cc)

  none_is : (o : Option Mark) → IsTrue (is_none o) → o ≡ None
  none_is None h = refl
  none_is (Some m) h = absurd (cc)

  only_new : (b : ℕ) → Member b (numbers_of after) → IsTrue (is_none (mark_at (marks_of d before) b)) → b ≡ p
  only_new b m h = elim (cases_eq b p) [
    | inl e ↦ e
    | inr ne ↦
        let out = in_before b (none_is (mark_at (marks_of d before) b) h) in
        absurd (not_both _ (ap is_some (sym (finite.get-entries (finite.insert rows p v) b) ∙ (apart rows p v b ne ∙ out))) (there after b m))
  ]

  new_is : new_number (marks_of d after) (marks_of d before) ≡ p
  new_is =
      let test = λ (a : ℕ). is_none (mark_at (marks_of d before) a) in
      let in_it = among after p (ap is_some (sym (finite.get-entries (finite.insert rows p v) p) ∙ here rows p v)) in
      let none_there : value_at nat_cmp p before ≡ None = sym (finite.get-entries rows p) ∙ absent in
      let passes : IsTrue (test p) = ap is_none (mark_at_marks d before p ∙ ap (λ o. cond (is_some o) (Some (mark_of d before p)) None) none_there) in
      let first = first_of test (numbers_of after) p (rises_sorted after (finite.entries_sorted (finite.insert rows p v))) in_it passes in
      ap (λ xs. unwrap_or (find test xs) 0) (numbers_are (mark_of d after) (numbers_of after))
      ∙ ap (λ o. unwrap_or o 0) first.1.found ∙ only_new first.0 first.1.member first.1.passes

  pub noise_due : ((a : ℕ) → IsTrue (is_core d after a) → IsTrue (is_core d before a)) → event kind.Noise 0 p ∷ [] ≡ insertion_events (marks_of d before) (marks_of d after)
  noise_due stay =
      let alone = none_any (is_core_here_alone (marks_of d before)) (mark_of d after) (numbers_of after) (λ a.
      ap (λ b. b && not (is_core_mark (mark_in (marks_of d before) a))) (core_in_mark d after a)
      ∙ ap (λ (k : Mark). is_core d after a && not (is_core_mark k)) (mark_in_marks d before a)
      ∙ ap (λ b. is_core d after a && not b) (core_in_mark d before a) ∙ none_new (is_core d after a) (is_core d before a) (stay a)) in
      ap (λ n. event kind.Noise 0 n ∷ []) (sym new_is)
      ∙ sym (ap (λ b. if b then flat_map (λ l. growth l (labels_across (marks_of d after) (marks_of d before) l)) (changed_clusters (marks_of d after) (marks_of d before)) else event kind.Noise 0 (new_number (marks_of d after) (marks_of d before)) ∷ []) alone)
