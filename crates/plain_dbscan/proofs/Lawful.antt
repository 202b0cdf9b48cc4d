-- The computed marks, labels and anchors are what the relations say.
use Rattle.std.proofs.Common.{◌≡◌, ◌↔◌, ℕ, Bool, false, ◌&&◌, eqb, List, [], ◌∷◌, length, get_or, map, filter, IsTrue, Option, None, Some, refl, sym, ap, subst, ◌∙◌, inl, inr, arith}
use lib.Dec.{T}
use Rattle.std.specs.Prelude.{cond, unwrap_or}
use Rattle.std.specs.List.{All}
use Rattle.std.specs.Ordering.{nat_cmp}
use Rattle.std.specs.Option.{is_some}
use Rattle.std.specs.FinMap as finite
use Rattle.std.specs.FinMap.Entries.{is_sorted, find as value_at}
use Rattle.std.proofs.lemmas.Bool.{cases_Bool}
use Rattle.std.proofs.lemmas.Bool.Decides.{nat_tests}
use Rattle.std.proofs.lemmas.List.Elements.{All-head, All-tail, All-map, filter_agree}
use Rattle.vec_record.specs.Held.{Rows}
use Rattle.plain_dbscan.specs.declared.marks.Mark.{Mark}
use Rattle.plain_dbscan.specs.declared.marks.Mark.TheVariants.{Core, Border, Noise}
use Rattle.plain_dbscan.specs.Chains.{IsLabel, reaches, is_joined}
use Rattle.plain_dbscan.specs.Marks.{Density, density, Entries, numbers_of, within, is_near, near_of, is_near_vector, near_vector, is_core, cores_of, anchor_of, outer_mark, mark_of, marks_of}
use Rattle.plain_dbscan.specs.Cases.{Listed, mark_at, mark_in, is_member_of}
use Rattle.plain_dbscan.specs.Index.{near}
use Rattle.plain_dbscan.specs.Laws.{HasLabel, MarkSays, AreMarks, IsLabelled, IsAnchored, IsNearBy}
use Rattle.plain_dbscan.proofs.Chains.{joined_itself, joined_on, joined_end, first_of_both}
use Rattle.plain_dbscan.proofs.Members.{find_none}
use Rattle.plain_dbscan.proofs.CoresOf.{cluster_is, is_cluster, anchor_is, is_anchor, no_anchor, none_anchor, core_anchor, core_mark, other_mark}
use Rattle.plain_dbscan.proofs.MarksRise.{marks_rise, mark_at_marks, mark_in_marks}

firsts : (f : ℕ → Mark) (xs : List ℕ) → map (λ (m : ℕ × Mark). m.0) (map (λ a. (a, f a)) xs) ≡ xs
firsts f [] = refl
firsts f (x ∷ xs) = ap (λ ys. x ∷ ys) (firsts f xs)

-- a list whose entries have the marks that a function gives is that function's list
by_numbers : (f : ℕ → Mark) (marks : Listed) → All (λ (m : ℕ × Mark). m.1 ≡ f m.0) marks → marks ≡ map (λ a. (a, f a)) (map (λ (m : ℕ × Mark). m.0) marks)
by_numbers f [] all = refl
by_numbers f (m ∷ ms) all =
    let P : ℕ × Mark → Type 0 = λ (x : ℕ × Mark). x.1 ≡ f x.0 in
    ap (λ (k : Mark). let e : ℕ × Mark = (m.0, k) in e ∷ ms) (All-head P m ms all)
    ∙ ap (λ (rest : Listed). let e : ℕ × Mark = (m.0, f m.0) in e ∷ rest) (by_numbers f ms (All-tail P m ms all))

-- a label is its own label
pub label_itself : (core : ℕ → Bool) (near : ℕ → ℕ → Bool) (a b : ℕ) → IsLabel core near a b → IsLabel core near b b
label_itself core near a b h = record { joined = joined_itself core near b (joined_end core near a b h.joined); least = λ c j. h.least c (joined_on core near a b c h.joined j) }

module _ (d : Density) (rows : Entries) (sorted : T (is_sorted nat_cmp rows)) where
  outer_says : (a : ℕ) → is_core d rows a ≡ false → (o : Option ℕ) → anchor_of d rows a ≡ o → MarkSays d rows a (outer_mark d rows o)
  outer_says a h None e = record { no_core = h; apart = no_anchor d rows a h e }
  outer_says a h (Some b) e =
      let anchor = anchor_is d rows sorted a b e in
      record { anchor = b; is_anchor = anchor; label = cluster_is d rows sorted b anchor.is_core }

  says : (a : ℕ) → MarkSays d rows a (mark_of d rows a)
  says a = elim (cases_Bool (is_core d rows a)) [
    | inl h ↦ subst (MarkSays d rows a) (sym (core_mark d rows a h)) (h, cluster_is d rows sorted a h)
    | inr h ↦ subst (MarkSays d rows a) (sym (other_mark d rows a h)) (outer_says a h (anchor_of d rows a) refl)
  ]

  -- no other mark says what is so
  said : (a : ℕ) (m : Mark) → MarkSays d rows a m → m ≡ mark_of d rows a
  said a (Core l) h = sym (core_mark d rows a h.0 ∙ ap Core (is_cluster d rows sorted a l h.1))
  said a (Border l) h =
      let outer = other_mark d rows a h.is_anchor.no_core ∙ ap (outer_mark d rows) (is_anchor d rows sorted a h.anchor h.is_anchor) in
      sym (outer ∙ ap Border (is_cluster d rows sorted h.anchor l h.label))
  said a Noise h = sym (other_mark d rows a h.no_core ∙ ap (outer_mark d rows) (none_anchor d rows a h.no_core h.apart))

  are_marks : AreMarks d rows (marks_of d rows)
  are_marks = record {
    numbers = firsts (mark_of d rows) (numbers_of rows);
    rising = marks_rise d rows sorted;
    each = All-map (λ (m : ℕ × Mark). MarkSays d rows m.0 m.1) (λ (a : ℕ). (a, mark_of d rows a)) (numbers_of rows) (λ i x h. says _);
  }

  the_marks : (marks : Listed) → AreMarks d rows marks → marks ≡ marks_of d rows
  the_marks marks h =
      by_numbers (mark_of d rows) marks (λ i m lt. said _ _ (h.each i m lt)) ∙ ap (map (λ (a : ℕ). (a, mark_of d rows a))) h.numbers

  pub lawful : (marks : Listed) → (marks ≡ marks_of d rows) ↔ AreMarks d rows marks
  lawful marks = ((λ is. subst (AreMarks d rows) (sym is) are_marks), the_marks marks)

  named : (a l : ℕ) → HasLabel d rows a l → mark_at (marks_of d rows) l ≡ Some (Core l)
  named a l h =
      let core : IsTrue (is_core d rows l) = joined_end (is_core d rows) (is_near d rows) a l h.joined in
      let own = label_itself (is_core d rows) (is_near d rows) a l h in
      mark_at_marks d rows l
      ∙ ap (λ b. cond b (Some (mark_of d rows l)) None) (first_of_both (is_some (value_at nat_cmp l rows)) _ core)
      ∙ ap Some (core_mark d rows l core ∙ ap Core (is_cluster d rows sorted l l own))

  same : (k l : ℕ) → IsTrue (eqb k l) → k ≡ l
  same k l h = grind (arith, nat_tests)

  named_by : (a l : ℕ) (m : Mark) → MarkSays d rows a m → IsTrue (is_member_of l m) → mark_at (marks_of d rows) l ≡ Some (Core l)
  named_by a l (Core k) h is = named a l (subst (HasLabel d rows a) (same k l is) h.1)
  named_by a l (Border k) h is = named h.anchor l (subst (HasLabel d rows h.anchor) (same k l is) h.label)
  named_by a l Noise h is = absurd (cc)

  pub clusters_named : (a l : ℕ) → IsTrue (is_member_of l (mark_in (marks_of d rows) a)) → mark_at (marks_of d rows) l ≡ Some (Core l)
  clusters_named a l is = named_by a l (mark_of d rows a) (says a) (subst (λ (m : Mark). IsTrue (is_member_of l m)) (mark_in_marks d rows a) is)

  not_joined : (a b : ℕ) → is_core d rows a ≡ false → is_joined (is_core d rows) (is_near d rows) (cores_of d rows) a b ≡ false
  not_joined a b h = ap (λ t. t && (is_core d rows b && reaches (is_near d rows) (cores_of d rows) a b)) h

  pub labelled : (a : ℕ) → IsLabelled d rows a
  labelled a = record {
    core = λ h l. ((λ is. subst (HasLabel d rows a) is (cluster_is d rows sorted a h)), is_cluster d rows sorted a l);
    other = λ h. ap (λ (o : Option ℕ). unwrap_or o 0) (find_none (is_joined (is_core d rows) (is_near d rows) (cores_of d rows) a) (cores_of d rows) (λ k lt. not_joined a (get_or (cores_of d rows) k 0) h));
  }

  pub anchored : (a : ℕ) → IsAnchored d rows a
  anchored a = record {
    least = λ b. (anchor_is d rows sorted a b, is_anchor d rows sorted a b);
    none = λ other. ((λ is. record { no_core = other; apart = no_anchor d rows a other is }), λ h. none_anchor d rows a other h.apart);
    core = core_anchor d rows a;
  }

-- a record and its vector are near the same records
module _ (d : Density) (rows : Entries) (a : ℕ) (v : List ℕ) (is : value_at nat_cmp a rows ≡ Some v) where
  near_vectors : near_of d rows a ≡ near_vector d rows v
  near_vectors = ap (λ (o : Option (List ℕ)). filter (λ b. within d o (value_at nat_cmp b rows)) (numbers_of rows)) is

  pub near_by : IsNearBy d rows a v
  near_by = record {
    each = λ b. ap (λ (o : Option (List ℕ)). within d o (value_at nat_cmp b rows)) is;
    all = near_vectors;
    size = ap length near_vectors;
  }

-- how many make a core is nothing to what is near
within_same : (d : Density) (minpts : ℕ) (o p : Option (List ℕ)) → within (density d.dist d.eps minpts) o p ≡ within d o p
within_same d minpts None p = refl
within_same d minpts (Some u) None = refl
within_same d minpts (Some u) (Some v) = refl

pub index_near : (d : Density) (rows : Rows) (a : ℕ) (v : List ℕ) → finite.get rows a ≡ Some v → near d.dist rows v d.eps ≡ near_of d (finite.entries rows) a
index_near d rows a v is =
    let es = finite.entries rows in
    filter_agree (is_near_vector (density d.dist d.eps 1) es v) (is_near_vector d es v) (λ b. within_same d 1 (Some v) (value_at nat_cmp b es)) (numbers_of es)
    ∙ sym (near_by d es a v (sym (finite.get-entries rows a) ∙ is)).all
