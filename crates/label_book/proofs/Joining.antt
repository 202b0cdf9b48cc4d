-- The steps of a join, over the lists that are joined.
use Rattle.std.proofs.Common.{◌≡◌, ℕ, ◌+◌, ◌<◌, ◌≤◌, List, [], length, sym, ap, subst, ◌∙◌, None, Some, IsSome, is_some, inl, inr, get_or, take, min}
use Rattle.std.proofs.lemmas.List.{take_more, take_all}
use Rattle.std.proofs.lemmas.Option.{slice_get-get_or}
use Rattle.std.specs.FinMap as map
use Rattle.label_book.specs.Labels.{Labels, HasLeast, IsMember, EachOnce, AreFree, AreLabels, IsJoined, IsLeastOfBoth}
use Rattle.label_book.specs.inside.Steps.{IsWith, IsMergedOf}
use Rattle.label_book.proofs.Views.{no_value}
use Rattle.label_book.proofs.Founded.{in_whole, next_new}
use Rattle.label_book.proofs.Joined.{Grown, Chosen, NoCore, own_label, chosen_labels, next_labelled, merged_more, added_more, no_cores, joined_end, least_end}

module _ (old now : Labels) (xs : List ℕ) (target label : ℕ) (labels : AreLabels old xs) (t : IsMember xs target) where
  next_is : (i : ℕ) → i < length xs → map.get old (get_or xs i 0) ≡ Some (get_or xs i 0)
  next_is i within = labels (get_or xs i 0) (i, slice_get-get_or xs i 0 within)

  first_labels : (i x : ℕ) → Chosen (take i xs) target x → map.get old x ≡ Some x
  first_labels i = chosen_labels old (take i xs) target (λ l m. labels l (in_whole xs i l m)) (labels target t)

  pub join_into : (i : ℕ) → Grown old (Chosen (take i xs) target) NoCore label now → map.get now label ≡ Some label
  join_into i g = own_label old now (Chosen (take i xs) target) NoCore label (first_labels i) g

  pub join_core : (i : ℕ) → i < length xs → Grown old (Chosen (take i xs) target) NoCore label now → IsSome (map.get now (get_or xs i 0))
  join_core i within g = elim (next_labelled old now (take i xs) target label (get_or xs i 0) (next_is i within) g) [ inl e ↦ ap is_some e | inr e ↦ ap is_some e.0 ]

  pub join_more : (i : ℕ) (to : ℕ) (new : Labels) → i < length xs → Grown old (Chosen (take i xs) target) NoCore label now → IsMergedOf now label (get_or xs i 0) to new → Grown old (Chosen (take (i + 1) xs) target) NoCore to new
  join_more i to new within g m =
      subst (λ n. Grown old (Chosen (take (i + 1) xs) target) NoCore n new) (sym m.least)
      (subst (λ ys. Grown old (Chosen ys target) NoCore (min label m.other) new) (sym (take_more xs i 0 within))
      (merged_more old now new (take i xs) target label (get_or xs i 0) m.other (next_is i within) m.was g m.merged))

  pub join_all : (i : ℕ) → length xs ≤ i → Grown old (Chosen (take i xs) target) NoCore label now → Grown old (Chosen xs target) (IsMember []) label now
  join_all i end g = no_cores old now (Chosen xs target) label (subst (λ ys. Grown old (Chosen ys target) NoCore label now) (take_all i xs end) g)

  all_labels : (x : ℕ) → Chosen xs target x → map.get old x ≡ Some x
  all_labels = chosen_labels old xs target labels (labels target t)

  module _ (ys : List ℕ) (once : EachOnce ys) (free : AreFree old ys) where
    pub add_label : (j : ℕ) → Grown old (Chosen xs target) (IsMember (take j ys)) label now → map.get now label ≡ Some label
    add_label j g = own_label old now (Chosen xs target) (IsMember (take j ys)) label all_labels g

    next_core : (j : ℕ) → j < length ys → map.get old (get_or ys j 0) ≡ None
    next_core j within = free (get_or ys j 0) (j, slice_get-get_or ys j 0 within)

    pub add_core : (j : ℕ) → j < length ys → Grown old (Chosen xs target) (IsMember (take j ys)) label now → map.get now (get_or ys j 0) ≡ None
    add_core j within g = g.others (get_or ys j 0) (next_new ys j within once) (λ x a e. no_value (next_core j within) e) ∙ next_core j within

    pub add_more : (j : ℕ) (to : ℕ) (new : Labels) → HasLeast old → j < length ys → Grown old (Chosen xs target) (IsMember (take j ys)) label now → IsWith now label (get_or ys j 0) new → to ≡ min label (get_or ys j 0)
        → Grown old (Chosen xs target) (IsMember (take (j + 1) ys)) to new
    add_more j to new least within g w is =
        subst (λ n. Grown old (Chosen xs target) (IsMember (take (j + 1) ys)) n new) (sym is)
        (subst (λ zs. Grown old (Chosen xs target) (IsMember zs) (min label (get_or ys j 0)) new) (sym (take_more ys j 0 within))
        (added_more old now new least (Chosen xs target) (take j ys) label (get_or ys j 0) (λ q m. free q (in_whole ys j q m)) all_labels (next_core j within) (next_new ys j within once) g w))

    pub add_all : (j : ℕ) → length ys ≤ j → Grown old (Chosen xs target) (IsMember (take j ys)) label now → IsJoined old xs ys label now × IsLeastOfBoth label xs ys
    add_all j end g =
        let all = subst (λ zs. Grown old (Chosen xs target) (IsMember zs) label now) (take_all j ys end) g in
        (joined_end old now xs ys target label t all, least_end old now xs ys target label t all)
