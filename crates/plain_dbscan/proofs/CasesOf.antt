-- Marks in lists that rise, and the events of a change by the marks of each number in both lists.
use Rattle.std.proofs.Common.{◌≡◌, ◌≢◌, ℕ, zero, suc, ◌+◌, ◌<◌, ◌≤◌, Bool, true, false, ◌&&◌, cond, List, [], ◌∷◌, ◌++◌, length, get_or, map, filter, take, Option, None, Some, Result, Ok, Err, IfOk, IfErr, refl, sym, ap, subst, ◌∙◌, inl, inr, arith, below_more}
use lib.Dec.{T}
use Rattle.std.specs.Prelude.{is_none, unwrap_or}
use Rattle.std.specs.Ordering.{nat_cmp, ordering_index}
use Rattle.std.specs.List.{list_any, flat_map}
use Rattle.std.specs.List.Sorted.{IsSearchInRange, IsBinarySearchResult, IsNonDecreasingBy}
use Rattle.std.specs.FinMap.Entries.{is_sorted}
use Rattle.std.proofs.lemmas.Cmp.{ranked}
use Rattle.std.proofs.lemmas.List.Sorted.{IsNonDecreasingBy-from_default}
use Rattle.std.proofs.lemmas.List.{get_or-map, length-map, map-append, take_all}
use Rattle.std.proofs.lemmas.List.Elements.{filter_more, filter_agree, filter-append}
use Rattle.std.proofs.lemmas.Bool.{cases_lt}
use Rattle.std.proofs.lemmas.Bool.Decides.{nat_tests}
use Rattle.vec_record.specs.declared.event.Kind.TheVariants as kind
use Rattle.plain_dbscan.specs.declared.cases.BothMarks.{BothMarks}
use Rattle.plain_dbscan.specs.declared.marks.Mark.{Mark}
use Rattle.plain_dbscan.specs.declared.marks.Mark.TheVariants.{Core}
use Rattle.plain_dbscan.specs.Texts.{names_cluster}
use Rattle.plain_dbscan.specs.Cases.{Listed, mark_at, clusters_of, new_number, is_core_here_alone, changed_clusters, labels_across, growth, decline, event, insertion_events, deletion_events}
use Rattle.plain_dbscan.specs.Across.{both_marks, is_core_alone, is_core_alone_of, is_in_both, labels_in, changed_in}
use Rattle.plain_dbscan.proofs.Members.{Rises, member_at, find_at, find_none}
use Rattle.plain_dbscan.proofs.CoresOf.{rises_sorted}

abbrev number : ℕ × Mark → ℕ
number m = m.0

-- the number at a place
abbrev pub number_at : Listed → ℕ → ℕ
number_at marks i = (get_or marks i (0, Core 0)).0

-- numbers that rise, by place
pub numbers_rise : (marks : Listed) → Rises (map (λ (m : ℕ × Mark). m.0) marks) → (i j : ℕ) → i < j → j < length marks → number_at marks i < number_at marks j
numbers_rise [] r i j lt h = absurd (omega arith)
numbers_rise (m ∷ ms) r zero zero lt h = absurd (omega arith)
numbers_rise (m ∷ ms) r zero (suc j) lt h =
    let below : j < length ms = omega arith in
    let at : get_or (map (λ (x : ℕ × Mark). x.0) ms) j 0 ≡ number_at ms j = get_or-map (λ (x : ℕ × Mark). x.0) ms j (0, Core 0) 0 below in
    subst (λ (y : ℕ). m.0 < y) at (r.0 _ (member_at (map (λ (x : ℕ × Mark). x.0) ms) j (simp length-map below)))
numbers_rise (m ∷ ms) r (suc i) zero lt h = absurd (omega arith)
numbers_rise (m ∷ ms) r (suc i) (suc j) lt h = numbers_rise ms r.1 i j (omega arith) (omega arith)

-- no number before place i is this one
abbrev NotBefore : Listed → ℕ → ℕ → Type 0
NotBefore marks a i = (j : ℕ) → j < i → number_at marks j ≢ a

later : (m : ℕ × Mark) (ms : Listed) (a i : ℕ) → NotBefore (m ∷ ms) a (suc i) → NotBefore ms a i
later m ms a i not_before j lt = not_before (suc j) (omega arith)

pub mark_absent : (marks : Listed) (a : ℕ) → NotBefore marks a (length marks) → mark_at marks a ≡ None
mark_absent [] a not_before = refl
mark_absent (m ∷ ms) a not_before = grind (arith, nat_tests, not_before 0 (omega arith), mark_absent ms a (later m ms a _ not_before))

pub mark_present : (marks : Listed) (a i : ℕ) → i < length marks → number_at marks i ≡ a → NotBefore marks a i → mark_at marks a ≡ Some (get_or marks i (0, Core 0)).1
mark_present [] a i h is not_before = absurd (omega (arith, h))
mark_present (m ∷ ms) a zero h is not_before = grind (arith, nat_tests, is)
mark_present (m ∷ ms) a (suc i) h is not_before = grind (arith, nat_tests, not_before 0 (omega arith), mark_present ms a i (omega (arith, h)) is (later m ms a i not_before))

module _ (marks : Listed) (sorted : T (is_sorted nat_cmp marks)) (a : ℕ) where
  rise : (i j : ℕ) → i < j → j < length marks → number_at marks i < number_at marks j
  rise = numbers_rise marks (rises_sorted marks sorted)

  comparisons_rise : IsNonDecreasingBy (λ (m : ℕ × Mark). ordering_index (nat_cmp m.0 a)) marks
  comparisons_rise = IsNonDecreasingBy-from_default (λ (m : ℕ × Mark). ordering_index (nat_cmp m.0 a)) marks (0, Core 0) (λ i j le h.
      let numbers_up : number_at marks i ≤ number_at marks j = grind (arith, rise i j, λ (same : i ≡ j). ap (number_at marks) same) in
      grind (arith, nat_tests))

  -- what a binary search by number finds
  pub mark_found : (r : Result ℕ ℕ) → IsSearchInRange r (length marks) → IsBinarySearchResult (λ (m : ℕ × Mark). nat_cmp m.0 a) marks r → record { found : IfOk r (λ i. mark_at marks a ≡ Some (get_or marks i (0, Core 0)).1); absent : IfErr r (λ i. mark_at marks a ≡ None) }
  mark_found (Ok i) h equal =
      let is : number_at marks i ≡ a = ranked _ a _ (sym (equal (0, Core 0))) in
      record { found = mark_present marks a i h is (λ j lt same. omega (arith, rise j i lt h, is, same)); absent = tt }
  mark_found (Err i) h parted = record {
    found = tt;
    absent = mark_absent marks a (λ j lt same. elim (cases_lt j i) [
      | inl below ↦ let under : number_at marks j < a = ranked _ a _ (sym ((parted comparisons_rise).0 j (0, Core 0) (omega arith) below)) in omega (arith, under, same)
      | inr above ↦ let over : a < number_at marks j = ranked _ a _ (sym ((parted comparisons_rise).1 j (0, Core 0) above lt)) in omega (arith, over, same)
    ]);
  }

last_cluster : (p : ℕ → Bool) (x : ℕ × Mark) (b : Bool) → filter p (map number (cond b (x ∷ []) [])) ≡ cond (b && p x.0) (x.0 ∷ []) []
last_cluster p x true = elim (p x.0) as (λ t. cond t (x.0 ∷ []) [] ≡ cond t (x.0 ∷ []) []) [ true ↦ refl | false ↦ refl ]
last_cluster p x false = refl

-- one mark more
pub clusters_more : (p : ℕ → Bool) (marks : Listed) (i : ℕ) (d : ℕ × Mark) → i < length marks →
    filter p (clusters_of (take (i + 1) marks)) ≡ filter p (clusters_of (take i marks)) ++ cond (names_cluster (get_or marks i d) && p (get_or marks i d).0) ((get_or marks i d).0 ∷ []) []
clusters_more p marks i d h =
    let x = get_or marks i d in
    let last = cond (names_cluster x) (x ∷ []) [] in
    ap (λ (ms : Listed). filter p (map number ms)) (filter_more names_cluster marks i d h)
    ∙ ap (filter p) (map-append number (filter names_cluster (take i marks)) last)
    ∙ filter-append p (clusters_of (take i marks)) (map number last)
    ∙ ap (λ (t : List ℕ). filter p (clusters_of (take i marks)) ++ t) (last_cluster p x (names_cluster x))

-- the first number that the other list hasn't
module _ (one other : Listed) where
  abbrev NoneNewBefore : ℕ → Type 0
  NoneNewBefore i = (k : ℕ) → k < i → is_none (mark_at other (get_or (map number one) k 0)) ≡ false

  number_read : (i : ℕ) → i < length one → get_or (map number one) i 0 ≡ number_at one i
  number_read i h = get_or-map number one i (0, Core 0) 0 h

  pub new_found : (i : ℕ) → i < length one → NoneNewBefore i → is_none (mark_at other (number_at one i)) ≡ true → number_at one i ≡ new_number one other
  new_found i h before here =
      let test : ℕ → Bool = λ a. is_none (mark_at other a) in
      let found = find_at test (map number one) i (simp length-map h) before (ap test (number_read i h) ∙ here) in
      sym (ap (λ (o : Option ℕ). unwrap_or o 0) found ∙ number_read i h)

  pub none_new_more : (i : ℕ) → i < length one → NoneNewBefore i → is_none (mark_at other (number_at one i)) ≡ false → NoneNewBefore (i + 1)
  none_new_more i h before here = below_more _ _ before (ap (λ (a : ℕ). is_none (mark_at other a)) (number_read i h) ∙ here)

  pub none_new : NoneNewBefore (length one) → 0 ≡ new_number one other
  none_new before = sym (ap (λ (o : Option ℕ). unwrap_or o 0) (find_none (λ a. is_none (mark_at other a)) (map number one) (λ k h. before k (simp length-map at h))))

list_any-map : {X Y : Type 0} (p : Y → Bool) (f : X → Y) (xs : List X) → list_any p (map f xs) ≡ list_any (λ x. p (f x)) xs
list_any-map p f [] = refl
list_any-map p f (x ∷ xs) = simp (list_any-map p f xs)

module _ (one other : Listed) where
  pub lone_core_across : list_any is_core_alone (map (both_marks other) one) ≡ list_any (is_core_here_alone other) one
  lone_core_across = list_any-map is_core_alone (both_marks other) one

  pub changed_across : changed_in (map (both_marks other) one) one ≡ changed_clusters one other
  changed_across = filter_agree _ _ (λ l. list_any-map (is_core_alone_of l) (both_marks other) one) (clusters_of one)

  pub labels_are_across : (l : ℕ) → labels_in (map (both_marks other) one) other l ≡ labels_across one other l
  labels_are_across l = filter_agree _ _ (λ k. list_any-map (is_in_both l k) (both_marks other) one) (clusters_of other)

flat_agree : {X : Type 0} (f g : ℕ → List X) → ((k : ℕ) → f k ≡ g k) → (ks : List ℕ) → flat_map f ks ≡ flat_map g ks
flat_agree f g alike [] = refl
flat_agree f g alike (k ∷ ks) = let here : f k ≡ g k = alike k in let rest : flat_map f ks ≡ flat_map g ks = flat_agree f g alike ks in cc

module _ (before after : Listed) (both : List BothMarks) (clusters : List ℕ) (i : ℕ) (all : length clusters ≤ i) where
  -- the events of an insertion with a new core
  pub grown_events : both ≡ map (both_marks before) after → list_any is_core_alone both ≡ true → clusters ≡ changed_in both after →
      flat_map (λ (k : ℕ). growth k (labels_in both before k)) (take i clusters) ≡ insertion_events before after
  grown_events are any is =
      let has_new : list_any (is_core_here_alone before) after ≡ true = sym (lone_core_across after before) ∙ ap (list_any is_core_alone) (sym are) ∙ any in
      ap (flat_map (λ (k : ℕ). growth k (labels_in both before k))) (take_all i clusters all ∙ is ∙ ap (λ (bs : List BothMarks). changed_in bs after) are ∙ changed_across after before)
      ∙ flat_agree _ _ (λ k. ap (λ (bs : List BothMarks). growth k (labels_in bs before k)) are ∙ ap (growth k) (labels_are_across after before k)) (changed_clusters after before)
      ∙ rw has_new refl

  -- the events of a deletion
  pub declined_events : both ≡ map (both_marks after) before → clusters ≡ changed_in both before →
      flat_map (λ (k : ℕ). decline k (labels_in both after k)) (take i clusters) ≡ deletion_events before after
  declined_events are is =
      ap (flat_map (λ (k : ℕ). decline k (labels_in both after k))) (take_all i clusters all ∙ is ∙ ap (λ (bs : List BothMarks). changed_in bs before) are ∙ changed_across before after)
      ∙ flat_agree _ _ (λ k. ap (λ (bs : List BothMarks). decline k (labels_in bs after k)) are ∙ ap (decline k) (labels_are_across before after k)) (changed_clusters before after)

-- the event of an insertion without a new core
pub noise_event : (before after : Listed) (both : List BothMarks) (number : ℕ) → both ≡ map (both_marks before) after → list_any is_core_alone both ≡ false → number ≡ new_number after before → event kind.Noise 0 number ∷ [] ≡ insertion_events before after
noise_event before after both number are none is =
    let no_new : list_any (is_core_here_alone before) after ≡ false = sym (lone_core_across after before) ∙ ap (list_any is_core_alone) (sym are) ∙ none in
    rw (no_new, is) refl
