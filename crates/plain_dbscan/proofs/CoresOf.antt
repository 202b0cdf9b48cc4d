-- The cores of records, their labels and their anchors.
use Rattle.std.proofs.Common.{◌≡◌, ℕ, ◌<◌, ◌≤◌, Bool, true, false, ◌&&◌, List, [], ◌∷◌, map, IsTrue, None, Some, if◌then◌else◌, sym, ap, subst, ◌∙◌, inl, inr, arith}
use lib.Dec.{T}
use Rattle.std.specs.Prelude.{nat_le, find}
use Rattle.std.specs.List.{list_any}
use Rattle.std.specs.Ordering.{nat_cmp, eq_by_cmp, is_lt}
use Rattle.std.specs.Option.{is_some}
use Rattle.std.specs.FinMap.Entries.{below_all, is_sorted, find as value_at, is_some-find}
use Rattle.std.proofs.lemmas.Bool.{cases_Bool}
use Rattle.std.proofs.lemmas.Bool.Decides.{nat_tests}
use Rattle.std.proofs.lemmas.Option.{none-some}
use Rattle.plain_dbscan.specs.Chains.{IsLabel, IsAnchor}
use Rattle.plain_dbscan.specs.Marks.{Entries, numbers_of, Density, is_near, is_core, size_of, cores_of, cluster_of, anchor_of, outer_mark, mark_of}
use Rattle.plain_dbscan.specs.declared.marks.Mark.TheVariants.{Core}
use Rattle.plain_dbscan.proofs.Chains.{Member, AreCores, first_of_both, either, left_or, right_or}
use Rattle.plain_dbscan.proofs.Members.{member_filter, passes_in, Rises, rises_filter, member_at, first_of, find_none, find_fails, find_first}
use Rattle.plain_dbscan.proofs.LeastLabels.{label_is, label_of_is}

first_T : (p q : Bool) → T (p && q) → T p
first_T true q h = tt
first_T false q h = h

second_T : (p q : Bool) → T (p && q) → T q
second_T true q h = h
second_T false q h = absurd h

ties : (q : ℕ) → IsTrue (eq_by_cmp nat_cmp q q)
ties q = grind (arith, nat_tests)

same_tied : (q x : ℕ) → IsTrue (eq_by_cmp nat_cmp q x) → q ≡ x
same_tied q x h = grind (arith, nat_tests)

lt_from_cmp : (x y : ℕ) → T (is_lt (nat_cmp x y)) → x < y
lt_from_cmp x y h = grind (arith, nat_tests)

-- whether a number ties with one in the list is whether it is a member
any_member : (q : ℕ) (xs : List ℕ) → Member q xs → IsTrue (list_any (eq_by_cmp nat_cmp q) xs)
any_member q [] m = absurd m
any_member q (x ∷ xs) (inl same) = left_or _ _ (subst (λ (y : ℕ). IsTrue (eq_by_cmp nat_cmp q y)) same (ties q))
any_member q (x ∷ xs) (inr m) = right_or _ _ (any_member q xs m)

member_any : (q : ℕ) (xs : List ℕ) → IsTrue (list_any (eq_by_cmp nat_cmp q) xs) → Member q xs
member_any q [] h = absurd (cc)
member_any q (x ∷ xs) h = elim (either _ _ h) [ inl here ↦ inl (same_tied q x here) | inr later ↦ inr (member_any q xs later) ]

below_member : {X : Type 0} (x : ℕ) (es : List (ℕ × X)) → T (below_all nat_cmp x es) → (y : ℕ) → Member y (map (λ e. e.0) es) → x < y
below_member x [] h y m = absurd m
below_member x (e ∷ es) h y (inl same) = rw same (lt_from_cmp x e.0 (first_T _ _ h))
below_member x (e ∷ es) h y (inr m) = below_member x es (second_T _ _ h) y m

pub rises_sorted : {X : Type 0} (es : List (ℕ × X)) → T (is_sorted nat_cmp es) → Rises (map (λ e. e.0) es)
rises_sorted [] h = tt
rises_sorted (e ∷ es) h = (below_member e.0 es (first_T _ _ h), rises_sorted es (second_T _ _ h))

-- a number is there exactly where it is among the numbers
pub there : (rows : Entries) (a : ℕ) → Member a (numbers_of rows) → IsTrue (is_some (value_at nat_cmp a rows))
there rows a m = is_some-find nat_cmp a rows ∙ any_member a (numbers_of rows) m

pub among : (rows : Entries) (a : ℕ) → IsTrue (is_some (value_at nat_cmp a rows)) → Member a (numbers_of rows)
among rows a h = member_any a (numbers_of rows) (sym (is_some-find nat_cmp a rows) ∙ h)

module _ (d : Density) (rows : Entries) where
  -- the list of cores has the cores and no other number
  pub are_cores : AreCores (is_core d rows) (cores_of d rows)
  are_cores = record {
    each = λ c m. (passes_in (is_core d rows) (numbers_of rows) c m).passes;
    all = λ c h. member_filter (is_core d rows) (numbers_of rows) c (among rows c (first_of_both _ _ h)) h;
  }

  -- whether a member of the numbers is a core is whether it has enough neighbours
  pub core_by_size : (a : ℕ) → Member a (numbers_of rows) → is_core d rows a ≡ nat_le d.minpts (size_of d rows a)
  core_by_size a m = ap (λ b. b && nat_le d.minpts (size_of d rows a)) (there rows a m)

  pub core_mark : (a : ℕ) → IsTrue (is_core d rows a) → mark_of d rows a ≡ Core (cluster_of d rows a)
  core_mark a h = ap (λ b. if b then Core (cluster_of d rows a) else outer_mark d rows (anchor_of d rows a)) h

  pub other_mark : (a : ℕ) → is_core d rows a ≡ false → mark_of d rows a ≡ outer_mark d rows (anchor_of d rows a)
  other_mark a h = ap (λ b. if b then Core (cluster_of d rows a) else outer_mark d rows (anchor_of d rows a)) h

  pub core_anchor : (a : ℕ) → IsTrue (is_core d rows a) → anchor_of d rows a ≡ None
  core_anchor a h = ap (λ b. if b then None else find (is_near d rows a) (cores_of d rows)) h

  pub other_anchor : (a : ℕ) → is_core d rows a ≡ false → anchor_of d rows a ≡ find (is_near d rows a) (cores_of d rows)
  other_anchor a h = ap (λ b. if b then None else find (is_near d rows a) (cores_of d rows)) h

  module _ (sorted : T (is_sorted nat_cmp rows)) where
    pub rises_cores : Rises (cores_of d rows)
    rises_cores = rises_filter (is_core d rows) (numbers_of rows) (rises_sorted rows sorted)

    -- the label of a core is the least core that a chain joins it with
    pub cluster_is : (a : ℕ) → IsTrue (is_core d rows a) → IsLabel (is_core d rows) (is_near d rows) a (cluster_of d rows a)
    cluster_is a h = label_is (is_core d rows) (is_near d rows) (cores_of d rows) are_cores rises_cores a h

    pub is_cluster : (a b : ℕ) → IsLabel (is_core d rows) (is_near d rows) a b → cluster_of d rows a ≡ b
    is_cluster a b h = label_of_is (is_core d rows) (is_near d rows) (cores_of d rows) are_cores rises_cores a b h

    -- the anchor is the least core near a record that is no core
    pub anchor_is : (a b : ℕ) → anchor_of d rows a ≡ Some b → IsAnchor (is_core d rows) (is_near d rows) a b
    anchor_is a b found = elim (cases_Bool (is_core d rows a)) [
      | inl core ↦ absurd (none-some b (sym (core_anchor a core) ∙ found))
      | inr other ↦
          let at = find_first (is_near d rows a) (cores_of d rows) b rises_cores (sym (other_anchor a other) ∙ found) in
          record {
            no_core = other;
            is_core = are_cores.each b at.member;
            is_near = at.passes;
            least = λ c h n. at.least c (are_cores.all c h) n;
          }
    ]

    -- and what is so is the anchor
    pub is_anchor : (a b : ℕ) → IsAnchor (is_core d rows) (is_near d rows) a b → anchor_of d rows a ≡ Some b
    is_anchor a b h =
        let first = first_of (is_near d rows a) (cores_of d rows) b rises_cores (are_cores.all b h.is_core) h.is_near in
        let up : first.0 ≤ b = first.1.least b (are_cores.all b h.is_core) h.is_near in
        let down : b ≤ first.0 = h.least first.0 (are_cores.each first.0 first.1.member) first.1.passes in
        let same : first.0 ≡ b = omega (arith, up, down) in
        other_anchor a h.no_core ∙ first.1.found ∙ ap Some same

  -- where no core is near a record that is no core, there is none
  pub none_anchor : (a : ℕ) → is_core d rows a ≡ false → ((c : ℕ) → IsTrue (is_core d rows c) → is_near d rows a c ≡ false) → anchor_of d rows a ≡ None
  none_anchor a other off =
      other_anchor a other ∙ find_none (is_near d rows a) (cores_of d rows) (λ k h. off _ (are_cores.each _ (member_at (cores_of d rows) k h)))

  -- and where there is none, no core is near such a record
  pub no_anchor : (a : ℕ) → is_core d rows a ≡ false → anchor_of d rows a ≡ None → (c : ℕ) → IsTrue (is_core d rows c) → is_near d rows a c ≡ false
  no_anchor a other none c h = find_fails (is_near d rows a) (cores_of d rows) (sym (other_anchor a other) ∙ none) c (are_cores.all c h)
