-- How many body pages there are after a save, and the references of a save by the parts that were computed.
use Rattle.std.proofs.Common.{◌≡◌, ℕ, ◌+◌, ◌-◌, ◌*◌, ◌/◌, ◌<◌, ◌≤◌, ◌^◌, max, Bool, true, false, List, ◌++◌, length, replicate, sym, ◌∙◌, ap, subst, arith, length-append}
use Rattle.std.specs.Prelude.{◌==◌}
use Rattle.std.specs.List.{count_by}
use Rattle.std.proofs.lemmas.List.{length-replicate}
use Rattle.std.proofs.lemmas.List.Sums.{count_by-le-length}
use Rattle.node_places.specs.declared.nodes.Tagged.{Tagged}
use Rattle.node_places.specs.Nodes.{is_of, numbers_from, count_of, leaf_slots, inner_slots, kinds_after, refs_after}
use Rattle.node_places.proofs.Keeping.{leaves_stand, inners_stand}
use Rattle.tree_layout.proofs.Sized.{numbers_count}

four_long : (w x y z : List ℕ)
    → length (w ++ (x ++ (y ++ z))) ≡ length w + (length x + (length y + length z))
four_long w x y z = length-append w (x ++ (y ++ z))
    ∙ ap (λ (n : ℕ). length w + n) (length-append x (y ++ z) ∙ ap (λ (n : ℕ). length x + n) (length-append y z))

same_long : (n kind : ℕ) → length (replicate n kind) ≡ n
same_long n kind = length-replicate n kind

-- as many kinds as there were, and those of the pages that are added
pub length-kinds : (kinds : List ℕ) (records leaves inners : ℕ)
    → length (kinds_after kinds records leaves inners) ≡ length kinds + ((records - count_of 1 kinds) + ((leaves - count_of 2 kinds) + (inners - count_of 3 kinds)))
length-kinds kinds records leaves inners =
    let a = records - count_of 1 kinds in
    let b = leaves - count_of 2 kinds in
    let c = inners - count_of 3 kinds in
    let twos : List ℕ = replicate b 2 in
    let threes : List ℕ = replicate c 3 in
    four_long kinds (replicate a 1) twos threes
    ∙ ap (λ (n : ℕ). length kinds + (n + (length twos + length threes))) (same_long a 1)
    ∙ ap (λ (n : ℕ). length kinds + (a + (n + length threes))) (same_long b 2)
    ∙ ap (λ (n : ℕ). length kinds + (a + (b + n))) (same_long c 3)

few_more : (before records a leaves b inners c leaf_pages leaf_nodes inner_pages inner_nodes : ℕ)
    → before + 2 < 2 ^ 20 → records ≤ 200000 → leaf_pages ≤ before → leaf_nodes ≤ 200000
    → inner_pages ≤ before → inner_nodes ≤ 200000 → leaves < max (63 * leaf_pages) leaf_nodes + 63
    → inners < max inner_pages inner_nodes + 1
    → before + ((records - a) + ((leaves / 63 - b) + (inners - c))) + 2 < 2 ^ 26
few_more before records a leaves b inners c leaf_pages leaf_nodes inner_pages inner_nodes old some p q r s leaf inner =
    omega (arith, old, some, p, q, r, s, leaf, inner)

module _ (kinds : List ℕ) (records : ℕ) (nodes : List Tagged) where
  abbrev leaves : List ℕ
  leaves = leaf_slots kinds nodes

  abbrev inners : List ℕ
  inners = inner_slots kinds nodes

  abbrev after : List ℕ
  after = kinds_after kinds records (length leaves / 63) (length inners)

  nodes_few : (m limit : ℕ) (p : Tagged → Bool) → m ≡ count_by p nodes → length nodes ≤ limit → m ≤ limit
  nodes_few m limit p is few = omega (arith, is, few, count_by-le-length p nodes)

  pub few_kinds : length kinds + 2 < 2 ^ 20 → records ≤ 200000 → length nodes ≤ 200000
      → length after + 2 < 2 ^ 26
  few_kinds old some few =
      let long : length after + 2 ≡ length kinds + ((records - count_of 1 kinds) + ((length leaves / 63 - count_of 2 kinds) + (length inners - count_of 3 kinds))) + 2 = ap (λ (n : ℕ). n + 2) (length-kinds kinds records (length leaves / 63) (length inners)) in
      subst (λ (n : ℕ). n < 2 ^ 26) (sym long)
      (few_more (length kinds) records (count_of 1 kinds) (length leaves) (count_of 2 kinds) (length inners) (count_of 3 kinds) (count_of 2 kinds) (length (numbers_from 1 true nodes)) (count_of 3 kinds) (length (numbers_from 1 false nodes)) old some
      (count_by-le-length (λ k. k == 2) kinds) (nodes_few (length (numbers_from 1 true nodes)) 200000 (is_of true) (numbers_count true 1 nodes) few)
      (count_by-le-length (λ k. k == 3) kinds) (nodes_few (length (numbers_from 1 false nodes)) 200000 (is_of false) (numbers_count false 1 nodes) few)
      (leaves_stand kinds nodes).few (inners_stand kinds nodes).few)

-- the parts that were computed are those of a save
module _ (kinds : List ℕ) (records : ℕ) (tags given : List Tagged) (its : given ≡ tags) (leaves inners : List ℕ) (leaf : leaves ≡ leaf_slots kinds given) (inner : inners ≡ inner_slots kinds given)
    (leaf_count inner_count : ℕ) (leaf_long : leaf_count ≡ length leaves) (inner_long : inner_count ≡ length inners) (all shown : List ℕ) (kinds_are : all ≡ kinds_after kinds records (leaf_count / 63) inner_count) (show : shown ≡ all) where
  leaves_are : leaves ≡ leaf_slots kinds tags
  leaves_are = leaf ∙ ap (leaf_slots kinds) its

  inners_are : inners ≡ inner_slots kinds tags
  inners_are = inner ∙ ap (inner_slots kinds) its

  shown_are : shown ≡ after kinds records tags
  shown_are = show ∙ kinds_are
      ∙ ap (λ (n : ℕ). kinds_after kinds records (n / 63) inner_count) (leaf_long ∙ ap length leaves_are)
      ∙ ap (λ (n : ℕ). kinds_after kinds records (length (leaf_slots kinds tags) / 63) n) (inner_long ∙ ap length inners_are)

  pub few_shown : length kinds + 2 < 2 ^ 20 → records ≤ 200000 → length tags ≤ 200000
      → length shown + 2 < 2 ^ 26
  few_shown old some few =
      subst (λ (l : List ℕ). length l + 2 < 2 ^ 26) (sym shown_are) (few_kinds kinds records tags old some few)

  pub refs_are : (seen : List Tagged) (refs : List ℕ) → seen ≡ tags
      → refs ≡ refs_after shown leaves inners seen
      → refs ≡ refs_after (after kinds records tags) (leaf_slots kinds tags) (inner_slots kinds tags) tags
  refs_are seen refs same is = is
      ∙ ap (λ (l : List ℕ). refs_after l leaves inners seen) shown_are
      ∙ ap (λ (l : List ℕ). refs_after (after kinds records tags) l inners seen) leaves_are
      ∙ ap (λ (l : List ℕ). refs_after (after kinds records tags) (leaf_slots kinds tags) l seen) inners_are
      ∙ ap (refs_after (after kinds records tags) (leaf_slots kinds tags) (inner_slots kinds tags)) same
