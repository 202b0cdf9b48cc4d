-- What new tags leave as it was, and where they stand.
use Rattle.std.proofs.Common.{◌≡◌, ℕ, zero, suc, ◌+◌, ◌<◌, ◌≤◌, if◌then◌else◌, List, [], ◌∷◌, ◌++◌, length, map, drop, sum_by, slice_index, Option, Some, None, refl, sym, ap, subst, ◌∙◌, arith, append_assoc}
use Rattle.std.specs.Prelude.{nat_le}
use Rattle.std.proofs.lemmas.List.{append-nil, map-append, drop_more, drop_all}
use Rattle.std.proofs.lemmas.List.Sums.{sum_by-cons}
use Rattle.std.specs.List.{AllByRecursion, flat_map}
use Rattle.mtree_node.specs.declared.node.InnerEntry.{InnerEntry, out-InnerEntry}
use Rattle.mtree_node.specs.declared.node.LeafEntry.{LeafEntry}
use Rattle.mtree_node.specs.declared.node.Node.{Node, out-Node}
use Rattle.mtree_node.specs.declared.node.Node.TheOpen.{Node-F}
use Rattle.mtree_node.specs.declared.shape.Shape.{Shape}
use Rattle.mtree_node.specs.declared.shape.Shape.TheVariants as shape
use Rattle.mtree_node.specs.Layer.{Layer, EntryLayer}
use Rattle.mtree_node.specs.Tree.{leaves, leaves_in, AreDistinct, IsLeveled, IsLeveledIn, IsFilled, IsInnerEntry, IsNode, IsNodeIn}
use Rattle.mtree_node.specs.Cost.{is_skipped, entry_cost, cost, cost_in}
use Rattle.mtree_node.specs.Preorder.{size, size_in, shapes_in, shapes_below, shapes_from, preorder, leaf_row, inner_rows, retagged_entry, retagged_below, retagged_in, retagged_from, retagged}
use Rattle.mtree_node.specs.Laws.{tag_of, TagsAreFree, TagsAreInPreorder}
use Rattle.mtree_node.proofs.Opened.{out_inner, out_leaf, out_roll}
use Rattle.mtree_node.proofs.Sizes.{child_size, all_weaker}

-- the entry with another child, when it is opened
abbrev with_child : (Node → Node) → EntryLayer → EntryLayer
with_child f e = record { object = e.object; radius = e.radius; parent = e.parent; child = f e.child }

opened_entry : (f : Node → Node) (e : EntryLayer) → out-InnerEntry (retagged_entry f e) ≡ with_child f e
opened_entry f e = out_roll (with_child f e)

module _ (below : ℕ → Node → Node) (sizes : Node → ℕ) where
  -- what each entry keeps, the entries together keep
  module _ (P : InnerEntry → Type 0) (kept : (at : ℕ) (e : InnerEntry) → P e → P (retagged_entry (below at) (out-InnerEntry e))) where
    all_below : (at : ℕ) (es : List InnerEntry) → AllByRecursion P es → AllByRecursion P (retagged_below sizes below at es)
    all_below at [] all = tt
    all_below at (e ∷ es) all = (kept at e all.0, all_below (at + sizes (out-InnerEntry e).child) es all.1)

  module _ {B : Type 0} (F : InnerEntry → List B) (same : (at : ℕ) (e : InnerEntry) → F (retagged_entry (below at) (out-InnerEntry e)) ≡ F e) where
    flat_below : (at : ℕ) (es : List InnerEntry) → flat_map F (retagged_below sizes below at es) ≡ flat_map F es
    flat_below at [] = refl
    flat_below at (e ∷ es) =
        let next = at + sizes (out-InnerEntry e).child in
        ap (λ xs. xs ++ flat_map F (retagged_below sizes below next es)) (same at e) ∙ ap (λ xs. F e ++ xs) (flat_below next es)

  module _ (F : InnerEntry → ℕ) (same : (at : ℕ) (e : InnerEntry) → F (retagged_entry (below at) (out-InnerEntry e)) ≡ F e) where
    sum_below : (at : ℕ) (es : List InnerEntry) → sum_by F (retagged_below sizes below at es) ≡ sum_by F es
    sum_below at [] = refl
    sum_below at (e ∷ es) =
        let next = at + sizes (out-InnerEntry e).child in
        omega (arith, same at e, sum_below next es, sum_by-cons F (retagged_entry (below at) (out-InnerEntry e)) (retagged_below sizes below next es), sum_by-cons F e es)

  below_length : (at : ℕ) (es : List InnerEntry) → length (retagged_below sizes below at es) ≡ length es
  below_length at [] = refl
  below_length at (e ∷ es) = omega (arith, below_length (at + sizes (out-InnerEntry e).child) es)

module _ (tags : List ℕ) where
  leaves_layer : (h : ℕ) → ((at : ℕ) (n : Node) → leaves h (retagged_from tags h at n) ≡ leaves h n) → (tag at : ℕ) (n : Layer) → leaves_in (leaves h) (out-Node (retagged_in (size h) (retagged_from tags h) tag at n)) ≡ leaves_in (leaves h) n
  leaves_layer h ih tag at (Node-F.Leaf old es) = ap (leaves_in (leaves h)) (out_leaf tag es)
  leaves_layer h ih tag at (Node-F.Inner old es) =
      let same : (p : ℕ) (e : InnerEntry) → leaves h (out-InnerEntry (retagged_entry (retagged_from tags h p) (out-InnerEntry e))).child ≡ leaves h (out-InnerEntry e).child =
      λ p e. ap (λ (l : EntryLayer). leaves h l.child) (opened_entry (retagged_from tags h p) (out-InnerEntry e)) ∙ ih p (out-InnerEntry e).child in
      ap (leaves_in (leaves h)) (out_inner tag (retagged_below (size h) (retagged_from tags h) (at + 1) es))
      ∙ flat_below (retagged_from tags h) (size h) (λ (e : InnerEntry). leaves h (out-InnerEntry e).child) same (at + 1) es

  -- the leaf entries stay
  pub retagged_leaves : (h at : ℕ) (n : Node) → leaves h (retagged_from tags h at n) ≡ leaves h n
  retagged_leaves zero at n = refl
  retagged_leaves (suc h) at n = leaves_layer h (retagged_leaves h) (slice_index tags at) at (out-Node n)

  size_layer : (h : ℕ) → ((at : ℕ) (n : Node) → size h (retagged_from tags h at n) ≡ size h n) → (tag at : ℕ) (n : Layer) → size_in (size h) (out-Node (retagged_in (size h) (retagged_from tags h) tag at n)) ≡ size_in (size h) n
  size_layer h ih tag at (Node-F.Leaf old es) = ap (size_in (size h)) (out_leaf tag es)
  size_layer h ih tag at (Node-F.Inner old es) =
      let same : (p : ℕ) (e : InnerEntry) → child_size h (retagged_entry (retagged_from tags h p) (out-InnerEntry e)) ≡ child_size h e =
      λ p e. ap (λ (l : EntryLayer). size h l.child) (opened_entry (retagged_from tags h p) (out-InnerEntry e)) ∙ ih p (out-InnerEntry e).child in
      ap (size_in (size h)) (out_inner tag (retagged_below (size h) (retagged_from tags h) (at + 1) es))
      ∙ ap (λ (k : ℕ). 1 + k) (sum_below (retagged_from tags h) (size h) (child_size h) same (at + 1) es)

  -- as many nodes
  pub retagged_size : (h at : ℕ) (n : Node) → size h (retagged_from tags h at n) ≡ size h n
  retagged_size zero at n = refl
  retagged_size (suc h) at n = size_layer h (retagged_size h) (slice_index tags at) at (out-Node n)

  leveled_layer : (h : ℕ) → ((at : ℕ) (n : Node) → IsLeveled h n → IsLeveled h (retagged_from tags h at n)) → (tag at : ℕ) (n : Layer) → IsLeveledIn h (IsLeveled h) n
      → IsLeveledIn h (IsLeveled h) (out-Node (retagged_in (size h) (retagged_from tags h) tag at n))
  leveled_layer h ih tag at (Node-F.Leaf old es) is = subst (IsLeveledIn h (IsLeveled h)) (sym (out_leaf tag es)) is
  leveled_layer h ih tag at (Node-F.Inner old es) is =
      let new = retagged_below (size h) (retagged_from tags h) (at + 1) es in
      let many = below_length (retagged_from tags h) (size h) (at + 1) es in
      let kept = λ (p : ℕ) (e : InnerEntry) (k : IsLeveled h (out-InnerEntry e).child).
      subst (λ (l : EntryLayer). IsLeveled h l.child) (sym (opened_entry (retagged_from tags h p) (out-InnerEntry e))) (ih p (out-InnerEntry e).child k) in
      subst (IsLeveledIn h (IsLeveled h)) (sym (out_inner tag new))
      (is.0, omega (arith, many, is.1), omega (arith, many, is.2), all_below (retagged_from tags h) (size h) (λ (e : InnerEntry). IsLeveled h (out-InnerEntry e).child) kept (at + 1) es is.3)

  -- the leaves stay on their level
  pub retagged_leveled : (h at : ℕ) (n : Node) → IsLeveled h n → IsLeveled h (retagged_from tags h at n)
  retagged_leveled zero at n is = absurd is
  retagged_leveled (suc h) at n is = leveled_layer h (retagged_leveled h) (slice_index tags at) at (out-Node n) is

module _ (dist : List ℕ → List ℕ → ℕ) (centre : List ℕ) (radius : ℕ) where
  -- what a query computes at an entry, where its child costs this
  abbrev entry_with : Option ℕ → EntryLayer → ℕ → ℕ
  entry_with to_object e below =
      if is_skipped to_object (radius + e.radius) e.parent then 0
      else (1 + (if nat_le (dist centre e.object) (radius + e.radius) then below else 0))

  cost_layer : (h : ℕ) → ((to_object : Option ℕ) (at : ℕ) (tags : List ℕ) (n : Node) → cost dist centre radius h to_object (retagged_from tags h at n) ≡ cost dist centre radius h to_object n)
      → (to_object : Option ℕ) (tag at : ℕ) (tags : List ℕ) (n : Layer)
      → cost_in dist centre radius (cost dist centre radius h) to_object (out-Node (retagged_in (size h) (retagged_from tags h) tag at n)) ≡ cost_in dist centre radius (cost dist centre radius h) to_object n
  cost_layer h ih to_object tag at tags (Node-F.Leaf old es) = ap (cost_in dist centre radius (cost dist centre radius h) to_object) (out_leaf tag es)
  cost_layer h ih to_object tag at tags (Node-F.Inner old es) =
      let below = cost dist centre radius h in
      let of = λ (e : InnerEntry). entry_cost dist centre radius below to_object (out-InnerEntry e) in
      let same : (p : ℕ) (e : InnerEntry) → of (retagged_entry (retagged_from tags h p) (out-InnerEntry e)) ≡ of e =
      λ p e. ap (entry_cost dist centre radius below to_object) (opened_entry (retagged_from tags h p) (out-InnerEntry e))
      ∙ ap (entry_with to_object (out-InnerEntry e)) (ih (Some (dist centre (out-InnerEntry e).object)) p tags (out-InnerEntry e).child) in
      ap (cost_in dist centre radius below to_object) (out_inner tag (retagged_below (size h) (retagged_from tags h) (at + 1) es))
      ∙ sum_below (retagged_from tags h) (size h) of same (at + 1) es

  -- a query computes as many distances
  pub retagged_cost : (h : ℕ) (to_object : Option ℕ) (at : ℕ) (tags : List ℕ) (n : Node) → cost dist centre radius h to_object (retagged_from tags h at n) ≡ cost dist centre radius h to_object n
  retagged_cost zero to_object at tags n = refl
  retagged_cost (suc h) to_object at tags n = cost_layer h (retagged_cost h) to_object (slice_index tags at) at tags (out-Node n)

module _ (dist : List ℕ → List ℕ → ℕ) (width greatest : ℕ) where
  abbrev Below : ℕ → List ℕ → Node → Type 0
  Below h object n = IsNode dist width greatest h (Some object) n

  abbrev IsEntry : ℕ → Option (List ℕ) → InnerEntry → Type 0
  IsEntry h over e = IsInnerEntry dist width greatest (Below h) (leaves h) over (out-InnerEntry e)

  entry_kept : (h : ℕ) (over : Option (List ℕ)) (f : Node → Node) (e : InnerEntry) → leaves h (f (out-InnerEntry e).child) ≡ leaves h (out-InnerEntry e).child
      → Below h (out-InnerEntry e).object (f (out-InnerEntry e).child) → IsEntry h over e → IsEntry h over (retagged_entry f (out-InnerEntry e))
  entry_kept h over f e same child is =
      let l = out-InnerEntry e in
      subst (IsInnerEntry dist width greatest (Below h) (leaves h) over) (sym (opened_entry f l)) (record {
        object = is.object;
        parent = is.parent;
        radius = is.radius;
        covers = subst (AllByRecursion (λ (x : LeafEntry). dist l.object x.vector ≤ l.radius)) (sym same) is.covers;
        child = child;
      })

  node_layer : (h : ℕ) → ((over : Option (List ℕ)) (at : ℕ) (tags : List ℕ) (n : Node) → IsNode dist width greatest h over n → IsNode dist width greatest h over (retagged_from tags h at n))
      → (over : Option (List ℕ)) (tag at : ℕ) (tags : List ℕ) (n : Layer) → IsNodeIn dist width greatest h (Below h) (leaves h) over n
      → IsNodeIn dist width greatest h (Below h) (leaves h) over (out-Node (retagged_in (size h) (retagged_from tags h) tag at n))
  node_layer h ih over tag at tags (Node-F.Leaf old es) is = subst (IsNodeIn dist width greatest h (Below h) (leaves h) over) (sym (out_leaf tag es)) is
  node_layer h ih over tag at tags (Node-F.Inner old es) is =
      let new = retagged_below (size h) (retagged_from tags h) (at + 1) es in
      let kept = λ (p : ℕ) (e : InnerEntry) (k : IsEntry h over e).
      entry_kept h over (retagged_from tags h p) e (retagged_leaves tags h p (out-InnerEntry e).child) (ih (Some (out-InnerEntry e).object) p tags (out-InnerEntry e).child k.child) k in
      subst (IsNodeIn dist width greatest h (Below h) (leaves h) over) (sym (out_inner tag new))
      (is.0, subst (IsFilled over 2) (sym (below_length (retagged_from tags h) (size h) (at + 1) es)) is.1, all_below (retagged_from tags h) (size h) (IsEntry h over) kept (at + 1) es is.2)

  -- a node with new tags is as well formed
  pub retagged_node : (h : ℕ) (over : Option (List ℕ)) (at : ℕ) (tags : List ℕ) (n : Node) → IsNode dist width greatest h over n → IsNode dist width greatest h over (retagged_from tags h at n)
  retagged_node zero over at tags n is = absurd is
  retagged_node (suc h) over at tags n is = node_layer h (retagged_node h) over (slice_index tags at) at tags (out-Node n) is

  filled : (over : Option (List ℕ)) (low entries : ℕ) → 1 ≤ low → IsFilled over low entries → (1 ≤ entries) × (entries ≤ 30)
  filled None low entries some is = (omega (arith, is.0), is.1)
  filled (Some object) low entries some is = (omega (arith, is.0), is.1)

  leveled_in : (h : ℕ) → ((over : Option (List ℕ)) (n : Node) → IsNode dist width greatest h over n → IsLeveled h n)
      → (over : Option (List ℕ)) (n : Layer) → IsNodeIn dist width greatest h (Below h) (leaves h) over n → IsLeveledIn h (IsLeveled h) n
  leveled_in h ih over (Node-F.Leaf tag es) is = (is.0, (filled over 1 (length es) (omega arith) is.1).1)
  leveled_in h ih over (Node-F.Inner tag es) is =
      let few = filled over 2 (length es) (omega arith) is.1 in
      (is.0, few.0, few.1, all_weaker (IsEntry h over) (λ (e : InnerEntry). IsLeveled h (out-InnerEntry e).child) es (λ e k. ih (Some (out-InnerEntry e).object) (out-InnerEntry e).child k.child) is.2)

  -- a well-formed node has its leaves on one level
  pub node_is_leveled : (h : ℕ) (over : Option (List ℕ)) (n : Node) → IsNode dist width greatest h over n → IsLeveled h n
  node_is_leveled zero over n is = absurd is
  node_is_leveled (suc h) over n is = leveled_in h (node_is_leveled h) over (out-Node n) is

pub tags_are_free : TagsAreFree
tags_are_free dist width greatest h n tags is = record {
  node = retagged_node dist width greatest h None 0 tags n is.node;
  distinct = subst AreDistinct (sym (retagged_leaves tags h 0 n)) is.distinct;
}

-- the tags of a list of shapes and the tags from a place on are the tags from another place on
abbrev AreFrom : List ℕ → ℕ → ℕ → List Shape → Type 0
AreFrom tags at next shapes = map tag_of shapes ++ drop next tags ≡ drop at tags

join_tags : (tags : List ℕ) (at middle next : ℕ) (first second : List Shape) → AreFrom tags at middle first → AreFrom tags middle next second → AreFrom tags at next (first ++ second)
join_tags tags at middle next first second front back =
    ap (λ xs. xs ++ drop next tags) (map-append tag_of first second)
    ∙ append_assoc (map tag_of first) (map tag_of second) (drop next tags)
    ∙ ap (λ xs. map tag_of first ++ xs) back
    ∙ front

one_tag : (tags : List ℕ) (at next : ℕ) (shape : Shape) → next ≡ at + 1 → at < length tags → tag_of shape ≡ slice_index tags at → AreFrom tags at next (shape ∷ [])
one_tag tags at next shape step inside is =
    ap (λ (k : ℕ). tag_of shape ∷ drop k tags) step ∙ ap (λ (k : ℕ). k ∷ drop (at + 1) tags) is ∙ sym (drop_more tags at 0 inside)

module _ (tags : List ℕ) where
  abbrev StandIn : ℕ → Type 0
  StandIn h = (place at : ℕ) (n : Node) → at + size h n ≤ length tags → AreFrom tags at (at + size h n) (shapes_from h place (retagged_from tags h at n))

  tags_below : (h : ℕ) → StandIn h → (place at next : ℕ) (es : List InnerEntry) → next ≡ at + sum_by (child_size h) es → next ≤ length tags
      → AreFrom tags at next (shapes_below (size h) (shapes_from h) place (retagged_below (size h) (retagged_from tags h) at es))
  tags_below h ih place at next [] is inside = ap (λ (k : ℕ). drop k tags) (let same : next ≡ at = omega (arith, is) in same)
  tags_below h ih place at next (e ∷ es) is inside =
      let child = (out-InnerEntry e).child in
      let middle = at + size h child in
      let new = retagged_entry (retagged_from tags h at) (out-InnerEntry e) in
      let opened = opened_entry (retagged_from tags h at) (out-InnerEntry e) in
      let rest : next ≡ middle + sum_by (child_size h) es = omega (arith, is, sum_by-cons (child_size h) e es) in
      let front : AreFrom tags at middle (shapes_from h place (out-InnerEntry new).child) =
      subst (λ (l : EntryLayer). AreFrom tags at middle (shapes_from h place l.child)) (sym opened) (ih place at child (omega (arith, rest, inside))) in
      join_tags tags at middle next (shapes_from h place (out-InnerEntry new).child)
      (shapes_below (size h) (shapes_from h) (place + size h (out-InnerEntry new).child) (retagged_below (size h) (retagged_from tags h) middle es)) front
      (tags_below h ih (place + size h (out-InnerEntry new).child) middle next es rest inside)

  tags_layer : (h : ℕ) → StandIn h → (place at : ℕ) (n : Layer) → at + size_in (size h) n ≤ length tags
      → AreFrom tags at (at + size_in (size h) n) (shapes_in (size h) (shapes_from h) place (out-Node (retagged_in (size h) (retagged_from tags h) (slice_index tags at) at n)))
  tags_layer h ih place at (Node-F.Leaf old es) inside =
      let tag = slice_index tags at in
      subst (λ (l : Layer). AreFrom tags at (at + 1) (shapes_in (size h) (shapes_from h) place l)) (sym (out_leaf tag es))
      (one_tag tags at (at + 1) (shape.Leaf tag (map leaf_row es)) refl (omega (arith, inside)) refl)
  tags_layer h ih place at (Node-F.Inner old es) inside =
      let tag = slice_index tags at in
      let new = retagged_below (size h) (retagged_from tags h) (at + 1) es in
      let head = shape.Inner tag (inner_rows (size h) (place + 1) new) in
      let next = at + (1 + sum_by (child_size h) es) in
      subst (λ (l : Layer). AreFrom tags at next (shapes_in (size h) (shapes_from h) place l)) (sym (out_inner tag new))
      (join_tags tags at (at + 1) next (head ∷ []) (shapes_below (size h) (shapes_from h) (place + 1) new)
      (one_tag tags at (at + 1) head refl (omega (arith, inside)) refl)
      (tags_below h ih (place + 1) (at + 1) next es (omega arith) inside))

  tags_stand : (h : ℕ) → StandIn h
  tags_stand zero place at n inside = ap (λ (k : ℕ). drop k tags) (let same : at + 0 ≡ at = omega arith in same)
  tags_stand (suc h) place at n inside = tags_layer h (tags_stand h) place at (out-Node n) inside

pub tags_in_preorder : TagsAreInPreorder
tags_in_preorder tags h n leveled each =
    let shapes = preorder h (retagged tags h n) in
    let all : drop (0 + size h n) tags ≡ [] = drop_all (0 + size h n) tags (omega (arith, each)) in
    sym (append-nil (map tag_of shapes)) ∙ ap (λ xs. map tag_of shapes ++ xs) (sym all) ∙ tags_stand tags h 0 0 n (omega (arith, each))

one_level_in : (h k : ℕ) → ((n : Node) → IsLeveled h n → IsLeveled k n → h ≡ k) → (n : Layer) → IsLeveledIn h (IsLeveled h) n → IsLeveledIn k (IsLeveled k) n → h ≡ k
one_level_in h k ih (Node-F.Leaf tag es) s t = omega (arith, s.0, t.0)
one_level_in h k ih (Node-F.Inner tag []) s t = absurd (omega (arith, s.1))
one_level_in h k ih (Node-F.Inner tag (e ∷ es)) s t = ih (out-InnerEntry e).child s.3.0 t.3.0

-- the leaves of a tree are on one level
pub one_level : (h k : ℕ) (n : Node) → IsLeveled h n → IsLeveled k n → h ≡ k
one_level zero k n s t = absurd s
one_level (suc h) zero n s t = absurd t
one_level (suc h) (suc k) n s t = ap suc (one_level_in h k (one_level h k) (out-Node n) s t)
