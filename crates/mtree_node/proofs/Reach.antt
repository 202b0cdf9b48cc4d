-- Whether a radius reaches, one entry after the other.
use Rattle.std.proofs.Common.{◌≡◌, ℕ, zero, suc, ◌-◌, ◌<◌, ◌≤◌, true, false, ◌&&◌, List, [], ◌∷◌, ◌++◌, length, get_or, Option, None, Some, refl, sym, ap, subst, ◌∙◌, ◌+◌, length-append, arith, inl, inr}
use Rattle.std.specs.List.{AllByRecursion, flat_map}
use Rattle.std.specs.Prelude.{nat_le}
use Rattle.std.proofs.lemmas.Bool.Decides.{leb_tells}
use Rattle.mtree_node.specs.declared.node.LeafEntry.{LeafEntry}
use Rattle.mtree_node.specs.declared.node.InnerEntry.{InnerEntry, out-InnerEntry}
use Rattle.mtree_node.specs.declared.node.Node.{Node}
use Rattle.mtree_node.specs.declared.node.Node.TheOpen.{Node-F}
use Rattle.mtree_node.specs.declared.node.Node.TheVariants as node
use Rattle.mtree_node.specs.Layer.{Layer}
use Rattle.mtree_node.specs.Tree.{leaves, leaves_in, IsFilled, IsNode, IsNodeIn, IsLeafEntry, IsInnerEntry}
use Rattle.mtree_node.specs.Walk.{reaches}
use Rattle.mtree_node.proofs.Sizes.{all_weaker}
use Rattle.mtree_node.proofs.Opened.{opened_leaf, opened_inner}

module _ (dist : List ℕ → List ℕ → ℕ) (object : List ℕ) (radius : ℕ) where
  pub reach_next : (l : LeafEntry) (ls : List LeafEntry) → dist object l.vector ≤ radius → reaches dist object radius (l ∷ ls) ≡ reaches dist object radius ls
  reach_next l ls near = elim (leb_tells (dist object l.vector) radius) [ inl t ↦ rw t.0 refl | inr f ↦ absurd (omega (arith, near, f.1)) ]

  pub reach_stops : (l : LeafEntry) (ls : List LeafEntry) → radius < dist object l.vector → reaches dist object radius (l ∷ ls) ≡ false
  reach_stops l ls far = elim (leb_tells (dist object l.vector) radius) [ inl t ↦ absurd (omega (arith, far, t.1)) | inr f ↦ rw f.0 refl ]

  pub reach_append : (xs ys : List LeafEntry) → reaches dist object radius (xs ++ ys) ≡ reaches dist object radius xs && reaches dist object radius ys
  reach_append [] ys = refl
  reach_append (x ∷ xs) ys =
      rw (reach_append xs ys) (elim (nat_le (dist object x.vector) radius) as (λ b. (b && (reaches dist object radius xs && reaches dist object radius ys)) ≡ ((b && reaches dist object radius xs) && reaches dist object radius ys)) [ true ↦ refl | false ↦ refl ])

  module _ (under : InnerEntry → List LeafEntry) (e : InnerEntry) (rest es : List InnerEntry) (next : rest ≡ e ∷ es) where
    pub child_reached : reaches dist object radius (under e) ≡ true → reaches dist object radius (flat_map under rest) ≡ reaches dist object radius (flat_map under es)
    child_reached all = rw next (reach_append (under e) (flat_map under es) ∙ rw all refl)

    pub child_stops : reaches dist object radius (under e) ≡ false → reaches dist object radius (flat_map under rest) ≡ false
    child_stops none = rw next (reach_append (under e) (flat_map under es) ∙ rw none refl)

pub child_entries : (under : InnerEntry → List LeafEntry) (e : InnerEntry) (rest es : List InnerEntry) → rest ≡ e ∷ es → length (flat_map under rest) ≡ length (under e) + length (flat_map under es)
child_entries under e rest es next = rw next (length-append (under e) (flat_map under es))

pub child_counted : (under : InnerEntry → List LeafEntry) (e : InnerEntry) (rest es : List InnerEntry) → rest ≡ e ∷ es → (before after most : ℕ) → before + length (flat_map under rest) ≤ most → after ≤ before + length (under e)
    → after + length (flat_map under es) ≤ most
child_counted under e rest es next before after most within one = omega (arith, child_entries under e rest es next, within, one)

pub all_at : {A : Type 0} (P : A → Type 0) (xs : List A) (i : ℕ) (x : A) → i < length xs → x ≡ get_or xs i x → AllByRecursion P xs → P x
all_at P [] i x few is all = absurd (omega (arith, few))
all_at P (y ∷ ys) zero x few is all = subst P (sym is) all.0
all_at P (y ∷ ys) (suc i) x few is all = all_at P ys i x (omega (arith, few)) is all.1

module _ (dist : List ℕ → List ℕ → ℕ) (w greatest : ℕ) where
  pub node_level : (h : ℕ) (over : Option (List ℕ)) (n : Node) → IsNode dist w greatest h over n → h ≡ suc (h - 1)
  node_level zero over n s = absurd s
  node_level (suc h) over n s = omega arith

  abbrev OpenNode : ℕ → Option (List ℕ) → Layer → Type 0
  OpenNode k over = IsNodeIn dist w greatest k (λ object m. IsNode dist w greatest k (Some object) m) (leaves k) over

  filled_few : (over : Option (List ℕ)) (low n : ℕ) → IsFilled over low n → n ≤ 30
  filled_few None low n f = f.1
  filled_few (Some object) low n f = f.1

  -- a leaf has few entries
  pub leaf_room : (h : ℕ) (over : Option (List ℕ)) (n : Node) (tag : ℕ) (es : List LeafEntry) → n ≡ node.Leaf tag es → IsNode dist w greatest h over n → length es ≤ 30
  leaf_room h over n tag es is s =
      let here : OpenNode (h - 1) over (Node-F.Leaf tag es) = subst (OpenNode (h - 1) over) (opened_leaf n tag es is) (subst (λ k. IsNode dist w greatest k over n) (node_level h over n s) s) in
      filled_few over 1 (length es) here.1

  -- the vectors of a leaf
  pub leaf_widths : (h : ℕ) (over : Option (List ℕ)) (n : Node) (tag : ℕ) (es : List LeafEntry) → n ≡ node.Leaf tag es → IsNode dist w greatest h over n → AllByRecursion (λ e. length e.vector ≡ w) es
  leaf_widths h over n tag es is s =
      let here : OpenNode (h - 1) over (Node-F.Leaf tag es) = subst (OpenNode (h - 1) over) (opened_leaf n tag es is) (subst (λ k. IsNode dist w greatest k over n) (node_level h over n s) s) in
      all_weaker (IsLeafEntry dist w greatest over) (λ e. length e.vector ≡ w) es (λ e k. k.vector.len) here.2

  -- the children of an inner node
  pub inner_nodes : (h : ℕ) (over : Option (List ℕ)) (n : Node) (tag : ℕ) (es : List InnerEntry) → n ≡ node.Inner tag es → IsNode dist w greatest h over n
      → AllByRecursion (λ e. (g : ℕ) × (o : Option (List ℕ)) × IsNode dist w g (h - 1) o (out-InnerEntry e).child) es
  inner_nodes h over n tag es is s =
      let k = h - 1 in
      let here : OpenNode k over (Node-F.Inner tag es) = subst (OpenNode k over) (opened_inner n tag es is) (subst (λ j. IsNode dist w greatest j over n) (node_level h over n s) s) in
      all_weaker (λ e. IsInnerEntry dist w greatest (λ object m. IsNode dist w greatest k (Some object) m) (leaves k) over (out-InnerEntry e)) (λ e. (g : ℕ) × (o : Option (List ℕ)) × IsNode dist w g k o (out-InnerEntry e).child) es
      (λ e i. (greatest, Some (out-InnerEntry e).object, i.child)) here.2

-- the leaf entries below a node that was opened
pub leaves_of_leaf : (h k : ℕ) (n : Node) (tag : ℕ) (es : List LeafEntry) → h ≡ suc k → n ≡ node.Leaf tag es → leaves h n ≡ es
leaves_of_leaf h k n tag es level is = ap (λ m. leaves m n) level ∙ ap (leaves_in (leaves k)) (opened_leaf n tag es is)

pub leaves_of_inner : (h k : ℕ) (n : Node) (tag : ℕ) (es : List InnerEntry) → h ≡ suc k → n ≡ node.Inner tag es → leaves h n ≡ flat_map (λ e. leaves k (out-InnerEntry e).child) es
leaves_of_inner h k n tag es level is = ap (λ m. leaves m n) level ∙ ap (leaves_in (leaves k)) (opened_inner n tag es is)
