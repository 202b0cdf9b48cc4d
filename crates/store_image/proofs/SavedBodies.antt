-- Body pages put together from slots, leaves and inner nodes: their kinds, what they hold, and that they are lawful.
use Rattle.std.proofs.Common.{◌≡◌, inl, inr, ℕ, ◌+◌, ◌*◌, cond, List, [], ◌∷◌, ◌++◌, length, take, drop, get_or, refl, sym, ◌∙◌, ap, subst, arith, zero-add}
use Rattle.std.specs.Prelude.{◌==◌}
use Rattle.std.specs.List.{AllByRecursion}
use Rattle.std.proofs.lemmas.List.{take-append-drop, length-drop, length-take-le, nil_from_length}
use Rattle.std.proofs.lemmas.List.Sums.{sum_by-cons}
use Rattle.tree_objects.proofs.Lists.{all_front, all_back, get_all}
use Rattle.mtree_node.specs.Preorder.{LeafRow, InnerRow}
use Rattle.node_refs.specs.declared.pages.NodePage.{NodePage}
use Rattle.node_refs.specs.declared.pages.NodePage.TheVariants as page
use Rattle.node_places.specs.Nodes.{count_of}
use Rattle.tree_layout.specs.Layouts.{pages_with}
use Rattle.tree_layout.specs.Laws.{AreKinds}
use Rattle.page_layout.specs.declared.body.Body.{Body}
use Rattle.page_layout.specs.declared.body.Body.TheVariants as body
use Rattle.page_layout.specs.Heads.{Values}
use Rattle.page_layout.specs.Slots.{Rows, IsRow}
use Rattle.page_layout.specs.Leaves.{IsLeaf}
use Rattle.page_layout.specs.Inner.{AreInner}
use Rattle.page_layout.specs.Bodies.{IsBody}
use Rattle.store_image.specs.Contents.{kinds_of, all_slots, node_pages}
use Rattle.store_image.specs.Placing.{size_on, bodies_with}

-- one page of a kind more
pub counted : (kind k : ℕ) (kinds : List ℕ) → count_of kind (k ∷ kinds) ≡ cond (k == kind) 1 0 + count_of kind kinds
counted kind k kinds = sum_by-cons (λ (n : ℕ). cond (n == kind) 1 0) k kinds

-- the kinds of body pages are kinds
pub are_kinds : (bodies : List Body) → AreKinds (kinds_of bodies)
are_kinds [] = tt
are_kinds (body.Slots slots ∷ bodies) = (inl refl, are_kinds bodies)
are_kinds (body.Leaves leaves ∷ bodies) = (inr (inl refl), are_kinds bodies)
are_kinds (body.Inner rows ∷ bodies) = (inr (inr refl), are_kinds bodies)

-- parts of lists of which all is so
module _ {A : Type 0} (P : A → Type 0) where
  parted : (n : ℕ) (xs : List A) → AllByRecursion P xs → AllByRecursion P (take n xs ++ drop n xs)
  parted n xs each = subst (AllByRecursion P) (sym (take-append-drop n xs)) each

  pub each_taken : (n : ℕ) (xs : List A) → AllByRecursion P xs → AllByRecursion P (take n xs)
  each_taken n xs each = all_front P (take n xs) (drop n xs) (parted n xs each)

  pub each_left : (n : ℕ) (xs : List A) → AllByRecursion P xs → AllByRecursion P (drop n xs)
  each_left n xs each = all_back P (take n xs) (drop n xs) (parted n xs each)

module _ (size : ℕ) where
  abbrev With : List ℕ → Rows → List (List LeafRow) → List (List InnerRow) → List Body
  With kinds slots leaves inners = bodies_with size kinds slots leaves inners

  -- the pages have the kinds
  pub kinds_back : (kinds : List ℕ) (slots : Rows) (leaves : List (List LeafRow)) (inners : List (List InnerRow)) → AreKinds kinds
      → kinds_of (bodies_with size kinds slots leaves inners) ≡ kinds
  kinds_back [] slots leaves inners are = refl
  kinds_back (kind ∷ kinds) slots leaves inners are = elim are.0 [
    | inl one ↦ subst (λ (k : ℕ). kinds_of (With (k ∷ kinds) slots leaves inners) ≡ k ∷ kinds) (sym one) (ap (λ (l : List ℕ). 1 ∷ l) (kinds_back kinds (drop size slots) leaves inners are.1))
    | inr (inl two) ↦ subst (λ (k : ℕ). kinds_of (With (k ∷ kinds) slots leaves inners) ≡ k ∷ kinds) (sym two) (ap (λ (l : List ℕ). 2 ∷ l) (kinds_back kinds slots (drop 63 leaves) inners are.1))
    | inr (inr three) ↦ subst (λ (k : ℕ). kinds_of (With (k ∷ kinds) slots leaves inners) ≡ k ∷ kinds) (sym three) (ap (λ (l : List ℕ). 3 ∷ l) (kinds_back kinds slots leaves (drop 1 inners) are.1))
  ]

  -- and the slots
  pub slots_back : (kinds : List ℕ) (slots : Rows) (leaves : List (List LeafRow)) (inners : List (List InnerRow)) → AreKinds kinds
      → length slots ≡ size * count_of 1 kinds → all_slots (bodies_with size kinds slots leaves inners) ≡ slots
  slots_back [] slots leaves inners are long = sym (nil_from_length slots (omega (arith, long)))
  slots_back (kind ∷ kinds) slots leaves inners are long = elim are.0 [
    | inl one ↦
        let more : count_of 1 (kind ∷ kinds) ≡ 1 + count_of 1 kinds = subst (λ (k : ℕ). count_of 1 (k ∷ kinds) ≡ 1 + count_of 1 kinds) (sym one) (counted 1 1 kinds) in
        let left : length (drop size slots) ≡ size * count_of 1 kinds = omega (arith, length-drop size slots, long, ap (λ (n : ℕ). size * n) more) in
        subst (λ (k : ℕ). all_slots (With (k ∷ kinds) slots leaves inners) ≡ slots) (sym one) (ap (λ (l : Rows). take size slots ++ l) (slots_back kinds (drop size slots) leaves inners are.1 left) ∙ take-append-drop size slots)
    | inr (inl two) ↦
        let same : count_of 1 (kind ∷ kinds) ≡ count_of 1 kinds = subst (λ (k : ℕ). count_of 1 (k ∷ kinds) ≡ count_of 1 kinds) (sym two) (counted 1 2 kinds ∙ zero-add (count_of 1 kinds)) in
        subst (λ (k : ℕ). all_slots (With (k ∷ kinds) slots leaves inners) ≡ slots) (sym two) (slots_back kinds slots (drop 63 leaves) inners are.1 (long ∙ ap (λ (n : ℕ). size * n) same))
    | inr (inr three) ↦
        let same : count_of 1 (kind ∷ kinds) ≡ count_of 1 kinds = subst (λ (k : ℕ). count_of 1 (k ∷ kinds) ≡ count_of 1 kinds) (sym three) (counted 1 3 kinds ∙ zero-add (count_of 1 kinds)) in
        subst (λ (k : ℕ). all_slots (With (k ∷ kinds) slots leaves inners) ≡ slots) (sym three) (slots_back kinds slots leaves (drop 1 inners) are.1 (long ∙ ap (λ (n : ℕ). size * n) same))
  ]

  -- and the pages of the nodes
  pub pages_back : (kinds : List ℕ) (slots : Rows) (leaves : List (List LeafRow)) (inners : List (List InnerRow)) → AreKinds kinds
      → node_pages (bodies_with size kinds slots leaves inners) ≡ pages_with kinds leaves inners
  pages_back [] slots leaves inners are = refl
  pages_back (kind ∷ kinds) slots leaves inners are = elim are.0 [
    | inl one ↦ subst (λ (k : ℕ). node_pages (With (k ∷ kinds) slots leaves inners) ≡ pages_with (k ∷ kinds) leaves inners) (sym one) (ap (λ (l : List NodePage). page.Records ∷ l) (pages_back kinds (drop size slots) leaves inners are.1))
    | inr (inl two) ↦ subst (λ (k : ℕ). node_pages (With (k ∷ kinds) slots leaves inners) ≡ pages_with (k ∷ kinds) leaves inners) (sym two) (ap (λ (l : List NodePage). page.Leaves (take 63 leaves) ∷ l) (pages_back kinds slots (drop 63 leaves) inners are.1))
    | inr (inr three) ↦ subst (λ (k : ℕ). node_pages (With (k ∷ kinds) slots leaves inners) ≡ pages_with (k ∷ kinds) leaves inners) (sym three) (ap (λ (l : List NodePage). page.Inner (get_or inners 0 []) ∷ l) (pages_back kinds slots leaves (drop 1 inners) are.1))
  ]

-- what pages of these kinds are put together from
pub record AreParts (v : Values) (kinds : List ℕ) (slots : Rows) (leaves : List (List LeafRow)) (inners : List (List InnerRow)) : Type 0 where
  pub kinds_are : AreKinds kinds
  pub slots_long : length slots ≡ size_on v * count_of 1 kinds
  pub leaves_long : length leaves ≡ 63 * count_of 2 kinds
  pub inners_long : length inners ≡ count_of 3 kinds
  pub slots_are : AllByRecursion (IsRow v) slots
  pub leaves_are : AllByRecursion IsLeaf leaves
  pub inners_are : AllByRecursion (AreInner v) inners

module _ (v : Values) where
  -- each page is lawful
  pub bodies_lawful : (kinds : List ℕ) (slots : Rows) (leaves : List (List LeafRow)) (inners : List (List InnerRow)) → AreParts v kinds slots leaves inners
      → AllByRecursion (IsBody v) (bodies_with (size_on v) kinds slots leaves inners)
  bodies_lawful [] slots leaves inners are = tt
  bodies_lawful (kind ∷ kinds) slots leaves inners are =
      let size = size_on v in elim are.kinds_are.0 [
        | inl one ↦
            let a : AreParts v (1 ∷ kinds) slots leaves inners = subst (λ (k : ℕ). AreParts v (k ∷ kinds) slots leaves inners) one are in
            let long : length slots ≡ size * (1 + count_of 1 kinds) = a.slots_long ∙ ap (λ (n : ℕ). size * n) (counted 1 1 kinds) in
            let first : IsBody v (body.Slots (take size slots)) = record {
              count = length-take-le size slots (omega (arith, long));
              each = each_taken (IsRow v) size slots a.slots_are;
            } in
            let rest : AreParts v kinds (drop size slots) leaves inners = record {
              kinds_are = a.kinds_are.1;
              slots_long = omega (arith, length-drop size slots, long);
              leaves_long = a.leaves_long ∙ ap (λ (n : ℕ). 63 * n) (counted 2 1 kinds ∙ zero-add (count_of 2 kinds));
              inners_long = a.inners_long ∙ counted 3 1 kinds ∙ zero-add (count_of 3 kinds);
              slots_are = each_left (IsRow v) size slots a.slots_are;
              leaves_are = a.leaves_are;
              inners_are = a.inners_are;
            } in
            subst (λ (k : ℕ). AllByRecursion (IsBody v) (bodies_with size (k ∷ kinds) slots leaves inners)) (sym one) (first, bodies_lawful kinds (drop size slots) leaves inners rest)
        | inr (inl two) ↦
            let a : AreParts v (2 ∷ kinds) slots leaves inners = subst (λ (k : ℕ). AreParts v (k ∷ kinds) slots leaves inners) two are in
            let long : length leaves ≡ 63 * (1 + count_of 2 kinds) = a.leaves_long ∙ ap (λ (n : ℕ). 63 * n) (counted 2 2 kinds) in
            let first : IsBody v (body.Leaves (take 63 leaves)) = record {
              count = length-take-le 63 leaves (omega (arith, long));
              each = each_taken IsLeaf 63 leaves a.leaves_are;
            } in
            let rest : AreParts v kinds slots (drop 63 leaves) inners = record {
              kinds_are = a.kinds_are.1;
              slots_long = a.slots_long ∙ ap (λ (n : ℕ). size * n) (counted 1 2 kinds ∙ zero-add (count_of 1 kinds));
              leaves_long = omega (arith, length-drop 63 leaves, long);
              inners_long = a.inners_long ∙ counted 3 2 kinds ∙ zero-add (count_of 3 kinds);
              slots_are = a.slots_are;
              leaves_are = each_left IsLeaf 63 leaves a.leaves_are;
              inners_are = a.inners_are;
            } in
            subst (λ (k : ℕ). AllByRecursion (IsBody v) (bodies_with size (k ∷ kinds) slots leaves inners)) (sym two) (first, bodies_lawful kinds slots (drop 63 leaves) inners rest)
        | inr (inr three) ↦
            let a : AreParts v (3 ∷ kinds) slots leaves inners = subst (λ (k : ℕ). AreParts v (k ∷ kinds) slots leaves inners) three are in
            let long : length inners ≡ 1 + count_of 3 kinds = a.inners_long ∙ counted 3 3 kinds in
            let first : IsBody v (body.Inner (get_or inners 0 [])) = get_all (AreInner v) inners 0 [] a.inners_are (omega (arith, long)) in
            let rest : AreParts v kinds slots leaves (drop 1 inners) = record {
              kinds_are = a.kinds_are.1;
              slots_long = a.slots_long ∙ ap (λ (n : ℕ). size * n) (counted 1 3 kinds ∙ zero-add (count_of 1 kinds));
              leaves_long = a.leaves_long ∙ ap (λ (n : ℕ). 63 * n) (counted 2 3 kinds ∙ zero-add (count_of 2 kinds));
              inners_long = omega (arith, length-drop 1 inners, long);
              slots_are = a.slots_are;
              leaves_are = a.leaves_are;
              inners_are = each_left (AreInner v) 1 inners a.inners_are;
            } in
            subst (λ (k : ℕ). AllByRecursion (IsBody v) (bodies_with size (k ∷ kinds) slots leaves inners)) (sym three) (first, bodies_lawful kinds slots leaves (drop 1 inners) rest)
      ]
