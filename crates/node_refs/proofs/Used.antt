-- The loops over the places of pages.
use Rattle.std.proofs.Common.{◌≡◌, ℕ, ◌+◌, ◌*◌, ◌<◌, ◌≤◌, List, [], ◌∷◌, ◌++◌, length, get_or, drop, refl, sym, ap, ◌∙◌, arith}
use Rattle.std.proofs.lemmas.List.{drop_more, drop_all}
use Rattle.std.specs.List.{AllByRecursion}
use Rattle.mtree_node.specs.Preorder.{LeafRow}
use Rattle.node_refs.specs.declared.pages.NodePage.{NodePage}
use Rattle.node_refs.specs.declared.pages.NodePage.TheVariants as page
use Rattle.node_refs.specs.Pages.{slot_refs, page_refs, refs_from, HasSlots}

-- what is left of a list, from an element on that was read
pub rest_is : {X : Type 0} (xs : List X) (i : ℕ) (x : X) → i < length xs → x ≡ get_or xs i x → drop i xs ≡ x ∷ drop (i + 1) xs
rest_is xs i x inside here = drop_more xs i x inside ∙ ap (λ y. y ∷ drop (i + 1) xs) (sym here)

pub free_slot : (r : ℕ) (rows : List LeafRow) (slots : List (List LeafRow)) → length rows ≤ 0 → slot_refs r (rows ∷ slots) ≡ slot_refs (r + 1) slots
free_slot r [] slots none = refl
free_slot r (row ∷ rows) slots none = absurd (omega (arith, none))

pub used_slot : (r : ℕ) (rows : List LeafRow) (slots : List (List LeafRow)) → 0 < length rows → slot_refs r (rows ∷ slots) ≡ r ∷ slot_refs (r + 1) slots
used_slot r [] slots some = absurd (omega (arith, some))
used_slot r (row ∷ rows) slots some = refl

-- the references of the slots from one on
abbrev pub slots_from : ℕ → List (List LeafRow) → ℕ → List ℕ
slots_from first slots i = slot_refs (first + i) (drop i slots)

module _ (first : ℕ) (slots : List (List LeafRow)) (i : ℕ) (rows : List LeafRow) (inside : i < length slots) (here : rows ≡ get_or slots i rows) where
  next_slot : slot_refs (first + i + 1) (drop (i + 1) slots) ≡ slots_from first slots (i + 1)
  next_slot = ap (λ (r : ℕ). slot_refs r (drop (i + 1) slots)) (let same : first + i + 1 ≡ first + (i + 1) = omega arith in same)

  pub free_more : length rows ≤ 0 → slots_from first slots i ≡ slots_from first slots (i + 1)
  free_more none = ap (slot_refs (first + i)) (rest_is slots i rows inside here) ∙ free_slot (first + i) rows (drop (i + 1) slots) none ∙ next_slot

  pub used_more : 0 < length rows → slots_from first slots i ≡ (first + i) ∷ slots_from first slots (i + 1)
  used_more some = ap (slot_refs (first + i)) (rest_is slots i rows inside here) ∙ used_slot (first + i) rows (drop (i + 1) slots) some ∙ ap (λ rs. (first + i) ∷ rs) next_slot

pub slots_none : (first : ℕ) (slots : List (List LeafRow)) (i : ℕ) → length slots ≤ i → slots_from first slots i ≡ []
slots_none first slots i over = ap (slot_refs (first + i)) (drop_all i slots over)

-- the references of the pages from one on
abbrev pub pages_from : List NodePage → ℕ → List ℕ
pages_from pages i = refs_from (i + 2) (drop i pages)

pub page_more : (pages : List NodePage) (i : ℕ) (page : NodePage) → i < length pages → page ≡ get_or pages i page → pages_from pages i ≡ page_refs (i + 2) page ++ pages_from pages (i + 1)
page_more pages i page inside here =
    ap (refs_from (i + 2)) (rest_is pages i page inside here)
    ∙ ap (λ (k : ℕ). page_refs (i + 2) page ++ refs_from k (drop (i + 1) pages)) (let same : i + 2 + 1 ≡ i + 1 + 2 = omega arith in same)

pub pages_none : (pages : List NodePage) (i : ℕ) → length pages ≤ i → pages_from pages i ≡ []
pages_none pages i over = ap (refs_from (i + 2)) (drop_all i pages over)

all_append : {X : Type 0} (P : X → Type 0) (xs ys : List X) → AllByRecursion P xs → AllByRecursion P ys → AllByRecursion P (xs ++ ys)
all_append P [] ys a b = b
all_append P (x ∷ xs) ys a b = (a.0, all_append P xs ys a.1 b)

slots_below : (r : ℕ) (slots : List (List LeafRow)) (most : ℕ) → r + length slots ≤ most → AllByRecursion (λ q. q < most) (slot_refs r slots)
slots_below r [] most inside = tt
slots_below r ([] ∷ slots) most inside = slots_below (r + 1) slots most (omega (arith, inside))
slots_below r ((row ∷ rows) ∷ slots) most inside = (omega (arith, inside), slots_below (r + 1) slots most (omega (arith, inside)))

page_below : (number : ℕ) (p : NodePage) (most : ℕ) → HasSlots p → 64 * (number + 1) ≤ most → AllByRecursion (λ q. q < most) (page_refs number p)
page_below number page.Records most slots inside = tt
page_below number (page.Leaves slots) most few inside = slots_below (64 * number) slots most (omega (arith, few, inside))
page_below number (page.Inner []) most slots inside = tt
page_below number (page.Inner (row ∷ rows)) most slots inside = (omega (arith, inside), tt)

-- each used place is one of the pages
pub refs_below : (number : ℕ) (pages : List NodePage) (most : ℕ) → AllByRecursion HasSlots pages → 64 * (number + length pages) ≤ most → AllByRecursion (λ q. q < most) (refs_from number pages)
refs_below number [] most slots inside = tt
refs_below number (p ∷ pages) most slots inside =
    all_append (λ q. q < most) (page_refs number p) (refs_from (number + 1) pages)
    (page_below number p most slots.0 (omega (arith, inside))) (refs_below (number + 1) pages most slots.1 (omega (arith, inside)))
