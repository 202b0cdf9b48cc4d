-- Pages that are filled slot by slot.
use Rattle.std.proofs.Common.{◌≡◌, ℕ, zero, suc, ◌+◌, ◌-◌, ◌<◌, ◌≤◌, Bool, cond, List, [], ◌∷◌, ◌++◌, length, map, take, drop, set, get_or, replicate, Option, None, refl, sym, ◌∙◌, ap, arith, length-append, append_assoc}
use Rattle.std.specs.Prelude.{◌≢◌, ◌==◌}
use Rattle.std.specs.List.{AllByRecursion}
use Rattle.std.proofs.lemmas.Bool.{ne_eqb}
use Rattle.std.proofs.lemmas.List.{length-map, length-drop, take-map, drop-map, get_or-drop, length-replicate, length-take-le, get_or_at, set_at, map_more, append-nil}
use Rattle.mtree_node.specs.declared.shape.Shape.{Shape}
use Rattle.mtree_node.specs.Preorder.{LeafRow, InnerRow}
use Rattle.tree_layout.specs.Layouts.{inner_for}
use Rattle.page_layout.specs.declared.slot.Slot.{Slot}
use Rattle.page_layout.specs.declared.body.Body.TheVariants as body
use Rattle.page_layout.specs.Heads.{Values}
use Rattle.page_layout.specs.Slots.{Rows, AreRows, IsRow}
use Rattle.page_layout.specs.Leaves.{IsLeafRow, IsLeaf, AreLeaves}
use Rattle.store_image.specs.inside.Saves.{first_body}

pub all_at : {A : Type 0} (P : A → Type 0) (f : ℕ → A) (ns : List ℕ) (k : ℕ) → k < length ns → AllByRecursion P (map f ns) → P (f (get_or ns k 0))
all_at P f [] k lt all = absurd (omega (arith, lt))
all_at P f (n ∷ ns) zero lt all = all.0
all_at P f (n ∷ ns) (suc k) lt all = all_at P f ns k (omega (arith, lt)) all.1

all_take : {A : Type 0} (P : A → Type 0) (f : ℕ → A) (k : ℕ) (ns : List ℕ) → AllByRecursion P (map f ns) → AllByRecursion P (map f (take k ns))
all_take P f zero ns all = tt
all_take P f (suc k) [] all = tt
all_take P f (suc k) (n ∷ ns) all = (all.0, all_take P f k ns all.1)

all_joined : {A : Type 0} (P : A → Type 0) (xs ys : List A) → AllByRecursion P xs → AllByRecursion P ys → AllByRecursion P (xs ++ ys)
all_joined P [] ys one two = two
all_joined P (x ∷ xs) ys one two = (one.0, all_joined P xs ys one.1 two)

all_same : {A : Type 0} (P : A → Type 0) (x : A) (n : ℕ) → P x → AllByRecursion P (replicate n x)
all_same P x zero is = tt
all_same P x (suc n) is = (is, all_same P x n is)

-- the first slots are filled, and the rest of them are free
module _ {A : Type 0} (free : A) (f : ℕ → A) (ns : List ℕ) where
  abbrev pub half : ℕ → List A
  half i = map f (take i ns) ++ replicate (length ns - i) free

  long : (i : ℕ) → i ≤ length ns → length (map f (take i ns)) ≡ i
  long i le = length-map (take i ns) f ∙ length-take-le i ns le

  pub half_length : (i : ℕ) → i ≤ length ns → length (half i) ≡ length ns
  half_length i le = length-append (map f (take i ns)) (replicate (length ns - i) free) ∙ omega (arith, long i le, length-replicate {A = A} (length ns - i) free, le)

  pub half_all : (P : A → Type 0) (i : ℕ) → P free → AllByRecursion P (map f ns) → AllByRecursion P (half i)
  half_all P i is all = all_joined P (map f (take i ns)) (replicate (length ns - i) free) (all_take P f i ns all) (all_same P free (length ns - i) is)

  one_free : (i : ℕ) → i < length ns → replicate (length ns - i) free ≡ free ∷ replicate (length ns - (i + 1)) free
  one_free i lt = let next : length ns - i ≡ suc (length ns - (i + 1)) = omega (arith, lt) in ap (λ (n : ℕ). replicate n free) next

  pub half_free : (i : ℕ) → i < length ns → get_or (half i) i free ≡ free
  half_free i lt =
      ap (λ (l : List A). get_or (map f (take i ns) ++ l) i free) (one_free i lt)
      ∙ get_or_at (map f (take i ns)) free (replicate (length ns - (i + 1)) free) free i (long i (omega (arith, lt)))

  pub half_next : (i : ℕ) → i < length ns → set (half i) i (f (get_or ns i 0)) ≡ half (i + 1)
  half_next i lt =
      let x = f (get_or ns i 0) in
      let rest = replicate (length ns - (i + 1)) free in
      ap (λ (l : List A). set (map f (take i ns) ++ l) i x) (one_free i lt)
      ∙ set_at (map f (take i ns)) free rest x i (long i (omega (arith, lt)))
      ∙ sym (append_assoc (map f (take i ns)) (x ∷ []) rest)
      ∙ ap (λ (l : List A). l ++ rest) (sym (map_more f ns i 0 (omega (arith, lt))))

  pub half_done : (i : ℕ) → i ≡ length ns → half i ≡ map f ns
  half_done i is =
      let none : length ns - i ≡ 0 = omega (arith, is) in
      let whole : take i ns ≡ ns = ap (λ (n : ℕ). take n ns) is ∙ take_all ns in
      ap (λ (n : ℕ). map f (take i ns) ++ replicate n free) none ∙ append-nil (map f (take i ns)) ∙ ap (map f) whole
    where
      take_all : (l : List ℕ) → take (length l) l ≡ l
      take_all [] = refl
      take_all (x ∷ l) = ap (λ (m : List ℕ). x ∷ m) (take_all l)

-- a page of records on the way
pub half_rows : (v : Values) (f : ℕ → Option Slot) (ns : List ℕ) (i : ℕ) → i ≤ length ns → AreRows v (map f ns) → AreRows v (half None f ns i)
half_rows v f ns i le are = record {
  count = half_length None f ns i le ∙ sym (length-map ns f) ∙ are.count;
  each = half_all None f ns (IsRow v) i tt are.each;
}

-- a page of leaves on the way
pub half_leaves : (f : ℕ → List LeafRow) (ns : List ℕ) (i : ℕ) → i ≤ length ns → AreLeaves (map f ns) → AreLeaves (half [] f ns i)
half_leaves f ns i le are = record {
  count = half_length [] f ns i le ∙ sym (length-map ns f) ∙ are.count;
  each = half_all [] f ns IsLeaf i free_leaf are.each;
}
  where
    free_leaf : IsLeaf []
    free_leaf = record { few = omega arith; each = tt }

pub leaf_numbers : (rows : List LeafRow) → AllByRecursion IsLeafRow rows → AllByRecursion (λ (row : LeafRow). row.0 ≢ 0) rows
leaf_numbers [] all = tt
leaf_numbers (row ∷ rows) all = (all.0.number, leaf_numbers rows all.1)

-- so many of what a function gives, from a place on
pub part_map : {A : Type 0} (f : ℕ → A) (n a : ℕ) (ns : List ℕ) → map f (take n (drop a ns)) ≡ take n (drop a (map f ns))
part_map f n a ns = sym (ap (λ l. take n l) (drop-map f a ns) ∙ take-map f n (drop a ns))

pub part_is : {A : Type 0} (f : ℕ → A) (n a : ℕ) (ns mine all : List ℕ) → mine ≡ take n (drop a all) → all ≡ ns → map f mine ≡ take n (drop a (map f ns))
part_is f n a ns mine all is same = ap (map f) (is ∙ ap (λ (l : List ℕ). take n (drop a l)) same) ∙ part_map f n a ns

at_most : {A : Type 0} (n : ℕ) (xs : List A) → length (take n xs) ≤ length xs
at_most zero xs = omega arith
at_most (suc n) [] = omega arith
at_most (suc n) (x ∷ xs) = omega (arith, at_most n xs)

pub part_fits : {A : Type 0} (f : ℕ → A) (n a : ℕ) (ns : List ℕ) → 0 < n → length (take n (drop a (map f ns))) ≡ n → a + n ≤ length ns
part_fits f n a ns some is =
    let l : length (take n (drop a (map f ns))) ≡ length (take n (drop a ns)) = ap length (sym (part_map f n a ns)) ∙ length-map (take n (drop a ns)) f in
    omega (arith, l, is, at_most n (drop a ns), length-drop a ns, some)

-- a page that is neither of records nor of leaves
pub body_else : (size kind : ℕ) (slots : Rows) (leaves : List (List LeafRow)) (inners : List (List InnerRow)) → (kind ≡ 1 → ⊥) → (kind ≡ 2 → ⊥)
    → first_body size kind slots leaves inners ≡ body.Inner (get_or inners 0 [])
body_else size kind slots leaves inners one two =
    ap (λ (b : Bool). cond b (body.Slots (take size slots)) (cond (kind == 2) (body.Leaves (take 63 leaves)) (body.Inner (get_or inners 0 [])))) (ne_eqb kind 1 one)
    ∙ ap (λ (b : Bool). cond b (body.Leaves (take 63 leaves)) (body.Inner (get_or inners 0 []))) (ne_eqb kind 2 two)

pub inner_else : (shapes : List Shape) (ns : List ℕ) (a : ℕ) → inner_for shapes (get_or ns a 0) ≡ get_or (drop a (map (inner_for shapes) ns)) 0 []
inner_else shapes ns a =
    sym (get_or-drop a (map (inner_for shapes) ns) 0 [] ∙ at_map ns (a + 0) ∙ ap (λ (k : ℕ). inner_for shapes (get_or ns k 0)) (omega arith))
  where
    at_map : (l : List ℕ) (k : ℕ) → get_or (map (inner_for shapes) l) k [] ≡ inner_for shapes (get_or l k 0)
    at_map [] k = refl
    at_map (n ∷ l) zero = refl
    at_map (n ∷ l) (suc k) = at_map l k
