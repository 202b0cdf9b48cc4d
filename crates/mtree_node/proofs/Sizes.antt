-- How many nodes a tree has, and how many shapes its preorder.
use Rattle.std.proofs.Common.{◌≡◌, ℕ, zero, suc, ◌+◌, ◌*◌, ◌<◌, ◌≤◌, List, [], ◌∷◌, ◌++◌, length, get_or, drop, sum_by, refl, sym, ap, ◌∙◌, arith, append_assoc, length-append}
use Rattle.std.proofs.lemmas.List.{drop_more}
use Rattle.std.proofs.lemmas.List.Sums.{sum_by-cons}
use Rattle.std.proofs.Math.Nat.{mul-le-mul_right, add-mul}
use Rattle.std.specs.List.{AllByRecursion}
use Rattle.mtree_node.specs.declared.node.InnerEntry.{InnerEntry, out-InnerEntry}
use Rattle.mtree_node.specs.declared.node.Node.{Node, out-Node}
use Rattle.mtree_node.specs.declared.node.Node.TheOpen.{Node-F}
use Rattle.mtree_node.specs.declared.node.Node.TheVariants as node
use Rattle.mtree_node.specs.declared.shape.Shape.{Shape}
use Rattle.mtree_node.specs.Layer.{Layer}
use Rattle.mtree_node.specs.Tree.{IsLeveled, IsLeveledIn}
use Rattle.mtree_node.specs.Preorder.{size, size_in, shapes_in, shapes_below, shapes_from}
use Rattle.mtree_node.proofs.Opened.{opened_inner}

-- the size of an entry's child
abbrev pub child_size : ℕ → InnerEntry → ℕ
child_size h e = size h (out-InnerEntry e).child

size_inner : (n : Node) (tag : ℕ) (es : List InnerEntry) → n ≡ node.Inner tag es → (h k : ℕ) → h ≡ suc k → size h n ≡ 1 + sum_by (child_size k) es
size_inner n tag es is h k level = ap (λ m. size m n) level ∙ ap (size_in (size k)) (opened_inner n tag es is)

-- the place behind an inner node and all below it
pub after_inner : (n : Node) (tag : ℕ) (es : List InnerEntry) → n ≡ node.Inner tag es → (h k : ℕ) → h ≡ suc k → (at next : ℕ) → next ≡ at + 1 + sum_by (child_size k) es → next ≡ at + size h n
after_inner n tag es is h k level at next place = omega (arith, size_inner n tag es is h k level, place)

-- how many nodes a tree with 30 entries in each inner node has
abbrev most : ℕ → ℕ
most zero = 0
most (suc h) = 1 + 30 * most h

at_most : (n top k : ℕ) → n ≤ top → n * k ≤ top * k
at_most n top k l = mul-le-mul_right k l

small_below : {A : Type 0} (f : A → ℕ) (few : ℕ) (es : List A) → AllByRecursion (λ e. f e ≤ few) es → sum_by f es ≤ length es * few
small_below f few [] all = omega arith
small_below f few (e ∷ es) all = omega (arith, all.0, small_below f few es all.1, sum_by-cons f e es, add-mul 1 (length es) few)

length_below : (h : ℕ) → ((at : ℕ) (n : Node) → length (shapes_from h at n) ≡ size h n) → (at : ℕ) (es : List InnerEntry) → length (shapes_below (size h) (shapes_from h) at es) ≡ sum_by (child_size h) es
length_below h ih at [] = refl
length_below h ih at (e ∷ es) =
    let child = (out-InnerEntry e).child in
    let rest = shapes_below (size h) (shapes_from h) (at + size h child) es in
    omega (arith, length-append (shapes_from h at child) rest, ih at child, length_below h ih (at + size h child) es, sum_by-cons (child_size h) e es)

length_in : (h : ℕ) → ((at : ℕ) (n : Node) → length (shapes_from h at n) ≡ size h n) → (at : ℕ) (n : Layer) → length (shapes_in (size h) (shapes_from h) at n) ≡ size_in (size h) n
length_in h ih at (Node-F.Leaf tag es) = omega arith
length_in h ih at (Node-F.Inner tag es) = omega (arith, length_below h ih (at + 1) es)

-- a shape for each node
pub shapes_length : (h at : ℕ) (n : Node) → length (shapes_from h at n) ≡ size h n
shapes_length zero at n = refl
shapes_length (suc h) at n = length_in h (shapes_length h) at (out-Node n)

rest_is : (es : List InnerEntry) (i : ℕ) (e : InnerEntry) → i < length es → e ≡ get_or es i e → drop i es ≡ e ∷ drop (i + 1) es
rest_is es i e inside here = drop_more es i e inside ∙ ap (λ (x : InnerEntry). x ∷ drop (i + 1) es) (sym here)

place_after : (h : ℕ) (before after : List Shape) (n : Node) → after ≡ before ++ shapes_from h (length before) n → length after ≡ length before + size h n
place_after h before after n is = omega (arith, ap length is, length-append before (shapes_from h (length before) n), shapes_length h (length before) n)

-- as many shapes are left to come as the children that are left have nodes
pub push_place : (h : ℕ) (before after : List Shape) (all : ℕ) (es : List InnerEntry) (i : ℕ) (e : InnerEntry) → i < length es → e ≡ get_or es i e
    → after ≡ before ++ shapes_from h (length before) (out-InnerEntry e).child
    → length before + sum_by (child_size h) (drop i es) ≡ all
    → length after + sum_by (child_size h) (drop (i + 1) es) ≡ all
push_place h before after all es i e inside here is was =
    omega (arith, place_after h before after (out-InnerEntry e).child is, ap (sum_by (child_size h)) (rest_is es i e inside here), sum_by-cons (child_size h) e (drop (i + 1) es), was)

-- the shapes of one child more
pub push_more : (h : ℕ) (before after whole : List Shape) (es : List InnerEntry) (i : ℕ) (e : InnerEntry) → i < length es → e ≡ get_or es i e
    → after ≡ before ++ shapes_from h (length before) (out-InnerEntry e).child
    → before ++ shapes_below (size h) (shapes_from h) (length before) (drop i es) ≡ whole
    → after ++ shapes_below (size h) (shapes_from h) (length after) (drop (i + 1) es) ≡ whole
push_more h before after whole es i e inside here is was =
    let child = (out-InnerEntry e).child in
    let now = shapes_from h (length before) child in
    let later = λ (at : ℕ). shapes_below (size h) (shapes_from h) at (drop (i + 1) es) in
    ap (λ (xs : List Shape). xs ++ later (length after)) is
    ∙ append_assoc before now (later (length after))
    ∙ ap (λ (at : ℕ). before ++ (now ++ later at)) (place_after h before after child is)
    ∙ ap (λ (xs : List InnerEntry). before ++ shapes_below (size h) (shapes_from h) (length before) xs) (sym (rest_is es i e inside here))
    ∙ was

pub all_weaker : {A : Type 0} (P Q : A → Type 0) (xs : List A) → ((x : A) → P x → Q x) → AllByRecursion P xs → AllByRecursion Q xs
all_weaker P Q [] f a = tt
all_weaker P Q (x ∷ xs) f a = (f x a.0, all_weaker P Q xs f a.1)

most_in : (h : ℕ) → ((n : Node) → IsLeveled h n → size h n ≤ most h) → (n : Layer) → IsLeveledIn h (IsLeveled h) n → size_in (size h) n ≤ most (suc h)
most_in h ih (Node-F.Leaf tag es) s = omega arith
most_in h ih (Node-F.Inner tag es) s =
    let small = all_weaker _ (λ (e : InnerEntry). child_size h e ≤ most h) es (λ e k. ih (out-InnerEntry e).child k) s.3 in
    omega (arith, small_below (child_size h) (most h) es small, at_most (length es) 30 (most h) s.2)

most_nodes : (h : ℕ) (n : Node) → IsLeveled h n → size h n ≤ most h
most_nodes zero n s = absurd s
most_nodes (suc h) n s = most_in h (most_nodes h) (out-Node n) s

most_at_six : (h : ℕ) → h ≤ 6 → most h ≤ 25137931
most_at_six zero l = omega arith
most_at_six (suc zero) l = omega arith
most_at_six (suc (suc zero)) l = omega arith
most_at_six (suc (suc (suc zero))) l = omega arith
most_at_six (suc (suc (suc (suc zero)))) l = omega arith
most_at_six (suc (suc (suc (suc (suc zero))))) l = omega arith
most_at_six (suc (suc (suc (suc (suc (suc zero)))))) l = omega arith
most_at_six (suc (suc (suc (suc (suc (suc (suc h))))))) l = absurd (omega (arith, l))

-- how large a tree of at most 6 levels is at most
pub few_nodes : (h : ℕ) (n : Node) → h ≤ 6 → IsLeveled h n → size h n ≤ 25137931
few_nodes h n l s = omega (arith, most_nodes h n s, most_at_six h l)
