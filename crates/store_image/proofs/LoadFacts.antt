-- What is known of parts of body pages, and of what is kept by them.
use Rattle.std.proofs.Common.{◌≡◌, ℕ, zero, suc, replicate, ◌+◌, ◌-◌, ◌*◌, ◌/◌, ◌≤◌, ◌&&◌, Bool, true, false, cond, List, [], ◌∷◌, ◌++◌, length, map, Option, Some, None, refl, sym, ◌∙◌, ap, subst, arith, IsTrue}
use Rattle.std.specs.Prelude.{◌==◌, ◌↔◌, count_by, nat_le}
use Rattle.std.specs.List.{AllByRecursion}
use Rattle.std.specs.Ordering.{nat_cmp, eq_by_cmp}
use Rattle.std.specs.FinMap as maps
use Rattle.std.specs.FinMap.{find}
use Rattle.std.proofs.lemmas.Bool.{eqb-true, eq-eqb, leb-true, and_parts}
use Rattle.std.proofs.lemmas.List.{length-map, length-replicate}
use Rattle.std.proofs.lemmas.List.Sums.{sum_by-cons}
use Rattle.std.proofs.lemmas.Nat.{div-add-mod'}
use Rattle.std.proofs.Math.Nat.{div-le_self}
use Rattle.vec_record.specs.Held as held
use Rattle.vec_record.specs.Distance.{greatest_of, distance_of}
use Rattle.vec_record.specs.Limits.{are_within, is_between, greatest_dim, width_of}
use Rattle.vec_record.specs.Spelled.{is_spelled}
use Rattle.vec_record.specs.Vectors.{IsVector, AreBytes}
use Rattle.mtree_node.specs.Preorder.{InnerRow}
use Rattle.mtree_index.specs.Plain.{PlainTree}
use Rattle.mtree_index.specs.Tree.{contents}
use Rattle.tree_objects.specs.Laws.{AllPass, RowsPass}
use Rattle.node_refs.specs.declared.pages.NodePage.{NodePage}
use Rattle.node_refs.specs.Pages.{HasSlots, is_leaf_page, is_inner_page}
use Rattle.node_refs.specs.Laws.{places_in, PageHasObjectsIn}
use Rattle.stored_tree.specs.Reading.{tree_in}
use Rattle.stored_tree.specs.Laws.{PageHasVectors, PagePasses}
use Rattle.stored_lines.specs.declared.line.Line.{Line}
use Rattle.stored_lines.specs.Lines as lines_in
use Rattle.stored_lines.specs.Laws.{BooksHaveForm, counts_of}
use Rattle.stored_lines.proofs.Numbers.{counted}
use Rattle.page_layout.specs.declared.body.Body.{Body}
use Rattle.page_layout.specs.declared.body.Body.TheVariants as body
use Rattle.page_layout.specs.Bodies.{IsBody}
use Rattle.page_layout.specs.Heads.{Values, HeadValue, IsHead}
use Rattle.page_layout.specs.Inner.{IsInnerRow}
use Rattle.page_layout.specs.Slots.{Rows, IsRow, slots_in_page}
use Rattle.store_image.specs.declared.sorted.Sorted.{Sorted}
use Rattle.store_image.specs.Images.{number_of, vectors_of, lines_of}
use Rattle.store_image.specs.Contents.{kind_of, node_page_of, kinds_of, count_of_kind, all_slots, node_pages}
use Rattle.store_image.specs.Loading.{record_limit, leaf_limit, inner_limit, are_few, first_repeated, in_tree, tree_on}
use Rattle.store_image.specs.Placing.{CanStand, IsKept}
use Rattle.store_image.specs.inside.Reads.{AreTied, IsNodePage, Took, ArePartsOf}
use Rattle.store_image.proofs.LoadEntries.{tied_is}

-- how many pages there are
one_more : (q x : ℕ) (xs : List ℕ) (n : ℕ) → cond (x == q) 1 0 ≡ n → count_by (λ m. m == q) (x ∷ xs) ≡ n + count_by (λ m. m == q) xs
one_more q x xs n is = counted q x xs ∙ ap (λ (k : ℕ). k + count_by (λ m. m == q) xs) is

kinds_all : (bodies : List Body) → length (kinds_of bodies) ≡ count_of_kind 1 bodies + (count_of_kind 2 bodies + count_of_kind 3 bodies)
kinds_all [] = refl
kinds_all (body.Slots slots ∷ bodies) = let ks = kinds_of bodies in omega (arith, one_more 1 1 ks 1 refl, one_more 2 1 ks 0 refl, one_more 3 1 ks 0 refl, kinds_all bodies)
kinds_all (body.Leaves leaves ∷ bodies) = let ks = kinds_of bodies in omega (arith, one_more 1 2 ks 0 refl, one_more 2 2 ks 1 refl, one_more 3 2 ks 0 refl, kinds_all bodies)
kinds_all (body.Inner rows ∷ bodies) = let ks = kinds_of bodies in omega (arith, one_more 1 3 ks 0 refl, one_more 2 3 ks 0 refl, one_more 3 3 ks 1 refl, kinds_all bodies)

leaf_pages : (bodies : List Body) → count_by is_leaf_page (node_pages bodies) ≡ count_of_kind 2 bodies
leaf_pages [] = refl
leaf_pages (body.Slots slots ∷ bodies) = sum_by-cons (λ p. cond (is_leaf_page p) 1 0) (node_page_of (body.Slots slots)) (node_pages bodies) ∙ ap (λ (n : ℕ). 0 + n) (leaf_pages bodies) ∙ sym (one_more 2 1 (kinds_of bodies) 0 refl)
leaf_pages (body.Leaves leaves ∷ bodies) = sum_by-cons (λ p. cond (is_leaf_page p) 1 0) (node_page_of (body.Leaves leaves)) (node_pages bodies) ∙ ap (λ (n : ℕ). 1 + n) (leaf_pages bodies) ∙ sym (one_more 2 2 (kinds_of bodies) 1 refl)
leaf_pages (body.Inner rows ∷ bodies) = sum_by-cons (λ p. cond (is_leaf_page p) 1 0) (node_page_of (body.Inner rows)) (node_pages bodies) ∙ ap (λ (n : ℕ). 0 + n) (leaf_pages bodies) ∙ sym (one_more 2 3 (kinds_of bodies) 0 refl)

inner_pages : (bodies : List Body) → count_by is_inner_page (node_pages bodies) ≡ count_of_kind 3 bodies
inner_pages [] = refl
inner_pages (body.Slots slots ∷ bodies) = sum_by-cons (λ p. cond (is_inner_page p) 1 0) (node_page_of (body.Slots slots)) (node_pages bodies) ∙ ap (λ (n : ℕ). 0 + n) (inner_pages bodies) ∙ sym (one_more 3 1 (kinds_of bodies) 0 refl)
inner_pages (body.Leaves leaves ∷ bodies) = sum_by-cons (λ p. cond (is_inner_page p) 1 0) (node_page_of (body.Leaves leaves)) (node_pages bodies) ∙ ap (λ (n : ℕ). 0 + n) (inner_pages bodies) ∙ sym (one_more 3 2 (kinds_of bodies) 0 refl)
inner_pages (body.Inner rows ∷ bodies) = sum_by-cons (λ p. cond (is_inner_page p) 1 0) (node_page_of (body.Inner rows)) (node_pages bodies) ∙ ap (λ (n : ℕ). 1 + n) (inner_pages bodies) ∙ sym (one_more 3 3 (kinds_of bodies) 1 refl)

cap_small : (v : Values) → IsTrue (are_within v.metric v.dim v.eps v.minpts v.cap) → v.cap ≤ 200000
cap_small v within =
    let a = and_parts (is_between 1 (greatest_dim v.metric) v.dim) (is_between 0 65535 v.eps && (is_between 1 65535 v.minpts && is_between 1 200000 v.cap)) within in
    let b = and_parts (is_between 0 65535 v.eps) (is_between 1 65535 v.minpts && is_between 1 200000 v.cap) a.1 in
    let c = and_parts (is_between 1 65535 v.minpts) (is_between 1 200000 v.cap) b.1 in
    leb-true v.cap 200000 (and_parts (nat_le 1 v.cap) (nat_le v.cap 200000) c.1).1

-- what pages that are few are at most
pub record AreBounded (bodies : List Body) : Type 0 where
  pub records : count_of_kind 1 bodies ≤ 216368
  pub leaves : 63 * count_of_kind 2 bodies ≤ 28635
  pub inners : count_of_kind 3 bodies ≤ 4763

pub few_bounded : (v : Values) (bodies : List Body) → IsTrue (are_within v.metric v.dim v.eps v.minpts v.cap) → are_few v bodies ≡ true → AreBounded bodies
few_bounded v bodies within few =
    let size = slots_in_page (width_of v.metric v.dim) in
    let a = and_parts (nat_le (count_of_kind 1 bodies) (record_limit v)) (nat_le (count_of_kind 2 bodies) (leaf_limit v) && nat_le (count_of_kind 3 bodies) (inner_limit v)) few in
    let b = and_parts (nat_le (count_of_kind 2 bodies) (leaf_limit v)) (nat_le (count_of_kind 3 bodies) (inner_limit v)) a.1 in
    let cap = cap_small v within in
    let size_few : size ≤ 16368 = div-le_self 16368 (16 + width_of v.metric v.dim) in
    record {
      records = omega (arith, leb-true (count_of_kind 1 bodies) (record_limit v) a.0, div-le_self (v.cap + size - 1) size, cap, size_few);
      leaves = omega (arith, leb-true (count_of_kind 2 bodies) (leaf_limit v) b.0, div-add-mod' (v.cap / 7 + 63) 63, div-add-mod' v.cap 7, cap);
      inners = omega (arith, leb-true (count_of_kind 3 bodies) (inner_limit v) b.1, div-add-mod' v.cap 42, cap);
    }

pub kinds_few : (bodies : List Body) → AreBounded bodies → length (kinds_of bodies) ≤ 300000
kinds_few bodies few = omega (arith, kinds_all bodies, few.records, few.leaves, few.inners)

pub nodes_few : (bodies : List Body) → AreBounded bodies → length (node_pages bodies) ≤ 300000
nodes_few bodies few = omega (arith, length-map bodies node_page_of, length-map bodies kind_of, kinds_few bodies few)

pub room : (bodies : List Body) → AreBounded bodies → places_in (node_pages bodies) ≤ 200000
room bodies few = omega (arith, leaf_pages bodies, inner_pages bodies, few.leaves, few.inners)

-- what each page has
all_append : {A : Type 0} (P : A → Type 0) (xs ys : List A) → AllByRecursion P xs → AllByRecursion P ys → AllByRecursion P (xs ++ ys)
all_append P [] ys a b = b
all_append P (x ∷ xs) ys a b = (a.0, all_append P xs ys a.1 b)

all_weaker : {A : Type 0} (P Q : A → Type 0) → ((x : A) → P x → Q x) → (xs : List A) → AllByRecursion P xs → AllByRecursion Q xs
all_weaker P Q f [] all = tt
all_weaker P Q f (x ∷ xs) all = (f x all.0, all_weaker P Q f xs all.1)

pub slots_lawful : (v : Values) (bodies : List Body) → AllByRecursion (IsBody v) bodies → AllByRecursion (IsRow v) (all_slots bodies)
slots_lawful v [] all = tt
slots_lawful v (body.Slots slots ∷ bodies) all = all_append (IsRow v) slots (all_slots bodies) all.0.each (slots_lawful v bodies all.1)
slots_lawful v (body.Leaves leaves ∷ bodies) all = slots_lawful v bodies all.1
slots_lawful v (body.Inner rows ∷ bodies) all = slots_lawful v bodies all.1

pub nodes_lawful : (v : Values) (bodies : List Body) → AllByRecursion (IsBody v) bodies → AllByRecursion (IsNodePage v) (node_pages bodies)
nodes_lawful v [] all = tt
nodes_lawful v (body.Slots slots ∷ bodies) all = (record { slots = tt; objects = tt; vectors = tt; passes = tt }, nodes_lawful v bodies all.1)
nodes_lawful v (body.Leaves leaves ∷ bodies) all = (record { slots = omega (arith, all.0.count); objects = tt; vectors = tt; passes = tt }, nodes_lawful v bodies all.1)
nodes_lawful v (body.Inner rows ∷ bodies) all = (
  record {
    slots = tt;
    objects = all_weaker (IsInnerRow v) (λ (row : InnerRow). (length row.3 ≡ width_of v.metric v.dim) × (row.2 ≤ greatest_of v.metric (width_of v.metric v.dim))) (λ row is. (is.object.len, is.radius)) rows all.0.each;
    vectors = all_weaker (IsInnerRow v) (λ (row : InnerRow). IsVector (width_of v.metric v.dim) row.3) (λ row is. is.object) rows all.0.each;
    passes = all_weaker (IsInnerRow v) (λ (row : InnerRow). IsTrue (is_spelled v.metric v.dim row.3)) (λ row is. is.spelled) rows all.0.each;
  },
  nodes_lawful v bodies all.1,
)

pub have_slots : (v : Values) (pages : List NodePage) → AllByRecursion (IsNodePage v) pages → AllByRecursion HasSlots pages
have_slots v pages all = all_weaker (IsNodePage v) HasSlots (λ p is. is.slots) pages all

pub have_objects : (v : Values) (width most : ℕ) (pages : List NodePage) → width ≡ width_of v.metric v.dim → most ≡ greatest_of v.metric (width_of v.metric v.dim)
    → AllByRecursion (IsNodePage v) pages → AllByRecursion (PageHasObjectsIn width most) pages
have_objects v width most pages w m all =
    all_weaker (IsNodePage v) (PageHasObjectsIn width most) (λ p is. subst (λ (k : ℕ). PageHasObjectsIn k most p) (sym w) (subst (λ (k : ℕ). PageHasObjectsIn (width_of v.metric v.dim) k p) (sym m) is.objects)) pages all

pub have_vectors : (v : Values) (width : ℕ) (pages : List NodePage) → width ≡ width_of v.metric v.dim → AllByRecursion (IsNodePage v) pages → AllByRecursion (PageHasVectors width) pages
have_vectors v width pages w all = all_weaker (IsNodePage v) (PageHasVectors width) (λ p is. subst (λ (k : ℕ). PageHasVectors k p) (sym w) is.vectors) pages all

pub pages_pass : (v : Values) (pages : List NodePage) → AllByRecursion (IsNodePage v) pages → AllByRecursion (PagePasses (is_spelled v.metric v.dim)) pages
pages_pass v pages all = all_weaker (IsNodePage v) (PagePasses (is_spelled v.metric v.dim)) (λ p is. is.passes) pages all

-- the tree of the pages, at the width of the records
pub tree_at : (h : HeadValue) (w : ℕ) (pages : List NodePage) (vectors : held.Rows) → w ≡ width_of h.values.metric h.values.dim
    → tree_on h pages vectors ≡ in_tree (tree_in (distance_of h.values.metric) w h.height h.root pages vectors)
tree_at h w pages vectors is = ap (λ (k : ℕ). in_tree (tree_in (distance_of h.values.metric) k h.height h.root pages vectors)) (sym is)

-- a vector of each width
zero_bytes : (w : ℕ) → AreBytes (replicate w 0)
zero_bytes zero = tt
zero_bytes (suc w) = (omega arith, zero_bytes w)

pub zeros : (w : ℕ) → IsVector w (replicate w 0)
zeros w = record { len = length-replicate w 0; bytes = zero_bytes w }

-- the parts of body pages
pub sorted_of : (v : Values) (bodies : List Body) (slots : Rows) (p : Sorted) → IsTrue (are_within v.metric v.dim v.eps v.minpts v.cap) → AllByRecursion (IsBody v) bodies → are_few v bodies ≡ true
    → p.kinds.items ≡ kinds_of bodies → slots ≡ all_slots bodies → p.nodes.items ≡ node_pages bodies → Took v slots p.numbers.items p.lines.items p.records → ArePartsOf v bodies p
sorted_of v bodies slots p within lawful few kinds slots_are nodes took =
    let most = few_bounded v bodies within few in
    let width : p.records.width ≡ width_of v.metric v.dim = ap (λ (r : held.Held). r.width) took.records_are in
    let vectors : p.records.vectors ≡ vectors_of slots = ap (λ (r : held.Held). r.vectors) took.records_are in
    record {
      few = few;
      once = ap (λ (l : Rows). first_repeated (map number_of l)) (sym slots_are) ∙ took.once;
      kinds = kinds;
      numbers = took.numbers_are ∙ ap (λ (l : Rows). map number_of l) slots_are;
      lines = took.lines_are ∙ ap lines_of slots_are;
      nodes = nodes;
      vectors = vectors ∙ ap vectors_of slots_are;
      sorted = record {
        pages = let long : length p.kinds.items ≡ length (kinds_of bodies) = ap length kinds in omega (arith, long, kinds_few bodies most);
        nodes_few = let long : length p.nodes.items ≡ length (node_pages bodies) = ap length nodes in omega (arith, long, nodes_few bodies most);
        room = let same : places_in p.nodes.items ≡ places_in (node_pages bodies) = ap places_in nodes in omega (arith, same, room bodies most);
        nodes = subst (AllByRecursion (IsNodePage v)) (sym nodes) (nodes_lawful v bodies lawful);
        width = width;
        tied = took.tied;
      };
    }

-- the height of a head with so many records
low_at : (count height : ℕ) (b : Bool) → IsTrue (cond b (height == 0) (is_between 1 6 height)) → height ≤ 6
low_at count height true is = let none = eqb-true height 0 is in omega (arith, none)
low_at count height false is = leb-true height 6 (and_parts (nat_le 1 height) (nat_le height 6) is).1

pub low : (h : HeadValue) → IsHead h → h.height ≤ 6
low h is = low_at h.count h.height (h.count == 0) is.height

pub none_at_no_height : (h : HeadValue) (len : ℕ) → IsHead h → len ≡ h.count → (h.height ≡ 0) ↔ (len ≡ 0)
none_at_no_height h len is same = (λ flat. same ∙ at (h.count == 0) refl is.height flat, λ none. height_at (h.count == 0) (eq-eqb h.count 0 (sym same ∙ none)) is.height)
  where
    at : (b : Bool) → (h.count == 0) ≡ b → IsTrue (cond b (h.height == 0) (is_between 1 6 h.height)) → h.height ≡ 0 → h.count ≡ 0
    at true none lawful flat = eqb-true h.count 0 none
    at false some lawful flat = let high = leb-true 1 h.height (and_parts (nat_le 1 h.height) (nat_le h.height 6) lawful).0 in absurd (omega (arith, high, flat))

    height_at : (b : Bool) → b ≡ true → IsTrue (cond b (h.height == 0) (is_between 1 6 h.height)) → h.height ≡ 0
    height_at true none lawful = eqb-true h.height 0 lawful
    height_at false none lawful = absurd (let no : false ≡ true = none in cc)

-- the records pass the test
found_in : (P : ℕ × List ℕ → Type 0) (es : List (ℕ × List ℕ)) (q : ℕ) (v : List ℕ) → AllByRecursion P es → find nat_cmp q es ≡ Some v → P (q, v)
found_in P [] q v all is = absurd (let no : ◌≡◌ {A = Option (List ℕ)} None (Some v) = is in cc)
found_in P (e ∷ es) q v all is = at (eq_by_cmp nat_cmp q e.0) (tied_is q e.0) (found_in P es q v all.1) is
  where
    same_some : (x : List ℕ) → ◌≡◌ {A = Option (List ℕ)} (Some x) (Some v) → x ≡ v
    same_some x so = cc

    at : (b : Bool) → b ≡ (e.0 == q) → (find nat_cmp q es ≡ Some v → P (q, v)) → cond b (Some e.1) (find nat_cmp q es) ≡ Some v → P (q, v)
    at true same rest found = subst (λ (x : List ℕ). P (q, x)) (same_some e.1 found) (subst (λ (n : ℕ). P (n, e.1)) (eqb-true e.0 q (sym same)) all.0)
    at false same rest found = rest found

pub records_pass : (v : Values) (vectors : held.Rows) → AllByRecursion (CanStand v) (maps.entries vectors) → RowsPass (is_spelled v.metric v.dim) vectors
records_pass v vectors all = λ q x is. (found_in (CanStand v) (maps.entries vectors) q x all (sym (maps.get-entries vectors q) ∙ is)).spelled

-- what is kept
pub kept_of : (v : Values) (records : held.Held) (lines : List Line) (tree : PlainTree) → BooksHaveForm → AreTied v lines records.vectors → lines_in.first_loose v.minpts lines ≡ None
    → tree.width ≡ records.width → contents tree ≡ records.vectors → AllPass (is_spelled v.metric v.dim) tree
    → IsKept v records (record { eps = v.eps; tree = tree; counts = counts_of v.minpts lines; labels = lines_in.labels_of v.minpts lines })
kept_of v records lines tree law tied none width pairs pass =
    let both = law v.minpts lines tied.lawful none in
    record {
      eps = refl;
      minpts = refl;
      fits = record {
        held = record { same_width = width; same_pairs = pairs };
        numbers = λ a. both.1.exact a ∙ sym (tied.tied a);
        counted = both.0.counted;
        unhung = both.0.unhung;
        labelled = both.0.labelled;
        least = both.0.least;
      };
      spelled = pass;
    }
