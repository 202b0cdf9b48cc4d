-- Trees of places, and their roots while trees are joined.
use Rattle.std.proofs.Common.{◌≡◌, ◌≢◌, ℕ, zero, suc, ◌+◌, ◌<◌, ◌≤◌, List, [], ◌∷◌, ◌++◌, length, get_or, set, take, map, max, min, refl, sym, ap, subst, ◌∙◌, inl, inr, arith}
use Rattle.std.specs.List.{range_with_len}
use Rattle.std.proofs.lemmas.Bool.{cases_eq}
use Rattle.std.proofs.lemmas.Bool.Decides.{nat_tests}
use Rattle.std.proofs.lemmas.List.{get_or-map, length-map, length-set, get_or-set_same, get_or-set_other, take_more}
use Rattle.std.proofs.lemmas.List.FromFn.{length-range_with_len, get_or-range_with_len}
use Rattle.vec_record.specs.Table.{Table}
use Rattle.plain_dbscan.specs.Merging.{relabelled, merged}
use Rattle.plain_dbscan.specs.inside.Roots.{AreParents, AreRoots, joined_pair, joined_each, near_before, roots_of}
use Rattle.plain_dbscan.proofs.Merging.{relabelled_here, relabelled_other}

-- the places of a range, and one more
range_suc : (a n : ℕ) → range_with_len a (suc n) ≡ range_with_len a n ++ (a + n) ∷ []
range_suc a zero = let e : a ≡ a + 0 = omega arith in ap (λ (x : ℕ). x ∷ []) e
range_suc a (suc n) =
    let e : a + 1 + n ≡ a + suc n = omega arith in
    ap (λ (xs : List ℕ). a ∷ xs) (range_suc (a + 1) n ∙ ap (λ (x : ℕ). range_with_len (a + 1) n ++ x ∷ []) e)

pub range_more : (n : ℕ) → range_with_len 0 (n + 1) ≡ range_with_len 0 n ++ n ∷ []
range_more n =
    let next : n + 1 ≡ suc n = omega arith in
    let last : 0 + n ≡ n = omega arith in
    ap (range_with_len 0) next ∙ range_suc 0 n ∙ ap (λ (x : ℕ). range_with_len 0 n ++ x ∷ []) last

-- one row more is joined with those before it
pub roots_next : (dist : List ℕ → List ℕ → ℕ) (eps : ℕ) (t : Table) (n : ℕ) → roots_of dist eps t (n + 1) ≡ joined_each n (near_before dist eps t n) (roots_of dist eps t n)
roots_next dist eps t n = let next : n + 1 ≡ suc n = omega arith in ap (roots_of dist eps t) next

-- a list of places in which each is its own parent
pub first_parents : (n : ℕ) → AreParents (range_with_len 0 n)
first_parents n = λ k h. omega (arith, get_or-range_with_len 0 n k 0 (omega (arith, h, length-range_with_len 0 n)))

pub first_roots : (n : ℕ) → AreRoots (range_with_len 0 n) (range_with_len 0 n)
first_roots n =
    let own : (k : ℕ) → k < length (range_with_len 0 n) → get_or (range_with_len 0 n) k 0 ≡ k =
    λ k h. omega (arith, get_or-range_with_len 0 n k 0 (omega (arith, h, length-range_with_len 0 n))) in
    record {
      lengths = refl;
      same = λ k h. ap (λ (x : ℕ). get_or (range_with_len 0 n) x 0) (own k h);
      lower = λ k h. omega (arith, own k h);
      own = λ k h is. is;
    }

module _ (parents : List ℕ) (i x : ℕ) (h : i < length parents) where
  here : get_or (set parents i x) i 0 ≡ x
  here = get_or-set_same parents i x 0 h

  other : (k : ℕ) → k ≢ i → get_or (set parents i x) k 0 ≡ get_or parents k 0
  other k off = get_or-set_other parents i k x 0 off

  long : length (set parents i x) ≡ length parents
  long = length-set parents i x

  pub parents_set : AreParents parents → x ≤ i → AreParents (set parents i x)
  parents_set are le = λ k lt. elim (cases_eq k i) [
    | inl same ↦ subst (λ (y : ℕ). get_or (set parents i x) y 0 ≤ y) (sym same) (omega (arith, here, le))
    | inr off ↦ omega (arith, other k off, are k (omega (arith, lt, long)))
  ]

-- a place hung up at its parent's parent
pub roots_hung : (parents : List ℕ) (i : ℕ) → i < length parents → AreParents parents → (roots : List ℕ) → AreRoots parents roots → AreRoots (set parents i (get_or parents (get_or parents i 0) 0)) roots
roots_hung parents i h are roots r =
    let p = get_or parents i 0 in
    let x = get_or parents p 0 in
    let le : p ≤ i = are i h in
    let below : p < length parents = omega (arith, le, h) in
    let up : x ≤ p = are p below in
    let at : get_or (set parents i x) i 0 ≡ x = here parents i x h in
    record {
      lengths = r.lengths ∙ sym (long parents i x h);
      same = λ k lt. elim (cases_eq k i) [
        | inl same ↦ subst (λ (y : ℕ). get_or roots (get_or (set parents i x) y 0) 0 ≡ get_or roots y 0) (sym same) (ap (λ (y : ℕ). get_or roots y 0) at ∙ r.same p below ∙ r.same i h)
        | inr off ↦ ap (λ (y : ℕ). get_or roots y 0) (other parents i x h k off) ∙ r.same k (omega (arith, lt, long parents i x h))
      ];
      lower = λ k lt. r.lower k (omega (arith, lt, long parents i x h));
      own = λ k lt is. elim (cases_eq k i) [
        | inl same ↦
            let mine : get_or (set parents i x) i 0 ≡ i = subst (λ (y : ℕ). get_or (set parents i x) y 0 ≡ y) same is in
            subst (λ (y : ℕ). get_or roots y 0 ≡ y) (sym same) (r.own i h (omega (arith, mine, at, up, le)))
        | inr off ↦ r.own k (omega (arith, lt, long parents i x h)) (sym (other parents i x h k off) ∙ is)
      ];
    }

-- the root of a tree stays its own parent, whatever is hung up
pub root_stays : (parents roots : List ℕ) (a : ℕ) → AreParents parents → AreRoots parents roots → a < length parents → get_or roots a 0 ≡ a → get_or parents a 0 ≡ a
root_stays parents roots a are r h is =
    let le = are a h in
    omega (arith, le, r.same a h, is, r.lower (get_or parents a 0) (omega (arith, le, h)))

relabelled_to : (from to : ℕ) → relabelled from to to ≡ to
relabelled_to from to = grind (arith, nat_tests)

-- a root hung up at another one that is not above it
module _ (parents roots : List ℕ) (high low : ℕ) (are : AreParents parents) (r : AreRoots parents roots) (h : high < length parents) (le : low ≤ high)
    (own_high : get_or parents high 0 ≡ high) (own_low : get_or parents low 0 ≡ low) where
  abbrev f : ℕ → ℕ
  f = relabelled high low

  read : (k : ℕ) → k < length parents → get_or (map f roots) k 0 ≡ f (get_or roots k 0)
  read k lt = get_or-map f roots k 0 0 (omega (arith, lt, r.lengths))

  root_high : get_or roots high 0 ≡ high
  root_high = r.own high h own_high

  root_low : get_or roots low 0 ≡ low
  root_low = r.own low (omega (arith, h, le)) own_low

  same_high : get_or (map f roots) (get_or (set parents high low) high 0) 0 ≡ get_or (map f roots) high 0
  same_high =
      ap (λ (y : ℕ). get_or (map f roots) y 0) (here parents high low h)
      ∙ read low (omega (arith, h, le)) ∙ ap f root_low ∙ relabelled_to high low
      ∙ sym (read high h ∙ relabelled_here high low _ root_high)

  pub roots_hung_at : AreRoots (set parents high low) (map (relabelled high low) roots)
  roots_hung_at = record {
    lengths = length-map roots f ∙ r.lengths ∙ sym (long parents high low h);
    same = λ k lt.
        let inside : k < length parents = omega (arith, lt, long parents high low h) in
        elim (cases_eq k high) [
          | inl same ↦ subst (λ (y : ℕ). get_or (map f roots) (get_or (set parents high low) y 0) 0 ≡ get_or (map f roots) y 0) (sym same) same_high
          | inr off ↦
              ap (λ (y : ℕ). get_or (map f roots) y 0) (other parents high low h k off)
              ∙ read (get_or parents k 0) (omega (arith, are k inside, inside)) ∙ ap f (r.same k inside) ∙ sym (read k inside)
        ];
    lower = λ k lt.
        let inside : k < length parents = omega (arith, lt, long parents high low h) in
        elim (cases_eq (get_or roots k 0) high) [
          | inl same ↦ omega (arith, read k inside, relabelled_here high low _ same, r.lower k inside, same, le)
          | inr off ↦ omega (arith, read k inside, relabelled_other high low _ off, r.lower k inside)
        ];
    own = λ k lt is.
        let inside : k < length parents = omega (arith, lt, long parents high low h) in
        elim (cases_eq k high) [
          | inl same ↦
              let mine : get_or (set parents high low) high 0 ≡ high = subst (λ (y : ℕ). get_or (set parents high low) y 0 ≡ y) same is in
              subst (λ (y : ℕ). get_or (map f roots) y 0 ≡ y) (sym same) (omega (arith, read high h, relabelled_here high low _ root_high, here parents high low h, mine))
          | inr off ↦
              let root : get_or roots k 0 ≡ k = r.own k inside (sym (other parents high low h k off) ∙ is) in
              omega (arith, read k inside, relabelled_other high low _ (λ e. off (sym root ∙ e)), root)
        ];
  }

merged_as : (a b from to : ℕ) (roots : List ℕ) → max a b ≡ from → min a b ≡ to → merged a b roots ≡ map (relabelled from to) roots
merged_as a b from to roots e f = ap (λ (x : ℕ). map (relabelled x (min a b)) roots) e ∙ ap (λ (y : ℕ). map (relabelled from y) roots) f

-- of two roots the greater is hung up at the lesser
module _ (parents roots : List ℕ) (i j a b : ℕ) (are : AreParents parents) (r : AreRoots parents roots) (ha : a < length parents) (hb : b < length parents)
    (is_a : a ≡ get_or roots i 0) (is_b : b ≡ get_or roots j 0) (root_a : get_or roots a 0 ≡ a) (root_b : get_or roots b 0 ≡ b) where
  own_a : get_or parents a 0 ≡ a
  own_a = root_stays parents roots a are r ha root_a

  own_b : get_or parents b 0 ≡ b
  own_b = root_stays parents roots b are r hb root_b

  pub joined_below : a < b → AreRoots (set parents b a) (joined_pair i j roots)
  joined_below lt =
      subst (AreRoots (set parents b a)) (sym (merged_as (get_or roots i 0) (get_or roots j 0) b a roots (omega (arith, is_a, is_b, lt)) (omega (arith, is_a, is_b, lt)))) (roots_hung_at parents roots b a are r hb (omega arith) own_b own_a)

  pub joined_above : b ≤ a → AreRoots (set parents a b) (joined_pair i j roots)
  joined_above le =
      subst (AreRoots (set parents a b)) (sym (merged_as (get_or roots i 0) (get_or roots j 0) a b roots (omega (arith, is_a, is_b, le)) (omega (arith, is_a, is_b, le)))) (roots_hung_at parents roots a b are r ha le own_a own_b)

relabelled_itself : (a x : ℕ) → relabelled a a x ≡ x
relabelled_itself a x = elim (cases_eq x a) [
  | inl same ↦ relabelled_here a a x same ∙ sym same
  | inr off ↦ relabelled_other a a x off
]

map_itself : (f : ℕ → ℕ) → ((x : ℕ) → f x ≡ x) → (xs : List ℕ) → map f xs ≡ xs
map_itself f is [] = refl
map_itself f is (x ∷ xs) = let e : f x ≡ x = is x in let es : map f xs ≡ xs = map_itself f is xs in cc

-- where two places hang at one parent, nothing is left to join
pub joined_already : (parents roots : List ℕ) (i j : ℕ) → AreRoots parents roots → i < length parents → j < length parents → get_or parents j 0 ≡ get_or parents i 0 → joined_pair i j roots ≡ roots
joined_already parents roots i j r hi hj e =
    let a = get_or roots i 0 in
    let one : get_or roots j 0 ≡ a = sym (r.same j hj) ∙ ap (λ (y : ℕ). get_or roots y 0) e ∙ r.same i hi in
    merged_as a (get_or roots j 0) a a roots (omega (arith, one)) (omega (arith, one)) ∙ map_itself (relabelled a a) (relabelled_itself a) roots

each_append : (i : ℕ) (js : List ℕ) (j : ℕ) (roots : List ℕ) → joined_each i (js ++ j ∷ []) roots ≡ joined_pair i j (joined_each i js roots)
each_append i [] j roots = refl
each_append i (k ∷ js) j roots = each_append i js j (joined_pair i k roots)

-- one place more
pub each_more : (i : ℕ) (js : List ℕ) (n d : ℕ) (roots : List ℕ) → n < length js → joined_each i (take (n + 1) js) roots ≡ joined_pair i (get_or js n d) (joined_each i (take n js) roots)
each_more i js n d roots h = ap (λ (xs : List ℕ). joined_each i xs roots) (take_more js n d h) ∙ each_append i (take n js) (get_or js n d) roots
