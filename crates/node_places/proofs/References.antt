-- The references of the slots of the pages of a kind, page by page.
use Rattle.std.proofs.Common.{◌≡◌, ℕ, ◌+◌, ◌*◌, ◌<◌, ◌≤◌, Bool, true, false, cond, List, [], ◌∷◌, ◌++◌, length, drop, get_or, refl, sym, ◌∙◌, ap, arith, append_assoc}
use Rattle.std.specs.Prelude.{◌==◌}
use Rattle.std.specs.List.{All, range_with_len}
use Rattle.std.proofs.lemmas.Bool.{eq-eqb, ne_eqb}
use Rattle.std.proofs.lemmas.List.{drop_more, drop_all, append-nil, map-id}
use Rattle.std.proofs.lemmas.List.FromFn.{map-range_with_len_more, get_or-range_with_len, length-range_with_len}
use Rattle.std.proofs.lemmas.List.Elements.{All-append, All-nil}
use Rattle.node_places.specs.Nodes.{refs_from}

pub range_more : (a n : ℕ) → range_with_len a (n + 1) ≡ range_with_len a n ++ (a + n) ∷ []
range_more a n = sym (map-id (range_with_len a (n + 1)))
    ∙ map-range_with_len_more (λ (k : ℕ). k) a n (a + n) refl
    ∙ ap (λ (l : List ℕ). l ++ (a + n) ∷ []) (map-id (range_with_len a n))

module _ (kind slots : ℕ) (kinds : List ℕ) where
  one : (k : ℕ) → k < length kinds
      → refs_from kind slots (k + 2) (drop k kinds) ≡ cond (get_or kinds k 0 == kind) (range_with_len (64 * (k + 2)) slots ++ refs_from kind slots (k + 1 + 2) (drop (k + 1) kinds)) (refs_from kind slots (k + 1 + 2) (drop (k + 1) kinds))
  one k lt =
      let next : k + 2 + 1 ≡ k + 1 + 2 = omega arith in
      ap (refs_from kind slots (k + 2)) (drop_more kinds k 0 lt)
      ∙ ap (λ (p : ℕ). cond (get_or kinds k 0 == kind) (range_with_len (64 * (k + 2)) slots ++ refs_from kind slots p (drop (k + 1) kinds)) (refs_from kind slots p (drop (k + 1) kinds))) next

  pub of_kind : (k : ℕ) (before all : List ℕ) → k < length kinds → get_or kinds k 0 ≡ kind
      → before ++ refs_from kind slots (k + 2) (drop k kinds) ≡ all
      → (before ++ range_with_len (64 * (k + 2)) slots) ++ refs_from kind slots (k + 1 + 2) (drop (k + 1) kinds) ≡ all
  of_kind k before all lt is whole =
      let page = range_with_len (64 * (k + 2)) slots in
      let rest = refs_from kind slots (k + 1 + 2) (drop (k + 1) kinds) in
      append_assoc before page rest
      ∙ ap (λ (l : List ℕ). before ++ l) (sym (one k lt ∙ ap (λ (b : Bool). cond b (page ++ rest) rest) (eq-eqb (get_or kinds k 0) kind is)))
      ∙ whole

  pub of_another : (k : ℕ) (before all : List ℕ) → k < length kinds → (get_or kinds k 0 ≡ kind → ⊥)
      → before ++ refs_from kind slots (k + 2) (drop k kinds) ≡ all
      → before ++ refs_from kind slots (k + 1 + 2) (drop (k + 1) kinds) ≡ all
  of_another k before all lt other whole =
      let page = range_with_len (64 * (k + 2)) slots in
      let rest = refs_from kind slots (k + 1 + 2) (drop (k + 1) kinds) in
      ap (λ (l : List ℕ). before ++ l) (sym (one k lt ∙ ap (λ (b : Bool). cond b (page ++ rest) rest) (ne_eqb (get_or kinds k 0) kind other)))
      ∙ whole

  pub no_more : (k : ℕ) (before all : List ℕ) → length kinds ≤ k
      → before ++ refs_from kind slots (k + 2) (drop k kinds) ≡ all → before ≡ all
  no_more k before all past whole =
      sym (ap (λ (l : List ℕ). before ++ refs_from kind slots (k + 2) l) (drop_all k kinds past) ∙ append-nil before)
      ∙ whole

-- all of them are below the first reference behind the last page
range_below : (a n limit : ℕ) → a + n ≤ limit → All (λ r. r < limit) (range_with_len a n)
range_below a n limit le =
    λ k d lt. omega (arith, get_or-range_with_len a n k d (omega (arith, lt, length-range_with_len a n)), lt, length-range_with_len a n, le)

pub refs_below : (kind slots page : ℕ) (kinds : List ℕ) (limit : ℕ) → slots ≤ 64
    → 64 * (page + length kinds) ≤ limit → All (λ r. r < limit) (refs_from kind slots page kinds)
refs_below kind slots page [] limit few le = All-nil (λ r. r < limit)
refs_below kind slots page (k ∷ kinds) limit few le =
    let rest : All (λ r. r < limit) (refs_from kind slots (page + 1) kinds) = refs_below kind slots (page + 1) kinds limit few (omega (arith, le)) in
    of_test (k == kind) rest
  where
    of_test : (b : Bool) → All (λ r. r < limit) (refs_from kind slots (page + 1) kinds)
        → All (λ r. r < limit) (cond b (range_with_len (64 * page) slots ++ refs_from kind slots (page + 1) kinds) (refs_from kind slots (page + 1) kinds))
    of_test true rest =
        All-append (λ r. r < limit) (range_with_len (64 * page) slots) (refs_from kind slots (page + 1) kinds) (range_below (64 * page) slots limit (omega (arith, few, le))) rest
    of_test false rest = rest
