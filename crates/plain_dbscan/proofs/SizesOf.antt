-- Sizes of rows, while each pair of rows is looked at once.
use Rattle.std.proofs.Common.{◌≡◌, ◌≢◌, ◌↔◌, ℕ, zero, suc, ◌+◌, ◌-◌, ◌<◌, ◌≤◌, Bool, true, false, cond, eqb, List, [], ◌∷◌, ◌++◌, length, get_or, take, drop, filter, count_by, nat_le, set, refl, sym, ap, subst, ◌∙◌, inl, inr, arith}
use Rattle.std.specs.List.{range_with_len, AllByRecursion}
use Rattle.std.proofs.lemmas.Bool.{cases_eq, cases_lt, cases_Bool}
use Rattle.std.proofs.lemmas.Bool.Decides.{nat_tests}
use Rattle.std.proofs.lemmas.List.{length-take, take-append-drop, length-drop, length-set, get_or-drop, get_or-set_same, get_or-set_other}
use Rattle.std.proofs.lemmas.List.Sums.{length-filter, sum_by-cons, sum_by-append, count_by-le-length, count_by_more_yes, count_by_more_no}
use Rattle.vec_record.specs.Vectors.{IsVector, IsWidth}
use Rattle.vec_record.specs.Table.{Table, row_at}
use Rattle.plain_dbscan.specs.Points.{is_near_row}
use Rattle.plain_dbscan.specs.inside.Sizes.{size_at, size_among, AreSizes, ArePaired}
use Rattle.plain_dbscan.proofs.Packed.{count_at}

-- how often a place stands among those of a range that pass
none_below : (test : ℕ → Bool) (k a n : ℕ) → k < a → count_by (λ q. eqb q k) (filter test (range_with_len a n)) ≡ 0
none_below test k a zero h = refl
none_below test k a (suc n) h =
    let rest = none_below test k (a + 1) n (omega arith) in
    let off : eqb a k ≡ false = grind (arith, nat_tests) in
    elim (test a) as (λ b. count_by (λ q. eqb q k) (cond b (a ∷ filter test (range_with_len (a + 1) n)) (filter test (range_with_len (a + 1) n))) ≡ 0) [
      | true ↦ sum_by-cons (λ q. cond (eqb q k) 1 0) a (filter test (range_with_len (a + 1) n)) ∙ omega (arith, rest, ap {B = ℕ} (λ (b : Bool). cond b 1 0) off)
      | false ↦ rest
    ]

pub once_in : (test : ℕ → Bool) (k a n : ℕ) → a ≤ k → k < a + n → count_by (λ q. eqb q k) (filter test (range_with_len a n)) ≡ cond (test k) 1 0
once_in test k a zero h l = absurd (omega arith)
once_in test k a (suc n) h l =
    let rest = filter test (range_with_len (a + 1) n) in
    elim (cases_eq a k) [
      | inl same ↦
          let none = none_below test k (a + 1) n (omega (arith, same)) in
          let on : eqb a k ≡ true = grind (arith, nat_tests, same) in
          let at : test a ≡ test k = ap test same in
          ap (λ (b : Bool). count_by (λ q. eqb q k) (cond b (a ∷ rest) rest)) at
          ∙ elim (test k) as (λ b. count_by (λ q. eqb q k) (cond b (a ∷ rest) rest) ≡ cond b 1 0) [
            | true ↦ sum_by-cons (λ q. cond (eqb q k) 1 0) a rest ∙ omega (arith, none, ap {B = ℕ} (λ (b : Bool). cond b 1 0) on)
            | false ↦ none
          ]
      | inr other ↦
          let more = once_in test k (a + 1) n (omega (arith, other)) (omega arith) in
          let off : eqb a k ≡ false = grind (arith, nat_tests, other) in
          elim (test a) as (λ b. count_by (λ q. eqb q k) (cond b (a ∷ rest) rest) ≡ cond (test k) 1 0) [
            | true ↦ sum_by-cons (λ q. cond (eqb q k) 1 0) a rest ∙ omega (arith, more, ap {B = ℕ} (λ (b : Bool). cond b 1 0) off)
            | false ↦ more
          ]
    ]

-- places of a range are below its end
pub all_below : (test : ℕ → Bool) (m a n : ℕ) → a + n ≤ m → AllByRecursion (λ k. k < m) (filter test (range_with_len a n))
all_below test m a zero h = tt
all_below test m a (suc n) h =
    let rest = all_below test m (a + 1) n (omega arith) in
    elim (test a) as (λ b. AllByRecursion (λ k. k < m) (cond b (a ∷ filter test (range_with_len (a + 1) n)) (filter test (range_with_len (a + 1) n)))) [
      | true ↦ (omega arith, rest)
      | false ↦ rest
    ]

-- one element more in a count, and a count around an element
pub count_next : {X : Type 0} (p : X → Bool) (xs : List X) (i : ℕ) (d : X) → i < length xs → count_by p (take (i + 1) xs) ≡ count_by p (take i xs) + cond (p (get_or xs i d)) 1 0
count_next p xs i d h = elim (cases_Bool (p (get_or xs i d))) [
  | inl passes ↦ omega (arith, count_by_more_yes p xs i d h passes, ap {B = ℕ} (λ (b : Bool). cond b 1 0) passes)
  | inr fails ↦ omega (arith, count_by_more_no p xs i d h fails, ap {B = ℕ} (λ (b : Bool). cond b 1 0) fails)
]

count_parts : {X : Type 0} (p : X → Bool) (xs : List X) (i : ℕ) (d : X) → i < length xs → count_by p xs ≡ count_by p (take i xs) + cond (p (get_or xs i d)) 1 0 + count_by p (drop (i + 1) xs)
count_parts p xs i d h =
    let whole : count_by p xs ≡ count_by p (take (i + 1) xs ++ drop (i + 1) xs) = ap (count_by p) (sym (take-append-drop (i + 1) xs)) in
    omega (arith, whole, sum_by-append (λ x. cond (p x) 1 0) (take (i + 1) xs) (drop (i + 1) xs), count_next p xs i d h)

pub none_above : (eps : ℕ) → nat_le 0 eps ≡ true
none_above eps = grind (arith, nat_tests)

pub all_at : {X : Type 0} (P : X → Type 0) (xs : List X) (k : ℕ) (d : X) → AllByRecursion P xs → k < length xs → P (get_or xs k d)
all_at P [] k d all h = absurd (omega arith)
all_at P (x ∷ xs) zero d all h = all.0
all_at P (x ∷ xs) (suc k) d all h = all_at P xs k d all.1 (omega arith)

module _ (dist : List ℕ → List ℕ → ℕ) (eps : ℕ) (t : Table) where
  abbrev pub near_place : ℕ → ℕ → Bool
  near_place i k = nat_le (dist (row_at t i) (row_at t k)) eps

  -- as many places behind a row are near it as rows there are
  behind : (i n : ℕ) → i < length t.rows → n ≡ length t.rows - (i + 1) →
      length (filter (near_place i) (range_with_len (i + 1) n)) ≡ count_by (is_near_row dist eps (row_at t i)) (drop (i + 1) t.rows)
  behind i n h is =
      let long : length (drop (i + 1) t.rows) ≡ n = length-drop (i + 1) t.rows ∙ sym is in
      length-filter (near_place i) (range_with_len (i + 1) n)
      ∙ ap (λ m. count_by (near_place i) (range_with_len (i + 1) m)) (sym long)
      ∙ count_at (is_near_row dist eps (row_at t i)) [] t.rows (i + 1) (drop (i + 1) t.rows) (λ k l. sym (get_or-drop (i + 1) t.rows k []))

  -- what is counted so far is no more than all rows and one
  pub paired_few : (sizes : List ℕ) (n k : ℕ) → ArePaired dist eps t sizes n → k < length t.rows → get_or sizes k 0 ≤ 1 + length t.rows
  paired_few sizes n k paired h = elim (cases_lt k n) [
    | inl before ↦ omega (arith, paired.done k before, count_by-le-length (is_near_row dist eps (row_at t k)) t.rows)
    | inr after ↦ omega (arith, paired.open_ k after h, count_by-le-length (is_near_row dist eps (row_at t k)) (take n t.rows), length-take n t.rows)
  ]

  -- a row whose pairs are still open has counted itself and some of those before it
  pub paired_open : (sizes : List ℕ) (n k : ℕ) → ArePaired dist eps t sizes n → n ≤ k → k < length t.rows → get_or sizes k 0 ≤ 1 + n
  paired_open sizes n k paired after h = omega (arith, paired.open_ k after h, count_by-le-length (is_near_row dist eps (row_at t k)) (take n t.rows), length-take n t.rows)

  pub first_paired : (sizes : List ℕ) → length sizes ≡ length t.rows → ((k : ℕ) → k < length t.rows → get_or sizes k 0 ≡ 1) → ArePaired dist eps t sizes 0
  first_paired sizes long ones = record { lengths = long; done = λ k lt. absurd (omega arith); open_ = λ k le lt. ones k lt }

  pub all_paired : (sizes : List ℕ) (n : ℕ) → length t.rows ≤ n → ArePaired dist eps t sizes n → AreSizes dist eps t sizes
  all_paired sizes n all paired = record { lengths = paired.lengths; each = λ k lt. paired.done k (omega arith) }

  module _ (w : ℕ) (lawful : IsWidth w) (rows : AllByRecursion (IsVector w) t.rows)
      (identity : (u v : List ℕ) → IsWidth w → IsVector w u → IsVector w v → (dist u v ≡ 0) ↔ (u ≡ v))
      (symmetry : (u v : List ℕ) → IsWidth w → IsVector w u → IsVector w v → dist u v ≡ dist v u) where
    vector_at : (k : ℕ) → k < length t.rows → IsVector w (row_at t k)
    vector_at k h = all_at (IsVector w) t.rows k [] rows h

    near_itself : (k : ℕ) → k < length t.rows → is_near_row dist eps (row_at t k) (row_at t k) ≡ true
    near_itself k h =
        let zero_apart : dist (row_at t k) (row_at t k) ≡ 0 = (identity (row_at t k) (row_at t k) lawful (vector_at k h) (vector_at k h)).1 refl in
        ap (λ (n : ℕ). nat_le n eps) zero_apart ∙ none_above eps

    near_alike : (i k : ℕ) → i < length t.rows → k < length t.rows → near_place i k ≡ is_near_row dist eps (row_at t k) (row_at t i)
    near_alike i k hi hk = ap (λ (n : ℕ). nat_le n eps) (symmetry (row_at t i) (row_at t k) lawful (vector_at i hi) (vector_at k hk))

    -- a row is paired with those behind it
    module _ (sizes mid new : List ℕ) (i found n : ℕ) (paired : ArePaired dist eps t sizes i) (place : i < length t.rows) (many : n ≡ length t.rows - (i + 1))
        (found_is : found ≡ length (filter (near_place i) (range_with_len (i + 1) n))) (mid_is : mid ≡ set sizes i (get_or sizes i 0 + found)) (long : length new ≡ length mid)
        (new_is : (k : ℕ) → k < length mid → get_or new k 0 ≡ get_or mid k 0 + count_by (λ q. eqb q k) (filter (near_place i) (range_with_len (i + 1) n))) where
      mid_long : length mid ≡ length t.rows
      mid_long = ap length mid_is ∙ length-set sizes i (get_or sizes i 0 + found) ∙ paired.lengths

      mid_here : get_or mid i 0 ≡ get_or sizes i 0 + found
      mid_here = ap (λ (xs : List ℕ). get_or xs i 0) mid_is ∙ get_or-set_same sizes i (get_or sizes i 0 + found) 0 (omega (arith, paired.lengths, place))

      mid_other : (k : ℕ) → k ≢ i → get_or mid k 0 ≡ get_or sizes k 0
      mid_other k h = ap (λ (xs : List ℕ). get_or xs k 0) mid_is ∙ get_or-set_other sizes i k (get_or sizes i 0 + found) 0 h

      done_here : get_or new i 0 ≡ size_at dist eps t i
      done_here =
          let itself : ◌≡◌ {A = ℕ} (cond (is_near_row dist eps (row_at t i) (row_at t i)) 1 0) 1 = ap {B = ℕ} (λ (b : Bool). cond b 1 0) (near_itself i place) in
          omega (
            arith,
            new_is i (omega (arith, mid_long, place)),
            none_below (near_place i) i (i + 1) n (omega arith),
            mid_here,
            paired.open_ i (omega arith) place,
            found_is ∙ behind i n place many,
            count_parts (is_near_row dist eps (row_at t i)) t.rows i [] place,
            itself,
          )

      done_before : (k : ℕ) → k < i → get_or new k 0 ≡ size_at dist eps t k
      done_before k lt =
          omega (arith, new_is k (omega (arith, mid_long, place)), none_below (near_place i) k (i + 1) n (omega arith), mid_other k (λ e. omega (arith, e, lt)), paired.done k lt)

      open_after : (k : ℕ) → i + 1 ≤ k → k < length t.rows → get_or new k 0 ≡ 1 + size_among dist eps t (i + 1) k
      open_after k le lt =
          let alike : ◌≡◌ {A = ℕ} (cond (near_place i k) 1 0) (cond (is_near_row dist eps (row_at t k) (row_at t i)) 1 0) = ap {B = ℕ} (λ (b : Bool). cond b 1 0) (near_alike i k place lt) in
          omega (
            arith,
            new_is k (omega (arith, mid_long, lt)),
            once_in (near_place i) k (i + 1) n le (omega (arith, many, lt)),
            mid_other k (λ e. omega (arith, e, le)),
            paired.open_ k (omega arith) lt,
            count_next (is_near_row dist eps (row_at t k)) t.rows i [] place,
            alike,
          )

      pub paired_next : ArePaired dist eps t new (i + 1)
      paired_next = record {
        lengths = long ∙ mid_long;
        done = λ k lt. elim (cases_eq k i) [
          | inl same ↦ subst (λ (x : ℕ). get_or new x 0 ≡ size_at dist eps t x) (sym same) done_here
          | inr other ↦ done_before k (omega (arith, lt, other))
        ];
        open_ = open_after;
      }
