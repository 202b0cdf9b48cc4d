-- A head page has one spelling.
use Rattle.std.proofs.Common.{◌≡◌, inl, inr, ℕ, ◌+◌, ◌^◌, ◌<◌, ◌≤◌, Bool, true, false, leb, eqb, cond, List, [], ◌∷◌, ◌++◌, length, take, drop, replicate, Option, Some, None, Result, Ok, Err, refl, sym, ap, subst, ◌∙◌, arith}
use Rattle.std.specs.Prelude.{IsTrue}
use Rattle.std.specs.List.{flat_map}
use Rattle.std.proofs.lemmas.Bool.{cases_lt, cases_Bool, leb-true, le-leb, eqb-true, eq-eqb, ne_eqb, and_parts, and_from}
use Rattle.std.proofs.lemmas.List.{drop_all, append-nil, drop-replicate}
use Rattle.vec_record.specs.declared.kind.MetricKind.{MetricKind}
use Rattle.vec_record.specs.declared.kind.MetricKind.TheVariants.{L1, Max, Hamming}
use Rattle.vec_record.specs.Vectors.{AreBytes}
use Rattle.vec_record.specs.Limits.{is_between, greatest_dim, are_within}
use Rattle.page_gate.specs.Gate.{number_4}
use Rattle.page_layout.specs.declared.fault.LayoutFault.{LayoutFault}
use Rattle.page_layout.specs.declared.fault.LayoutFault.TheVariants.{Foreign, Damaged}
use Rattle.page_layout.specs.Fields.{Field, word, zero_fields, first_bad, unless_bad}
use Rattle.page_layout.specs.Heads.{Values, HeadValue, IsHead, metric_number, metric_of, dim_limit, is_root, is_height, head_fields, values_in, head_in, head_of, head_page}
use Rattle.page_layout.proofs.Places.{number_small, word_then, number_is, first_lawful, append_bad, append_lawful, zeros_then, zeros_are}

between : (low high n : ℕ) → is_between low high n ≡ true → (low ≤ n) × (n ≤ high)
between low high n is = let both = and_parts (leb low n) (leb n high) is in (leb-true low n both.0, leb-true n high both.1)

is_within : (low high n : ℕ) → low ≤ n → n ≤ high → is_between low high n ≡ true
is_within low high n ge le = and_from (leb low n) (leb n high) (le-leb low n ge) (le-leb n high le)

-- what the fields of a head page say where all are lawful
pub record AreLawful (page : List ℕ) : Type 0 where
  pub pages : leb 2 (number_4 0 page) ≡ true
  pub metric : is_between 1 3 (number_4 8 page) ≡ true
  pub dim : is_between 1 (dim_limit (number_4 8 page)) (number_4 12 page) ≡ true
  pub eps : is_between 0 65535 (number_4 16 page) ≡ true
  pub minpts : is_between 1 65535 (number_4 20 page) ≡ true
  pub cap : is_between 1 200000 (number_4 24 page) ≡ true
  pub count : leb (number_4 32 page) (number_4 24 page) ≡ true
  pub root : is_root (number_4 32 page) (number_4 36 page) ≡ true
  pub height : is_height (number_4 32 page) (number_4 40 page) ≡ true
  pub zeros : first_bad (zero_fields 44 16340 page) ≡ None

-- nine fields and others behind them
abbrev pub nine : Bool → Bool → Bool → Bool → Bool → Bool → Bool → Bool → Bool → List Field → List Field
nine a b c d e f g h i rest = (0, a) ∷ (8, b) ∷ (12, c) ∷ (16, d) ∷ (20, e) ∷ (24, f) ∷ (32, g) ∷ (36, h) ∷ (40, i) ∷ rest

record AreNine (a b c d e f g h i : Bool) (rest : List Field) : Type 0 where
  first : a ≡ true
  second : b ≡ true
  third : c ≡ true
  fourth : d ≡ true
  fifth : e ≡ true
  sixth : f ≡ true
  seventh : g ≡ true
  eighth : h ≡ true
  ninth : i ≡ true
  others : first_bad rest ≡ None

nine_parts : (a b c d e f g h i : Bool) (rest : List Field) → first_bad (nine a b c d e f g h i rest) ≡ None → AreNine a b c d e f g h i rest
nine_parts a b c d e f g h i rest lawful =
    let r1 = first_lawful (0, a) ((8, b) ∷ (12, c) ∷ (16, d) ∷ (20, e) ∷ (24, f) ∷ (32, g) ∷ (36, h) ∷ (40, i) ∷ rest) lawful in
    let r2 = first_lawful (8, b) ((12, c) ∷ (16, d) ∷ (20, e) ∷ (24, f) ∷ (32, g) ∷ (36, h) ∷ (40, i) ∷ rest) r1.1 in
    let r3 = first_lawful (12, c) ((16, d) ∷ (20, e) ∷ (24, f) ∷ (32, g) ∷ (36, h) ∷ (40, i) ∷ rest) r2.1 in
    let r4 = first_lawful (16, d) ((20, e) ∷ (24, f) ∷ (32, g) ∷ (36, h) ∷ (40, i) ∷ rest) r3.1 in
    let r5 = first_lawful (20, e) ((24, f) ∷ (32, g) ∷ (36, h) ∷ (40, i) ∷ rest) r4.1 in
    let r6 = first_lawful (24, f) ((32, g) ∷ (36, h) ∷ (40, i) ∷ rest) r5.1 in
    let r7 = first_lawful (32, g) ((36, h) ∷ (40, i) ∷ rest) r6.1 in
    let r8 = first_lawful (36, h) ((40, i) ∷ rest) r7.1 in
    let r9 = first_lawful (40, i) rest r8.1 in
    record { first = r1.0; second = r2.0; third = r3.0; fourth = r4.0; fifth = r5.0; sixth = r6.0; seventh = r7.0; eighth = r8.0; ninth = r9.0; others = r9.1 }

nine_from : (a b c d e f g h i : Bool) (rest : List Field) → AreNine a b c d e f g h i rest → first_bad (nine a b c d e f g h i rest) ≡ None
nine_from a b c d e f g h i rest are = rw (are.first, are.second, are.third, are.fourth, are.fifth, are.sixth, are.seventh, are.eighth, are.ninth) are.others

abbrev pub fields_with : List ℕ → List Field → List Field
fields_with page rest =
    nine (leb 2 (number_4 0 page)) (is_between 1 3 (number_4 8 page)) (is_between 1 (dim_limit (number_4 8 page)) (number_4 12 page)) (is_between 0 65535 (number_4 16 page))
    (is_between 1 65535 (number_4 20 page)) (is_between 1 200000 (number_4 24 page)) (leb (number_4 32 page) (number_4 24 page)) (is_root (number_4 32 page) (number_4 36 page)) (is_height (number_4 32 page) (number_4 40 page)) rest

fields_are : (page : List ℕ) → head_fields page ≡ fields_with page (zero_fields 44 16340 page)
unfolding head_fields
fields_are page = refl

lawful_with : (page : List ℕ) (rest : List Field) → first_bad (fields_with page rest) ≡ None
    → AreNine (leb 2 (number_4 0 page)) (is_between 1 3 (number_4 8 page)) (is_between 1 (dim_limit (number_4 8 page)) (number_4 12 page)) (is_between 0 65535 (number_4 16 page))
    (is_between 1 65535 (number_4 20 page)) (is_between 1 200000 (number_4 24 page)) (leb (number_4 32 page) (number_4 24 page)) (is_root (number_4 32 page) (number_4 36 page)) (is_height (number_4 32 page) (number_4 40 page)) rest
lawful_with page rest lawful =
    nine_parts (leb 2 (number_4 0 page)) (is_between 1 3 (number_4 8 page)) (is_between 1 (dim_limit (number_4 8 page)) (number_4 12 page)) (is_between 0 65535 (number_4 16 page))
    (is_between 1 65535 (number_4 20 page)) (is_between 1 200000 (number_4 24 page)) (leb (number_4 32 page) (number_4 24 page)) (is_root (number_4 32 page) (number_4 36 page)) (is_height (number_4 32 page) (number_4 40 page)) rest lawful

pub lawful_fields : (page : List ℕ) → first_bad (head_fields page) ≡ None → AreLawful page
lawful_fields page lawful =
    let all = lawful_with page (zero_fields 44 16340 page) (ap first_bad (sym (fields_are page)) ∙ lawful) in
    record { pages = all.first; metric = all.second; dim = all.third; eps = all.fourth; minpts = all.fifth; cap = all.sixth; count = all.seventh; root = all.eighth; height = all.ninth; zeros = all.others }

lawful_by : (page : List ℕ) (rest : List Field) → AreLawful page → first_bad rest ≡ None → first_bad (fields_with page rest) ≡ None
lawful_by page rest are others =
    nine_from (leb 2 (number_4 0 page)) (is_between 1 3 (number_4 8 page)) (is_between 1 (dim_limit (number_4 8 page)) (number_4 12 page)) (is_between 0 65535 (number_4 16 page))
    (is_between 1 65535 (number_4 20 page)) (is_between 1 200000 (number_4 24 page)) (leb (number_4 32 page) (number_4 24 page)) (is_root (number_4 32 page) (number_4 36 page)) (is_height (number_4 32 page) (number_4 40 page)) rest
    (record { first = are.pages; second = are.metric; third = are.dim; fourth = are.eps; fifth = are.minpts; sixth = are.cap; seventh = are.count; eighth = are.root; ninth = are.height; others = others })

pub fields_lawful : (page : List ℕ) → AreLawful page → first_bad (head_fields page) ≡ None
fields_lawful page are = ap first_bad (fields_are page) ∙ lawful_by page (zero_fields 44 16340 page) are are.zeros

-- the three metrics and their numbers
by_metric : (P : ℕ → Type 0) → P 1 → P 2 → P 3 → (n : ℕ) → is_between 1 3 n ≡ true → P n
by_metric P one two three n is =
    let both = between 1 3 n is in
    elim (cases_lt n 2) [
      | inl lt ↦ let e : 1 ≡ n = omega (arith, both.0, lt) in subst P e one
      | inr ge ↦ elim (cases_lt n 3) [
        | inl lt ↦ let e : 2 ≡ n = omega (arith, ge, lt) in subst P e two
        | inr above ↦ let e : 3 ≡ n = omega (arith, both.1, above) in subst P e three
      ]
    ]

limit_of : (n : ℕ) → is_between 1 3 n ≡ true → greatest_dim (metric_of n) ≡ dim_limit n
limit_of = by_metric (λ (n : ℕ). greatest_dim (metric_of n) ≡ dim_limit n) refl refl refl

number_of : (n : ℕ) → is_between 1 3 n ≡ true → metric_number (metric_of n) ≡ n
number_of = by_metric (λ (n : ℕ). metric_number (metric_of n) ≡ n) refl refl refl

metric_again : (m : MetricKind) → metric_of (metric_number m) ≡ m
metric_again L1 = refl
metric_again Max = refl
metric_again Hamming = refl

metric_between : (m : MetricKind) → is_between 1 3 (metric_number m) ≡ true
metric_between L1 = refl
metric_between Max = refl
metric_between Hamming = refl

limit_again : (m : MetricKind) → dim_limit (metric_number m) ≡ greatest_dim m
limit_again L1 = refl
limit_again Max = refl
limit_again Hamming = refl

-- the parameters are within their limits
module _ (page : List ℕ) (are : AreLawful page) where
  pub fields_within : IsTrue (are_within (metric_of (number_4 8 page)) (number_4 12 page) (number_4 16 page) (number_4 20 page) (number_4 24 page))
  fields_within =
      let dim : is_between 1 (greatest_dim (metric_of (number_4 8 page))) (number_4 12 page) ≡ true = ap (λ (most : ℕ). is_between 1 most (number_4 12 page)) (limit_of (number_4 8 page) are.metric) ∙ are.dim in
      and_from _ _ dim (and_from _ _ are.eps (and_from _ _ are.minpts are.cap))

  pub params_within : (m : MetricKind) (n d e p c : ℕ) → m ≡ metric_of n → n ≡ number_4 8 page → d ≡ number_4 12 page → e ≡ number_4 16 page → p ≡ number_4 20 page → c ≡ number_4 24 page → IsTrue (are_within m d e p c)
  params_within m n d e p c m_is n_is d_is e_is p_is c_is = rw (m_is, n_is, d_is, e_is, p_is, c_is) fields_within

  lawful_is : AreBytes page → number_4 4 page ≡ 1 → IsHead (head_in page)
  unfolding head_in values_in
  lawful_is bytes version = record {
    version = version;
    pages = leb-true 2 (number_4 0 page) are.pages;
    pages_fit = number_small 0 page bytes;
    values = fields_within;
    batches = number_small 28 page bytes;
    count = leb-true (number_4 32 page) (number_4 24 page) are.count;
    root = are.root;
    root_fits = number_small 36 page bytes;
    height = are.height;
  }

  lawful_spelled : length page ≡ 16384 → AreBytes page → page ≡ head_page (head_in page)
  unfolding head_in values_in head_page
  lawful_spelled len bytes =
      let at : (k next : ℕ) (rest : List ℕ) → next ≡ k + 4 → k + 4 ≤ 16384 → drop next page ≡ rest → drop k page ≡ word (number_4 k page) ++ rest =
      λ k next rest is le more. word_then k page bytes (omega (arith, len, le)) ∙ ap (λ (n : ℕ). word (number_4 k page) ++ drop n page) (sym is) ∙ ap (λ (l : List ℕ). word (number_4 k page) ++ l) more in
      let ended : drop 16384 page ≡ [] = drop_all 16384 page (omega (arith, len)) in
      let zeros : drop 44 page ≡ replicate 16340 0 = zeros_then 16340 44 page (omega (arith, len)) are.zeros ∙ ap (λ (l : List ℕ). replicate 16340 0 ++ l) ended ∙ append-nil (replicate 16340 0) in
      let height = at 40 44 _ refl (omega arith) zeros in
      let root = at 36 40 _ refl (omega arith) height in
      let count = at 32 36 _ refl (omega arith) root in
      let batches = at 28 32 _ refl (omega arith) count in
      let cap = at 24 28 _ refl (omega arith) batches in
      let minpts = at 20 24 _ refl (omega arith) cap in
      let eps = at 16 20 _ refl (omega arith) minpts in
      let dim = at 12 16 _ refl (omega arith) eps in
      let metric = at 8 12 _ refl (omega arith) dim in
      let version = at 4 8 _ refl (omega arith) metric in
      let pages = at 0 4 _ refl (omega arith) version in
      rw (number_of (number_4 8 page) are.metric) pages

  pub head_read : length page ≡ 16384 → AreBytes page → number_4 4 page ≡ 1 → IsHead (head_in page) × (page ≡ head_page (head_in page))
  head_read len bytes version = (lawful_is bytes version, lawful_spelled len bytes)

-- ---- what is written

regroup : (a b c d e f g h i j k : ℕ) (rest : List ℕ)
    → flat_map word (a ∷ b ∷ c ∷ d ∷ e ∷ f ∷ g ∷ h ∷ i ∷ j ∷ k ∷ []) ++ rest
    ≡ word a ++ (word b ++ (word c ++ (word d ++ (word e ++ (word f ++ (word g ++ (word h ++ (word i ++ (word j ++ (word k ++ rest))))))))))
regroup a b c d e f g h i j k rest = refl

pub head_written : (h : HeadValue) (m : ℕ) (zeros new : List ℕ) → m ≡ metric_number h.values.metric → zeros ≡ replicate 16384 0
    → new ≡ take 0 zeros ++ flat_map word (h.pages ∷ h.version ∷ m ∷ h.values.dim ∷ h.values.eps ∷ h.values.minpts ∷ h.values.cap ∷ h.batches ∷ h.count ∷ h.root ∷ h.height ∷ []) ++ drop 44 zeros
    → new ≡ head_page h
unfolding head_page
head_written h m zeros new m_is zeros_are_all is =
    let words : ℕ → List ℕ → List ℕ = λ n rest. flat_map word (h.pages ∷ h.version ∷ n ∷ h.values.dim ∷ h.values.eps ∷ h.values.minpts ∷ h.values.cap ∷ h.batches ∷ h.count ∷ h.root ∷ h.height ∷ []) ++ rest in
    let back : drop 44 zeros ≡ replicate 16340 0 = ap (drop 44) zeros_are_all ∙ drop-replicate 44 16384 0 in
    is ∙ ap (words m) back ∙ ap (λ (n : ℕ). words n (replicate 16340 0)) m_is
    ∙ regroup h.pages h.version (metric_number h.values.metric) h.values.dim h.values.eps h.values.minpts h.values.cap h.batches h.count h.root h.height (replicate 16340 0)

-- ---- what was written is read again

metric_small : (m : MetricKind) → metric_number m < 2 ^ 32
metric_small L1 = omega arith
metric_small Max = omega arith
metric_small Hamming = omega arith

dim_small : (m : MetricKind) (d : ℕ) → d ≤ greatest_dim m → d < 2 ^ 32
dim_small L1 d le = omega (arith, le)
dim_small Max d le = omega (arith, le)
dim_small Hamming d le = omega (arith, le)

-- a height is at most 6
pub height_most : (count height : ℕ) → is_height count height ≡ true → height ≤ 6
height_most count height is =
    let all = λ (b : Bool). cond b (eqb height 0) (is_between 1 6 height) in
    elim (cases_Bool (eqb count 0)) [
      | inl yes_is ↦ let none : height ≡ 0 = eqb-true height 0 (ap all (sym yes_is) ∙ is) in omega (arith, none)
      | inr no_is ↦ (between 1 6 height (ap all (sym no_is) ∙ is)).1
    ]

height_small : (count height : ℕ) → is_height count height ≡ true → height < 2 ^ 32
height_small count height is = omega (arith, height_most count height is)

record AreSmall (v : Values) : Type 0 where
  dim : is_between 1 (greatest_dim v.metric) v.dim ≡ true
  eps : is_between 0 65535 v.eps ≡ true
  minpts : is_between 1 65535 v.minpts ≡ true
  cap : is_between 1 200000 v.cap ≡ true

values_parts : (v : Values) → IsTrue (are_within v.metric v.dim v.eps v.minpts v.cap) → AreSmall v
values_parts v within =
    let a = and_parts _ _ within in
    let b = and_parts _ _ a.1 in
    let c = and_parts _ _ b.1 in
    record { dim = a.0; eps = b.0; minpts = c.0; cap = c.1 }

-- the numbers of a page that begins with these
record AreNumbers (page : List ℕ) (a b c d e f g h i j k : ℕ) : Type 0 where
  n0 : number_4 0 page ≡ a
  n4 : number_4 4 page ≡ b
  n8 : number_4 8 page ≡ c
  n12 : number_4 12 page ≡ d
  n16 : number_4 16 page ≡ e
  n20 : number_4 20 page ≡ f
  n24 : number_4 24 page ≡ g
  n28 : number_4 28 page ≡ h
  n32 : number_4 32 page ≡ i
  n36 : number_4 36 page ≡ j
  n40 : number_4 40 page ≡ k

numbers_are : (page : List ℕ) (a b c d e f g h i j k : ℕ) (rest : List ℕ)
    → page ≡ word a ++ (word b ++ (word c ++ (word d ++ (word e ++ (word f ++ (word g ++ (word h ++ (word i ++ (word j ++ (word k ++ rest))))))))))
    → a < 2 ^ 32 → b < 2 ^ 32 → c < 2 ^ 32 → d < 2 ^ 32 → e < 2 ^ 32 → f < 2 ^ 32 → g < 2 ^ 32 → h < 2 ^ 32 → i < 2 ^ 32 → j < 2 ^ 32 → k < 2 ^ 32
    → AreNumbers page a b c d e f g h i j k × (drop 44 page ≡ rest)
numbers_are page a b c d e f g h i j k rest is sa sb sc sd se sf sg sh si sj sk = (
  record {
    n0 = number_is 0 a page _ sa is;
    n4 = number_is 4 b page _ sb (ap (drop 4) is);
    n8 = number_is 8 c page _ sc (ap (drop 8) is);
    n12 = number_is 12 d page _ sd (ap (drop 12) is);
    n16 = number_is 16 e page _ se (ap (drop 16) is);
    n20 = number_is 20 f page _ sf (ap (drop 20) is);
    n24 = number_is 24 g page _ sg (ap (drop 24) is);
    n28 = number_is 28 h page _ sh (ap (drop 28) is);
    n32 = number_is 32 i page _ si (ap (drop 32) is);
    n36 = number_is 36 j page _ sj (ap (drop 36) is);
    n40 = number_is 40 k page _ sk (ap (drop 40) is);
  },
  ap (drop 44) is,
)

again_lawful : (h : HeadValue) (page : List ℕ) → IsHead h → page ≡ head_page h → AreLawful page × ((number_4 4 page ≡ 1) × (head_in page ≡ h))
unfolding head_page head_in values_in
again_lawful h page is same =
    let v = values_parts h.values is.values in
    let d = between 1 (greatest_dim h.values.metric) h.values.dim v.dim in
    let e = between 0 65535 h.values.eps v.eps in
    let p = between 1 65535 h.values.minpts v.minpts in
    let c = between 1 200000 h.values.cap v.cap in
    let both = numbers_are page h.pages h.version (metric_number h.values.metric) h.values.dim h.values.eps h.values.minpts h.values.cap h.batches h.count h.root h.height (replicate 16340 0) same
    is.pages_fit (omega (arith, is.version)) (metric_small h.values.metric) (dim_small h.values.metric h.values.dim d.1) (omega (arith, e.1)) (omega (arith, p.1)) (omega (arith, c.1)) is.batches
    (omega (arith, is.count, c.1)) is.root_fits (height_small h.count h.height is.height) in
    let n = both.0 in (
      record {
        pages = ap (leb 2) n.n0 ∙ le-leb 2 h.pages is.pages;
        metric = ap (is_between 1 3) n.n8 ∙ metric_between h.values.metric;
        dim = ap (is_between 1 (dim_limit (number_4 8 page))) n.n12 ∙ ap (λ (k : ℕ). is_between 1 (dim_limit k) h.values.dim) n.n8 ∙ ap (λ (k : ℕ). is_between 1 k h.values.dim) (limit_again h.values.metric) ∙ v.dim;
        eps = ap (is_between 0 65535) n.n16 ∙ v.eps;
        minpts = ap (is_between 1 65535) n.n20 ∙ v.minpts;
        cap = ap (is_between 1 200000) n.n24 ∙ v.cap;
        count = ap (leb (number_4 32 page)) n.n24 ∙ ap (λ (k : ℕ). leb k h.values.cap) n.n32 ∙ le-leb h.count h.values.cap is.count;
        root = ap (λ (k : ℕ). is_root k (number_4 36 page)) n.n32 ∙ ap (is_root h.count) n.n36 ∙ is.root;
        height = ap (λ (k : ℕ). is_height k (number_4 40 page)) n.n32 ∙ ap (is_height h.count) n.n40 ∙ is.height;
        zeros = zeros_are 16340 44 page [] (both.1 ∙ sym (append-nil (replicate 16340 0)));
      },
      (n.n4 ∙ is.version, rw (n.n0, n.n4, n.n8, n.n12, n.n16, n.n20, n.n24, n.n28, n.n32, n.n36, n.n40, metric_again h.values.metric) refl),
    )

-- ---- what a page says

abbrev said : Bool → Option ℕ → HeadValue → Result HeadValue LayoutFault
said known bad value = cond known (unless_bad bad value) (Err Foreign)

head_of_is : (page : List ℕ) → head_of page ≡ said (eqb (number_4 4 page) 1) (first_bad (head_fields page)) (head_in page)
unfolding head_of
head_of_is page = refl

pub head_foreign : (page : List ℕ) → (number_4 4 page ≡ 1 → ⊥) → head_of page ≡ Err Foreign
head_foreign page other = head_of_is page ∙ ap (λ (b : Bool). said b (first_bad (head_fields page)) (head_in page)) (ne_eqb (number_4 4 page) 1 other)

pub head_damaged : (page : List ℕ) (offset : ℕ) → number_4 4 page ≡ 1 → Some offset ≡ first_bad (head_fields page) → head_of page ≡ Err (Damaged offset)
head_damaged page offset known bad =
    head_of_is page ∙ ap (λ (b : Bool). said b (first_bad (head_fields page)) (head_in page)) (eq-eqb (number_4 4 page) 1 known) ∙ ap (λ (o : Option ℕ). said true o (head_in page)) (sym bad)

pub head_lawful : (page : List ℕ) → number_4 4 page ≡ 1 → first_bad (head_fields page) ≡ None → head_of page ≡ Ok (head_in page)
head_lawful page known lawful =
    head_of_is page ∙ ap (λ (b : Bool). said b (first_bad (head_fields page)) (head_in page)) (eq-eqb (number_4 4 page) 1 known) ∙ ap (λ (o : Option ℕ). said true o (head_in page)) lawful

said_ok : (known : Bool) (bad : Option ℕ) (value h : HeadValue) → said known bad value ≡ Ok h → (known ≡ true) × ((bad ≡ None) × (value ≡ h))
said_ok true None value h is = (refl, (refl, cc))
said_ok true (Some offset) value h is = absurd cc
said_ok false bad value h is = absurd cc

-- a page is read as a value exactly where it is its written form
pub head_from : (page : List ℕ) (h : HeadValue) → length page ≡ 16384 → AreBytes page → head_of page ≡ Ok h → IsHead h × (page ≡ head_page h)
head_from page h len bytes is =
    let parts = said_ok (eqb (number_4 4 page) 1) (first_bad (head_fields page)) (head_in page) h (sym (head_of_is page) ∙ is) in
    subst (λ (v : HeadValue). IsHead v × (page ≡ head_page v)) parts.1.1 (head_read page (lawful_fields page parts.1.0) len bytes (eqb-true (number_4 4 page) 1 parts.0))

pub head_again : (page : List ℕ) (h : HeadValue) → IsHead h → page ≡ head_page h → head_of page ≡ Ok h
head_again page h is same =
    let all = again_lawful h page is same in
    head_lawful page all.1.0 (fields_lawful page all.0) ∙ ap (λ (v : HeadValue). Ok v) all.1.1

-- ---- the list of fields

pub nine_bad : (page : List ℕ) (fields : List Field) (offset : ℕ) → fields ≡ fields_with page [] → Some offset ≡ first_bad fields → Some offset ≡ first_bad (head_fields page)
nine_bad page fields offset are bad =
    let nine_is : first_bad (fields_with page []) ≡ Some offset = ap first_bad (sym are) ∙ sym bad in
    sym (append_bad (fields_with page []) (zero_fields 44 16340 page) offset nine_is) ∙ ap first_bad (sym (fields_are page))

pub nine_lawful : (page : List ℕ) (fields : List Field) (rest : Option ℕ) → fields ≡ fields_with page [] → None ≡ first_bad fields → rest ≡ first_bad (zero_fields 44 16340 page) → rest ≡ first_bad (head_fields page)
nine_lawful page fields rest are lawful is =
    let nine_is : first_bad (fields_with page []) ≡ None = ap first_bad (sym are) ∙ sym lawful in
    is ∙ sym (append_lawful (fields_with page []) (zero_fields 44 16340 page) nine_is) ∙ ap first_bad (sym (fields_are page))

pub head_in_is : (page : List ℕ) (a b h i j k : ℕ) (v : Values) → a ≡ number_4 0 page → b ≡ number_4 4 page → v ≡ values_in page → h ≡ number_4 28 page → i ≡ number_4 32 page → j ≡ number_4 36 page → k ≡ number_4 40 page
    → head_in page ≡ record { pages = a; version = b; values = v; batches = h; count = i; root = j; height = k }
unfolding head_in
head_in_is page a b h i j k v a_is b_is v_is h_is i_is j_is k_is = rw (a_is, b_is, v_is, h_is, i_is, j_is, k_is) refl
