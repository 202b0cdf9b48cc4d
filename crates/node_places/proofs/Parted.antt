-- The references of the slots of the pages of a kind: they rise, and each names a page of the kind.
use Rattle.std.proofs.Common.{◌≡◌, inl, inr, ℕ, zero, suc, ◌+◌, ◌-◌, ◌*◌, ◌/◌, ◌%◌, ◌<◌, ◌≤◌, Bool, true, false, cond, List, [], ◌∷◌, ◌++◌, length, replicate, get_or, refl, sym, ◌∙◌, ap, subst, arith, length-append, append_assoc, zero-add}
use Rattle.std.specs.Prelude.{◌==◌}
use Rattle.std.specs.List.{All, flat_map, range_with_len}
use Rattle.std.proofs.lemmas.Bool.{cases_Bool, eqb-true, ne_eqb, false≢true, or_cases}
use Rattle.std.proofs.lemmas.List.{get_or_append_left, get_or-append-add}
use Rattle.std.proofs.lemmas.List.Folds.{list_any-append, list_any_none, sum_by-replicate}
use Rattle.std.proofs.lemmas.List.Sums.{sum_by-append}
use Rattle.std.proofs.lemmas.List.FromFn.{length-range_with_len, get_or-range_with_len}
use Rattle.std.proofs.lemmas.List.Elements.{All-append, All-nil, All-cons, All-head, All-tail, All-weaker}
use Rattle.std.proofs.lemmas.Nat.{div-mul-add, mod-mul-add}
use Rattle.std.proofs.Math.Nat.{suc-mul}
use Rattle.node_places.specs.Slots.{has, AreApart}
use Rattle.node_places.specs.Rising.{IsRising}
use Rattle.node_places.specs.Nodes.{refs_from, pages_from, leaf_refs, inner_refs, count_of, kinds_after}
use Rattle.node_places.specs.Laws.{AreByPages, AreCounted, AreParted, NamesSlot}

-- each number is below those behind it
abbrev pub Rises : List ℕ → Type 0
Rises [] = Unit {0}
Rises (n ∷ ns) = All (λ m. n < m) ns × Rises ns

rise_append : (limit : ℕ) (xs ys : List ℕ) → Rises xs → Rises ys → All (λ x. x < limit) xs
    → All (λ y. limit ≤ y) ys → Rises (xs ++ ys)
rise_append limit [] ys xs_rise ys_rise below above = ys_rise
rise_append limit (x ∷ xs) ys xs_rise ys_rise below above =
    let first : x < limit = All-head (λ x. x < limit) x xs below in
    (All-append (λ m. x < m) xs ys xs_rise.0 (All-weaker (λ y. limit ≤ y) (λ y. x < y) (λ y le. omega (arith, le, first)) ys above), rise_append limit xs ys xs_rise.1 ys_rise (All-tail (λ x. x < limit) x xs below) above)

range_above : (a n limit : ℕ) → limit ≤ a → All (λ r. limit ≤ r) (range_with_len a n)
range_above a zero limit le = All-nil (λ r. limit ≤ r)
range_above a (suc n) limit le =
    All-cons (λ r. limit ≤ r) a (range_with_len (a + 1) n) le (range_above (a + 1) n limit (omega (arith, le)))

range_below : (a n limit : ℕ) → a + n ≤ limit → All (λ r. r < limit) (range_with_len a n)
range_below a zero limit le = All-nil (λ r. r < limit)
range_below a (suc n) limit le =
    All-cons (λ r. r < limit) a (range_with_len (a + 1) n) (omega (arith, le)) (range_below (a + 1) n limit (omega (arith, le)))

range_rises : (a n : ℕ) → Rises (range_with_len a n)
range_rises a zero = tt
range_rises a (suc n) =
    (All-weaker (λ r. a + 1 ≤ r) (λ r. a < r) (λ r le. omega (arith, le)) (range_with_len (a + 1) n) (range_above (a + 1) n (a + 1) (omega arith)), range_rises (a + 1) n)

pub refs_above : (kind slots page limit : ℕ) (kinds : List ℕ) → limit ≤ 64 * page
    → All (λ r. limit ≤ r) (refs_from kind slots page kinds)
refs_above kind slots page limit [] le = All-nil (λ r. limit ≤ r)
refs_above kind slots page limit (k ∷ kinds) le =
    of_test (k == kind) (refs_above kind slots (page + 1) limit kinds (omega (arith, le)))
  where
    of_test : (b : Bool) → All (λ r. limit ≤ r) (refs_from kind slots (page + 1) kinds)
        → All (λ r. limit ≤ r) (cond b (range_with_len (64 * page) slots ++ refs_from kind slots (page + 1) kinds) (refs_from kind slots (page + 1) kinds))
    of_test true rest =
        All-append (λ r. limit ≤ r) (range_with_len (64 * page) slots) (refs_from kind slots (page + 1) kinds) (range_above (64 * page) slots limit le) rest
    of_test false rest = rest

pub refs_rise : (kind slots page : ℕ) (kinds : List ℕ) → slots ≤ 64
    → Rises (refs_from kind slots page kinds)
refs_rise kind slots page [] few = tt
refs_rise kind slots page (k ∷ kinds) few =
    of_test (k == kind) (refs_rise kind slots (page + 1) kinds few)
  where
    of_test : (b : Bool) → Rises (refs_from kind slots (page + 1) kinds)
        → Rises (cond b (range_with_len (64 * page) slots ++ refs_from kind slots (page + 1) kinds) (refs_from kind slots (page + 1) kinds))
    of_test true rest =
        rise_append (64 * (page + 1)) (range_with_len (64 * page) slots) (refs_from kind slots (page + 1) kinds) (range_rises (64 * page) slots) rest (range_below (64 * page) slots (64 * (page + 1)) (omega (arith, few))) (refs_above kind slots (page + 1) (64 * (page + 1)) kinds (omega arith))
    of_test false rest = rest

-- numbers that rise, by their places, and none of them twice
pub is_rising : (ns : List ℕ) → Rises ns → IsRising ns
is_rising [] rise i j lt within = absurd (omega (arith, within))
is_rising (n ∷ ns) rise i zero lt within = absurd (omega (arith, lt))
is_rising (n ∷ ns) rise zero (suc j) lt within = rise.0 j 0 (omega (arith, within))
is_rising (n ∷ ns) rise (suc i) (suc j) lt within =
    is_rising ns rise.1 i j (omega (arith, lt)) (omega (arith, within))

none_of : (n : ℕ) (ns : List ℕ) → All (λ m. n < m) ns → has ns n ≡ false
none_of n ns above =
    list_any_none (λ m. m == n) ns (λ k d lt. ne_eqb _ n (λ is. omega (arith, above k d lt, is)))

pub rising_apart : (ns : List ℕ) → Rises ns → AreApart ns
rising_apart [] rise = tt
rising_apart (n ∷ ns) rise = (inr (none_of n ns rise.0), rising_apart ns rise.1)

pub never_zero : (kind slots page : ℕ) (kinds : List ℕ) → 0 < page
    → has (refs_from kind slots page kinds) 0 ≡ false
never_zero kind slots page kinds some =
    none_of 0 (refs_from kind slots page kinds) (All-weaker (λ r. 1 ≤ r) (λ r. 0 < r) (λ r le. omega (arith, le)) (refs_from kind slots page kinds) (refs_above kind slots page 1 kinds (omega (arith, some))))

-- what a reference names
in_range : (a n r : ℕ) → has (range_with_len a n) r ≡ true → (a ≤ r) × (r < a + n)
in_range a zero r is = absurd (false≢true is)
in_range a (suc n) r is = elim (or_cases (a == r) (has (range_with_len (a + 1) n) r) is) [
  | inl here ↦ let same = eqb-true a r here in (omega (arith, same), omega (arith, same))
  | inr later ↦ let rest = in_range (a + 1) n r later in (omega (arith, rest.0), omega (arith, rest.1))
]

-- a page and what it gives to a reference
abbrev pub Names : ℕ → ℕ → ℕ → List ℕ → ℕ → Type 0
Names kind slots page kinds r =
    (page ≤ r / 64) × (get_or kinds (r / 64 - page) 0 ≡ kind) × (r % 64 < slots)

module _ (kind slots page k : ℕ) (kinds : List ℕ) (r : ℕ) where
  behind : Names kind slots (page + 1) kinds r → Names kind slots page (k ∷ kinds) r
  behind its =
      let next : r / 64 - page ≡ suc (r / 64 - (page + 1)) = omega (arith, its.0) in
      (omega (arith, its.0), ap (λ (i : ℕ). get_or (k ∷ kinds) i 0) next ∙ its.1, its.2)

  of_page : slots ≤ 64 → k ≡ kind → (64 * page ≤ r) × (r < 64 * page + slots)
      → Names kind slots page (k ∷ kinds) r
  of_page few same at =
      let slot = r - 64 * page in
      let is : r ≡ page * 64 + slot = omega (arith, at.0) in
      let small : slot < 64 = omega (arith, at.1, few, at.0) in
      let page_is : r / 64 ≡ page = ap (λ (x : ℕ). x / 64) is ∙ div-mul-add page 64 slot small in
      let slot_is : r % 64 ≡ slot = ap (λ (x : ℕ). x % 64) is ∙ mod-mul-add page 64 slot small in
      let first : r / 64 - page ≡ 0 = omega (arith, page_is) in
      (omega (arith, page_is), ap (λ (i : ℕ). get_or (k ∷ kinds) i 0) first ∙ same, omega (arith, slot_is, at.0, at.1))

pub names : (kind slots page : ℕ) (kinds : List ℕ) (r : ℕ) → slots ≤ 64
    → has (refs_from kind slots page kinds) r ≡ true → Names kind slots page kinds r
names kind slots page [] r few is = absurd (false≢true is)
names kind slots page (k ∷ kinds) r few is =
    let here = range_with_len (64 * page) slots in
    let rest = refs_from kind slots (page + 1) kinds in
    elim (cases_Bool (k == kind)) [
      | inl same ↦ elim (or_cases (has here r) (has rest r) (sym (list_any-append (λ m. m == r) here rest) ∙ sym (ap (λ (b : Bool). has (cond b (here ++ rest) rest) r) same) ∙ is)) [
        | inl first ↦ of_page kind slots page k kinds r few (eqb-true k kind same) (in_range (64 * page) slots r first)
        | inr later ↦ behind kind slots page k kinds r (names kind slots (page + 1) kinds r few later)
      ]
      | inr other ↦ behind kind slots page k kinds r (names kind slots (page + 1) kinds r few (sym (ap (λ (b : Bool). has (cond b (here ++ rest) rest) r) other) ∙ is))
    ]

pub refs_name_slots : (kind slots : ℕ) (kinds : List ℕ) (r : ℕ) → slots ≤ 64
    → has (refs_from kind slots 2 kinds) r ≡ true → NamesSlot kind slots kinds r
refs_name_slots kind slots kinds r few is =
    let its = names kind slots 2 kinds r few is in
    record { page = its.0; of_kind = its.1; slot = its.2 }

pub refs_are_parted : (kinds : List ℕ) → AreParted kinds
refs_are_parted kinds = record {
  leaves = is_rising (leaf_refs kinds) (refs_rise 2 63 2 kinds (omega arith));
  inners = is_rising (inner_refs kinds) (refs_rise 3 1 2 kinds (omega arith));
  apart = λ n is. elim (cases_Bool (has (inner_refs kinds) n)) [
    | inl there ↦ absurd (two_kinds (names 2 63 2 kinds n (omega arith) is).1 (names 3 1 2 kinds n (omega arith) there).1)
    | inr away ↦ away
  ];
}
  where
    two_kinds : {k : ℕ} → k ≡ 2 → k ≡ 3 → ⊥
    two_kinds two three = omega (arith, two, three)

-- page by page
pub by_pages : (kind slots page : ℕ) (kinds : List ℕ)
    → refs_from kind slots page kinds ≡ flat_map (λ p. range_with_len (64 * p) slots) (pages_from kind page kinds)
by_pages kind slots page [] = refl
by_pages kind slots page (k ∷ kinds) = of_test (k == kind) (by_pages kind slots (page + 1) kinds)
  where
    of_test : (b : Bool)
        → refs_from kind slots (page + 1) kinds ≡ flat_map (λ p. range_with_len (64 * p) slots) (pages_from kind (page + 1) kinds)
        → cond b (range_with_len (64 * page) slots ++ refs_from kind slots (page + 1) kinds) (refs_from kind slots (page + 1) kinds) ≡ flat_map (λ p. range_with_len (64 * p) slots) (cond b (page ∷ pages_from kind (page + 1) kinds) (pages_from kind (page + 1) kinds))
    of_test true rest = ap (λ (l : List ℕ). range_with_len (64 * page) slots ++ l) rest
    of_test false rest = rest

-- how many pages are of a kind
count-append : (kind : ℕ) (xs ys : List ℕ)
    → count_of kind (xs ++ ys) ≡ count_of kind xs + count_of kind ys
count-append kind xs ys = sum_by-append (λ k. cond (k == kind) 1 0) xs ys

count_more : (kind k : ℕ) (kinds : List ℕ)
    → count_of kind (k ∷ kinds) ≡ cond (k == kind) 1 0 + count_of kind kinds
count_more kind k kinds = count-append kind (k ∷ []) kinds
    ∙ ap (λ (n : ℕ). n + count_of kind kinds) (zero-add (cond (k == kind) 1 0))

pub length-refs : (kind slots page : ℕ) (kinds : List ℕ)
    → length (refs_from kind slots page kinds) ≡ slots * count_of kind kinds
length-refs kind slots page [] = omega arith
length-refs kind slots page (k ∷ kinds) =
    of_test (k == kind) (length-refs kind slots (page + 1) kinds)
    ∙ ap (λ (n : ℕ). slots * n) (sym (count_more kind k kinds))
  where
    of_test : (b : Bool)
        → length (refs_from kind slots (page + 1) kinds) ≡ slots * count_of kind kinds
        → length (cond b (range_with_len (64 * page) slots ++ refs_from kind slots (page + 1) kinds) (refs_from kind slots (page + 1) kinds)) ≡ slots * (cond b 1 0 + count_of kind kinds)
    of_test true rest =
        length-append (range_with_len (64 * page) slots) (refs_from kind slots (page + 1) kinds)
        ∙ omega (arith, length-range_with_len (64 * page) slots, rest)
    of_test false rest = omega (arith, rest)

pub length-pages : (kind page : ℕ) (kinds : List ℕ)
    → length (pages_from kind page kinds) ≡ count_of kind kinds
length-pages kind page [] = refl
length-pages kind page (k ∷ kinds) = of_test (k == kind) (length-pages kind (page + 1) kinds)
    ∙ sym (count_more kind k kinds)
  where
    of_test : (b : Bool) → length (pages_from kind (page + 1) kinds) ≡ count_of kind kinds
        → length (cond b (page ∷ pages_from kind (page + 1) kinds) (pages_from kind (page + 1) kinds)) ≡ cond b 1 0 + count_of kind kinds
    of_test true rest = omega (arith, rest)
    of_test false rest = omega (arith, rest)

-- the reference of a slot of a page, by the place of the page among those of its kind
pub ref_at : (kind slots page : ℕ) (kinds : List ℕ) (j slot : ℕ) → j < count_of kind kinds
    → slot < slots
    → get_or (refs_from kind slots page kinds) (j * slots + slot) 0 ≡ 64 * get_or (pages_from kind page kinds) j 0 + slot
ref_at kind slots page [] j slot lt within = absurd (omega (arith, lt))
ref_at kind slots page (k ∷ kinds) j slot lt within =
    of_test (k == kind) j (λ j lt. ref_at kind slots (page + 1) kinds j slot lt within) (subst (λ (n : ℕ). j < n) (count_more kind k kinds) lt)
  where
    of_test : (b : Bool) (j : ℕ)
        → ((j : ℕ) → j < count_of kind kinds → get_or (refs_from kind slots (page + 1) kinds) (j * slots + slot) 0 ≡ 64 * get_or (pages_from kind (page + 1) kinds) j 0 + slot)
        → j < cond b 1 0 + count_of kind kinds
        → get_or (cond b (range_with_len (64 * page) slots ++ refs_from kind slots (page + 1) kinds) (refs_from kind slots (page + 1) kinds)) (j * slots + slot) 0 ≡ 64 * get_or (cond b (page ∷ pages_from kind (page + 1) kinds) (pages_from kind (page + 1) kinds)) j 0 + slot
    of_test true zero behind lt =
        let here = range_with_len (64 * page) slots in
        let rest = refs_from kind slots (page + 1) kinds in
        let first : 0 * slots + slot ≡ slot = omega arith in
        ap (λ (i : ℕ). get_or (here ++ rest) i 0) first
        ∙ get_or_append_left here rest 0 slot (omega (arith, within, length-range_with_len (64 * page) slots))
        ∙ get_or-range_with_len (64 * page) slots slot 0 within
    of_test true (suc j) behind lt =
        let here = range_with_len (64 * page) slots in
        let rest = refs_from kind slots (page + 1) kinds in
        let next : suc j * slots + slot ≡ length here + (j * slots + slot) = omega (arith, suc-mul j slots, length-range_with_len (64 * page) slots) in
        ap (λ (i : ℕ). get_or (here ++ rest) i 0) next
        ∙ get_or-append-add here rest (j * slots + slot) 0
        ∙ behind j (omega (arith, lt))
    of_test false j behind lt = behind j (omega (arith, lt))

pub refs_more : (kind slots page : ℕ) (kinds new : List ℕ)
    → refs_from kind slots page (kinds ++ new) ≡ refs_from kind slots page kinds ++ refs_from kind slots (page + length kinds) new
refs_more kind slots page [] new = ap (λ (p : ℕ). refs_from kind slots p new) (omega arith)
refs_more kind slots page (k ∷ kinds) new =
    of_test (k == kind) (refs_more kind slots (page + 1) kinds new ∙ ap (λ (p : ℕ). refs_from kind slots (page + 1) kinds ++ refs_from kind slots p new) (omega arith))
  where
    of_test : (b : Bool)
        → refs_from kind slots (page + 1) (kinds ++ new) ≡ refs_from kind slots (page + 1) kinds ++ refs_from kind slots (page + suc (length kinds)) new
        → cond b (range_with_len (64 * page) slots ++ refs_from kind slots (page + 1) (kinds ++ new)) (refs_from kind slots (page + 1) (kinds ++ new)) ≡ cond b (range_with_len (64 * page) slots ++ refs_from kind slots (page + 1) kinds) (refs_from kind slots (page + 1) kinds) ++ refs_from kind slots (page + suc (length kinds)) new
    of_test true rest = ap (λ (l : List ℕ). range_with_len (64 * page) slots ++ l) rest
        ∙ sym (append_assoc (range_with_len (64 * page) slots) (refs_from kind slots (page + 1) kinds) (refs_from kind slots (page + suc (length kinds)) new))
    of_test false rest = rest

pub refs_are_by_pages : (kind slots page : ℕ) (kinds : List ℕ) → AreByPages kind slots page kinds
refs_are_by_pages kind slots page kinds = record {
  pages = by_pages kind slots page kinds;
  count = length-pages kind page kinds;
  long = length-refs kind slots page kinds;
  at = ref_at kind slots page kinds;
  more = refs_more kind slots page kinds;
}

-- the pages of each kind after a save
count-replicate : (kind n k : ℕ) → count_of kind (replicate n k) ≡ n * cond (k == kind) 1 0
count-replicate kind n k = sum_by-replicate (λ k. cond (k == kind) 1 0) n k

module _ (kinds : List ℕ) (a b c : ℕ) where
  parts : (kind : ℕ)
      → count_of kind (kinds ++ (replicate a 1 ++ (replicate b 2 ++ replicate c 3))) ≡ count_of kind kinds + (count_of kind (replicate a 1) + (count_of kind (replicate b 2) + count_of kind (replicate c 3)))
  parts kind = count-append kind kinds (replicate a 1 ++ (replicate b 2 ++ replicate c 3))
      ∙ ap (λ (n : ℕ). count_of kind kinds + n) (count-append kind (replicate a 1) (replicate b 2 ++ replicate c 3) ∙ ap (λ (n : ℕ). count_of kind (replicate a 1) + n) (count-append kind (replicate b 2) (replicate c 3)))

  counted : (kind x y z : ℕ) → x ≡ cond (1 == kind) 1 0 → y ≡ cond (2 == kind) 1 0
      → z ≡ cond (3 == kind) 1 0
      → count_of kind (kinds ++ (replicate a 1 ++ (replicate b 2 ++ replicate c 3))) ≡ count_of kind kinds + (a * x + (b * y + c * z))
  counted kind x y z xs ys zs = parts kind
      ∙ ap (λ (n : ℕ). count_of kind kinds + n) (ap (λ (n : ℕ). n + (count_of kind (replicate b 2) + count_of kind (replicate c 3))) (count-replicate kind a 1 ∙ ap (λ (n : ℕ). a * n) (sym xs))
      ∙ ap (λ (n : ℕ). a * x + (n + count_of kind (replicate c 3))) (count-replicate kind b 2 ∙ ap (λ (n : ℕ). b * n) (sym ys))
      ∙ ap (λ (n : ℕ). a * x + (b * y + n)) (count-replicate kind c 3 ∙ ap (λ (n : ℕ). c * n) (sym zs)))

pub kinds_are_counted : (kinds : List ℕ) (records leaves inners : ℕ)
    → AreCounted kinds (kinds_after kinds records leaves inners) records leaves inners
kinds_are_counted kinds records leaves inners =
    let a = records - count_of 1 kinds in
    let b = leaves - count_of 2 kinds in
    let c = inners - count_of 3 kinds in
    record {
      record_pages = omega (arith, counted kinds a b c 1 1 0 0 refl refl refl);
      leaf_pages = omega (arith, counted kinds a b c 2 0 1 0 refl refl refl);
      inner_pages = omega (arith, counted kinds a b c 3 0 0 1 refl refl refl);
    }
