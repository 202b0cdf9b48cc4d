-- Numbers that stand in slots after a save: those that stay and those that take free ones.
use Rattle.std.proofs.Common.{◌≡◌, inl, inr, ⊎_elim, ℕ, ◌+◌, ◌-◌, ◌%◌, ◌<◌, ◌≤◌, max, Bool, true, false, not, ◌||◌, ◌&&◌, List, [], ◌∷◌, ◌++◌, length, replicate, refl, sym, ◌∙◌, ap, subst, arith, length-append}
use Rattle.std.specs.Prelude.{◌==◌, nat_eq, is_some}
use Rattle.std.specs.List.{list_any, AllByRecursion, IsDistinct}
use Rattle.std.specs.FinMap as maps
use Rattle.std.proofs.lemmas.Bool.{cases_eq, eq-eqb, ne_eqb, false≢true, or_parts, and_parts}
use Rattle.std.proofs.lemmas.Cmp.{nat_eq_equiv}
use Rattle.std.proofs.lemmas.List.{length-replicate, append-nil}
use Rattle.std.proofs.lemmas.Map.Made.{length-le_from_is_member}
use Rattle.std.proofs.lemmas.Nat.{mod_below}
use Rattle.vec_record.specs.Held as held
use Rattle.vec_record.specs.Held.{NoneAtZero}
use Rattle.node_places.specs.Slots.{has, absent, filled, padded, freed, slotless, record_slots, AreApart}
use Rattle.node_places.specs.Laws.{AreSlots}
use Rattle.node_places.proofs.Keys.{has_keys}
use Rattle.node_places.proofs.Placed.{Without, Whole, whole_pages, has_absent, absent_same, has_filled, has_padded, has_kept, apart_kept, apart_rising, apart_filter, apart_filled, apart_behind, full_or_same, length-filled, length-freed}

-- lists without a number twice are no longer than a list that has their numbers
flip : (a b : ℕ) → (a == b) ≡ (b == a)
flip a b = elim (cases_eq a b) [
  | inl same ↦ eq-eqb a b same ∙ sym (eq-eqb b a (sym same))
  | inr differ ↦ ne_eqb a b differ ∙ sym (ne_eqb b a (λ is. differ (sym is)))
]

has_flipped : (ns : List ℕ) (q : ℕ) → list_any (nat_eq q) ns ≡ has ns q
has_flipped [] q = refl
has_flipped (n ∷ ns) q = ap (λ (b : Bool). b || list_any (nat_eq q) ns) (flip q n)
    ∙ ap (λ (b : Bool). (n == q) || b) (has_flipped ns q)

none_same : (n : ℕ) (ns : List ℕ) → has ns n ≡ false → AllByRecursion (λ m. nat_eq n m ≡ false) ns
none_same n [] away = tt
none_same n (m ∷ ns) away =
    let parts = or_parts (m == n) (has ns n) away in
    (flip n m ∙ parts.0, none_same n ns parts.1)

distinct : (ns : List ℕ) → AreApart ns → has ns 0 ≡ false → IsDistinct nat_eq ns
unfolding IsDistinct
distinct [] apart none = tt
distinct (n ∷ ns) apart none =
    let parts = or_parts (n == 0) (has ns 0) none in
    let other : has ns n ≡ false = ⊎_elim (λ is. absurd (false≢true (sym parts.0 ∙ eq-eqb n 0 is))) (λ away. away) apart.0 in
    (none_same n ns other, distinct ns apart.1 parts.1)

pub no_longer : (ns ms : List ℕ) → AreApart ns → has ns 0 ≡ false
    → ((n : ℕ) → has ns n ≡ true → has ms n ≡ true) → length ns ≤ length ms
no_longer ns ms apart none within =
    length-le_from_is_member nat_eq_equiv ns ms (distinct ns apart none) (λ q is. has_flipped ms q ∙ within q (sym (has_flipped ns q) ∙ is))

-- numbers stay where they are, and the others of a list take free slots
module _ (size : ℕ) (kept numbers : List ℕ) where
  abbrev new : List ℕ
  new = absent kept numbers

  abbrev full : List ℕ
  full = filled kept new

  abbrev zeros : ℕ
  zeros = (size - length full % size) % size

  module _ (some : 0 < size) (kept_apart : AreApart kept) (numbers_apart : AreApart numbers) (none : has numbers 0 ≡ false) (within : (n : ℕ) → (n ≡ 0 → ⊥) → has kept n ≡ true → has numbers n ≡ true) where
    apart_new : Without new kept
    apart_new m some is = has_absent kept numbers m ∙ ap (λ (b : Bool). not b && has numbers m) is

    apart_full : AreApart full
    apart_full =
        apart_filled kept new kept_apart (apart_filter (λ n. not (has kept n)) numbers numbers_apart) apart_new

    has_full : (n : ℕ) → (n ≡ 0 → ⊥) → has full n ≡ has numbers n
    has_full n some = has_filled kept new n some
        ∙ ap (λ (b : Bool). has kept n || b) (has_absent kept numbers n)
        ∙ joined (has kept n) (has numbers n) (within n some)
      where
        joined : (a b : Bool) → (a ≡ true → b ≡ true) → (a || (not a && b)) ≡ b
        joined true b so = sym (so refl)
        joined false b so = refl

    none_new : has new 0 ≡ false
    none_new = has_absent kept numbers 0 ∙ ap (λ (b : Bool). not (has kept 0) && b) none
        ∙ and_false (not (has kept 0))
      where
        and_false : (b : Bool) → (b && false) ≡ false
        and_false true = refl
        and_false false = refl

    whole : Whole (length full) size (length full + zeros)
    whole = whole_pages (length full) size some

    long : length (padded size full) ≡ length full + zeros
    long = length-append full (replicate zeros 0)
        ∙ ap (λ (k : ℕ). length full + k) (length-replicate zeros 0)

    no_more : length full ≤ max (length kept) (length numbers)
    no_more = elim (full_or_same kept new none_new) [
      | inl same ↦ omega (arith, same)
      | inr all ↦ omega (arith, no_longer full numbers apart_full all (λ n is. sym (has_full n (away n is all)) ∙ is))
    ]
      where
        away : (n : ℕ) → has full n ≡ true → has full 0 ≡ false → n ≡ 0 → ⊥
        away n is all none = false≢true (sym all ∙ ap (has full) (sym none) ∙ is)

    pub settle : AreSlots size (length kept) numbers (padded size full)
    settle = record {
      once = apart_behind size full zeros apart_full;
      same = λ n some. has_padded size full n some ∙ has_full n some;
      pages = whole.pages;
      whole = long ∙ whole.whole;
      no_fewer = omega (arith, long, length-filled kept new);
      few = omega (arith, long, whole.less, no_more);
    }

-- the records
module _ (size : ℕ) (vectors : held.Rows) (numbers : List ℕ) (some : 0 < size) (none : NoneAtZero vectors) (apart : AreApart numbers) where
  abbrev keys : List ℕ
  keys = maps.keys vectors

  abbrev stay : List ℕ
  stay = freed vectors numbers

  none_at : has keys 0 ≡ false
  none_at = has_keys vectors 0 ∙ ap is_some none

  not_zero : (n : ℕ) → has keys n ≡ true → n ≡ 0 → ⊥
  not_zero n is none' = false≢true (sym none_at ∙ ap (has keys) (sym none') ∙ is)

  stays : (n : ℕ) → has keys n ≡ true → has numbers n ≡ has stay n
  stays n is =
      sym (has_kept vectors numbers n (not_zero n is) ∙ ap (λ (b : Bool). has numbers n && b) (sym (has_keys vectors n) ∙ is) ∙ and_true (has numbers n))
    where
      and_true : (b : Bool) → (b && true) ≡ b
      and_true true = refl
      and_true false = refl

  there : (n : ℕ) → (n ≡ 0 → ⊥) → has stay n ≡ true → has keys n ≡ true
  there n some is = has_keys vectors n
      ∙ (and_parts (has numbers n) (maps.contains_key vectors n) (sym (has_kept vectors numbers n some) ∙ is)).1

  pub records_stand : AreSlots size (length numbers) keys (record_slots size vectors numbers)
  records_stand =
      let slots : AreSlots size (length stay) keys (padded size (filled stay (absent stay keys))) =
      settle size stay keys some (apart_kept vectors numbers apart) (apart_rising (maps.entries vectors) (maps.entries_sorted vectors)) none_at there in
      let same : absent stay keys ≡ slotless vectors numbers = sym (absent_same numbers stay keys stays) in
      subst (λ (k : ℕ). AreSlots size k keys (record_slots size vectors numbers)) (length-freed vectors numbers)
      (subst (λ (l : List ℕ). AreSlots size (length stay) keys (padded size (filled stay l))) same slots)

-- pages of one slot are never filled up
pub padded_one : (ns : List ℕ) → padded 1 ns ≡ ns
padded_one ns =
    let none : (1 - length ns % 1) % 1 ≡ 0 = omega (arith, mod_below (1 - length ns % 1) 1 (omega arith)) in
    ap (λ (k : ℕ). ns ++ replicate k 0) none ∙ append-nil ns
