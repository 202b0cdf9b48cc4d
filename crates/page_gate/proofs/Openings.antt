-- What the opening of a file comes to, from its parts, and back.
use Rattle.std.proofs.Common.{◌≡◌, ◌⊎◌, inl, inr, ℕ, ◌+◌, ◌*◌, ◌-◌, ◌/◌, ◌<◌, ◌≤◌, Bool, true, false, ◌&&◌, leb, Option, Some, None, List, [], length, map, get_or, refl, sym, ◌∙◌, ap, arith}
use Rattle.std.proofs.lemmas.List.{ext_get_or}
use Rattle.std.proofs.lemmas.List.FromFn.{length-map-range_with_len, get_or-map-range_with_len}
use Rattle.std.proofs.lemmas.Bool.{and_parts, and_from, leb-true, le-leb, lt-leb, eqb-true, eq-eqb}
use Rattle.std.specs.List.{range_with_len, position}
use Rattle.std.specs.Prelude.{not, ◌==◌}
use Rattle.page_gate.specs.declared.gate.Gate.{Gate}
use Rattle.page_gate.specs.declared.gate.Gate.TheVariants.{Bad, Closed, Open}
use Rattle.page_gate.specs.Gate.{part, number_4, number_8, blank_by, is_signed, first_set, is_open, fits, redo_start, redo_count, gate_of, begun_gate, signed_gate, behind_zeros, redo_gate, items, rises, page_of, count_of, list_of, Opens, counts, listed_by, listed, taken_by, through, opening}
use Rattle.page_gate.specs.Same.{Same}
use Rattle.page_gate.proofs.Gates.{says_closed, says_open_at, long_and}
use Rattle.page_gate.proofs.Parts.{same_part}

-- a gate page behind an open birth gate
pub record Head (c : List ℕ) : Type 0 where
  pub long : 32768 ≤ length c
  pub born : get_or c 0 0 ≡ 1
  pub signed : is_signed c ≡ true
  pub zeros : first_set c ≡ None

-- what an answer of the gate page needs
pub record Passed (b s : Bool) (z : Option ℕ) : Type 0 where
  pub begun : b ≡ false
  pub signed : s ≡ true
  pub zeros : z ≡ None

pub closed_parts : (b s : Bool) (z : Option ℕ) (o f : Bool) (st n : ℕ) → begun_gate b (signed_gate s (behind_zeros z (redo_gate o f st n))) ≡ Closed → Passed b s z × (o ≡ false)
closed_parts true s z o f st n h = absurd (cc h)
closed_parts false false z o f st n h = absurd (cc h)
closed_parts false true (Some i) o f st n h = absurd (cc h)
closed_parts false true None false f st n h = (record { begun = refl; signed = refl; zeros = refl }, refl)
closed_parts false true None true true st n h = absurd (cc h)
closed_parts false true None true false st n h = absurd (cc h)

-- and of an open one
pub record Opened (o f : Bool) (st n start count : ℕ) : Type 0 where
  pub is_open : o ≡ true
  pub good : f ≡ true
  pub start_is : st ≡ start
  pub count_is : n ≡ count

pub open_parts : (b s : Bool) (z : Option ℕ) (o f : Bool) (st n start count : ℕ) → begun_gate b (signed_gate s (behind_zeros z (redo_gate o f st n))) ≡ Open start count → Passed b s z × Opened o f st n start count
open_parts true s z o f st n start count h = absurd (cc h)
open_parts false false z o f st n start count h = absurd (cc h)
open_parts false true (Some i) o f st n start count h = absurd (cc h)
open_parts false true None false f st n start count h = absurd (cc h)
open_parts false true None true true st n start count h = (record { begun = refl; signed = refl; zeros = refl }, record { is_open = refl; good = refl; start_is = cc h; count_is = cc h })
open_parts false true None true false st n start count h = absurd (cc h)

born_of : (c : List ℕ) → is_signed c ≡ true → get_or c 0 0 ≡ 1
unfolding is_signed
born_of c h = let two = and_parts (get_or c 0 0 == 1) _ h in eqb-true (get_or c 0 0) 1 two.0

head_of : (c : List ℕ) (b : Bool) → Passed b (leb 32768 (length c) && is_signed c) (first_set c) → Head c
head_of c b passed =
    let two = and_parts (leb 32768 (length c)) (is_signed c) passed.signed in
    record { long = leb-true 32768 (length c) two.0; born = born_of c two.1; signed = two.1; zeros = passed.zeros }

pub closed_head : (c : List ℕ) → gate_of (length c) c ≡ Closed → Head c × (is_open c ≡ false)
unfolding gate_of
closed_head c h =
    let both = closed_parts (blank_by (length c) (get_or c 0 0)) (leb 32768 (length c) && is_signed c) (first_set c) (is_open c) (fits (length c) (redo_start c) (redo_count c)) (redo_start c) (redo_count c) h in
    (head_of c _ both.0, both.1)

pub open_head : (c : List ℕ) (start count : ℕ) → gate_of (length c) c ≡ Open start count → Head c × Opened (is_open c) (fits (length c) (redo_start c) (redo_count c)) (redo_start c) (redo_count c) start count
unfolding gate_of
open_head c start count h =
    let both = open_parts (blank_by (length c) (get_or c 0 0)) (leb 32768 (length c) && is_signed c) (first_set c) (is_open c) (fits (length c) (redo_start c) (redo_count c)) (redo_start c) (redo_count c) start count h in
    (head_of c _ both.0, both.1)

not_blank : (len gate : ℕ) → 32768 ≤ len → gate ≡ 1 → blank_by len gate ≡ false
not_blank len gate long is =
    let short : leb len 1 ≡ false = lt-leb len 1 (omega (arith, long)) in
    let open_gate : (gate == 1) ≡ true = eq-eqb gate 1 is in
    rw (short, open_gate) (either (leb len 32768))
  where
    either : (b : Bool) → (b && not true) ≡ false
    either true = refl
    either false = refl

pub head_closed : (c : List ℕ) → Head c → is_open c ≡ false → gate_of (length c) c ≡ Closed
head_closed c head shut = says_closed (length c) c (not_blank (length c) _ head.long head.born) (long_and (length c) (is_signed c) true head.long head.signed) head.zeros shut

pub head_open : (c : List ℕ) (start count : ℕ) → Head c → is_open c ≡ true → number_8 8 c ≡ start → number_4 16 c ≡ count → fits (length c) start count ≡ true → gate_of (length c) c ≡ Open start count
head_open c start count head opened start_is count_is good =
    says_open_at (length c) c start count (not_blank (length c) _ head.long head.born) (long_and (length c) (is_signed c) true head.long head.signed) head.zeros opened (sym start_is) (sym count_is) good

pub signed_same : (c d : List ℕ) → get_or d 0 0 ≡ get_or c 0 0 → part 2 6 d ≡ part 2 6 c → is_signed d ≡ is_signed c
unfolding is_signed
signed_same c d gate letters = rw (gate, letters) refl

pub zeros_same : (c d : List ℕ) → part 20 16364 d ≡ part 20 16364 c → first_set d ≡ first_set c
unfolding first_set
zeros_same c d is = ap (position (λ b. not (b == 0))) is

module _ (kept : ℕ → Type 0) (top : ℕ) where
  pub head_same : {c d : List ℕ} → Head c → Same kept top c d → kept 0 → ((i : ℕ) → 2 ≤ i → i < 8 → kept i) → ((i : ℕ) → 20 ≤ i → i < 16384 → kept i) → Head d
  head_same {c} {d} head same gate letters zeros =
      let byte : get_or d 0 0 ≡ get_or c 0 0 = same.stays 0 (omega (arith, head.long)) gate in
      record {
        long = omega (arith, head.long, same.no_shorter);
        born = byte ∙ head.born;
        signed = signed_same c d byte (same_part kept top 2 6 same (omega (arith, head.long)) (λ i ge lt. letters i ge (omega (arith, lt)))) ∙ head.signed;
        zeros = zeros_same c d (same_part kept top 20 16364 same (omega (arith, head.long)) (λ i ge lt. zeros i ge (omega (arith, lt)))) ∙ head.zeros;
      }

  pub open_same : {c d : List ℕ} → Head c → Same kept top c d → kept 1 → is_open d ≡ is_open c
  unfolding is_open
  open_same {c} {d} head same gate = ap (λ (n : ℕ). n == 1) (same.stays 1 (omega (arith, head.long)) gate)

-- a page list that stands in a file, the items standing in place of the pages that they name
pub record Stored (redo : List (ℕ × List ℕ)) (c : List ℕ) (pages : List (List ℕ)) : Type 0 where
  pub count : count_of (page_of redo c 1) ≡ length pages + 1
  pub some : 1 ≤ length pages
  pub room : 16384 * (length pages + 1) ≤ length c
  pub page : (p : ℕ) → p < length pages → page_of redo c (p + 1) ≡ get_or pages p []

listed_parts : (b : Bool) (l pages : List (List ℕ)) → listed_by b l ≡ Opens pages → (b ≡ true) × (l ≡ pages)
listed_parts true l pages h = (refl, cc h)
listed_parts false l pages h = absurd (cc h)

count_parts : (len n : ℕ) → counts len n ≡ true → (2 ≤ n) × (16384 * n ≤ len)
unfolding counts
count_parts len n h = let two = and_parts (leb 2 n) (leb (16384 * n) len) h in (leb-true 2 n two.0, leb-true (16384 * n) len two.1)

count_good : (len n : ℕ) → 2 ≤ n → 16384 * n ≤ len → counts len n ≡ true
unfolding counts
count_good len n some room = and_from (leb 2 n) (leb (16384 * n) len) (le-leb 2 n some) (le-leb (16384 * n) len room)

pub stored_of : (redo : List (ℕ × List ℕ)) (c : List ℕ) (pages : List (List ℕ)) → listed redo c ≡ Opens pages → Stored redo c pages
unfolding listed list_of
stored_of redo c pages h =
    let n : ℕ = count_of (page_of redo c 1) in
    let both = listed_parts (counts (length c) n) (map (page_of redo c) (range_with_len 1 (n - 1))) pages h in
    let good = count_parts (length c) n both.0 in
    let long : length pages ≡ n - 1 = ap length (sym both.1) ∙ length-map-range_with_len (page_of redo c) 1 (n - 1) in
    record {
      count = omega (arith, long, good.0);
      some = omega (arith, long, good.0);
      room = omega (arith, long, good.0, good.1);
      page = λ p lt. sym (ap (λ (l : List (List ℕ)). get_or l p []) (sym both.1) ∙ get_or-map-range_with_len (page_of redo c) 1 (n - 1) p (p + 1) [] (omega (arith, lt, long)) (omega arith));
    }

pub listed_of : (redo : List (ℕ × List ℕ)) (c : List ℕ) (pages : List (List ℕ)) → Stored redo c pages → listed redo c ≡ Opens pages
unfolding listed list_of
listed_of redo c pages stored =
    let n : ℕ = count_of (page_of redo c 1) in
    let good : counts (length c) n ≡ true = count_good (length c) n (omega (arith, stored.count, stored.some)) (omega (arith, stored.count, stored.room)) in
    let long : length (map (page_of redo c) (range_with_len 1 (n - 1))) ≡ length pages = length-map-range_with_len (page_of redo c) 1 (n - 1) ∙ (omega (arith, stored.count)) in
    let is : map (page_of redo c) (range_with_len 1 (n - 1)) ≡ pages =
    ext_get_or [] (map (page_of redo c) (range_with_len 1 (n - 1))) pages long (λ p lt.
    let within : p < length pages = omega (arith, lt, long) in
    get_or-map-range_with_len (page_of redo c) 1 (n - 1) p (p + 1) [] (omega (arith, within, stored.count)) (omega arith) ∙ stored.page p within) in
    rw (good, is) refl

-- an opening behind a closed redo gate
shut_parts : (gate : Gate) (c : List ℕ) (pages : List (List ℕ)) → gate ≡ Closed → through gate c ≡ listed [] c
unfolding through
shut_parts gate c pages is = ap (λ (g : Gate). through g c) is

pub opening_closed : (c : List ℕ) → gate_of (length c) c ≡ Closed → opening c ≡ listed [] c
unfolding opening through
opening_closed c is = ap (λ (g : Gate). through g c) is

pub opening_open : (c : List ℕ) (start count : ℕ) → gate_of (length c) c ≡ Open start count → rises 0 (start / 16384) (items start count c) ≡ true → opening c ≡ listed (items start count c) c
unfolding opening through
opening_open c start count is rising = ap (λ (g : Gate). through g c) is ∙ ap (λ (b : Bool). taken_by b (listed (items start count c) c)) rising

-- a page list of an opening, found again
opens_gate : (gate : Gate) (c : List ℕ) (pages : List (List ℕ)) → through gate c ≡ Opens pages → (gate ≡ Closed) ⊎ ((start : ℕ) × (count : ℕ) × (gate ≡ Open start count))
unfolding through
opens_gate (Bad fault) c pages h = absurd (cc h)
opens_gate Closed c pages h = inl refl
opens_gate (Open start count) c pages h = inr (start, count, refl)

true_false : (b : Bool) → b ≡ true → b ≡ false → ⊥
true_false true a b = cc b
true_false false a b = cc a

-- what stands behind a closed redo gate
pub record Shut (c : List ℕ) (pages : List (List ℕ)) : Type 0 where
  pub head : Head c
  pub shut : is_open c ≡ false
  pub stored : Stored [] c pages

pub shut_of : (c : List ℕ) (pages : List (List ℕ)) → opening c ≡ Opens pages → is_open c ≡ false → Shut c pages
unfolding opening
shut_of c pages opens shut = of_either (opens_gate (gate_of (length c) c) c pages opens)
  where
    of_either : (gate_of (length c) c ≡ Closed) ⊎ ((start : ℕ) × (count : ℕ) × (gate_of (length c) c ≡ Open start count)) → Shut c pages
    of_either (inl closed) = record { head = (closed_head c closed).0; shut = shut; stored = stored_of [] c pages (sym (opening_closed c closed) ∙ opens) }
    of_either (inr (start, count, is)) = absurd (true_false (is_open c) (open_head c start count is).1.is_open shut)

pub shut_opens : (c : List ℕ) (pages : List (List ℕ)) → Shut c pages → opening c ≡ Opens pages
shut_opens c pages is = opening_closed c (head_closed c is.head is.shut) ∙ listed_of [] c pages is.stored
