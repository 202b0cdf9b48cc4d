-- What the opening of a file comes to while its redo items are taken in.
use Rattle.std.proofs.Common.{◌≡◌, ◌⊎◌, inl, inr, ℕ, ◌+◌, ◌*◌, ◌/◌, ◌%◌, ◌<◌, ◌≤◌, Bool, true, false, ◌&&◌, leb, List, [], length, get_or, Result, IsTrue, sym, ◌∙◌, ap, subst, arith}
use Rattle.std.specs.Prelude.{Ok, Err, OnOk, IsErr, ◌==◌}
use Rattle.std.proofs.lemmas.Bool.{cases_Bool, cases_order, and_parts, leb-true}
use Rattle.site_disk.specs.State.{SiteState, Safe}
use Rattle.site_disk.specs.Calls.{Syncs}
use Rattle.page_gate.specs.declared.gate.Gate.TheVariants.{Open}
use Rattle.page_gate.specs.Gate.{number_4, number_8, is_open, fits, redo_start, redo_count, gate_of, items, rises, page_of, count_of, list_of, counts, listed_by, listed, opening, Opens}
use Rattle.page_gate.specs.Writes.{Names}
use Rattle.page_gate.specs.Same.{Same, IsOutside, IsOnly, Puts, Keeps}
use Rattle.page_gate.specs.Steps.{IsOther, IsUnnamed, InPlace}
use Rattle.page_gate.specs.Looks.{IsReady, Settled, Settles}
use Rattle.page_gate.proofs.Parts.{same_part, number_4_of, number_8_of}
use Rattle.page_gate.proofs.Gates.{gate_shut}
use Rattle.page_gate.proofs.Lists.{items_same}
use Rattle.page_gate.proofs.Moving.{IsQuiet, quiet_on, quiet_from, keeps}
use Rattle.page_gate.proofs.Openings.{Head, Opened, open_head, head_same, open_same, head_open, head_closed, Stored, stored_of, listed_of, opening_open, opening_closed}
use Rattle.page_gate.proofs.Written.{named_any, named_above}
use Rattle.page_gate.proofs.Committing.{place_of, page_by, page_same, cases_named, in_place_image}
use Rattle.page_gate.proofs.Taking.{behind}

pub fits_parts : (len start count : ℕ) → fits len start count ≡ true → (32768 ≤ start) × (start + 16392 * count ≤ len)
unfolding fits
fits_parts len start count h =
    let two = and_parts ((start % 16384 == 0) && leb 32768 start) (leb 1 count && leb (start + 16392 * count) len) h in
    let front = and_parts (start % 16384 == 0) (leb 32768 start) two.0 in
    let back = and_parts (leb 1 count) (leb (start + 16392 * count) len) two.1 in
    (leb-true 32768 start front.1, leb-true (start + 16392 * count) len back.1)

list_by : (redo : List (ℕ × List ℕ)) (c : List ℕ) (b : Bool) → counts (length c) (count_of (page_of redo c 1)) ≡ b → listed redo c ≡ listed_by b (list_of redo c)
unfolding listed
list_by redo c b is = ap (λ (x : Bool). listed_by x (list_of redo c)) is

-- page lists are the same where the pages within the file are
pub listed_same : (redo other : List (ℕ × List ℕ)) (c d : List ℕ) → 32768 ≤ length c → length d ≡ length c → ((p : ℕ) → 1 ≤ p → 16384 * p + 16384 ≤ length c → page_of other d p ≡ page_of redo c p) → listed other d ≡ listed redo c
listed_same redo other c d long len each =
    let count : count_of (page_of other d 1) ≡ count_of (page_of redo c 1) = ap count_of (each 1 (omega arith) (omega (arith, long))) in
    let test : counts (length d) (count_of (page_of other d 1)) ≡ counts (length c) (count_of (page_of redo c 1)) = ap (λ (n : ℕ). counts n (count_of (page_of other d 1))) len ∙ ap (counts (length c)) count in
    of test (cases_Bool (counts (length c) (count_of (page_of redo c 1))))
  where
    of : counts (length d) (count_of (page_of other d 1)) ≡ counts (length c) (count_of (page_of redo c 1)) → (counts (length c) (count_of (page_of redo c 1)) ≡ true) ⊎ (counts (length c) (count_of (page_of redo c 1)) ≡ false) → listed other d ≡ listed redo c
    of test (inl good) =
        let is : listed redo c ≡ Opens (list_of redo c) = list_by redo c true good in
        let stored : Stored redo c (list_of redo c) = stored_of redo c (list_of redo c) is in
        let again : Stored other d (list_of redo c) = record {
          count = ap count_of (each 1 (omega arith) (omega (arith, long))) ∙ stored.count;
          some = stored.some;
          room = omega (arith, stored.room, len);
          page = λ p lt. each (p + 1) (omega arith) (omega (arith, lt, stored.room)) ∙ stored.page p lt;
        } in
        listed_of other d (list_of redo c) again ∙ sym is
    of test (inr bad) = list_by other d false (test ∙ bad) ∙ sym (list_by redo c false bad)

-- a file with an open redo gate whose items are good
module _ (start count : ℕ) (c0 : List ℕ) (gate : gate_of (length c0) c0 ≡ Open start count) (rising : IsTrue (rises 0 (start / 16384) (items start count c0))) where
  abbrev its : List (ℕ × List ℕ)
  its = items start count c0

  head : Head c0
  head = (open_head c0 start count gate).0

  opened : Opened (is_open c0) (fits (length c0) (redo_start c0) (redo_count c0)) (redo_start c0) (redo_count c0) start count
  opened = (open_head c0 start count gate).1

  start_of : number_8 8 c0 ≡ start
  unfolding redo_start
  start_of = opened.start_is

  count_is : number_4 16 c0 ≡ count
  unfolding redo_count
  count_is = opened.count_is

  good : fits (length c0) start count ≡ true
  good = subst (λ (n : ℕ). fits (length c0) start n ≡ true) opened.count_is (subst (λ (s : ℕ). fits (length c0) s (redo_count c0) ≡ true) opened.start_is opened.good)

  pub ready : IsReady start count c0
  ready = record { rising = rising; room = (fits_parts (length c0) start count good).1 }

  high_start : 32768 ≤ start
  high_start = (fits_parts (length c0) start count good).0

  pub opens_by : opening c0 ≡ listed its c0
  opens_by = opening_open c0 start count gate rising

  low : (i : ℕ) → i < 16384 → IsUnnamed its i
  low i lt page names = let so = named_above page 0 (start / 16384) its rising names in inl (omega (arith, lt, so.0))

  -- a file like it
  pub record Alike (d : List ℕ) : Type 0 where
    pub head_d : Head d
    pub long : length d ≡ length c0
    pub start_d : number_8 8 d ≡ start
    pub count_d : number_4 16 d ≡ count
    pub items_d : items start count d ≡ items start count c0
    pub pages_d : (p : ℕ) → 1 ≤ p → 16384 * p + 16384 ≤ length c0 → page_of (items start count c0) d p ≡ page_of (items start count c0) c0 p

  alike_open : {d : List ℕ} → Alike d → is_open d ≡ true → opening d ≡ opening c0
  alike_open {d} is open_d =
      let gate_d : gate_of (length d) d ≡ Open start count = head_open d start count is.head_d open_d is.start_d is.count_d (ap (λ (n : ℕ). fits n start count) is.long ∙ good) in
      let rising_d : rises 0 (start / 16384) (items start count d) ≡ true = ap (rises 0 (start / 16384)) is.items_d ∙ rising in
      opening_open d start count gate_d rising_d ∙ ap (λ (l : List (ℕ × List ℕ)). listed l d) is.items_d
      ∙ listed_same its its c0 d head.long is.long is.pages_d ∙ sym opens_by

  pub alike_places : {d : List ℕ} → Same (IsUnnamed its) start c0 d → Alike d
  alike_places {d} same = record {
    head_d = head_same (IsUnnamed its) start head same (low 0 (omega arith)) (λ i ge lt. low i (omega (arith, lt))) (λ i ge lt. low i lt);
    long = omega (arith, same.no_shorter, same.no_longer, ready.room);
    start_d = number_8_of 8 d c0 (same_part (IsUnnamed its) start 8 8 same (omega (arith, head.long)) (λ i ge lt. low i (omega (arith, lt)))) ∙ start_of;
    count_d = number_4_of 16 d c0 (same_part (IsUnnamed its) start 16 4 same (omega (arith, head.long)) (λ i ge lt. low i (omega (arith, lt)))) ∙ count_is;
    items_d = items_same start count c0 d (IsUnnamed its) start same (λ some. ready.room) (λ i ge lt. behind start count c0 ready i ge);
    pages_d = λ p some room. page p room (cases_named p its);
  }
    where
      other : (p q i : ℕ) → (q ≡ p → ⊥) → 16384 * p ≤ i → i < 16384 * p + 16384 → IsOutside (16384 * q) 16384 i
      other p q i differs ge lt = elim (cases_order p q) [
        | inl is ↦ absurd (differs (sym is))
        | inr rest ↦ elim rest [ inl below ↦ inl (omega (arith, below, lt)) | inr above ↦ inr (omega (arith, above, ge)) ]
      ]

      page : (p : ℕ) → 16384 * p + 16384 ≤ length c0 → Names p its ⊎ (Names p its → ⊥) → page_of its d p ≡ page_of its c0 p
      page p room (inl names) = page_by its d p ∙ named_any p its _ _ names ∙ sym (page_by its c0 p)
      page p room (inr never) = page_same its c0 d p (same_part (IsUnnamed its) start (16384 * p) 16384 same room
          (λ i ge lt q names. other p q i (λ is. never (subst (λ (k : ℕ). Names k its) is names)) ge lt))

  open_places : {d : List ℕ} → Same (IsUnnamed its) start c0 d → is_open d ≡ true
  open_places {d} same = open_same (IsUnnamed its) start head same (low 1 (omega arith)) ∙ opened.is_open

  -- images while the items are taken in
  pub places_open : {d : List ℕ} → Same (IsUnnamed its) start c0 d → opening d ≡ opening c0
  places_open same = alike_open (alike_places same) (open_places same)

  alike_gate : {c d : List ℕ} → Alike c → Same (IsOther 1) 2 c d → Alike d
  alike_gate {c} {d} is same = record {
    head_d = head_same (IsOther 1) 2 is.head_d same (inl (omega arith)) (λ i ge lt. inr ge) (λ i ge lt. inr (omega (arith, ge)));
    long = omega (arith, same.no_shorter, same.no_longer, is.long, head.long);
    start_d = number_8_of 8 d c (same_part (IsOther 1) 2 8 8 same (omega (arith, is.head_d.long)) (λ i ge lt. inr (omega (arith, ge)))) ∙ is.start_d;
    count_d = number_4_of 16 d c (same_part (IsOther 1) 2 16 4 same (omega (arith, is.head_d.long)) (λ i ge lt. inr (omega (arith, ge)))) ∙ is.count_d;
    items_d = items_same start count c d (IsOther 1) 2 same (λ some. omega (arith, ready.room, is.long)) (λ i ge lt. inr (omega (arith, ge, high_start))) ∙ is.items_d;
    pages_d = λ p some room. page_same its c d p (same_part (IsOther 1) 2 (16384 * p) 16384 same (omega (arith, room, is.long)) (λ i ge lt. inr (omega (arith, ge, some)))) ∙ is.pages_d p some room;
  }

  -- all images in their places, and then the gate byte changes
  pub placed_list : {c d : List ℕ} → Alike c → InPlace its c → Same (IsOther 1) 2 c d → listed [] d ≡ opening c0
  placed_list {c} {d} is placed same =
      let long_d = (alike_gate is same).long in
      listed_same its [] c0 d head.long long_d (λ p some room.
      place_of d p ∙ same_part (IsOther 1) 2 (16384 * p) 16384 same (omega (arith, room, is.long)) (λ i ge lt. inr (omega (arith, ge, some)))
      ∙ sym (in_place_image p its c placed) ∙ sym (page_by its c p) ∙ is.pages_d p some room)
      ∙ sym opens_by

  pub closing : {c d : List ℕ} → Alike c → InPlace its c → Same (IsOther 1) 2 c d → opening d ≡ opening c0
  closing {c} {d} is placed same = elim (cases_Bool (is_open d)) [
    | inl open_d ↦ alike_open (alike_gate is same) open_d
    | inr shut ↦ opening_closed d (head_closed d (alike_gate is same).head_d shut) ∙ placed_list is placed same
  ]

  -- the steps one after the other
  module _ (a : SiteState) (content : a.content ≡ c0) (only : IsOnly a) where
    abbrev X : List ℕ → Type 0
    X c = opening c ≡ opening c0

    pub after_places : {E : Type 0} (Done : List ℕ → Type 0) {r : Result Unit E} {b : SiteState} → Puts (IsUnnamed its) start Done r a b → Safe a b (IsQuiet a X)
    after_places {E} Done {r} {b} puts = quiet_from X (IsUnnamed its) start puts.safe (λ d i left same. places_open (subst (λ (l : List ℕ). Same (IsUnnamed its) start l i) (only d left ∙ content) same))

    pub settled : {E : Type 0} {r : Result Unit E} {b c d : SiteState} → Puts {E = E} (IsUnnamed its) start (InPlace its) (Ok tt) a b → Syncs {E = E} (Ok tt) b c → Keeps (IsOther 1) 2 (λ i. get_or i 1 0 ≡ 0) r c d → Settles (opening c0) (length c0) r a d
    settled {E} {r} {b} {c} {d} puts sync turn =
        let kept : Keeps {E = E} (IsUnnamed its) start (InPlace its) (Ok tt) a c = keeps (IsUnnamed its) start (InPlace its) puts sync in
        let alike : Alike c.content = alike_places (subst (λ (l : List ℕ). Same (IsUnnamed its) start l c.content) content kept.puts.same) in
        record {
          safe = quiet_on X (IsOther 1) 2 (after_places (InPlace its) kept.puts) kept.puts.said turn.puts.safe (λ i j left x same. closing alike kept.puts.done (subst (λ (l : List ℕ). Same (IsOther 1) 2 l j) (kept.only i left) same));
          said = turn.puts.said ∙ kept.puts.said;
          only = turn.only;
          done = of alike kept.puts.done r turn.puts.same turn.puts.done;
          zero = turn.puts.done;
        }
      where
        closed : Alike c.content → InPlace its c.content → Same (IsOther 1) 2 c.content d.content → get_or d.content 1 0 ≡ 0 → Settled (opening c0) (length c0) d.content
        closed alike placed same zero = record {
          list = placed_list alike placed same;
          opens = closing alike placed same;
          shut = gate_shut d.content (λ is. absurd (omega (arith, is, zero)));
          long = (alike_gate alike same).head_d.long;
          len = (alike_gate alike same).long;
        }

        of : Alike c.content → InPlace its c.content → (r : Result Unit E) → OnOk r (Same (IsOther 1) 2 c.content d.content) → OnOk r (get_or d.content 1 0 ≡ 0) → OnOk r (Settled (opening c0) (length c0) d.content)
        of alike placed (Ok x) same zero = closed alike placed same zero
        of alike placed (Err e) same zero = tt

    pub settle_broke : {E : Type 0} (Done : List ℕ → Type 0) {q : Result Unit E} (r : Result Unit E) {b : SiteState} → IsErr r → Puts (IsUnnamed its) start Done q a b → Settles (opening c0) (length c0) r a b
    settle_broke Done (Ok x) {b} fails puts = absurd (cc fails)
    settle_broke Done (Err e) {b} fails puts = record { safe = after_places Done puts; said = puts.said; only = tt; done = tt; zero = tt }
