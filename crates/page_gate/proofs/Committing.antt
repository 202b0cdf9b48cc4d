-- What a crash leaves in each step of a commit.
use Rattle.std.proofs.Common.{◌≡◌, ◌⊎◌, inl, inr, ⊎_elim, ℕ, ◌+◌, ◌*◌, ◌/◌, ◌%◌, ◌<◌, ◌≤◌, true, false, leb, List, [], ◌∷◌, length, get_or, Result, IsTrue, refl, sym, ◌∙◌, ap, subst, arith}
use Rattle.std.specs.Prelude.{Ok, Err, OnOk, IsErr, ◌==◌}
use Rattle.std.proofs.lemmas.Bool.{cases_lt, cases_eq, cases_Bool, cases_order, le-leb, eq-eqb, ne_eqb}
use Rattle.site_disk.specs.State.{SiteState, Safe}
use Rattle.page_gate.specs.Gate.{part, is_open, fits, items, rises, image_of, page_of, count_of, listed, opening, Opens}
use Rattle.page_gate.specs.Writes.{Names, written, new_count, first_page, IsPlan}
use Rattle.page_gate.specs.Same.{Same, IsOutside, IsOnly, Keeps}
use Rattle.page_gate.specs.Steps.{IsOther, IsUnnamed, InPlace, IsSettled, Staged}
use Rattle.page_gate.specs.Promises.{Holds, Commits, IsBehind}
use Rattle.page_gate.proofs.Parts.{same_part, number_4_of, number_8_of}
use Rattle.page_gate.proofs.Lists.{items_same}
use Rattle.page_gate.proofs.Gates.{gate_shut, gate_opened}
use Rattle.page_gate.proofs.Openings.{Head, head_same, open_same, head_open, Stored, listed_of, opening_open, Shut, shut_of, shut_opens}
use Rattle.page_gate.proofs.Moving.{IsQuiet, quiet_on, quiet_from}
use Rattle.page_gate.proofs.Written.{length-rising, named_any, named_above, Built, built}

pub stored_same : (redo : List (ℕ × List ℕ)) (c d : List ℕ) (pages : List (List ℕ)) → Stored redo c pages → length c ≤ length d → ((p : ℕ) → 1 ≤ p → p ≤ length pages → page_of redo d p ≡ page_of redo c p) → Stored redo d pages
stored_same redo c d pages is longer each = record {
  count = ap count_of (each 1 (omega arith) is.some) ∙ is.count;
  some = is.some;
  room = omega (arith, is.room, longer);
  page = λ p lt. each (p + 1) (omega arith) (omega (arith, lt)) ∙ is.page p lt;
}

pub place_of : (c : List ℕ) (p : ℕ) → page_of [] c p ≡ part (16384 * p) 16384 c
unfolding page_of
place_of c p = refl

pub page_by : (redo : List (ℕ × List ℕ)) (c : List ℕ) (p : ℕ) → page_of redo c p ≡ image_of p redo (part (16384 * p) 16384 c)
unfolding page_of
page_by redo c p = refl

pub page_same : (redo : List (ℕ × List ℕ)) (c d : List ℕ) (p : ℕ) → part (16384 * p) 16384 d ≡ part (16384 * p) 16384 c → page_of redo d p ≡ page_of redo c p
unfolding page_of
page_same redo c d p is = ap (image_of p redo) is

pub cases_named : (page : ℕ) (ws : List (ℕ × List ℕ)) → Names page ws ⊎ (Names page ws → ⊥)
cases_named page [] = inr (λ none. none)
cases_named page (w ∷ ws) = elim (cases_eq w.0 page) [
  | inl is ↦ inl (inl is)
  | inr other ↦ elim (cases_named page ws) [
    | inl names ↦ inl (inr names)
    | inr never ↦ inr (λ n. ⊎_elim other never n)
  ]
]

pub in_place_image : (page : ℕ) (ws : List (ℕ × List ℕ)) (c : List ℕ) → InPlace ws c → image_of page ws (part (16384 * page) 16384 c) ≡ part (16384 * page) 16384 c
in_place_image page [] c placed = refl
in_place_image page (w ∷ ws) c placed = elim (cases_eq w.0 page) [
  | inl is ↦ let yes : (w.0 == page) ≡ true = eq-eqb w.0 page is in rw yes (sym placed.0.image_is ∙ ap (λ (p : ℕ). part (16384 * p) 16384 c) is)
  | inr other ↦ let never : (w.0 == page) ≡ false = ne_eqb w.0 page other in rw never (in_place_image page ws c placed.1)
]

first_image : (ws : List (ℕ × List ℕ)) (x : List ℕ) → first_page ws ≡ 1 → count_of (image_of 1 ws x) ≡ new_count ws
first_image [] x first = absurd (omega (arith, first))
first_image (w ∷ ws) x first = let yes : (w.0 == 1) ≡ true = eq-eqb w.0 1 first in rw yes refl

good_fits : (len n count : ℕ) → 2 ≤ n → 1 ≤ count → 16384 * n + 16392 * count ≤ len → fits len (16384 * n) count ≡ true
unfolding fits
good_fits len n count some items_some room =
    let whole : (16384 * n % 16384 == 0) ≡ true = eq-eqb (16384 * n % 16384) 0 (omega arith) in
    let behind : leb 32768 (16384 * n) ≡ true = le-leb 32768 (16384 * n) (omega (arith, some)) in
    let some_items : leb 1 count ≡ true = le-leb 1 count items_some in
    let within : leb (16384 * n + 16392 * count) len ≡ true = le-leb (16384 * n + 16392 * count) len room in
    rw (whole, behind, some_items, within) refl

-- redo items that stand behind a file of pages, and the page list that they make
pub record Laid (n : ℕ) (ws : List (ℕ × List ℕ)) (new : List (List ℕ)) (c : List ℕ) : Type 0 where
  pub head : Head c
  pub staged : Staged (16384 * n) ws c
  pub stored : Stored ws c new

pub laid_opens : (n : ℕ) (ws : List (ℕ × List ℕ)) (new : List (List ℕ)) (c : List ℕ) → 2 ≤ n → 1 ≤ length ws → IsTrue (rises 0 n ws) → Laid n ws new c → is_open c ≡ true → opening c ≡ Opens new
laid_opens n ws new c some items_some rising laid opened =
    let gate = head_open c (16384 * n) (length ws) laid.head opened laid.staged.start_is laid.staged.count_is (good_fits (length c) n (length ws) some items_some laid.staged.room) in
    let back : n ≡ 16384 * n / 16384 = omega arith in
    let limit : rises 0 (16384 * n / 16384) ws ≡ true = subst (λ (k : ℕ). IsTrue (rises 0 k ws)) back rising in
    let listed_new : listed (items (16384 * n) (length ws) c) c ≡ Opens new = ap (λ (l : List (ℕ × List ℕ)). listed l c) laid.staged.list ∙ listed_of ws c new laid.stored in
    let rise : rises 0 (16384 * n / 16384) (items (16384 * n) (length ws) c) ≡ true = ap (λ (l : List (ℕ × List ℕ)). rises 0 (16384 * n / 16384) l) laid.staged.list ∙ limit in
    opening_open c (16384 * n) (length ws) gate rise ∙ listed_new

module _ (kept : ℕ → Type 0) (top : ℕ) where
  pub staged_same : (start : ℕ) (ws : List (ℕ × List ℕ)) {c d : List ℕ} → 20 ≤ length c → Staged start ws c → Same kept top c d → ((i : ℕ) → 8 ≤ i → i < 20 → kept i) → ((i : ℕ) → start ≤ i → kept i) → Staged start ws d
  staged_same start ws {c} {d} long is same fields behind = record {
    start_is = number_8_of 8 d c (same_part kept top 8 8 same (omega (arith, long)) (λ i ge lt. fields i ge (omega (arith, lt)))) ∙ is.start_is;
    count_is = number_4_of 16 d c (same_part kept top 16 4 same (omega (arith, long)) (λ i ge lt. fields i (omega (arith, ge)) lt)) ∙ is.count_is;
    list = items_same start (length ws) c d kept top same (λ some. is.room) (λ i ge lt. behind i ge) ∙ is.list;
    room = omega (arith, is.room, same.no_shorter);
  }

  pub laid_same : (n : ℕ) (ws : List (ℕ × List ℕ)) (new : List (List ℕ)) {c d : List ℕ} → 2 ≤ n → Laid n ws new c → Same kept top c d → kept 0 → ((i : ℕ) → 2 ≤ i → i < 16384 → kept i) → ((i : ℕ) → 16384 * n ≤ i → kept i)
      → ((p : ℕ) → 1 ≤ p → p ≤ length new → page_of ws d p ≡ page_of ws c p) → Laid n ws new d
  laid_same n ws new {c} {d} some laid same gate page_0 behind each = record {
    head = head_same kept top laid.head same gate (λ i ge lt. page_0 i ge (omega (arith, lt))) (λ i ge lt. page_0 i (omega (arith, ge)) lt);
    staged = staged_same (16384 * n) ws (omega (arith, laid.head.long)) laid.staged same (λ i ge lt. page_0 i (omega (arith, ge)) (omega (arith, lt))) behind;
    stored = stored_same ws c d new laid.stored same.no_shorter each;
  }

module _ (old : List (List ℕ)) (ws : List (ℕ × List ℕ)) (plan : IsPlan old ws) where
  abbrev n : ℕ
  n = new_count ws

  abbrev new : List (List ℕ)
  new = written old ws

  whole : Built old ws n
  whole = built old ws 0 n plan.rising plan.whole plan.no_fewer

  some_items : 1 ≤ length ws
  some_items = of ws plan.first
    where
      of : (l : List (ℕ × List ℕ)) → first_page l ≡ 1 → 1 ≤ length l
      of [] first = absurd (omega (arith, first))
      of (w ∷ l) first = omega arith

  -- images of the first step
  pub staged_old : (top : ℕ) {c d : List ℕ} → Shut c old → Same (IsSettled (16384 * n)) top c d → Shut d old
  staged_old top {c} {d} was same = record {
    head = head_same (IsSettled (16384 * n)) top was.head same (inl (omega arith)) (λ i ge lt. inl lt) (λ i ge lt. inr (ge, omega (arith, lt, plan.no_fewer, was.stored.some)));
    shut = open_same (IsSettled (16384 * n)) top was.head same (inl (omega arith)) ∙ was.shut;
    stored = stored_same [] c d old was.stored same.no_shorter (λ p some le. page_same [] c d p (same_part (IsSettled (16384 * n)) top (16384 * p) 16384 same (omega (arith, le, was.stored.room)) (λ i ge lt. inr (omega (arith, ge, some), omega (arith, lt, le, plan.no_fewer)))));
  }

  pub laid_of : {c : List ℕ} → Shut c old → Staged (16384 * n) ws c → Laid n ws new c
  laid_of {c} was staged = record {
    head = was.head;
    staged = staged;
    stored = record {
      count = ap count_of (page_by ws c 1) ∙ first_image ws _ plan.first ∙ sym whole.long;
      some = omega (arith, whole.long, plan.no_fewer, was.stored.some);
      room = omega (arith, whole.long, staged.room);
      page = λ p lt. page_by ws c (p + 1) ∙ at p lt (cases_lt p (length old)) ∙ sym (whole.page p);
    };
  }
    where
      at : (p : ℕ) → p < length new → (p < length old) ⊎ (length old ≤ p) → image_of (p + 1) ws (part (16384 * (p + 1)) 16384 c) ≡ image_of (p + 1) ws (get_or old p [])
      at p lt (inl below) = ap (image_of (p + 1) ws) (sym (place_of c (p + 1)) ∙ was.stored.page p below)
      at p lt (inr above) = named_any (p + 1) ws _ _ (plan.whole (p + 1) (omega (arith, above)) (omega (arith, lt, whole.long)))

  two : (c : List ℕ) → Shut c old → 2 ≤ n
  two c was = omega (arith, plan.no_fewer, was.stored.some)

  pub opens_new : {c : List ℕ} → 2 ≤ n → Laid n ws new c → is_open c ≡ true → opening c ≡ Opens new
  opens_new {c} some laid opened = laid_opens n ws new c some some_items plan.rising laid opened

  -- a change of the gate byte alone
  pub gate_laid : {c d : List ℕ} → 2 ≤ n → Laid n ws new c → Same (IsOther 1) 2 c d → Laid n ws new d
  gate_laid {c} {d} some laid same = laid_same (IsOther 1) 2 n ws new some laid same (inl (omega arith)) (λ i ge lt. inr ge) (λ i ge. inr (omega (arith, ge, some)))
      (λ p ge le. page_same ws c d p (same_part (IsOther 1) 2 (16384 * p) 16384 same (omega (arith, le, laid.stored.room)) (λ i over lt. inr (omega (arith, over, ge)))))

  pub gate_shut_same : (pages : List (List ℕ)) {c d : List ℕ} → Head c → Stored [] c pages → Same (IsOther 1) 2 c d → is_open d ≡ false → Shut d pages
  gate_shut_same pages {c} {d} head stored same shut = record {
    head = head_same (IsOther 1) 2 head same (inl (omega arith)) (λ i ge lt. inr ge) (λ i ge lt. inr (omega (arith, ge)));
    shut = shut;
    stored = stored_same [] c d pages stored same.no_shorter (λ p ge le. page_same [] c d p (same_part (IsOther 1) 2 (16384 * p) 16384 same (omega (arith, le, stored.room)) (λ i over lt. inr (omega (arith, over, ge)))));
  }

  -- images of the second step
  pub opening_gate : {c d : List ℕ} → Shut c old → Laid n ws new c → Same (IsOther 1) 2 c d → (opening d ≡ Opens old) ⊎ (opening d ≡ Opens new)
  opening_gate {c} {d} was laid same = elim (cases_Bool (is_open d)) [
    | inl opened ↦ inr (opens_new (two c was) (gate_laid (two c was) laid same) opened)
    | inr shut ↦ inl (shut_opens d old (gate_shut_same old was.head was.stored same shut))
  ]

  -- images of the third step
  pub places_laid : {c d : List ℕ} → 2 ≤ n → Laid n ws new c → Same (IsUnnamed ws) (16384 * n) c d → Laid n ws new d
  places_laid {c} {d} some laid same = laid_same (IsUnnamed ws) (16384 * n) n ws new some laid same (low 0 (omega arith)) (λ i ge lt. low i lt) high (λ p ge le. page p le (cases_named p ws))
    where
      low : (i : ℕ) → i < 16384 → IsUnnamed ws i
      low i lt page names = let so = named_above page 0 n ws plan.rising names in inl (omega (arith, lt, so.0))

      high : (i : ℕ) → 16384 * n ≤ i → IsUnnamed ws i
      high i ge page names = let so = named_above page 0 n ws plan.rising names in inr (omega (arith, ge, so.1))

      other : (p q i : ℕ) → (q ≡ p → ⊥) → 16384 * p ≤ i → i < 16384 * p + 16384 → IsOutside (16384 * q) 16384 i
      other p q i differs ge lt = elim (cases_order p q) [
        | inl is ↦ absurd (differs (sym is))
        | inr rest ↦ elim rest [ inl below ↦ inl (omega (arith, below, lt)) | inr above ↦ inr (omega (arith, above, ge)) ]
      ]

      page : (p : ℕ) → p ≤ length new → Names p ws ⊎ (Names p ws → ⊥) → page_of ws d p ≡ page_of ws c p
      page p le (inl names) = page_by ws d p ∙ named_any p ws _ _ names ∙ sym (page_by ws c p)
      page p le (inr never) = page_same ws c d p (same_part (IsUnnamed ws) (16384 * n) (16384 * p) 16384 same (omega (arith, le, laid.stored.room))
          (λ i ge lt q names. other p q i (λ is. never (subst (λ (k : ℕ). Names k ws) is names)) ge lt))

  pub open_places : {c d : List ℕ} → Head c → Same (IsUnnamed ws) (16384 * n) c d → is_open d ≡ is_open c
  open_places {c} {d} head same = open_same (IsUnnamed ws) (16384 * n) head same (λ page names. let so = named_above page 0 n ws plan.rising names in inl (omega (arith, so.0)))

  -- all in place
  pub placed_stored : {c : List ℕ} → Laid n ws new c → InPlace ws c → Stored [] c new
  placed_stored {c} laid placed = record {
    count = ap count_of (there 1) ∙ laid.stored.count;
    some = laid.stored.some;
    room = laid.stored.room;
    page = λ p lt. there (p + 1) ∙ laid.stored.page p lt;
  }
    where
      there : (p : ℕ) → page_of [] c p ≡ page_of ws c p
      there p = place_of c p ∙ sym (in_place_image p ws c placed) ∙ sym (page_by ws c p)

  -- images of the fourth step
  pub closing_gate : {c d : List ℕ} → 2 ≤ n → Laid n ws new c → InPlace ws c → Same (IsOther 1) 2 c d → opening d ≡ Opens new
  closing_gate {c} {d} some laid placed same = elim (cases_Bool (is_open d)) [
    | inl opened ↦ opens_new some (gate_laid some laid same) opened
    | inr shut ↦ shut_opens d new (gate_shut_same new laid.head (placed_stored laid placed) same shut)
  ]

  -- the steps one after the other, from a site that holds the old list
  module _ (a : SiteState) (held : Holds old a) where
    abbrev X : List ℕ → Type 0
    X c = (opening c ≡ Opens old) ⊎ (opening c ≡ Opens new)

    shut : Shut a.content old
    shut = shut_of a.content old held.list held.shut

    pub some_pages : 2 ≤ n
    some_pages = two a.content shut

    pub after_stage : {E : Type 0} (start top : ℕ) → start ≡ 16384 * n → {r : Result Unit E} {b : SiteState} → Keeps (IsSettled start) top (Staged start ws) r a b → Safe a b (IsQuiet a X)
    after_stage {E} start top is {r} {b} keeps = quiet_from X (IsSettled start) top keeps.puts.safe (λ d i left same. inl (shut_opens i old (staged_old top shut
        (subst (λ (l : List ℕ). Same (IsSettled (16384 * n)) top l i) (held.only d left) (subst (λ (k : ℕ). Same (IsSettled k) top d i) is same)))))

    pub record AtStage (b : SiteState) : Type 0 where
      pub safe : Safe a b (IsQuiet a X)
      pub said : b.said ≡ a.said
      pub only : IsOnly b
      pub was : Shut b.content old
      pub laid : Laid n ws new b.content

    pub stage_done : {E : Type 0} (start top : ℕ) → start ≡ 16384 * n → {b : SiteState} → Keeps {E = E} (IsSettled start) top (Staged start ws) (Ok tt) a b → AtStage b
    stage_done {E} start top is {b} keeps =
        let was : Shut b.content old = staged_old top shut (subst (λ (k : ℕ). Same (IsSettled k) top a.content b.content) is keeps.puts.same) in
        record {
          safe = after_stage start top is keeps;
          said = keeps.puts.said;
          only = keeps.only;
          was = was;
          laid = laid_of was (subst (λ (k : ℕ). Staged k ws b.content) is keeps.puts.done);
        }

    pub after_open : {E : Type 0} (Done : List ℕ → Type 0) {r : Result Unit E} {b c : SiteState} → AtStage b → Keeps (IsOther 1) 2 Done r b c → Safe a c (IsQuiet a X)
    after_open {E} Done {r} {b} {c} here keeps = quiet_on X (IsOther 1) 2 here.safe here.said keeps.puts.safe (λ d i left x same. opening_gate here.was here.laid (subst (λ (l : List ℕ). Same (IsOther 1) 2 l i) (here.only d left) same))

    pub record AtOpen (b : SiteState) : Type 0 where
      pub safe : Safe a b (IsQuiet a X)
      pub said : b.said ≡ a.said
      pub only : IsOnly b
      pub laid : Laid n ws new b.content
      pub opened : is_open b.content ≡ true

    pub open_done : {E : Type 0} {b c : SiteState} → AtStage b → Keeps {E = E} (IsOther 1) 2 (λ i. get_or i 1 0 ≡ 1) (Ok tt) b c → AtOpen c
    open_done {E} {b} {c} here keeps = record {
      safe = after_open (λ i. get_or i 1 0 ≡ 1) here keeps;
      said = keeps.puts.said ∙ here.said;
      only = keeps.only;
      laid = gate_laid some_pages here.laid keeps.puts.same;
      opened = gate_opened c.content keeps.puts.done;
    }

    pub after_settle : {E : Type 0} (Done : List ℕ → Type 0) {r : Result Unit E} {b c : SiteState} → AtOpen b → Keeps (IsUnnamed ws) (16384 * n) Done r b c → Safe a c (IsQuiet a X)
    after_settle {E} Done {r} {b} {c} here keeps = quiet_on X (IsUnnamed ws) (16384 * n) here.safe here.said keeps.puts.safe (λ d i left x same. inr (settled i (subst (λ (l : List ℕ). Same (IsUnnamed ws) (16384 * n) l i) (here.only d left) same)))
      where
        settled : (i : List ℕ) → Same (IsUnnamed ws) (16384 * n) b.content i → opening i ≡ Opens new
        settled i same = opens_new some_pages (places_laid some_pages here.laid same) (open_places here.laid.head same ∙ here.opened)

    pub record AtPlaces (b : SiteState) : Type 0 where
      pub safe : Safe a b (IsQuiet a X)
      pub said : b.said ≡ a.said
      pub only : IsOnly b
      pub laid : Laid n ws new b.content
      pub placed : InPlace ws b.content

    pub settle_done : {E : Type 0} {b c : SiteState} → AtOpen b → Keeps {E = E} (IsUnnamed ws) (16384 * n) (InPlace ws) (Ok tt) b c → AtPlaces c
    settle_done {E} {b} {c} here keeps = record {
      safe = after_settle (InPlace ws) here keeps;
      said = keeps.puts.said ∙ here.said;
      only = keeps.only;
      laid = places_laid some_pages here.laid keeps.puts.same;
      placed = keeps.puts.done;
    }

    pub committed : {E : Type 0} {r : Result Unit E} {b c : SiteState} → AtPlaces b → Keeps (IsOther 1) 2 (λ i. get_or i 1 0 ≡ 0) r b c → Commits old new r a c
    committed {E} {r} {b} {c} here keeps = record {
      safe = quiet_on X (IsOther 1) 2 here.safe here.said keeps.puts.safe (λ d i left x same. inr (closing_gate some_pages here.laid here.placed (subst (λ (l : List ℕ). Same (IsOther 1) 2 l i) (here.only d left) same)));
      said = keeps.puts.said ∙ here.said;
      holds = held_new r keeps.only keeps.puts.same keeps.puts.done;
    }
      where
        closed : IsOnly c → Same (IsOther 1) 2 b.content c.content → get_or c.content 1 0 ≡ 0 → Holds new c
        closed only same zero = record {
          only = only;
          list = closing_gate some_pages here.laid here.placed same;
          shut = gate_shut c.content (λ is. absurd (omega (arith, is, zero)));
        }

        held_new : (r : Result Unit E) → OnOk r (IsOnly c) → OnOk r (Same (IsOther 1) 2 b.content c.content) → OnOk r (get_or c.content 1 0 ≡ 0) → OnOk r (Holds new c)
        held_new (Ok x) only same zero = closed only same zero
        held_new (Err e) only same zero = tt

    -- what stands behind the last step
    pub behind : {E : Type 0} {r : Result Unit E} {b c : SiteState} → AtPlaces b → Keeps (IsOther 1) 2 (λ i. get_or i 1 0 ≡ 0) r b c → OnOk r (IsBehind ws c.content)
    behind {E} {r} {b} {c} here keeps = of r keeps.puts.same keeps.puts.done
      where
        of : (r : Result Unit E) → OnOk r (Same (IsOther 1) 2 b.content c.content) → OnOk r (get_or c.content 1 0 ≡ 0) → OnOk r (IsBehind ws c.content)
        of (Ok x) same zero = record { gate = zero; redo = (gate_laid some_pages here.laid same).staged }
        of (Err e) same zero = tt

    pub gave_up : {E : Type 0} (r : Result Unit E) {b : SiteState} → IsErr r → Safe a b (IsQuiet a X) → b.said ≡ a.said → Commits old new r a b
    gave_up (Ok x) {b} fails safe said = absurd (cc fails)
    gave_up (Err e) {b} fails safe said = record { safe = safe; said = said; holds = tt }

  pub few : length ws < n
  few = omega (arith, length-rising 0 n ws plan.rising (omega (arith, plan.no_fewer)))
