-- What a crash leaves in each step of a birth.
use Rattle.std.proofs.Common.{◌≡◌, ◌⊎◌, inl, inr, ⊎_elim, ℕ, zero, suc, ◌+◌, ◌-◌, ◌<◌, ◌≤◌, max, Bool, true, false, ◌&&◌, ◌||◌, leb, ltb, List, [], ◌∷◌, length, get_or, Result, None, refl, sym, ◌∙◌, ap, subst, arith}
use Rattle.std.specs.Prelude.{Ok, Err, OnOk, IsErr, ◌==◌, not}
use Rattle.std.specs.List.{position_or_len}
use Rattle.std.proofs.lemmas.Bool.{cases_lt, cases_eq, or_cases, and_parts, leb-true, le-leb, ne_eqb, eqb-false, not-true, le-ltb}
use Rattle.std.proofs.lemmas.List.{get_or_past, ext_get_or}
use Rattle.site_disk.specs.Disk.{put}
use Rattle.site_disk.specs.Puts.{put_inside}
use Rattle.site_disk.specs.State.{SiteState, IsNow, Safe}
use Rattle.site_disk.specs.Calls.{Writes, Syncs, Stays}
use Rattle.site_disk.proofs.Moments.{start, after_stay, after_sync, goes_on}
use Rattle.page_gate.specs.Gate.{part, is_blank, is_signed, first_set, letters, count_of, opening, Opens, page_of}
use Rattle.page_gate.specs.Same.{Same, IsOutside, IsOnly, Puts, Keeps, Leaves}
use Rattle.page_gate.specs.Steps.{IsOther}
use Rattle.page_gate.specs.Births.{IsBlank, Bare, Begins, IsZero, Newborn, IsGate, gate_head}
use Rattle.page_gate.specs.Promises.{Holds, IsUnborn, Bears}
use Rattle.page_gate.proofs.Parts.{part_at, length-part, same_part, put_long, put_same}
use Rattle.page_gate.proofs.Gates.{gate_shut}
use Rattle.page_gate.proofs.Moving.{IsQuiet, quiet_on, quiet_from, quiet_weaker, write_puts, puts_weaker, on_ok_map}
use Rattle.page_gate.proofs.Openings.{Shut, shut_opens}
use Rattle.page_gate.proofs.Committing.{place_of}

or_right : (x y : Bool) → y ≡ true → (x || y) ≡ true
or_right true y is = refl
or_right false y is = is

pub short_blank : (c : List ℕ) → length c ≤ 1 → IsBlank c
unfolding is_blank
short_blank c short = let is : leb (length c) 1 ≡ true = le-leb (length c) 1 short in rw is refl

pub bare_blank : (c : List ℕ) → length c ≤ 32768 → (get_or c 0 0 ≡ 1 → ⊥) → IsBlank c
unfolding is_blank
bare_blank c long shut =
    let is : leb (length c) 32768 ≡ true = le-leb (length c) 32768 long in
    let gate : (get_or c 0 0 == 1) ≡ false = ne_eqb (get_or c 0 0) 1 shut in
    or_right (leb (length c) 1) (leb (length c) 32768 && not (get_or c 0 0 == 1)) (rw (is, gate) refl)

blank_parts : (c : List ℕ) → IsBlank c → (length c ≤ 1) ⊎ ((length c ≤ 32768) × (get_or c 0 0 ≡ 1 → ⊥))
unfolding is_blank
blank_parts c blank = ⊎_elim
    (λ short. inl (leb-true (length c) 1 short))
    (λ rest. let two = and_parts (leb (length c) 32768) (not (get_or c 0 0 == 1)) rest in inr (leb-true (length c) 32768 two.0, eqb-false (get_or c 0 0) 1 (not-true (get_or c 0 0 == 1) two.1)))
    (or_cases (leb (length c) 1) (leb (length c) 32768 && not (get_or c 0 0 == 1)) blank)

-- the first step, where the file has at most one byte, and where it has more
module _ (a : SiteState) (now : IsNow a) (unborn : IsUnborn a) where
  pub clear_written : {E : Type 0} {r : Result Unit E} {b : SiteState} → length a.content ≤ 1 → Writes 0 (0 ∷ []) r a b → Leaves IsBlank Bare r a b
  clear_written {E} {r} {b} short write =
      let puts = write_puts 0 (0 ∷ []) now write in
      record {
        safe = quiet_from IsBlank (IsOutside 0 1) 1 puts.safe (λ d i left same. short_blank i (omega (arith, same.no_longer, short, ap length (unborn.only d left))));
        said = puts.said;
        done = on_ok_map r bare puts.done;
      }
    where
      bare : b.content ≡ put 0 (0 ∷ []) a.content → Bare b.content
      bare is = record {
        gate = λ one. absurd (omega (arith, one, ap (λ (l : List ℕ). get_or l 0 0) is, put_inside 0 0 [] a.content 0 (omega arith)));
        some = omega (arith, ap length is, put_long 0 (0 ∷ []) a.content (omega arith));
        long = omega (arith, ap length is, short, long_put);
      }
        where
          long_put : length (put 0 (0 ∷ []) a.content) ≤ max (length a.content) 1
          long_put = (put_same 0 (0 ∷ []) a.content).no_longer

  pub clear_nothing : {E : Type 0} → 1 < length a.content → Leaves {E = E} IsBlank Bare (Ok tt) a a
  clear_nothing {E} long = record {
    safe = start now (λ c left. (refl, subst IsBlank (sym (unborn.only c left)) unborn.blank));
    said = refl;
    done = of (blank_parts a.content unborn.blank);
  }
    where
      of : (length a.content ≤ 1) ⊎ ((length a.content ≤ 32768) × (get_or a.content 0 0 ≡ 1 → ⊥)) → Bare a.content
      of (inl short) = absurd (omega (arith, short, long))
      of (inr rest) = record { gate = rest.1; some = omega (arith, long); long = rest.0 }

pub unborn_stays : {a b : SiteState} → IsUnborn a → Stays a b → IsUnborn b
unborn_stays {a} {b} unborn stays = record {
  only = λ c left. unborn.only c ((stays.images c).0 left) ∙ sym stays.content;
  blank = ap is_blank stays.content ∙ unborn.blank;
}

-- a look before a step, and the sync behind it
pub leaves_look : {E : Type 0} (X Done : List ℕ → Type 0) {r : Result Unit E} {a b c : SiteState} → IsNow a → ((i : List ℕ) → a.may_leave i → X i) → Stays a b → Leaves X Done r b c → Leaves X Done r a c
leaves_look {E} X Done {r} {a} {b} {c} now each stays leaves = record {
  safe = goes_on (after_stay so_far stays) leaves.safe.joins (λ s i since. let at = leaves.safe.each s i since in (at.0 ∙ stays.said, at.1)) (λ i left. let at = leaves.safe.now i left in (at.0 ∙ stays.said, at.1));
  said = leaves.said ∙ stays.said;
  done = leaves.done;
}
  where
    so_far : Safe a a (IsQuiet a X)
    so_far = start now (λ i left. (refl, each i left))

pub leaves_looked : {E : Type 0} (X Done : List ℕ → Type 0) {a b : SiteState} (r : Result Unit E) → IsErr r → IsNow a → ((i : List ℕ) → a.may_leave i → X i) → Stays a b → Leaves X Done r a b
leaves_looked X Done {a} {b} (Ok x) fails now each stays = absurd (cc fails)
leaves_looked X Done {a} {b} (Err e) fails now each stays = record { safe = after_stay (start now (λ i left. (refl, each i left))) stays; said = stays.said; done = tt }

pub leaves_sync : {E : Type 0} (X Done : List ℕ → Type 0) {r : Result Unit E} {a b c : SiteState} → Leaves {E = E} X Done (Ok tt) a b → Syncs r b c → Leaves X Done r a c
leaves_sync {E} X Done {r} {a} {b} {c} leaves sync = record {
  safe = after_sync leaves.safe sync;
  said = sync.said ∙ leaves.said;
  done = on_ok_map r (λ is. subst Done (sym is) leaves.done) sync.content;
}

pub leaves_broke : {E : Type 0} (X Done : List ℕ → Type 0) {a b : SiteState} {r : Result Unit E} (result : Result Unit E) → IsErr result → Leaves X Done r a b → Leaves X Done result a b
leaves_broke X Done {a} {b} {r} (Ok x) fails leaves = absurd (cc fails)
leaves_broke X Done {a} {b} {r} (Err e) fails leaves = record { safe = leaves.safe; said = leaves.said; done = tt }

-- the second step
pub head_put : {E : Type 0} {r : Result Unit E} {a b : SiteState} → IsNow a → Writes 1 (0 ∷ letters) r a b → Puts IsGate 8 (Begins 8) r a b
head_put {E} {r} {a} {b} now write =
    puts_weaker IsGate 8 (IsOutside 1 7) 8 (λ c. c ≡ put 1 (0 ∷ letters) a.content) (Begins 8) (write_puts 1 (0 ∷ letters) now write) (λ i lt. inl lt) (omega arith)
    (λ is. subst (Begins 8) (sym is) (record { each = at; room = put_long 1 (0 ∷ letters) a.content (omega arith) }))
  where
    at : (i : ℕ) → 1 ≤ i → i < 8 → get_or (put 1 (0 ∷ letters) a.content) i 0 ≡ get_or gate_head i 0
    at zero some lt = absurd (omega (arith, some))
    at (suc i) some lt =
        let one : 1 + i ≡ suc i = omega arith in
        ap (λ (k : ℕ). get_or (put 1 (0 ∷ letters) a.content) k 0) (sym one) ∙ put_inside 1 0 letters a.content i (omega (arith, lt))

pub zeros_put : {E : Type 0} (at : ℕ) (zeros : List ℕ) → length zeros ≡ 712 → ((i : ℕ) → get_or zeros i 0 ≡ 0) → {r : Result Unit E} {a b : SiteState} → IsNow a → Writes at zeros r a b → Puts (IsOutside at 712) (at + 712) (IsZero at 712) r a b
zeros_put at [] len all {r} {a} {b} now write = absurd (omega (arith, len))
zeros_put {E} at (z ∷ more) len all {r} {a} {b} now write =
    puts_weaker (IsOutside at 712) (at + 712) (IsOutside at (length (z ∷ more))) (at + length (z ∷ more)) (λ c. c ≡ put at (z ∷ more) a.content) (IsZero at 712) (write_puts at (z ∷ more) now write)
    (λ i out. ⊎_elim (λ below. inl below) (λ above. inr (omega (arith, above, len))) out) (omega (arith, len))
    (λ is. subst (IsZero at 712) (sym is) (record { each = each; room = omega (arith, put_long at (z ∷ more) a.content (omega arith), len) }))
  where
    each : (i : ℕ) → at ≤ i → i < at + 712 → get_or (put at (z ∷ more) a.content) i 0 ≡ 0
    each i ge lt =
        let there : at + (i - at) ≡ i = omega (arith, ge) in
        ap (λ (k : ℕ). get_or (put at (z ∷ more) a.content) k 0) (sym there) ∙ put_inside at z more a.content (i - at) (omega (arith, lt, len, ge)) ∙ all (i - at)

past_head : (i : ℕ) → 8 ≤ i → get_or gate_head i 0 ≡ 0
past_head i ge = get_or_past gate_head i 0 ge

pub begins_more : (n m : ℕ) {c d : List ℕ} → 8 ≤ n → n + 712 ≡ m → Begins n c → Same (IsOutside n 712) (n + 712) c d → IsZero n 712 d → Begins m d
begins_more n m {c} {d} ge is begins same zeros = record {
  each = λ i some lt. elim (cases_lt i n) [
    | inl below ↦ same.stays i (omega (arith, below, begins.room)) (inl below) ∙ begins.each i some below
    | inr above ↦ zeros.each i above (omega (arith, lt, is)) ∙ sym (past_head i (omega (arith, above, ge)))
  ];
  room = omega (arith, zeros.room, is);
}

pub begins_keep : (n : ℕ) {c d : List ℕ} → Begins n c → Same (IsOutside n 16384) (n + 16384) c d → Begins n d
begins_keep n {c} {d} begins same = record {
  each = λ i some lt. same.stays i (omega (arith, lt, begins.room)) (inl lt) ∙ begins.each i some lt;
  room = omega (arith, begins.room, same.no_shorter);
}

-- images of the second step
pub laid_blank : (top : ℕ) {c d : List ℕ} → top ≤ 32768 → Bare c → Same IsGate top c d → IsBlank d
laid_blank top {c} {d} le bare same = bare_blank d (omega (arith, same.no_longer, bare.long, le)) (λ one. bare.gate (sym (same.stays 0 (omega (arith, bare.some)) (omega arith)) ∙ one))

-- no byte is other than zero
none_set : (p : ℕ → Bool) (l : List ℕ) → ((i : ℕ) → i < length l → p (get_or l i 0) ≡ false) → position_or_len p l ≡ length l
none_set p [] each = refl
none_set p (x ∷ l) each =
    let here : p x ≡ false = each 0 (omega arith) in
    let rest : position_or_len p l ≡ length l = none_set p l (λ i lt. each (suc i) (omega (arith, lt))) in
    rw here (omega (arith, rest))

zeros_none : (c : List ℕ) → 16384 ≤ length c → ((i : ℕ) → 20 ≤ i → i < 16384 → get_or c i 0 ≡ 0) → first_set c ≡ None
unfolding first_set
zeros_none c long each =
    let l : List ℕ = part 20 16364 c in
    let all : position_or_len (λ b. not (b == 0)) (part 20 16364 c) ≡ length (part 20 16364 c) = none_set (λ b. not (b == 0)) (part 20 16364 c) (λ i lt.
    let within : i < 16364 = omega (arith, lt, length-part 20 16364 c (omega (arith, long))) in
    let zero_here : get_or (part 20 16364 c) i 0 ≡ 0 = part_at 20 16364 c i within ∙ each (20 + i) (omega arith) (omega (arith, within)) in
    rw zero_here refl) in
    let out : ltb (position_or_len (λ b. not (b == 0)) (part 20 16364 c)) (length (part 20 16364 c)) ≡ false = le-ltb _ _ (omega (arith, all)) in
    rw out refl

letters_of : (c : List ℕ) → Begins 16384 c → part 2 6 c ≡ letters
letters_of c begins = ext_get_or 0 (part 2 6 c) letters (length-part 2 6 c (omega (arith, begins.room))) (λ i lt.
    let within : i < 6 = omega (arith, lt, length-part 2 6 c (omega (arith, begins.room))) in
    part_at 2 6 c i within ∙ begins.each (2 + i) (omega arith) (omega (arith, within)) ∙ shifted i)
  where
    shifted : (i : ℕ) → get_or gate_head (2 + i) 0 ≡ get_or letters i 0
    shifted i = let two : 2 + i ≡ suc (suc i) = omega arith in ap (λ (k : ℕ). get_or gate_head k 0) two

signed_of : (c : List ℕ) → get_or c 0 0 ≡ 1 → part 2 6 c ≡ letters → is_signed c ≡ true
unfolding is_signed
signed_of c gate is = rw (gate, is) refl

-- images of the third step
module _ (first : List ℕ) (count : count_of first ≡ 2) where
  pub born_shut : {c : List ℕ} → Newborn first c → get_or c 0 0 ≡ 1 → Shut c (first ∷ [])
  born_shut {c} newborn gate = record {
    head = record {
      long = omega (arith, newborn.page.room);
      born = gate;
      signed = signed_of c gate (letters_of c newborn.begins);
      zeros = zeros_none c newborn.begins.room (λ i ge lt. newborn.begins.each i (omega (arith, ge)) lt ∙ past_head i (omega (arith, ge)));
    };
    shut = gate_shut c (λ one. absurd (omega (arith, one, newborn.begins.each 1 (omega arith) (omega arith))));
    stored = record {
      count = ap count_of (place_of c 1 ∙ newborn.page.image_is) ∙ count;
      some = omega arith;
      room = omega (arith, newborn.page.room);
      page = only;
    };
  }
    where
      only : (p : ℕ) → p < length (first ∷ []) → page_of [] c (p + 1) ≡ get_or (first ∷ []) p []
      only zero lt = place_of c 1 ∙ newborn.page.image_is
      only (suc p) lt = absurd (omega (arith, lt))

  newborn_same : {c d : List ℕ} → Newborn first c → Same (IsOther 0) 1 c d → Newborn first d
  newborn_same {c} {d} newborn same = record {
    begins = record { each = λ i some lt. same.stays i (omega (arith, lt, newborn.begins.room)) (inr some) ∙ newborn.begins.each i some lt; room = omega (arith, newborn.begins.room, same.no_shorter) };
    page = record {
      image_is = same_part (IsOther 0) 1 16384 16384 same newborn.page.room (λ i ge lt. inr (omega (arith, ge))) ∙ newborn.page.image_is;
      room = omega (arith, newborn.page.room, same.no_shorter);
    };
  }

  pub gate_either : {c d : List ℕ} → Newborn first c → length c ≤ 32768 → Same (IsOther 0) 1 c d → IsBlank d ⊎ (opening d ≡ Opens (first ∷ []))
  gate_either {c} {d} newborn long same = elim (cases_eq (get_or d 0 0) 1) [
    | inl one ↦ inr (shut_opens d (first ∷ []) (born_shut (newborn_same newborn same) one))
    | inr other ↦ inl (bare_blank d (omega (arith, same.no_longer, long)) other)
  ]

  -- the steps one after the other
  module _ (a : SiteState) where
    abbrev X : List ℕ → Type 0
    X c = IsBlank c ⊎ (opening c ≡ Opens (first ∷ []))

    pub bears_failed : {E : Type 0} (Done : List ℕ → Type 0) {q : Result Unit E} (r : Result Unit E) → IsErr r → {b : SiteState} → Leaves IsBlank Done q a b → Bears first r a b
    bears_failed Done (Ok x) fails leaves = absurd (cc fails)
    bears_failed Done (Err e) fails leaves = record { safe = quiet_weaker IsBlank X leaves.safe (λ c blank. inl blank); said = leaves.said; holds = tt }

    laying : {E : Type 0} (Done : List ℕ → Type 0) {r : Result Unit E} {b c : SiteState} → Leaves {E = E} IsBlank Bare (Ok tt) a b → IsOnly b → Keeps IsGate 32768 Done r b c → Safe a c (IsQuiet a IsBlank)
    laying {E} Done {r} {b} {c} leaves only keeps = quiet_on IsBlank IsGate 32768 leaves.safe leaves.said keeps.puts.safe (λ d i left x same. laid_blank 32768 (omega arith) leaves.done (subst (λ (l : List ℕ). Same IsGate 32768 l i) (only d left) same))

    pub bears_laid : {E : Type 0} (r : Result Unit E) → IsErr r → {q : Result Unit E} {b c : SiteState} → Leaves {E = E} IsBlank Bare (Ok tt) a b → IsOnly b → Keeps IsGate 32768 (Newborn first) q b c → Bears first r a c
    bears_laid (Ok x) fails leaves only keeps = absurd (cc fails)
    bears_laid (Err e) fails leaves only keeps = record { safe = quiet_weaker IsBlank X (laying (Newborn first) leaves only keeps) (λ c blank. inl blank); said = keeps.puts.said ∙ leaves.said; holds = tt }

    pub bears : {E : Type 0} {r : Result Unit E} {b c d : SiteState} → Leaves {E = E} IsBlank Bare (Ok tt) a b → IsOnly b → Keeps {E = E} IsGate 32768 (Newborn first) (Ok tt) b c → Keeps (IsOther 0) 1 (λ i. get_or i 0 0 ≡ 1) r c d → Bears first r a d
    bears {E} {r} {b} {c} {d} leaves only keeps opens = record {
      safe = quiet_on X (IsOther 0) 1 (quiet_weaker IsBlank X (laying (Newborn first) leaves only keeps) (λ i blank. inl blank)) (keeps.puts.said ∙ leaves.said) opens.puts.safe
          (λ i j left x same. gate_either keeps.puts.done (omega (arith, keeps.puts.same.no_longer, leaves.done.long)) (subst (λ (l : List ℕ). Same (IsOther 0) 1 l j) (keeps.only i left) same));
      said = opens.puts.said ∙ keeps.puts.said ∙ leaves.said;
      holds = of r opens.only opens.puts.same opens.puts.done;
    }
      where
        of : (r : Result Unit E) → OnOk r (IsOnly d) → OnOk r (Same (IsOther 0) 1 c.content d.content) → OnOk r (get_or d.content 0 0 ≡ 1) → OnOk r (Holds (first ∷ []) d)
        of (Ok x) only_d same one =
            let shut : Shut d.content (first ∷ []) = born_shut (newborn_same keeps.puts.done same) one in
            record { only = only_d; list = shut_opens d.content (first ∷ []) shut; shut = shut.shut }
        of (Err e) only_d same one = tt
