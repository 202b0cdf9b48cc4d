-- From the gate of a file to its pages.
use Rattle.std.proofs.Common.{◌≡◌, ◌≢◌, ◌⊎◌, inl, inr, ℕ, ◌+◌, ◌-◌, ◌*◌, ◌/◌, ◌^◌, ◌<◌, ◌≤◌, Bool, true, false, ◌&&◌, leb, Option, Some, None, List, [], length, get_or, Result, IsTrue, refl, sym, ◌∙◌, ap, subst, arith, zero-add}
use Rattle.std.specs.Prelude.{Ok, Err, MatchResult}
use Rattle.site_disk.specs.State.{SiteState, IsNow, Safe}
use Rattle.site_disk.specs.Calls.{Stays, Syncs}
use Rattle.site_disk.proofs.Moments.{start, after_stay, after_sync, goes_on}
use Rattle.page_gate.specs.declared.fault.OpenFault.{OpenFault}
use Rattle.page_gate.specs.declared.fault.OpenFault.TheVariants.{Blank, Foreign, Damaged, SiteFault, Memory}
use Rattle.page_gate.specs.declared.gate.Gate.{Gate}
use Rattle.page_gate.specs.declared.gate.Gate.TheVariants.{Bad, Closed, Open}
use Rattle.page_gate.specs.Room.{Room}
use Rattle.page_gate.specs.Gate.{part, number_4, blank_by, is_signed, first_set, is_open, fits, redo_start, redo_count, gate_of, begun_gate, signed_gate, behind_zeros, redo_gate, items, rises, page_of, count_of, counts, list_of, listed_by, listed, taken_by, through, opening, Opening, Opens, Refuses}
use Rattle.page_gate.specs.Same.{IsOnly}
use Rattle.page_gate.specs.Looks.{IsSound, HasGate, CanTake, Settled, Settles, Recovers, Lists, Looks, Places, Fills}
use Rattle.page_gate.specs.Promises.{IsRefusal, IsAsWas, IsTakenIn, Rests, Holds, Finds}
use Rattle.std.specs.Int.{w32, from_le_bytes}
use Rattle.std.proofs.lemmas.List.{ext_get_or}
use Rattle.std.proofs.lemmas.Bool.{and_left, and_right, lt-leb}
use Rattle.page_gate.proofs.Parts.{length-part, part_at}
use Rattle.page_gate.proofs.Committing.{place_of}
use Rattle.page_gate.proofs.Moving.{IsQuiet}
use Rattle.page_gate.proofs.Openings.{closed_head, open_head, opening_closed, listed_of}
use Rattle.page_gate.proofs.Recovery.{fits_parts}
use Rattle.page_gate.proofs.Looking.{stays_on, Looked, begin_look, only_stays}

part_of_part : (c : List ℕ) → 32768 ≤ length c → part 0 4 (part 16384 16384 c) ≡ part 16384 4 c
part_of_part c long = ext_get_or 0 (part 0 4 (part 16384 16384 c)) (part 16384 4 c) (inner ∙ sym (length-part 16384 4 c (omega (arith, long)))) (λ i lt.
    let within : i < 4 = omega (arith, lt, inner) in
    part_at 0 4 (part 16384 16384 c) i within ∙ ap (λ (k : ℕ). get_or (part 16384 16384 c) k 0) (zero-add i) ∙ part_at 16384 16384 c i (omega (arith, within)) ∙ sym (part_at 16384 4 c i within))
  where
    inner : length (part 0 4 (part 16384 16384 c)) ≡ 4
    inner = length-part 0 4 (part 16384 16384 c) (omega (arith, length-part 16384 16384 c (omega (arith, long))))

number_inner : (d c : List ℕ) → part 0 4 d ≡ part 16384 4 c → number_4 0 d ≡ number_4 16384 c
unfolding number_4
number_inner d c is = ap (from_le_bytes w32) is

-- a refusal is its own
pub refusal_self : (fault : OpenFault) (opens : Opening) → opens ≡ Refuses fault → IsRefusal fault opens
refusal_self Blank opens is = is
refusal_self Foreign opens is = is
refusal_self (Damaged page offset) opens is = is
refusal_self SiteFault opens is = tt
refusal_self Memory opens is = tt

pub opening_bad : (c : List ℕ) (fault : OpenFault) → Bad fault ≡ gate_of (length c) c → opening c ≡ Refuses fault
unfolding opening through
opening_bad c fault is = ap (λ (g : Gate). through g c) (sym is)

pub opening_order : (c : List ℕ) (start count : ℕ) → gate_of (length c) c ≡ Open start count → rises 0 (start / 16384) (items start count c) ≡ false → opening c ≡ Refuses (Damaged 0 16)
unfolding opening through
opening_order c start count is bad = ap (λ (g : Gate). through g c) is ∙ ap (λ (b : Bool). taken_by b (listed (items start count c) c)) bad

sound_parts : (b s : Bool) (z : Option ℕ) (o f : Bool) (st n : ℕ) → (f ≡ true → st + 16392 * n ≤ 2 ^ 63 - 1) → IsSound (begun_gate b (signed_gate s (behind_zeros z (redo_gate o f st n))))
sound_parts true s z o f st n room = tt
sound_parts false false z o f st n room = tt
sound_parts false true (Some i) o f st n room = tt
sound_parts false true None false f st n room = tt
sound_parts false true None true true st n room = room refl
sound_parts false true None true false st n room = tt

pub sound_gate : (len : ℕ) (first : List ℕ) (gate : Gate) → gate ≡ gate_of len first → len ≤ 2 ^ 63 - 1 → IsSound gate
unfolding gate_of
sound_gate len first gate is bound = subst IsSound (sym is) (sound_parts (blank_by len (get_or first 0 0)) (leb 32768 len && is_signed first) (first_set first) (is_open first) (fits len (redo_start first) (redo_count first)) (redo_start first) (redo_count first)
    (λ good. let two = fits_parts len (redo_start first) (redo_count first) good in omega (arith, two.1, bound)))

pub same_opening : {a : SiteState} → IsNow a → IsOnly a → Safe a a (IsQuiet a (λ c. opening c ≡ opening a.content))
same_opening now only = start now (λ c left. (refl, ap opening (only c left)))

-- a site at which nothing changed
pub same_rests : {a : SiteState} → IsOnly a → Rests a a
same_rests only = record { only = only; opens = refl; content = inl refl }

-- a gate that refuses, and a closed one
pub recovers_bad : {a : SiteState} (fault : OpenFault) → IsNow a → HasGate (Bad fault) a → Recovers (Err fault) a a
recovers_bad {a} fault now has = record { safe = same_opening now has.only; said = refl; answer = refusal_self fault (opening a.content) (opening_bad a.content fault has.gate_is); rests = λ other. same_rests has.only }

pub recovers_closed : {a : SiteState} → IsNow a → HasGate Closed a → Recovers (Ok tt) a a
recovers_closed {a} now has =
    let both = closed_head a.content (sym has.gate_is) in
    record {
      safe = same_opening now has.only;
      said = refl;
      answer = (has.only, record { list = sym (opening_closed a.content (sym has.gate_is)); opens = refl; shut = both.1; long = both.0.long; len = refl });
      rests = same_rests has.only;
    }

-- the number of pages, as page 1 has it
pub count_page : (c : List ℕ) → 32768 ≤ length c → count_of (page_of [] c 1) ≡ number_4 16384 c
unfolding count_of page_of
count_page c long = number_inner (part 16384 16384 c) c (part_of_part c long)

pub listed_bad : (c : List ℕ) (count : ℕ) → 32768 ≤ length c → count ≡ number_4 16384 c → (count < 2) ⊎ (length c < 16384 * count) → listed [] c ≡ Refuses (Damaged 1 0)
unfolding listed counts
listed_bad c count long is bad = ap (λ (b : Bool). listed_by b (list_of [] c)) (fails bad)
  where
    here : count_of (page_of [] c 1) ≡ count
    here = count_page c long ∙ sym is

    fails : (count < 2) ⊎ (length c < 16384 * count) → (leb 2 (count_of (page_of [] c 1)) && leb (16384 * count_of (page_of [] c 1)) (length c)) ≡ false
    fails (inl few) = and_left _ _ (lt-leb 2 (count_of (page_of [] c 1)) (omega (arith, few, here)))
    fails (inr far) = and_right _ _ (lt-leb (16384 * count_of (page_of [] c 1)) (length c) (omega (arith, far, here)))

-- the list from its pages
pub listed_places : (c : List ℕ) (count : ℕ) (pages : List (List ℕ)) → count ≡ number_4 16384 c → 2 ≤ count → 16384 * count ≤ length c → Places c count pages → listed [] c ≡ Opens pages
listed_places c count pages is some room places = listed_of [] c pages (record {
  count = count_page c (omega (arith, some, room)) ∙ sym is ∙ sym places.0;
  some = omega (arith, some, places.0);
  room = omega (arith, room, places.0);
  page = λ p lt. place_of c (p + 1) ∙ sym (places.1 p lt);
})

-- the ways out of a recovery
pub stays_safe : {a b : SiteState} → IsNow a → IsOnly a → Stays a b → Safe a b (IsQuiet a (λ c. opening c ≡ opening a.content))
stays_safe now only stays = after_stay (same_opening now only) stays

pub rests_stays : {a b c : SiteState} → Rests a b → Stays b c → Rests a c
rests_stays {a} {b} {c} rests stays = record {
  only = λ i left. rests.only i ((stays.images i).0 left) ∙ sym stays.content;
  opens = ap opening stays.content ∙ rests.opens;
  content = of rests.content;
}
  where
    of : (b.content ≡ a.content) ⊎ IsTakenIn a.content b.content → (c.content ≡ a.content) ⊎ IsTakenIn a.content c.content
    of (inl same) = inl (stays.content ∙ same)
    of (inr taken) = inr (subst (IsTakenIn a.content) (sym stays.content) taken)

pub recovers_fault : {a b : SiteState} (fault : OpenFault) → IsNow a → IsOnly a → Stays a b → IsRefusal fault (opening a.content) → Recovers (Err fault) a b
recovers_fault fault now only stays refusal = record { safe = stays_safe now only stays; said = stays.said; answer = refusal; rests = λ other. rests_stays (same_rests only) stays }

pub recovers_order : {a b : SiteState} (start count : ℕ) → IsNow a → HasGate (Open start count) a → Stays a b → false ≡ rises 0 (start / 16384) (items start count a.content) → Recovers (Err (Damaged 0 16)) a b
recovers_order {a} {b} start count now has stays bad = recovers_fault (Damaged 0 16) now has.only stays (opening_order a.content start count (sym has.gate_is) (sym bad))

pub can_take : {a b : SiteState} (start count : ℕ) → HasGate (Open start count) a → Stays a b → true ≡ rises 0 (start / 16384) (items start count a.content) → CanTake start count b
can_take {a} {b} start count has stays good = record {
  only = λ c left. has.only c ((stays.images c).0 left) ∙ sym stays.content;
  gate = subst (λ (l : List ℕ). gate_of (length l) l ≡ Open start count) (sym stays.content) (sym has.gate_is);
  rising = subst (λ (l : List ℕ). IsTrue (rises 0 (start / 16384) (items start count l))) (sym stays.content) (sym good);
}

settles_safe : {E : Type 0} {r : Result Unit E} {a b c : SiteState} → IsNow a → IsOnly a → Stays a b → Settles (opening b.content) (length b.content) r b c → Safe a c (IsQuiet a (λ i. opening i ≡ opening a.content))
settles_safe {E} {r} {a} {b} {c} now only stays settles = goes_on (stays_safe now only stays) settles.safe.joins
    (λ s i since. let at = settles.safe.each s i since in (at.0 ∙ stays.said, at.1 ∙ ap opening stays.content)) (λ i left. let at = settles.safe.now i left in (at.0 ∙ stays.said, at.1 ∙ ap opening stays.content))

pub recovers_done : {E : Type 0} {a b c : SiteState} (start count : ℕ) → IsNow a → HasGate (Open start count) a → Stays a b → Settles {E = E} (opening b.content) (length b.content) (Ok tt) b c → Recovers (Ok tt) a c
recovers_done {E} {a} {b} {c} start count now has stays settles = record {
  safe = settles_safe now has.only stays settles;
  said = settles.said ∙ stays.said;
  answer = (settles.only, subst (λ (l : List ℕ). Settled (opening l) (length l) c.content) stays.content settles.done);
  rests = record {
    only = settles.only;
    opens = settles.done.opens ∙ ap opening stays.content;
    content = inr (record { start = start; count = count; was = sym has.gate_is; now = settles.zero });
  };
}

pub recovers_broke : {E : Type 0} {r : Result Unit E} {a b c : SiteState} → IsNow a → IsOnly a → Stays a b → Settles (opening b.content) (length b.content) r b c → Recovers (Err SiteFault) a c
recovers_broke {E} {r} {a} {b} {c} now only stays settles = record { safe = settles_safe now only stays settles; said = settles.said ∙ stays.said; answer = tt; rests = λ other. absurd (other refl) }

-- the ways out of an opening
was_safe : {a b : SiteState} → Safe a b (IsQuiet a a.may_leave) → Safe a b (IsAsWas a)
was_safe {a} {b} safe = record {
  joins = safe.joins;
  each = λ s c since. let at = safe.each s c since in (at.0, inl at.1);
  now = λ c left. let at = safe.now c left in (at.0, inl at.1);
}

pub finds_unsynced : {E : Type 0} {r : Result Unit E} {a b : SiteState} → IsNow a → Syncs r a b → Finds (Err SiteFault) a b
finds_unsynced now sync = record { safe = was_safe (after_sync (begin_look now) sync); said = sync.said; list = tt; holds = tt; rests = λ other. absurd (other refl) }

looked_rests : {a b : SiteState} → Looked a b → Rests a b
looked_rests looked = record { only = looked.only; opens = ap opening looked.content; content = inl looked.content }

pub finds_memory : {a b : SiteState} → Looked a b → Finds (Err Memory) a b
finds_memory looked = record { safe = was_safe looked.safe; said = looked.said; list = tt; holds = tt; rests = λ other. looked_rests looked }

pub finds_fault : {a b : SiteState} → Looked a b → Finds (Err SiteFault) a b
finds_fault looked = record { safe = was_safe looked.safe; said = looked.said; list = tt; holds = tt; rests = λ other. absurd (other refl) }

pub looked_gate : {E : Type 0} {a b c : SiteState} (len : ℕ) (first : List ℕ) (gate : Gate) → gate ≡ gate_of len first → Looked a b → Looks {E = E} (Ok len) first b c → HasGate gate c
looked_gate {E} {a} {b} {c} len first gate is looked looks = record { only = only_stays looked.only looks.stays; gate_is = is ∙ looks.gate.1 ∙ ap (λ (l : List ℕ). gate_of (length l) l) (sym looks.stays.content) }

recovered_safe : {r : Result Unit OpenFault} {a b c : SiteState} → Looked a b → Recovers r b c → Safe a c (IsAsWas a)
recovered_safe {r} {a} {b} {c} looked recovers = goes_on (was_safe looked.safe) recovers.safe.joins
    (λ s i since. let at = recovers.safe.each s i since in (at.0 ∙ looked.said, inr (at.1 ∙ ap opening looked.content))) (λ i left. let at = recovers.safe.now i left in (at.0 ∙ looked.said, inr (at.1 ∙ ap opening looked.content)))

rests_on : {a b c : SiteState} → Looked a b → Rests b c → Rests a c
rests_on {a} {b} {c} looked rests = record { only = rests.only; opens = rests.opens ∙ ap opening looked.content; content = of rests.content }
  where
    of : (c.content ≡ b.content) ⊎ IsTakenIn b.content c.content → (c.content ≡ a.content) ⊎ IsTakenIn a.content c.content
    of (inl same) = inl (same ∙ looked.content)
    of (inr taken) = inr (subst (λ (l : List ℕ). IsTakenIn l c.content) looked.content taken)

pub finds_refusal : {a b c : SiteState} (fault : OpenFault) → Looked a b → Recovers (Err fault) b c → Finds (Err fault) a c
finds_refusal {a} {b} {c} fault looked recovers = record {
  safe = recovered_safe looked recovers;
  said = recovers.said ∙ looked.said;
  list = subst (λ (l : List ℕ). IsRefusal fault (opening l)) looked.content recovers.answer;
  holds = tt;
  rests = λ other. rests_on looked (recovers.rests other);
}

pub finds : {r : Result Room OpenFault} {a b c d : SiteState} → Looked a b → Recovers (Ok tt) b c → Lists r c d → Finds r a d
finds {r} {a} {b} {c} {d} looked recovers lists = record {
  safe = after_stay (recovered_safe looked recovers) lists.stays;
  said = lists.stays.said ∙ recovers.said ∙ looked.said;
  list = of_list r lists.list;
  holds = of_holds r lists.list;
  rests = of_rests r;
}
  where
    same_list : listed [] c.content ≡ opening a.content
    same_list = recovers.answer.1.list ∙ ap opening looked.content

    of_list : (r : Result Room OpenFault) → MatchResult r (λ pages. listed [] c.content ≡ Opens pages.list) (λ fault. IsRefusal fault (listed [] c.content)) → MatchResult r (λ pages. opening a.content ≡ Opens pages.list) (λ fault. IsRefusal fault (opening a.content))
    of_list (Ok pages) is = sym same_list ∙ is
    of_list (Err fault) is = subst (IsRefusal fault) same_list is

    of_holds : (r : Result Room OpenFault) → MatchResult r (λ pages. listed [] c.content ≡ Opens pages.list) (λ fault. IsRefusal fault (listed [] c.content)) → MatchResult r (λ pages. Holds pages.list d) (λ _. Unit {0})
    of_holds (Ok pages) is = record {
      only = λ i left. recovers.answer.0 i ((lists.stays.images i).0 left) ∙ sym lists.stays.content;
      list = ap opening lists.stays.content ∙ recovers.answer.1.opens ∙ sym recovers.answer.1.list ∙ is;
      shut = ap is_open lists.stays.content ∙ recovers.answer.1.shut;
    }
    of_holds (Err fault) is = tt

    of_rests : (r : Result Room OpenFault) → MatchResult r (λ _. Rests a d) (λ fault. fault ≢ SiteFault → Rests a d)
    of_rests (Ok pages) = rests_stays (rests_on looked recovers.rests) lists.stays
    of_rests (Err fault) = λ other. rests_stays (rests_on looked recovers.rests) lists.stays

pub gate_room : (c : List ℕ) (start count : ℕ) → gate_of (length c) c ≡ Open start count → start + 16392 * count ≤ length c
gate_room c start count is =
    let of = (open_head c start count is).1 in
    let two = fits_parts (length c) (redo_start c) (redo_count c) of.good in
    omega (arith, two.1, of.start_is, of.count_is)

pub lists_of : {a b c : SiteState} (count : ℕ) (r : Result Room OpenFault) → Stays a b → Fills count r b c → count ≡ number_4 16384 a.content → 2 ≤ count → 16384 * count ≤ length a.content → Lists r a c
lists_of {a} {b} {c} count (Ok pages) stays fills is some room = record {
  stays = stays_on stays fills.stays;
  list = listed_places a.content count pages.list is some room (subst (λ (l : List ℕ). Places l count pages.list) stays.content fills.list);
}
lists_of {a} {b} {c} count (Err fault) stays fills is some room = record { stays = stays_on stays fills.stays; list = fills.list (listed [] a.content) }
