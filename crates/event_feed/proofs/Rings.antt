-- An event written into a ring, and the last events of a list.
use Rattle.std.proofs.Common.{◌≡◌, ℕ, ◌+◌, ◌-◌, ◌<◌, ◌≤◌, ◌%◌, List, [], ◌∷◌, ◌++◌, length, set, take, drop, min, inl, inr, suc, refl, ap, sym, ◌∙◌, arith, drop-cons, add-one, append_assoc}
use Rattle.std.proofs.lemmas.Grind.{common_steps}
use Rattle.std.proofs.lemmas.Bool.{cases_lt}
use Rattle.std.proofs.lemmas.List.{take_all, take_more_set, drop_all, drop-drop, drop-append-le, drop-set-lt, append-nil, length-append, length-take, length-drop, length-set}
use Rattle.std.proofs.Math.Nat.{mod-eq_of_lt, mod_self}
use Rattle.vec_record.specs.declared.event.Event.{Event}
use Rattle.event_feed.specs.Texts.{last_events, recent_text, events_text}
use Rattle.event_feed.specs.inside.Ring.{IsRing, held}

-- a ring that isn't full yet holds one event more
filling : (ring : List Event) (count : ℕ) (e : Event) → count < length ring → held (set ring count e) (count + 1) (count + 1) ≡ held ring count count ++ e ∷ []
filling ring count e lt =
    let past = drop_all (count + 1) (take (count + 1) (set ring count e)) (rw length-take (omega arith)) in
    let before = drop_all count (take count ring) (rw length-take (omega arith)) in
    rw (past, before) (take_more_set ring count e lt)

-- a full ring loses the oldest event
rolling : (ring : List Event) (next : ℕ) (e : Event) → next < length ring → held (set ring next e) (length ring) (next + 1) ≡ drop 1 (held ring (length ring) next ++ e ∷ [])
rolling ring next e lt =
    let written = take_all (length ring) (set ring next e) (grind (arith, common_steps)) in
    let whole = take_all (length ring) ring (omega arith) in
    let behind = drop-set-lt (next + 1) ring next e (omega arith) in
    let oldest = drop-cons ring next e lt in
    rw (written, whole, behind, take_more_set ring next e lt, oldest, add-one) (sym (append_assoc (drop (suc next) ring) (take next ring) (e ∷ [])))

-- the place behind the last one is the first
wrapped : (ring : List Event) (most : ℕ) → length ring ≡ most → held ring most most ≡ held ring most 0
wrapped ring most room =
    let whole = take_all most ring (omega (arith, room)) in
    let none = drop_all most ring (omega (arith, room)) in
    rw (whole, none) (sym (append-nil ring))

held_behind : (ring : List Event) (most count next : ℕ) → length ring ≡ most → next < most → (next + 1 ≡ most → count ≡ most) → held ring count ((next + 1) % most) ≡ held ring count (next + 1)
held_behind ring most count next room lt full =
    elim (cases_lt (next + 1) most) [
      | inl within ↦ rw (mod-eq_of_lt within) refl
      | inr past ↦
          let last : next + 1 ≡ most = omega (arith, lt, past) in
          rw (last, full last, mod_self most) (sym (wrapped ring most room))
    ]

length-held : (ring : List Event) (count next : ℕ) → next ≤ count → count ≤ length ring → length (held ring count next) ≡ count
length-held ring count next below within =
    let rest = length-drop next (take count ring) in
    let first = length-take next ring in
    let both = length-append (drop next (take count ring)) (take next ring) in
    let front = length-take count ring in
    omega (arith, both, rest, first, front, below, within)

-- the last events of few, and of one too many
few_last : (most : ℕ) (xs : List Event) → length xs ≤ most → last_events most xs ≡ xs
few_last most xs le = let none : length xs - most ≡ 0 = omega (arith, le) in rw none refl

one_lost : (most : ℕ) (xs : List Event) → length xs ≡ most + 1 → last_events most xs ≡ drop 1 xs
one_lost most xs e = let one : length xs - most ≡ 1 = omega (arith, e) in rw one refl

length-push : (xs : List Event) (e : Event) → length (xs ++ e ∷ []) ≡ length xs + 1
length-push xs e = length-append xs (e ∷ [])

-- a ring with an event written into it
written : (ring : List Event) (most count next : ℕ) (e : Event) → IsRing most ring count next → held (set ring next e) (min (count + 1) most) ((next + 1) % most) ≡ last_events most (held ring count next ++ e ∷ [])
written ring most count next e r =
    let longer = length-push (held ring count next) e in
    let long = length-held ring count next r.below (omega (arith, r.within, r.room)) in
    let same = length-set ring next e in
    let behind = held_behind (set ring next e) most (min (count + 1) most) next (omega (arith, same, r.room)) r.inside in
    elim (cases_lt count most) [
      | inl lt ↦
          let more : min (count + 1) most ≡ count + 1 = omega (arith, lt) in
          let at = r.rising lt in
          behind (λ last. omega (arith, last, at, lt))
          ∙ rw (more, at) (filling ring count e (omega (arith, lt, r.room)))
          ∙ sym (few_last most (held ring count next ++ e ∷ []) (omega (arith, longer, long, lt)))
      | inr le ↦
          let full : count ≡ length ring = omega (arith, le, r.within, r.room) in
          let more : min (count + 1) most ≡ length ring = omega (arith, le, r.within, r.room) in
          behind (λ _. omega (arith, le))
          ∙ rw (more, full) (rolling ring next e (omega (arith, r.inside, r.room)))
          ∙ sym (one_lost most (held ring count next ++ e ∷ []) (omega (arith, longer, long, le, r.within)))
    ]

-- the last events of what is kept of a list with more behind it
last-last : (most : ℕ) (xs more : List Event) → last_events most (last_events most xs ++ more) ≡ last_events most (xs ++ more)
last-last most xs more =
    elim (cases_lt most (length xs)) [
      | inl lt ↦
          let k = length xs - most in
          let kept = drop k xs in
          let long = length-append kept more in
          let left = length-drop k xs in
          let all = length-append xs more in
          let a : length (kept ++ more) - most ≡ length more = omega (arith, long, left, lt) in
          let b : length (xs ++ more) - most ≡ k + length more = omega (arith, all, lt) in
          ap (λ n. drop n (kept ++ more)) a
          ∙ ap (drop (length more)) (sym (drop-append-le k xs more (omega arith)))
          ∙ drop-drop (length more) k (xs ++ more)
          ∙ ap (λ n. drop n (xs ++ more)) (sym b)
      | inr le ↦ rw (few_last most xs le) refl
    ]

-- what is said after further events of a ring with an event written into it
pub recent_told : (ring : List Event) (most count next : ℕ) (e : Event) (more : List Event) → IsRing most ring count next → recent_text most (held (set ring next e) (min (count + 1) most) ((next + 1) % most) ++ more) ≡ recent_text most (held ring count next ++ e ∷ more)
recent_told ring most count next e more r =
    let before = held ring count next in
    ap (λ kept. recent_text most (kept ++ more)) (written ring most count next e r)
    ∙ ap events_text (last-last most (before ++ e ∷ []) more)
    ∙ ap (λ all. recent_text most all) (append_assoc before (e ∷ []) more)
