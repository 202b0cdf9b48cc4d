use Rattle.std.proofs.Common.{◌≡◌, ◌∙◌, sym, ap, subst, ℕ, Bool, List, cond, length, map, drop, arith}
use Rattle.std.proofs.lemmas.List.{take_at}
use Rattle.std.specs.FinMap as maps
use Rattle.node_places.specs.Slots.{has, absent, filled, padded, freed, slotless}
use Rattle.node_places.specs.Rising.{IsRising}
use Rattle.node_places.specs.inside.Marks.{unmarked}
use Rattle.node_places.proofs.Keys.{keys_rise, freed_is}
use Rattle.node_places.proofs.Marks.{unmarked_is}
use Rattle.node_places.proofs.records.record_slots.Goals as goal

pub freed-requires-clause-rising : goal.freed-requires-clause-rising
freed-requires-clause-rising c =
    subst IsRising (sym (c.as_slice-held.ensures ∙ c.in_ok-held.ensures.numbers)) (keys_rise c.args.records.now.vectors)

pub returns : goal.returns
returns c =
    let vectors = c.args.records.now.vectors in
    let places = c.args.numbers.now in
    let held : c.as_slice-held.result.now ≡ maps.keys vectors = c.as_slice-held.ensures
    ∙ c.in_ok-held.ensures.numbers in
    let slots : c.in_ok-slots.slots.items ≡ freed vectors places =
    c.in_ok-slots.ensures.slots ∙ ap (λ (l : List ℕ). map (λ n. cond (has l n) n 0) places) held
    ∙ freed_is vectors places in
    let marks = c.freed.new.marks in
    let long : length marks ≡ length c.as_slice-held.result.now = omega (arith, c.in_ok-marks.ensures.len, c.deref_mut.ensures.len) in
    let whole : length marks ≡ c.in_ok-marks.marks.len = omega (arith, long, c.in_ok-marks.ensures.len) in
    let seen : c.deref.result.now ≡ marks = c.deref.ensures.value
    ∙ take_at marks (drop (length marks) c.in_ok-marks.marks.items) c.in_ok-marks.marks.len whole in
    let new : c.in_ok-new.new.items ≡ slotless vectors places =
    c.in_ok-new.ensures ∙ ap (λ (l : List Bool). unmarked l c.as_slice-held.result.now) seen
    ∙ unmarked_is places c.as_slice-held.result.now marks long c.in_ok-slots.ensures.marks
    ∙ ap (absent places) held in
    let given : c.give.new.slots.items ≡ filled (freed vectors places) (slotless vectors places) =
    c.in_ok-give.ensures ∙ ap (filled c.in_ok-slots.slots.items) (c.deref-2.ensures.value ∙ new)
    ∙ ap (λ (l : List ℕ). filled l (slotless vectors places)) slots in
    c.in_ok-pad.ensures ∙ ap (padded c.args.size) given
