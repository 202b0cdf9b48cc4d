use Rattle.std.proofs.Common.{◌≡◌, ◌<◌, length, ◌∙◌, arith}
use Rattle.std.proofs.lemmas.List.{set-get_or}
use Rattle.node_places.proofs.Taking.{slot_taken, slot_used, slot_left}
use Rattle.node_places.proofs.filling.fill.Goals as goal
use Rattle.node_places.proofs.filling.fill.Goals.{then-slot-eq0+then-next-new, else-slot-eq0, else-slot-eq0-via-then-slot-eq0+else-next-new, else-slot-eq0-via-else-slot-eq0}

pub loop-slot-preserved : goal.loop-slot-preserved
loop-slot-preserved c =
    let l = c.loop-slot in
    let new = c.args.new.now in
    let lt : l.slot-index < length l.slots = omega (arith, c.loop-slot-test.true, l.auto.slots) in
    elim c.if-slot-eq0.branch [
      | then-slot-eq0+then-next-new w ↦ rw (w.slots-is, w.next-is) (record {
        within = omega (arith, w.if-next-new.true);
        rest = slot_taken l.slots new l.slot-index l.next lt w.if-next-new.true w.if-slot-eq0.true
            ∙ l.invariant.rest;
      })
      | else-slot-eq0 w ↦ elim w.else-slot-eq0.branch [
        | else-slot-eq0-via-then-slot-eq0+else-next-new w' ↦
            let same : c.if-slot-eq0.slots ≡ l.slots = w.slots-is ∙ w'.slots-is
            ∙ set-get_or l.slots l.slot-index 0 in
            rw (same, w.next-is) (record { within = l.invariant.within; rest = slot_left l.slots new l.slot-index l.next lt w'.if-next-new.false ∙ l.invariant.rest })
        | else-slot-eq0-via-else-slot-eq0 w' ↦
            let same : c.if-slot-eq0.slots ≡ l.slots = w.slots-is ∙ w'.slots-is
            ∙ set-get_or l.slots l.slot-index 0 in
            rw (same, w.next-is) (record { within = l.invariant.within; rest = slot_used l.slots new l.slot-index l.next lt w'.if-slot-eq0.false ∙ l.invariant.rest })
      ]
    ]
