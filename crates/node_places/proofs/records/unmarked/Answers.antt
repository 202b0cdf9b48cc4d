use Rattle.node_places.specs.inside.Marks.{unmarked}
use Rattle.node_places.proofs.Marks.{mark_on, mark_off}
use Rattle.node_places.proofs.records.unmarked.Goals as goal
use Rattle.node_places.proofs.records.unmarked.Goals.{then-not-marks-k+in_ok-push, else-not-marks-k}

pub loop-k-preserved : goal.loop-k-preserved
loop-k-preserved c =
    let marks = c.args.marks.now in
    let numbers = c.args.numbers.now in
    let k = c.loop-k.k in
    let before = c.loop-k.new.items in
    let all = unmarked marks numbers in
    elim c.if-not-marks-k.branch [
      | then-not-marks-k+in_ok-push w ↦ rw w.new-is (mark_off marks numbers k before w.push.new.self.items all c.loop-k-test.true c.requires w.if-not-marks-k.true w.in_ok-push.ensures.items c.loop-k.invariant)
      | else-not-marks-k w ↦ rw w.new-is (mark_on marks numbers k before all c.loop-k-test.true c.requires w.if-not-marks-k.false c.loop-k.invariant)
    ]
