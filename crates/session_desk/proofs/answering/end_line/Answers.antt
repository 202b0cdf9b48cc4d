use Rattle.std.proofs.Common.{ℕ, List, ◌∙◌, ap, arith, length}
use Rattle.session_desk.proofs.Telling.{unended-line, ended-line, ended-none}
use Rattle.session_desk.proofs.answering.end_line.Goals as goal
use Rattle.session_desk.proofs.answering.end_line.Goals.{else-start-text-via-then-start-text+else-text-ne10, else-start-text-via-else-start-text}

pub returns-in_ok-push : goal.returns-in_ok-push
returns-in_ok-push c = λ before said is at.
    let more = c.if-start-text.true in
    c.in_ok-push.ensures.ok ∙ unended-line c.args.out.now c.as_slice-text.result.now before said c.as_slice-text.ensures is (omega (arith, at, more)) c.if-text-ne10.true

pub returns-else-start-text : goal.returns-else-start-text
returns-else-start-text c = λ before said is at.
    elim c.else-start-text.branch [
      | else-start-text-via-then-start-text+else-text-ne10 w ↦
          let more = w.if-start-text.true in
          ended-line c.args.out.now c.as_slice-text.result.now before said c.as_slice-text.ensures is (omega (arith, at, more)) w.if-text-ne10.false
      | else-start-text-via-else-start-text w ↦
          let few = w.if-start-text.false in
          let long = ap (λ (l : List ℕ). length l) c.as_slice-text.ensures in
          ended-none c.args.out.now before said is (omega (arith, at, long, few))
    ]
