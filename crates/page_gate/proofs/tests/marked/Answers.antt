use Rattle.std.proofs.Common.{◌≡◌, set, ap, ◌∙◌, arith}
use Rattle.page_gate.specs.Gate.{count_of}
use Rattle.page_gate.proofs.Marks.{marked_count}
use Rattle.page_gate.proofs.tests.marked.Goals as goal

pub returns : goal.returns
returns c =
    let after : c.set-2.new.self ≡ set (set c.in_ok-page.page 0 c.args.first) 4 c.args.fifth = cc in
    ap count_of after ∙ marked_count c.in_ok-page.page _ _ (omega (arith, c.in_ok-page.ensures.length)) c.in_ok-page.ensures.zeros
