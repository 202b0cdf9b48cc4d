use Rattle.std.proofs.Common.{◌<◌, length, sym, ap, ◌∙◌, arith}
use Rattle.std.proofs.lemmas.Bool.{eqb-false}
use Rattle.page_gate.specs.Gate.{number_4}
use Rattle.page_gate.proofs.Lists.{new_count_at}
use Rattle.page_gate.proofs.redo.new_count.Goals as goal

pub returns : goal.returns
returns c =
    let some : 0 < length c.args.writes.now = omega (arith, eqb-false (length c.args.writes.now) 0 (sym c.if-is_empty.ensures)) in
    c.number_4.ensures ∙ ap (number_4 0) c.as_slice.ensures.same ∙ new_count_at c.args.writes.now c.index-writes-0.result some c.index-writes-0.is
