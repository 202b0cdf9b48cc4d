use Rattle.std.proofs.Common.{not, sym, ap, ◌∙◌, arith}
use Rattle.std.specs.Prelude.{is_some}
use Rattle.plain_dbscan.proofs.CasesOf.{new_found, none_new_more, none_new}
use Rattle.plain_dbscan.proofs.cases.find_new_number.Goals as goal

pub returns-then-is_none : goal.returns-then-is_none
returns-then-is_none c =
    new_found c.args.one.now c.args.other.now c.loop-number.number-index c.loop-number-test.true c.loop-number.invariant (ap not (ap is_some (sym c.find_mark.ensures) ∙ c.if-is_none.ensures))

pub loop-number-preserved : goal.loop-number-preserved
loop-number-preserved c =
    none_new_more c.args.one.now c.args.other.now c.loop-number.number-index c.loop-number-test.true c.loop-number.invariant (ap not (ap is_some (sym c.find_mark.ensures) ∙ c.if-is_none.ensures))

pub returns : goal.returns
returns c = none_new c.args.one.now c.args.other.now (λ k h. c.loop-number.invariant k (omega arith))
