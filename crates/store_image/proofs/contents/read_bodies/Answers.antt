use Rattle.std.proofs.Common.{◌∙◌, ◌-◌, arith}
use Rattle.page_layout.specs.Heads.{values_of}
use Rattle.store_image.proofs.LoadReading.{behind_all}
use Rattle.store_image.proofs.contents.read_bodies.Goals as goal

pub returns-clause-bodies : goal.returns-clause-bodies
returns-clause-bodies c =
    c.loop-number.invariant.same ∙ behind_all (values_of c.args.params.now) c.loop-number.number c.args.pages.now.list (c.loop-number.number - 1) c.loop-number.bodies.items (omega (arith, c.loop-number-test.false, c.count-number-end.ensures))
