use Rattle.std.proofs.Common.{◌∙◌, ap, cond, is_some}
use Rattle.std.specs.FinMap as map
use Rattle.number_map.proofs.Maps.{given}
use Rattle.number_map.proofs.map.NumberMap.replace.Goals as goal

pub returns-in-Some : goal.returns-in-Some
returns-in-Some g c =
    given c.in-Some.is (c.get_mut.follows.holds c.args.value)
    ∙ ap (λ o. cond (is_some o) (map.insert c.args.self.now c.args.number c.args.value) c.args.self.now) c.in-Some.ensures.value
