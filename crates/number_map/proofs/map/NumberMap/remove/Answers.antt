use Rattle.std.proofs.Common.{◌∙◌, sym, ap}
use Rattle.std.specs.FinMap as map
use Rattle.number_map.proofs.Maps.{get_held, one_taken}
use Rattle.number_map.proofs.map.NumberMap.remove.Goals as goal

pub returns-clause-value : goal.returns-clause-value
returns-clause-value g c =
    c.remove.ensures.value ∙ (sym (get_held c.self.inside.entries.entries c.args.number) ∙ ap (λ m. map.get m c.args.number) c.self.view_is)

pub returns-clause-rest : goal.returns-clause-rest
returns-clause-rest g c =
    one_taken c.self.inside.entries.entries c.remove.new.self.entries c.args.number c.remove.ensures.updates.0 ∙ ap (λ m. map.remove m c.args.number) c.self.view_is
