use Rattle.std.proofs.Common.{◌∙◌, ap}
use Rattle.std.specs.FinMap as map
use Rattle.number_map.proofs.Maps.{len_held}
use Rattle.number_map.proofs.map.NumberMap.len.Goals as goal

pub returns : goal.returns
returns g c = c.len.ensures.len ∙ (len_held c.self.inside.entries.entries c.len.ensures.unique ∙ ap map.len c.self.view_is)
