use Rattle.std.proofs.Common.{◌∙◌, ap}
use Rattle.std.specs.FinMap as map
use Rattle.vec_record.proofs.Maps.{len_held}
use Rattle.vec_record.proofs.records.Records.len.Goals as goal

pub returns : goal.returns
returns c = c.len.ensures.len ∙ (len_held c.self.inside.vectors.entries c.len.ensures.ordered ∙ ap (λ s. map.len s.vectors) c.self.view_is)
