use Rattle.std.proofs.Common.{◌∙◌, sym, ap, subst}
use Rattle.std.specs.FinMap as map
use Rattle.vec_record.specs.Held.{Held, AreAll}
use Rattle.vec_record.proofs.Maps.{entries_held}
use Rattle.vec_record.proofs.records.Records.iter.Goals as goal

pub returns-clause-rest : goal.returns-clause-rest
returns-clause-rest c =
    c.iter.ensures.rest ∙ (sym (entries_held c.self.inside.vectors.entries c.iter.ensures.ordered) ∙ ap (λ (s : Held). map.entries s.vectors) c.self.view_is)

pub returns-clause-records : goal.returns-clause-records
returns-clause-records c =
    subst (λ (s : Held). AreAll s.width (map.entries s.vectors)) c.self.view_is
    (subst (AreAll c.self.inside.width) (sym (entries_held c.self.inside.vectors.entries c.iter.ensures.ordered)) c.self.invariant.1)
