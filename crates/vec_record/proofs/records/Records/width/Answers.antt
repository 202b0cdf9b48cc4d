use Rattle.std.proofs.Common.{subst}
use Rattle.vec_record.specs.Held.{Held, HaveWidth, NoneAtZero}
use Rattle.vec_record.proofs.Maps.{have_width, none_at_zero}
use Rattle.vec_record.proofs.records.Records.width.Goals as goal

pub returns-clause-vectors : goal.returns-clause-vectors
returns-clause-vectors c =
    subst (λ (s : Held). HaveWidth s.width s.vectors) c.self.view_is (have_width c.self.inside.width c.self.inside.vectors.entries c.self.invariant.1)

pub returns-clause-numbers : goal.returns-clause-numbers
returns-clause-numbers c = subst (λ (s : Held). NoneAtZero s.vectors) c.self.view_is (none_at_zero c.self.inside.width c.self.inside.vectors.entries c.self.invariant.1)
