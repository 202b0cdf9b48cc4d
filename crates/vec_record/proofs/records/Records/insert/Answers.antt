use Rattle.std.proofs.Common.{◌∙◌, sym, ap}
use Rattle.std.specs.FinMap as map
use Rattle.vec_record.proofs.Maps.{all_inserted, one_given}
use Rattle.vec_record.proofs.records.Records.insert.Goals as goal

pub invariant_of-self-2 : goal.invariant_of-self-2
invariant_of-self-2 c = (
  c.self.invariant.0,
  rw c.in_ok-insert.ensures.entries (all_inserted _ _ _ _
      (record {
        number = c.requires.number;
        vector = record { len = c.requires.width ∙ ap (λ s. s.width) (sym c.self.view_is); bytes = c.as_slice.ensures.bytes };
      }) c.self.invariant.1),
)

pub returns-clause-ok : goal.returns-clause-ok
returns-clause-ok c =
    ap (λ m. record { width = c.self.inside.width; vectors = m }) (one_given c.self.inside.vectors.entries c.insert.new.self.entries c.args.number c.args.vector c.in_ok-insert.ensures.updates.0)
    ∙ ap (λ s. record { width = s.width; vectors = map.insert s.vectors c.args.number c.args.vector }) c.self.view_is
