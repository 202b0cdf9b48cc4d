use Rattle.std.proofs.Common.{◌∙◌, sym, ap}
use Rattle.std.specs.FinMap as map
use Rattle.std.specs.Ordering.{nat_cmp}
use Rattle.vec_record.specs.Held.{NoneAtZero}
use Rattle.vec_record.proofs.Maps.{get_vector, all_removed, one_taken, none_at_zero, some_number}
use Rattle.vec_record.proofs.records.Records.remove.Goals as goal

pub invariant_of-self : goal.invariant_of-self
invariant_of-self c = (c.self.invariant.0, rw c.remove.ensures.entries (all_removed _ _ _ c.self.invariant.1))

pub returns-clause-value : goal.returns-clause-value
returns-clause-value c =
    c.remove.ensures.value ∙ (sym (get_vector c.self.inside.vectors.entries c.args.number) ∙ ap (λ s. map.get s.vectors c.args.number) c.self.view_is)

pub returns-clause-rest : goal.returns-clause-rest
returns-clause-rest c =
    ap (λ m. record { width = c.self.inside.width; vectors = m }) (one_taken c.self.inside.vectors.entries c.remove.new.self.entries c.args.number c.remove.ensures.updates.0)
    ∙ ap (λ s. record { width = s.width; vectors = map.remove s.vectors c.args.number }) c.self.view_is

pub returns-clause-number : goal.returns-clause-number
returns-clause-number c =
    let rows = map.from_entries {R = nat_cmp} c.self.inside.vectors.entries in
    let none : NoneAtZero rows = none_at_zero c.self.inside.width c.self.inside.vectors.entries c.self.invariant.1 in
    some_number rows c.args.number c.remove.result none (λ absent. c.remove.ensures.value ∙ (sym (get_vector c.self.inside.vectors.entries c.args.number) ∙ absent))
