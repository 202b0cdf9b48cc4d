use Rattle.std.proofs.Common.{◌∙◌, sym, ap, subst, IfSome}
use Rattle.std.specs.FinMap as map
use Rattle.std.specs.Ordering.{nat_cmp}
use Rattle.vec_record.specs.Vectors.{IsVector}
use Rattle.vec_record.specs.Held.{NoneAtZero}
use Rattle.vec_record.proofs.Maps.{get_vector, found_vector, behind, none_at_zero, some_number, lent_none}
use Rattle.vec_record.proofs.records.Records.get.Goals as goal

pub returns-clause-value : goal.returns-clause-value
returns-clause-value c =
    c.get.ensures.value ∙ (sym (get_vector c.self.inside.vectors.entries c.args.number) ∙ ap (λ s. map.get s.vectors c.args.number) c.self.view_is)

pub returns-clause-vector : goal.returns-clause-vector
returns-clause-vector c =
    subst (λ s. IfSome c.get.result (λ v. IsVector s.width v.now)) c.self.view_is
    (behind (IsVector c.self.inside.width) c.get.result _ c.get.ensures.value (found_vector _ _ _ c.self.invariant.1))

pub returns-clause-number : goal.returns-clause-number
returns-clause-number c =
    let rows = map.from_entries {R = nat_cmp} c.self.inside.vectors.entries in
    let none : NoneAtZero rows = none_at_zero c.self.inside.width c.self.inside.vectors.entries c.self.invariant.1 in
    some_number rows c.args.number c.get.result none (λ absent. lent_none c.get.result (c.get.ensures.value ∙ (sym (get_vector c.self.inside.vectors.entries c.args.number) ∙ absent)))
