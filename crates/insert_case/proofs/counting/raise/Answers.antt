use Rattle.std.proofs.Common.{◌≡◌, false, true, sym, ◌∙◌, inl, inr, refl}
use Rattle.std.specs.FinMap as map
use Rattle.insert_case.proofs.Raised.{is_there, core_raised, became_last, other_raised}
use Rattle.insert_case.proofs.counting.raise.Goals as goal

pub returns-in_ok-push-clause-counts : goal.returns-in_ok-push-clause-counts
returns-in_ok-push-clause-counts c =
    let r = is_there (map.get c.args.counts.now.rows c.args.number) c.requires in
    core_raised c.args.counts.now c.add_one.new.self c.args.number r.0 r.1 c.add_one.ensures.rest c.set_anchor.new.self c.set_anchor.ensures (c.add_one.ensures.value.0 c.if-add_one.true)

pub returns-in_ok-push-clause-cores : goal.returns-in_ok-push-clause-cores
returns-in_ok-push-clause-cores c =
    let r = is_there (map.get c.args.counts.now.rows c.args.number) c.requires in
    inl (became_last c.args.counts.now c.add_one.new.self c.args.number r.0 r.1 c.add_one.ensures.rest c.set_anchor.new.self c.set_anchor.ensures (c.add_one.ensures.value.0 c.if-add_one.true), c.in_ok-push.ensures.ok)

pub returns-else-add_one-clause-counts : goal.returns-else-add_one-clause-counts
returns-else-add_one-clause-counts c =
    let r = is_there (map.get c.args.counts.now.rows c.args.number) c.requires in
    other_raised c.args.counts.now c.add_one.new.self c.args.number r.0 r.1 c.add_one.ensures.rest (λ b. let bad : false ≡ true = sym c.if-add_one.false ∙ c.add_one.ensures.value.1 b in cc)

pub returns-else-add_one-clause-cores : goal.returns-else-add_one-clause-cores
returns-else-add_one-clause-cores c = inr ((λ b. let bad : false ≡ true = sym c.if-add_one.false ∙ c.add_one.ensures.value.1 b in cc), refl)
