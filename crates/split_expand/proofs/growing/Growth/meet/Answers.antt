use Rattle.std.proofs.Common.{refl, sym, ap, inl, inr}
use Rattle.std.proofs.lemmas.Result.{on_ok_weaker}
use Rattle.chain_growth.specs.inside.Lists.{In}
use Rattle.chain_growth.proofs.Entering.{one_there}
use Rattle.split_expand.proofs.Tested.{in_by, out_by}
use Rattle.split_expand.proofs.growing.Growth.meet.Goals as goal

pub returns-then-contains-clause-met : goal.returns-then-contains-clause-met
returns-then-contains-clause-met c =
    let g = c.args.self.now in
    let n = c.args.number in
    let here : In g.order.keys n = in_by n g.order.keys c.contains.result c.contains.ensures c.if-contains.true in
    inl (sym (one_there g.order.keys n here), (c.requires.sound.within n here, refl))

pub enter_seed-requires-clause-seed : goal.enter_seed-requires-clause-seed
enter_seed-requires-clause-seed c = in_by c.args.number c.args.self.now.seeds.keys c.contains-2.result c.contains-2.ensures c.if-contains-2.true

pub returns-then-contains-2-clause-met : goal.returns-then-contains-2-clause-met
returns-then-contains-2-clause-met c =
    let g = c.args.self.now in
    let n = c.args.number in
    let seed : In g.seeds.keys n = in_by n g.seeds.keys c.contains-2.result c.contains-2.ensures c.if-contains-2.true in
    on_ok_weaker c.enter_seed.result (λ o. inl (o, (c.requires.sound.seeds_within n seed, ap (λ v. v.items) c.enter_seed.ensures.later))) c.enter_seed.ensures.order

pub returns-clause-met : goal.returns-clause-met
returns-clause-met c =
    let g = c.args.self.now in
    let n = c.args.number in
    inr (refl, (out_by n g.seeds.keys c.contains-2.result c.contains-2.ensures c.if-contains-2.false, c.in_ok-push.ensures.items))
