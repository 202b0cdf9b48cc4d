use Rattle.std.proofs.Common.{◌≡◌, ◌<◌, ◌≤◌, ℕ, List, [], ◌∷◌, ◌++◌, cond, length, get_or, ap, ◌∙◌, arith}
use Rattle.chain_growth.specs.inside.Lists.{with_one}
use Rattle.chain_growth.proofs.Entering.{any_flip}
use Rattle.split_expand.proofs.Sets.{set_none, set_next, set_all}
use Rattle.split_expand.proofs.splitting.set_of.Goals as goal

pub loop-i-init : goal.loop-i-init
loop-i-init c = set_none c.args.numbers.now c.in_ok-set.set.keys c.in_ok-set.ensures.empty

pub loop-i-preserved : goal.loop-i-preserved
loop-i-preserved c =
    let xs = c.args.numbers.now in
    let items = c.as_slice-items.result.now in
    let i = c.loop-i.i in
    let old = c.loop-i.set.keys in
    let b = get_or items i 0 in
    let at : b ≡ get_or xs i 0 = ap (λ (ys : List ℕ). get_or ys i 0) c.as_slice-items.ensures in
    let lt : i < length xs = omega (arith, c.loop-i-test.true, ap length c.as_slice-items.ensures) in
    let is : c.insert.new.self.keys ≡ with_one old b = c.in_ok-insert.ensures.keys ∙ ap (λ t. cond t old (old ++ b ∷ [])) (any_flip b old) in
    set_next xs old c.insert.new.self.keys i lt c.loop-i.invariant (is ∙ ap (with_one old) at)

pub returns : goal.returns
returns c =
    let end : length c.args.numbers.now ≤ c.loop-i.i = omega (arith, c.loop-i-test.false, ap length c.as_slice-items.ensures) in
    set_all c.args.numbers.now c.loop-i.set.keys c.loop-i.i end c.loop-i.invariant
