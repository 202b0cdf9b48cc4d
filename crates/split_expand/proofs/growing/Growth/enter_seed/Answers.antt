use Rattle.std.proofs.Common.{◌≡◌, true, false, cond, [], ◌∷◌, ◌++◌, sym, ap, subst, ◌∙◌, arith}
use Rattle.chain_growth.specs.inside.Lists.{is_in, In, Distinct, missing, with_one}
use Rattle.chain_growth.proofs.Entering.{any_flip, distinct_one, with_within, missing_seed, missing_there}
use Rattle.split_expand.proofs.Tested.{now_false, now_true}
use Rattle.split_expand.proofs.growing.Growth.enter_seed.Goals as goal

pub overflow_sub-self : goal.overflow_sub-self
overflow_sub-self c =
    let b = c.args.seed in
    let old = c.args.self.now.order.keys in
    let seeds = c.args.self.now.seeds.keys in
    let out : is_in old b ≡ false = sym (any_flip b old) ∙ now_false _ _ c.if-branch.true c.in_ok-insert.ensures.added in
    omega (arith, c.requires.sound.unfound, missing_seed seeds old b c.requires.sound.seeds_once c.requires.seed out)

pub returns-then-branch-clause-sound : goal.returns-then-branch-clause-sound
returns-then-branch-clause-sound c =
    let b = c.args.seed in
    let old = c.args.self.now.order.keys in
    let seeds = c.args.self.now.seeds.keys in
    let new = c.insert.new.self.keys in
    let keys : new ≡ with_one old b = c.in_ok-insert.ensures.keys ∙ ap (λ t. cond t old (old ++ b ∷ [])) (any_flip b old) in
    let out : is_in old b ≡ false = sym (any_flip b old) ∙ now_false _ _ c.if-branch.true c.in_ok-insert.ensures.added in
    let same : missing seeds new ≡ missing seeds (with_one old b) = ap (missing seeds) keys in
    let here : In c.args.self.now.members b = c.requires.sound.seeds_within b c.requires.seed in
    record {
      seeds_within = c.requires.sound.seeds_within;
      seeds_once = c.requires.sound.seeds_once;
      once = subst Distinct (sym keys) (distinct_one old b c.requires.sound.once);
      within = λ x m. with_within old c.args.self.now.members b c.requires.sound.within here x (subst (λ xs. In xs x) keys m);
      unfound = omega (arith, c.requires.sound.unfound, same, missing_seed seeds old b c.requires.sound.seeds_once c.requires.seed out);
    }

pub returns-else-branch-clause-sound : goal.returns-else-branch-clause-sound
returns-else-branch-clause-sound c =
    let b = c.args.seed in
    let old = c.args.self.now.order.keys in
    let seeds = c.args.self.now.seeds.keys in
    let keys : c.insert.new.self.keys ≡ with_one old b = c.in_ok-insert.ensures.keys ∙ ap (λ t. cond t old (old ++ b ∷ [])) (any_flip b old) in
    let here : In c.args.self.now.members b = c.requires.sound.seeds_within b c.requires.seed in
    let was : is_in old b ≡ true = sym (any_flip b old) ∙ now_true _ _ c.if-branch.false c.in_ok-insert.ensures.added in
    record {
      seeds_within = c.requires.sound.seeds_within;
      seeds_once = c.requires.sound.seeds_once;
      once = subst Distinct (sym keys) (distinct_one old b c.requires.sound.once);
      within = λ x m. with_within old c.args.self.now.members b c.requires.sound.within here x (subst (λ xs. In xs x) keys m);
      unfound = c.requires.sound.unfound ∙ sym (ap (missing seeds) keys ∙ missing_there seeds old b was);
    }
