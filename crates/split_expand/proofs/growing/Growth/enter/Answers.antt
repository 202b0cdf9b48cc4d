use Rattle.std.proofs.Common.{◌≡◌, cond, [], ◌∷◌, ◌++◌, sym, ap, subst, ◌∙◌}
use Rattle.chain_growth.specs.inside.Lists.{In, Distinct, missing, with_one}
use Rattle.chain_growth.proofs.Entering.{any_flip, distinct_one, with_within, missing_other}
use Rattle.split_expand.proofs.growing.Growth.enter.Goals as goal

pub returns-clause-sound : goal.returns-clause-sound
returns-clause-sound c =
    let b = c.args.core in
    let old = c.args.self.now.order.keys in
    let seeds = c.args.self.now.seeds.keys in
    let keys : c.insert.new.self.keys ≡ with_one old b = c.in_ok-insert.ensures.keys ∙ ap (λ t. cond t old (old ++ b ∷ [])) (any_flip b old) in
    record {
      seeds_within = c.requires.sound.seeds_within;
      seeds_once = c.requires.sound.seeds_once;
      once = subst Distinct (sym keys) (distinct_one old b c.requires.sound.once);
      within = λ x m. with_within old c.args.self.now.members b c.requires.sound.within c.requires.member x (subst (λ xs. In xs x) keys m);
      unfound = c.requires.sound.unfound ∙ sym (ap (missing seeds) keys ∙ missing_other seeds old b c.requires.other);
    }
