use Rattle.label_book.specs.Labels.{IsMember}
use Rattle.chain_growth.specs.inside.Lists.{In}
use Rattle.chain_growth.proofs.Exists.{last_seed, farthest}
use Rattle.chain_growth.proofs.Views.{listed_in, in_listed, union_as, seeds_as, last_as, far_as}
use Rattle.chain_growth.proofs.laws.has_last_class.Goals as goal

pub returns : goal.returns
returns c core near former seeds q union are m =
    let F = IsMember former in
    let S = IsMember seeds in
    let union' = union_as core near F (In former) (listed_in former) (in_listed former) union in
    let are' = seeds_as core near F (In former) S (In seeds) (listed_in former) (in_listed former) (listed_in seeds) (in_listed seeds) are in
    let s = last_seed core near former seeds union' are' q (listed_in seeds q m) in
    let e = farthest core near former seeds union' are' s.0 s.1.seed in
    (s.0, e.0, last_as core near (In seeds) S (in_listed seeds) (listed_in seeds) s.0 s.1, far_as core near (In seeds) S (in_listed seeds) (listed_in seeds) s.0 e.0 e.1)
