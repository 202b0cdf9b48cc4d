use Rattle.std.proofs.Common.{◌≡◌, ◌+◌, ℕ, List, true, length, get_or, IsTrue, sym, ap, subst, ◌∙◌, arith}
use Rattle.std.specs.FinMap as map
use Rattle.plain_dbscan.specs.Marks.{density}
use Rattle.plain_dbscan.proofs.Members.{member_at}
use Rattle.update_seed.specs.Books.{near_in}
use Rattle.update_seed.proofs.Clusters.{found_near}
use Rattle.chain_growth.specs.inside.Lists.{is_in, In}
use Rattle.chain_growth.specs.inside.Work.{Enters}
use Rattle.chain_growth.proofs.Lists.{in_member}
use Rattle.chain_growth.proofs.Views.{listed_in, in_listed}
use Rattle.split_expand.specs.declared.growing.Growth.{Growth}
use Rattle.split_expand.specs.inside.Growing.{next_in}
use Rattle.split_expand.proofs.Meeting.{met_both}
use Rattle.split_expand.proofs.growing.ask_next.Goals as goal

pub ask-requires-clause-there : goal.ask-requires-clause-there
ask-requires-clause-there g c =
    let grown = c.args.growth.now in
    let core = get_or c.as_slice.result.now grown.asked 0 in
    let at : core ≡ next_in grown = ap (λ (xs : List ℕ). get_or xs grown.asked 0) c.as_slice.ensures.keys in
    let m : In grown.order.keys (next_in grown) = in_member grown.order.keys (next_in grown) (member_at grown.order.keys grown.asked c.requires.asked) in
    c.requires.there core (in_listed grown.members core (subst (λ (x : ℕ). In grown.members x) (sym at) (c.requires.sound.within (next_in grown) m)))

pub enter_later-requires-clause-others : goal.enter_later-requires-clause-others
enter_later-requires-clause-others g c =
    let e = c.in_ok-enter_seeds.ensures in
    λ x m. ap (λ s. is_in s.keys x) e.seeds ∙ (e.entered.later x m).1

pub overflow_add-growth : goal.overflow_add-growth
overflow_add-growth g c = omega (arith, c.in_ok-enter_later.ensures.asked, c.in_ok-enter_seeds.ensures.asked, c.requires.asked, ap length c.as_slice.ensures.keys, c.as_slice.type_inv.0)

pub returns-clause-sound : goal.returns-clause-sound
returns-clause-sound g c =
    let s = c.in_ok-enter_later.ensures.sound in
    record { seeds_within = s.seeds_within; seeds_once = s.seeds_once; once = s.once; within = s.within; unfound = s.unfound }

pub returns-clause-members : goal.returns-clause-members
returns-clause-members g c = c.in_ok-enter_later.ensures.members ∙ c.in_ok-enter_seeds.ensures.members

pub returns-clause-seeds : goal.returns-clause-seeds
returns-clause-seeds g c = c.in_ok-enter_later.ensures.seeds ∙ c.in_ok-enter_seeds.ensures.seeds

pub returns-clause-asked : goal.returns-clause-asked
returns-clause-asked g c = ap (λ (n : ℕ). n + 1) (c.in_ok-enter_later.ensures.asked ∙ c.in_ok-enter_seeds.ensures.asked)

pub returns-clause-entered : goal.returns-clause-entered
returns-clause-entered g c =
    let grown = c.args.growth.now in
    let dist = g.M.Metric.dist in
    let records = c.args.records.now in
    let near = near_in dist c.args.eps records in
    let members = grown.members in
    let core = get_or c.as_slice.result.now grown.asked 0 in
    let at : core ≡ next_in grown = ap (λ (xs : List ℕ). get_or xs grown.asked 0) c.as_slice.ensures.keys in
    let found = c.ask.new.near in
    let all = found_near (density dist c.args.eps 1) (map.entries records.vectors) core found c.in_ok-ask.ensures.near in
    let one = c.enter_seeds.new.self in
    let two = c.enter_later.new.self in
    let e = c.in_ok-enter_seeds.ensures in
    let mid : Growth = record grown { near = found } in
    let k : Enters one.members one.later.items one.order.keys two.order.keys true (length one.later.items) = c.in_ok-enter_later.ensures.entered in
    let k' : Enters members one.later.items one.order.keys two.order.keys true (length one.later.items) =
    subst (λ (ms : List ℕ). Enters ms one.later.items one.order.keys two.order.keys true (length one.later.items)) e.members k in
    met_both near mid one (next_in grown) two.order.keys (λ x m. subst (λ (y : ℕ). IsTrue (near y x)) at ((all x).0 (in_listed found x m)))
    (λ x n. listed_in found x ((all x).1 (subst (λ (y : ℕ). IsTrue (near y x)) (sym at) n))) e.entered k'
