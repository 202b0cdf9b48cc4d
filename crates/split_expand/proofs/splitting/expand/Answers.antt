use Rattle.std.proofs.Common.{◌≡◌, ◌+◌, ◌<◌, ℕ, false, List, [], ◌∷◌, ◌++◌, length, get_or, sym, ap, subst, arith}
use Rattle.update_seed.specs.Books.{near_in, core_in}
use Rattle.update_seed.specs.Price.{cost_at}
use Rattle.update_seed.proofs.Clusters.{near_alike}
use Rattle.chain_growth.specs.inside.Lists.{is_in, In}
use Rattle.split_expand.specs.Remaining.{remaining}
use Rattle.split_expand.specs.Split.{AreGroupsOf, AreSplit}
use Rattle.split_expand.proofs.Tested.{out_by, in_by}
use Rattle.split_expand.proofs.Paid.{paid_none, bounded_none, no_groups, one_class}
use Rattle.split_expand.proofs.Known.{IsKnown, known_start, known_there, known_more, groups_now, paid_now, bounded_now, split_now, paid_then, bounded_then, split_then, seed_in, there_in, entered_few, begins_in}
use Rattle.split_expand.proofs.splitting.expand.Goals as goal
use Rattle.split_expand.proofs.splitting.expand.Goals.{then-not-contains+in_ok-enter_seed+in_ok-grow+else-not-branch+in_ok-group+in_ok-push, else-not-contains}

pub returns-in_err-starts-clause-paid : goal.returns-in_err-starts-clause-paid
returns-in_err-starts-clause-paid g c =
    let core = core_in c.args.counts.now in
    let near = near_in g.M.Metric.dist c.args.eps c.args.records.now in
    let cost = cost_at (g.I.RangeIndex.cost c.args.index.now) c.args.records.now c.args.eps in
    let former = remaining c.args.counts.now c.args.labels.now c.args.label in
    let seeds = c.args.seeds.now in
    paid_none core near cost former seeds c.args.steps.now

pub returns-in_err-starts-clause-counted : goal.returns-in_err-starts-clause-counted
returns-in_err-starts-clause-counted g c =
    let core = core_in c.args.counts.now in
    let near = near_in g.M.Metric.dist c.args.eps c.args.records.now in
    let cost = cost_at (g.I.RangeIndex.cost c.args.index.now) c.args.records.now c.args.eps in
    let former = remaining c.args.counts.now c.args.labels.now c.args.label in
    let seeds = c.args.seeds.now in
    bounded_none core near cost former seeds c.args.steps.now

pub returns-in_err-growth-clause-paid : goal.returns-in_err-growth-clause-paid
returns-in_err-growth-clause-paid g c =
    let core = core_in c.args.counts.now in
    let near = near_in g.M.Metric.dist c.args.eps c.args.records.now in
    let cost = cost_at (g.I.RangeIndex.cost c.args.index.now) c.args.records.now c.args.eps in
    let former = remaining c.args.counts.now c.args.labels.now c.args.label in
    let seeds = c.args.seeds.now in
    paid_none core near cost former seeds c.args.steps.now

pub returns-in_err-growth-clause-counted : goal.returns-in_err-growth-clause-counted
returns-in_err-growth-clause-counted g c =
    let core = core_in c.args.counts.now in
    let near = near_in g.M.Metric.dist c.args.eps c.args.records.now in
    let cost = cost_at (g.I.RangeIndex.cost c.args.index.now) c.args.records.now c.args.eps in
    let former = remaining c.args.counts.now c.args.labels.now c.args.label in
    let seeds = c.args.seeds.now in
    bounded_none core near cost former seeds c.args.steps.now

pub returns-then-many-lt2-clause-paid : goal.returns-then-many-lt2-clause-paid
returns-then-many-lt2-clause-paid g c =
    let core = core_in c.args.counts.now in
    let near = near_in g.M.Metric.dist c.args.eps c.args.records.now in
    let cost = cost_at (g.I.RangeIndex.cost c.args.index.now) c.args.records.now c.args.eps in
    let former = remaining c.args.counts.now c.args.labels.now c.args.label in
    let seeds = c.args.seeds.now in
    paid_none core near cost former seeds c.args.steps.now

pub returns-then-many-lt2-clause-counted : goal.returns-then-many-lt2-clause-counted
returns-then-many-lt2-clause-counted g c =
    let core = core_in c.args.counts.now in
    let near = near_in g.M.Metric.dist c.args.eps c.args.records.now in
    let cost = cost_at (g.I.RangeIndex.cost c.args.index.now) c.args.records.now c.args.eps in
    let former = remaining c.args.counts.now c.args.labels.now c.args.label in
    let seeds = c.args.seeds.now in
    bounded_none core near cost former seeds c.args.steps.now

pub returns-then-many-lt2-clause-groups : goal.returns-then-many-lt2-clause-groups
returns-then-many-lt2-clause-groups g c =
    subst (AreGroupsOf (remaining c.args.counts.now c.args.labels.now c.args.label)) (sym c.new-groups.ensures) (no_groups (remaining c.args.counts.now c.args.labels.now c.args.label))

pub returns-then-many-lt2-clause-split : goal.returns-then-many-lt2-clause-split
returns-then-many-lt2-clause-split g c =
    let core = core_in c.args.counts.now in
    let near = near_in g.M.Metric.dist c.args.eps c.args.records.now in
    let cost = cost_at (g.I.RangeIndex.cost c.args.index.now) c.args.records.now c.args.eps in
    let former = remaining c.args.counts.now c.args.labels.now c.args.label in
    let seeds = c.args.seeds.now in
    let alike = near_alike g.M.Metric.dist c.args.eps 1 c.args.records.now.width c.args.records.now.vectors c.width.ensures.vectors (λ (u v : List ℕ). g.met.M.Metric.symmetry c.args.records.now.width u v c.width.ensures.width) in
    let few : length c.in_ok-starts.starts.keys < 2 = omega (arith, c.if-many-lt2.true, c.len-many.ensures.len) in
    λ f. subst (λ (gs : List (List ℕ)). AreSplit core near former gs) (sym c.new-groups.ensures) (one_class core near alike former seeds c.in_ok-starts.starts.keys c.in_ok-starts.ensures.set few f)

pub loop-k-init : goal.loop-k-init
loop-k-init g c =
    let core = core_in c.args.counts.now in
    let near = near_in g.M.Metric.dist c.args.eps c.args.records.now in
    let cost = cost_at (g.I.RangeIndex.cost c.args.index.now) c.args.records.now c.args.eps in
    let former = remaining c.args.counts.now c.args.labels.now c.args.label in
    let seeds = c.args.seeds.now in
    let starts = c.in_ok-starts.starts.keys in
    let grown = c.in_ok-growth.growth in
    let n = c.args.steps.now in
    let start : IsKnown core near cost former seeds grown [] (length starts) 0 n n = known_start core near cost former seeds starts grown n c.requires.seeds c.in_ok-starts.ensures.set c.in_ok-starts.ensures.order c.in_ok-growth.ensures in
    subst (λ (gs : List (List ℕ)). IsKnown core near cost former seeds grown gs c.len-many.result 0 n n) (sym c.new-groups.ensures)
    (subst (λ (m : ℕ). IsKnown core near cost former seeds grown [] m 0 n n) (sym c.len-many.ensures.len) start)

pub enter_seed-requires-clause-seed : goal.enter_seed-requires-clause-seed
enter_seed-requires-clause-seed g c =
    let core = core_in c.args.counts.now in
    let near = near_in g.M.Metric.dist c.args.eps c.args.records.now in
    let cost = cost_at (g.I.RangeIndex.cost c.args.index.now) c.args.records.now c.args.eps in
    let former = remaining c.args.counts.now c.args.labels.now c.args.label in
    let seeds = c.args.seeds.now in
    let alike = near_alike g.M.Metric.dist c.args.eps 1 c.args.records.now.width c.args.records.now.vectors c.width.ensures.vectors (λ (u v : List ℕ). g.met.M.Metric.symmetry c.args.records.now.width u v c.width.ensures.width) in
    let grown = c.loop-k.growth in
    let groups = c.loop-k.groups in
    let inv = c.loop-k.invariant in
    let s = get_or c.as_slice.result.now c.loop-k.k 0 in
    let at : get_or grown.seeds.keys c.loop-k.k 0 ≡ s = ap (λ (xs : List ℕ). get_or xs c.loop-k.k 0) (sym c.as_slice.ensures.keys) in
    let out : is_in grown.order.keys s ≡ false = out_by s grown.order.keys c.contains.result c.contains.ensures c.if-not-contains.true in
    let lt = c.loop-k-test.true in
    seed_in core near cost former seeds alike grown groups c.len-many.result c.loop-k.k c.args.steps.now c.loop-k.steps inv s at lt

pub grow-requires-clause-alike : goal.grow-requires-clause-alike
grow-requires-clause-alike g c =
    let alike = near_alike g.M.Metric.dist c.args.eps 1 c.args.records.now.width c.args.records.now.vectors c.width.ensures.vectors (λ (u v : List ℕ). g.met.M.Metric.symmetry c.args.records.now.width u v c.width.ensures.width) in
    alike

pub grow-requires-clause-there : goal.grow-requires-clause-there
grow-requires-clause-there g c =
    let core = core_in c.args.counts.now in
    let near = near_in g.M.Metric.dist c.args.eps c.args.records.now in
    let cost = cost_at (g.I.RangeIndex.cost c.args.index.now) c.args.records.now c.args.eps in
    let former = remaining c.args.counts.now c.args.labels.now c.args.label in
    let seeds = c.args.seeds.now in
    let alike = near_alike g.M.Metric.dist c.args.eps 1 c.args.records.now.width c.args.records.now.vectors c.width.ensures.vectors (λ (u v : List ℕ). g.met.M.Metric.symmetry c.args.records.now.width u v c.width.ensures.width) in
    let grown = c.loop-k.growth in
    let groups = c.loop-k.groups in
    let inv = c.loop-k.invariant in
    let s = get_or c.as_slice.result.now c.loop-k.k 0 in
    let at : get_or grown.seeds.keys c.loop-k.k 0 ≡ s = ap (λ (xs : List ℕ). get_or xs c.loop-k.k 0) (sym c.as_slice.ensures.keys) in
    let out : is_in grown.order.keys s ≡ false = out_by s grown.order.keys c.contains.result c.contains.ensures c.if-not-contains.true in
    there_in core near cost former seeds alike grown groups c.len-many.result c.loop-k.k c.args.steps.now c.loop-k.steps inv s at c.loop-k-test.true out c.enter_seed.new.self c.in_ok-enter_seed.ensures.members c.in_ok-enter_seed.ensures.seeds c.in_ok-enter_seed.ensures.order c.in_ok-enter_seed.ensures.asked c.args.records.now c.args.counts.now c.requires.former

pub grow-requires-clause-asked : goal.grow-requires-clause-asked
grow-requires-clause-asked g c =
    let core = core_in c.args.counts.now in
    let near = near_in g.M.Metric.dist c.args.eps c.args.records.now in
    let cost = cost_at (g.I.RangeIndex.cost c.args.index.now) c.args.records.now c.args.eps in
    let former = remaining c.args.counts.now c.args.labels.now c.args.label in
    let seeds = c.args.seeds.now in
    let alike = near_alike g.M.Metric.dist c.args.eps 1 c.args.records.now.width c.args.records.now.vectors c.width.ensures.vectors (λ (u v : List ℕ). g.met.M.Metric.symmetry c.args.records.now.width u v c.width.ensures.width) in
    let grown = c.loop-k.growth in
    let groups = c.loop-k.groups in
    let inv = c.loop-k.invariant in
    let s = get_or c.as_slice.result.now c.loop-k.k 0 in
    let at : get_or grown.seeds.keys c.loop-k.k 0 ≡ s = ap (λ (xs : List ℕ). get_or xs c.loop-k.k 0) (sym c.as_slice.ensures.keys) in
    let out : is_in grown.order.keys s ≡ false = out_by s grown.order.keys c.contains.result c.contains.ensures c.if-not-contains.true in
    entered_few core near cost former seeds alike grown groups c.len-many.result c.loop-k.k c.args.steps.now c.loop-k.steps inv s at c.loop-k-test.true out c.enter_seed.new.self c.in_ok-enter_seed.ensures.members c.in_ok-enter_seed.ensures.seeds c.in_ok-enter_seed.ensures.order c.in_ok-enter_seed.ensures.asked

pub since-requires : goal.since-requires
since-requires g c =
    let core = core_in c.args.counts.now in
    let near = near_in g.M.Metric.dist c.args.eps c.args.records.now in
    let cost = cost_at (g.I.RangeIndex.cost c.args.index.now) c.args.records.now c.args.eps in
    let former = remaining c.args.counts.now c.args.labels.now c.args.label in
    let seeds = c.args.seeds.now in
    let alike = near_alike g.M.Metric.dist c.args.eps 1 c.args.records.now.width c.args.records.now.vectors c.width.ensures.vectors (λ (u v : List ℕ). g.met.M.Metric.symmetry c.args.records.now.width u v c.width.ensures.width) in
    let grown = c.loop-k.growth in
    let groups = c.loop-k.groups in
    let inv = c.loop-k.invariant in
    let s = get_or c.as_slice.result.now c.loop-k.k 0 in
    let at : get_or grown.seeds.keys c.loop-k.k 0 ≡ s = ap (λ (xs : List ℕ). get_or xs c.loop-k.k 0) (sym c.as_slice.ensures.keys) in
    let out : is_in grown.order.keys s ≡ false = out_by s grown.order.keys c.contains.result c.contains.ensures c.if-not-contains.true in
    begins_in core near cost former seeds alike grown groups c.len-many.result c.loop-k.k c.args.steps.now c.loop-k.steps inv s at c.loop-k-test.true out c.enter_seed.new.self c.in_ok-enter_seed.ensures.members c.in_ok-enter_seed.ensures.seeds c.in_ok-enter_seed.ensures.order c.in_ok-enter_seed.ensures.asked c.grow.new.growth c.in_ok-grow.ensures.order

pub returns-in_err-enter_seed-clause-paid : goal.returns-in_err-enter_seed-clause-paid
returns-in_err-enter_seed-clause-paid g c =
    let core = core_in c.args.counts.now in
    let near = near_in g.M.Metric.dist c.args.eps c.args.records.now in
    let cost = cost_at (g.I.RangeIndex.cost c.args.index.now) c.args.records.now c.args.eps in
    let former = remaining c.args.counts.now c.args.labels.now c.args.label in
    let seeds = c.args.seeds.now in
    let alike = near_alike g.M.Metric.dist c.args.eps 1 c.args.records.now.width c.args.records.now.vectors c.width.ensures.vectors (λ (u v : List ℕ). g.met.M.Metric.symmetry c.args.records.now.width u v c.width.ensures.width) in
    let grown = c.loop-k.growth in
    let groups = c.loop-k.groups in
    let inv = c.loop-k.invariant in
    paid_now core near cost former seeds alike grown groups c.len-many.result c.loop-k.k c.args.steps.now c.loop-k.steps inv

pub returns-in_err-enter_seed-clause-counted : goal.returns-in_err-enter_seed-clause-counted
returns-in_err-enter_seed-clause-counted g c =
    let core = core_in c.args.counts.now in
    let near = near_in g.M.Metric.dist c.args.eps c.args.records.now in
    let cost = cost_at (g.I.RangeIndex.cost c.args.index.now) c.args.records.now c.args.eps in
    let former = remaining c.args.counts.now c.args.labels.now c.args.label in
    let seeds = c.args.seeds.now in
    let alike = near_alike g.M.Metric.dist c.args.eps 1 c.args.records.now.width c.args.records.now.vectors c.width.ensures.vectors (λ (u v : List ℕ). g.met.M.Metric.symmetry c.args.records.now.width u v c.width.ensures.width) in
    let grown = c.loop-k.growth in
    let groups = c.loop-k.groups in
    let inv = c.loop-k.invariant in
    bounded_now core near cost former seeds alike grown groups c.len-many.result c.loop-k.k c.args.steps.now c.loop-k.steps inv

pub returns-in_err-grow-clause-paid : goal.returns-in_err-grow-clause-paid
returns-in_err-grow-clause-paid g c =
    let core = core_in c.args.counts.now in
    let near = near_in g.M.Metric.dist c.args.eps c.args.records.now in
    let cost = cost_at (g.I.RangeIndex.cost c.args.index.now) c.args.records.now c.args.eps in
    let former = remaining c.args.counts.now c.args.labels.now c.args.label in
    let seeds = c.args.seeds.now in
    let alike = near_alike g.M.Metric.dist c.args.eps 1 c.args.records.now.width c.args.records.now.vectors c.width.ensures.vectors (λ (u v : List ℕ). g.met.M.Metric.symmetry c.args.records.now.width u v c.width.ensures.width) in
    let grown = c.loop-k.growth in
    let groups = c.loop-k.groups in
    let inv = c.loop-k.invariant in
    let s = get_or c.as_slice.result.now c.loop-k.k 0 in
    let at : get_or grown.seeds.keys c.loop-k.k 0 ≡ s = ap (λ (xs : List ℕ). get_or xs c.loop-k.k 0) (sym c.as_slice.ensures.keys) in
    let out : is_in grown.order.keys s ≡ false = out_by s grown.order.keys c.contains.result c.contains.ensures c.if-not-contains.true in
    paid_then core near cost former seeds alike grown groups c.len-many.result c.loop-k.k c.args.steps.now c.loop-k.steps inv s at c.loop-k-test.true out c.enter_seed.new.self c.in_ok-enter_seed.ensures.members c.in_ok-enter_seed.ensures.seeds c.in_ok-enter_seed.ensures.order c.in_ok-enter_seed.ensures.asked c.grow.new.steps (c.grow.ensures.paid core)

pub returns-in_err-grow-clause-counted : goal.returns-in_err-grow-clause-counted
returns-in_err-grow-clause-counted g c =
    let core = core_in c.args.counts.now in
    let near = near_in g.M.Metric.dist c.args.eps c.args.records.now in
    let cost = cost_at (g.I.RangeIndex.cost c.args.index.now) c.args.records.now c.args.eps in
    let former = remaining c.args.counts.now c.args.labels.now c.args.label in
    let seeds = c.args.seeds.now in
    let alike = near_alike g.M.Metric.dist c.args.eps 1 c.args.records.now.width c.args.records.now.vectors c.width.ensures.vectors (λ (u v : List ℕ). g.met.M.Metric.symmetry c.args.records.now.width u v c.width.ensures.width) in
    let grown = c.loop-k.growth in
    let groups = c.loop-k.groups in
    let inv = c.loop-k.invariant in
    let s = get_or c.as_slice.result.now c.loop-k.k 0 in
    let at : get_or grown.seeds.keys c.loop-k.k 0 ≡ s = ap (λ (xs : List ℕ). get_or xs c.loop-k.k 0) (sym c.as_slice.ensures.keys) in
    let out : is_in grown.order.keys s ≡ false = out_by s grown.order.keys c.contains.result c.contains.ensures c.if-not-contains.true in
    bounded_then core near cost former seeds alike grown groups c.len-many.result c.loop-k.k c.args.steps.now c.loop-k.steps inv s at c.loop-k-test.true out c.enter_seed.new.self c.in_ok-enter_seed.ensures.members c.in_ok-enter_seed.ensures.seeds c.in_ok-enter_seed.ensures.order c.in_ok-enter_seed.ensures.asked c.grow.new.steps (c.grow.ensures.paid core)

pub returns-then-not-branch-clause-paid : goal.returns-then-not-branch-clause-paid
returns-then-not-branch-clause-paid g c =
    let core = core_in c.args.counts.now in
    let near = near_in g.M.Metric.dist c.args.eps c.args.records.now in
    let cost = cost_at (g.I.RangeIndex.cost c.args.index.now) c.args.records.now c.args.eps in
    let former = remaining c.args.counts.now c.args.labels.now c.args.label in
    let seeds = c.args.seeds.now in
    let alike = near_alike g.M.Metric.dist c.args.eps 1 c.args.records.now.width c.args.records.now.vectors c.width.ensures.vectors (λ (u v : List ℕ). g.met.M.Metric.symmetry c.args.records.now.width u v c.width.ensures.width) in
    let grown = c.loop-k.growth in
    let groups = c.loop-k.groups in
    let inv = c.loop-k.invariant in
    let s = get_or c.as_slice.result.now c.loop-k.k 0 in
    let at : get_or grown.seeds.keys c.loop-k.k 0 ≡ s = ap (λ (xs : List ℕ). get_or xs c.loop-k.k 0) (sym c.as_slice.ensures.keys) in
    let out : is_in grown.order.keys s ≡ false = out_by s grown.order.keys c.contains.result c.contains.ensures c.if-not-contains.true in
    paid_then core near cost former seeds alike grown groups c.len-many.result c.loop-k.k c.args.steps.now c.loop-k.steps inv s at c.loop-k-test.true out c.enter_seed.new.self c.in_ok-enter_seed.ensures.members c.in_ok-enter_seed.ensures.seeds c.in_ok-enter_seed.ensures.order c.in_ok-enter_seed.ensures.asked c.grow.new.steps (c.grow.ensures.paid core)

pub returns-then-not-branch-clause-counted : goal.returns-then-not-branch-clause-counted
returns-then-not-branch-clause-counted g c =
    let core = core_in c.args.counts.now in
    let near = near_in g.M.Metric.dist c.args.eps c.args.records.now in
    let cost = cost_at (g.I.RangeIndex.cost c.args.index.now) c.args.records.now c.args.eps in
    let former = remaining c.args.counts.now c.args.labels.now c.args.label in
    let seeds = c.args.seeds.now in
    let alike = near_alike g.M.Metric.dist c.args.eps 1 c.args.records.now.width c.args.records.now.vectors c.width.ensures.vectors (λ (u v : List ℕ). g.met.M.Metric.symmetry c.args.records.now.width u v c.width.ensures.width) in
    let grown = c.loop-k.growth in
    let groups = c.loop-k.groups in
    let inv = c.loop-k.invariant in
    let s = get_or c.as_slice.result.now c.loop-k.k 0 in
    let at : get_or grown.seeds.keys c.loop-k.k 0 ≡ s = ap (λ (xs : List ℕ). get_or xs c.loop-k.k 0) (sym c.as_slice.ensures.keys) in
    let out : is_in grown.order.keys s ≡ false = out_by s grown.order.keys c.contains.result c.contains.ensures c.if-not-contains.true in
    bounded_then core near cost former seeds alike grown groups c.len-many.result c.loop-k.k c.args.steps.now c.loop-k.steps inv s at c.loop-k-test.true out c.enter_seed.new.self c.in_ok-enter_seed.ensures.members c.in_ok-enter_seed.ensures.seeds c.in_ok-enter_seed.ensures.order c.in_ok-enter_seed.ensures.asked c.grow.new.steps (c.grow.ensures.paid core)

pub returns-in_err-group-clause-paid : goal.returns-in_err-group-clause-paid
returns-in_err-group-clause-paid g c =
    let core = core_in c.args.counts.now in
    let near = near_in g.M.Metric.dist c.args.eps c.args.records.now in
    let cost = cost_at (g.I.RangeIndex.cost c.args.index.now) c.args.records.now c.args.eps in
    let former = remaining c.args.counts.now c.args.labels.now c.args.label in
    let seeds = c.args.seeds.now in
    let alike = near_alike g.M.Metric.dist c.args.eps 1 c.args.records.now.width c.args.records.now.vectors c.width.ensures.vectors (λ (u v : List ℕ). g.met.M.Metric.symmetry c.args.records.now.width u v c.width.ensures.width) in
    let grown = c.loop-k.growth in
    let groups = c.loop-k.groups in
    let inv = c.loop-k.invariant in
    let s = get_or c.as_slice.result.now c.loop-k.k 0 in
    let at : get_or grown.seeds.keys c.loop-k.k 0 ≡ s = ap (λ (xs : List ℕ). get_or xs c.loop-k.k 0) (sym c.as_slice.ensures.keys) in
    let out : is_in grown.order.keys s ≡ false = out_by s grown.order.keys c.contains.result c.contains.ensures c.if-not-contains.true in
    paid_then core near cost former seeds alike grown groups c.len-many.result c.loop-k.k c.args.steps.now c.loop-k.steps inv s at c.loop-k-test.true out c.enter_seed.new.self c.in_ok-enter_seed.ensures.members c.in_ok-enter_seed.ensures.seeds c.in_ok-enter_seed.ensures.order c.in_ok-enter_seed.ensures.asked c.grow.new.steps (c.grow.ensures.paid core)

pub returns-in_err-group-clause-counted : goal.returns-in_err-group-clause-counted
returns-in_err-group-clause-counted g c =
    let core = core_in c.args.counts.now in
    let near = near_in g.M.Metric.dist c.args.eps c.args.records.now in
    let cost = cost_at (g.I.RangeIndex.cost c.args.index.now) c.args.records.now c.args.eps in
    let former = remaining c.args.counts.now c.args.labels.now c.args.label in
    let seeds = c.args.seeds.now in
    let alike = near_alike g.M.Metric.dist c.args.eps 1 c.args.records.now.width c.args.records.now.vectors c.width.ensures.vectors (λ (u v : List ℕ). g.met.M.Metric.symmetry c.args.records.now.width u v c.width.ensures.width) in
    let grown = c.loop-k.growth in
    let groups = c.loop-k.groups in
    let inv = c.loop-k.invariant in
    let s = get_or c.as_slice.result.now c.loop-k.k 0 in
    let at : get_or grown.seeds.keys c.loop-k.k 0 ≡ s = ap (λ (xs : List ℕ). get_or xs c.loop-k.k 0) (sym c.as_slice.ensures.keys) in
    let out : is_in grown.order.keys s ≡ false = out_by s grown.order.keys c.contains.result c.contains.ensures c.if-not-contains.true in
    bounded_then core near cost former seeds alike grown groups c.len-many.result c.loop-k.k c.args.steps.now c.loop-k.steps inv s at c.loop-k-test.true out c.enter_seed.new.self c.in_ok-enter_seed.ensures.members c.in_ok-enter_seed.ensures.seeds c.in_ok-enter_seed.ensures.order c.in_ok-enter_seed.ensures.asked c.grow.new.steps (c.grow.ensures.paid core)

pub returns-in_err-push-clause-paid : goal.returns-in_err-push-clause-paid
returns-in_err-push-clause-paid g c =
    let core = core_in c.args.counts.now in
    let near = near_in g.M.Metric.dist c.args.eps c.args.records.now in
    let cost = cost_at (g.I.RangeIndex.cost c.args.index.now) c.args.records.now c.args.eps in
    let former = remaining c.args.counts.now c.args.labels.now c.args.label in
    let seeds = c.args.seeds.now in
    let alike = near_alike g.M.Metric.dist c.args.eps 1 c.args.records.now.width c.args.records.now.vectors c.width.ensures.vectors (λ (u v : List ℕ). g.met.M.Metric.symmetry c.args.records.now.width u v c.width.ensures.width) in
    let grown = c.loop-k.growth in
    let groups = c.loop-k.groups in
    let inv = c.loop-k.invariant in
    let s = get_or c.as_slice.result.now c.loop-k.k 0 in
    let at : get_or grown.seeds.keys c.loop-k.k 0 ≡ s = ap (λ (xs : List ℕ). get_or xs c.loop-k.k 0) (sym c.as_slice.ensures.keys) in
    let out : is_in grown.order.keys s ≡ false = out_by s grown.order.keys c.contains.result c.contains.ensures c.if-not-contains.true in
    paid_then core near cost former seeds alike grown groups c.len-many.result c.loop-k.k c.args.steps.now c.loop-k.steps inv s at c.loop-k-test.true out c.enter_seed.new.self c.in_ok-enter_seed.ensures.members c.in_ok-enter_seed.ensures.seeds c.in_ok-enter_seed.ensures.order c.in_ok-enter_seed.ensures.asked c.grow.new.steps (c.grow.ensures.paid core)

pub returns-in_err-push-clause-counted : goal.returns-in_err-push-clause-counted
returns-in_err-push-clause-counted g c =
    let core = core_in c.args.counts.now in
    let near = near_in g.M.Metric.dist c.args.eps c.args.records.now in
    let cost = cost_at (g.I.RangeIndex.cost c.args.index.now) c.args.records.now c.args.eps in
    let former = remaining c.args.counts.now c.args.labels.now c.args.label in
    let seeds = c.args.seeds.now in
    let alike = near_alike g.M.Metric.dist c.args.eps 1 c.args.records.now.width c.args.records.now.vectors c.width.ensures.vectors (λ (u v : List ℕ). g.met.M.Metric.symmetry c.args.records.now.width u v c.width.ensures.width) in
    let grown = c.loop-k.growth in
    let groups = c.loop-k.groups in
    let inv = c.loop-k.invariant in
    let s = get_or c.as_slice.result.now c.loop-k.k 0 in
    let at : get_or grown.seeds.keys c.loop-k.k 0 ≡ s = ap (λ (xs : List ℕ). get_or xs c.loop-k.k 0) (sym c.as_slice.ensures.keys) in
    let out : is_in grown.order.keys s ≡ false = out_by s grown.order.keys c.contains.result c.contains.ensures c.if-not-contains.true in
    bounded_then core near cost former seeds alike grown groups c.len-many.result c.loop-k.k c.args.steps.now c.loop-k.steps inv s at c.loop-k-test.true out c.enter_seed.new.self c.in_ok-enter_seed.ensures.members c.in_ok-enter_seed.ensures.seeds c.in_ok-enter_seed.ensures.order c.in_ok-enter_seed.ensures.asked c.grow.new.steps (c.grow.ensures.paid core)

pub returns-then-not-branch-clause-groups : goal.returns-then-not-branch-clause-groups
returns-then-not-branch-clause-groups g c =
    let core = core_in c.args.counts.now in
    let near = near_in g.M.Metric.dist c.args.eps c.args.records.now in
    let cost = cost_at (g.I.RangeIndex.cost c.args.index.now) c.args.records.now c.args.eps in
    let former = remaining c.args.counts.now c.args.labels.now c.args.label in
    let seeds = c.args.seeds.now in
    let alike = near_alike g.M.Metric.dist c.args.eps 1 c.args.records.now.width c.args.records.now.vectors c.width.ensures.vectors (λ (u v : List ℕ). g.met.M.Metric.symmetry c.args.records.now.width u v c.width.ensures.width) in
    let grown = c.loop-k.growth in
    let groups = c.loop-k.groups in
    let inv = c.loop-k.invariant in
    groups_now core near cost former seeds alike grown groups c.len-many.result c.loop-k.k c.args.steps.now c.loop-k.steps inv

pub returns-then-not-branch-clause-split : goal.returns-then-not-branch-clause-split
returns-then-not-branch-clause-split g c =
    let core = core_in c.args.counts.now in
    let near = near_in g.M.Metric.dist c.args.eps c.args.records.now in
    let cost = cost_at (g.I.RangeIndex.cost c.args.index.now) c.args.records.now c.args.eps in
    let former = remaining c.args.counts.now c.args.labels.now c.args.label in
    let seeds = c.args.seeds.now in
    let alike = near_alike g.M.Metric.dist c.args.eps 1 c.args.records.now.width c.args.records.now.vectors c.width.ensures.vectors (λ (u v : List ℕ). g.met.M.Metric.symmetry c.args.records.now.width u v c.width.ensures.width) in
    let grown = c.loop-k.growth in
    let groups = c.loop-k.groups in
    let inv = c.loop-k.invariant in
    let s = get_or c.as_slice.result.now c.loop-k.k 0 in
    let at : get_or grown.seeds.keys c.loop-k.k 0 ≡ s = ap (λ (xs : List ℕ). get_or xs c.loop-k.k 0) (sym c.as_slice.ensures.keys) in
    let out : is_in grown.order.keys s ≡ false = out_by s grown.order.keys c.contains.result c.contains.ensures c.if-not-contains.true in
    split_then core near cost former seeds alike grown groups c.len-many.result c.loop-k.k c.args.steps.now c.loop-k.steps inv s at c.loop-k-test.true out c.enter_seed.new.self c.in_ok-enter_seed.ensures.members c.in_ok-enter_seed.ensures.seeds c.in_ok-enter_seed.ensures.order c.in_ok-enter_seed.ensures.asked c.grow.new.steps (c.grow.ensures.paid core) (c.in_ok-grow.ensures.last c.if-not-branch.true core)

pub returns-clause-groups : goal.returns-clause-groups
returns-clause-groups g c =
    let core = core_in c.args.counts.now in
    let near = near_in g.M.Metric.dist c.args.eps c.args.records.now in
    let cost = cost_at (g.I.RangeIndex.cost c.args.index.now) c.args.records.now c.args.eps in
    let former = remaining c.args.counts.now c.args.labels.now c.args.label in
    let seeds = c.args.seeds.now in
    let alike = near_alike g.M.Metric.dist c.args.eps 1 c.args.records.now.width c.args.records.now.vectors c.width.ensures.vectors (λ (u v : List ℕ). g.met.M.Metric.symmetry c.args.records.now.width u v c.width.ensures.width) in
    let grown = c.loop-k.growth in
    let groups = c.loop-k.groups in
    let inv = c.loop-k.invariant in
    groups_now core near cost former seeds alike grown groups c.len-many.result c.loop-k.k c.args.steps.now c.loop-k.steps inv

pub returns-clause-split : goal.returns-clause-split
returns-clause-split g c =
    let core = core_in c.args.counts.now in
    let near = near_in g.M.Metric.dist c.args.eps c.args.records.now in
    let cost = cost_at (g.I.RangeIndex.cost c.args.index.now) c.args.records.now c.args.eps in
    let former = remaining c.args.counts.now c.args.labels.now c.args.label in
    let seeds = c.args.seeds.now in
    let alike = near_alike g.M.Metric.dist c.args.eps 1 c.args.records.now.width c.args.records.now.vectors c.width.ensures.vectors (λ (u v : List ℕ). g.met.M.Metric.symmetry c.args.records.now.width u v c.width.ensures.width) in
    let grown = c.loop-k.growth in
    let groups = c.loop-k.groups in
    let inv = c.loop-k.invariant in
    split_now core near cost former seeds alike grown groups c.len-many.result c.loop-k.k c.args.steps.now c.loop-k.steps inv c.loop-k-test.false

pub returns-clause-paid : goal.returns-clause-paid
returns-clause-paid g c =
    let core = core_in c.args.counts.now in
    let near = near_in g.M.Metric.dist c.args.eps c.args.records.now in
    let cost = cost_at (g.I.RangeIndex.cost c.args.index.now) c.args.records.now c.args.eps in
    let former = remaining c.args.counts.now c.args.labels.now c.args.label in
    let seeds = c.args.seeds.now in
    let alike = near_alike g.M.Metric.dist c.args.eps 1 c.args.records.now.width c.args.records.now.vectors c.width.ensures.vectors (λ (u v : List ℕ). g.met.M.Metric.symmetry c.args.records.now.width u v c.width.ensures.width) in
    let grown = c.loop-k.growth in
    let groups = c.loop-k.groups in
    let inv = c.loop-k.invariant in
    paid_now core near cost former seeds alike grown groups c.len-many.result c.loop-k.k c.args.steps.now c.loop-k.steps inv

pub returns-clause-counted : goal.returns-clause-counted
returns-clause-counted g c =
    let core = core_in c.args.counts.now in
    let near = near_in g.M.Metric.dist c.args.eps c.args.records.now in
    let cost = cost_at (g.I.RangeIndex.cost c.args.index.now) c.args.records.now c.args.eps in
    let former = remaining c.args.counts.now c.args.labels.now c.args.label in
    let seeds = c.args.seeds.now in
    let alike = near_alike g.M.Metric.dist c.args.eps 1 c.args.records.now.width c.args.records.now.vectors c.width.ensures.vectors (λ (u v : List ℕ). g.met.M.Metric.symmetry c.args.records.now.width u v c.width.ensures.width) in
    let grown = c.loop-k.growth in
    let groups = c.loop-k.groups in
    let inv = c.loop-k.invariant in
    bounded_now core near cost former seeds alike grown groups c.len-many.result c.loop-k.k c.args.steps.now c.loop-k.steps inv

pub loop-k-preserved : goal.loop-k-preserved
loop-k-preserved g c =
    let core = core_in c.args.counts.now in
    let near = near_in g.M.Metric.dist c.args.eps c.args.records.now in
    let cost = cost_at (g.I.RangeIndex.cost c.args.index.now) c.args.records.now c.args.eps in
    let former = remaining c.args.counts.now c.args.labels.now c.args.label in
    let seeds = c.args.seeds.now in
    let alike = near_alike g.M.Metric.dist c.args.eps 1 c.args.records.now.width c.args.records.now.vectors c.width.ensures.vectors (λ (u v : List ℕ). g.met.M.Metric.symmetry c.args.records.now.width u v c.width.ensures.width) in
    let grown = c.loop-k.growth in
    let groups = c.loop-k.groups in
    let inv = c.loop-k.invariant in
    let s = get_or c.as_slice.result.now c.loop-k.k 0 in
    let at : get_or grown.seeds.keys c.loop-k.k 0 ≡ s = ap (λ (xs : List ℕ). get_or xs c.loop-k.k 0) (sym c.as_slice.ensures.keys) in
    elim c.if-not-contains.branch [
      | then-not-contains+in_ok-enter_seed+in_ok-grow+else-not-branch+in_ok-group+in_ok-push w ↦
          let out : is_in grown.order.keys s ≡ false = out_by s grown.order.keys c.contains.result c.contains.ensures w.if-not-contains.true in
          let e = w.in_ok-grow.ensures in
          let group = w.in_ok-group.group in
          let t = w.if-not-branch.false in
          let more : IsKnown core near cost former seeds w.grow.new.growth (groups ++ group ∷ []) c.len-many.result (c.loop-k.k + 1) c.args.steps.now w.grow.new.steps =
          known_more core near cost former seeds alike grown groups c.len-many.result c.loop-k.k c.args.steps.now c.loop-k.steps inv s at c.loop-k-test.true out w.enter_seed.new.self w.in_ok-enter_seed.ensures.members w.in_ok-enter_seed.ensures.seeds w.in_ok-enter_seed.ensures.order w.in_ok-enter_seed.ensures.asked w.grow.new.steps (w.grow.ensures.paid core) w.grow.new.growth e.order e.sound (e.asked t) (e.whole t core) group w.in_ok-group.ensures
          in
          rw (w.steps-is, w.growth-is, w.groups-is)
          (subst (λ (gs : List (List ℕ)). IsKnown core near cost former seeds w.grow.new.growth gs c.len-many.result (c.loop-k.k + 1) c.args.steps.now w.grow.new.steps) (sym w.in_ok-push.ensures.ok) more)
      | else-not-contains w ↦
          let here : In grown.order.keys (get_or grown.seeds.keys c.loop-k.k 0) = subst (λ (x : ℕ). In grown.order.keys x) (sym at) (in_by s grown.order.keys c.contains.result c.contains.ensures w.if-not-contains.false) in
          rw (w.steps-is, w.growth-is, w.groups-is) (known_there core near cost former seeds alike grown groups c.len-many.result c.loop-k.k c.args.steps.now c.loop-k.steps inv here)
    ]

pub bounds-as_slice-k : goal.bounds-as_slice-k
bounds-as_slice-k g c = omega (arith, c.loop-k-test.true, c.loop-k.invariant.long, ap length c.as_slice.ensures.keys)

pub enter_seed-requires-clause-sound : goal.enter_seed-requires-clause-sound
enter_seed-requires-clause-sound g c = c.loop-k.invariant.sound

pub grow-requires-clause-index : goal.grow-requires-clause-index
grow-requires-clause-index g c = c.requires.index

pub grow-requires-clause-sound : goal.grow-requires-clause-sound
grow-requires-clause-sound g c = c.in_ok-enter_seed.ensures.sound
