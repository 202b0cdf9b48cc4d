use Rattle.std.proofs.Common.{rules, get_or, leb, ltb, arith}
use Rattle.std.proofs.lemmas.List.Sorted.{IsPartitionPoint-from_clause, IsPartitionedBy-leb, IsPartitionedBy-ltb}
use Rattle.std.proofs.lemmas.Option.{slice_get-get_or}
use Rattle.update_seed.specs.declared.labelled.Labelled.{Labelled}
use Rattle.update_seed.proofs.ByLabel.{part_none, part_more, between, up_by_label}
use Rattle.update_seed.proofs.labelled.with_label.Goals as goal

pub loop-i-init : goal.loop-i-init
loop-i-init c = part_none _ _ _ c.new-numbers.ensures

pub loop-i-preserved : goal.loop-i-preserved
loop-i-preserved c =
    let d : Labelled = record { label = 0; number = 0 } in
    part_more c.args.list.now c.partition_point-start.result c.loop-i.i (get_or c.args.list.now c.loop-i.i d) c.loop-i.numbers c.push.new.self c.loop-i.invariant (omega arith)
    (slice_get-get_or c.args.list.now c.loop-i.i d (omega arith)) c.in_ok-push.ensures.ok

pub returns : goal.returns
returns c =
    let up = up_by_label c.args.list.now c.requires in
    between c.args.list.now c.partition_point-start.result c.partition_point-end.result c.loop-i.i c.args.label c.loop-i.numbers c.loop-i.invariant c.loop-i-test.false c.loop-i.auto.i-end
    c.partition_point-end.ensures.bound c.partition_point-start.ensures.bound
    (IsPartitionPoint-from_clause (λ p. ltb p.label c.args.label) _ _ c.partition_point-start.ensures.partitioned (IsPartitionedBy-ltb (λ p. p.label) _ c.args.label up) (λ a r q k. search rules))
    (IsPartitionPoint-from_clause (λ p. leb p.label c.args.label) _ _ c.partition_point-end.ensures.partitioned (IsPartitionedBy-leb (λ p. p.label) _ c.args.label up) (λ a r q k. search rules))
