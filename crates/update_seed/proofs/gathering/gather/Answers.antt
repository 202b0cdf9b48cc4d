use Rattle.std.proofs.Common.{◌≡◌, ◌∙◌, ◌<◌, ◌≤◌, length, sym, subst, get_or, arith}
use Rattle.update_seed.specs.inside.Ties.{IsClassOf, ArePaired}
use Rattle.update_seed.proofs.Lists.{next, whole, any_default}
use Rattle.update_seed.proofs.Classes.{paired_start, paired_push}
use Rattle.update_seed.proofs.gathering.gather.Goals as goal

pub loop-i-init : goal.loop-i-init
loop-i-init c = paired_start c.args.labels.now c.args.ties.now _ c.new-groups.ensures

pub loop-i-preserved : goal.loop-i-preserved
loop-i-preserved c =
    let heads = c.in_ok-heads.heads.items in
    let low : c.loop-i.i < length heads = omega (arith, c.len-i-end.ensures, c.loop-i-test.true, c.in_ok-heads.heads.ok) in
    let head = get_or heads c.loop-i.i 0 in
    let e : c.index.result.now ≡ head = c.index.ensures ∙ any_default heads c.loop-i.i _ low in
    let class = subst (λ x. IsClassOf c.args.labels.now c.args.ties.now x c.in_ok-class_of.field-0) e c.in_ok-class_of.ensures in
    subst (λ xs. ArePaired c.args.labels.now c.args.ties.now xs c.push.new.self) (sym (next heads c.loop-i.i low))
    (paired_push c.args.labels.now c.args.ties.now _ c.loop-i.groups c.push.new.self head c.in_ok-class_of.field-0 c.loop-i.invariant class c.in_ok-push.ensures.ok)

pub returns : goal.returns
returns c =
    let heads = c.in_ok-heads.heads.items in
    let high : length heads ≤ c.loop-i.i = omega (arith, c.len-i-end.ensures, c.loop-i-test.false, c.in_ok-heads.heads.ok) in
    record {
      heads = heads;
      heads_are = c.in_ok-heads.ensures;
      paired = subst (λ xs. ArePaired c.args.labels.now c.args.ties.now xs c.loop-i.groups) (whole heads c.loop-i.i high) c.loop-i.invariant;
    }
