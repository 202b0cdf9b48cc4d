use Rattle.std.proofs.Common.{◌≡◌, ◌∙◌, ap, ◌+◌, ◌-◌, ◌*◌, take, drop, arith}
use Rattle.vec_record.proofs.Cuts.{row_within, row_is}
use Rattle.vec_record.proofs.block.Block.row.Goals as goal

pub overflow_mul-start : goal.overflow_mul-start
overflow_mul-start c =
    omega (arith, c.self.inside.bytes.ok.0, (row_within _ _ _ _ c.self.view_is c.self.invariant.1 c.args.at c.requires).1)

pub overflow_add-start : goal.overflow_add-start
overflow_add-start c =
    omega (arith, c.self.inside.bytes.ok.0, (row_within _ _ _ _ c.self.view_is c.self.invariant.1 c.args.at c.requires).0)

pub slice_bounds-known-end : goal.slice_bounds-known-end
slice_bounds-known-end c =
    let within = row_within _ _ _ _ c.self.view_is c.self.invariant.1 c.args.at c.requires in
    omega (arith, within.0, c.deref.ensures.len)

pub returns-clause-value : goal.returns-clause-value
returns-clause-value c =
    let w = c.self.inside.width in
    let start = c.args.at * w in
    let many : start + w - start ≡ w = omega arith in
    c.known.ensures.same ∙ (ap (λ k. take k (drop start c.deref.result.now)) many ∙ (ap (λ z. take w (drop start z)) c.deref.ensures.value ∙ row_is _ _ _ _ c.self.view_is c.self.invariant.1 c.args.at c.requires))
