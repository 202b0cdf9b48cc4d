use Rattle.std.proofs.Common.{rules, ◌≡◌, ◌∙◌, ap, ◌+◌, ◌-◌, ◌*◌, take, drop, arith}
use Rattle.std.proofs.lemmas.List.{take-take}
use Rattle.vec_record.proofs.Cuts.{row_within_by, row_is_by}
use Rattle.vec_record.proofs.block.Block.row_array.Goals as goal

pub overflow_mul-start : goal.overflow_mul-start
overflow_mul-start g c =
    omega (arith, c.self.inside.bytes.ok.0, (row_within_by _ _ _ _ c.self.view_is c.self.invariant.1 g.row.N c.args.at c.requires.width c.requires.place).1)

pub overflow_add-start : goal.overflow_add-start
overflow_add-start g c =
    omega (arith, c.self.inside.bytes.ok.0, (row_within_by _ _ _ _ c.self.view_is c.self.invariant.1 g.row.N c.args.at c.requires.width c.requires.place).0)

pub slice_bounds-first_chunk-end : goal.slice_bounds-first_chunk-end
slice_bounds-first_chunk-end g c =
    let within = row_within_by _ _ _ _ c.self.view_is c.self.invariant.1 g.row.N c.args.at c.requires.width c.requires.place in
    omega (arith, within.0, c.deref.ensures.len)

pub returns : goal.returns
returns g c =
    let n = g.row.N in
    let start = c.args.at * n in
    let many : start + n - start ≡ n = omega arith in
    let whole : take n (take n (drop start c.deref.result.now)) ≡ take n (drop start c.deref.result.now) = take-take n n _ (omega arith) in
    let first : c.in-Some.row.now ≡ take n (take (start + n - start) (drop start c.deref.result.now)) = search rules in
    first ∙ (ap (λ k. take n (take k (drop start c.deref.result.now))) many ∙ (whole ∙ (ap (λ z. take n (drop start z)) c.deref.ensures.value ∙ row_is_by _ _ _ _ c.self.view_is c.self.invariant.1 n c.args.at c.requires.width c.requires.place)))
