use Rattle.std.proofs.Common.{◌<◌, ◌≤◌, length, get_or, ◌∙◌, arith}
use Rattle.std.proofs.lemmas.List.{length-set}
use Rattle.plain_dbscan.proofs.RootsOf.{parents_set, roots_hung}
use Rattle.plain_dbscan.proofs.roots.find_root.Goals as goal

pub loop-parents-preserved : goal.loop-parents-preserved
loop-parents-preserved c =
    let inv = c.loop-parents.invariant in
    let parents = c.loop-parents.parents in
    let at = c.loop-parents.at in
    let p = get_or parents at 0 in
    let x = get_or parents p 0 in
    let inside : at < length parents = omega (arith, inv.lengths, inv.below) in
    let low : p ≤ at = inv.parents at inside in
    let below : p < length parents = omega (arith, low, inside) in
    let lower : x ≤ p = inv.parents p below in
    record {
      lengths = length-set parents at x ∙ inv.lengths;
      below = omega (arith, lower, below, inv.lengths);
      parents = parents_set parents at x inside inv.parents (omega (arith, lower, low));
      roots = λ roots r. roots_hung parents at inside inv.parents roots (inv.roots roots r);
      root = λ roots r. (inv.roots roots r).same p below ∙ (inv.roots roots r).same at inside ∙ inv.root roots r;
    }
