use Rattle.std.proofs.Common.{◌≡◌, ◌<◌, ◌≤◌, ◌+◌, ℕ, List, length, get_or, take, sym, ap, subst, ◌∙◌, arith}
use Rattle.plain_dbscan.specs.inside.Roots.{AreRoots, joined_pair, joined_each}
use Rattle.plain_dbscan.proofs.SizesOf.{all_at}
use Rattle.plain_dbscan.proofs.RootsOf.{joined_already, each_more}
use Rattle.plain_dbscan.proofs.roots.join_each.Goals as goal
use Rattle.plain_dbscan.proofs.roots.join_each.Goals.{then-parents-j, else-parents-j}

pub loop-j-preserved : goal.loop-j-preserved
loop-j-preserved c =
    let inv = c.loop-j.invariant in
    let i = c.args.i in
    let js = c.args.places.now in
    let n = c.loop-j.j-index in
    let j = get_or js n 0 in
    let at : n < length js = c.loop-j-test.true in
    let below : j < length c.args.parents.now = all_at (λ (k : ℕ). k < length c.args.parents.now) js n 0 c.requires.places at in
    let more : (roots : List ℕ) → joined_each i (take (n + 1) js) roots ≡ joined_pair i j (joined_each i (take n js) roots) = λ roots. each_more i js n 0 roots at in
    elim c.if-parents-j.branch [
      | then-parents-j w ↦ record {
        lengths = ap length w.parents-is ∙ w.join.ensures.lengths ∙ inv.lengths;
        parents = subst (λ (ps : List ℕ). (k : ℕ) → k < length ps → get_or ps k 0 ≤ k) (sym w.parents-is) w.join.ensures.parents;
        roots = λ roots r. subst (λ (ps : List ℕ). AreRoots ps (joined_each i (take (n + 1) js) roots)) (sym w.parents-is) (subst (AreRoots w.join.new.parents) (sym (more roots)) (w.join.ensures.roots (joined_each i (take n js) roots) (inv.roots roots r)));
      }
      | else-parents-j w ↦ record {
        lengths = ap length w.parents-is ∙ inv.lengths;
        parents = subst (λ (ps : List ℕ). (k : ℕ) → k < length ps → get_or ps k 0 ≤ k) (sym w.parents-is) inv.parents;
        roots = λ roots r.
            let old = joined_each i (take n js) roots in
            let still : joined_pair i j old ≡ old = joined_already c.loop-j.parents old i j (inv.roots roots r) (omega (arith, c.requires.first, inv.lengths)) (omega (arith, below, inv.lengths)) w.if-parents-j.false in
            subst (λ (ps : List ℕ). AreRoots ps (joined_each i (take (n + 1) js) roots)) (sym w.parents-is) (subst (AreRoots c.loop-j.parents) (sym (more roots ∙ still)) (inv.roots roots r));
      }
    ]
