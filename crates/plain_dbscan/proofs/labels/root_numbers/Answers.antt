use Rattle.std.proofs.Common.{◌≡◌, ◌<◌, ◌++◌, ◌∷◌, [], ℕ, List, length, get_or, map, take, sym, ap, ◌∙◌, arith}
use Rattle.std.proofs.lemmas.List.{map-append, take_more}
use Rattle.plain_dbscan.specs.declared.points.Point.{Point}
use Rattle.plain_dbscan.specs.Marks.{numbers_of}
use Rattle.plain_dbscan.specs.Points.{entries_of}
use Rattle.plain_dbscan.proofs.PointsOf.{number_read}
use Rattle.plain_dbscan.proofs.labels.root_numbers.Goals as goal

pub loop-i-preserved : goal.loop-i-preserved
loop-i-preserved c =
    let inv = c.loop-i.invariant in
    let cores = c.args.cores.now in
    let i = c.loop-i.i in
    let root = c.find_root-root in
    let p = c.index-cores-root.result in
    let num : ℕ → ℕ = λ k. get_or (numbers_of (entries_of cores)) k 0 in
    let at : i < length cores = c.loop-i-test.true in
    record {
      lengths = root.ensures.lengths ∙ inv.lengths;
      parents = root.ensures.parents;
      roots = λ roots r. root.ensures.roots roots (inv.roots roots r);
      labels = λ roots r.
          let inside : i < length roots = omega (arith, at, r.lengths, c.requires.lengths) in
          let here : p.number ≡ num (get_or roots i 0) = sym (number_read cores root.result p (omega (arith, root.ensures.below, inv.lengths, c.requires.lengths)) c.index-cores-root.is) ∙ ap num (root.ensures.root roots (inv.roots roots r)) in
          c.in_ok-push.ensures.items
          ∙ ap (λ (q : Point). c.loop-i.labels.items ++ q.number ∷ []) (sym c.index-cores-root.is)
          ∙ ap (λ (xs : List ℕ). xs ++ p.number ∷ []) (inv.labels roots r)
          ∙ ap (λ (x : ℕ). map num (take i roots) ++ x ∷ []) here
          ∙ sym (ap (map num) (take_more roots i 0 inside) ∙ map-append num (take i roots) (get_or roots i 0 ∷ []));
    }
