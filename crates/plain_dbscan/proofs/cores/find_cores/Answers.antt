use Rattle.std.proofs.Common.{◌≡◌, ◌<◌, ◌++◌, ◌∷◌, [], ℕ, List, length, get_or, filter, nat_le, sym, ap, ◌∙◌, arith}
use Rattle.std.proofs.lemmas.List.{take_all}
use Rattle.std.proofs.lemmas.Bool.Decides.{nat_tests}
use Rattle.plain_dbscan.specs.Points.{entries_of, is_core_point}
use Rattle.plain_dbscan.specs.declared.points.Point.{Point}
use Rattle.plain_dbscan.proofs.PointsOf.{filter_in, filter_out, core_by_size_at}
use Rattle.plain_dbscan.proofs.cores.find_cores.Goals as goal
use Rattle.plain_dbscan.proofs.cores.find_cores.Goals.{then-sizes-i+in_ok-push, else-sizes-i}

pub loop-i-preserved : goal.loop-i-preserved
loop-i-preserved c = λ d e s.
    let points = c.args.points.now in
    let rows = entries_of points in
    let sizes = c.args.sizes.now in
    let i = c.loop-i.i in
    let x = c.index-points-i.result in
    let h : i < length points = c.loop-i-test.true in
    let enough : is_core_point d rows x ≡ nat_le c.args.minpts (get_or sizes i 0) = core_by_size_at d points sizes i x c.requires.rising s h c.index-points-i.is ∙ ap (λ (m : ℕ). nat_le m (get_or sizes i 0)) e in
    elim c.if-sizes-i.branch [
      | then-sizes-i+in_ok-push w ↦
          ap (λ cores. cores.items) w.cores-is ∙ w.in_ok-push.ensures.items
          ∙ ap (λ (ps : List Point). ps ++ x ∷ []) (c.loop-i.invariant d e s)
          ∙ sym (filter_in (is_core_point d rows) points i x h c.index-points-i.is (enough ∙ grind (arith, nat_tests, w.if-sizes-i.true)))
      | else-sizes-i w ↦
          ap (λ cores. cores.items) w.cores-is
          ∙ c.loop-i.invariant d e s
          ∙ sym (filter_out (is_core_point d rows) points i x h c.index-points-i.is (enough ∙ grind (arith, nat_tests, w.if-sizes-i.false)))
    ]

pub returns : goal.returns
returns c = record {
  cores = λ d e s. c.loop-i.invariant d e s ∙ ap (filter (is_core_point d (entries_of c.args.points.now))) (take_all c.loop-i.i c.args.points.now c.loop-i-test.false);
}
