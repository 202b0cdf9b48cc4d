use Rattle.std.proofs.Common.{◌≡◌, ◌+◌, ◌*◌, ◌≤◌, ℕ, map, take, filter, length}
use Rattle.plain_dbscan.specs.Marks.{Density, density, numbers_of, is_core, mark_of}
use Rattle.plain_dbscan.specs.Points.{entries_of}
use Rattle.plain_dbscan.proofs.plain.mark_by_sizes.Given as goal

abbrev pub invariant-loop-i : goal.invariant-loop-i
invariant-loop-i g l =
    let d : Density = density g.M.Metric.dist l.eps l.minpts in
    let rows = entries_of l.points in
    record {
      marks : l.marks ≡ map (λ (a : ℕ). (a, mark_of d rows a)) (take l.i (numbers_of rows));
      next : l.next ≡ length (filter (is_core d rows) (take l.i (numbers_of rows)));
      few : l.steps ≤ l.initial.steps + l.i * length l.cores.items;
      counts : l.initial.steps ≤ l.steps;
      room : length l.near.items ≡ length l.cores.items;
    }
