use Rattle.std.proofs.Common.{◌≡◌, ◌+◌, ◌<◌, map, slice_index}
use Rattle.mtree_split.specs.Least.{first_least}
use Rattle.mtree_index.specs.Insertion.{entry_rank, entry_distance}
use Rattle.mtree_index.proofs.insertion.choose_entry.Given as goal

abbrev pub invariant-loop-i : goal.invariant-loop-i
invariant-loop-i g l =
    let rank = slice_index (map (entry_rank g.M.Metric.dist l.vector) l.entries) in
    record {
      place : l.place ≡ first_least rank l.i;
      least : 0 < l.i → l.least ≡ rank l.place;
      none : l.i ≡ 0 → l.least ≡ 18446744073709551615;
      within : 0 < l.i → l.place < l.i;
      nearest : 0 < l.i → l.nearest ≡ slice_index (map (entry_distance g.M.Metric.dist l.vector) l.entries) l.place;
      steps : l.steps ≡ l.fn.steps + l.i;
    }
