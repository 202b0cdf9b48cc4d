use Rattle.std.proofs.Common.{◌≡◌, ℕ, ◌+◌, ◌<◌, eqb, length, get_or, take, count_by}
use Rattle.plain_dbscan.proofs.sizes.count_each.Given as goal

abbrev pub invariant-loop-place : goal.invariant-loop-place
invariant-loop-place l = record {
  lengths : length l.sizes ≡ length l.fn.sizes;
  counts : (k : ℕ) → k < length l.fn.sizes → get_or l.sizes k 0 ≡ get_or l.fn.sizes k 0 + count_by (λ q. eqb q k) (take l.place-index l.places);
}
