-- The places that the first pruning test leaves in a leaf. No public contract cites this.
use Rattle.std.specs.Prelude.{ℕ, not, List, length, slice_index, Option}
use Rattle.std.specs.List.{filter, range_with_len}
use Rattle.mtree_node.specs.Cost.{is_skipped}

-- the places of the parent distances that aren't skipped, rising
abbrev pub places_left : Option ℕ → ℕ → List ℕ → List ℕ
places_left to_object reach parents =
    filter (λ k. not (is_skipped to_object reach (slice_index parents k))) (range_with_len 0 (length parents))
