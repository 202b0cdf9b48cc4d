-- The parent distances that the first pruning test leaves in a leaf. No public contract cites this.
use Rattle.std.specs.Prelude.{ℕ, ◌+◌, ◌&&◌, Bool, nat_le}
use Rattle.mtree_index.specs.declared.pruning.Band.{Band}

-- from the low end on, so many more
abbrev pub is_in : Band → ℕ → Bool
is_in b parent = nat_le b.low parent && nat_le parent (b.low + b.more)
