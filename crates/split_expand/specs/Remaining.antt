-- What is left of a cluster whose label still stands in the label book.
use Rattle.std.specs.Prelude.{ℕ, Bool, false, List, map as list_map, filter, nat_eq, ◌&&◌}
use Rattle.std.specs.Prelude.{Some, None}
use Rattle.std.specs.declared.option.Option.{Option}
use Rattle.std.specs.FinMap as map
use Rattle.count_book.specs.Counted.{Counted}
use Rattle.label_book.specs.Labels.{Labels}
use Rattle.update_seed.specs.Books.{core_in}

-- Whether this is the label.
abbrev pub is_label : ℕ → Option ℕ → Bool
is_label label None = false
is_label label (Some l) = nat_eq l label

-- The numbers with this label that are core by their counts, rising.
abbrev pub remaining : Counted → Labels → ℕ → List ℕ
remaining counts labels label =
    filter (λ a. core_in counts a && is_label label (map.get labels a))
    (list_map (λ e. e.0) (map.entries labels))
