-- Books that fit name records alone as cores.
use Rattle.std.proofs.Common.{ℕ, ◌≤◌, IsSome, IsSomeAnd, None, Some, refl, sym, ◌∙◌}
use Rattle.std.specs.declared.option.Option.{Option}
use Rattle.std.specs.FinMap as map
use Rattle.vec_record.specs.Held.{Held, Rows}
use Rattle.count_book.specs.declared.row.Row.{Row}
use Rattle.count_book.specs.Counted.{Counted}
use Rattle.label_book.specs.Labels.{Labels}
use Rattle.update_seed.specs.Books.{Fits}
use Rattle.update_seed.proofs.Looking.{core_in_is}
use Rattle.split_expand.specs.Remaining.{remaining}
use Rattle.split_expand.specs.Split.{AreCoresIn}
use Rattle.split_expand.proofs.Remain.{remains}

has_row : (minpts : ℕ) (o : Option Row) → IsSomeAnd o (λ r. minpts ≤ r.count) → IsSome o
has_row minpts None h = absurd h
has_row minpts (Some r) h = refl

pub left_there : (width : ℕ) (contents : Rows) (records : Held) (counts : Counted) (own labels : Labels) (label : ℕ) → Fits width contents records counts own → AreCoresIn records counts (remaining counts labels label)
left_there width contents records counts own labels label fits = record {
  there = λ a m. sym (fits.numbers a) ∙ has_row counts.minpts (map.get counts.rows a) ((core_in_is counts a).0 ((remains counts labels label a).0 m).0);
  core = λ a m. (core_in_is counts a).0 ((remains counts labels label a).0 m).0;
}
