use Rattle.std.proofs.Common.{◌∙◌, ap, is_some}
use Rattle.std.specs.Ordering.{nat_cmp}
use Rattle.std.specs.FinMap as map
use Rattle.count_book.specs.Counted.{Counted, row_of}
use Rattle.count_book.proofs.Changes.{here}
use Rattle.count_book.proofs.tests.of_one.Goals as goal

pub enter-requires : goal.enter-requires
enter-requires c = ap (λ (b : Counted). map.get b.rows 7) c.new-book.ensures ∙ map.get-empty nat_cmp 7

pub returns : goal.returns
returns c =
    ap is_some
    (ap (λ (b : Counted). map.get b.rows 7) c.in_ok-enter.ensures.ok ∙ here c.new-book.result.rows 7 (row_of c.args.count c.args.anchor))
