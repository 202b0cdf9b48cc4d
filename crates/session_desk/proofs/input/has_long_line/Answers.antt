use Rattle.std.proofs.Common.{rules}
use Rattle.std.proofs.lemmas.Iterator.Search.{any_from_yields_List}
use Rattle.std.proofs.lemmas.Iterator.Splits.{YieldsList-from_slice_split}
use Rattle.session_desk.specs.Input.{is_line_feed, is_long}
use Rattle.session_desk.proofs.input.has_long_line.Goals as goal
use borrow.Author.Tests.{tests}

pub returns : goal.returns
returns c =
    any_from_yields_List is_long _ _ c.any.result c.any.ensures.ran
    (YieldsList-from_slice_split _ is_line_feed c.args.input.now c.split.ensures.rest c.split.ensures.done c.split.ensures.closure (λ x b q k. search (rules, tests)))
    (λ x b q k. search (rules, tests))
