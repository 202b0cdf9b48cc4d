use Rattle.std.proofs.Common.{ℕ, Option, ap, ◌∙◌, rules, tests, length}
use Rattle.std.specs.Prelude.{unwrap_or}
use Rattle.std.proofs.lemmas.Iterator.{YieldsList-from_slice}
use Rattle.std.proofs.lemmas.Iterator.Search.{position_from_yields_List}
use Rattle.session_desk.specs.Input.{is_line_feed}
use Rattle.session_desk.proofs.LineParts.{found_or_len}
use Rattle.session_desk.proofs.lines.line_length.Goals as goal

pub returns : goal.returns
returns c =
    let found = position_from_yields_List is_line_feed _ _ c.position.result c.position.ensures.ran (YieldsList-from_slice c.args.bytes.now cc) (λ x b q k. search (rules, tests)) in
    c.unwrap_or.ensures ∙ ap (λ (o : Option ℕ). unwrap_or o (length c.args.bytes.now)) found ∙ found_or_len c.args.bytes.now
