use Rattle.std.proofs.Common.{◌+◌, ap, take, ◌∙◌, sym, rules, tests}
use Rattle.std.proofs.lemmas.Iterator.{YieldsList-from_slice}
use Rattle.std.proofs.lemmas.Iterator.Search.{position_from_yields_List}
use Rattle.std.proofs.lemmas.List.{take_rest}
use Rattle.session_desk.specs.Session.{is_space, line_with, number_said}
use Rattle.session_desk.proofs.WordLines.{one-word, two-words}
use Rattle.session_desk.proofs.requests.line_of.Goals as goal

pub returns-in-None : goal.returns-in-None
returns-in-None c =
    let found = position_from_yields_List is_space _ _ c.position.result c.position.ensures.ran (YieldsList-from_slice c.args.line.now cc) (λ x b q k. search (rules, tests)) in
    c.plain_line.ensures ∙ one-word c.args.line.now (sym found ∙ c.in-None.is)

pub returns-in-None-number_within : goal.returns-in-None-number_within
returns-in-None-number_within c =
    let found = position_from_yields_List is_space _ _ c.position.result c.position.ensures.ran (YieldsList-from_slice c.args.line.now cc) (λ x b q k. search (rules, tests)) in
    let number = ap number_said (sym (take_rest c.args.line.now (c.in-Some.at + 1))) ∙ sym c.number_within.ensures ∙ c.in-None-number_within.is in
    sym (ap (line_with (take c.in-Some.at c.args.line.now)) number) ∙ two-words c.args.line.now c.in-Some.at (sym found ∙ c.in-Some.is)

pub returns-in-Some-number_within : goal.returns-in-Some-number_within
returns-in-Some-number_within c =
    let found = position_from_yields_List is_space _ _ c.position.result c.position.ensures.ran (YieldsList-from_slice c.args.line.now cc) (λ x b q k. search (rules, tests)) in
    let number = ap number_said (sym (take_rest c.args.line.now (c.in-Some.at + 1))) ∙ sym c.number_within.ensures ∙ c.in-Some-number_within.is in
    c.numbered_line.ensures ∙ sym (ap (line_with (take c.in-Some.at c.args.line.now)) number) ∙ two-words c.args.line.now c.in-Some.at (sym found ∙ c.in-Some.is)
