use Rattle.std.proofs.Common.{◌≡◌, ◌||◌, Bool, false, cond, get_or, sym, ◌∙◌, ap}
use Rattle.std.specs.Prelude.{is_ok}
use Rattle.node_places.specs.Slots.{has}
use Rattle.node_places.proofs.Keys.{among, not_at}
use Rattle.node_places.proofs.Marks.{or_false}
use Rattle.node_places.proofs.records.marked.Goals as goal

pub returns-in-Err-clause-number : goal.returns-in-Err-clause-number
returns-in-Err-clause-number c =
    let away : has c.args.numbers.now c.args.number ≡ false = sym (among c.args.numbers.now c.args.number c.binary_search.result c.requires.rising c.binary_search.ensures.position)
    ∙ ap is_ok c.in-Err.is in
    sym (ap (λ (b : Bool). cond b c.args.number 0) away)

pub returns-in-Err-clause-marks : goal.returns-in-Err-clause-marks
returns-in-Err-clause-marks c = λ k lt.
    let away : has c.args.numbers.now c.args.number ≡ false = sym (among c.args.numbers.now c.args.number c.binary_search.result c.requires.rising c.binary_search.ensures.position)
    ∙ ap is_ok c.in-Err.is in
    let mark = get_or c.args.marks.now k false in
    sym (ap (λ (b : Bool). mark || b) (not_at c.args.numbers.now c.args.number k away lt) ∙ or_false mark)
