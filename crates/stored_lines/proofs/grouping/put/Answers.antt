use Rattle.std.proofs.Common.{◌++◌, ◌∷◌, [], sym, ap, ◌∙◌}
use Rattle.std.specs.FinMap as maps
use Rattle.std.proofs.lemmas.Result.{on_ok_weaker}
use Rattle.count_book.proofs.Changes.{given}
use Rattle.stored_lines.specs.inside.Steps.{numbers_in}
use Rattle.stored_lines.proofs.Listed.{put_back}
use Rattle.stored_lines.proofs.grouping.put.Goals as goal

pub returns-in-Some : goal.returns-in-Some
returns-in-Some c =
    on_ok_weaker c.push.result (λ e. put_back c.args.label c.args.number c.args.groups.now (c.get_mut.follows.lender c.push.new.self) c.in-Some.numbers.now c.push.new.self
    (ap numbers_in (sym c.in-Some.ensures.value)) e (given c.in-Some.is (c.get_mut.follows.holds c.push.new.self))) c.push.ensures.ok

pub returns-in_ok-push-in-None : goal.returns-in_ok-push-in-None
returns-in_ok-push-in-None c =
    on_ok_weaker c.insert.result (λ e. put_back c.args.label c.args.number c.args.groups.now c.insert.new.self [] c.push-in-None.new.self
    (ap numbers_in (sym c.in-None.ensures.value)) (c.in_ok-push-in-None.ensures.ok ∙ ap (λ xs. xs ++ c.args.number ∷ []) c.new-numbers.ensures)
    (e ∙ ap (λ m. maps.insert m c.args.label c.push-in-None.new.self) c.get_mut.follows.holds-at-none)) c.insert.ensures.ok
