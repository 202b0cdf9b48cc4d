use Rattle.std.proofs.Common.{sym, subst, ◌∙◌, ap, Option}
use Rattle.std.proofs.lemmas.Result.{err_from_is_err_and}
use Rattle.session_desk.specs.Passing.{PassesAny, word_of}
use Rattle.session_desk.specs.declared.lines.SessionLine.TheVariants.{Whole, Long}
use Rattle.session_desk.specs.declared.requests.Word.{Word}
use Rattle.session_desk.proofs.Passing.{fault_of_next, next_at, pass_word, pass_long, taken_next}
use Rattle.std.specs.Prelude.{None}
use Rattle.session_desk.proofs.requests.read_word.Goals as goal

pub returns-in_err-line-clause-told : goal.returns-in_err-line-clause-told
returns-in_err-line-clause-told g c = λ s h.
    let p = err_from_is_err_and c.from_residual.result c.from_residual.ensures.1 in
    rw (p.1, p.2)
    (fault_of_next None c.next.result c.in_err-line.field-0.0 c.args.reader.now (g.S.Source.left c.args.source.now) c.next.new.self (g.S.Source.left c.next.new.source) c.in_err-line.was (c.next.ensures.told s h) c.next.ensures.no_source)

pub returns-in-Whole-clause-told : goal.returns-in-Whole-clause-told
returns-in-Whole-clause-told g c = λ s h.
    let old = c.args.reader.now in
    let left = g.S.Source.left c.args.source.now in
    let new = c.next.new.self in
    let left' = g.S.Source.left c.next.new.source in
    let whole = next_at c.next.result c.in_ok-line.field-0 (Whole c.in-Whole.line c.in-Whole.cr) old left new left' c.in_ok-line.was c.in-Whole.is (c.next.ensures.told s h) in
    subst (λ (w : Option Word). PassesAny w old left new left') (sym (c.word_of.ensures ∙ ap word_of c.as_slice.ensures))
    (pass_word c.in-Whole.line c.in-Whole.cr old left new left' whole c.next.ensures.ended)

pub returns-in-Whole-clause-taken : goal.returns-in-Whole-clause-taken
returns-in-Whole-clause-taken g c = λ s h. taken_next c.next.result c.args.reader.now (g.S.Source.left c.args.source.now) c.next.new.self (g.S.Source.left c.next.new.source) (c.next.ensures.told s h) c.next.ensures.held

pub returns-in-Long-clause-told : goal.returns-in-Long-clause-told
returns-in-Long-clause-told g c = λ s h.
    let old = c.args.reader.now in
    let left = g.S.Source.left c.args.source.now in
    let new = c.next.new.self in
    let left' = g.S.Source.left c.next.new.source in
    let long = next_at c.next.result c.in_ok-line.field-0 Long old left new left' c.in_ok-line.was c.in-Long.is (c.next.ensures.told s h) in
    pass_long old left new left' long c.next.ensures.ended

pub returns-in-Long-clause-taken : goal.returns-in-Long-clause-taken
returns-in-Long-clause-taken g c = λ s h. taken_next c.next.result c.args.reader.now (g.S.Source.left c.args.source.now) c.next.new.self (g.S.Source.left c.next.new.source) (c.next.ensures.told s h) c.next.ensures.held
