use Rattle.std.proofs.Common.{◌≡◌, ◌++◌, ◌∷◌, [], ℕ, List, codes, sym, refl, ◌∙◌, ap, true, false}
use Rattle.std.proofs.lemmas.Result.{err_from_is_err_and}
use Rattle.std.specs.Prelude.{Some, Ok}
use Rattle.std.specs.Str.{bytes_eq}
use Rattle.session_desk.specs.Lines.{raw_line}
use Rattle.session_desk.specs.declared.lines.SessionLine.TheVariants.{Whole, Long, End}
use Rattle.session_desk.proofs.Passing.{fault_of_next, next_at, pass_body_end, pass_kept, pass_long_kept, pass_end, taken_next}
use Rattle.session_desk.proofs.requests.read_line.Goals as goal

pub returns-in_err-line-clause-told : goal.returns-in_err-line-clause-told
returns-in_err-line-clause-told g c = λ s h lines stands.
    let p = err_from_is_err_and c.from_residual.result c.from_residual.ensures.1 in
    rw (p.1, p.2)
    (fault_of_next (Some lines) c.next.result c.in_err-line.field-0.0 c.args.reader.now (g.S.Source.left c.args.source.now) c.next.new.self (g.S.Source.left c.next.new.source) c.in_err-line.was (c.next.ensures.told s h) c.next.ensures.no_source)

pub returns-in-Ok-true-clause-told : goal.returns-in-Ok-true-clause-told
returns-in-Ok-true-clause-told g c = λ s h lines stands.
    let old = c.args.reader.now in
    let left = g.S.Source.left c.args.source.now in
    let new = c.next.new.self in
    let left' = g.S.Source.left c.next.new.source in
    let whole = next_at c.next.result c.in_ok-line.field-0 (Whole c.in-Whole.line c.in-Whole.cr) old left new left' c.in_ok-line.was c.in-Whole.is (c.next.ensures.told s h) in
    let is : bytes_eq c.in-Whole.line (codes "end") ≡ true =
    ap (λ (l : List ℕ). bytes_eq l (codes "end")) (sym c.as_slice.ensures) ∙ sym c.in-Ok-true.ensures.ends ∙ c.in-Ok-true.field-0-test in
    let same = c.take_line.ensures.same (c.in-Ok-true.is ∙ ap Ok c.in-Ok-true.field-0-test) in (
      record {
        long = c.take_line.ensures.long ∙ stands.long;
        bytes = λ short. same ∙ stands.bytes (sym c.take_line.ensures.long ∙ short);
      },
      pass_body_end lines c.in-Whole.line c.in-Whole.cr old left new left' whole c.next.ensures.ended is,
    )

pub returns-in-Ok-true-clause-taken : goal.returns-in-Ok-true-clause-taken
returns-in-Ok-true-clause-taken g c = λ s h. taken_next c.next.result c.args.reader.now (g.S.Source.left c.args.source.now) c.next.new.self (g.S.Source.left c.next.new.source) (c.next.ensures.told s h) c.next.ensures.held

pub returns-in-Ok-false-clause-told : goal.returns-in-Ok-false-clause-told
returns-in-Ok-false-clause-told g c = λ s h lines stands.
    let old = c.args.reader.now in
    let left = g.S.Source.left c.args.source.now in
    let new = c.next.new.self in
    let left' = g.S.Source.left c.next.new.source in
    let whole = next_at c.next.result c.in_ok-line.field-0 (Whole c.in-Whole.line c.in-Whole.cr) old left new left' c.in_ok-line.was c.in-Whole.is (c.next.ensures.told s h) in
    let isnt : bytes_eq c.in-Whole.line (codes "end") ≡ false =
    ap (λ (l : List ℕ). bytes_eq l (codes "end")) (sym c.as_slice.ensures) ∙ sym c.in-Ok-false.ensures.ends ∙ c.in-Ok-false.field-0-test in
    let kept = c.take_line.ensures.kept (c.in-Ok-false.is ∙ ap Ok c.in-Ok-false.field-0-test) in
    pass_kept lines c.args.body.now c.take_line.new.body c.in-Whole.line c.in-Whole.cr old left new left' whole c.next.ensures.ended isnt stands c.take_line.ensures.long
    (λ short. kept short ∙ ap (λ (l : List ℕ). c.args.body.now.bytes ++ (raw_line l c.in-Whole.cr ++ 10 ∷ [])) c.as_slice.ensures)

pub returns-in-Ok-false-clause-taken : goal.returns-in-Ok-false-clause-taken
returns-in-Ok-false-clause-taken g c = λ s h. taken_next c.next.result c.args.reader.now (g.S.Source.left c.args.source.now) c.next.new.self (g.S.Source.left c.next.new.source) (c.next.ensures.told s h) c.next.ensures.held

pub returns-in-Whole-clause-taken : goal.returns-in-Whole-clause-taken
returns-in-Whole-clause-taken g c = λ s h. taken_next c.next.result c.args.reader.now (g.S.Source.left c.args.source.now) c.next.new.self (g.S.Source.left c.next.new.source) (c.next.ensures.told s h) c.next.ensures.held

pub returns-in-Long-clause-told : goal.returns-in-Long-clause-told
returns-in-Long-clause-told g c = λ s h lines stands.
    let old = c.args.reader.now in
    let left = g.S.Source.left c.args.source.now in
    let new = c.next.new.self in
    let left' = g.S.Source.left c.next.new.source in
    let long = next_at c.next.result c.in_ok-line.field-0 Long old left new left' c.in_ok-line.was c.in-Long.is (c.next.ensures.told s h) in
    pass_long_kept lines _ old left new left' refl long c.next.ensures.ended

pub returns-in-Long-clause-taken : goal.returns-in-Long-clause-taken
returns-in-Long-clause-taken g c = λ s h. taken_next c.next.result c.args.reader.now (g.S.Source.left c.args.source.now) c.next.new.self (g.S.Source.left c.next.new.source) (c.next.ensures.told s h) c.next.ensures.held

pub returns-clause-told : goal.returns-clause-told
returns-clause-told g c = λ s h lines stands.
    let old = c.args.reader.now in
    let left = g.S.Source.left c.args.source.now in
    let new = c.next.new.self in
    let left' = g.S.Source.left c.next.new.source in
    pass_end (Some lines) old left new left' (next_at c.next.result c.in_ok-line.field-0 End old left new left' c.in_ok-line.was c.in-End.is (c.next.ensures.told s h))
