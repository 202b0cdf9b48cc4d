use Rattle.std.proofs.Common.{◌≡◌, ℕ, [], ◌∷◌, ◌++◌, length, ◌∙◌, ap, subst, arith}
use Rattle.std.specs.FinMap as maps
use Rattle.std.proofs.lemmas.Result.{err_from_is_err_and}
use Rattle.stored_lines.specs.declared.line.Line.{Line}
use Rattle.page_layout.specs.Heads.{values_of}
use Rattle.store_image.specs.inside.Reads.{line_with, MayRepeat}
use Rattle.store_image.proofs.LoadTaking.{taking_used, taking_fails}
use Rattle.store_image.proofs.sorted.take_used.Goals as goal

pub returns-in_err-take_record : goal.returns-in_err-take_record
returns-in_err-take_record c = λ all rest t.
    let v = values_of c.args.params.now in
    let taken = c.args.taken.now in
    let s = c.args.slot in
    let at : c.len-place.result ≡ length taken.numbers.items = omega (arith, c.len-place.ensures, taken.numbers.ok.0) in
    let p = err_from_is_err_and c.from_residual.result c.from_residual.ensures.1 in
    rw (p.1, p.2) (taking_fails v all rest taken.numbers.items taken.lines.items taken.records c.args.kinds.now s t c.in_err-take_record.field-0.0
    (subst (λ (n : ℕ). MayRepeat v c.args.kinds.now n (maps.get taken.records.vectors s.number) c.in_err-take_record.field-0.0) at c.in_err-take_record.ensures.err))

pub returns : goal.returns
returns c = λ all rest t.
    let v = values_of c.args.params.now in
    let taken = c.args.taken.now in
    let s = c.args.slot in
    let pushed : c.push_number.new.numbers.items ≡ taken.numbers.items ++ s.number ∷ [] =
    c.in_ok-push_number.ensures ∙ ap (λ (l : Line). taken.numbers.items ++ l.number ∷ []) c.line_in-line.ensures in
    let lined : c.push_line.new.lines.items ≡ taken.lines.items ++ line_with s ∷ [] =
    c.in_ok-push_line.ensures ∙ ap (λ (l : Line). taken.lines.items ++ l ∷ []) c.line_in-line.ensures in
    rw (pushed, lined, c.in_ok-take_record.ensures.taken) (taking_used v all rest taken.numbers.items taken.lines.items taken.records c.args.kinds.now s t c.in_ok-take_record.ensures.absent)
