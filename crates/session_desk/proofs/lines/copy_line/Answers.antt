use Rattle.std.proofs.Common.{◌≡◌, ◌++◌, ℕ, ◌-◌, List, length, take, cond, sym, ap, ◌∙◌}
use Rattle.session_desk.specs.Lines.{raw_line}
use Rattle.session_desk.proofs.LineParts.{line_of, as_number}
use Rattle.session_desk.proofs.lines.copy_line.Goals as goal

pub returns : goal.returns
returns c =
    let raw = c.args.raw.now in
    let cr = c.has_return-cr.result in
    let kept : c.append.new.self ≡ take (length raw - cond cr 1 0) raw =
    c.in_ok-append.ensures.ok ∙ ap (λ (front : List ℕ). front ++ take (length raw - c.from.result) raw) c.new-line.ensures ∙ ap (λ (n : ℕ). take (length raw - n) raw) (c.from.ensures ∙ as_number cr) in
    (line_of raw cr (sym c.has_return-cr.ensures) ∙ ap (λ (line : List ℕ). raw_line line cr) (sym kept), sym c.has_return-cr.ensures)
