use Rattle.std.proofs.Common.{◌≡◌, ◌∙◌, ℕ, List, length, get_or, ap, arith, zero-add}
use Rattle.page_gate.specs.Gate.{gate_of}
use Rattle.page_gate.proofs.Looking.{stays_on}
use Rattle.page_gate.proofs.Reading.{gate_read}
use Rattle.page_gate.proofs.opening.look.Goals as goal

pub returns-clause-told : goal.returns-clause-told
returns-clause-told g c = λ told.
    let first = c.in_ok-len.ensures.told told in
    let second = stays_on first (c.in_ok-fill_from.ensures.told told) in
    let len_is : c.in_ok-len.len ≡ length (g.T.Site.state c.args.site.now).content = c.in_ok-len.ensures.length told in
    record {
      stays = second;
      gate = (
        len_is,
        ap (λ (n : ℕ). gate_of n c.fill_from.new.self) len_is ∙ gate_read c.fill_from.new.self (g.T.Site.state c.args.site.now).content c.fill_from.ensures.length
            (λ i lt. c.in_ok-fill_from.ensures.read told i (omega (arith, lt, c.fill_from.ensures.length)) ∙ ap (λ (k : ℕ). get_or (g.T.Site.state c.len.new.self).content k 0) (zero-add i) ∙ ap (λ (l : List ℕ). get_or l i 0) first.content),
      );
    }
