use Rattle.std.proofs.Common.{◌∙◌, ℕ, List, length, get_or, ap, arith}
use Rattle.page_gate.proofs.Looking.{synced_look, more_look, asks}
use Rattle.page_gate.proofs.opening.is_blank.Goals as goal

pub returns-clause-told : goal.returns-clause-told
returns-clause-told g c = λ told.
    let first = synced_look (g.met.T.Site.is_now c.args.site.now told) (c.in_ok-sync.ensures.told told) in
    let second = more_look first (c.in_ok-len.ensures.told told) in
    let third = more_look second (c.in_ok-read.ensures.told told) in
    asks third c.is_blank_by.result c.in_ok-len.len _ c.is_blank_by.ensures (c.in_ok-len.ensures.length told ∙ ap length first.content) (c.in_ok-read.ensures.read told 0 (omega arith) ∙ ap (λ (l : List ℕ). get_or l 0 0) second.content)
