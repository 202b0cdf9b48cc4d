use Rattle.std.proofs.Common.{◌≡◌, ◌∙◌, sym, arith, rules}
use Rattle.page_layout.specs.Heads.{values_of}
use Rattle.page_layout.proofs.SlotReads.{free_said}
use Rattle.page_layout.proofs.rows.read_slot.Goals as goal

pub returns-in-None : goal.returns-in-None
returns-in-None c =
    let known : c.word_at.result ≡ 0 = search rules in
    free_said (values_of c.args.params.now) c.args.page.now c.args.at _ _ (sym c.word_at.ensures ∙ known) (omega (arith, c.width-width.ensures.value)) c.in-None.ensures

pub returns-in-Some : goal.returns-in-Some
returns-in-Some c =
    let known : c.word_at.result ≡ 0 = search rules in
    free_said (values_of c.args.params.now) c.args.page.now c.args.at _ _ (sym c.word_at.ensures ∙ known) (omega (arith, c.width-width.ensures.value)) c.in-Some.ensures
