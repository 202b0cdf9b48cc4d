use Rattle.std.proofs.Common.{◌≡◌, Ok, sym, ◌∙◌, ap, arith, rules}
use Rattle.page_layout.specs.Heads.{HeadValue, values_of}
use Rattle.page_layout.proofs.Places.{bytes_by_index}
use Rattle.page_layout.proofs.HeadLaws.{head_foreign, head_damaged, head_lawful, head_from, head_in_is}
use Rattle.page_layout.proofs.head.read_fields.Goals as goal

pub returns-then-version-ne1-clause-head : goal.returns-then-version-ne1-clause-head
returns-then-version-ne1-clause-head c = head_foreign c.args.page.now (λ is. c.if-version-ne1.true (c.word_at-version.ensures ∙ is))

pub returns-in-Some-clause-head : goal.returns-in-Some-clause-head
returns-in-Some-clause-head c = head_damaged c.args.page.now c.in-Some.offset (sym c.word_at-version.ensures ∙ search rules) c.in-Some.ensures

pub returns-clause-head : goal.returns-clause-head
returns-clause-head c =
    let known : c.word_at-version.result ≡ 1 = search rules in
    head_lawful c.args.page.now (sym c.word_at-version.ensures ∙ known) (sym c.in_default.ensures)
    ∙ ap (λ (v : HeadValue). Ok v) (head_in_is c.args.page.now c.word_at.result c.word_at-version.result c.word_at-2.result c.word_at-3.result c.word_at-4.result c.word_at-5.result (values_of c.params_in.result)
    c.word_at.ensures c.word_at-version.ensures c.params_in.ensures c.word_at-2.ensures c.word_at-3.ensures c.word_at-4.ensures c.word_at-5.ensures)

pub returns-clause-lawful : goal.returns-clause-lawful
returns-clause-lawful c = (head_from c.args.page.now _ c.requires (bytes_by_index c.args.page.now (λ i. omega (arith, c.type_inv.page i))) (returns-clause-head c)).0
