use Rattle.std.proofs.Common.{refl}
use Rattle.page_layout.specs.Heads.{values_in}
use Rattle.page_layout.proofs.HeadLaws.{lawful_fields, params_within}
use Rattle.page_layout.proofs.head.params_in.Goals as goal

pub invariant_of-result : goal.invariant_of-result
invariant_of-result c = record {
  limits = params_within c.args.page.now (lawful_fields c.args.page.now c.requires.lawful) c.metric_of.result c.word_at.result c.word_at-2.result c.word_at-3.result c.word_at-4.result c.word_at-5.result
      c.metric_of.ensures c.word_at.ensures c.word_at-2.ensures c.word_at-3.ensures c.word_at-4.ensures c.word_at-5.ensures;
}

pub returns : goal.returns
unfolding values_in
returns c = rw (c.metric_of.ensures, c.word_at.ensures, c.word_at-2.ensures, c.word_at-3.ensures, c.word_at-4.ensures, c.word_at-5.ensures) refl
