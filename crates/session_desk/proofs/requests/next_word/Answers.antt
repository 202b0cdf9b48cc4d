use Rattle.std.proofs.Common.{subst, ◌∙◌, ap, Option, Result, rules}
use Rattle.std.proofs.lemmas.Result.{err_from_is_err_and}
use Rattle.session_desk.specs.Passing.{OneWord}
use Rattle.session_desk.specs.declared.reading.ReadFault.{ReadFault}
use Rattle.session_desk.specs.declared.requests.Word.{Word}
use Rattle.session_desk.proofs.Passing.{pass_more, fault_more, taken_more, word_more}
use Rattle.std.specs.Prelude.{Ok}
use Rattle.session_desk.proofs.requests.next_word.Goals as goal

pub returns-in_err-word-clause-told : goal.returns-in_err-word-clause-told
returns-in_err-word-clause-told g c = λ s h.
    let mid = c.lines.reader in
    let left = g.S.Source.left c.lines.source in
    let new = c.read_word.new.reader in
    let left' = g.S.Source.left c.read_word.new.source in
    let p = err_from_is_err_and c.from_residual.result c.from_residual.ensures.1 in
    let told = subst (λ (r : Result (Option Word) ReadFault). OneWord r mid left new left') c.in_err-word.was (c.read_word.ensures.told s (c.lines.invariant.same_source s h)) in
    rw (p.1, p.2) (fault_more c.in_err-word.field-0.0 left' (c.lines.invariant.passed s h) told)

pub returns-in_err-word-clause-taken : goal.returns-in_err-word-clause-taken
returns-in_err-word-clause-taken g c = λ s h. taken_more _ (c.lines.invariant.passed s h) (c.read_word.ensures.taken s (c.lines.invariant.same_source s h))

pub returns-in-Some-clause-told : goal.returns-in-Some-clause-told
returns-in-Some-clause-told g c = λ s h.
    let mid = c.lines.reader in
    let left = g.S.Source.left c.lines.source in
    let new = c.read_word.new.reader in
    let left' = g.S.Source.left c.read_word.new.source in
    let told = subst (λ (r : Result (Option Word) ReadFault). OneWord r mid left new left') (c.in_ok-word.was ∙ ap Ok c.in-Some.is) (c.read_word.ensures.told s (c.lines.invariant.same_source s h)) in
    word_more c.in-Some.word new left' (c.lines.invariant.passed s h) told

pub returns-in-Some-clause-taken : goal.returns-in-Some-clause-taken
returns-in-Some-clause-taken g c = λ s h. taken_more _ (c.lines.invariant.passed s h) (c.read_word.ensures.taken s (c.lines.invariant.same_source s h))

pub lines-preserved : goal.lines-preserved
lines-preserved g c =
    let mid = c.lines.reader in
    let left = g.S.Source.left c.lines.source in
    let new = c.read_word.new.reader in
    let left' = g.S.Source.left c.read_word.new.source in
    record {
      passed = λ s h.
          let told = subst (λ (r : Result (Option Word) ReadFault). OneWord r mid left new left') (c.in_ok-word.was ∙ ap Ok c.in_default.is) (c.read_word.ensures.told s (c.lines.invariant.same_source s h)) in
          pass_more (c.lines.invariant.passed s h) told;
      same_source = λ s h. c.read_word.ensures.same_source s (c.lines.invariant.same_source s h);
      room = search rules;
      whole = search rules;
      ended = search rules;
      later = search rules;
    }
