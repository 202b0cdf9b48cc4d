use Rattle.std.proofs.Common.{[], refl, sym, ◌≡◌, ◌≤◌, ◌∷◌, ◌++◌, length, ◌∙◌, ap, subst, Result, rules, inl, arith, List, ℕ}
use Rattle.std.proofs.lemmas.Result.{err_from_is_err_and}
use Rattle.std.specs.Prelude.{Some, Ok}
use Rattle.session_desk.specs.Session.{Batch, Cut}
use Rattle.session_desk.specs.Passing.{OneInBody, KeepsRoom}
use Rattle.session_desk.specs.declared.reading.ReadFault.{ReadFault}
use Rattle.session_desk.specs.declared.requests.BodyLine.{BodyLine}
use Rattle.session_desk.proofs.Passing.{pass_none, pass_more, end_more, fault_more, taken_more}
use Rattle.session_desk.proofs.requests.read_body.Goals as goal

pub lines-init : goal.lines-init
lines-init g c = record {
  passed = λ s h. ([], record { long = refl; bytes = λ short. c.new.ensures }, pass_none (Some []) c.args.reader.now (g.S.Source.left c.args.source.now));
  same_source = λ s h. h;
  bytes = inl (omega (arith, ap length c.new.ensures));
  room = search rules;
  whole = search rules;
  ended = search rules;
  later = search rules;
}

pub returns-in_err-read_line-clause-told : goal.returns-in_err-read_line-clause-told
returns-in_err-read_line-clause-told g c = λ s h.
    let mid = c.lines.reader in
    let left = g.S.Source.left c.lines.source in
    let new = c.read_line.new.reader in
    let left' = g.S.Source.left c.read_line.new.source in
    let passed = c.lines.invariant.passed s h in
    let p = err_from_is_err_and c.from_residual.result c.from_residual.ensures.1 in
    let told = subst (λ (r : Result BodyLine ReadFault). OneInBody r passed.0 c.read_line.new.body mid left new left') c.in_err-read_line.was (c.read_line.ensures.told s (c.lines.invariant.same_source s h) passed.0 passed.1) in
    rw (p.1, p.2) (fault_more c.in_err-read_line.field-0.0 left' passed.2 told)

pub returns-in_err-read_line-clause-taken : goal.returns-in_err-read_line-clause-taken
returns-in_err-read_line-clause-taken g c = λ s h. taken_more _ (c.lines.invariant.passed s h).2 (c.read_line.ensures.taken s (c.lines.invariant.same_source s h))

pub lines-preserved : goal.lines-preserved
lines-preserved g c =
    let mid = c.lines.reader in
    let left = g.S.Source.left c.lines.source in
    let new = c.read_line.new.reader in
    let left' = g.S.Source.left c.read_line.new.source in
    let was = c.in_ok-read_line.was ∙ ap Ok c.in-Kept.is in
    record {
      passed = λ s h.
          let passed = c.lines.invariant.passed s h in
          let kept = subst (λ (r : Result BodyLine ReadFault). OneInBody r passed.0 c.read_line.new.body mid left new left') was (c.read_line.ensures.told s (c.lines.invariant.same_source s h) passed.0 passed.1) in
          (passed.0 ++ kept.line ∷ [], kept.stands, pass_more passed.2 kept.passes);
      same_source = λ s h. c.read_line.ensures.same_source s (c.lines.invariant.same_source s h);
      bytes = subst (λ (r : Result BodyLine ReadFault). KeepsRoom r c.args.reader.now.room c.read_line.new.body new) was (c.read_line.ensures.room c.args.reader.now.room c.lines.invariant.bytes);
      room = search rules;
      whole = search rules;
      ended = search rules;
      later = search rules;
    }

pub returns-in-End-clause-told : goal.returns-in-End-clause-told
returns-in-End-clause-told g c = λ s h.
    let mid = c.lines.reader in
    let left = g.S.Source.left c.lines.source in
    let new = c.read_line.new.reader in
    let left' = g.S.Source.left c.read_line.new.source in
    let passed = c.lines.invariant.passed s h in
    let told = subst (λ (r : Result BodyLine ReadFault). OneInBody r passed.0 c.read_line.new.body mid left new left') (c.in_ok-read_line.was ∙ ap Ok c.in-End.is) (c.read_line.ensures.told s (c.lines.invariant.same_source s h) passed.0 passed.1) in
    record {
      request = Batch passed.0;
      asked = (passed.0, refl, sym told.0.long ∙ c.if-body.true);
      passes = pass_more passed.2 told.1;
    }

pub returns-in-End-clause-taken : goal.returns-in-End-clause-taken
returns-in-End-clause-taken g c = λ s h. taken_more _ (c.lines.invariant.passed s h).2 (c.read_line.ensures.taken s (c.lines.invariant.same_source s h))

pub returns-in-End-2-clause-told : goal.returns-in-End-2-clause-told
returns-in-End-2-clause-told g c = λ s h.
    let mid = c.lines.reader in
    let left = g.S.Source.left c.lines.source in
    let new = c.read_line.new.reader in
    let left' = g.S.Source.left c.read_line.new.source in
    let passed = c.lines.invariant.passed s h in
    let told = subst (λ (r : Result BodyLine ReadFault). OneInBody r passed.0 c.read_line.new.body mid left new left') (c.in_ok-read_line.was ∙ ap Ok c.in-End-2.is) (c.read_line.ensures.told s (c.lines.invariant.same_source s h) passed.0 passed.1) in
    record {
      request = Batch passed.0;
      asked = (passed.0, refl, sym told.0.long ∙ c.if-body.false, told.0.bytes c.if-body.false);
      passes = pass_more passed.2 told.1;
    }

pub returns-in-End-2-clause-taken : goal.returns-in-End-2-clause-taken
returns-in-End-2-clause-taken g c = λ s h. taken_more _ (c.lines.invariant.passed s h).2 (c.read_line.ensures.taken s (c.lines.invariant.same_source s h))

pub returns-in-End-2-clause-few : goal.returns-in-End-2-clause-few
returns-in-End-2-clause-few g c = λ body is.
    let few = subst (λ (r : Result BodyLine ReadFault). KeepsRoom r c.args.reader.now.room c.read_line.new.body c.read_line.new.reader) (c.in_ok-read_line.was ∙ ap Ok c.in-End-2.is) (c.read_line.ensures.room c.args.reader.now.room c.lines.invariant.bytes) in
    let same : c.read_line.new.body.bytes ≡ body = cc in
    subst (λ (l : List ℕ). length l ≤ c.args.reader.now.room) same few

pub returns-in-Cut-clause-told : goal.returns-in-Cut-clause-told
returns-in-Cut-clause-told g c = λ s h.
    let mid = c.lines.reader in
    let left = g.S.Source.left c.lines.source in
    let new = c.read_line.new.reader in
    let left' = g.S.Source.left c.read_line.new.source in
    let passed = c.lines.invariant.passed s h in
    let told = subst (λ (r : Result BodyLine ReadFault). OneInBody r passed.0 c.read_line.new.body mid left new left') (c.in_ok-read_line.was ∙ ap Ok c.in-Cut.is) (c.read_line.ensures.told s (c.lines.invariant.same_source s h) passed.0 passed.1) in
    record { request = Cut; asked = refl; passes = (end_more passed.2 told).passes }
