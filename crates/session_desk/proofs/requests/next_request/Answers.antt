use Rattle.std.proofs.Common.{refl, ◌∙◌, ap, subst, Result}
use Rattle.std.proofs.lemmas.Result.{err_from_is_err_and}
use Rattle.std.specs.Prelude.{Ok}
use Rattle.session_desk.specs.Session.{Ask}
use Rattle.session_desk.specs.Passing.{Words, Bodies}
use Rattle.session_desk.specs.declared.reading.ReadFault.{ReadFault}
use Rattle.session_desk.specs.declared.requests.Asked.{Asked}
use Rattle.session_desk.specs.declared.requests.Word.{Word}
use Rattle.session_desk.proofs.Passing.{pass_more, fault_more, taken_more, next_of, asks_fault, asks_nothing}
use Rattle.session_desk.proofs.requests.next_request.Goals as goal

pub returns-in_err-next_word-clause-told : goal.returns-in_err-next_word-clause-told
returns-in_err-next_word-clause-told g c = λ s h.
    let old = c.args.reader.now in
    let left = g.S.Source.left c.args.source.now in
    let new = c.next_word.new.reader in
    let left' = g.S.Source.left c.next_word.new.source in
    let p = err_from_is_err_and c.from_residual.result c.from_residual.ensures.1 in
    let told = subst (λ (r : Result Word ReadFault). Words r old left new left') c.in_err-next_word.was (c.next_word.ensures.told s h) in
    rw (p.1, p.2) (asks_fault c.in_err-next_word.field-0.0 old left new left' told)

pub returns-in_err-read_body-in-Batch-clause-told : goal.returns-in_err-read_body-in-Batch-clause-told
returns-in_err-read_body-in-Batch-clause-told g c = λ s h.
    let old = c.args.reader.now in
    let left = g.S.Source.left c.args.source.now in
    let mid = c.next_word.new.reader in
    let left' = g.S.Source.left c.next_word.new.source in
    let told = subst (λ (r : Result Word ReadFault). Words r old left mid left') (c.in_ok-next_word.was ∙ ap Ok c.in-Batch.is) (c.next_word.ensures.told s h) in
    let new = c.read_body.new.reader in
    let end = g.S.Source.left c.read_body.new.source in
    let p = err_from_is_err_and c.from_residual-in_err-read_body-in-Batch.result c.from_residual-in_err-read_body-in-Batch.ensures.1 in
    let e = c.in_err-read_body-in-Batch.field-0.0 in
    let body = subst (λ (r : Result Asked ReadFault). Bodies r mid left' new end) c.in_err-read_body-in-Batch.was (c.read_body.ensures.told s (c.next_word.ensures.same_source s h)) in
    rw (p.1, p.2) (asks_fault e old left new end (fault_more e end told body))

pub returns-in_err-read_body-in-Batch-clause-taken : goal.returns-in_err-read_body-in-Batch-clause-taken
returns-in_err-read_body-in-Batch-clause-taken g c = λ s h.
    let old = c.args.reader.now in
    let left = g.S.Source.left c.args.source.now in
    let mid = c.next_word.new.reader in
    let left' = g.S.Source.left c.next_word.new.source in
    let told = subst (λ (r : Result Word ReadFault). Words r old left mid left') (c.in_ok-next_word.was ∙ ap Ok c.in-Batch.is) (c.next_word.ensures.told s h) in
    taken_more _ told (c.read_body.ensures.taken s (c.next_word.ensures.same_source s h))

pub returns-in_ok-read_body-in-Batch-clause-told : goal.returns-in_ok-read_body-in-Batch-clause-told
returns-in_ok-read_body-in-Batch-clause-told g c = λ s h.
    let old = c.args.reader.now in
    let left = g.S.Source.left c.args.source.now in
    let mid = c.next_word.new.reader in
    let left' = g.S.Source.left c.next_word.new.source in
    let told = subst (λ (r : Result Word ReadFault). Words r old left mid left') (c.in_ok-next_word.was ∙ ap Ok c.in-Batch.is) (c.next_word.ensures.told s h) in
    let new = c.read_body.new.reader in
    let end = g.S.Source.left c.read_body.new.source in
    let body = subst (λ (r : Result Asked ReadFault). Bodies r mid left' new end) c.in_ok-read_body-in-Batch.was (c.read_body.ensures.told s (c.next_word.ensures.same_source s h)) in
    (body.request, body.asked, next_of (pass_more told body.passes))

pub returns-in_ok-read_body-in-Batch-clause-taken : goal.returns-in_ok-read_body-in-Batch-clause-taken
returns-in_ok-read_body-in-Batch-clause-taken g c = λ s h.
    let old = c.args.reader.now in
    let left = g.S.Source.left c.args.source.now in
    let mid = c.next_word.new.reader in
    let left' = g.S.Source.left c.next_word.new.source in
    let told = subst (λ (r : Result Word ReadFault). Words r old left mid left') (c.in_ok-next_word.was ∙ ap Ok c.in-Batch.is) (c.next_word.ensures.told s h) in
    taken_more _ told (c.read_body.ensures.taken s (c.next_word.ensures.same_source s h))

pub returns-in-Line-clause-told : goal.returns-in-Line-clause-told
returns-in-Line-clause-told g c = λ s h.
    let old = c.args.reader.now in
    let left = g.S.Source.left c.args.source.now in
    let mid = c.next_word.new.reader in
    let left' = g.S.Source.left c.next_word.new.source in
    let told = subst (λ (r : Result Word ReadFault). Words r old left mid left') (c.in_ok-next_word.was ∙ ap Ok c.in-Line.is) (c.next_word.ensures.told s h) in
    (Ask c.in-Line.line, refl, next_of told)

pub returns-in-End-clause-told : goal.returns-in-End-clause-told
returns-in-End-clause-told g c = λ s h.
    let old = c.args.reader.now in
    let left = g.S.Source.left c.args.source.now in
    let mid = c.next_word.new.reader in
    let left' = g.S.Source.left c.next_word.new.source in
    let told = subst (λ (r : Result Word ReadFault). Words r old left mid left') (c.in_ok-next_word.was ∙ ap Ok c.in-End.is) (c.next_word.ensures.told s h) in
    asks_nothing told
