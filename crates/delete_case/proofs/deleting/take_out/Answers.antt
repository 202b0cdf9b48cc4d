use Rattle.std.proofs.Common.{◌∙◌, ap, sym, inl, inr, arith, Ok}
use Rattle.delete_case.proofs.Results.{on_err}
use Rattle.delete_case.proofs.deleting.take_out.Goals as goal

pub range-requires : goal.range-requires
range-requires g c = record { width = c.requires.width ∙ sym c.in_ok-remove.ensures.same_width }

pub returns-in_err-remove-clause-err : goal.returns-in_err-remove-clause-err
returns-in_err-remove-clause-err g c = on_err _ _ (inr c.remove.ensures.counted)

pub returns-in_err-range-clause-err : goal.returns-in_err-range-clause-err
returns-in_err-range-clause-err g c =
    let found = c.in_ok-remove.ensures.present.1 c.requires.there in
    on_err _ _ (inl (c.in_ok-remove.ensures.removed (ap (λ b. Ok b) found), omega (arith, c.in_ok-remove.ensures.counted, c.range.ensures.at_most)))

pub returns-clause-removed : goal.returns-clause-removed
returns-clause-removed g c =
    let found = c.in_ok-remove.ensures.present.1 c.requires.there in
    c.in_ok-remove.ensures.removed (ap (λ b. Ok b) found)

pub returns-clause-counted : goal.returns-clause-counted
returns-clause-counted g c = omega (arith, c.in_ok-remove.ensures.counted, c.in_ok-range.ensures.at_most)
