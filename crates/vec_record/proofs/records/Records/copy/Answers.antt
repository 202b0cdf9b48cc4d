use Rattle.std.proofs.Common.{◌≡◌, ◌∙◌, ◌++◌, ◌∷◌, sym, ap, subst}
use Rattle.vec_record.specs.Held.{Held, HaveWidth}
use Rattle.vec_record.proofs.Maps.{Vectors, have_width}
use Rattle.vec_record.proofs.Copies.{one_copied}
use Rattle.vec_record.proofs.records.Records.copy.Goals as goal

pub loop-number-preserved-in_ok-insert : goal.loop-number-preserved-in_ok-insert
loop-number-preserved-in_ok-insert c =
    let es = c.self.inside.vectors.entries in
    let some = c.in-Some in
    let here : c.loop-number.vectors.entries ++ (some.number.now, some.vector.now) ∷ c.next.new.self ≡ es = ap (λ (rest : Vectors). c.loop-number.vectors.entries ++ rest) (sym some.ensures.steps) ∙ c.loop-number.invariant in
    let same : some.vector.now ≡ c.in_ok-copy.field-0 = sym c.in_ok-copy.ensures in
    ap (λ (front : Vectors). front ++ c.next.new.self) c.in_ok-insert.ensures.entries
    ∙ one_copied es c.loop-number.vectors.entries some.number.now c.in_ok-copy.field-0 c.next.new.self c.iter-number-items.ensures.ordered (rw same at here)

pub loop-number-preserved : goal.loop-number-preserved
loop-number-preserved c =
    let es = c.self.inside.vectors.entries in
    let some = c.in-Some in
    let here : c.loop-number.vectors.entries ++ (some.number.now, some.vector.now) ∷ c.next.new.self ≡ es = ap (λ (rest : Vectors). c.loop-number.vectors.entries ++ rest) (sym some.ensures.steps) ∙ c.loop-number.invariant in
    let same : some.vector.now ≡ c.in_ok-copy.field-0 = sym c.in_ok-copy.ensures in
    ap (λ (front : Vectors). front ++ c.next.new.self) c.in_ok-insert.ensures.entries
    ∙ one_copied es c.loop-number.vectors.entries some.number.now c.in_ok-copy.field-0 c.next.new.self c.iter-number-items.ensures.ordered (rw same at here)

pub returns-in_err-copy-clause-vectors : goal.returns-in_err-copy-clause-vectors
returns-in_err-copy-clause-vectors c =
    subst (λ (s : Held). HaveWidth s.width s.vectors) c.self.view_is (have_width c.self.inside.width c.self.inside.vectors.entries c.self.invariant.1)

pub returns-in_err-insert-clause-vectors : goal.returns-in_err-insert-clause-vectors
returns-in_err-insert-clause-vectors c =
    subst (λ (s : Held). HaveWidth s.width s.vectors) c.self.view_is (have_width c.self.inside.width c.self.inside.vectors.entries c.self.invariant.1)

pub returns-clause-vectors : goal.returns-clause-vectors
returns-clause-vectors c =
    subst (λ (s : Held). HaveWidth s.width s.vectors) c.self.view_is (have_width c.self.inside.width c.self.inside.vectors.entries c.self.invariant.1)
