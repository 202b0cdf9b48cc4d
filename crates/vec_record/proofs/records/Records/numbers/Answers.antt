use Rattle.std.proofs.Common.{◌≡◌, ◌≢◌, ◌∙◌, ◌++◌, ℕ, List, sym, ap, subst}
use Rattle.std.proofs.lemmas.List.{append-nil}
use Rattle.std.specs.List.{AllByRecursion}
use Rattle.std.specs.FinMap as map
use Rattle.vec_record.specs.Held.{Held, AreAll}
use Rattle.vec_record.proofs.Maps.{keys_held, entries_held, numbered}
use Rattle.vec_record.proofs.records.Records.numbers.Goals as goal

pub loop-number-init : goal.loop-number-init
loop-number-init c =
    rw c.new-numbers.ensures (c.into_iter-number-iterator.ensures.into_iter_gives ∙ (c.keys-number-items.ensures.rest
    ∙ (keys_held c.self.inside.vectors.entries c.keys-number-items.ensures.ordered ∙ ap (λ s. map.keys s.vectors) c.self.view_is)))

pub returns-clause-none : goal.returns-clause-none
returns-clause-none c =
    let all : AreAll c.args.self.now.width (map.entries c.args.self.now.vectors) =
    subst (λ (s : Held). AreAll s.width (map.entries s.vectors)) c.self.view_is
    (subst (AreAll c.self.inside.width) (sym (entries_held c.self.inside.vectors.entries c.keys-number-items.ensures.ordered)) c.self.invariant.1) in
    let done : c.loop-number.numbers ≡ map.keys c.args.self.now.vectors = sym (append-nil c.loop-number.numbers) ∙ (ap (λ (rest : List ℕ). c.loop-number.numbers ++ rest) (sym c.in-None.ensures.steps.0) ∙ c.loop-number.invariant) in
    subst (λ (ns : List ℕ). AllByRecursion (λ q. q ≢ 0) ns) (sym done) (numbered c.args.self.now.width (map.entries c.args.self.now.vectors) all)
