use Rattle.std.proofs.Common.{◌≡◌, reverse, ◌∙◌, ap, subst}
use Rattle.std.proofs.lemmas.List.{reverse-reverse}
use Rattle.std.proofs.lemmas.Result.{err_from_is_err_and}
use Rattle.std.specs.FinMap as maps
use Rattle.page_layout.specs.Heads.{values_of}
use Rattle.page_layout.specs.Slots.{Rows}
use Rattle.store_image.specs.inside.Reads.{Taking}
use Rattle.store_image.proofs.LoadTaking.{taking_start, popped}
use Rattle.store_image.proofs.sorted.take_slots.Goals as goal

pub loop-row-init : goal.loop-row-init
loop-row-init c =
    let v = values_of c.args.params.now in
    let all = c.args.slots.items in
    let back : reverse c.reverse.new.self.items ≡ all = ap reverse c.reverse.ensures.items ∙ reverse-reverse all in
    rw (back, c.new-numbers.ensures.items, c.new-lines.ensures.items) (taking_start v all c.new-records.result c.requires.lawful (c.new-records.ensures ∙ (λ i. record { width = c.width.ensures.value i; vectors = maps.empty })))

pub returns-in_err-take_slot : goal.returns-in_err-take_slot
returns-in_err-take_slot c =
    let all = c.args.slots.items in
    let p = err_from_is_err_and c.from_residual.result c.from_residual.ensures.1 in
    let v = values_of c.args.params.now in
    let rest = reverse c.pop.new.self.items in
    let next = popped c.loop-row.left.items c.pop.new.self.items c.in-Some.row c.in-Some.ensures.items in
    rw (p.1, p.2) (c.in_err-take_slot.ensures all rest (subst (λ (l : Rows). Taking v all l c.loop-row.taken.numbers.items c.loop-row.taken.lines.items c.loop-row.taken.records) next c.loop-row.invariant))
