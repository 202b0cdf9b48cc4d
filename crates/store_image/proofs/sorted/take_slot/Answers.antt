use Rattle.std.proofs.Common.{◌≡◌, Option, [], ◌∷◌, ◌++◌, subst}
use Rattle.page_layout.specs.declared.slot.Slot.{Slot}
use Rattle.page_layout.specs.Heads.{values_of}
use Rattle.store_image.specs.inside.Reads.{Taking}
use Rattle.store_image.proofs.LoadTaking.{taking_free}
use Rattle.store_image.proofs.sorted.take_slot.Goals as goal

pub returns-in-Some : goal.returns-in-Some
returns-in-Some c = λ all rest t.
    let v = values_of c.args.params.now in
    let taken = c.args.taken.now in
    c.take_used.ensures all rest (subst (λ (r : Option Slot). Taking v all (r ∷ rest) taken.numbers.items taken.lines.items taken.records) c.in-Some.is t)

pub returns-in_ok-push_number-in-None : goal.returns-in_ok-push_number-in-None
returns-in_ok-push_number-in-None c = λ all rest t.
    let v = values_of c.args.params.now in
    let taken = c.args.taken.now in
    let pushed : c.push_number.new.numbers.items ≡ taken.numbers.items ++ 0 ∷ [] = c.in_ok-push_number-in-None.ensures in
    rw pushed (taking_free v all rest taken.numbers.items taken.lines.items taken.records (subst (λ (r : Option Slot). Taking v all (r ∷ rest) taken.numbers.items taken.lines.items taken.records) c.in-None.is t))
