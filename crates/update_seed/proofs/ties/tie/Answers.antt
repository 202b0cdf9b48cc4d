use Rattle.std.proofs.Common.{sym}
use Rattle.std.proofs.lemmas.Result.{on_ok_weaker}
use Rattle.update_seed.proofs.Tied.{same_label, same_back, tied_from, tied_to}
use Rattle.update_seed.proofs.ties.tie.Goals as goal

pub returns-in-Some-label_of : goal.returns-in-Some-label_of
returns-in-Some-label_of c =
    let old = c.args.ties.now in
    let new = c.join.new.ties in
    let least = c.in-Some.ensures.least in
    let one = same_label old least c.args.core c.in-Some.label (sym c.in-Some.ensures.value) in
    let two = same_back old _ _ (same_label old least c.args.other c.in-Some-label_of.second (sym c.in-Some-label_of.ensures.value)) in
    on_ok_weaker c.join.result
    (λ t. tied_from old new c.args.core c.in-Some.label c.args.other one (tied_to old new c.in-Some.label c.in-Some-label_of.second c.args.other two t))
    c.join.ensures

pub returns-in-None-label_of : goal.returns-in-None-label_of
returns-in-None-label_of c =
    let old = c.args.ties.now in
    let one = same_label old c.in-Some.ensures.least c.args.core c.in-Some.label (sym c.in-Some.ensures.value) in
    on_ok_weaker c.take_in.result (tied_from old c.take_in.new.ties c.args.core c.in-Some.label c.args.other one) c.take_in.ensures
