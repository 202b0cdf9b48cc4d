use Rattle.std.proofs.Common.{sym, refl}
use Rattle.csv.specs.Records.{fields_of}
use Rattle.batch_text.proofs.Places.{change_none, change_one, change_two}
use Rattle.batch_text.proofs.record.change_of.Goals as goal

pub returns-in-None : goal.returns-in-None
returns-in-None c = sym (change_none _ _ (fields_of c.args.row.now) (sym c.in-None.ensures.value))

pub returns-in-None-get : goal.returns-in-None-get
returns-in-None-get c = sym (change_one _ _ (fields_of c.args.row.now) (sym c.in-None-get.ensures.value))

pub returns-in-Some-number_within : goal.returns-in-Some-number_within
returns-in-Some-number_within c =
    let two = change_two c.args.params.now.metric c.args.params.now.dim (fields_of c.args.row.now) c.in-Some.sign.now c.in-Some-get.number.now (sym c.in-Some.ensures.value) (sym c.in-Some-get.ensures.value) in
    rw (two, ← c.number_within.ensures, c.in-Some-number_within.is) c.by_sign.ensures

pub returns-in-None-number_within : goal.returns-in-None-number_within
returns-in-None-number_within c =
    let two = change_two c.args.params.now.metric c.args.params.now.dim (fields_of c.args.row.now) c.in-Some.sign.now c.in-Some-get.number.now (sym c.in-Some.ensures.value) (sym c.in-Some-get.ensures.value) in
    rw (two, ← c.number_within.ensures, c.in-None-number_within.is) refl
