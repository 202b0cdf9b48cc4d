use Rattle.std.proofs.Common.{sym, rules}
use Rattle.csv.specs.Records.{fields_of}
use Rattle.batch_text.proofs.Places.{field_gone, field_here}
use Rattle.batch_text.proofs.record.by_sign.Goals as goal

pub returns-in-None : goal.returns-in-None
returns-in-None c = rw (field_gone (fields_of c.args.row.now) 2 (sym c.in-None.ensures.value)) (search rules)

pub returns-in-Some : goal.returns-in-Some
returns-in-Some c = rw (field_here (fields_of c.args.row.now) 2 c.in-Some.field-0.now (sym c.in-Some.ensures.value)) (search rules)
