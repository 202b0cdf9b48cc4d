use Rattle.std.proofs.Common.{◌≤◌, ◌<◌, ◌++◌, ◌∷◌, rules, inl, inr, []}
use Rattle.csv.specs.Records.{fields_of}
use Rattle.batch_text.specs.Records.{records_of}
use Rattle.batch_text.proofs.Cut.{at_end, grows, no_more, one_further, one_more}
use Rattle.batch_text.proofs.read.read_rows.Goals as goal

pub returns-then-not-branch : goal.returns-then-not-branch
returns-then-not-branch c =
    let (done, rest, e, left, holds, le) = c.rows.invariant in
    let none = no_more c.in_ok-next_row.field-0 rest (fields_of c.next_row.new.row) c.next_row.new.rdr c.if-not-branch.true (c.in_ok-next_row.ensures rest left) in
    at_end 100001 _ _ c.rows.batch (records_of c.args.body.now) done rest e holds le (inl none)

pub rows-preserved : goal.rows-preserved
rows-preserved c =
    let (done, rest, e, left, holds, le) = c.rows.invariant in
    let (next, more, stands) = one_more c.in_ok-next_row.field-0 rest (fields_of c.next_row.new.row) c.next_row.new.rdr c.if-not-branch.false (c.in_ok-next_row.ensures rest left) in
    let after = c.in_ok-take_row.ensures done holds in
    let room : c.rows.batch.total < 100001 = search rules in
    (done ++ fields_of c.next_row.new.row ∷ [], next, one_further (records_of c.args.body.now) done rest next _ e more, stands, after, grows 100001 _ _ done _ c.rows.batch c.take_row.new.batch holds after room)

pub returns : goal.returns
returns c =
    let (done, rest, e, left, holds, le) = c.rows.invariant in
    let full : 100001 ≤ c.rows.batch.total = search rules in
    at_end 100001 _ _ c.rows.batch (records_of c.args.body.now) done rest e holds le (inr full)
