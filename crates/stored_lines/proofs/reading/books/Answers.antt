use Rattle.std.proofs.Common.{◌∙◌, sym}
use Rattle.stored_lines.proofs.Led.{labels_are}
use Rattle.stored_lines.proofs.Entered.{loose_is}
use Rattle.stored_lines.proofs.reading.books.Goals as goal

pub returns-in-Some-clause-fault : goal.returns-in-Some-clause-fault
returns-in-Some-clause-fault c =
    sym (loose_is c.args.minpts c.args.lines.now c.in_ok-counts.counts c.in_ok-labels.labels c.requires c.in_ok-counts.ensures c.in_ok-labels.ensures)
    ∙ sym c.loose_line.ensures ∙ c.in-Some.is

pub returns-in-None-clause-ok : goal.returns-in-None-clause-ok
returns-in-None-clause-ok c =
    sym (loose_is c.args.minpts c.args.lines.now c.in_ok-counts.counts c.in_ok-labels.labels c.requires c.in_ok-counts.ensures c.in_ok-labels.ensures)
    ∙ sym c.loose_line.ensures ∙ c.in-None.is

pub returns-in-None-clause-labels : goal.returns-in-None-clause-labels
returns-in-None-clause-labels c =
    labels_are c.args.minpts c.args.lines.now c.in_ok-labels.labels c.requires c.in_ok-labels.ensures (returns-in-None-clause-ok c)
