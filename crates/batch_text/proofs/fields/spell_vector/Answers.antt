use Rattle.std.proofs.Common.{◌≡◌, ◌∙◌, sym, ap, rules, true, false, Some}
use Rattle.std.proofs.lemmas.List.{append-nil}
use Rattle.csv.specs.Records.{fields_of}
use Rattle.batch_text.proofs.Places.{field_gone, onto_bad, onto_good}
use Rattle.batch_text.proofs.fields.spell_vector.Goals as goal

pub returns-then-not-branch : goal.returns-then-not-branch
returns-then-not-branch c =
    let bad : c.in_ok-append_field.field-0 ≡ false = search rules in
    sym (onto_bad c.args.metric c.fields.parts.items c.append_field.new.parts.items (fields_of c.args.row.now) c.fields.at c.in-Some.field.now _ (sym c.in-Some.ensures.value) c.in_ok-append_field.ensures bad) ∙ c.fields.invariant

pub fields-preserved : goal.fields-preserved
fields-preserved c =
    let good : c.in_ok-append_field.field-0 ≡ true = search rules in
    sym (onto_good c.args.metric c.fields.parts.items c.append_field.new.parts.items (fields_of c.args.row.now) c.fields.at c.in-Some.field.now _ (sym c.in-Some.ensures.value) c.in_ok-append_field.ensures good) ∙ c.fields.invariant

pub returns : goal.returns
returns c =
    let gone = field_gone (fields_of c.args.row.now) c.fields.at (sym c.in_default.ensures.value) in
    sym (ap Some (append-nil c.fields.parts.items)) ∙ rw gone at c.fields.invariant
