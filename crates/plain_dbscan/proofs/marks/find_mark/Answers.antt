use Rattle.std.proofs.Common.{ℕ, Ok, Err, rules, sym}
use Rattle.std.proofs.lemmas.List.Sorted.{answers_always}
use Rattle.plain_dbscan.specs.declared.marks.Mark.{Mark}
use Rattle.plain_dbscan.proofs.CasesOf.{mark_found}
use Rattle.plain_dbscan.proofs.marks.find_mark.Goals as goal

-- the closure gives a mark's number
pub returns-in-Ok : goal.returns-in-Ok
returns-in-Ok c =
    let facts = c.in-Ok.ensures in
    let by_number = facts.position (λ (m : ℕ × Mark). m.0) (answers_always _ _ _ (λ f a r g called. search rules)) in
    sym (mark_found c.args.marks.now c.requires c.args.number (Ok c.in-Ok.place) facts.bound by_number).found

pub returns-in-Err : goal.returns-in-Err
returns-in-Err c =
    let facts = c.in-Err.ensures in
    let by_number = facts.position (λ (m : ℕ × Mark). m.0) (answers_always _ _ _ (λ f a r g called. search rules)) in
    sym (mark_found c.args.marks.now c.requires c.args.number (Err c.in-Err.field-0) facts.bound by_number).absent
