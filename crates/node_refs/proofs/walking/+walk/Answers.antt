use Rattle.std.proofs.Common.{◌≡◌, ◌-◌, ◌≤◌, suc, refl, arith}
use Rattle.node_refs.specs.inside.Told.{listed_so_far}
use Rattle.node_refs.proofs.Walked.{inner_listed}
use Rattle.node_refs.proofs.walking.+walk.Goals as goal

pub push_node-returns-clause-listed : goal.push_node-returns-clause-listed
push_node-returns-clause-listed t c =
    let k = c.args.level - 1 in
    let is : c.args.level ≡ suc k = omega (arith, c.requires.level) in
    let above : 1 ≤ k = omega (arith, c.requires.level, c.if-level-eq1.false) in
    inner_listed c.args.pages.now c.args.level k c.args.reference is above
    (listed_so_far c.args.progress.now) (listed_so_far c.note-2.new.progress) (listed_so_far c.push_rows.new.progress) _ _
    c.inner_at.result.now c.in_ok-rows-2.rows c.len-at.result
    c.in_ok-note.ensures.listed c.inner_at.ensures c.in_ok-rows-2.ensures.rows c.in_ok-rows-2.ensures.listed
    refl c.len-at.ensures c.put_node.ensures
