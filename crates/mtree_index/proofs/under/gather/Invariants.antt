use Rattle.std.proofs.Common.{◌≡◌, ◌+◌, max, drop}
use Rattle.mtree_index.specs.Removal.{farthest}
use Rattle.mtree_index.proofs.Walks.{moved}
use Rattle.mtree_index.proofs.under.gather.Given as goal

abbrev pub invariant-loop-i : goal.invariant-loop-i
invariant-loop-i g l =
    let dist = g.M.Metric.dist in
    (l.entries ≡ moved l.i (λ e. g.E.Entry.with_parent (dist l.object (g.E.Entry.object e)) e) l.fn.entries)
    × (max l.most (farthest dist g.E.Entry.object g.E.Entry.radius l.object (drop l.i l.fn.entries)) ≡ farthest dist g.E.Entry.object g.E.Entry.radius l.object l.fn.entries)
    × (l.steps ≡ l.fn.steps + l.i)
