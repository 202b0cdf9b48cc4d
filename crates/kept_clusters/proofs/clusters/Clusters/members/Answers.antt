use Rattle.std.proofs.Common.{◌≡◌, None, Some, not, ap, subst, ◌∙◌}
use Rattle.kept_clusters.specs.Kept.{Kept, marks_in, Stand}
use Rattle.kept_clusters.specs.Asked.{members_of}
use Rattle.kept_clusters.proofs.Looked.{no_label, no_members, some_members}
use Rattle.kept_clusters.proofs.clusters.Clusters.members.Goals as goal

pub returns-then-is_none : goal.returns-then-is_none
returns-then-is_none g c =
    let dist = g.M.Metric.dist in
    let records = c.args.records.now in
    let P : Kept → Type 0 = λ k. Stand dist records k → None ≡ members_of c.args.label (marks_in dist k records.vectors) in
    subst P c.self.view_is (λ stands. no_members stands c.args.label (no_label c.members.result (c.is_none.ensures ∙ ap not c.if-is_none.true) _ c.members.ensures.some.1))

pub returns : goal.returns
returns g c =
    let dist = g.M.Metric.dist in
    let records = c.args.records.now in
    let P : Kept → Type 0 = λ k. Stand dist records k → Some c.in_ok-members.members ≡ members_of c.args.label (marks_in dist k records.vectors) in
    subst P c.self.view_is (λ stands. ap (λ ms. Some ms) c.in_ok-members.ensures ∙ some_members stands c.args.label (c.members.ensures.some.0 (c.is_none.ensures ∙ ap not c.if-is_none.false)))
