use Rattle.std.proofs.Common.{ℕ, List, length, Result, Ok, Err, IfOk, sym, subst}
use Rattle.plain_dbscan.specs.Marks.{Density, density}
use Rattle.plain_dbscan.specs.inside.Roots.{AreRoots, roots_of}
use Rattle.plain_dbscan.proofs.LabelsOf.{labels_by_roots}
use Rattle.plain_dbscan.proofs.labels.find_labels.Goals as goal

on_ok : {X E : Type 0} {P Q : X → Type 0} (r : Result X E) → ((x : X) → P x → Q x) → IfOk r P → IfOk r Q
on_ok (Ok x) f h = f x h
on_ok (Err e) f h = tt

pub returns-clause-labels : goal.returns-clause-labels
returns-clause-labels g c =
    let d : Density = density g.M.Metric.dist c.args.eps 0 in
    let cores = c.args.cores.now in
    let t = c.args.rows.now in
    let roots = roots_of d.dist d.eps t (length t.rows) in
    let are : AreRoots c.deref_mut.result.now roots = subst (λ (ps : List ℕ). AreRoots ps roots) (sym c.deref_mut.ensures.value) c.in_ok-parents.ensures.roots in
    on_ok c.root_numbers.result (λ labels h. labels_by_roots d cores t c.requires.rising c.requires.packed c.requires.vectors.width c.requires.vectors.all (g.met.M.Metric.symmetry c.requires.vectors.width) labels.items (h roots are)) c.root_numbers.ensures
