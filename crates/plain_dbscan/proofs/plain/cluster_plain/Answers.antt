use Rattle.std.proofs.Common.{◌≡◌, ◌+◌, ◌*◌, ◌≤◌, ℕ, length, sym, ap, subst, ◌∙◌}
use lib.Dec.{T}
use Rattle.std.specs.Ordering.{nat_cmp}
use Rattle.std.specs.FinMap as map
use Rattle.std.specs.FinMap.Entries.{is_sorted}
use Rattle.std.proofs.lemmas.List.{length-map}
use Rattle.plain_dbscan.specs.Marks.{Entries}
use Rattle.plain_dbscan.specs.Points.{entries_of, AreOfWidth}
use Rattle.plain_dbscan.proofs.plain.cluster_plain.Goals as goal

pub mark_points-requires-clause-vectors : goal.mark_points-requires-clause-vectors
mark_points-requires-clause-vectors g c = record {
  width = c.args.records.now.width;
  all = subst (AreOfWidth c.args.records.now.width) (sym c.deref.ensures.value) c.in_ok-points.ensures.vectors;
}

pub mark_points-requires-clause-rising : goal.mark_points-requires-clause-rising
mark_points-requires-clause-rising g c =
    let are : entries_of c.deref.result.now ≡ map.entries c.args.records.now.vectors = ap entries_of c.deref.ensures.value ∙ c.in_ok-points.ensures.entries in
    subst (λ (es : Entries). T (is_sorted nat_cmp es)) (sym are) (map.entries_sorted c.args.records.now.vectors)

pub returns-clause-few : goal.returns-clause-few
returns-clause-few g c =
    let are : entries_of c.deref.result.now ≡ map.entries c.args.records.now.vectors = ap entries_of c.deref.ensures.value ∙ c.in_ok-points.ensures.entries in
    let long : length c.deref.result.now ≡ map.len c.args.records.now.vectors = sym (length-map c.deref.result.now _) ∙ ap length are ∙ sym (map.len-entries c.args.records.now.vectors) in
    subst (λ (n : ℕ). c.mark_points.new.steps ≤ c.args.steps.now + 3 * n * n) long c.mark_points.ensures.few
