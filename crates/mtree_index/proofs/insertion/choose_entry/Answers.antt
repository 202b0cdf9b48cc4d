use Rattle.std.proofs.Common.{◌≡◌, ℕ, ◌+◌, ◌<◌, length, map, slice_index, refl, sym, ap, ◌∙◌, arith}
use Rattle.mtree_split.proofs.Firsts.{first_of_none}
use Rattle.mtree_index.specs.Insertion.{rank, entry_rank, entry_distance}
use Rattle.mtree_index.proofs.Chosen.{taken, kept, some_before}
use Rattle.mtree_index.proofs.Halves.{index_map}
use Rattle.mtree_index.proofs.insertion.choose_entry.Goals.{then-rank-least, else-rank-least}
use Rattle.mtree_index.proofs.insertion.choose_entry.Goals as goal

pub loop-i-init : goal.loop-i-init
loop-i-init g c = record {
  place = sym (first_of_none (slice_index (map (entry_rank g.M.Metric.dist c.args.vector.now) c.args.entries.now)));
  least = λ some. absurd (omega arith);
  none = λ e. refl;
  within = λ some. absurd (omega arith);
  nearest = λ some. absurd (omega arith);
  steps = omega arith;
}

pub loop-i-preserved : goal.loop-i-preserved
loop-i-preserved g c =
    let dist = g.M.Metric.dist in
    let v = c.args.vector.now in
    let es = c.args.entries.now in
    let i = c.loop-i.i in
    let e = c.index-entries-i.result in
    let ranks = slice_index (map (entry_rank dist v) es) in
    let before = c.loop-i.invariant in
    let inside : i < length es = omega arith in
    let distance : c.distance-distance.result ≡ slice_index (map (entry_distance dist v) es) i =
    c.distance-distance.ensures.value ∙ sym (index_map (entry_distance dist v) es i e 0 inside c.index-entries-i.is) in
    let ranked : c.rank_of-rank.result ≡ ranks i =
    c.rank_of-rank.ensures.value ∙ (ap (λ (d : ℕ). rank d c.index-entries-i.result.radius) c.distance-distance.ensures.value ∙ sym (index_map (entry_rank dist v) es i e 0 inside c.index-entries-i.is)) in
    let step : c.distance-distance.new.steps ≡ c.args.steps.now + (i + 1) = omega (arith, c.distance-distance.ensures.counts, before.steps) in
    elim c.if-rank-least.branch [
      | then-rank-least w ↦ record {
        place = w.place-is ∙ taken ranks i c.loop-i.least c.rank_of-rank.result c.loop-i.place before.place before.least ranked w.if-rank-least.true;
        least = λ some. w.least-is ∙ (ranked ∙ ap ranks (sym w.place-is));
        none = λ e. absurd (omega arith);
        within = λ some. omega (arith, w.place-is);
        nearest = λ some. w.nearest-is ∙ (distance ∙ ap (slice_index (map (entry_distance dist v) es)) (sym w.place-is));
        steps = step;
      }
      | else-rank-least w ↦
          let some : 0 < i = some_before i c.loop-i.least 18446744073709551615 before.none (omega (arith, w.if-rank-least.false, c.rank_of-rank.ensures.small)) in
          record {
            place = w.place-is ∙ kept ranks i c.loop-i.least c.loop-i.place before.place (before.least some) (omega (arith, ranked, w.if-rank-least.false));
            least = λ _. w.least-is ∙ (before.least some ∙ ap ranks (sym w.place-is));
            none = λ e. absurd (omega arith);
            within = λ _. omega (arith, w.place-is, before.within some);
            nearest = λ _. w.nearest-is ∙ (before.nearest some ∙ ap (slice_index (map (entry_distance dist v) es)) (sym w.place-is));
            steps = step;
          }
    ]
