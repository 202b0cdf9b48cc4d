use Rattle.std.proofs.Common.{◌≡◌, ◌∙◌, ◌<◌, ℕ, suc, refl, ap, sym, subst, length, map, take, drop, get_or, ◌+◌, ◌-◌, ◌*◌, ◌++◌, List, [], arith}
use Rattle.std.proofs.lemmas.List.{length-map}
use Rattle.vec_record.specs.Vectors.{AreBytes, IsVector}
use Rattle.mtree_index.specs.Split.{row}
use Rattle.mtree_index.specs.inside.Pairs.{with_known}
use Rattle.mtree_index.proofs.Halves.{index_map}
use Rattle.mtree_index.proofs.Twice.{pairs_behind, rest_length, rest_objects, rest_wide, vector_at, one_more, next_row, rows_so_far}
use Rattle.mtree_index.proofs.split.distances.Goals as goal

pub push_known-requires-clause-rows : goal.push_known-requires-clause-rows
push_known-requires-clause-rows g c =
    let es = c.args.entries.now in
    let object = g.E.Entry.object in
    rows_so_far g.M.Metric.dist (map object es) c.loop-at.at c.loop-at.matrix.items (omega (arith, c.loop-at-test.true, length-map es object)) c.loop-at.invariant.rows
    ∙ ap (λ (n : ℕ). c.loop-at.at * n) (length-map es object)

pub push_row-requires-clause-vectors : goal.push_row-requires-clause-vectors
push_row-requires-clause-vectors g c =
    rest_wide g.E.Entry.object c.args.width c.args.entries.now c.loop-at.at c.index-entries-at.result c.object-object.result.now c.loop-at-test.true c.index-entries-at.is c.object-object.ensures c.requires.vectors

pub returns-in_err-push_row-clause-counted : goal.returns-in_err-push_row-clause-counted
returns-in_err-push_row-clause-counted g c =
    omega (arith, c.push_row.ensures.counted, c.loop-at.invariant.counted, pairs_behind (length c.args.entries.now) c.loop-at.at c.loop-at-test.true, rest_length (c.loop-at.at + 1) c.args.entries.now)

pub loop-at-preserved : goal.loop-at-preserved
loop-at-preserved g c =
    let law = g.met.M.Metric in
    let dist = g.M.Metric.dist in
    let object = g.E.Entry.object in
    let es = c.args.entries.now in
    let os = map object es in
    let at = c.loop-at.at in
    let e = c.index-entries-at.result in
    let inside : at < length es = c.loop-at-test.true in
    let few : at < length os = omega (arith, inside, length-map es object) in
    let vector = vector_at object c.args.width es at e inside c.index-entries-at.is c.requires.vectors (subst AreBytes c.object-object.ensures c.as_slice.ensures.bytes) in
    let o : c.object-object.result.now ≡ get_or os at [] = c.object-object.ensures ∙ sym (index_map object es at e [] inside c.index-entries-at.is) in
    let known : c.push_known.new.matrix.items ≡ with_known (length os) at c.loop-at.matrix.items =
    c.in_ok-push_known.ensures ∙ ap (λ (n : ℕ). with_known n at c.loop-at.matrix.items) (sym (length-map es object)) in
    let behind : map object (take (length es - (at + 1)) (drop (at + 1) es)) ≡ drop (suc at) os =
    rest_objects object (at + 1) es ∙ (let n : at + 1 ≡ suc at = omega arith in ap (λ (k : ℕ). drop k os) n) in
    let all : c.push_row.new.matrix.items ≡ c.push_known.new.matrix.items ++ row dist (get_or os at []) (drop (suc at) os) =
    c.in_ok-push_row.ensures.row ∙ (ap (λ (v : List ℕ). c.push_known.new.matrix.items ++ row dist v (map object (take (length es - (at + 1)) (drop (at + 1) es)))) o
    ∙ ap (λ (zs : List (List ℕ)). c.push_known.new.matrix.items ++ row dist (get_or os at []) zs) behind) in
    record {
      rows = next_row dist os c.args.width (λ u v a b. law.symmetry c.args.width u v c.requires.width a b) (λ u a. (law.identity c.args.width u u c.requires.width a a).1 refl) at few c.loop-at.invariant.vectors vector
          c.loop-at.matrix.items c.push_known.new.matrix.items c.push_row.new.matrix.items c.loop-at.invariant.rows known all;
      vectors = one_more (IsVector c.args.width) at os few c.loop-at.invariant.vectors vector;
      counted = omega (arith, c.push_row.ensures.counted, c.loop-at.invariant.counted, pairs_behind (length es) at inside, rest_length (at + 1) es);
    }
