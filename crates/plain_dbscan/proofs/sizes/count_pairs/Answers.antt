use Rattle.std.proofs.Common.{rules, ◌≡◌, ℕ, ◌+◌, ◌-◌, ◌<◌, ◌≤◌, List, length, get_or, set, take, filter, nat_le, count_by, eqb, refl, sym, ap, subst, ◌∙◌, inl, inr, arith}
use Rattle.std.specs.List.{range_with_len, AllByRecursion}
use Rattle.std.proofs.lemmas.Bool.{cases_eq}
use Rattle.std.proofs.lemmas.List.{length-set, length-take, length-take-le, get_or-set_same, get_or-set_other}
use Rattle.vec_record.specs.Table.{row_at}
use Rattle.plain_dbscan.proofs.SizesOf.{near_place, all_below, paired_few, paired_open, paired_next}
use Rattle.plain_dbscan.proofs.sizes.count_pairs.Goals as goal

pub count_each-requires-clause-places : goal.count_each-requires-clause-places
count_each-requires-clause-places g c =
    let dist = g.M.Metric.dist in
    let t = c.args.rows.now in
    let i = c.args.i in
    let n = length t.rows - (i + 1) in
    let near_is : take c.within_range-found.result c.within_range-found.new.near ≡ filter (near_place dist c.args.eps t i) (range_with_len (i + 1) n) =
    c.within_range-found.ensures.near
    ∙ ap (λ (v : List ℕ). filter (λ place. nat_le (dist v (row_at t place)) c.args.eps) (range_with_len (i + 1) (c.len.result - (i + 1)))) c.row-row.ensures.value
    ∙ ap (λ (m : ℕ). filter (near_place dist c.args.eps t i) (range_with_len (i + 1) (m - (i + 1)))) c.len.ensures in
    let long = length-set c.args.sizes.now i (get_or c.args.sizes.now i 0 + c.within_range-found.result) in
    subst (AllByRecursion (λ k. k < length (set c.args.sizes.now i (get_or c.args.sizes.now i 0 + c.within_range-found.result)))) (sym near_is) (all_below (near_place dist c.args.eps t i) _ (i + 1) n (omega (arith, long, c.requires.paired.lengths, c.requires.place)))

pub count_each-requires-clause-room : goal.count_each-requires-clause-room
count_each-requires-clause-room g c = λ k h.
    let sizes = c.args.sizes.now in
    let i = c.args.i in
    let found = c.within_range-found.result in
    let t = c.args.rows.now in
    let small : length sizes < 9223372036854775808 = search rules in
    let long = length-set sizes i (get_or sizes i 0 + found) in
    let near : length (take found c.within_range-found.new.near) ≤ found = omega (arith, length-take found c.within_range-found.new.near) in
    let many : found ≤ length t.rows - (i + 1) = omega (arith, c.within_range-found.ensures.few, c.len.ensures) in
    elim (cases_eq k i) [
      | inl same ↦
          let here = get_or-set_same sizes i (get_or sizes i 0 + found) 0 (omega (arith, c.requires.paired.lengths, c.requires.place)) in
          let open_i = paired_open g.M.Metric.dist c.args.eps t sizes i i c.requires.paired (omega arith) c.requires.place in
          subst (λ (x : ℕ). get_or (set sizes i (get_or sizes i 0 + found)) x 0 + length (take found c.within_range-found.new.near) < 18446744073709551616) (sym same) (omega (arith, here, open_i, near, many, small, c.requires.paired.lengths, c.requires.place))
      | inr other ↦
          let here = get_or-set_other sizes i k (get_or sizes i 0 + found) 0 other in
          let before = paired_few g.M.Metric.dist c.args.eps t sizes i k c.requires.paired (omega (arith, long, h, c.requires.paired.lengths)) in
          omega (arith, here, before, near, many, small, c.requires.paired.lengths, c.requires.place)
    ]

pub returns-clause-paired : goal.returns-clause-paired
returns-clause-paired g c =
    let dist = g.M.Metric.dist in
    let t = c.args.rows.now in
    let i = c.args.i in
    let n = length t.rows - (i + 1) in
    let found = c.within_range-found.result in
    let sizes = c.args.sizes.now in
    let mid = set sizes i (get_or sizes i 0 + found) in
    let near_is : take found c.within_range-found.new.near ≡ filter (near_place dist c.args.eps t i) (range_with_len (i + 1) n) =
    c.within_range-found.ensures.near
    ∙ ap (λ (v : List ℕ). filter (λ place. nat_le (dist v (row_at t place)) c.args.eps) (range_with_len (i + 1) (c.len.result - (i + 1)))) c.row-row.ensures.value
    ∙ ap (λ (m : ℕ). filter (near_place dist c.args.eps t i) (range_with_len (i + 1) (m - (i + 1)))) c.len.ensures in
    let kept : length c.within_range-found.new.near ≡ length c.args.near.now = search rules in
    let fits : found ≤ length c.within_range-found.new.near = omega (arith, kept, c.requires.room, c.within_range-found.ensures.few, c.len.ensures) in
    let found_is : found ≡ length (filter (near_place dist c.args.eps t i) (range_with_len (i + 1) n)) = sym (length-take-le found c.within_range-found.new.near fits) ∙ ap length near_is in
    let law = g.met.M.Metric in
    paired_next dist c.args.eps t t.width c.width-width.ensures.width c.width-width.ensures.rows (law.identity t.width) (law.symmetry t.width)
    sizes mid c.count_each.new.sizes i found n c.requires.paired c.requires.place refl found_is refl c.count_each.ensures.lengths
    (λ k h. c.count_each.ensures.counts k h ∙ ap (λ (places : List ℕ). get_or mid k 0 + count_by (λ q. eqb q k) places) near_is)
