use Rattle.std.proofs.Common.{◌≡◌, ℕ, ◌<◌, ◌^◌, true, List, length, get_or, sym, ◌∙◌, ap, subst, arith}
use Rattle.std.specs.Prelude.{is_some}
use Rattle.std.specs.FinMap as maps
use Rattle.vec_record.specs.Vectors.{IsVector}
use Rattle.vec_record.specs.Limits.{width_of}
use Rattle.vec_record.proofs.Greatest.{greatest_small}
use Rattle.node_places.specs.Slots.{has, record_slots}
use Rattle.count_book.specs.Counted.{Counted}
use Rattle.store_image.specs.inside.Saves.{IsSmallRow}
use Rattle.store_image.proofs.PlanLayout.{size_some, size_small, keys_stand, bounded}
use Rattle.store_image.proofs.layout.next_numbers.Goals as goal

pub record_slots-requires-clause-some : goal.record_slots-requires-clause-some
record_slots-requires-clause-some g c =
    let head = c.args.state.now.head in
    omega (arith, size_some (width_of head.params.metric head.params.dim) c.slots_in_page-size.ensures.width, c.slots_in_page-size.ensures.value)

pub record_slots-requires-clause-few : goal.record_slots-requires-clause-few
record_slots-requires-clause-few g c =
    let head = c.args.state.now.head in
    omega (arith, size_small (width_of head.params.metric head.params.dim), c.slots_in_page-size.ensures.value)

pub returns-clause-bounded : goal.returns-clause-bounded
returns-clause-bounded g c =
    let s = c.args.state.now in
    let size = c.slots_in_page-size.result in
    let before = s.places.numbers.items in
    let ns = c.deref-2.result.now in
    let ns_is : ns ≡ record_slots size s.records.vectors before =
    c.deref-2.ensures.value ∙ c.in_ok-numbers.ensures ∙ ap (record_slots size s.records.vectors) c.deref.ensures.value in
    let some : 0 < size =
    omega (arith, size_some (width_of s.head.params.metric s.head.params.dim) c.slots_in_page-size.ensures.width, c.slots_in_page-size.ensures.value) in
    let stood : (a : ℕ) → is_some (maps.get s.records.vectors a) ≡ true → has ns a ≡ true =
    λ a is. subst (λ (l : List ℕ). has l a ≡ true) (sym ns_is) (keys_stand c.records_stand.ensures size s.records.vectors before some c.know_records.ensures.none c.requires.apart a is) in
    let rows : (k : ℕ) → k < length ns → IsSmallRow (maps.get s.clusters.counts.rows (get_or ns k 0)) =
    λ k lt. subst (λ (counts : Counted). IsSmallRow (maps.get counts.rows (get_or ns k 0))) c.counts.ensures (c.know_rows.ensures.rows k lt) in
    let far : (u x : List ℕ) → IsVector s.records.width u → IsVector s.records.width x → g.M.Metric.dist u x < 2 ^ 32 = λ u x one two.
    let width = s.records.width in
    let bound = g.met.M.Metric.bound width u x c.know_records.ensures.width one two in
    let defined = g.met.M.Metric.defined width u x c.know_records.ensures.width one two in
    omega (arith, bound, defined.1, greatest_small g.M.Metric.KIND width c.know_records.ensures.width) in
    bounded g.M.Metric.dist s.records s.clusters ns c.requires.kept.fits stood c.know_rows.ensures.numbers rows far
