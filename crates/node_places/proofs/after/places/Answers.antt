use Rattle.std.proofs.Common.{◌≡◌, ◌+◌, ◌-◌, ℕ, List, length, get_or, replicate, sym, ◌∙◌, ap, arith}
use Rattle.std.proofs.lemmas.List.{length-replicate, get_or-replicate}
use Rattle.node_places.proofs.Walks.{ref_none, ref_skips, min_past}
use Rattle.node_places.proofs.after.places.Goals as goal

pub slots-init : goal.slots-init
slots-init c =
    let slots = c.args.slots.now in
    let refs = c.args.refs.now in
    let left = c.min-left.result in
    let zeros : c.in_ok-table.table.items ≡ replicate c.args.count 0 = c.in_ok-table.ensures.items_if_clones_equal (λ y same. same) in
    record {
      long = ap length zeros ∙ length-replicate c.args.count 0;
      slots = omega arith;
      refs = omega arith;
      places = λ n lt. ap (λ (l : List ℕ). get_or l n 0) zeros
          ∙ get_or-replicate c.args.count n 0 0 lt
          ∙ sym (ref_none slots refs n left (min_past (length slots) (length refs) left c.min-left.ensures));
    }

pub slots-preserved : goal.slots-preserved
slots-preserved c =
    let l = c.slots in
    let k = l.left - 1 in
    let next : k + 1 ≡ l.left = omega (arith, c.slots-test.true) in
    record {
      long = l.invariant.long;
      slots = omega arith;
      refs = omega arith;
      places = λ n lt. l.invariant.places n lt
          ∙ ref_skips c.args.slots.now c.args.refs.now n k l.left next l.invariant.slots l.invariant.refs (λ is. omega (arith, is, lt, c.if-number-count.false));
    }
