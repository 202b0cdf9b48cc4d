use Rattle.std.proofs.Common.{List, ℕ, refl, sym, subst, inl, inr, arith}
use Rattle.std.proofs.lemmas.Result.{on_ok_weaker}
use Rattle.label_book.specs.Labels.{IsMember, EachOnce}
use Rattle.update_seed.specs.Books.{near_in}
use Rattle.delete_case.specs.Counting.{AreCountedOut}
use Rattle.delete_case.proofs.deleting.clear_away.Goals as goal

pub count_out-requires-clause-once : goal.count_out-requires-clause-once
count_out-requires-clause-once g c = subst EachOnce (sym c.as_slice.ensures) c.requires.around.once

pub count_out-requires-clause-there : goal.count_out-requires-clause-there
count_out-requires-clause-there g c q m = c.requires.around.there q (subst (λ (xs : List ℕ). IsMember xs q) c.as_slice.ensures m)

pub count_out-requires-clause-other : goal.count_out-requires-clause-other
count_out-requires-clause-other g c m = c.requires.around.other (subst (λ (xs : List ℕ). IsMember xs c.args.scene.now.number) c.as_slice.ensures m)

pub returns-in_err-count_out-clause-paid : goal.returns-in_err-count_out-clause-paid
returns-in_err-count_out-clause-paid g c = inl (omega arith)

pub returns-then-has_none-clause-done : goal.returns-then-has_none-clause-done
returns-then-has_none-clause-done g c =
    let scene = c.args.scene.now in
    let out = subst (λ (xs : List ℕ). AreCountedOut scene.number xs c.args.counts.now c.count_out.new.counts c.count_out.new.lost) c.as_slice.ensures c.in_ok-count_out.ensures in
    let none = c.has_none.ensures c.if-has_none.true in
    record {
      counted = c.count_out.new.counts;
      lost = c.count_out.new.lost;
      out_are = out;
      rest = inl (record { none = none.0; no_label = none.1; counts = refl; labels_kept = refl; untold = refl });
    }

pub returns-then-has_none-clause-paid : goal.returns-then-has_none-clause-paid
returns-then-has_none-clause-paid g c = inl (omega arith)

pub shake-requires-clause-out : goal.shake-requires-clause-out
shake-requires-clause-out g c =
    let scene = c.args.scene.now in
    let out = subst (λ (xs : List ℕ). AreCountedOut scene.number xs c.args.counts.now c.count_out.new.counts c.count_out.new.lost) c.as_slice.ensures c.in_ok-count_out.ensures in
    (c.requires.next c.count_out.new.counts c.count_out.new.lost out).0

pub shake-requires-clause-there : goal.shake-requires-clause-there
shake-requires-clause-there g c =
    let scene = c.args.scene.now in
    let out = subst (λ (xs : List ℕ). AreCountedOut scene.number xs c.args.counts.now c.count_out.new.counts c.count_out.new.lost) c.as_slice.ensures c.in_ok-count_out.ensures in
    (c.requires.next c.count_out.new.counts c.count_out.new.lost out).1

pub shake-requires-clause-partable : goal.shake-requires-clause-partable
shake-requires-clause-partable g c =
    let scene = c.args.scene.now in
    let out = subst (λ (xs : List ℕ). AreCountedOut scene.number xs c.args.counts.now c.count_out.new.counts c.count_out.new.lost) c.as_slice.ensures c.in_ok-count_out.ensures in
    (c.requires.next c.count_out.new.counts c.count_out.new.lost out).2 (near_in g.M.Metric.dist scene.eps scene.records.now)

pub returns-clause-done : goal.returns-clause-done
returns-clause-done g c =
    let scene = c.args.scene.now in
    let out = subst (λ (xs : List ℕ). AreCountedOut scene.number xs c.args.counts.now c.count_out.new.counts c.count_out.new.lost) c.as_slice.ensures c.in_ok-count_out.ensures in
    on_ok_weaker c.shake.result (λ s. record { counted = c.count_out.new.counts; lost = c.count_out.new.lost; out_are = out; rest = inr s }) c.shake.ensures.done

pub returns-clause-paid : goal.returns-clause-paid
returns-clause-paid g c =
    let scene = c.args.scene.now in
    let out = subst (λ (xs : List ℕ). AreCountedOut scene.number xs c.args.counts.now c.count_out.new.counts c.count_out.new.lost) c.as_slice.ensures c.in_ok-count_out.ensures in
    inr (record { counted = c.count_out.new.counts; lost = c.count_out.new.lost; out_are = out; spent = c.shake.ensures.paid })
