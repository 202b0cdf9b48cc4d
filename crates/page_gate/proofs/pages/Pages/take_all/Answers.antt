use Rattle.std.proofs.Common.{◌≡◌, ℕ, List, reverse, sym, ◌∙◌, ap, subst, arith}
use Rattle.std.proofs.lemmas.List.{reverse-reverse}
use Rattle.page_gate.specs.declared.page.PageWrite.{PageWrite}
use Rattle.page_gate.specs.Writes.{pairs, written, new_count}
use Rattle.page_gate.proofs.Lists.{popped}
use Rattle.page_gate.proofs.Written.{Midway, next_write}
use Rattle.page_gate.proofs.pages.Pages.take_all.Goals as goal

pub loop-write-init : goal.loop-write-init
loop-write-init c =
    let back : reverse c.reverse.new.self.items ≡ c.args.writes = ap reverse c.reverse.ensures.items ∙ reverse-reverse c.into_items-items.result.items ∙ c.into_items-items.ensures in
    record {
      same = ap (λ (l : List PageWrite). written c.args.self.now.list (pairs l)) back;
      midway = subst (λ (l : List PageWrite). Midway (new_count (pairs c.args.writes)) c.args.self.now.list (pairs l)) (sym back)
          (record { low = 0; rising = c.requires.plan.rising; covers = c.requires.plan.whole; no_fewer = c.requires.plan.no_fewer });
      room = c.requires.room;
    }

pub take-requires-clause-number : goal.take-requires-clause-number
take-requires-clause-number c = (next_write _ _ _ _ (subst (Midway (new_count (pairs c.args.writes)) c.loop-write.self.list) (popped c.loop-write.items.items c.pop.new.self.items c.in-Some.write c.in-Some.ensures.items) c.loop-write.invariant.midway)).some

pub take-requires-clause-next : goal.take-requires-clause-next
take-requires-clause-next c = (next_write _ _ _ _ (subst (Midway (new_count (pairs c.args.writes)) c.loop-write.self.list) (popped c.loop-write.items.items c.pop.new.self.items c.in-Some.write c.in-Some.ensures.items) c.loop-write.invariant.midway)).near

pub take-requires-clause-room : goal.take-requires-clause-room
take-requires-clause-room c =
    let next = next_write _ _ _ _ (subst (Midway (new_count (pairs c.args.writes)) c.loop-write.self.list) (popped c.loop-write.items.items c.pop.new.self.items c.in-Some.write c.in-Some.ensures.items) c.loop-write.invariant.midway) in
    λ lt. omega (arith, next.within, c.loop-write.invariant.room, lt)

pub take-requires-clause-count : goal.take-requires-clause-count
take-requires-clause-count c =
    let next = next_write _ _ _ _ (subst (Midway (new_count (pairs c.args.writes)) c.loop-write.self.list) (popped c.loop-write.items.items c.pop.new.self.items c.in-Some.write c.in-Some.ensures.items) c.loop-write.invariant.midway) in
    omega (arith, next.within, c.requires.count)

pub loop-write-preserved : goal.loop-write-preserved
loop-write-preserved c =
    let off = popped c.loop-write.items.items c.pop.new.self.items c.in-Some.write c.in-Some.ensures.items in
    let next = next_write _ _ _ _ (subst (Midway (new_count (pairs c.args.writes)) c.loop-write.self.list) off c.loop-write.invariant.midway) in
    record {
      same = ap (λ (l : List (List ℕ)). written l (pairs (reverse c.pop.new.self.items))) c.take.ensures.list ∙ ap (written c.loop-write.self.list) (sym off) ∙ c.loop-write.invariant.same;
      midway = subst (λ (l : List (List ℕ)). Midway (new_count (pairs c.args.writes)) l (pairs (reverse c.pop.new.self.items))) (sym c.take.ensures.list) next.rest;
      room = omega (arith, c.take.ensures.spare, c.loop-write.invariant.room);
    }
