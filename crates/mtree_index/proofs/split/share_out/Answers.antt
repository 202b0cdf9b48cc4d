use Rattle.std.proofs.Common.{◌≡◌, ℕ, suc, ◌<◌, ◌++◌, length, get_or, [], ◌∷◌, true, false, not, drop, sym, ap, ◌∙◌, arith}
use Rattle.mtree_index.proofs.Sides.{more_there, taken, passed, ended, no_more}
use Rattle.mtree_index.proofs.split.share_out.Goals as goal

pub loop-k-preserved-in-Continue-1 : goal.loop-k-preserved-in-Continue-1
loop-k-preserved-in-Continue-1 g c =
    let set = g.E.Entry.with_parent in
    let steps = c.in-Some.ensures.steps in
    let k = c.loop-k.k-iterator.count in
    let before = c.loop-k.invariant in
    let there = more_there c.args.entries.items k c.in-Some.entry c.next.new.self.iter.rest.items (sym steps.0.0 ∙ before.0) in
    let at : get_or c.args.sides.now k false ≡ true = ap (λ (n : ℕ). get_or c.args.sides.now n false) (sym steps.1) ∙ c.if-sides-k.true in
    let inside : k < length c.args.sides.now = omega (arith, there.0, c.requires.sides) in
    let left : k < length c.args.left_row.now = omega (arith, there.0, c.requires.left_row) in
    let right : k < length c.args.right_row.now = omega (arith, there.0, c.requires.right_row) in
    let e = c.in-Some.entry in
    let rest = c.next.new.self.iter.rest.items in
    let added : c.push.new.self ≡ c.loop-k.right ++ set (get_or c.args.right_row.now k 0) e ∷ [] =
    c.in_ok-push.ensures.ok ∙ ap (λ x. c.loop-k.right ++ x ∷ []) (c.set_parent.ensures ∙ ap (λ (n : ℕ). set (get_or c.args.right_row.now n 0) e) steps.1) in
    let next : suc k ≡ c.next.new.self.count = omega (arith, steps.2) in (
      there.1 ∙ ap (λ (n : ℕ). drop n c.args.entries.items) next,
      passed set false c.args.sides.now c.args.left_row.now k inside left e rest c.loop-k.left _ _ c.next.new.self.count (ap not at) steps.0.0 steps.2 before.1,
      taken set true c.args.sides.now c.args.right_row.now k inside right e rest c.loop-k.right c.push.new.self _ _ c.next.new.self.count at steps.0.0 steps.2 added before.2,
    )

pub loop-k-preserved : goal.loop-k-preserved
loop-k-preserved g c =
    let set = g.E.Entry.with_parent in
    let steps = c.in-Some.ensures.steps in
    let k = c.loop-k.k-iterator.count in
    let before = c.loop-k.invariant in
    let there = more_there c.args.entries.items k c.in-Some.entry c.next.new.self.iter.rest.items (sym steps.0.0 ∙ before.0) in
    let at : get_or c.args.sides.now k false ≡ false = ap (λ (n : ℕ). get_or c.args.sides.now n false) (sym steps.1) ∙ c.if-sides-k.false in
    let inside : k < length c.args.sides.now = omega (arith, there.0, c.requires.sides) in
    let left : k < length c.args.left_row.now = omega (arith, there.0, c.requires.left_row) in
    let right : k < length c.args.right_row.now = omega (arith, there.0, c.requires.right_row) in
    let e = c.in-Some.entry in
    let rest = c.next.new.self.iter.rest.items in
    let added : c.push-else-sides-k.new.self ≡ c.loop-k.left ++ set (get_or c.args.left_row.now k 0) e ∷ [] =
    c.in_ok-push-2.ensures.ok ∙ ap (λ x. c.loop-k.left ++ x ∷ []) (c.set_parent-else-sides-k.ensures ∙ ap (λ (n : ℕ). set (get_or c.args.left_row.now n 0) e) steps.1) in
    let next : suc k ≡ c.next.new.self.count = omega (arith, steps.2) in (
      there.1 ∙ ap (λ (n : ℕ). drop n c.args.entries.items) next,
      taken set false c.args.sides.now c.args.left_row.now k inside left e rest c.loop-k.left c.push-else-sides-k.new.self _ _ c.next.new.self.count (ap not at) steps.0.0 steps.2 added before.1,
      passed set true c.args.sides.now c.args.right_row.now k inside right e rest c.loop-k.right _ _ c.next.new.self.count at steps.0.0 steps.2 before.2,
    )

pub returns-clause-left : goal.returns-clause-left
returns-clause-left g c =
    let rest = c.loop-k.k-iterator.iter.rest in
    let none : rest.items ≡ [] = no_more rest.items (omega (arith, rest.ok, c.in-None.ensures.steps)) in
    ended g.E.Entry.with_parent false _ _ c.loop-k.left _ rest.items none c.loop-k.invariant.1

pub returns-clause-right : goal.returns-clause-right
returns-clause-right g c =
    let rest = c.loop-k.k-iterator.iter.rest in
    let none : rest.items ≡ [] = no_more rest.items (omega (arith, rest.ok, c.in-None.ensures.steps)) in
    ended g.E.Entry.with_parent true _ _ c.loop-k.right _ rest.items none c.loop-k.invariant.2
