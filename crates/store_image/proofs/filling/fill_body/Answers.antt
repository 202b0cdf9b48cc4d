use Rattle.std.proofs.Common.{◌≡◌, ℕ, List, [], length, map, take, drop, get_or, sym, ◌∙◌, ap, subst, arith}
use Rattle.vec_record.specs.Limits.{width_of}
use Rattle.tree_layout.specs.Layouts.{leaf_for, inner_for}
use Rattle.page_layout.specs.Heads.{values_of}
use Rattle.page_layout.specs.Slots.{AreRows, record_page}
use Rattle.page_layout.specs.Leaves.{AreLeaves, leaf_page}
use Rattle.page_layout.specs.Inner.{AreInner, inner_page}
use Rattle.page_layout.specs.Bodies.{IsBody, body_bytes}
use Rattle.page_layout.specs.declared.body.Body.TheVariants as body
use Rattle.store_image.specs.Placing.{size_on, slot_for}
use Rattle.store_image.specs.inside.Saves.{body_behind, next_slots, next_leaves, next_inners}
use Rattle.store_image.proofs.PlanFilling.{part_is, part_fits, body_else, inner_else}
use Rattle.store_image.proofs.filling.fill_body.Goals as goal

pub returns-in-1-clause-filled : goal.returns-in-1-clause-filled
returns-in-1-clause-filled g c =
    let s = c.args.state.now in
    let v = values_of s.head.params in
    let f = slot_for s.records.vectors s.clusters in
    let a = c.args.done.now.slots in
    let slots : map f c.part-numbers.result.now ≡ take (size_on v) (drop a (map f c.args.next.now.numbers.items)) =
    part_is f (size_on v) a c.args.next.now.numbers.items c.part-numbers.result.now c.deref.result.now (c.part-numbers.ensures ∙ ap (λ (n : ℕ). take n (drop a c.deref.result.now)) c.slots_in_page-size.ensures.value) c.deref.ensures.value in
    let page : c.fill_slots.new.out ≡ body_bytes v (body_behind (size_on v) 1 c.args.done.now c.args.next.now s.records.vectors s.clusters) =
    c.fill_slots.ensures ∙ ap (record_page (width_of s.head.params.metric s.head.params.dim)) slots in
    subst (λ (k : ℕ). c.fill_slots.new.out ≡ body_bytes v (body_behind (size_on v) k c.args.done.now c.args.next.now s.records.vectors s.clusters)) (sym c.in-1.is) page

pub fill_slots-requires : goal.fill_slots-requires
fill_slots-requires g c =
    let s = c.args.state.now in
    let v = values_of s.head.params in
    let f = slot_for s.records.vectors s.clusters in
    let a = c.args.done.now.slots in
    let slots : map f c.part-numbers.result.now ≡ take (size_on v) (drop a (map f c.args.next.now.numbers.items)) =
    part_is f (size_on v) a c.args.next.now.numbers.items c.part-numbers.result.now c.deref.result.now (c.part-numbers.ensures ∙ ap (λ (n : ℕ). take n (drop a c.deref.result.now)) c.slots_in_page-size.ensures.value) c.deref.ensures.value in
    let whole : AreRows v (take (size_on v) (drop a (map f c.args.next.now.numbers.items))) =
    subst (λ (k : ℕ). IsBody v (body_behind (size_on v) k c.args.done.now c.args.next.now s.records.vectors s.clusters)) c.in-1.is c.requires.body in
    subst (AreRows v) (sym slots) whole

pub part-leaves-requires : goal.part-leaves-requires
part-leaves-requires g c =
    let s = c.args.state.now in
    let v = values_of s.head.params in
    let f = leaf_for c.args.next.now.shapes in
    let a = c.args.done.now.leaves in
    let leaves = c.args.next.now.laid.leaves.items in
    let whole : AreLeaves (take 63 (drop a (map f leaves))) =
    subst (λ (k : ℕ). IsBody v (body_behind (size_on v) k c.args.done.now c.args.next.now s.records.vectors s.clusters)) c.in-2.is c.requires.body in
    omega (arith, part_fits f 63 a leaves (omega arith) whole.count, ap length c.deref-in-2.ensures.value)

pub fill_leaves-requires : goal.fill_leaves-requires
fill_leaves-requires g c =
    let s = c.args.state.now in
    let v = values_of s.head.params in
    let f = leaf_for c.args.next.now.shapes in
    let a = c.args.done.now.leaves in
    let leaves = c.args.next.now.laid.leaves.items in
    let rows : map f c.part-leaves.result.now ≡ take 63 (drop a (map f leaves)) =
    part_is f 63 a leaves c.part-leaves.result.now c.deref-in-2.result.now c.part-leaves.ensures c.deref-in-2.ensures.value in
    let whole : AreLeaves (take 63 (drop a (map f leaves))) =
    subst (λ (k : ℕ). IsBody v (body_behind (size_on v) k c.args.done.now c.args.next.now s.records.vectors s.clusters)) c.in-2.is c.requires.body in
    subst AreLeaves (sym rows) whole

pub returns-in-2-clause-filled : goal.returns-in-2-clause-filled
returns-in-2-clause-filled g c =
    let s = c.args.state.now in
    let v = values_of s.head.params in
    let f = leaf_for c.args.next.now.shapes in
    let a = c.args.done.now.leaves in
    let leaves = c.args.next.now.laid.leaves.items in
    let rows : map f c.part-leaves.result.now ≡ take 63 (drop a (map f leaves)) =
    part_is f 63 a leaves c.part-leaves.result.now c.deref-in-2.result.now c.part-leaves.ensures c.deref-in-2.ensures.value in
    let page : c.fill_leaves.new.out ≡ body_bytes v (body_behind (size_on v) 2 c.args.done.now c.args.next.now s.records.vectors s.clusters) =
    c.fill_leaves.ensures ∙ ap leaf_page rows in
    subst (λ (k : ℕ). c.fill_leaves.new.out ≡ body_bytes v (body_behind (size_on v) k c.args.done.now c.args.next.now s.records.vectors s.clusters)) (sym c.in-2.is) page

pub write_inner-requires : goal.write_inner-requires
write_inner-requires g c =
    let s = c.args.state.now in
    let v = values_of s.head.params in
    let next = c.args.next.now in
    let done = c.args.done.now in
    let a = done.inners in
    let inners = next.laid.inners.items in
    let one : c.args.kind ≡ 1 → ⊥ = λ is. omega (arith, is) in
    let two : c.args.kind ≡ 2 → ⊥ = λ is. omega (arith, is) in
    let other : body_behind (size_on v) c.args.kind done next s.records.vectors s.clusters ≡ body.Inner (get_or (drop a (map (inner_for next.shapes) inners)) 0 []) =
    body_else (size_on v) c.args.kind (drop done.slots (next_slots next s.records.vectors s.clusters)) (drop done.leaves (next_leaves next)) (drop a (next_inners next)) one two in
    let whole : AreInner v (get_or (drop a (map (inner_for next.shapes) inners)) 0 []) = subst (IsBody v) other c.requires.body in
    let rows : c.inner_at.result.now ≡ get_or (drop a (map (inner_for next.shapes) inners)) 0 [] =
    c.inner_at.ensures ∙ ap (inner_for next.shapes) (c.number_at-number.ensures ∙ ap (λ (l : List ℕ). get_or l a 0) c.deref-in_default.ensures.value) ∙ inner_else next.shapes inners a in
    subst (AreInner v) (sym rows) whole

pub returns-in_default-clause-filled : goal.returns-in_default-clause-filled
returns-in_default-clause-filled g c =
    let s = c.args.state.now in
    let v = values_of s.head.params in
    let next = c.args.next.now in
    let done = c.args.done.now in
    let a = done.inners in
    let inners = next.laid.inners.items in
    let one : c.args.kind ≡ 1 → ⊥ = λ is. omega (arith, is) in
    let two : c.args.kind ≡ 2 → ⊥ = λ is. omega (arith, is) in
    let other : body_behind (size_on v) c.args.kind done next s.records.vectors s.clusters ≡ body.Inner (get_or (drop a (map (inner_for next.shapes) inners)) 0 []) =
    body_else (size_on v) c.args.kind (drop done.slots (next_slots next s.records.vectors s.clusters)) (drop done.leaves (next_leaves next)) (drop a (next_inners next)) one two in
    let rows : c.inner_at.result.now ≡ get_or (drop a (map (inner_for next.shapes) inners)) 0 [] =
    c.inner_at.ensures ∙ ap (inner_for next.shapes) (c.number_at-number.ensures ∙ ap (λ (l : List ℕ). get_or l a 0) c.deref-in_default.ensures.value) ∙ inner_else next.shapes inners a in
    c.write_inner.ensures ∙ ap (inner_page (width_of s.head.params.metric s.head.params.dim)) rows ∙ sym (ap (body_bytes v) other)
