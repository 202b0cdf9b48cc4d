use Rattle.std.proofs.Common.{◌≡◌, ◌≤◌, ℕ, List, length, map, sym, ◌∙◌, subst, rules}
use Rattle.std.proofs.lemmas.List.{length-map}
use Rattle.node_places.specs.declared.nodes.Tagged.{Tagged}
use Rattle.tree_layout.specs.Layouts.{tagged}
use Rattle.tree_layout.proofs.Counted.{few_shown, refs_are}
use Rattle.tree_layout.proofs.laying.lay.Goals as goal

pub refs_after-requires-clause-pages : goal.refs_after-requires-clause-pages
refs_after-requires-clause-pages c =
    let shapes = c.args.shapes.now in
    let tags : List Tagged = map tagged shapes in
    let slots = c.in_ok-slots.slots in
    let leaf_long : c.len-pages.result ≡ length slots.leaves.items = search rules in
    let inner_long : c.len.result ≡ length slots.inners.items = search rules in
    let few : length tags ≤ 200000 = subst (λ (n : ℕ). n ≤ 200000) (sym (length-map shapes tagged)) c.requires.few in
    few_shown c.args.kinds.now c.args.records tags c.deref.result.now (c.deref.ensures.value ∙ c.in_ok-nodes.ensures) slots.leaves.items slots.inners.items c.in_ok-slots.ensures.leaves c.in_ok-slots.ensures.inners
    c.len-pages.result c.len.result leaf_long inner_long c.in_ok-after.after.items c.deref-2.result.now c.in_ok-after.ensures c.deref-2.ensures.value c.requires.pages c.requires.records few

pub returns-clause-refs : goal.returns-clause-refs
returns-clause-refs c =
    let tags : List Tagged = map tagged c.args.shapes.now in
    let slots = c.in_ok-slots.slots in
    let leaf_long : c.len-pages.result ≡ length slots.leaves.items = search rules in
    let inner_long : c.len.result ≡ length slots.inners.items = search rules in
    refs_are c.args.kinds.now c.args.records tags c.deref.result.now (c.deref.ensures.value ∙ c.in_ok-nodes.ensures) slots.leaves.items slots.inners.items c.in_ok-slots.ensures.leaves c.in_ok-slots.ensures.inners
    c.len-pages.result c.len.result leaf_long inner_long c.in_ok-after.after.items c.deref-2.result.now c.in_ok-after.ensures c.deref-2.ensures.value
    c.deref-3.result.now c.in_ok-refs.refs.items (c.deref-3.ensures.value ∙ c.in_ok-nodes.ensures) c.in_ok-refs.ensures
