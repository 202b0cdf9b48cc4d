use Rattle.std.proofs.Common.{◌+◌, ◌-◌, List, sum_by, ap, ◌∙◌, rules, length-set}
use Rattle.mtree_node.specs.declared.node.InnerEntry.{InnerEntry, out-InnerEntry}
use Rattle.mtree_node.specs.Tree.{IsLeveled}
use Rattle.mtree_node.proofs.Changed.{rest_is}
use Rattle.mtree_node.proofs.Opened.{some_level}
use Rattle.mtree_node.proofs.Retagged.{left_hold, room, next_place, one_more}
use Rattle.mtree_node.proofs.Sizes.{child_size, after_inner}
use Rattle.mtree_node.proofs.retagging.+retag.Goals as goal

pub retag_below-retag_entry-at-requires : goal.retag_below-retag_entry-at-requires
retag_below-retag_entry-at-requires t c =
    let tags = c.args.tags.now in
    let levels = c.args.levels in
    let now = c.loop-i.entries in
    let old = c.args.entries.now in
    let i = c.loop-i.i in
    let e = c.item_mut.result.now in
    let was = c.loop-i.invariant in
    let got = c.item_mut.ensures.value in (
      search rules,
      ((left_hold tags levels now old i e was.0 got (λ (x : InnerEntry). IsLeveled levels (out-InnerEntry x).child) was.3).0, room tags levels now old i e was.0 got c.loop-i.at _ _ was.2 c.requires.tags),
    )

pub retag_below-loop-i-preserved : goal.retag_below-loop-i-preserved
retag_below-loop-i-preserved t c =
    let tags = c.args.tags.now in
    let levels = c.args.levels in
    let now = c.loop-i.entries in
    let old = c.args.entries.now in
    let i = c.loop-i.i in
    let e = c.item_mut.result.now in
    let new = c.retag_entry-at.new.entry in
    let was = c.loop-i.invariant in
    let got = c.item_mut.ensures.value in (
      rest_is now old i e was.0 got new,
      one_more tags levels now old i e was.0 got _ c.loop-i.at c.retag_entry-at.result new c.retag_entry-at.ensures.is c.retag_entry-at.ensures.next was.1,
      next_place tags levels now old i e was.0 got c.loop-i.at c.retag_entry-at.result _ c.retag_entry-at.ensures.next was.2,
      (left_hold tags levels now old i e was.0 got (λ (x : InnerEntry). IsLeveled levels (out-InnerEntry x).child) was.3).1,
      length-set now i new ∙ was.4,
    )

pub retag_node-returns-in-Inner-clause-next : goal.retag_node-returns-in-Inner-clause-next
retag_node-returns-in-Inner-clause-next t c =
    let level = some_level c.args.levels c.args.node.now c.requires.leveled in
    let inside = λ (es : List InnerEntry). c.args.at + 1 + sum_by (child_size (c.args.levels - 1)) es in
    after_inner c.args.node.now c.in-Inner.tag c.in-Inner.entries c.in-Inner.is c.args.levels (c.args.levels - 1) level c.args.at c.retag_below.result (c.retag_below.ensures.next ∙ ap inside c.in-Inner.entries-is)
