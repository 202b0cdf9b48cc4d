use Rattle.std.proofs.Common.{rules, ◌≡◌, ℕ, ◌-◌, List, length, map, slice_index, slice_set, Some, sym, ap, subst, ◌∙◌, arith}
use Rattle.std.specs.List.{AllByRecursion}
use Rattle.std.specs.Option.{option_copied}
use Rattle.std.proofs.lemmas.Result.{on_ok_weaker}
use Rattle.mtree_node.specs.declared.node.LeafEntry.{LeafEntry}
use Rattle.mtree_node.specs.declared.node.InnerEntry.{InnerEntry, out-InnerEntry}
use Rattle.mtree_node.specs.declared.node.Node.{Node}
use Rattle.mtree_node.specs.declared.node.Node.TheViews.{the_lemmas}
use Rattle.mtree_index.specs.Insertion.{inserted, settled_inner, chosen, entry_distance, renewed, after_child, entries_of, replaced_at}
use Rattle.mtree_index.proofs.Opened.{has_level, leaf_widths, inserted_leaf, inserted_inner}
use Rattle.mtree_index.proofs.Places.{replaced_there, get_set, all_replaced, all_set, length_replaced, length-set_at, get_index, all_weaker, all_append, all_get}
use Rattle.mtree_index.proofs.Widths.{widths_of, at_most_two}
use Rattle.mtree_index.proofs.insertion.+insert.Goals as goal

pub insert_below-returns-in_ok-push-in-Leaf-clause-is : goal.insert_below-returns-in_ok-push-in-Leaf-clause-is
insert_below-returns-in_ok-push-in-Leaf-clause-is g t c =
    let v = c.args.vector.now in
    let most = g.M.Metric.most (length v) in
    let over = option_copied c.args.over in
    let level = has_level g.M.Metric.dist (length v) most c.args.height over c.args.node.now c.requires.node in
    rw (inserted_leaf g.M.Metric.dist most c.args.number v over c.args.node.now c.in-Leaf.tag c.args.height (c.args.height - 1) level c.in-Leaf.entries c.in-Leaf.is) (search (rules, the_lemmas))

pub insert_below-returns-in_ok-insert_among-in-Inner-clause-is : goal.insert_below-returns-in_ok-insert_among-in-Inner-clause-is
insert_below-returns-in_ok-insert_among-in-Inner-clause-is g t c =
    let v = c.args.vector.now in
    let most = g.M.Metric.most (length v) in
    let over = option_copied c.args.over in
    let level = has_level g.M.Metric.dist (length v) most c.args.height over c.args.node.now c.requires.node in
    let below = λ (object : List ℕ) (m : Node). inserted g.M.Metric.dist most c.args.number v (c.args.height - 1) (Some object) m in
    let after = λ (xs : List InnerEntry). replaced_at (chosen g.M.Metric.dist v xs) (renewed g.M.Metric.dist v over below) xs in
    let new : c.insert_among.new.entries ≡ after c.in-Inner.entries = c.in_ok-insert_among-in-Inner.ensures.is ∙ ap after c.in-Inner.entries-is in
    let whole : inserted g.M.Metric.dist most c.args.number v c.args.height over c.args.node.now ≡ settled_inner g.M.Metric.dist most c.in-Inner.tag 0 c.insert_among.new.entries =
    inserted_inner g.M.Metric.dist most c.args.number v over c.args.node.now c.in-Inner.tag c.args.height (c.args.height - 1) level c.in-Inner.entries c.in-Inner.is
    ∙ ap (settled_inner g.M.Metric.dist most c.in-Inner.tag 0) (sym new) in
    rw whole (search (rules, the_lemmas))

pub insert_among-returns-clause-is : goal.insert_among-returns-clause-is
insert_among-returns-clause-is g t c =
    let dist = g.M.Metric.dist in
    let v = c.args.vector.now in
    let most = g.M.Metric.most (length v) in
    let over = option_copied c.args.over in
    let es = c.args.entries.now in
    let place = c.choose_entry-place.result.0 in
    let e = c.item_mut-entry.result.now in
    let same = c.as_slice.ensures in
    let below = λ (object : List ℕ) (m : Node). inserted dist most c.args.number v c.args.height (Some object) m in
    let distance : c.choose_entry-place.result.1 ≡ entry_distance dist v e =
    c.choose_entry-place.ensures.distance ∙ (ap (λ (xs : List InnerEntry). slice_index (map (entry_distance dist v) xs) place) same ∙ get_index (entry_distance dist v) es place e c.item_mut-entry.ensures.value) in
    let new : entries_of dist over c.in_ok-pair.pair c.insert_under.new.entry ≡ renewed dist v over below e =
    c.in_ok-pair.ensures.is over ∙ ap (λ (d : ℕ). after_child dist over (out-InnerEntry e) d (below (out-InnerEntry e).object (out-InnerEntry e).child)) distance in
    on_ok_weaker c.put_pair.result (λ d.
    d c.insert_under.new.entry (get_set es place e c.insert_under.new.entry c.item_mut-entry.ensures.value)
    ∙ (replaced_there (renewed dist v over below) es place e c.insert_under.new.entry (entries_of dist over c.in_ok-pair.pair c.insert_under.new.entry) c.item_mut-entry.ensures.value new
    ∙ ap (λ (n : ℕ). replaced_at n (renewed dist v over below) es) (c.choose_entry-place.ensures.place ∙ ap (chosen dist v) same))) c.put_pair.ensures.is

pub insert_among-returns-clause-objects : goal.insert_among-returns-clause-objects
insert_among-returns-clause-objects g t c =
    let w = length c.args.vector.now in
    let es = c.args.entries.now in
    let place = c.choose_entry-place.result.0 in
    let e = c.item_mut-entry.result.now in
    let now = c.insert_under.new.entry in
    let P : InnerEntry → Type 0 = λ x. length (out-InnerEntry x).object ≡ w in
    let all : AllByRecursion P es = all_weaker _ P es (λ x k. k.object.len) c.requires.entries in
    let stays : P now = ap (λ (o : List ℕ). length o) c.in_ok-pair.ensures.object_stays ∙ all_get P es place e all c.item_mut-entry.ensures.value in
    let over = option_copied c.args.over in
    let new = entries_of g.M.Metric.dist over c.in_ok-pair.pair now in
    let whole = all_replaced P (λ _. new) (slice_set es place now) place (all_set P es place now all stays) (λ _ _. widths_of g.M.Metric.dist w over c.in_ok-pair.pair now c.in_ok-pair.ensures.objects stays) in
    on_ok_weaker c.put_pair.result (λ d. subst (AllByRecursion P) (sym (d now (get_set es place e now c.item_mut-entry.ensures.value))) whole) c.put_pair.ensures.is

pub insert_among-returns-clause-one_more : goal.insert_among-returns-clause-one_more
insert_among-returns-clause-one_more g t c =
    let es = c.args.entries.now in
    let place = c.choose_entry-place.result.0 in
    let e = c.item_mut-entry.result.now in
    let now = c.insert_under.new.entry in
    let over = option_copied c.args.over in
    let new = entries_of g.M.Metric.dist over c.in_ok-pair.pair now in
    let few = length_replaced (λ _. new) (slice_set es place now) place 2 (λ _. at_most_two g.M.Metric.dist over c.in_ok-pair.pair now) (omega arith) in
    on_ok_weaker c.put_pair.result (λ d. omega (arith, ap length (d now (get_set es place e now c.item_mut-entry.ensures.value)), few, length-set_at es place now)) c.put_pair.ensures.is

pub insert_below-push-requires-clause-vectors : goal.insert_below-push-requires-clause-vectors
insert_below-push-requires-clause-vectors g t c =
    let w = length c.args.vector.now in
    let old = leaf_widths g.M.Metric.dist w (g.M.Metric.most w) c.args.height (option_copied c.args.over) c.args.node.now c.in-Leaf.tag c.in-Leaf.entries c.requires.node c.in-Leaf.is in
    rw (c.as_slice.ensures.value, c.in-Leaf.entries-is) old

pub insert_below-settle_leaf-requires-clause-vectors : goal.insert_below-settle_leaf-requires-clause-vectors
insert_below-settle_leaf-requires-clause-vectors g t c =
    let w = length c.args.vector.now in
    let has = λ (e : LeafEntry). length e.vector ≡ w in
    let old = leaf_widths g.M.Metric.dist w (g.M.Metric.most w) c.args.height (option_copied c.args.over) c.args.node.now c.in-Leaf.tag c.in-Leaf.entries c.requires.node c.in-Leaf.is in
    rw (c.width_of-width.ensures, c.in_ok-push-in-Leaf.ensures.ok, c.in-Leaf.entries-is) (all_append has c.in-Leaf.entries _ old (ap length c.as_slice.ensures.value, tt))

pub insert_below-settle_inner-requires-clause-vectors : goal.insert_below-settle_inner-requires-clause-vectors
insert_below-settle_inner-requires-clause-vectors g t c = rw (c.width_of-width.ensures) c.in_ok-insert_among-in-Inner.ensures.objects
