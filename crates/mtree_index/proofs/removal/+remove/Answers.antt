use Rattle.std.proofs.Common.{rules, ◌≡◌, ℕ, ◌-◌, ◌≤◌, Bool, false, List, length, sum_by, slice_set, Some, None, Ok, sym, ap, subst, ◌∙◌, refl, arith, add-one}
use Rattle.std.specs.Option.{option_copied, option_map}
use Rattle.std.specs.List.{AllByRecursion, slice_get}
use Rattle.std.proofs.lemmas.Result.{IfOk-weaker}
use Rattle.vec_record.specs.Vectors.{IsVector, IsWidth}
use Rattle.mtree_node.specs.declared.node.InnerEntry.{InnerEntry, out-InnerEntry}
use Rattle.mtree_node.specs.declared.node.Node.TheVariants as node
use Rattle.mtree_node.specs.declared.node.Node.TheViews.{the_lemmas}
use Rattle.mtree_node.specs.Tree.{IsNode, IsInnerEntry, leaves}
use Rattle.mtree_node.specs.Cost.{cost, entry_cost}
use Rattle.mtree_index.specs.Removal.{entry_without, first_changed, refilled, removed}
use Rattle.mtree_index.specs.Joinable.{given, IsJoinableAt}
use Rattle.mtree_index.proofs.Found.{found_among, one_within, joinable_at}
use Rattle.mtree_index.proofs.Lost.{Telling}
use Rattle.vec_record.proofs.Greatest.{greatest_small}
use Rattle.mtree_index.proofs.Opened.{has_level}
use Rattle.mtree_index.proofs.Opening.{removed_inner, map_none, map_map, given_map}
use Rattle.mtree_index.proofs.Parted.{Lawful}
use Rattle.mtree_index.proofs.Walks.{here, sum_here, set_same, none_more, changed_there, changed_none, none_there}
use Rattle.mtree_index.proofs.removal.+remove.Given.{Over}
use Rattle.mtree_index.proofs.removal.+remove.Goals as goal

-- the metric's laws at the width of a vector
lawful : (g : Over) (v : List ℕ) → IsWidth (length v) → IsVector (length v) v → Lawful g.M.Metric.dist (length v) (g.M.Metric.most (length v))
lawful g v width iv =
    let law = g.met.M.Metric in
    record {
      triangle = λ a b c x y z. law.triangle (length v) a b c width x y z;
      bound = λ a b x y. law.bound (length v) a b width x y;
      small = let top = (law.defined (length v) v v width iv iv).1 in omega (arith, top, greatest_small g.M.Metric.KIND (length v) width);
    }

telling : (g : Over) (v : List ℕ) → IsWidth (length v) → Telling g.M.Metric.dist (length v)
telling g v width = let law = g.met.M.Metric in record { identity = λ a b x y. law.identity (length v) a b width x y; symmetry = λ a b x y. law.symmetry (length v) a b width x y }

pub remove_among-refill-requires-clause-within : goal.remove_among-refill-requires-clause-within
remove_among-refill-requires-clause-within g t c =
    let v = c.args.vector.now in
    let iv : IsVector (length v) v = record { len = refl; bytes = c.as_slice.ensures.bytes } in
    let laws = lawful g v c.requires.width iv in
    let tells = telling g v c.requires.width in
    let most = g.M.Metric.most (length v) in
    let over = option_copied c.args.over in
    let place = c.in-Some.place in
    let new = c.remove_first.new.entries in
    let is : Some (place, new) ≡ first_changed (entry_without g.M.Metric.dist v (λ object m. removed g.M.Metric.dist most c.args.number v c.args.height (Some object) m) over) c.args.entries.now = rw c.in-Some.is at c.in_ok-place.ensures.is in
    let found = found_among g.M.Metric.dist (length v) most laws tells c.args.number v iv c.args.height over c.args.entries.now c.requires.over c.requires.entries place new is in
    one_within g.M.Metric.dist (length v) most laws tells c.args.number v iv c.args.height over place new found.0

pub remove_among-refill-requires-clause-some : goal.remove_among-refill-requires-clause-some
remove_among-refill-requires-clause-some g t c =
    let v = c.args.vector.now in
    let iv : IsVector (length v) v = record { len = refl; bytes = c.as_slice.ensures.bytes } in
    let laws = lawful g v c.requires.width iv in
    let tells = telling g v c.requires.width in
    let most = g.M.Metric.most (length v) in
    let over = option_copied c.args.over in
    let place = c.in-Some.place in
    let new = c.remove_first.new.entries in
    let is : Some (place, new) ≡ first_changed (entry_without g.M.Metric.dist v (λ object m. removed g.M.Metric.dist most c.args.number v c.args.height (Some object) m) over) c.args.entries.now = rw c.in-Some.is at c.in_ok-place.ensures.is in
    let found = found_among g.M.Metric.dist (length v) most laws tells c.args.number v iv c.args.height over c.args.entries.now c.requires.over c.requires.entries place new is in
    omega (arith, found.1, c.requires.some)

pub remove_among-refill-requires-clause-room : goal.remove_among-refill-requires-clause-room
remove_among-refill-requires-clause-room g t c =
    let v = c.args.vector.now in
    let iv : IsVector (length v) v = record { len = refl; bytes = c.as_slice.ensures.bytes } in
    let laws = lawful g v c.requires.width iv in
    let tells = telling g v c.requires.width in
    let most = g.M.Metric.most (length v) in
    let over = option_copied c.args.over in
    let place = c.in-Some.place in
    let new = c.remove_first.new.entries in
    let is : Some (place, new) ≡ first_changed (entry_without g.M.Metric.dist v (λ object m. removed g.M.Metric.dist most c.args.number v c.args.height (Some object) m) over) c.args.entries.now = rw c.in-Some.is at c.in_ok-place.ensures.is in
    let found = found_among g.M.Metric.dist (length v) most laws tells c.args.number v iv c.args.height over c.args.entries.now c.requires.over c.requires.entries place new is in
    omega (arith, found.1, c.requires.room)

pub remove_among-refill-requires-clause-joinable : goal.remove_among-refill-requires-clause-joinable
remove_among-refill-requires-clause-joinable g t c =
    let v = c.args.vector.now in
    let iv : IsVector (length v) v = record { len = refl; bytes = c.as_slice.ensures.bytes } in
    let laws = lawful g v c.requires.width iv in
    let tells = telling g v c.requires.width in
    let most = g.M.Metric.most (length v) in
    let over = option_copied c.args.over in
    let place = c.in-Some.place in
    let new = c.remove_first.new.entries in
    let is : Some (place, new) ≡ first_changed (entry_without g.M.Metric.dist v (λ object m. removed g.M.Metric.dist most c.args.number v c.args.height (Some object) m) over) c.args.entries.now = rw c.in-Some.is at c.in_ok-place.ensures.is in
    let found = found_among g.M.Metric.dist (length v) most laws tells c.args.number v iv c.args.height over c.args.entries.now c.requires.over c.requires.entries place new is in
    subst (λ (u : List ℕ). IsJoinableAt (length u) place new) (sym c.as_slice.ensures.value) (joinable_at g.M.Metric.dist (length v) most laws tells c.args.number v iv c.args.height over place new found.0)

pub remove_below-returns-in-Inner-clause-is : goal.remove_below-returns-in-Inner-clause-is
remove_below-returns-in-Inner-clause-is g t c =
    let dist = g.M.Metric.dist in
    let v = c.args.vector.now in
    let most = g.M.Metric.most (length v) in
    let over = option_copied c.args.over in
    let es = c.in-Inner.entries in
    let tag = c.in-Inner.tag in
    let level = has_level dist (length v) most c.args.height over c.args.node.now c.requires.node in
    let f = entry_without dist v (λ object m. removed dist most c.args.number v (c.args.height - 1) (Some object) m) over in
    let r = λ (p : ℕ × List InnerEntry). refilled dist most over p.0 p.1 in
    let whole : removed dist most c.args.number v c.args.height over c.args.node.now ≡ option_map (node.Inner tag) (option_map r (first_changed f es)) =
    removed_inner dist most c.args.number v over c.args.node.now tag c.args.height (c.args.height - 1) level es c.in-Inner.is ∙ sym (map_map (node.Inner tag) r (first_changed f es)) in
    let new = c.remove_among.new.entries in
    IfOk-weaker c.remove_among.result (λ (done : Bool). given done new ≡ option_map r (first_changed f es)) _
    (λ done d. rw (whole, ← d, ← given_map (node.Inner tag) done new) (ap (given done) (search (rules, the_lemmas)))) (rw c.in-Inner.entries-is at c.remove_among.ensures.is)

pub remove_below-returns-in-Inner-clause-absent : goal.remove_below-returns-in-Inner-clause-absent
remove_below-returns-in-Inner-clause-absent g t c = λ none.
    let dist = g.M.Metric.dist in
    let v = c.args.vector.now in
    let most = g.M.Metric.most (length v) in
    let over = option_copied c.args.over in
    let es = c.in-Inner.entries in
    let tag = c.in-Inner.tag in
    let level = has_level dist (length v) most c.args.height over c.args.node.now c.requires.node in
    let f = entry_without dist v (λ object m. removed dist most c.args.number v (c.args.height - 1) (Some object) m) over in
    let r = λ (p : ℕ × List InnerEntry). node.Inner tag (refilled dist most over p.0 p.1) in
    let nothing : first_changed f es ≡ None = map_none r (first_changed f es) (sym (removed_inner dist most c.args.number v over c.args.node.now tag c.args.height (c.args.height - 1) level es c.in-Inner.is) ∙ none) in
    c.remove_among.ensures.absent (ap (first_changed f) c.in-Inner.entries-is ∙ nothing)

pub remove_first-returns-clause-is : goal.remove_first-returns-clause-is
remove_first-returns-clause-is g t c =
    let v = c.args.vector.now in
    let most = g.M.Metric.most (length v) in
    let f = entry_without g.M.Metric.dist v (λ object m. removed g.M.Metric.dist most c.args.number v c.args.height (Some object) m) (option_copied c.args.over) in
    let es = c.loop-i.entries in
    let over_all : length es ≤ c.loop-i.i = omega (arith, ap length c.loop-i.invariant.0) in
    sym (changed_none f es c.loop-i.i over_all c.loop-i.invariant.1) ∙ ap (first_changed f) c.loop-i.invariant.0

pub remove_first-returns-in_err-remove_under-clause-absent : goal.remove_first-returns-in_err-remove_under-clause-absent
remove_first-returns-in_err-remove_under-clause-absent g t c = λ none.
    let dist = g.M.Metric.dist in
    let v = c.args.vector.now in
    let most = g.M.Metric.most (length v) in
    let over = option_copied c.args.over in
    let f = entry_without dist v (λ object m. removed dist most c.args.number v c.args.height (Some object) m) over in
    let es = c.loop-i.entries in
    let i = c.loop-i.i in
    let e = c.item_mut-entry.result.now in
    let at : slice_get es i ≡ Some e = c.item_mut-entry.ensures.value in
    let new = c.remove_under.new.entry in
    let nothing : f e ≡ None = none_there f es i e at (ap (first_changed f) c.loop-i.invariant.0 ∙ none) in
    let ok = c.remove_under.ensures.absent over c.requires.to_object nothing in
    absurd (cc (ok, c.in_err-remove_under.was))

pub remove_first-returns-in_err-remove_under-clause-counted : goal.remove_first-returns-in_err-remove_under-clause-counted
remove_first-returns-in_err-remove_under-clause-counted g t c =
    let v = c.args.vector.now in
    let F = λ (e : InnerEntry). entry_cost g.M.Metric.dist v 0 (cost g.M.Metric.dist v 0 c.args.height) c.args.to_object (out-InnerEntry e) in
    let es = c.loop-i.entries in
    omega (arith, c.loop-i.invariant.2, c.remove_under.ensures.counted, sum_here F es c.loop-i.i c.item_mut-entry.result.now c.item_mut-entry.ensures.value, ap (sum_by F) c.loop-i.invariant.0)

pub remove_first-returns-then-branch-clause-is : goal.remove_first-returns-then-branch-clause-is
remove_first-returns-then-branch-clause-is g t c =
    let dist = g.M.Metric.dist in
    let v = c.args.vector.now in
    let most = g.M.Metric.most (length v) in
    let over = option_copied c.args.over in
    let f = entry_without dist v (λ object m. removed dist most c.args.number v c.args.height (Some object) m) over in
    let es = c.loop-i.entries in
    let i = c.loop-i.i in
    let e = c.item_mut-entry.result.now in
    let at : slice_get es i ≡ Some e = c.item_mut-entry.ensures.value in
    let new = c.remove_under.new.entry in
    let y : f e ≡ Some new = sym (rw c.if-branch.true at (c.in_ok-remove_under.ensures.is over c.requires.to_object)) in
    let is : first_changed f c.args.entries.now ≡ Some (i, slice_set es i new) = sym (ap (first_changed f) c.loop-i.invariant.0) ∙ changed_there f es i e new at y c.loop-i.invariant.1 in
    sym is

pub remove_first-returns-then-branch-clause-absent : goal.remove_first-returns-then-branch-clause-absent
remove_first-returns-then-branch-clause-absent g t c = λ none.
    let dist = g.M.Metric.dist in
    let v = c.args.vector.now in
    let most = g.M.Metric.most (length v) in
    let over = option_copied c.args.over in
    let f = entry_without dist v (λ object m. removed dist most c.args.number v c.args.height (Some object) m) over in
    let es = c.loop-i.entries in
    let i = c.loop-i.i in
    let e = c.item_mut-entry.result.now in
    let at : slice_get es i ≡ Some e = c.item_mut-entry.ensures.value in
    let new = c.remove_under.new.entry in
    let y : f e ≡ Some new = sym (rw c.if-branch.true at (c.in_ok-remove_under.ensures.is over c.requires.to_object)) in
    let is : first_changed f c.args.entries.now ≡ Some (i, slice_set es i new) = sym (ap (first_changed f) c.loop-i.invariant.0) ∙ changed_there f es i e new at y c.loop-i.invariant.1 in
    absurd (let h : Some (i, slice_set es i new) ≡ None = sym is ∙ none in cc)

pub remove_first-returns-then-branch-clause-counted : goal.remove_first-returns-then-branch-clause-counted
remove_first-returns-then-branch-clause-counted g t c =
    let v = c.args.vector.now in
    let F = λ (e : InnerEntry). entry_cost g.M.Metric.dist v 0 (cost g.M.Metric.dist v 0 c.args.height) c.args.to_object (out-InnerEntry e) in
    let es = c.loop-i.entries in
    omega (arith, c.loop-i.invariant.2, c.remove_under.ensures.counted, sum_here F es c.loop-i.i c.item_mut-entry.result.now c.item_mut-entry.ensures.value, ap (sum_by F) c.loop-i.invariant.0)

pub remove_first-loop-i-preserved : goal.remove_first-loop-i-preserved
remove_first-loop-i-preserved g t c =
    let dist = g.M.Metric.dist in
    let v = c.args.vector.now in
    let most = g.M.Metric.most (length v) in
    let over = option_copied c.args.over in
    let f = entry_without dist v (λ object m. removed dist most c.args.number v c.args.height (Some object) m) over in
    let es = c.loop-i.entries in
    let i = c.loop-i.i in
    let e = c.item_mut-entry.result.now in
    let at : slice_get es i ≡ Some e = c.item_mut-entry.ensures.value in
    let new = c.remove_under.new.entry in
    let F = λ (x : InnerEntry). entry_cost dist v 0 (cost dist v 0 c.args.height) c.args.to_object (out-InnerEntry x) in
    let P = λ (x : InnerEntry). IsInnerEntry dist (length v) most (λ object m. IsNode dist (length v) most c.args.height (Some object) m) (leaves c.args.height) over (out-InnerEntry x) in
    let no : c.remove_under.result ≡ Ok false = c.in_ok-remove_under.was ∙ ap Ok c.if-branch.false in
    let nothing : f e ≡ None = sym (rw c.if-branch.false at (c.in_ok-remove_under.ensures.is over c.requires.to_object)) in
    let same : slice_set es i new ≡ es = ap (slice_set es i) (c.remove_under.ensures.same no) ∙ set_same es i e at in
    rw (same, add-one) (
      c.loop-i.invariant.0,
      none_more f es i e at nothing c.loop-i.invariant.1,
      omega (arith, c.loop-i.invariant.2, c.remove_under.ensures.searched no, sum_here F es i e at),
      (subst (AllByRecursion P) (here es i e at) c.loop-i.invariant.3).1,
    )
