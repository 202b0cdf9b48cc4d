use Rattle.std.proofs.Common.{◌+◌, ◌*◌, ◌++◌, ℕ, List, [], ◌∷◌, sym, ◌∙◌, ap, append_assoc}
use Rattle.std.specs.List.{range_with_len}
use Rattle.node_places.proofs.References.{range_more}
use Rattle.node_places.proofs.refs.add_page.Goals as goal

pub loop-slot-preserved : goal.loop-slot-preserved
loop-slot-preserved c =
    let first = 64 * c.args.page in
    let slot = c.loop-slot.slot in
    let before = c.args.refs.now.items in
    c.in_ok-push.ensures.items
    ∙ ap (λ (l : List ℕ). l ++ (first + slot) ∷ []) c.loop-slot.invariant
    ∙ append_assoc before (range_with_len first slot) ((first + slot) ∷ [])
    ∙ ap (λ (l : List ℕ). before ++ l) (sym (range_more first slot))
