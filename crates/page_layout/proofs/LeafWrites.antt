-- Writes of leaves into a page.
use Rattle.std.proofs.Common.{◌≡◌, ℕ, zero, suc, ◌+◌, ◌-◌, ◌*◌, ◌<◌, ◌≤◌, List, [], ◌∷◌, ◌++◌, length, get_or, take, drop, set, replicate, refl, sym, ap, ◌∙◌, append_assoc, arith}
use Rattle.std.specs.List.{AllByRecursion, flat_map}
use Rattle.std.proofs.lemmas.List.{take_at, drop_at, take-append-drop, drop_more, take_more, set_split, length-append, length-replicate, length-take-le, replicate-append-replicate}
use Rattle.std.proofs.lemmas.List.Concat.{flat_map-append}
use Rattle.mtree_node.specs.Preorder.{LeafRow}
use Rattle.page_layout.specs.Fields.{word}
use Rattle.page_layout.specs.Leaves.{leaf_slot_at, IsLeaf, AreLeaves, leaf_row_bytes, leaf_bytes, leaf_page}
use Rattle.page_layout.proofs.Places.{put_more}
use Rattle.page_layout.proofs.Runs.{length-run}
use Rattle.page_layout.proofs.LeafReads.{leaf_long, leaf_then}

-- ---- free slots

free_bytes : (n : ℕ) → flat_map leaf_bytes (replicate n []) ≡ replicate (256 * n) 0
free_bytes zero = refl
free_bytes (suc n) =
    let front : List ℕ = replicate 256 0 in
    let more : 256 + 256 * n ≡ 256 * suc n = omega arith in
    ap (λ (l : List ℕ). front ++ l) (free_bytes n) ∙ replicate-append-replicate 256 (256 * n) 0 ∙ ap (λ (k : ℕ). replicate k 0) more

free_with : (n m : ℕ) (blank new : List ℕ) → 15 + (256 * n + 240) ≡ m → blank ≡ replicate (suc m) 0 → new ≡ set blank 0 2 → new ≡ leaf_page (replicate n [])
unfolding leaf_page
free_with n m blank new sizes are is =
    let front : List ℕ = replicate 15 0 in
    let tail : List ℕ = replicate 240 0 in
    let filled : front ++ (flat_map leaf_bytes (replicate n []) ++ tail) ≡ replicate m 0 =
    ap (λ (l : List ℕ). front ++ (l ++ tail)) (free_bytes n) ∙ ap (λ (l : List ℕ). front ++ l) (replicate-append-replicate (256 * n) 240 0) ∙ replicate-append-replicate 15 (256 * n + 240) 0 ∙ ap (λ (k : ℕ). replicate k 0) sizes in
    is ∙ ap (λ (l : List ℕ). set l 0 2) are ∙ ap (λ (l : List ℕ). 2 ∷ l) (sym filled)

pub free_leaves : (blank new : List ℕ) → blank ≡ replicate 16384 0 → new ≡ set blank 0 2 → new ≡ leaf_page (replicate 63 [])
free_leaves blank new are is = free_with 63 16383 blank new refl are is

-- ---- entries

rows_more : (rows : List LeafRow) (k : ℕ) (d : LeafRow) → k < length rows → flat_map leaf_row_bytes (take (k + 1) rows) ≡ flat_map leaf_row_bytes (take k rows) ++ leaf_row_bytes (get_or rows k d)
rows_more rows k d lt = ap (flat_map leaf_row_bytes) (take_more rows k d lt) ∙ flat_map-append leaf_row_bytes (take k rows) (get_or rows k d ∷ [])

length-rows : (rows : List LeafRow) → length (flat_map leaf_row_bytes rows) ≡ 8 * length rows
length-rows [] = refl
length-rows (row ∷ rows) = omega (arith, length-rows rows)

pub rows_put : (at k : ℕ) (old out new : List ℕ) (rows : List LeafRow) (d : LeafRow) → at ≤ length old → k < length rows
    → out ≡ take at old ++ flat_map leaf_row_bytes (take k rows) ++ drop (at + 8 * k) old
    → new ≡ take (at + 8 * k) out ++ leaf_row_bytes (get_or rows k d) ++ drop (at + 8 * k + 8) out
    → new ≡ take at old ++ flat_map leaf_row_bytes (take (k + 1) rows) ++ drop (at + 8 * (k + 1)) old
rows_put at k old out new rows d le lt out_is new_is =
    let done : List ℕ = flat_map leaf_row_bytes (take k rows) in
    let row : List ℕ = leaf_row_bytes (get_or rows k d) in
    let here : ℕ = at + 8 * k in
    let len : here ≡ at + length done = omega (arith, length-rows (take k rows), length-take-le k rows (omega arith)) in
    let next : here + 8 ≡ at + 8 * (k + 1) = omega arith in
    new_is ∙ ap (λ (l : List ℕ). take here l ++ row ++ drop (here + 8) l) out_is ∙ put_more at here 8 old done row len le
    ∙ ap (λ (l : List ℕ). take at old ++ l ++ drop (here + 8) old) (sym (rows_more rows k d lt)) ∙ ap (λ (n : ℕ). take at old ++ flat_map leaf_row_bytes (take (k + 1) rows) ++ drop n old) next

-- ---- a slot

-- what lies between two ends is replaced
replaced : (front mid back new : List ℕ) (at n : ℕ) → length front ≡ at → length mid ≡ n → take at (front ++ (mid ++ back)) ++ new ++ drop (at + n) (front ++ (mid ++ back)) ≡ front ++ (new ++ back)
replaced front mid back new at n at_is n_is =
    let both : length (front ++ mid) ≡ at + n = omega (arith, length-append front mid, at_is, n_is) in
    let after : drop (at + n) (front ++ (mid ++ back)) ≡ back = ap (drop (at + n)) (sym (append_assoc front mid back)) ∙ drop_at (front ++ mid) back (at + n) both in
    ap (λ (l : List ℕ). l ++ new ++ drop (at + n) (front ++ (mid ++ back))) (take_at front (mid ++ back) at at_is) ∙ ap (λ (l : List ℕ). front ++ new ++ l) after ∙ append_assoc front new back

each-take : (n : ℕ) (leaves : List (List LeafRow)) → AllByRecursion IsLeaf leaves → AllByRecursion IsLeaf (take n leaves)
each-take zero leaves each = tt
each-take (suc n) [] each = tt
each-take (suc n) (rows ∷ leaves) each = (each.0, each-take n leaves each.1)

page_parts : (before : List (List LeafRow)) (rows : List LeafRow) (after : List (List LeafRow))
    → leaf_page (before ++ rows ∷ after) ≡ ((2 ∷ replicate 15 0) ++ flat_map leaf_bytes before) ++ (leaf_bytes rows ++ (flat_map leaf_bytes after ++ replicate 240 0))
unfolding leaf_page
page_parts before rows after =
    let f = leaf_bytes in
    let tail : List ℕ = replicate 240 0 in
    let here : List ℕ = f rows in
    ap (λ (l : List ℕ). (2 ∷ replicate 15 0) ++ (l ++ tail)) (flat_map-append f before (rows ∷ after))
    ∙ ap (λ (l : List ℕ). (2 ∷ replicate 15 0) ++ l) (append_assoc (flat_map f before) (here ++ flat_map f after) tail ∙ ap (λ (l : List ℕ). flat_map f before ++ l) (append_assoc here (flat_map f after) tail))
    ∙ sym (append_assoc (2 ∷ replicate 15 0) (flat_map f before) (here ++ (flat_map f after ++ tail)))

slots_split : (leaves : List (List LeafRow)) (slot : ℕ) → slot < length leaves → leaves ≡ take slot leaves ++ get_or leaves slot [] ∷ drop (slot + 1) leaves
slots_split leaves slot lt = sym (take-append-drop slot leaves) ∙ ap (λ (l : List (List LeafRow)). take slot leaves ++ l) (drop_more leaves slot [] lt)

-- a free slot in two parts
free_parts : (n : ℕ) (back : List ℕ) → n ≤ 30 → leaf_bytes [] ++ back ≡ replicate (16 + 8 * n) 0 ++ (replicate (240 - 8 * n) 0 ++ back)
free_parts n back le =
    let sizes : 16 + 8 * n + (240 - 8 * n) ≡ 256 = omega (arith, le) in
    let whole : replicate 256 0 ≡ replicate (16 + 8 * n) 0 ++ replicate (240 - 8 * n) 0 = sym (replicate-append-replicate (16 + 8 * n) (240 - 8 * n) 0 ∙ ap (λ (k : ℕ). replicate k 0) sizes) in
    ap (λ (l : List ℕ). l ++ back) whole ∙ append_assoc (replicate (16 + 8 * n) 0) (replicate (240 - 8 * n) 0) back

-- the number of entries with its zeros, and the entries
abbrev pub filled : List LeafRow → List ℕ
filled rows = flat_map word (length rows ∷ 0 ∷ 0 ∷ 0 ∷ []) ++ flat_map leaf_row_bytes rows

leaf_filled : (leaves : List (List LeafRow)) (slot : ℕ) (rows : List LeafRow) (old new : List ℕ) → AreLeaves leaves → slot < 63 → length rows ≤ 30 → get_or leaves slot [] ≡ [] → old ≡ leaf_page leaves
    → new ≡ take (leaf_slot_at slot) old ++ filled rows ++ drop (leaf_slot_at slot + (16 + 8 * length rows)) old → new ≡ leaf_page (set leaves slot rows)
leaf_filled leaves slot rows old new are lt few free old_is new_is =
    let n : ℕ = length rows in
    let at : ℕ = leaf_slot_at slot in
    let within : slot < length leaves = omega (arith, are.count, lt) in
    let front : List ℕ = (2 ∷ replicate 15 0) ++ flat_map leaf_bytes (take slot leaves) in
    let back : List ℕ = flat_map leaf_bytes (drop (slot + 1) leaves) ++ replicate 240 0 in
    let zeros : List ℕ = replicate (16 + 8 * n) 0 in
    let rest : List ℕ = replicate (240 - 8 * n) 0 ++ back in
    let before : length (flat_map leaf_bytes (take slot leaves)) ≡ 256 * length (take slot leaves) = length-run leaf_bytes IsLeaf 256 leaf_long (take slot leaves) (each-take slot leaves are.each) in
    let len : length front ≡ at = omega (arith, length-append (2 ∷ replicate 15 0) (flat_map leaf_bytes (take slot leaves)), before, length-take-le slot leaves (omega (arith, within))) in
    let was : old ≡ front ++ (zeros ++ rest) =
    old_is ∙ ap leaf_page (slots_split leaves slot within ∙ ap (λ (l : List LeafRow). take slot leaves ++ l ∷ drop (slot + 1) leaves) free) ∙ page_parts (take slot leaves) [] (drop (slot + 1) leaves) ∙ ap (λ (l : List ℕ). front ++ l) (free_parts n back few) in
    let one : suc slot ≡ slot + 1 = omega arith in
    let leaves_are : set leaves slot rows ≡ take slot leaves ++ rows ∷ drop (slot + 1) leaves = set_split leaves slot rows within ∙ ap (λ (k : ℕ). take slot leaves ++ rows ∷ drop k leaves) one in
    let slot_is : filled rows ++ rest ≡ leaf_bytes rows ++ back = leaf_then n rows back refl in
    new_is ∙ ap (λ (l : List ℕ). take at l ++ filled rows ++ drop (at + (16 + 8 * n)) l) was ∙ replaced front zeros rest (filled rows) at (16 + 8 * n) len (length-replicate (16 + 8 * n) 0) ∙ ap (λ (l : List ℕ). front ++ l) slot_is
    ∙ sym (ap leaf_page leaves_are ∙ page_parts (take slot leaves) rows (drop (slot + 1) leaves))

-- the two writes of a slot
pub leaf_put : (slot : ℕ) (old mid new : List ℕ) (rows : List LeafRow) → slot < 63 → length rows ≤ 30 → length old ≡ 16384
    → mid ≡ take (leaf_slot_at slot) old ++ flat_map word (length rows ∷ 0 ∷ 0 ∷ 0 ∷ []) ++ drop (leaf_slot_at slot + 16) old
    → new ≡ take (leaf_slot_at slot + 16) mid ++ flat_map leaf_row_bytes rows ++ drop (leaf_slot_at slot + 16 + 8 * length rows) mid
    → (leaves : List (List LeafRow)) → AreLeaves leaves → get_or leaves slot [] ≡ [] → old ≡ leaf_page leaves → new ≡ leaf_page (set leaves slot rows)
leaf_put slot old mid new rows lt few len mid_is new_is leaves are free old_is =
    let at : ℕ = leaf_slot_at slot in
    let n : ℕ = length rows in
    let words : List ℕ = flat_map word (n ∷ 0 ∷ 0 ∷ 0 ∷ []) in
    let entries : List ℕ = flat_map leaf_row_bytes rows in
    let end_is : at + 16 + 8 * n ≡ at + (16 + 8 * n) = omega arith in
    leaf_filled leaves slot rows old new are lt few free old_is
    (new_is ∙ ap (λ (l : List ℕ). take (at + 16) l ++ entries ++ drop (at + 16 + 8 * n) l) mid_is ∙ put_more at (at + 16) (8 * n) old words entries refl (omega (arith, len, lt)) ∙ ap (λ (k : ℕ). take at old ++ filled rows ++ drop k old) end_is)
