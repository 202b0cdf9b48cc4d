-- Lists of writes and redo items.
use Rattle.std.proofs.Common.{◌≡◌, inl, inr, ⊎_elim, ℕ, zero, suc, ◌+◌, ◌*◌, ◌<◌, ◌≤◌, Bool, true, false, ◌&&◌, ltb, List, [], ◌∷◌, ◌++◌, length, take, drop, reverse, get_or, IsTrue, refl, sym, ◌∙◌, ap, subst, arith}
use Rattle.std.proofs.lemmas.List.{take_more, take-append-drop, drop_more, reverse-append}
use Rattle.page_gate.specs.declared.page.PageWrite.{PageWrite}
use Rattle.page_gate.specs.Gate.{part, number_4, number_8, items, rises, count_of}
use Rattle.page_gate.specs.Writes.{pairs, Names, new_count}
use Rattle.page_gate.specs.Same.{Same, IsOutside}
use Rattle.page_gate.specs.Steps.{IsItem, IsThere, HasItems, IsUnnamed, InPlace}
use Rattle.page_gate.proofs.Parts.{same_part, number_8_of}

abbrev pub Items : Type 0
Items = List (ℕ × List ℕ)

-- both of two tests hold
pub both : (x y : Bool) → IsTrue (x && y) → IsTrue x × IsTrue y
both true y h = (refl, h)
both false y h = absurd (cc h)

pub less_of : (a b : ℕ) → IsTrue (ltb a b) → a < b
less_of a b h = grind arith

-- each of the items is of a page below this one
abbrev pub Below : ℕ → List (ℕ × List ℕ) → Type 0
Below page [] = Unit {0}
Below page (x ∷ xs) = (x.0 < page) × Below page xs

pub below_more : (low high : ℕ) (xs : List (ℕ × List ℕ)) → low ≤ high → Below low xs → Below high xs
below_more low high [] le below = tt
below_more low high (x ∷ xs) le below = (omega (arith, below.0, le), below_more low high xs le below.1)

-- an item in the midst of rising ones
pub record InMidst (low limit : ℕ) (xs : List (ℕ × List ℕ)) (page : ℕ) : Type 0 where
  pub above : low < page
  pub within : page < limit
  pub below : Below page xs

pub in_midst : (low limit : ℕ) (xs : List (ℕ × List ℕ)) (w : ℕ × List ℕ) (ys : List (ℕ × List ℕ)) → IsTrue (rises low limit (xs ++ w ∷ ys)) → InMidst low limit xs w.0
in_midst low limit [] w ys h =
    let first = both (ltb low w.0) _ h in
    let next = both (ltb w.0 limit) _ first.1 in
    record { above = less_of low w.0 first.0; within = less_of w.0 limit next.0; below = tt }
in_midst low limit (x ∷ xs) w ys h =
    let first = both (ltb low x.0) _ h in
    let next = both (ltb x.0 limit) _ first.1 in
    let rest = in_midst x.0 limit xs w ys next.1 in
    record { above = omega (arith, less_of low x.0 first.0, rest.above); within = rest.within; below = (rest.above, rest.below) }

pub names_mid : (page : ℕ) (xs : List (ℕ × List ℕ)) (w : ℕ × List ℕ) (ys : List (ℕ × List ℕ)) → w.0 ≡ page → Names page (xs ++ w ∷ ys)
names_mid page [] w ys is = inl is
names_mid page (x ∷ xs) w ys is = inr (names_mid page xs w ys is)

-- writes as pairs
pub pairs-append : (xs ys : List PageWrite) → pairs (xs ++ ys) ≡ pairs xs ++ pairs ys
pairs-append [] ys = refl
pairs-append (x ∷ xs) ys = ap (λ (l : List (ℕ × List ℕ)). (x.page, x.bytes) ∷ l) (pairs-append xs ys)

pub pairs_more : (ws : List PageWrite) (k : ℕ) (w : PageWrite) → k < length ws → w ≡ get_or ws k w → pairs (take (k + 1) ws) ≡ pairs (take k ws) ++ (w.page, w.bytes) ∷ []
pairs_more ws k w lt is =
    ap pairs (take_more ws k w lt) ∙ pairs-append (take k ws) (get_or ws k w ∷ []) ∙ ap (λ (v : PageWrite). pairs (take k ws) ++ pairs (v ∷ [])) (sym is)

pub pairs_split : (ws : List PageWrite) (k : ℕ) (w : PageWrite) → k < length ws → w ≡ get_or ws k w → pairs ws ≡ pairs (take k ws) ++ (w.page, w.bytes) ∷ pairs (drop (k + 1) ws)
pairs_split ws k w lt is =
    ap pairs (sym (take-append-drop k ws)) ∙ pairs-append (take k ws) (drop k ws) ∙ ap (λ (l : List PageWrite). pairs (take k ws) ++ pairs l) (drop_more ws k w lt)
    ∙ ap (λ (v : PageWrite). pairs (take k ws) ++ pairs (v ∷ drop (k + 1) ws)) (sym is)

pub length-pairs : (ws : List PageWrite) → length (pairs ws) ≡ length ws
length-pairs [] = refl
length-pairs (w ∷ ws) = omega (arith, length-pairs ws)

-- one redo item more at the end
pub items_more : (start n : ℕ) (c : List ℕ) → items start (suc n) c ≡ items start n c ++ (number_8 (start + 16392 * n) c, part (start + 16392 * n + 8) 16384 c) ∷ []
unfolding items
items_more start zero c =
    let here : start + 16392 * 0 ≡ start = omega arith in
    ap (λ (at : ℕ). (number_8 at c, part (at + 8) 16384 c) ∷ []) (sym here)
items_more start (suc n) c =
    let there : start + 16392 + 16392 * n ≡ start + 16392 * suc n = omega arith in
    ap (λ (l : List (ℕ × List ℕ)). (number_8 start c, part (start + 8) 16384 c) ∷ l)
    (items_more (start + 16392) n c ∙ ap (λ (at : ℕ). items (start + 16392) n c ++ (number_8 at c, part (at + 8) 16384 c) ∷ []) there)

pub items_same : (start n : ℕ) (c d : List ℕ) (kept : ℕ → Type 0) (top : ℕ) → Same kept top c d → (0 < n → start + 16392 * n ≤ length c) → ((i : ℕ) → start ≤ i → i < start + 16392 * n → kept i)
    → items start n d ≡ items start n c
unfolding items
items_same start zero c d kept top same room within = refl
items_same start (suc n) c d kept top same room within =
    let long : start + 16392 * suc n ≤ length c = room (omega arith) in
    let number : number_8 start d ≡ number_8 start c = number_8_of start d c (same_part kept top start 8 same (omega (arith, long)) (λ i ge lt. within i ge (omega (arith, lt)))) in
    let image : part (start + 8) 16384 d ≡ part (start + 8) 16384 c = same_part kept top (start + 8) 16384 same (omega (arith, long)) (λ i ge lt. within i (omega (arith, ge)) (omega (arith, lt))) in
    let rest : items (start + 16392) n d ≡ items (start + 16392) n c = items_same (start + 16392) n c d kept top same (λ some. omega (arith, long)) (λ i ge lt. within i (omega (arith, ge)) (omega (arith, lt))) in
    cc (number, image, rest)

pub has_more : (start n at page : ℕ) (image : List ℕ) (redo : List (ℕ × List ℕ)) {c d : List ℕ} → at ≡ start + 16392 * n → HasItems start n redo c → Same (IsOutside at 16392) (at + 16392) c d → IsItem at page image d
    → HasItems start (n + 1) (redo ++ (page, image) ∷ []) d
has_more start n at page image redo {c} {d} is has same item = record {
  list = ap (λ (k : ℕ). items start k d) one ∙ items_more start n d ∙ ap (λ (p : ℕ). items start n d ++ (number_8 p d, part (p + 8) 16384 d) ∷ []) (sym is)
      ∙ ap (λ (l : List (ℕ × List ℕ)). l ++ (number_8 at d, part (at + 8) 16384 d) ∷ []) (earlier ∙ has.list)
      ∙ ap (λ (p : ℕ). redo ++ (p, part (at + 8) 16384 d) ∷ []) item.number_is ∙ ap (λ (l : List ℕ). redo ++ (page, l) ∷ []) item.image_is;
  room = λ some. omega (arith, item.room, is);
}
  where
    one : n + 1 ≡ suc n
    one = omega arith

    earlier : items start n d ≡ items start n c
    earlier = items_same start n c d (IsOutside at 16392) (at + 16392) same has.room (λ i ge lt. inl (omega (arith, lt, is)))

pub has_none : (start : ℕ) (c : List ℕ) → HasItems start 0 [] c
unfolding items
has_none start c = record { list = refl; room = λ some. absurd (omega (arith, some)) }

-- one image more in its place
pub in_place_same : (page : ℕ) (xs : List (ℕ × List ℕ)) {c d : List ℕ} → Below page xs → Same (IsOutside (16384 * page) 16384) (16384 * page + 16384) c d → InPlace xs c → InPlace xs d
in_place_same page [] below same placed = tt
in_place_same page (x ∷ xs) {c} {d} below same placed = (
  record {
    image_is = same_part (IsOutside (16384 * page) 16384) (16384 * page + 16384) (16384 * x.0) 16384 same placed.0.room (λ i ge lt. inl (omega (arith, lt, below.0))) ∙ placed.0.image_is;
    room = omega (arith, placed.0.room, same.no_shorter);
  },
  in_place_same page xs below.1 same placed.1,
)

pub in_place-append : (xs : List (ℕ × List ℕ)) (w : ℕ × List ℕ) (c : List ℕ) → InPlace xs c → IsThere (16384 * w.0) w.1 c → InPlace (xs ++ w ∷ []) c
in_place-append [] w c placed there = (there, tt)
in_place-append (x ∷ xs) w c placed there = (placed.0, in_place-append xs w c placed.1 there)

-- the steps of the two loops
module _ (ws : List PageWrite) (k : ℕ) (w : PageWrite) (within : k < length ws) (is : w ≡ get_or ws k w) where
  pub more_items : (start at number : ℕ) (image : List ℕ) → number ≡ w.page → image ≡ w.bytes → at ≡ start + 16392 * k → {c d : List ℕ} → HasItems start k (pairs (take k ws)) c → Same (IsOutside at 16392) (at + 16392) c d → IsItem at number image d
      → HasItems start (k + 1) (pairs (take (k + 1) ws)) d
  more_items start at number image page_is image_is at_is {c} {d} has same item =
      let added : HasItems start (k + 1) (pairs (take k ws) ++ (number, image) ∷ []) d = has_more start k at number image (pairs (take k ws)) at_is has same item in
      let now : pairs (take k ws) ++ (number, image) ∷ [] ≡ pairs (take (k + 1) ws) = ap (λ (p : ℕ). pairs (take k ws) ++ (p, image) ∷ []) page_is ∙ ap (λ (l : List ℕ). pairs (take k ws) ++ (w.page, l) ∷ []) image_is ∙ sym (pairs_more ws k w within is) in
      subst (λ (l : List (ℕ × List ℕ)). HasItems start (k + 1) l d) now added

  pub midst : (limit : ℕ) → IsTrue (rises 0 limit (pairs ws)) → InMidst 0 limit (pairs (take k ws)) w.page
  midst limit rising = in_midst 0 limit (pairs (take k ws)) (w.page, w.bytes) (pairs (drop (k + 1) ws)) (subst (λ (l : List (ℕ × List ℕ)). IsTrue (rises 0 limit l)) (pairs_split ws k w within is) rising)

  pub named : Names w.page (pairs ws)
  named = subst (Names w.page) (sym (pairs_split ws k w within is)) (names_mid w.page (pairs (take k ws)) (w.page, w.bytes) (pairs (drop (k + 1) ws)) refl)

  pub unnamed_out : (at : ℕ) → at ≡ 16384 * w.page → (i : ℕ) → IsUnnamed (pairs ws) i → IsOutside at 16384 i
  unnamed_out at at_is i free = ⊎_elim (λ below. inl (omega (arith, below, at_is))) (λ above. inr (omega (arith, above, at_is))) (free w.page named)

  pub more_placed : (limit at : ℕ) (image : List ℕ) → IsTrue (rises 0 limit (pairs ws)) → image ≡ w.bytes → at ≡ 16384 * w.page → {c d : List ℕ} → InPlace (pairs (take k ws)) c → Same (IsOutside at 16384) (at + 16384) c d → IsThere at image d
      → InPlace (pairs (take (k + 1) ws)) d
  more_placed limit at image rising image_is at_is {c} {d} placed same there =
      let moved : Same (IsOutside (16384 * w.page) 16384) (16384 * w.page + 16384) c d = subst (λ (p : ℕ). Same (IsOutside p 16384) (p + 16384) c d) at_is same in
      let put : IsThere (16384 * w.page) image d = subst (λ (p : ℕ). IsThere p image d) at_is there in
      let here : IsThere (16384 * w.page) w.bytes d = subst (λ (l : List ℕ). IsThere (16384 * w.page) l d) image_is put in
      subst (λ (l : List (ℕ × List ℕ)). InPlace l d) (sym (pairs_more ws k w within is))
      (in_place-append (pairs (take k ws)) (w.page, w.bytes) d (in_place_same w.page (pairs (take k ws)) (midst limit rising).below moved placed) here)

pub new_count_at : (ws : List PageWrite) (w : PageWrite) → 0 < length ws → w ≡ get_or ws 0 w → number_4 0 w.bytes ≡ new_count (pairs ws)
unfolding count_of
new_count_at [] w some is = absurd (omega (arith, some))
new_count_at (x ∷ ws) w some is = ap (λ (v : PageWrite). number_4 0 v.bytes) is

pub popped : (all rest : List PageWrite) (w : PageWrite) → all ≡ rest ++ w ∷ [] → pairs (reverse all) ≡ (w.page, w.bytes) ∷ pairs (reverse rest)
popped all rest w is = ap (λ (l : List PageWrite). pairs (reverse l)) is ∙ ap pairs (reverse-append rest (w ∷ []))
