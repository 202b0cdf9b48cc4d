-- Plans that are made page by page.
use Rattle.std.proofs.Common.{◌≡◌, ℕ, zero, suc, ◌+◌, ◌-◌, ◌<◌, ◌≤◌, Bool, true, false, cond, List, [], ◌∷◌, ◌++◌, length, map, take, drop, get_or, refl, sym, ◌∙◌, ap, subst, arith, append_assoc}
use Rattle.std.specs.Prelude.{◌==◌}
use Rattle.std.specs.List.{AllByRecursion}
use Rattle.std.proofs.lemmas.List.{drop_more, drop_all, drop-drop, append-nil}
use Rattle.vec_record.specs.Held as held
use Rattle.mtree_node.specs.Preorder.{LeafRow, InnerRow}
use Rattle.kept_clusters.specs.Kept.{Kept}
use Rattle.page_layout.specs.declared.body.Body.{Body}
use Rattle.page_layout.specs.declared.body.Body.TheVariants as body
use Rattle.page_layout.specs.Heads.{Values, plain, head_page}
use Rattle.page_layout.specs.Slots.{Rows}
use Rattle.page_layout.specs.Bodies.{IsBody, body_bytes}
use Rattle.store_image.specs.declared.layout.Next.{Next}
use Rattle.store_image.specs.declared.filling.Done.{Done}
use Rattle.store_image.specs.Placing.{size_on, bodies_with, writes_from}
use Rattle.store_image.specs.inside.Saves.{one_write, done_after, next_slots, next_leaves, next_inners, body_behind, bodies_behind, next_bodies, next_pages}
use Rattle.store_image.proofs.PlanWrites.{writes_more, writes_none}

-- an item that is there, whatever stands for one that isn't
pub get_or_any : (xs : List ℕ) (i d e : ℕ) → i < length xs → get_or xs i d ≡ get_or xs i e
get_or_any [] i d e lt = absurd (omega (arith, lt))
get_or_any (x ∷ xs) zero d e lt = refl
get_or_any (x ∷ xs) (suc i) d e lt = get_or_any xs i d e (omega (arith, lt))

-- the first page, and the rest of them
module _ (size : ℕ) (slots : Rows) (leaves : List (List LeafRow)) (inners : List (List InnerRow)) where
  abbrev bodies_from : List ℕ → Done → List Body
  bodies_from kinds done = bodies_with size kinds (drop done.slots slots) (drop done.leaves leaves) (drop done.inners inners)

  abbrev first_by : Bool → Bool → Done → Body
  first_by a b done =
      cond a (body.Slots (take size (drop done.slots slots)))
      (cond b (body.Leaves (take 63 (drop done.leaves leaves))) (body.Inner (get_or (drop done.inners inners) 0 [])))

  abbrev after_by : Bool → Bool → Done → Done
  after_by a b done =
      cond a (record done { slots = done.slots + size })
      (cond b (record done { leaves = done.leaves + 63 }) (record done { inners = done.inners + 1 }))

  abbrev bodies_by : Bool → Bool → List ℕ → Done → List Body
  bodies_by a b kinds done =
      let s = drop done.slots slots in
      let l = drop done.leaves leaves in
      let i = drop done.inners inners in
      cond a (body.Slots (take size s) ∷ bodies_with size kinds (drop size s) l i)
      (cond b (body.Leaves (take 63 l) ∷ bodies_with size kinds s (drop 63 l) i)
      (body.Inner (get_or i 0 []) ∷ bodies_with size kinds s l (drop 1 i)))

  split_by : (a b : Bool) (kinds : List ℕ) (done : Done) → bodies_by a b kinds done ≡ first_by a b done ∷ bodies_from kinds (after_by a b done)
  split_by true b kinds done =
      ap (λ (s : Rows). body.Slots (take size (drop done.slots slots)) ∷ bodies_with size kinds s (drop done.leaves leaves) (drop done.inners inners)) (drop-drop size done.slots slots)
  split_by false true kinds done =
      ap (λ (l : List (List LeafRow)). body.Leaves (take 63 (drop done.leaves leaves)) ∷ bodies_with size kinds (drop done.slots slots) l (drop done.inners inners)) (drop-drop 63 done.leaves leaves)
  split_by false false kinds done =
      ap (λ (i : List (List InnerRow)). body.Inner (get_or (drop done.inners inners) 0 []) ∷ bodies_with size kinds (drop done.slots slots) (drop done.leaves leaves) i) (drop-drop 1 done.inners inners)

-- the first of the pages that are left, and those behind it
pub bodies_split : (size kind : ℕ) (kinds : List ℕ) (done : Done) (next : Next) (vectors : held.Rows) (kept : Kept)
    → bodies_behind size (kind ∷ kinds) done next vectors kept
    ≡ body_behind size kind done next vectors kept ∷ bodies_behind size kinds (done_after size kind done) next vectors kept
bodies_split size kind kinds done next vectors kept =
    split_by size (next_slots next vectors kept) (next_leaves next) (next_inners next) (kind == 1) (kind == 2) kinds done

-- The writes so far and those of the pages that are left are the writes of all pages; what is left can be written.
pub record Planned
    (v : Values) (old : List (List ℕ)) (next : Next) (vectors : held.Rows) (kept : Kept)
    (number : ℕ) (done : Done) (before : List (ℕ × List ℕ)) : Type 0 where
  pub whole : before ++ writes_from number (drop (number - 1) old) (map (body_bytes v)
      (bodies_behind (size_on v) (drop (number - 2) next.laid.kinds.items) done next vectors kept))
      ≡ writes_from 1 old (next_pages v next vectors kept)
  pub lawful : AllByRecursion (IsBody v)
      (bodies_behind (size_on v) (drop (number - 2) next.laid.kinds.items) done next vectors kept)
  pub few : done.inners + 2 ≤ number

module _ (v : Values) (old : List (List ℕ)) (next : Next) (vectors : held.Rows) (kept : Kept) where
  abbrev size : ℕ
  size = size_on v

  abbrev kinds : List ℕ
  kinds = next.laid.kinds.items

  abbrev left_at : List ℕ → Done → List Body
  left_at ks done = bodies_behind size ks done next vectors kept

  abbrev begun : Done
  begun = record { slots = 0; leaves = 0; inners = 0 }

  pub planned_first : (before : List (ℕ × List ℕ)) → AllByRecursion (IsBody v) (next_bodies v next vectors kept)
      → before ≡ one_write 1 old 0 (head_page (plain next.head)) → Planned v old next vectors kept 2 begun before
  planned_first before all is = record {
    whole = ap (λ (l : List (ℕ × List ℕ)). l ++ writes_from 2 (drop 1 old) (map (body_bytes v) (next_bodies v next vectors kept))) is
        ∙ sym (writes_more 1 old 0 (head_page (plain next.head)) (map (body_bytes v) (next_bodies v next vectors kept)));
    lawful = all;
    few = omega arith;
  }

  -- the pages that are left, by the next one
  left_is : (number : ℕ) (done : Done) → 2 ≤ number → number < 2 + length kinds
      → left_at (drop (number - 2) kinds) done ≡ body_behind size (get_or kinds (number - 2) 0) done next vectors kept
      ∷ left_at (drop (number + 1 - 2) kinds) (done_after size (get_or kinds (number - 2) 0) done)
  left_is number done from below =
      let k = number - 2 in
      let lt : k < length kinds = omega (arith, from, below) in
      let later : k + 1 ≡ number + 1 - 2 = omega (arith, from) in
      let kind = get_or kinds k 0 in
      ap (λ (ks : List ℕ). left_at ks done) (drop_more kinds k 0 lt)
      ∙ bodies_split size kind (drop (k + 1) kinds) done next vectors kept
      ∙ ap (λ (n : ℕ). body_behind size kind done next vectors kept ∷ left_at (drop n kinds) (done_after size kind done)) later

  pub planned_body : (number : ℕ) (done : Done) (before : List (ℕ × List ℕ)) → 2 ≤ number → number < 2 + length kinds
      → Planned v old next vectors kept number done before
      → IsBody v (body_behind size (get_or kinds (number - 2) 0) done next vectors kept)
  planned_body number done before from below planned =
      let parts = subst (AllByRecursion (IsBody v)) (left_is number done from below) planned.lawful in parts.0

  fewer : (a b : Bool) (number : ℕ) (done : Done) → done.inners + 2 ≤ number
      → (cond a (record done { slots = done.slots + size }) (cond b (record done { leaves = done.leaves + 63 }) (record done { inners = done.inners + 1 }))).inners + 2 ≤ number + 1
  fewer true b number done le = omega (arith, le)
  fewer false true number done le = omega (arith, le)
  fewer false false number done le = omega (arith, le)

  pub planned_next : (number : ℕ) (done : Done) (before after : List (ℕ × List ℕ)) (page : List ℕ) → 2 ≤ number → number < 2 + length kinds
      → Planned v old next vectors kept number done before
      → page ≡ body_bytes v (body_behind size (get_or kinds (number - 2) 0) done next vectors kept)
      → after ≡ before ++ one_write 1 old (number - 1) page
      → Planned v old next vectors kept (number + 1) (done_after size (get_or kinds (number - 2) 0) done) after
  planned_next number done before after page from below planned page_is after_is =
      let kind = get_or kinds (number - 2) 0 in
      let k = number - 1 in
      let rest = map (body_bytes v) (left_at (drop (number + 1 - 2) kinds) (done_after size kind done)) in
      let here : 1 + k ≡ number = omega (arith, from) in
      let next_is : 1 + (k + 1) ≡ number + 1 = omega (arith, from) in
      let later : k + 1 ≡ number + 1 - 1 = omega (arith, from) in
      let left = left_is number done from below in
      let was : before ++ writes_from (1 + k) (drop k old) (page ∷ rest) ≡ writes_from 1 old (next_pages v next vectors kept) =
      ap (λ (n : ℕ). before ++ writes_from n (drop k old) (page ∷ rest)) here
      ∙ ap (λ (p : List ℕ). before ++ writes_from number (drop k old) (p ∷ rest)) page_is
      ∙ ap (λ (l : List Body). before ++ writes_from number (drop k old) (map (body_bytes v) l)) (sym left)
      ∙ planned.whole in
      let parts = subst (AllByRecursion (IsBody v)) left planned.lawful in
      record {
        whole = ap (λ (l : List (ℕ × List ℕ)). l ++ writes_from (number + 1) (drop (number + 1 - 1) old) rest) after_is
            ∙ ap (λ (n : ℕ). (before ++ one_write 1 old k page) ++ writes_from n (drop (number + 1 - 1) old) rest) (sym next_is)
            ∙ ap (λ (m : ℕ). (before ++ one_write 1 old k page) ++ writes_from (1 + (k + 1)) (drop m old) rest) (sym later)
            ∙ append_assoc before (one_write 1 old k page) (writes_from (1 + (k + 1)) (drop (k + 1) old) rest)
            ∙ ap (λ (l : List (ℕ × List ℕ)). before ++ l) (sym (writes_more 1 old k page rest))
            ∙ was;
        lawful = parts.1;
        few = fewer (kind == 1) (kind == 2) number done planned.few;
      }

  pub planned_all : (number : ℕ) (done : Done) (before : List (ℕ × List ℕ)) → 2 + length kinds ≤ number
      → Planned v old next vectors kept number done before → before ≡ writes_from 1 old (next_pages v next vectors kept)
  planned_all number done before past planned =
      let none : drop (number - 2) kinds ≡ [] = drop_all (number - 2) kinds (omega (arith, past)) in
      sym (ap (λ (ks : List ℕ). before ++ writes_from number (drop (number - 1) old) (map (body_bytes v) (left_at ks done))) none
      ∙ ap (λ (l : List (ℕ × List ℕ)). before ++ l) (writes_none number (drop (number - 1) old)) ∙ append-nil before) ∙ planned.whole
