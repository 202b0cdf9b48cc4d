-- What a crash leaves while redo items are taken in.
use Rattle.std.proofs.Common.{◌≡◌, inr, ℕ, zero, suc, ◌+◌, ◌-◌, ◌*◌, ◌/◌, ◌<◌, ◌≤◌, List, [], ◌∷◌, ◌++◌, Result, IsTrue, refl, sym, ◌∙◌, ap, subst, arith}
use Rattle.std.specs.Prelude.{Ok, Err, IsErr}
use Rattle.site_disk.specs.State.{SiteState, IsNow}
use Rattle.site_disk.specs.Calls.{Stays}
use Rattle.site_disk.proofs.Moments.{after_stay, goes_on}
use Rattle.page_gate.specs.Gate.{part, number_8, items, rises}
use Rattle.page_gate.specs.Writes.{Names}
use Rattle.page_gate.specs.Same.{Same, IsOutside, IsMoved, Puts}
use Rattle.page_gate.specs.Steps.{IsThere, IsUnnamed, InPlace}
use Rattle.page_gate.specs.Looks.{IsReady, TakesItem}
use Rattle.page_gate.proofs.Parts.{same_part, number_8_of}
use Rattle.page_gate.proofs.Lists.{InMidst, in_midst, names_mid, in_place_same, in_place-append, items_more}
use Rattle.page_gate.proofs.Moving.{moved_start, puts_on, on_ok_map}
use Rattle.page_gate.proofs.Written.{named_above}

-- looks before writes
pub puts_look : {E : Type 0} (kept : ℕ → Type 0) (top : ℕ) (Done : List ℕ → Type 0) {r : Result Unit E} {a b c : SiteState} → IsNow a → Stays a b → Puts kept top Done r b c → Puts kept top Done r a c
puts_look {E} kept top Done {r} {a} {b} {c} now stays puts = record {
  safe = goes_on (after_stay (moved_start kept top now) stays) puts.safe.joins (λ s i since. at s i (puts.safe.each s i since)) (λ i left. at c.said i (puts.safe.now i left));
  said = puts.said ∙ stays.said;
  same = on_ok_map r (λ is. subst (λ (l : List ℕ). Same kept top l c.content) stays.content is) puts.same;
  done = puts.done;
}
  where
    at : (s i : List ℕ) → IsMoved kept top b s i → IsMoved kept top a s i
    at s i moved = (moved.0 ∙ stays.said, (moved.1.0, (stays.images moved.1.0).0 moved.1.1, moved.1.2))

pub puts_looked : {E : Type 0} (kept : ℕ → Type 0) (top : ℕ) (Done : List ℕ → Type 0) (r : Result Unit E) {a b : SiteState} → IsErr r → IsNow a → Stays a b → Puts kept top Done r a b
puts_looked kept top Done (Ok x) fails now stays = absurd (cc fails)
puts_looked kept top Done (Err e) {a} {b} fails now stays = record { safe = after_stay (moved_start kept top now) stays; said = stays.said; same = tt; done = tt }

-- an item among the others
pub items_split : (start k n : ℕ) (c : List ℕ) → k < n → items start n c ≡ items start k c ++ (number_8 (start + 16392 * k) c, part (start + 16392 * k + 8) 16384 c) ∷ items (start + 16392 * k + 16392) (n - suc k) c
unfolding items
items_split start zero zero c lt = absurd (omega (arith, lt))
items_split start zero (suc n) c lt =
    let here : start + 16392 * 0 ≡ start = omega arith in
    let left : suc n - 1 ≡ n = omega arith in
    rw (here, left) refl
items_split start (suc k) zero c lt = absurd (omega (arith, lt))
items_split start (suc k) (suc n) c lt =
    let there : start + 16392 + 16392 * k ≡ start + 16392 * suc k = omega arith in
    let left : n - suc k ≡ suc n - suc (suc k) = omega arith in
    let rest = items_split (start + 16392) k n c (omega (arith, lt)) in
    ap (λ (l : List (ℕ × List ℕ)). (number_8 start c, part (start + 8) 16384 c) ∷ l) rest
    ∙ ap (λ (at : ℕ). (number_8 start c, part (start + 8) 16384 c) ∷ items (start + 16392) k c ++ (number_8 at c, part (at + 8) 16384 c) ∷ items (at + 16392) (n - suc k) c) there
    ∙ ap (λ (m : ℕ). (number_8 start c, part (start + 8) 16384 c) ∷ items (start + 16392) k c ++ (number_8 (start + 16392 * suc k) c, part (start + 16392 * suc k + 8) 16384 c) ∷ items (start + 16392 * suc k + 16392) m c) left

module _ (start count : ℕ) (c0 : List ℕ) (ready : IsReady start count c0) where
  abbrev its : List (ℕ × List ℕ)
  its = items start count c0

  -- the items themselves are kept
  pub behind : (i : ℕ) → start ≤ i → IsUnnamed its i
  behind i ge page names =
      let so = named_above page 0 (start / 16384) its ready.rising names in
      inr (omega (arith, ge, so.1))

  module _ (k : ℕ) (lt : k < count) where
    abbrev at : ℕ
    at = start + 16392 * k

    abbrev item : ℕ × List ℕ
    item = (number_8 (start + 16392 * k) c0, part (start + 16392 * k + 8) 16384 c0)

    pub midst : InMidst 0 (start / 16384) (items start k c0) (number_8 (start + 16392 * k) c0)
    midst = in_midst 0 (start / 16384) (items start k c0) item (items (at + 16392) (count - suc k) c0) (subst (λ (l : List (ℕ × List ℕ)). IsTrue (rises 0 (start / 16384) l)) (items_split start k count c0 lt) ready.rising)

    pub named : Names (number_8 (start + 16392 * k) c0) its
    named = subst (Names (number_8 (start + 16392 * k) c0)) (sym (items_split start k count c0 lt)) (names_mid (number_8 (start + 16392 * k) c0) (items start k c0) item (items (at + 16392) (count - suc k) c0) refl)

    pub number_kept : (top : ℕ) {c : List ℕ} → Same (IsUnnamed its) top c0 c → number_8 (start + 16392 * k) c ≡ number_8 (start + 16392 * k) c0
    number_kept top {c} same = number_8_of at c c0 (same_part (IsUnnamed its) top at 8 same (omega (arith, ready.room, lt)) (λ i ge below. behind i (omega (arith, ge))))

    pub image_kept : (top : ℕ) {c : List ℕ} → Same (IsUnnamed its) top c0 c → part (start + 16392 * k + 8) 16384 c ≡ part (start + 16392 * k + 8) 16384 c0
    image_kept top {c} same = same_part (IsUnnamed its) top (at + 8) 16384 same (omega (arith, ready.room, lt)) (λ i ge below. behind i (omega (arith, ge)))

    place_end : 16384 * number_8 (start + 16392 * k) c0 + 16384 ≤ start
    place_end = omega (arith, midst.within)

    pub one_more : {E : Type 0} {r : Result Unit E} {a b c : SiteState} → a.content ≡ c0 → Puts {E = E} (IsUnnamed its) start (InPlace (items start k c0)) (Ok tt) a b
        → Puts (IsOutside (16384 * number_8 (start + 16392 * k) b.content) 16384) (16384 * number_8 (start + 16392 * k) b.content + 16384) (IsThere (16384 * number_8 (start + 16392 * k) b.content) (part (start + 16392 * k + 8) 16384 b.content)) r b c
        → Puts (IsUnnamed its) start (InPlace (items start (k + 1) c0)) r a c
    one_more {E} {r} {a} {b} {c} is so_far step =
        let same : Same (IsUnnamed its) start c0 b.content = subst (λ (l : List ℕ). Same (IsUnnamed its) start l b.content) is so_far.same in
        let p : ℕ = number_8 (start + 16392 * k) c0 in
        let step_p : Puts (IsOutside (16384 * p) 16384) (16384 * p + 16384) (IsThere (16384 * p) (part (start + 16392 * k + 8) 16384 b.content)) r b c =
        subst (λ (q : ℕ). Puts (IsOutside (16384 * q) 16384) (16384 * q + 16384) (IsThere (16384 * q) (part (start + 16392 * k + 8) 16384 b.content)) r b c) (number_kept start same) step in
        let step_c : Puts (IsOutside (16384 * p) 16384) (16384 * p + 16384) (IsThere (16384 * p) (part (start + 16392 * k + 8) 16384 c0)) r b c =
        subst (λ (l : List ℕ). Puts (IsOutside (16384 * p) 16384) (16384 * p + 16384) (IsThere (16384 * p) l) r b c) (image_kept start same) step_p in
        puts_on (IsUnnamed its) start (InPlace (items start k c0)) (InPlace (items start (k + 1) c0)) (IsUnnamed its) (IsOutside (16384 * p) 16384) start (16384 * p + 16384) (IsThere (16384 * p) (part (start + 16392 * k + 8) 16384 c0))
        so_far step_c (λ i free. free) (omega arith) (λ i free. free p named) place_end
        (λ placed moved there. placed_more placed moved there)
      where
        placed_more : {d e : List ℕ} → InPlace (items start k c0) d → Same (IsOutside (16384 * number_8 (start + 16392 * k) c0) 16384) (16384 * number_8 (start + 16392 * k) c0 + 16384) d e
            → IsThere (16384 * number_8 (start + 16392 * k) c0) (part (start + 16392 * k + 8) 16384 c0) e → InPlace (items start (k + 1) c0) e
        placed_more {d} {e} placed moved there =
            let one : suc k ≡ k + 1 = omega arith in
            let all : InPlace (items start k c0 ++ item ∷ []) e = in_place-append (items start k c0) item e (in_place_same (number_8 (start + 16392 * k) c0) (items start k c0) midst.below moved placed) there in
            subst (λ (l : List (ℕ × List ℕ)). InPlace l e) (sym (items_more start k c0) ∙ ap (λ (m : ℕ). items start m c0) one) all

    pub one_more_at : {E : Type 0} (here : ℕ) → here ≡ start + 16392 * k → {r : Result Unit E} {a b c : SiteState} → a.content ≡ c0 → Puts {E = E} (IsUnnamed its) start (InPlace (items start k c0)) (Ok tt) a b
        → TakesItem here (start / 16384) r b c → Puts (IsUnnamed its) start (InPlace (items start (k + 1) c0)) r a c
    one_more_at {E} here is {r} {a} {b} {c} content so_far takes =
        let same : Same (IsUnnamed its) start c0 b.content = subst (λ (l : List ℕ). Same (IsUnnamed its) start l b.content) content so_far.same in
        let taken_at : TakesItem (start + 16392 * k) (start / 16384) r b c = subst (λ (h : ℕ). TakesItem h (start / 16384) r b c) is takes in
        one_more content so_far (taken_at (omega (arith, number_kept start same, midst.within)))

pub taken : {E : Type 0} (at limit number : ℕ) (image : List ℕ) {r : Result Unit E} {a b c : SiteState} → IsNow a → Stays a b → number ≡ number_8 at a.content → image ≡ part (at + 8) 16384 a.content
    → Puts (IsOutside (16384 * number) 16384) (16384 * number + 16384) (IsThere (16384 * number) image) r b c → TakesItem at limit r a c
taken {E} at limit number image {r} {a} {b} {c} now stays number_is image_is puts below =
    let p : ℕ = number_8 at a.content in
    let with_number : Puts (IsOutside (16384 * p) 16384) (16384 * p + 16384) (IsThere (16384 * p) image) r b c = subst (λ (q : ℕ). Puts (IsOutside (16384 * q) 16384) (16384 * q + 16384) (IsThere (16384 * q) image) r b c) number_is puts in
    let whole : Puts (IsOutside (16384 * p) 16384) (16384 * p + 16384) (IsThere (16384 * p) (part (at + 8) 16384 a.content)) r b c = subst (λ (l : List ℕ). Puts (IsOutside (16384 * p) 16384) (16384 * p + 16384) (IsThere (16384 * p) l) r b c) image_is with_number in
    puts_look (IsOutside (16384 * p) 16384) (16384 * p + 16384) (IsThere (16384 * p) (part (at + 8) 16384 a.content)) now stays whole
