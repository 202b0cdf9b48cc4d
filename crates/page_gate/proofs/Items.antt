-- What writes of numbers, images and redo items leave.
use Rattle.std.proofs.Common.{◌≡◌, inl, inr, ⊎_elim, ℕ, ◌+◌, ◌*◌, ◌<◌, ◌≤◌, ◌^◌, List, length, Result, sym, ◌∙◌, ap, subst, arith}
use Rattle.std.specs.Int.{w32, w64, to_le_bytes}
use Rattle.std.specs.Prelude.{Ok, IsErr}
use Rattle.site_disk.specs.Disk.{put}
use Rattle.site_disk.specs.State.{SiteState, IsNow}
use Rattle.site_disk.specs.Calls.{Writes}
use Rattle.page_gate.specs.Gate.{number_8, items}
use Rattle.page_gate.specs.Same.{Same, IsOutside, Puts}
use Rattle.page_gate.specs.Steps.{IsWord, IsNumber, IsThere, IsItem, HasItems, IsBefore, HasFields, IsSettled, Staged}
use Rattle.page_gate.proofs.Parts.{put_part, put_long, put_number_4, put_number_8, same_part, number_4_of, number_8_of}
use Rattle.page_gate.proofs.Moving.{write_puts, puts_weaker, puts_on, puts_broke}

outside_first : (at i : ℕ) → IsOutside at 16392 i → IsOutside at 8 i
outside_first at i out = ⊎_elim (λ below. inl below) (λ above. inr (omega (arith, above))) out

outside_second : (at i : ℕ) → IsOutside at 16392 i → IsOutside (at + 8) 16384 i
outside_second at i out = ⊎_elim (λ below. inl (omega (arith, below))) (λ above. inr (omega (arith, above))) out

field_out : (start i : ℕ) → 20 ≤ start → IsSettled start i → IsOutside 8 12 i
field_out start i le (inl low) = inl low
field_out start i le (inr high) = inr high.0

item_out : (start i : ℕ) → 20 ≤ start → IsSettled start i → IsBefore start i
item_out start i le (inl low) = omega (arith, low, le)
item_out start i le (inr high) = high.1

module _ (start count : ℕ) (redo : List (ℕ × List ℕ)) (le : 20 ≤ start) (some : 0 < count) (same_count : length redo ≡ count) where
  staged_of : {c d : List ℕ} → HasFields start count c → Same (IsBefore start) (start + 16392 * count) c d → HasItems start count redo d → Staged start redo d
  staged_of {c} {d} fields same has = record {
    start_is = number_8_of 8 d c (same_part (IsBefore start) (start + 16392 * count) 8 8 same (omega (arith, fields.room)) (λ i ge lt. omega (arith, lt, le))) ∙ fields.start_is;
    count_is = number_4_of 16 d c (same_part (IsBefore start) (start + 16392 * count) 16 4 same (omega (arith, fields.room)) (λ i ge lt. omega (arith, lt, le))) ∙ fields.count_is ∙ sym same_count;
    list = ap (λ (k : ℕ). items start k d) same_count ∙ has.list;
    room = omega (arith, has.room some, same_count);
  }

number_stays : (at page : ℕ) {c d : List ℕ} → IsNumber at page c → Same (IsOutside (at + 8) 16384) (at + 8 + 16384) c d → number_8 at d ≡ page
number_stays at page {c} {d} is same =
    number_8_of at d c (same_part (IsOutside (at + 8) 16384) (at + 8 + 16384) at 8 same is.room (λ i ge lt. inl (omega (arith, lt)))) ∙ is.number_is

module _ {E : Type 0} where
  pub number_4_put : (at n : ℕ) (bytes : List ℕ) → bytes ≡ to_le_bytes w32 n → n < 2 ^ 32 → {r : Result Unit E} {a b : SiteState} → IsNow a → Writes at bytes r a b → Puts (IsOutside at 4) (at + 4) (IsWord at n) r a b
  number_4_put at n bytes are small {r} {a} {b} now write_bytes =
      let write : Writes at (to_le_bytes w32 n) r a b = subst (λ (l : List ℕ). Writes at l r a b) are write_bytes in
      puts_weaker (IsOutside at 4) (at + 4) (IsOutside at 4) (at + 4) (λ c. c ≡ put at (to_le_bytes w32 n) a.content) (IsWord at n) (write_puts at (to_le_bytes w32 n) now write)
      (λ i out. out) (omega arith) (λ is. subst (IsWord at n) (sym is) (record {
        number_is = put_number_4 at n a.content small;
        room = put_long at (to_le_bytes w32 n) a.content (omega arith);
      }))

  pub number_8_put : (at n : ℕ) (bytes : List ℕ) → bytes ≡ to_le_bytes w64 n → n < 2 ^ 64 → {r : Result Unit E} {a b : SiteState} → IsNow a → Writes at bytes r a b → Puts (IsOutside at 8) (at + 8) (IsNumber at n) r a b
  number_8_put at n bytes are small {r} {a} {b} now write_bytes =
      let write : Writes at (to_le_bytes w64 n) r a b = subst (λ (l : List ℕ). Writes at l r a b) are write_bytes in
      puts_weaker (IsOutside at 8) (at + 8) (IsOutside at 8) (at + 8) (λ c. c ≡ put at (to_le_bytes w64 n) a.content) (IsNumber at n) (write_puts at (to_le_bytes w64 n) now write)
      (λ i out. out) (omega arith) (λ is. subst (IsNumber at n) (sym is) (record {
        number_is = put_number_8 at n a.content small;
        room = put_long at (to_le_bytes w64 n) a.content (omega arith);
      }))

  pub image_put : (at : ℕ) (image : List ℕ) → length image ≡ 16384 → {r : Result Unit E} {a b : SiteState} → IsNow a → Writes at image r a b → Puts (IsOutside at 16384) (at + 16384) (IsThere at image) r a b
  image_put at image len {r} {a} {b} now write =
      puts_weaker (IsOutside at 16384) (at + 16384) (IsOutside at (length image)) (at + length image) (λ c. c ≡ put at image a.content) (IsThere at image) (write_puts at image now write)
      (λ i out. ⊎_elim (λ below. inl below) (λ above. inr (omega (arith, above, len))) out) (omega (arith, len))
      (λ is. subst (IsThere at image) (sym is) (record {
        image_is = put_part at 16384 image a.content len (omega arith);
        room = omega (arith, put_long at image a.content (omega (arith, len)), len);
      }))

  pub item_put : (at number page : ℕ) → number ≡ page → (image : List ℕ) {r : Result Unit E} {a b c : SiteState} → Puts {E = E} (IsOutside at 8) (at + 8) (IsNumber at number) (Ok tt) a b
      → Puts (IsOutside (at + 8) 16384) (at + 8 + 16384) (IsThere (at + 8) image) r b c → Puts (IsOutside at 16392) (at + 16392) (IsItem at page image) r a c
  item_put at number page same_number image first next =
      puts_on (IsOutside at 16392) (at + 16392) (IsNumber at number) (IsItem at page image) (IsOutside at 8) (IsOutside (at + 8) 16384) (at + 8) (at + 8 + 16384) (IsThere (at + 8) image) first next
      (outside_first at) (omega arith) (outside_second at) (omega arith)
      (λ is same there. record { number_is = number_stays at number is same ∙ same_number; image_is = there.image_is; room = omega (arith, there.room) })

  pub fields_put : (start count : ℕ) {r : Result Unit E} {a b c : SiteState} → Puts {E = E} (IsOutside 8 8) 16 (IsNumber 8 start) (Ok tt) a b → Puts (IsOutside 16 4) 20 (IsWord 16 count) r b c → Puts (IsOutside 8 12) 20 (HasFields start count) r a c
  fields_put start count first next =
      puts_on (IsOutside 8 12) 20 (IsNumber 8 start) (HasFields start count) (IsOutside 8 8) (IsOutside 16 4) 16 20 (IsWord 16 count) first next
      (λ i out. ⊎_elim (λ below. inl below) (λ above. inr (omega (arith, above))) out) (omega arith) (λ i out. ⊎_elim (λ below. inl (omega (arith, below))) (λ above. inr above) out) (omega arith)
      (λ is same word. record {
        start_is = number_8_of 8 _ _ (same_part (IsOutside 16 4) 20 8 8 same is.room (λ i ge lt. inl lt)) ∙ is.number_is;
        count_is = word.number_is;
        room = word.room;
      })

  module _ (start count : ℕ) (redo : List (ℕ × List ℕ)) (le : 20 ≤ start) (some : 0 < count) (same_count : length redo ≡ count) where
    pub staged_put : {r : Result Unit E} {a b c : SiteState} → Puts {E = E} (IsOutside 8 12) 20 (HasFields start count) (Ok tt) a b → Puts (IsBefore start) (start + 16392 * count) (HasItems start count redo) r b c
        → Puts (IsSettled start) (start + 16392 * count) (Staged start redo) r a c
    staged_put first next =
        puts_on (IsSettled start) (start + 16392 * count) (HasFields start count) (Staged start redo) (IsOutside 8 12) (IsBefore start) 20 (start + 16392 * count) (HasItems start count redo) first next
        (λ i settled. field_out start i le settled) (omega (arith, le)) (λ i settled. item_out start i le settled) (omega arith) (staged_of start count redo le some same_count)

    pub staged_broke : {r : Result Unit E} (result : Result Unit E) {a b c : SiteState} → IsErr result → Puts {E = E} (IsOutside 8 12) 20 (HasFields start count) (Ok tt) a b → Puts (IsBefore start) (start + 16392 * count) (HasItems start count redo) r b c
        → Puts (IsSettled start) (start + 16392 * count) (Staged start redo) result a c
    staged_broke result fails first next =
        puts_broke (IsSettled start) (start + 16392 * count) (HasFields start count) (Staged start redo) (IsOutside 8 12) (IsBefore start) 20 (start + 16392 * count) (HasItems start count redo) result fails first next
        (λ i settled. field_out start i le settled) (omega (arith, le)) (λ i settled. item_out start i le settled) (omega arith)
