-- How a call of a reader goes on: what it skipped of a long line, and what its answer says.
use Rattle.std.proofs.Common.{◌≡◌, ℕ, ◌⊎◌, ◌+◌, ◌<◌, ◌≤◌, ◌||◌, Bool, true, false, List, [], ◌∷◌, ◌++◌, length, take, drop, Ok, Err, refl, sym, ap, subst, ◌∙◌, inl, inr, arith, length-append, append-nil, min}
use Rattle.std.specs.Prelude.{nat_lt}
use Rattle.std.specs.List.{list_any}
use Rattle.std.proofs.lemmas.List.{append_assoc, take_all, drop_all}
use Rattle.std.proofs.Math.Seq.{take-append-add}
use Rattle.std.proofs.lemmas.Bool.{cases_Bool}
use Rattle.std.proofs.lemmas.Bool.Decides.{nat_tests}
use Rattle.std.proofs.lemmas.List.Folds.{list_any-append}
use Rattle.session_desk.specs.Input.{is_line_feed}
use Rattle.session_desk.specs.Lines.{Reading, IsHeld, HasSource, IsOneLine, IsGiven, IsCutShort, IsTooMuch, IsUnfinished, raw_line, Nexts, SpendsBy}
use Rattle.session_desk.specs.Filling.{has_line, given, CutsOff, GivesBy, Fills, Loses, FillsBy}
use Rattle.session_desk.proofs.LineParts.{line_len, one_line_front}
use Rattle.session_desk.specs.declared.reading.ReadFault.{ReadFault}
use Rattle.session_desk.specs.declared.reading.ReadFault.TheVariants.{Source, TooMuch, Memory}
use Rattle.session_desk.specs.declared.lines.SessionLine.{SessionLine}
use Rattle.session_desk.specs.declared.lines.SessionLine.TheVariants.{Whole, Long, End}

-- what was skipped of a long line since the call began, if anything
pub record Skips (long : Bool) (old : Reading) (before : List ℕ) (now : Reading) (left : List ℕ) : Type 0 where
  pub skipped : List ℕ
  pub front : old.pending ++ before ≡ skipped ++ (now.pending ++ left)
  pub one_line : IsOneLine skipped
  pub counted : old.room ≡ length skipped + now.room
  pub none : long ≡ false → skipped ≡ []
  pub over : long ≡ true → 4096 < length skipped

one_line_joined : (xs ys : List ℕ) → IsOneLine xs → IsOneLine ys → IsOneLine (xs ++ ys)
one_line_joined xs ys hx hy = list_any-append is_line_feed xs ys ∙ rw (hx, hy) refl

left_off : (p q : Bool) → (p || q) ≡ false → p ≡ false
left_off true q h = h
left_off false q h = refl

right_off : (p q : Bool) → (p || q) ≡ false → q ≡ false
right_off true q h = absurd (cc)
right_off false q h = h

-- nothing is skipped yet
pub none_skipped : (old : Reading) (before : List ℕ) → Skips false old before old before
none_skipped old before = record { skipped = []; front = refl; one_line = refl; counted = omega arith; none = λ e. refl; over = λ e. absurd (cc) }

module _ (long : Bool) (old : Reading) (before : List ℕ) (now : Reading) (left : List ℕ) (s : Skips long old before now left) where
  -- all that is pending is a part of a long line
  pub all_skipped : IsOneLine now.pending → length now.pending ≤ now.room → 4096 < length now.pending → Skips true old before (given (length now.pending) now) left
  all_skipped one few much = record {
    skipped = s.skipped ++ now.pending;
    front = s.front ∙ sym (append_assoc s.skipped now.pending left) ∙ ap (λ (bs : List ℕ). (s.skipped ++ now.pending) ++ (bs ++ left)) (sym (drop_all (length now.pending) now.pending (omega arith)));
    one_line = one_line_joined s.skipped now.pending s.one_line one;
    counted = omega (arith, s.counted, length-append s.skipped now.pending, few);
    none = λ e. absurd (cc);
    over = λ e. omega (arith, length-append s.skipped now.pending, much);
  }

  -- more was taken
  pub skips_on : (new : Reading) (after : List ℕ) → Fills now left new after → new.room ≡ now.room → Skips long old before new after
  skips_on new after fills room = record {
    skipped = s.skipped;
    front = s.front ∙ ap (λ (bs : List ℕ). s.skipped ++ bs) fills.bytes;
    one_line = s.one_line;
    counted = omega (arith, s.counted, room);
    none = s.none;
    over = s.over;
  }

  joined : s.skipped ++ (now.pending ++ left) ≡ (s.skipped ++ now.pending) ++ left
  joined = sym (append_assoc s.skipped now.pending left)

  -- the source failed
  pub cut_short : (after : List ℕ) → after ≡ left → IsOneLine now.pending → length now.pending ≤ now.room → IsCutShort old before after
  cut_short after is one few = record {
    part = s.skipped ++ now.pending;
    front = s.front ∙ joined ∙ ap (λ (bs : List ℕ). (s.skipped ++ now.pending) ++ bs) (sym is);
    one_line = one_line_joined s.skipped now.pending s.one_line one;
    few = omega (arith, s.counted, length-append s.skipped now.pending, few);
  }

  -- a byte more than may count was taken
  pub too_much : length now.pending ≡ now.room + 1 → IsOneLine (take now.room now.pending) → IsTooMuch old before left
  too_much size one = record {
    part = s.skipped ++ now.pending;
    front = s.front ∙ joined;
    long = omega (arith, s.counted, length-append s.skipped now.pending, size);
    one_line = subst IsOneLine (sym (ap (λ (n : ℕ). take n (s.skipped ++ now.pending)) s.counted ∙ take-append-add s.skipped now.pending now.room)) (one_line_joined s.skipped (take now.room now.pending) s.one_line one);
  }

  -- memory was wanting, with bytes taken or not
  pub unfinished : (after : List ℕ) → Loses now left after → IsUnfinished old before after
  unfinished after loses = record {
    part = (s.skipped ++ now.pending) ++ loses.bytes;
    front = s.front ∙ joined ∙ ap (λ (bs : List ℕ). (s.skipped ++ now.pending) ++ bs) loses.front ∙ sym (append_assoc (s.skipped ++ now.pending) loses.bytes after);
    few = omega (arith, s.counted, length-append (s.skipped ++ now.pending) loses.bytes, length-append s.skipped now.pending, loses.few);
  }

  pub unfinished_here : IsHeld now → IsUnfinished old before left
  unfinished_here held = record {
    part = s.skipped ++ now.pending;
    front = s.front ∙ joined;
    few = omega (arith, s.counted, length-append s.skipped now.pending, held.within);
  }

  module _ (source : HasSource now left) (new : Reading) where
    line_given : (raw : List ℕ) → CutsOff raw now new → (now.pending ≡ raw → 0 < length (s.skipped ++ raw)) → IsGiven (s.skipped ++ raw) old before new left
    line_given raw cut some =
        let rest : length (old.pending ++ before) ≡ length s.skipped + (length now.pending + length left) = omega (arith, ap length s.front, length-append s.skipped (now.pending ++ left), length-append now.pending left) in
        let behind : length (new.pending ++ left) ≡ length new.pending + length left = length-append new.pending left in
        record {
          cut = record {
            one_line = one_line_joined s.skipped raw s.one_line cut.one_line;
            cut = elim cut.cut [
              | inl feed ↦
                  inl (s.front ∙ ap (λ (bs : List ℕ). s.skipped ++ (bs ++ left)) feed ∙ ap (λ (bs : List ℕ). s.skipped ++ bs) (append_assoc raw (10 ∷ new.pending) left) ∙ sym (append_assoc s.skipped raw (10 ∷ (new.pending ++ left))))
              | inr end ↦
                  let none : left ≡ [] = source end.2 in
                  inr (s.front ∙ ap (λ (bs : List ℕ). s.skipped ++ (now.pending ++ bs)) none ∙ ap (λ (bs : List ℕ). s.skipped ++ bs) (append-nil now.pending ∙ end.0), ap (λ (bs : List ℕ). bs ++ left) end.1 ∙ none, some end.0)
            ];
            within = omega (arith, rest, behind, s.counted, cut.within);
          };
          counted = omega (arith, rest, behind, s.counted, cut.counted);
          last = λ all. elim cut.cut [
            | inl feed ↦ absurd (omega (arith, rest, ap length all, length-append s.skipped raw, ap length feed, length-append raw (10 ∷ new.pending)))
            | inr end ↦ cut.ended ∙ end.2
          ];
        }

    -- what the answer of a line says
    pub answered : (line : SessionLine) → GivesBy line long now new → Nexts (Ok line) old before new left
    answered (Whole l cr) g =
        let none : s.skipped ≡ [] = s.none g.begun in
        let some : now.pending ≡ raw_line l cr → 0 < length (s.skipped ++ raw_line l cr) = λ all. omega (arith, g.some, ap length all, length-append s.skipped (raw_line l cr)) in
        record {
          given = subst (λ (bs : List ℕ). IsGiven (bs ++ raw_line l cr) old before new left) none (line_given (raw_line l cr) g.cut some);
          short = g.short;
          marked = g.marked;
        }
    answered Long g =
        let much : 4096 < length (s.skipped ++ g.raw) = elim g.over [
          | inl begun ↦ omega (arith, s.over begun, length-append s.skipped g.raw)
          | inr over ↦ omega (arith, over, length-append s.skipped g.raw)
        ] in
        record { raw = s.skipped ++ g.raw; given = line_given g.raw g.cut (λ all. omega (arith, much)); long = much }
    answered End g =
        let none : s.skipped ≡ [] = s.none g.begun in
        let nothing : now.pending ++ left ≡ [] = ap (λ (bs : List ℕ). bs ++ left) g.none ∙ source g.ended in
        record {
          none = s.front ∙ ap (λ (bs : List ℕ). bs ++ (now.pending ++ left)) none ∙ nothing;
          none_after = ap (λ (r : Reading). r.pending ++ left) g.same ∙ nothing;
          room = omega (arith, ap (λ (r : Reading). r.room) g.same, s.counted, ap length none);
          ended = ap (λ (r : Reading). r.ended) g.same ∙ g.ended;
        }

-- a reader that has no line yet
module _ (r : Reading) (held : IsHeld r) (none : has_line r ≡ false) where
  pub going : r.ended ≡ false
  going = left_off r.ended _ none

  pub ended_apart : r.ended ≡ true → ⊥
  ended_apart e = let bad : false ≡ true = sym going ∙ e in absurd (cc)

  no_feed : min (length r.pending) r.room ≤ line_len r.pending
  no_feed = let off : nat_lt (line_len r.pending) (min (length r.pending) r.room) ≡ false = right_off r.ended _ none in grind (arith, nat_tests, off)

  pub over_size : nat_lt r.room (length r.pending) ≡ true → length r.pending ≡ r.room + 1
  over_size over = let above : r.room < length r.pending = grind (arith, nat_tests, over) in omega (arith, above, held.within)

  pub over_front : nat_lt r.room (length r.pending) ≡ true → IsOneLine (take r.room r.pending)
  over_front over = one_line_front r.room r.pending (omega (arith, over_size over, no_feed))

  pub within_room : nat_lt r.room (length r.pending) ≡ false → length r.pending ≤ r.room
  within_room off = grind (arith, nat_tests, off)

  pub all_one : nat_lt r.room (length r.pending) ≡ false → IsOneLine r.pending
  all_one off = subst IsOneLine (take_all (length r.pending) r.pending (omega arith)) (one_line_front (length r.pending) r.pending (omega (arith, within_room off, no_feed)))

pub over_limit : (r : Reading) → true ≡ nat_lt 4096 (length r.pending) → 4096 < length r.pending
over_limit r much = grind (arith, nat_tests, much)

-- before more is taken: what is pending is a part of a line, and may be followed
pub record Goes (long : Bool) (old : Reading) (before : List ℕ) (now : Reading) (left : List ℕ) : Type 0 where
  pub skips : Skips long old before now left
  pub one_line : IsOneLine now.pending
  pub few : length now.pending ≤ now.room
  pub going : now.ended ≡ false

module _ (long : Bool) (old : Reading) (before : List ℕ) (now : Reading) (left : List ℕ) (s : Skips long old before now left)
    (held : IsHeld now) (none : has_line now ≡ false) (some : nat_lt now.room (length now.pending) ≡ false) (new : Reading) where
  pub goes_skipped : true ≡ nat_lt 4096 (length now.pending) → new ≡ given (length now.pending) now → Goes true old before new left
  goes_skipped much is =
      let over : 4096 < length now.pending = grind (arith, nat_tests, much) in
      let gone : drop (length now.pending) now.pending ≡ [] = drop_all (length now.pending) now.pending (omega arith) in
      subst (λ (r : Reading). Goes true old before r left) (sym is) (record {
        skips = all_skipped long old before now left s (all_one now held none some) (within_room now held none some) over;
        one_line = ap (list_any is_line_feed) gone;
        few = omega (arith, ap length gone);
        going = going now held none;
      })

  pub goes_on : new ≡ now → Goes long old before new left
  goes_on is = subst (λ (r : Reading). Goes long old before r left) (sym is) (record { skips = s; one_line = all_one now held none some; few = within_room now held none some; going = going now held none })

-- a fault of the filling
pub failed_fill : (long : Bool) (old : Reading) (before : List ℕ) (now : Reading) (left : List ℕ) → Goes long old before now left → (new : Reading) (after : List ℕ) (fault : ReadFault) → FillsBy {V = Unit {0}} (Err fault) now left new after → Nexts (Err fault) old before new after
failed_fill long old before now left s new after Source told = cut_short long old before now left s.skips after told s.one_line s.few
failed_fill long old before now left s new after TooMuch told = absurd told
failed_fill long old before now left s new after Memory told = unfinished long old before now left s.skips after told

-- how much may count behind a line
module _ (long : Bool) (old now new : Reading) (same : long ≡ false → now.room ≡ old.room) (begun : long ≡ true → now.room < old.room) where
  pub within : now.room ≤ old.room
  within = elim (cases_Bool long) [ inl skipped ↦ omega (arith, begun skipped) | inr off ↦ omega (arith, same off) ]

  -- the bytes that a line takes from what may count
  taken : (raw : List ℕ) → CutsOff raw now new → (new.room + length raw + 1 ≡ now.room) ⊎ ((new.room + length raw ≡ now.room) × (new.pending ≡ []) × (now.pending ≡ raw) × (new.ended ≡ true))
  taken raw cut = elim cut.cut [
    | inl feed ↦ inl (omega (arith, cut.counted, ap length feed, length-append raw (10 ∷ new.pending)))
    | inr end ↦ inr (omega (arith, cut.counted, ap length end.0, ap length end.1), end.1, end.0, cut.ended ∙ end.2)
  ]

  pub spent : (line : SessionLine) → GivesBy line long now new → SpendsBy (Ok line) old new
  spent (Whole l cr) g = elim (taken (raw_line l cr) g.cut) [
    | inl feed ↦ inl (omega (arith, feed, same g.begun))
    | inr end ↦ inr (omega (arith, end.0, same g.begun), omega (arith, g.some, ap length end.2), end.1, end.3)
  ]
  spent Long g = elim g.over [
    | inl skipped ↦ elim (taken g.raw g.cut) [ inl feed ↦ omega (arith, feed, begun skipped) | inr end ↦ omega (arith, end.0, begun skipped) ]
    | inr much ↦ elim (taken g.raw g.cut) [ inl feed ↦ omega (arith, feed, within) | inr end ↦ omega (arith, end.0, much, within) ]
  ]
  spent End g = omega (arith, ap (λ (r : Reading). r.room) g.same, same g.begun)
