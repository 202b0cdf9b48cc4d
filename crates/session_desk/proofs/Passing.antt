-- One line after the other.
use Rattle.std.proofs.Common.{◌≡◌, ℕ, ◌+◌, ◌<◌, ◌≤◌, ◌==◌, Bool, true, false, cond, not, ◌||◌, true≢false, List, [], ◌∷◌, ◌++◌, length, take, codes, lit≤, inl, inr, ⊎_elim, refl, sym, ap, subst, ◌∙◌, append_assoc, arith, length-append}
use Rattle.std.specs.Prelude.{Option, Some, None, Result, Ok, Err, IsErrOf}
use Rattle.std.specs.List.{list_any, slice_split}
use Rattle.std.specs.Str.{bytes_eq}
use Rattle.std.proofs.lemmas.List.{append-nil, take-append-le}
use Rattle.std.proofs.lemmas.Grind.{flat_map-append}
use Rattle.std.proofs.lemmas.List.Folds.{list_any-append}
use Rattle.std.proofs.lemmas.Bool.Decides.{nat_tests}
use Rattle.std.proofs.lemmas.Slice.Eq.{bytes_eq-Decides}
use Rattle.std.proofs.Math.Seq.{take-nil}
use Rattle.session_desk.specs.Input.{is_long}
use Rattle.session_desk.specs.Session.{Request, Batch, Ask, is_space, line_of, line_of_words, bare, says, lines_of, requests, body_of}
use Rattle.session_desk.specs.Lines.{Reading, IsHeld, IsOneLine, IsGiven, IsWhole, IsLongLine, IsUnfinished, IsEnd, Nexts, ends_in_return, raw_line}
use Rattle.session_desk.specs.Asking.{is_past, asks_behind, whole_behind, rest_of, AreWhole, IsNext, IsBroken, Asks}
use Rattle.session_desk.specs.Passing.{Passes, IsBrokenOff, Faults, PassesEnd, PassesAny, PassesWord, PassesKept, HasLines, word_of}
use Rattle.session_desk.specs.declared.reading.ReadFault.{ReadFault}
use Rattle.session_desk.specs.declared.requests.Body.{Body}
use Rattle.session_desk.specs.declared.requests.Word.{Word}
use Rattle.session_desk.specs.declared.requests.Word.TheVariants as word
use Rattle.session_desk.specs.declared.requests.Line.{Line}
use Rattle.session_desk.specs.declared.requests.Line.TheVariants.{Long}
use Rattle.session_desk.specs.declared.lines.SessionLine.{SessionLine}
use Rattle.session_desk.specs.declared.lines.SessionLine.TheVariants as line
use Rattle.session_desk.specs.declared.reading.ReadFault.TheVariants as fault
use Rattle.session_desk.proofs.Asking.{no_line, past_cut, asks_cut, whole_cut}

-- a line that was given, with what it asks for
pub pass_line : (body behind : Option (List (List ℕ))) (asked : List Request) (raw : List ℕ) (old : Reading) (left : List ℕ) (new : Reading) (left' : List ℕ)
    → ((ends : Bool) (more : List (List ℕ)) → requests ends body (raw ∷ more) ≡ asked ++ requests ends behind more)
    → IsGiven raw old left new left' → (old.ended ≡ true → new.ended ≡ true) → Passes body asked behind old left new left'
unfolding asks_behind whole_behind
pass_line body behind asked raw old left new left' step given ends =
    let rest = rest_of old left in
    let after = rest_of new left' in
    let asks : asks_behind body old.room rest ≡ asked ++ asks_behind behind new.room after =
    asks_cut body old.room new.room rest raw after given.cut given.counted ∙ step (not (is_past new.room after)) (lines_of (not (is_past new.room after)) (take new.room after)) in
    let past = past_cut old.room new.room rest after given.counted in
    ⊎_elim
    (λ feed. record {
      asks = asks;
      past = past;
      used = raw ++ 10 ∷ [];
      front = feed ∙ sym (append_assoc raw (10 ∷ []) after);
      counts = omega (arith, given.counted, ap length feed, length-append raw (10 ∷ after), length-append raw (10 ∷ []));
      whole = inl (λ more. whole_cut body raw more given.cut.one_line ∙ step false (lines_of false more));
      ends = ends;
    })
    (λ end. record {
      asks = asks;
      past = past;
      used = raw;
      front = end.0 ∙ sym (append-nil raw) ∙ ap (λ (l : List ℕ). raw ++ l) (sym end.1);
      counts = omega (arith, given.counted, ap length end.0, ap length end.1);
      whole = inr (given.last end.0);
      ends = ends;
    })
    given.cut.cut

-- lines behind lines
pub pass_more : {a b c : Option (List (List ℕ))} {q r : List Request} {o : Reading} {l : List ℕ} {m : Reading} {k : List ℕ} {n : Reading} {j : List ℕ}
    → Passes a q b o l m k → Passes b r c m k n j → Passes a (q ++ r) c o l n j
pass_more {c = c} {q = q} {r = r} {n = n} {j = j} first second = record {
  asks = first.asks ∙ ap (λ (t : List Request). q ++ t) second.asks ∙ sym (append_assoc q r (asks_behind c n.room (rest_of n j)));
  past = second.past ∙ first.past;
  used = first.used ++ second.used;
  front = first.front ∙ ap (λ (t : List ℕ). first.used ++ t) second.front ∙ sym (append_assoc first.used second.used (rest_of n j));
  counts = omega (arith, length-append first.used second.used, first.counts, second.counts);
  whole = ⊎_elim
      (λ one. ⊎_elim
      (λ two. inl (λ more. ap (whole_behind _) (append_assoc first.used second.used more) ∙ one (second.used ++ more) ∙ ap (λ (t : List Request). q ++ t) (two more) ∙ sym (append_assoc q r (whole_behind c more))))
      (λ ended. inr ended)
      second.whole)
      (λ ended. inr (second.ends ended))
      first.whole;
  ends = λ ended. second.ends (first.ends ended);
}

-- no line yet
pub pass_none : (body : Option (List (List ℕ))) (r : Reading) (left : List ℕ) → Passes body [] body r left r left
pass_none body r left = record {
  asks = refl;
  past = refl;
  used = [];
  front = refl;
  counts = omega arith;
  whole = inl (λ more. refl);
  ends = λ ended. ended;
}

-- Faults.

not_ended : (b : Bool) → (b ≡ true → ⊥) → b ≡ false
not_ended true never = absurd (never refl)
not_ended false never = refl

whole_none : (body : Option (List (List ℕ))) (part : List ℕ) → IsOneLine part → whole_behind body part ≡ []
unfolding whole_behind
whole_none None part one = ap (requests false None) (no_line part one)
whole_none (Some lines) part one = ap (requests false (Some lines)) (no_line part one)

asks_none : (body : Option (List (List ℕ))) (room : ℕ) (rest : List ℕ) → is_past room rest ≡ true → IsOneLine (take room rest) → asks_behind body room rest ≡ []
unfolding asks_behind
asks_none None room rest past one = ap (λ (b : Bool). requests (not b) None (lines_of (not b) (take room rest))) past ∙ ap (requests false None) (no_line (take room rest) one)
asks_none (Some lines) room rest past one =
    ap (λ (b : Bool). requests (not b) (Some lines) (lines_of (not b) (take room rest))) past ∙ ap (requests false (Some lines)) (no_line (take room rest) one)

-- what a fault of one read says
pub pass_fault : (body : Option (List (List ℕ))) (e : ReadFault) (old : Reading) (left : List ℕ) (new : Reading) (left' : List ℕ)
    → Nexts (Err e) old left new left' → (old.ended ≡ true → e ≡ fault.Source → ⊥) → Faults e body old left left'
pass_fault body fault.Source old left new left' short going = record {
  part = short.part;
  front = short.front;
  few = short.few;
  none = whole_none body short.part short.one_line;
  going = not_ended old.ended (λ ended. going ended refl);
}
pass_fault body fault.TooMuch old left new left' much going =
    let rest = rest_of old left in
    let long : length rest ≡ length much.part + length left' = ap length much.front ∙ length-append much.part left' in
    let past : is_past old.room rest ≡ true = grind (arith, nat_tests, long, much.long) in
    let same : take old.room rest ≡ take old.room much.part =
    ap (take old.room) much.front ∙ take-append-le old.room much.part left' (omega (arith, much.long)) in
    (asks_none body old.room rest past (subst IsOneLine (sym same) much.one_line), past)
pass_fault body fault.Memory old left new left' short going = tt

-- a fault behind lines
pub fault_more : {a b : Option (List (List ℕ))} {o : Reading} {l : List ℕ} {m : Reading} {k : List ℕ} (e : ReadFault) (j : List ℕ) → Passes a [] b o l m k → Faults e b m k j → Faults e a o l j
fault_more fault.Source j first broken = record {
  part = first.used ++ broken.part;
  front = first.front ∙ ap (λ (t : List ℕ). first.used ++ t) broken.front ∙ sym (append_assoc first.used broken.part j);
  few = omega (arith, length-append first.used broken.part, first.counts, broken.few);
  none = ⊎_elim
      (λ one. one broken.part ∙ broken.none)
      (λ ended. absurd (true≢false (sym ended ∙ broken.going)))
      first.whole;
  going = not_ended _ (λ ended. absurd (true≢false (sym (first.ends ended) ∙ broken.going)));
}
fault_more fault.TooMuch j first much = (first.asks ∙ much.0, sym first.past ∙ much.1)
fault_more fault.Memory j first none = tt

-- How far the source was read.

taken_given : (raw : List ℕ) (old : Reading) (left : List ℕ) (new : Reading) (left' : List ℕ) → IsGiven raw old left new left' → length new.pending ≤ new.room + 1 → IsUnfinished old left left'
taken_given raw old left new left' given few =
    let after = rest_of new left' in
    ⊎_elim
    (λ feed. record {
      part = (raw ++ 10 ∷ []) ++ new.pending;
      front = feed ∙ sym (append_assoc raw (10 ∷ []) after) ∙ sym (append_assoc (raw ++ 10 ∷ []) new.pending left');
      few = omega (arith, given.counted, ap length feed, length-append raw (10 ∷ after), length-append raw (10 ∷ []), length-append (raw ++ 10 ∷ []) new.pending);
    })
    (λ end. record {
      part = raw ++ new.pending;
      front = end.0 ∙ sym (append-nil raw) ∙ ap (λ (l : List ℕ). raw ++ l) (sym end.1) ∙ sym (append_assoc raw new.pending left');
      few = omega (arith, given.counted, ap length end.0, ap length end.1, length-append raw new.pending);
    })
    given.cut.cut

pub taken_next : (r : Result SessionLine ReadFault) (old : Reading) (left : List ℕ) (new : Reading) (left' : List ℕ) → Nexts r old left new left' → IsHeld new → IsUnfinished old left left'
taken_next (Ok (line.Whole l cr)) old left new left' next held = taken_given (raw_line l cr) old left new left' next.given held.within
taken_next (Ok line.Long) old left new left' next held = taken_given next.raw old left new left' next.given held.within
taken_next (Ok line.End) old left new left' next held = record { part = new.pending; front = next.none ∙ sym next.none_after; few = omega (arith, next.room, held.within) }
taken_next (Err fault.Source) old left new left' next held = record { part = next.part; front = next.front; few = omega (arith, next.few) }
taken_next (Err fault.TooMuch) old left new left' next held = record { part = next.part; front = next.front; few = omega (arith, next.long) }
taken_next (Err fault.Memory) old left new left' next held = next

pub taken_more : {a b : Option (List (List ℕ))} {q : List Request} {o : Reading} {l : List ℕ} {m : Reading} {k : List ℕ} (j : List ℕ) → Passes a q b o l m k → IsUnfinished m k j → IsUnfinished o l j
taken_more j first taken = record {
  part = first.used ++ taken.part;
  front = first.front ∙ ap (λ (t : List ℕ). first.used ++ t) taken.front ∙ sym (append_assoc first.used taken.part j);
  few = omega (arith, length-append first.used taken.part, first.counts, taken.few);
}

-- The words of lines.

other_byte : (b : ℕ) → (b == 13) ≡ false → bare (b ∷ []) ≡ b ∷ []
other_byte b e = ap (λ t. cond t [] (b ∷ [])) e

bare_same : (line : List ℕ) → ends_in_return line ≡ false → bare line ≡ line
bare_same [] e = refl
bare_same (b ∷ []) e = other_byte b e
bare_same (b ∷ c ∷ more) e = ap (λ (l : List ℕ). b ∷ l) (bare_same (c ∷ more) e)

bare_return : (line : List ℕ) → bare (line ++ 13 ∷ []) ≡ line
bare_return [] = refl
bare_return (b ∷ []) = refl
bare_return (b ∷ c ∷ more) = ap (λ (l : List ℕ). b ∷ l) (bare_return (c ∷ more))

-- a line that came with or without a carriage return, bare of it
pub bare_raw : (line : List ℕ) (cr : Bool) → ends_in_return (raw_line line cr) ≡ cr → bare (raw_line line cr) ≡ line
bare_raw line true e = bare_return line
bare_raw line false e = bare_same (line ++ []) e ∙ append-nil line

says_raw : (word line : List ℕ) (cr : Bool) → ends_in_return (raw_line line cr) ≡ cr → says word (raw_line line cr) ≡ bytes_eq line word
says_raw word line cr e = ap (λ (l : List ℕ). bytes_eq l word) (bare_raw line cr e)

length_bare : (raw : List ℕ) → length raw ≤ length (bare raw) + 1
length_bare [] = omega arith
length_bare (b ∷ []) = omega arith
length_bare (b ∷ c ∷ more) = omega (arith, length_bare (c ∷ more))

differ : (a b : List ℕ) (t : Bool) → bytes_eq a b ≡ t → length b < length a → t ≡ false
differ a b true e less = let same : length a ≡ length b = ap length ((bytes_eq-Decides a b).0 e) in absurd (omega arith)
differ a b false e less = refl

long_says : (word raw : List ℕ) → 4096 < length raw → length word ≤ 4095 → says word raw ≡ false
long_says word raw long short = differ (bare raw) word _ refl (omega (arith, length_bare raw))

-- What a line asks for.

step_empty : (raw : List ℕ) → says [] raw ≡ true → (ends : Bool) (more : List (List ℕ)) → requests ends None (raw ∷ more) ≡ [] ++ requests ends None more
step_empty raw is ends more =
    ap (λ t. cond t (requests ends None more) (cond (says (codes "batch") raw) (requests ends (Some []) more) (Ask (line_of raw) ∷ requests ends None more))) is

step_batch : (raw : List ℕ) → says [] raw ≡ false → says (codes "batch") raw ≡ true → (ends : Bool) (more : List (List ℕ)) → requests ends None (raw ∷ more) ≡ [] ++ requests ends (Some []) more
step_batch raw some is ends more =
    ap (λ t. cond t (requests ends None more) (cond (says (codes "batch") raw) (requests ends (Some []) more) (Ask (line_of raw) ∷ requests ends None more))) some
    ∙ ap (λ t. cond t (requests ends (Some []) more) (Ask (line_of raw) ∷ requests ends None more)) is

step_line : (raw : List ℕ) → says [] raw ≡ false → says (codes "batch") raw ≡ false → (ends : Bool) (more : List (List ℕ)) → requests ends None (raw ∷ more) ≡ (Ask (line_of raw) ∷ []) ++ requests ends None more
step_line raw some isnt ends more =
    ap (λ t. cond t (requests ends None more) (cond (says (codes "batch") raw) (requests ends (Some []) more) (Ask (line_of raw) ∷ requests ends None more))) some
    ∙ ap (λ t. cond t (requests ends (Some []) more) (Ask (line_of raw) ∷ requests ends None more)) isnt

step_end : (lines : List (List ℕ)) (raw : List ℕ) → says (codes "end") raw ≡ true → (ends : Bool) (more : List (List ℕ)) → requests ends (Some lines) (raw ∷ more) ≡ (Batch lines ∷ []) ++ requests ends None more
step_end lines raw is ends more = ap (λ t. cond t (Batch lines ∷ requests ends None more) (requests ends (Some (lines ++ raw ∷ [])) more)) is

step_kept : (lines : List (List ℕ)) (raw : List ℕ) → says (codes "end") raw ≡ false → (ends : Bool) (more : List (List ℕ)) → requests ends (Some lines) (raw ∷ more) ≡ [] ++ requests ends (Some (lines ++ raw ∷ [])) more
step_kept lines raw isnt ends more = ap (λ t. cond t (Batch lines ∷ requests ends None more) (requests ends (Some (lines ++ raw ∷ [])) more)) isnt

not_long : (raw : List ℕ) → length raw ≤ 4096 → is_long raw ≡ false
not_long raw short = grind (arith, nat_tests)

-- One read, outside of a body and inside.

word_by : (e b : Bool) (line : List ℕ) (cr : Bool) (old : Reading) (left : List ℕ) (new : Reading) (left' : List ℕ)
    → bytes_eq line [] ≡ e → bytes_eq line (codes "batch") ≡ b → IsWhole line cr old left new left' → (old.ended ≡ true → new.ended ≡ true)
    → PassesAny (cond e None (cond b (Some word.Batch) (Some (word.Line (line_of_words (slice_split is_space line)))))) old left new left'
word_by true b line cr old left new left' empty batch whole ends =
    let raw = raw_line line cr in
    let none : says [] raw ≡ true = says_raw [] line cr whole.marked ∙ empty in
    pass_line None None [] raw old left new left' (step_empty raw none) whole.given ends
word_by false true line cr old left new left' empty batch whole ends =
    let raw = raw_line line cr in
    let some : says [] raw ≡ false = says_raw [] line cr whole.marked ∙ empty in
    let is : says (codes "batch") raw ≡ true = says_raw (codes "batch") line cr whole.marked ∙ batch in
    pass_line None (Some []) [] raw old left new left' (step_batch raw some is) whole.given ends
word_by false false line cr old left new left' empty batch whole ends =
    let raw = raw_line line cr in
    let some : says [] raw ≡ false = says_raw [] line cr whole.marked ∙ empty in
    let isnt : says (codes "batch") raw ≡ false = says_raw (codes "batch") line cr whole.marked ∙ batch in
    let asked : line_of raw ≡ line_of_words (slice_split is_space line) =
    ap (λ (t : Bool). cond t Long (line_of_words (slice_split is_space (bare raw)))) (not_long raw whole.short)
    ∙ ap (λ (l : List ℕ). line_of_words (slice_split is_space l)) (bare_raw line cr whole.marked) in
    let P : Line → Type 0 = λ l. Passes None (Ask l ∷ []) None old left new left' in
    subst P asked (pass_line None None (Ask (line_of raw) ∷ []) raw old left new left' (step_line raw some isnt) whole.given ends)

pub pass_word : (line : List ℕ) (cr : Bool) (old : Reading) (left : List ℕ) (new : Reading) (left' : List ℕ) → IsWhole line cr old left new left' → (old.ended ≡ true → new.ended ≡ true) → PassesAny (word_of line) old left new left'
pass_word line cr old left new left' whole ends = word_by (bytes_eq line []) (bytes_eq line (codes "batch")) line cr old left new left' refl refl whole ends

pub pass_long : (old : Reading) (left : List ℕ) (new : Reading) (left' : List ℕ) → IsLongLine old left new left' → (old.ended ≡ true → new.ended ≡ true) → Passes None (Ask Long ∷ []) None old left new left'
pass_long old left new left' long ends =
    let raw = long.raw in
    let is : is_long raw ≡ true = grind (arith, nat_tests, long.long) in
    let asked : line_of raw ≡ Long = ap (λ (t : Bool). cond t Long (line_of_words (slice_split is_space (bare raw)))) is in
    let P : Line → Type 0 = λ l. Passes None (Ask l ∷ []) None old left new left' in
    subst P asked
    (pass_line None None (Ask (line_of raw) ∷ []) raw old left new left'
    (step_line raw (long_says [] raw long.long (lit≤ tt)) (long_says (codes "batch") raw long.long (lit≤ tt))) long.given ends)

asks_end : (room : ℕ) → is_past room [] ≡ false
asks_end room = grind (arith, nat_tests)

requests_end : (body : Option (List (List ℕ))) (room : ℕ) → asks_behind body room [] ≡ requests true body []
unfolding asks_behind
requests_end body room = ap (λ (b : Bool). requests (not b) body (lines_of (not b) (take room []))) (asks_end room) ∙ ap (λ (l : List ℕ). requests true body (lines_of true l)) (take-nil room)

pub pass_end : (body : Option (List (List ℕ))) (old : Reading) (left : List ℕ) (new : Reading) (left' : List ℕ) → IsEnd old left new left' → PassesEnd body (requests true body []) old left new left'
pass_end body old left new left' end =
    let now : asks_behind body old.room (rest_of old left) ≡ requests true body [] = ap (asks_behind body old.room) end.none ∙ requests_end body old.room in
    let then : asks_behind None new.room (rest_of new left') ≡ [] = ap (asks_behind None new.room) end.none_after ∙ requests_end None new.room in
    let before : is_past old.room (rest_of old left) ≡ false = ap (is_past old.room) end.none ∙ asks_end old.room in
    record {
      passes = record {
        asks = now ∙ sym (append-nil (requests true body [])) ∙ ap (λ (q : List Request). requests true body [] ++ q) (sym then);
        past = ap (is_past new.room) end.none_after ∙ asks_end new.room ∙ sym before;
        used = [];
        front = end.none ∙ sym end.none_after;
        counts = omega (arith, end.room);
        whole = inr end.ended;
        ends = λ ended. end.ended;
      };
      none = end.none_after;
      fits = before;
      ended = end.ended;
    }

or_false : (b : Bool) → (b || false) ≡ b
or_false true = refl
or_false false = refl

or_true : (b : Bool) → (b || true) ≡ true
or_true true = refl
or_true false = refl

body_more : (lines : List (List ℕ)) (raw : List ℕ) → body_of (lines ++ raw ∷ []) ≡ body_of lines ++ (raw ++ 10 ∷ [])
body_more lines raw = flat_map-append (λ (l : List ℕ). l ++ 10 ∷ []) lines (raw ∷ []) ∙ ap (λ (t : List ℕ). body_of lines ++ t) (append-nil (raw ++ 10 ∷ []))

long_more : (lines : List (List ℕ)) (raw : List ℕ) (b : Bool) → is_long raw ≡ b → list_any is_long (lines ++ raw ∷ []) ≡ (list_any is_long lines || b)
long_more lines raw b e = list_any-append is_long lines (raw ∷ []) ∙ ap (λ (t : Bool). list_any is_long lines || t) (or_false (is_long raw) ∙ e)

pub pass_body_end : (lines : List (List ℕ)) (line : List ℕ) (cr : Bool) (old : Reading) (left : List ℕ) (new : Reading) (left' : List ℕ)
    → IsWhole line cr old left new left' → (old.ended ≡ true → new.ended ≡ true) → bytes_eq line (codes "end") ≡ true → Passes (Some lines) (Batch lines ∷ []) None old left new left'
pass_body_end lines line cr old left new left' whole ends is =
    pass_line (Some lines) None (Batch lines ∷ []) (raw_line line cr) old left new left' (step_end lines (raw_line line cr) (says_raw (codes "end") line cr whole.marked ∙ is)) whole.given ends

pub pass_kept : (lines : List (List ℕ)) (b b' : Body) (line : List ℕ) (cr : Bool) (old : Reading) (left : List ℕ) (new : Reading) (left' : List ℕ)
    → IsWhole line cr old left new left' → (old.ended ≡ true → new.ended ≡ true) → bytes_eq line (codes "end") ≡ false
    → HasLines b lines → b'.is_long ≡ b.is_long → (b.is_long ≡ false → b'.bytes ≡ b.bytes ++ (raw_line line cr ++ 10 ∷ [])) → PassesKept lines b' old left new left'
pass_kept lines b b' line cr old left new left' whole ends isnt stands same kept =
    let raw = raw_line line cr in
    record {
      line = raw;
      stands = record {
        long = same ∙ stands.long ∙ sym (long_more lines raw false (not_long raw whole.short) ∙ or_false (list_any is_long lines));
        bytes = λ short. kept (sym same ∙ short) ∙ ap (λ (t : List ℕ). t ++ (raw ++ 10 ∷ [])) (stands.bytes (sym same ∙ short)) ∙ sym (body_more lines raw);
      };
      passes = pass_line (Some lines) (Some (lines ++ raw ∷ [])) [] raw old left new left' (step_kept lines raw (says_raw (codes "end") line cr whole.marked ∙ isnt)) whole.given ends;
    }

pub pass_long_kept : (lines : List (List ℕ)) (b : Body) (old : Reading) (left : List ℕ) (new : Reading) (left' : List ℕ)
    → b.is_long ≡ true → IsLongLine old left new left' → (old.ended ≡ true → new.ended ≡ true) → PassesKept lines b old left new left'
pass_long_kept lines b old left new left' knows long ends =
    let raw = long.raw in
    let is : is_long raw ≡ true = grind (arith, nat_tests, long.long) in
    record {
      line = raw;
      stands = record {
        long = knows ∙ sym (long_more lines raw true is ∙ or_true (list_any is_long lines));
        bytes = λ short. absurd (true≢false (sym knows ∙ short));
      };
      passes = pass_line (Some lines) (Some (lines ++ raw ∷ [])) [] raw old left new left' (step_kept lines raw (long_says (codes "end") raw long.long (lit≤ tt))) long.given ends;
    }

-- What an answer of one read says, by the answer that it was.

pub fault_of_next : (body : Option (List (List ℕ))) (r : Result SessionLine ReadFault) (e : ReadFault) (old : Reading) (left : List ℕ) (new : Reading) (left' : List ℕ)
    → r ≡ Err e → Nexts r old left new left' → (old.ended ≡ true → IsErrOf r fault.Source → ⊥) → Faults e body old left left'
fault_of_next body r e old left new left' is next going =
    pass_fault body e old left new left' (subst (λ (t : Result SessionLine ReadFault). Nexts t old left new left') is next) (λ ended source. going ended (is ∙ ap Err source))

pub next_at : (r : Result SessionLine ReadFault) (found given : SessionLine) (old : Reading) (left : List ℕ) (new : Reading) (left' : List ℕ)
    → r ≡ Ok found → found ≡ given → Nexts r old left new left' → Nexts (Ok given) old left new left'
next_at r found given old left new left' is same next = subst (λ (t : Result SessionLine ReadFault). Nexts t old left new left') (is ∙ ap Ok same) next

-- One read behind lines that were passed.

pub end_more : {body behind : Option (List (List ℕ))} {q : List Request} {o : Reading} {l : List ℕ} {m : Reading} {k : List ℕ} {n : Reading} {j : List ℕ} → Passes body [] behind o l m k → PassesEnd behind q m k n j → PassesEnd body q o l n j
end_more first more = record { passes = pass_more first more.passes; none = more.none; fits = sym first.past ∙ more.fits; ended = more.ended }

pub word_more : (w : Word) {o : Reading} {l : List ℕ} {m : Reading} {k : List ℕ} (n : Reading) (j : List ℕ) → Passes None [] None o l m k → PassesWord w m k n j → PassesWord w o l n j
word_more word.Batch n j first more = pass_more first more
word_more (word.Line line) n j first more = pass_more first more
word_more word.End n j first more = end_more first more

-- What a request that was passed is to a caller.

none_whole_behind : (used : List ℕ) (q : List Request) → ((more : List ℕ) → whole_behind None (used ++ more) ≡ q ++ whole_behind None more) → AreWhole used q
unfolding whole_behind
none_whole_behind used q whole = record { before = whole }

pub next_of : {q : Request} {o : Reading} {l : List ℕ} {n : Reading} {j : List ℕ} → Passes None (q ∷ []) None o l n j → IsNext q o l n j
next_of {q = q} passes = record {
  asked = passes.asks;
  past = passes.past;
  used = passes.used;
  front = passes.front;
  counts = passes.counts;
  whole = ⊎_elim (λ one. inl (none_whole_behind passes.used (q ∷ []) one)) (λ ended. inr ended) passes.whole;
}

broken_of : (o : Reading) (l j : List ℕ) → IsBrokenOff None o l j → IsBroken o l j
unfolding whole_behind
broken_of o l j broken = record { part = broken.part; front = broken.front; few = broken.few; none = broken.none; going = broken.going }

pub asks_fault : (e : ReadFault) (o : Reading) (l : List ℕ) (n : Reading) (j : List ℕ) → Faults e None o l j → Asks (Err e) o l n j
asks_fault fault.Source o l n j faults = broken_of o l j faults
asks_fault fault.TooMuch o l n j faults = faults
asks_fault fault.Memory o l n j faults = faults

pub asks_nothing : {o : Reading} {l : List ℕ} {n : Reading} {j : List ℕ} → PassesEnd None [] o l n j → Asks (Ok None) o l n j
asks_nothing {n = n} {j = j} end =
    (end.passes.asks ∙ ap (asks_behind None n.room) end.none ∙ requests_end None n.room, end.fits, end.none, end.ended)
