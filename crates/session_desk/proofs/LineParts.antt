-- Lines in bytes, their carriage returns, and what a reader gives of a line.
use Rattle.std.proofs.Common.{◌≡◌, ℕ, zero, suc, ◌+◌, ◌-◌, ◌<◌, ◌≤◌, ◌||◌, ◌⊎◌, Bool, true, false, not, cond, min, List, [], ◌∷◌, ◌++◌, length, get_or, take, drop, Some, None, refl, sym, ap, subst, ◌∙◌, inl, inr, arith, ltb, eqb, append-nil}
use Rattle.std.specs.Prelude.{nat_lt, unwrap_or}
use Rattle.std.specs.List.{list_any, position_or_len}
use Rattle.std.proofs.lemmas.Bool.{cases_Bool, cases_lt}
use Rattle.std.proofs.lemmas.Bool.Decides.{nat_tests}
use Rattle.std.proofs.lemmas.List.{take_all, drop_all, length-take-le, length-drop}
use Rattle.std.proofs.lemmas.List.Sums.{split_at_first, passes_at_first, prefix_len-le-length}
use mir.Val.{bool_byte}
use native.Mathlib.Numerals.{unary_clauses}
use Rattle.session_desk.specs.Input.{is_line_feed}
use Rattle.session_desk.specs.Lines.{Reading, IsHeld, IsOneLine, ends_in_return, raw_line}
use Rattle.session_desk.specs.Filling.{has_line, given, CutsOff, GivesLong, GivesBy, IsLineOf}
use Rattle.session_desk.specs.declared.lines.SessionLine.{SessionLine}
use Rattle.session_desk.specs.declared.lines.SessionLine.TheVariants.{Whole, Long, End}

-- how many bytes stand before the first line feed
abbrev pub line_len : List ℕ → ℕ
line_len bytes = position_or_len is_line_feed bytes

pub line_len-le : (bytes : List ℕ) → line_len bytes ≤ length bytes
line_len-le bytes = prefix_len-le-length (λ b. not (is_line_feed b)) bytes

-- what a search for the first line feed answered
pub found_or_len : (bytes : List ℕ) → unwrap_or (cond (ltb (line_len bytes) (length bytes)) (Some (line_len bytes)) None) (length bytes) ≡ line_len bytes
found_or_len bytes = elim (cases_lt (line_len bytes) (length bytes)) [
  | inl below ↦ let t : ltb (line_len bytes) (length bytes) ≡ true = grind (arith, nat_tests, below) in rw t refl
  | inr above ↦ let t : ltb (line_len bytes) (length bytes) ≡ false = grind (arith, nat_tests, above) in rw t (omega (arith, above, line_len-le bytes))
]

-- no byte that passes a test stands before the first one
pub none_in_front : (p : ℕ → Bool) (n : ℕ) (bytes : List ℕ) → n ≤ position_or_len p bytes → list_any p (take n bytes) ≡ false
none_in_front p zero bytes h = refl
none_in_front p (suc n) [] h = refl
none_in_front p (suc n) (b ∷ bs) h =
    elim (p b) as (λ t. suc n ≤ cond (not t) (1 + position_or_len p bs) 0 → (t || list_any p (take n bs)) ≡ false) [
      | true ↦ λ le. absurd (omega (arith, le))
      | false ↦ λ le. none_in_front p n bs (omega (arith, le))
    ] h

-- no line feed stands before the first one
pub one_line_front : (n : ℕ) (bytes : List ℕ) → n ≤ line_len bytes → IsOneLine (take n bytes)
one_line_front n bytes h = none_in_front is_line_feed n bytes h

-- the first line feed parts the bytes
pub feed_parts : (bytes : List ℕ) → line_len bytes < length bytes → bytes ≡ take (line_len bytes) bytes ++ 10 ∷ drop (line_len bytes + 1) bytes
feed_parts bytes h =
    let passes = passes_at_first is_line_feed bytes 0 h in
    let feed : get_or bytes (line_len bytes) 0 ≡ 10 = grind (arith, nat_tests, passes) in
    split_at_first is_line_feed bytes 0 h ∙ ap (λ (b : ℕ). take (line_len bytes) bytes ++ b ∷ drop (line_len bytes + 1) bytes) feed

-- the last byte tells of a carriage return
pub last_returns : (bytes : List ℕ) → 0 < length bytes → eqb (get_or bytes (length bytes - 1) 0) 13 ≡ ends_in_return bytes
last_returns [] h = absurd (omega arith)
last_returns (b ∷ []) h = refl
last_returns (b ∷ c ∷ more) h = let rest = simp unary_clauses at (last_returns (c ∷ more) (omega arith)) in simp unary_clauses rest

-- without its carriage return a line is the rest
return_off : (raw : List ℕ) → ends_in_return raw ≡ true → raw ≡ take (length raw - 1) raw ++ 13 ∷ []
return_off [] e = absurd (cc)
return_off (b ∷ []) e = let is : b ≡ 13 = grind (arith, nat_tests, e) in ap (λ (x : ℕ). x ∷ []) is
return_off (b ∷ c ∷ more) e = let rest = simp unary_clauses at (ap (λ (bs : List ℕ). b ∷ bs) (return_off (c ∷ more) e)) in simp unary_clauses rest

pub line_of : (raw : List ℕ) (cr : Bool) → ends_in_return raw ≡ cr → raw ≡ raw_line (take (length raw - cond cr 1 0) raw) cr
line_of raw true e = return_off raw e
line_of raw false e = sym (append-nil (take (length raw - 0) raw) ∙ take_all (length raw - 0) raw (omega arith))

pub as_number : (b : Bool) → bool_byte b ≡ cond b 1 0
as_number true = refl
as_number false = refl

-- a line that is there, and what giving it leaves
module _ (r : Reading) (held : IsHeld r) (there : has_line r ≡ true) where
  abbrev size : ℕ
  size = line_len r.pending

  abbrev used : ℕ
  used = min (size + 1) (length r.pending)

  -- a line feed stands among the bytes that may count, or all bytes are there
  there_by : ((size < length r.pending) × (size < r.room)) ⊎ ((size ≡ length r.pending) × (r.ended ≡ true))
  there_by = elim (cases_Bool r.ended) [
    | inl ended ↦ elim (cases_lt size (length r.pending)) [
      | inl below ↦ inl (below, omega (arith, below, held.ended ended))
      | inr above ↦ inr (omega (arith, above, line_len-le r.pending), ended)
    ]
    | inr going ↦
        let found : nat_lt size (min (length r.pending) r.room) ≡ true = rw going at there in
        let below : size < min (length r.pending) r.room = grind (arith, nat_tests, found) in
        inl (omega (arith, below), omega (arith, below))
  ]

  pub used_within : used ≤ r.room
  used_within = elim there_by [ inl feed ↦ omega (arith, feed.1) | inr end ↦ omega (arith, held.ended end.1) ]

  pub used_there : used ≤ length r.pending
  used_there = omega arith

  pub cuts_off : CutsOff (take size r.pending) r (given used r)
  cuts_off = record {
    one_line = one_line_front size r.pending (omega arith);
    cut = elim there_by [
      | inl feed ↦
          let one : used ≡ size + 1 = omega (arith, feed.0) in
          inl (feed_parts r.pending feed.0 ∙ ap (λ (n : ℕ). take size r.pending ++ 10 ∷ drop n r.pending) (sym one))
      | inr end ↦
          let all : used ≡ length r.pending = omega (arith, end.0) in
          inr (sym (take_all size r.pending (omega (arith, end.0))), drop_all used r.pending (omega (arith, all)), end.1)
    ];
    counted = omega (arith, length-drop used r.pending, used_within);
    within = omega (arith, length-drop used r.pending, used_within);
    ended = refl;
  }

  -- the reader behind it, as the code reckons it
  pub given_is : (size' used' : ℕ) (pending : List ℕ) (new : Reading) → pending ≡ r.pending → size' ≡ line_len pending → used' ≡ min (size' + 1) (length pending) → new ≡ given used' r → new ≡ given used r
  given_is size' used' pending new here is uses by =
      by ∙ ap (λ (n : ℕ). given n r) (uses ∙ ap (λ (n : ℕ). min (n + 1) (length pending)) is ∙ ap (λ (bs : List ℕ). min (line_len bs + 1) (length bs)) here)

  pub long_given : (long : Bool) (new : Reading) → new ≡ given used r → (long ≡ true) ⊎ (4096 < size) → GivesLong long r new
  long_given long new is over = record {
    raw = take size r.pending;
    cut = subst (λ (n : Reading). CutsOff (take size r.pending) r n) (sym is) cuts_off;
    over = elim over [
      | inl begun ↦ inl begun
      | inr much ↦ inr (omega (arith, much, length-take-le size r.pending (line_len-le r.pending)))
    ];
  }

  pub whole_given : (line : SessionLine) (long : Bool) (new : Reading) → IsLineOf (take size r.pending) line → new ≡ given used r → long ≡ false → size ≤ 4096 → 0 < used → GivesBy line long r new
  whole_given (Whole l cr) long new of is begun short some = record {
    cut = subst (λ (n : Reading). CutsOff (raw_line l cr) r n) (sym is) (subst (λ (bs : List ℕ). CutsOff bs r (given used r)) of.0 cuts_off);
    some = omega (arith, some, used_there);
    short = omega (arith, short, ap length of.0, length-take-le size r.pending (line_len-le r.pending));
    marked = ap ends_in_return (sym of.0) ∙ of.1;
    begun = begun;
  }
  whole_given Long long new of is begun short some = absurd of
  whole_given End long new of is begun short some = absurd of
