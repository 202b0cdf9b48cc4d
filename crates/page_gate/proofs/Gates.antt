-- What the gate page says, from each of its checks, and back.
use Rattle.std.proofs.Common.{◌≡◌, ℕ, ◌<◌, ◌≤◌, ◌+◌, Bool, true, false, ◌&&◌, leb, Some, None, List, get_or, refl, arith}
use Rattle.page_gate.specs.declared.fault.OpenFault.TheVariants.{Blank, Foreign, Damaged}
use Rattle.page_gate.specs.declared.gate.Gate.TheVariants.{Bad, Closed, Open}
use Rattle.page_gate.specs.Gate.{blank_by, is_signed, first_set, is_open, fits, redo_start, redo_count, number_4, number_8, gate_of}

module _ (len : ℕ) (first : List ℕ) where
  abbrev blank : Bool
  blank = blank_by len (get_or first 0 0)

  pub says_blank : blank_by len (get_or first 0 0) ≡ true → gate_of len first ≡ Bad Blank
  unfolding gate_of
  says_blank is = rw is refl

  pub says_foreign : blank_by len (get_or first 0 0) ≡ false → (leb 32768 len && is_signed first) ≡ false → gate_of len first ≡ Bad Foreign
  unfolding gate_of
  says_foreign begun signed = rw (begun, signed) refl

  pub says_set : (i : ℕ) → blank_by len (get_or first 0 0) ≡ false → (leb 32768 len && is_signed first) ≡ true → first_set first ≡ Some i → gate_of len first ≡ Bad (Damaged 0 (20 + i))
  unfolding gate_of
  says_set i begun signed set = rw (begun, signed, set) refl

  pub says_closed : blank_by len (get_or first 0 0) ≡ false → (leb 32768 len && is_signed first) ≡ true → first_set first ≡ None → is_open first ≡ false → gate_of len first ≡ Closed
  unfolding gate_of
  says_closed begun signed zeros shut = rw (begun, signed, zeros, shut) refl

  pub says_open : blank_by len (get_or first 0 0) ≡ false → (leb 32768 len && is_signed first) ≡ true → first_set first ≡ None → is_open first ≡ true → fits len (redo_start first) (redo_count first) ≡ true
      → gate_of len first ≡ Open (redo_start first) (redo_count first)
  unfolding gate_of
  says_open begun signed zeros opened good = rw (begun, signed, zeros, opened, good) refl

  pub says_start : blank_by len (get_or first 0 0) ≡ false → (leb 32768 len && is_signed first) ≡ true → first_set first ≡ None → is_open first ≡ true → fits len (redo_start first) (redo_count first) ≡ false
      → gate_of len first ≡ Bad (Damaged 0 8)
  unfolding gate_of
  says_start begun signed zeros opened bad = rw (begun, signed, zeros, opened, bad) refl

pub short_and : (len : ℕ) (b : Bool) → len < 32768 → (leb 32768 len && b) ≡ false
short_and len b lt = let short : leb 32768 len ≡ false = grind arith in rw short refl

pub long_and : (len : ℕ) (a b : Bool) → 32768 ≤ len → a ≡ b → (leb 32768 len && a) ≡ b
long_and len a b ge is = let long : leb 32768 len ≡ true = grind arith in rw (long, is) refl

pub gate_shut : (first : List ℕ) → (get_or first 1 0 ≡ 1 → ⊥) → is_open first ≡ false
unfolding is_open
gate_shut first other = grind arith

pub gate_opened : (first : List ℕ) → get_or first 1 0 ≡ 1 → is_open first ≡ true
unfolding is_open
gate_opened first is = grind arith

module _ (len : ℕ) (first : List ℕ) (start count : ℕ) where
  pub says_open_at : blank_by len (get_or first 0 0) ≡ false → (leb 32768 len && is_signed first) ≡ true → first_set first ≡ None → is_open first ≡ true → start ≡ number_8 8 first → count ≡ number_4 16 first
      → fits len start count ≡ true → gate_of len first ≡ Open start count
  unfolding gate_of redo_start redo_count
  says_open_at begun signed zeros opened s n good = rw (begun, signed, zeros, opened, ← s, ← n, good) refl

  pub says_start_at : blank_by len (get_or first 0 0) ≡ false → (leb 32768 len && is_signed first) ≡ true → first_set first ≡ None → is_open first ≡ true → start ≡ number_8 8 first → count ≡ number_4 16 first
      → fits len start count ≡ false → gate_of len first ≡ Bad (Damaged 0 8)
  unfolding gate_of redo_start redo_count
  says_start_at begun signed zeros opened s n bad = rw (begun, signed, zeros, opened, ← s, ← n, bad) refl
