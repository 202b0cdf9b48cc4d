-- What the steps of a birth leave in a file.
use Rattle.std.specs.Prelude.{◌≡◌, ℕ, true, ◌+◌, ◌<◌, ◌≤◌, List, ◌∷◌, length, get_or}
use Rattle.page_gate.specs.Gate.{is_blank, letters}
use Rattle.page_gate.specs.Steps.{IsThere}

abbrev pub IsBlank : List ℕ → Type 0
IsBlank c = is_blank c ≡ true

-- a blank file of one byte at least, with a closed birth gate
pub record Bare (c : List ℕ) : Type 0 where
  pub gate : get_or c 0 0 ≡ 1 → ⊥
  pub some : 1 ≤ length c
  pub long : length c ≤ 32768

-- what stands behind the birth gate: a closed redo gate, the letters, and zeros
abbrev pub gate_head : List ℕ
gate_head = 0 ∷ 0 ∷ letters

pub record Begins (n : ℕ) (c : List ℕ) : Type 0 where
  pub each : (i : ℕ) → 1 ≤ i → i < n → get_or c i 0 ≡ get_or gate_head i 0
  pub room : n ≤ length c

-- zeros at an offset
pub record IsZero (at n : ℕ) (c : List ℕ) : Type 0 where
  pub each : (i : ℕ) → at ≤ i → i < at + n → get_or c i 0 ≡ 0
  pub room : at + n ≤ length c

-- both pages of a new store, but for the birth gate
pub record Newborn (first c : List ℕ) : Type 0 where
  pub begins : Begins 16384 c
  pub page : IsThere 16384 first c

abbrev pub IsGate : ℕ → Type 0
IsGate i = i < 1
