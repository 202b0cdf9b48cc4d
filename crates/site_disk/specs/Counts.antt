-- The counters of a source or a site in memory, and which of its calls are to fail.
use Rattle.std.specs.Prelude.{◌==◌, ℕ, ◌+◌, ◌-◌, ◌^◌, min, Bool, false, ◌||◌, ltb, List, Option, Some, None}
use Rattle.std.specs.List.{list_any}

-- one more; a counter stands still at its last value
abbrev pub rise : ℕ → ℕ
rise n = min (n + 1) (2 ^ 64 - 1)

-- whether the call of this number comes after the stop
abbrev pub is_past : Option ℕ → ℕ → Bool
is_past None call = false
is_past (Some stop) call = ltb stop call

-- whether the call after those that were made is to fail: it is in the list, or comes after the stop
abbrev pub is_due : List ℕ → Option ℕ → ℕ → Bool
is_due fail stop made = list_any (λ n. n == rise made) fail || is_past stop (rise made)
