-- What one call on a source gives.
use Rattle.std.specs.Prelude.{◌≡◌, ℕ, ◌<◌, List, [], ◌++◌, length, take, Result, MatchResult}

-- n of the bytes that were left stand first in the buffer and are left no more
pub record Gives (n : ℕ) (into old new : List ℕ) : Type 0 where
  pub next : old ≡ take n into ++ new
  pub end : n ≡ 0 → 0 < length into → new ≡ []

-- the next bytes; where the call fails, the bytes left are as before
abbrev pub Takes : {E : Type 0} → Result ℕ E → List ℕ → List ℕ → List ℕ → Type 0
Takes result into old new = MatchResult result (λ n. Gives n into old new) (λ _. new ≡ old)
