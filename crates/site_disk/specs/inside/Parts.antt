-- What the calls do that take or give a part of a piece, and those that make a whole piece of them.
use Rattle.std.specs.Prelude.{◌≡◌, ℕ, ◌+◌, ◌<◌, ◌≤◌, List, length, take, get_or, Result, MatchResult, OnOk}
use Rattle.site_disk.specs.Disk.{put}

-- the first n bytes stand at their place; where the call failed, nothing is changed
abbrev pub PutsPart : {E : Type 0} → ℕ → List ℕ → Result ℕ E → List ℕ → List ℕ → Type 0
PutsPart at bytes result old new =
    MatchResult result (λ n. new ≡ put at (take n bytes) old) (λ _. new ≡ old)

-- All bytes stand at their place; where the call failed, some from the first on do.
pub record Puts {E : Type 0} (at : ℕ) (bytes : List ℕ) (result : Result Unit E) (old new : List ℕ)
    : Type 0 where
  pub whole : OnOk result (new ≡ put at bytes old)
  pub some : (n : ℕ) × (new ≡ put at (take n bytes) old)

-- the first n bytes of the buffer are those of the content; none come only at its end or into
-- no room
pub record IsPart (at n : ℕ) (into content : List ℕ) : Type 0 where
  pub bytes : (i : ℕ) → i < n → get_or into i 0 ≡ get_or content (at + i) 0
  pub end : n ≡ 0 → 0 < length into → length content ≤ at
