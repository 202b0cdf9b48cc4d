-- The images of a crash that a site in memory picks from.
use Rattle.std.specs.Prelude.{◌≡◌, ℕ, ◌-◌, ◌/◌, ◌<◌, ◌≤◌, Bool, true, false, List, [], ◌∷◌, ◌++◌, length, take, reverse, replicate, get_or}
use Rattle.site_disk.specs.declared.mem_site.Call.{Call}
use Rattle.site_disk.specs.declared.mem_site.Call.TheVariants.{Write, Say, Sync}
use Rattle.site_disk.specs.Disk.{put}
use Rattle.site_disk.specs.Replay.{as_bytes, replay}

-- the first half of the bytes, rounded down, and 0xA5 in place of the rest
abbrev pub half : List ℕ → List ℕ
half bytes = take (length bytes / 2) bytes ++ replicate (length bytes - length bytes / 2) 165

-- the file after one call
abbrev pub after : Call → List ℕ → List ℕ
after (Write at bytes) file = put at (as_bytes bytes) file
after (Say bytes) file = file
after Sync file = file

-- the file after one call of which the first half is kept
abbrev pub after_half : Call → List ℕ → List ℕ
after_half (Write at bytes) file = put at (half (as_bytes bytes)) file
after_half (Say bytes) file = file
after_half Sync file = file

-- the image that keeps the first half of each write since the last sync; the newest call comes first
abbrev pub halved : List ℕ → List Call → List ℕ
halved start [] = as_bytes start
halved start (Write at bytes ∷ es) = after_half (Write at bytes) (halved start es)
halved start (Say bytes ∷ es) = after_half (Say bytes) (halved start es)
halved start (Sync ∷ es) = (replay start es).content

-- the image that keeps all writes but is cut at the length of the last sync
abbrev pub cut : List ℕ → List Call → List ℕ
cut start es = take (length (replay start es).base) (replay start es).content

abbrev pub is_sync : Call → Bool
is_sync (Write at bytes) = false
is_sync (Say bytes) = false
is_sync Sync = true

-- the first n calls, the oldest first, are those up to the last sync
pub record IsSettled (n : ℕ) (calls : List Call) : Type 0 where
  pub within : n ≤ length calls
  pub base : (start : List ℕ) → (replay start (reverse (take n calls))).content ≡ (replay start (reverse calls)).base
  pub halves : (start : List ℕ) → (replay start (reverse (take n calls))).content ≡ halved start (reverse (take n calls))
  pub later : (k : ℕ) (d : Call) → n ≤ k → k < length calls → is_sync (get_or calls k d) ≡ false
