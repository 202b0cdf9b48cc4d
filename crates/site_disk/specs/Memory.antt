-- What a site in memory is seen as, and what each of its calls counts.
use Rattle.std.specs.Prelude.{◌≡◌, ◌⊎◌, ◌↔◌, ℕ, List, Option, Some, None, Vec, Result, OnOk, OnErr, IsErr, IsTrue, Bool, ◌∷◌}
use Rattle.std.specs.declared.alloc.Global.{Global}
use Rattle.site_disk.specs.declared.mem_site.Call.{Call}
use Rattle.site_disk.specs.State.{SiteState}
use Rattle.site_disk.specs.Counts.{rise, is_due}
use Rattle.site_disk.specs.Replay.{replay, told_state}

-- what it held at first, the calls that wrote, synced or said with the newest first, the calls that are to fail, the
-- stop, the number of all calls, the count of faults, and how often memory was wanting
pub record Memory : Type 0 where
  pub start : List ℕ
  pub events : List Call
  pub fail : List ℕ
  pub stop : Option ℕ
  pub made : ℕ
  pub faults : ℕ
  pub wants : ℕ

-- what it tells
abbrev pub told : Memory → SiteState
told m = told_state m.start m.events

-- whether its next call is to fail
abbrev pub fails_next : Memory → Bool
fails_next m = is_due m.fail m.stop m.made

-- what stays through every call, and its number
pub record Counts (a b : Memory) : Type 0 where
  pub start : b.start ≡ a.start
  pub fail : b.fail ≡ a.fail
  pub stop : b.stop ≡ a.stop
  pub made : b.made ≡ rise a.made

-- A call that takes no memory fails exactly where it is to fail, and changes nothing besides the counts.
pub record Looks {T E : Type 0} (result : Result T E) (a b : Memory) : Type 0 where
  pub counts : Counts a b
  pub exact : IsErr result ↔ IsTrue (fails_next a)
  pub ok : OnOk result (b.faults ≡ a.faults)
  pub err : OnErr result (b.faults ≡ rise a.faults)
  pub wants : b.wants ≡ a.wants
  pub events : b.events ≡ a.events

-- A call that is kept on the list fails where it is to fail, and else only where memory is wanting, which it counts
-- twice. One that fails changes nothing besides the counts.
pub record Keeps {T E : Type 0} (call : Call) (result : Result T E) (a b : Memory) : Type 0 where
  pub counts : Counts a b
  pub due : IsTrue (fails_next a) → IsErr result × (b.wants ≡ a.wants)
  pub ok : OnOk result ((b.faults ≡ a.faults) × (b.wants ≡ a.wants) × (b.events ≡ call ∷ a.events))
  pub err : OnErr result ((b.faults ≡ rise a.faults) × (b.events ≡ a.events))
  pub want : OnErr result (IsTrue (fails_next a) ⊎ (b.wants ≡ rise a.wants))

-- the bytes that the site holds, before and after its first write
abbrev pub held : List ℕ → Option (Vec ℕ Global) → List ℕ
held start None = start
held start (Some written) = written.items

-- its buffers hold what the calls make of the start
pub record IsReplayed (start : List ℕ) (events : List Call) (content said : List ℕ) : Type 0 where
  pub content_is : content ≡ (replay start events).content
  pub said_is : said ≡ (replay start events).said
