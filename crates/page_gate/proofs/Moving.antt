-- How the moments of writes go on, from one to the next.
use Rattle.std.proofs.Common.{◌≡◌, ℕ, ◌+◌, ◌≤◌, List, length, Result, refl, sym, ◌∙◌, subst}
use Rattle.std.specs.Prelude.{Ok, Err, OnOk, IsErr}
use Rattle.site_disk.specs.Disk.{put}
use Rattle.site_disk.specs.State.{SiteState, IsNow, Safe}
use Rattle.site_disk.specs.Calls.{Writes, Syncs}
use Rattle.site_disk.proofs.Moments.{start, goes_on, after_sync, after_write}
use Rattle.page_gate.specs.Same.{Same, IsOutside, IsNear, IsMoved, Puts, Keeps}
use Rattle.page_gate.proofs.Parts.{same_refl, same_trans, same_weaker, torn_same, put_same}

pub on_ok_any : {T E P : Type 0} (r : Result T E) → P → OnOk r P
on_ok_any (Ok x) p = p
on_ok_any (Err e) p = tt

pub on_ok_both : {T E P Q R : Type 0} (r : Result T E) → (P → Q → R) → OnOk r P → OnOk r Q → OnOk r R
on_ok_both (Ok x) f p q = f p q
on_ok_both (Err e) f p q = tt

pub on_ok_map : {T E P Q : Type 0} (r : Result T E) → (P → Q) → OnOk r P → OnOk r Q
on_ok_map (Ok x) f p = f p
on_ok_map (Err e) f p = tt

-- each image has X, and nothing is said
abbrev pub IsQuiet : SiteState → (List ℕ → Type 0) → List ℕ → List ℕ → Type 0
IsQuiet a X s c = (s ≡ a.said) × X c

-- X goes on where no change takes it away
pub quiet_on : (X : List ℕ → Type 0) (kept : ℕ → Type 0) (top : ℕ) {a b c : SiteState} → Safe a b (IsQuiet a X) → b.said ≡ a.said → Safe b c (IsMoved kept top b)
    → ((d i : List ℕ) → b.may_leave d → X d → Same kept top d i → X i) → Safe a c (IsQuiet a X)
quiet_on X kept top {a} {b} {c} so_far said next goes = goes_on so_far next.joins
    (λ s i since. let at = next.each s i since in (at.0 ∙ said, near i at.1))
    (λ i left. let at = next.now i left in (at.0 ∙ said, near i at.1))
  where
    near : (i : List ℕ) → IsNear kept top b.may_leave i → X i
    near i (d, left, is) = goes d i left (so_far.now d left).1 is

-- a weaker X
pub quiet_weaker : (X Y : List ℕ → Type 0) {a b : SiteState} → Safe a b (IsQuiet a X) → ((c : List ℕ) → X c → Y c) → Safe a b (IsQuiet a Y)
quiet_weaker X Y {a} {b} safe f = record {
  joins = safe.joins;
  each = λ s c since. let at = safe.each s c since in (at.0, f c at.1);
  now = λ c left. let at = safe.now c left in (at.0, f c at.1);
}

-- from X of each image of the start
pub quiet_from : (X : List ℕ → Type 0) (kept : ℕ → Type 0) (top : ℕ) {a b : SiteState} → Safe a b (IsMoved kept top a) → ((d i : List ℕ) → a.may_leave d → Same kept top d i → X i) → Safe a b (IsQuiet a X)
quiet_from X kept top {a} {b} safe f = quiet_weaker (IsNear kept top a.may_leave) X safe (λ c near. f near.0 c near.1 near.2)

module _ (kept : ℕ → Type 0) (top : ℕ) where
  pub moved_start : {a : SiteState} → IsNow a → Safe a a (IsMoved kept top a)
  moved_start {a} now = start now (λ c left. (refl, (c, left, same_refl kept top c)))

  pub moved_on : (k : ℕ → Type 0) (t : ℕ) {a b c : SiteState} → Safe a b (IsMoved kept top a) → b.said ≡ a.said → Safe b c (IsMoved k t b) → ((i : ℕ) → kept i → k i) → t ≤ top → Safe a c (IsMoved kept top a)
  moved_on k t {a} {b} {c} so_far said next fewer le =
      quiet_on (IsNear kept top a.may_leave) k t so_far said next (λ d i left near is. (near.0, near.1, same_trans kept top near.2 (same_weaker k t kept top is fewer le)))

  pub moved_weaker : (less : ℕ → Type 0) (above : ℕ) {a b : SiteState} → Safe a b (IsMoved kept top a) → ((i : ℕ) → less i → kept i) → top ≤ above → Safe a b (IsMoved less above a)
  moved_weaker less above {a} {b} safe fewer le = quiet_weaker (IsNear kept top a.may_leave) (IsNear less above a.may_leave) safe (λ c near. (near.0, near.1, same_weaker kept top less above near.2 fewer le))

-- one write
pub write_puts : {E : Type 0} (at : ℕ) (bytes : List ℕ) {r : Result Unit E} {a b : SiteState} → IsNow a → Writes at bytes r a b
    → Puts (IsOutside at (length bytes)) (at + length bytes) (λ c. c ≡ put at bytes a.content) r a b
write_puts {E} at bytes {r} {a} {b} now write = record {
  safe = after_write (moved_start (IsOutside at (length bytes)) (at + length bytes) now) write (λ d i left torn. (refl, (d, left, torn_same at (length bytes) torn)));
  said = write.said;
  same = on_ok_map r (λ is. subst (Same (IsOutside at (length bytes)) (at + length bytes) a.content) (sym is) (put_same at bytes a.content)) write.content;
  done = write.content;
}

-- writes after writes
module _ {E : Type 0} (kept : ℕ → Type 0) (top : ℕ) where
  -- none yet
  pub puts_none : (Done : List ℕ → Type 0) {a : SiteState} → IsNow a → Done a.content → Puts {E = E} kept top Done (Ok tt) a a
  puts_none Done {a} now done = record { safe = moved_start kept top now; said = refl; same = same_refl kept top a.content; done = done }

  -- the last that was tried failed
  pub puts_failed : (Done : List ℕ → Type 0) {e : E} {a b : SiteState} → Safe a b (IsMoved kept top a) → b.said ≡ a.said → Puts {E = E} kept top Done (Err e) a b
  puts_failed Done safe said = record { safe = safe; said = said; same = tt; done = tt }

  pub puts_on : (First Done : List ℕ → Type 0) (k l : ℕ → Type 0) (t u : ℕ) (Next : List ℕ → Type 0) {r : Result Unit E} {a b c : SiteState} → Puts {E = E} k t First (Ok tt) a b → Puts l u Next r b c
      → ((i : ℕ) → kept i → k i) → t ≤ top → ((i : ℕ) → kept i → l i) → u ≤ top → (First b.content → Same l u b.content c.content → Next c.content → Done c.content) → Puts kept top Done r a c
  puts_on First Done k l t u Next {r} {a} {b} {c} first next fewer le fewer_next le_next done = record {
    safe = moved_on kept top l u (moved_weaker k t kept top first.safe fewer le) first.said next.safe fewer_next le_next;
    said = next.said ∙ first.said;
    same = on_ok_map r (λ is. same_trans kept top (same_weaker k t kept top first.same fewer le) (same_weaker l u kept top is fewer_next le_next)) next.same;
    done = on_ok_both r (done first.done) next.same next.done;
  }

  -- the same where the last one fails
  pub puts_broke : (First Done : List ℕ → Type 0) (k l : ℕ → Type 0) (t u : ℕ) (Next : List ℕ → Type 0) {r : Result Unit E} (result : Result Unit E) {a b c : SiteState} → IsErr result → Puts {E = E} k t First (Ok tt) a b → Puts {E = E} l u Next r b c
      → ((i : ℕ) → kept i → k i) → t ≤ top → ((i : ℕ) → kept i → l i) → u ≤ top → Puts kept top Done result a c
  puts_broke First Done k l t u Next {r} (Ok x) {a} {b} {c} fails first next fewer le fewer_next le_next = absurd (cc fails)
  puts_broke First Done k l t u Next {r} (Err e) {a} {b} {c} fails first next fewer le fewer_next le_next = record {
    safe = moved_on kept top l u (moved_weaker k t kept top first.safe fewer le) first.said next.safe fewer_next le_next;
    said = next.said ∙ first.said;
    same = tt;
    done = tt;
  }

  -- the same with fewer promises
  pub puts_weaker : (k : ℕ → Type 0) (t : ℕ) (First Done : List ℕ → Type 0) {r : Result Unit E} {a b : SiteState} → Puts k t First r a b → ((i : ℕ) → kept i → k i) → t ≤ top → (First b.content → Done b.content) → Puts kept top Done r a b
  puts_weaker k t First Done {r} {a} {b} puts fewer le done = record {
    safe = moved_weaker k t kept top puts.safe fewer le;
    said = puts.said;
    same = on_ok_map r (λ is. same_weaker k t kept top is fewer le) puts.same;
    done = on_ok_map r done puts.done;
  }

  -- the sync behind the writes
  pub keeps : (Done : List ℕ → Type 0) {r : Result Unit E} {a b c : SiteState} → Puts {E = E} kept top Done (Ok tt) a b → Syncs r b c → Keeps kept top Done r a c
  keeps Done {r} {a} {b} {c} puts sync = record {
    puts = record {
      safe = after_sync puts.safe sync;
      said = sync.said ∙ puts.said;
      same = on_ok_map r (λ is. subst (Same kept top a.content) (sym is) puts.same) sync.content;
      done = on_ok_map r (λ is. subst Done (sym is) puts.done) sync.content;
    };
    only = sync.only;
  }

  pub keeps_failed : (Done : List ℕ → Type 0) {e : E} {a b : SiteState} → Puts {E = E} kept top Done (Err e) a b → Keeps {E = E} kept top Done (Err e) a b
  keeps_failed Done puts = record { puts = puts; only = tt }

  pub keeps_broke : (Done : List ℕ → Type 0) (result : Result Unit E) {a b : SiteState} → IsErr result → Puts {E = E} kept top Done result a b → Keeps {E = E} kept top Done result a b
  keeps_broke Done (Ok x) fails puts = absurd (cc fails)
  keeps_broke Done (Err e) fails puts = record { puts = puts; only = tt }

  pub puts_err : (First Done : List ℕ → Type 0) {r : Result Unit E} (result : Result Unit E) {a b : SiteState} → IsErr result → Puts {E = E} kept top First r a b → Puts {E = E} kept top Done result a b
  puts_err First Done {r} (Ok x) fails puts = absurd (cc fails)
  puts_err First Done {r} (Err e) fails puts = record { safe = puts.safe; said = puts.said; same = tt; done = tt }
