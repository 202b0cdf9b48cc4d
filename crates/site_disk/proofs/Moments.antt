-- How what holds of every moment goes on through the calls of a site.
use Rattle.std.proofs.Common.{◌⊎◌, inl, inr, ⊎_elim, ℕ, List, ◌++◌, length, take, Result, sym, subst, arith}
use Rattle.site_disk.specs.Disk.{Torn}
use Rattle.site_disk.specs.State.{SiteState, IsNow, Joins, Each, Safe}
use Rattle.site_disk.specs.Calls.{IsTorn, Stays, Writes, Syncs, Speaks}

pub joins_start : (a : SiteState) → IsNow a → Joins a a
joins_start a now = record {
  later = omega arith;
  splits = λ t s c le since. inl since;
  keeps = λ t s c le since. since;
  counts = λ t s c le since. let here = now.only s c since in subst (λ r. a.since t r c) (sym here.0) (now.counts t c le here.1);
}

pub joins_on : (a b c : SiteState) → Joins a b → Joins b c → Joins a c
joins_on a b c ab bc = record {
  later = omega (arith, ab.later, bc.later);
  splits = λ t s i le since. ⊎_elim
      (λ was. ⊎_elim (λ first. inl first) (λ mid. inr (bc.keeps a.moment s i ab.later mid)) (ab.splits t s i le was))
      (λ last. inr (bc.counts a.moment s i ab.later last))
      (bc.splits t s i (omega (arith, le, ab.later)) since);
  keeps = λ t s i le since. bc.keeps t s i (omega (arith, le, ab.later)) (ab.keeps t s i le since);
  counts = λ t s i le since. ⊎_elim
      (λ was. bc.keeps t s i (omega (arith, le, ab.later)) (ab.counts t s i le was))
      (λ last. bc.counts t s i (omega (arith, le, ab.later)) last)
      (bc.splits a.moment s i ab.later since);
}

module _ {a : SiteState} {P : List ℕ → List ℕ → Type 0} where
  -- before the first call
  pub start : IsNow a → ((c : List ℕ) → a.may_leave c → P a.said c) → Safe a a P
  start now here = record {
    joins = joins_start a now;
    each = λ s c since. let at = now.only s c since in subst (λ r. P r c) (sym at.0) (here c at.1);
    now = here;
  }

  -- one call more
  pub goes_on : {b c : SiteState} → Safe a b P → Joins b c → Each b c P → ((i : List ℕ) → c.may_leave i → P c.said i) → Safe a c P
  goes_on {b} {c} so_far joins each now = record {
    joins = joins_on a b c so_far.joins joins;
    each = λ s i since. ⊎_elim (so_far.each s i) (each s i) (joins.splits a.moment s i so_far.joins.later since);
    now = now;
  }

  pub after_stay : {b c : SiteState} → Safe a b P → Stays b c → Safe a c P
  after_stay {b} {c} so_far stays = goes_on so_far stays.joins
      (λ s i since. let at = stays.moments s i since in subst (λ r. P r i) (sym at.0) (so_far.now i at.1))
      (λ i left. subst (λ r. P r i) (sym stays.said) (so_far.now i ((stays.images i).0 left)))

  pub after_sync : {E : Type 0} {r : Result Unit E} {b c : SiteState} → Safe a b P → Syncs r b c → Safe a c P
  after_sync {E} {r} {b} {c} so_far sync = goes_on so_far sync.joins
      (λ s i since. let at = sync.moments s i since in subst (λ r. P r i) (sym at.0) (so_far.now i at.1))
      (λ i left. subst (λ r. P r i) (sym sync.said) (so_far.now i (sync.images i left)))

  pub after_write : {E : Type 0} {at : ℕ} {bytes : List ℕ} {r : Result Unit E} {b c : SiteState} → Safe a b P → Writes at bytes r b c
      → ((d i : List ℕ) → b.may_leave d → Torn at (length bytes) d i → P b.said i) → Safe a c P
  after_write {E} {at} {bytes} {r} {b} {c} so_far write torn = goes_on so_far write.joins
      (λ s i since. let m = write.moments s i since in subst (λ r. P r i) (sym m.0) (image i m.1))
      (λ i left. subst (λ r. P r i) (sym write.said) (image i (write.images i left)))
    where
      image : (i : List ℕ) → b.may_leave i ⊎ IsTorn at (length bytes) b.may_leave i → P b.said i
      image i (inl was) = so_far.now i was
      image i (inr t) = torn t.0 i t.1 t.2

  pub after_say : {E : Type 0} {bytes : List ℕ} {r : Result Unit E} {b c : SiteState} → Safe a b P → Speaks bytes r b c
      → ((n : ℕ) (i : List ℕ) → b.may_leave i → P (b.said ++ take n bytes) i) → Safe a c P
  after_say {E} {bytes} {r} {b} {c} so_far say spoken = goes_on so_far say.joins
      (λ s i since. let m = say.moments s i since in subst (λ r. P r i) (sym m.0.1) (spoken m.0.0 i m.1))
      (λ i left. subst (λ r. P r i) (sym say.prefix.1) (spoken say.prefix.0 i ((say.images i).0 left)))
