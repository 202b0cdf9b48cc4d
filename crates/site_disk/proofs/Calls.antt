-- The calls of a site in memory, from what its code keeps: n is what the site is seen as by its fields, m what it was
-- seen as before the call, and later the list after it.
use Rattle.std.proofs.Common.{◌≡◌, ℕ, List, ◌∷◌, Result, refl, sym, subst}
use Rattle.std.specs.Prelude.{Ok, Err, IsErr, OnOk, OnErr}
use Rattle.vec_record.specs.Vectors.{AreBytes}
use Rattle.site_disk.specs.declared.mem_site.Call.{Call}
use Rattle.site_disk.specs.declared.mem_site.Call.TheVariants.{Write, Say, Sync}
use Rattle.site_disk.specs.Calls.{Stays, Writes, Syncs, Speaks}
use Rattle.site_disk.specs.Replay.{told_state}
use Rattle.site_disk.specs.Memory.{Memory, told}
use Rattle.site_disk.proofs.Replays.{stays_same, wrote, synced, spoke, not_written, not_synced, not_said}

module _ (m n : Memory) (is : n ≡ m) where
  pub stay_at : Stays (told m) (told n)
  stay_at = subst (λ (k : Memory). Stays (told k) (told n)) is (stays_same n.start n.events)

  -- a call that failed before it began
  pub no_write_at : {E : Type 0} (r : Result Unit E) → IsErr r → (at : ℕ) (bytes : List ℕ) → Writes at bytes r (told m) (told n)
  no_write_at r fails at bytes = subst (λ (k : Memory). Writes at bytes r (told k) (told n)) is (not_written (told n) (stays_same n.start n.events) r fails at bytes)

  pub no_sync_at : {E : Type 0} (r : Result Unit E) → IsErr r → Syncs r (told m) (told n)
  no_sync_at r fails = subst (λ (k : Memory). Syncs r (told k) (told n)) is (not_synced (told n) (stays_same n.start n.events) r fails)

  pub no_say_at : {E : Type 0} (r : Result Unit E) → IsErr r → (bytes : List ℕ) → Speaks bytes r (told m) (told n)
  no_say_at r fails bytes = subst (λ (k : Memory). Speaks bytes r (told k) (told n)) is (not_said (told n) (stays_same n.start n.events) r fails bytes)

  -- one that was kept, or found no memory
  pub write_at_at : {A E : Type 0} (at : ℕ) (bytes : List ℕ) → AreBytes bytes → (later : List Call) (noted : Result Unit A) (r : Result Unit E) → OnOk noted (later ≡ Write at bytes ∷ n.events) → OnErr noted (later ≡ n.events)
      → OnOk r (OnErr noted ⊥) → OnErr r (OnOk noted ⊥) → Writes at bytes r (told m) (told_state n.start later)
  write_at_at {A} {E} at bytes are later (Ok x) (Ok y) kept lost good bad =
      subst (λ (k : Memory). Writes {E = E} at bytes (Ok y) (told k) (told_state n.start later)) is
      (subst (λ (l : List Call). Writes {E = E} at bytes (Ok y) (told n) (told_state n.start l)) (sym kept) (wrote n.start n.events at bytes are))
  write_at_at at bytes are later (Ok x) (Err e) kept lost good bad = absurd bad
  write_at_at at bytes are later (Err f) (Ok y) kept lost good bad = absurd good
  write_at_at at bytes are later (Err f) (Err e) kept lost good bad = subst (λ (l : List Call). Writes at bytes (Err e) (told m) (told_state n.start l)) (sym lost) (no_write_at (Err e) refl at bytes)

  pub sync_at : {A E : Type 0} (later : List Call) (noted : Result Unit A) (r : Result Unit E) → OnOk noted (later ≡ Sync ∷ n.events) → OnErr noted (later ≡ n.events)
      → OnOk r (OnErr noted ⊥) → OnErr r (OnOk noted ⊥) → Syncs r (told m) (told_state n.start later)
  sync_at {A} {E} later (Ok x) (Ok y) kept lost good bad =
      subst (λ (k : Memory). Syncs {E = E} (Ok y) (told k) (told_state n.start later)) is
      (subst (λ (l : List Call). Syncs {E = E} (Ok y) (told n) (told_state n.start l)) (sym kept) (synced n.start n.events))
  sync_at later (Ok x) (Err e) kept lost good bad = absurd bad
  sync_at later (Err f) (Ok y) kept lost good bad = absurd good
  sync_at later (Err f) (Err e) kept lost good bad = subst (λ (l : List Call). Syncs (Err e) (told m) (told_state n.start l)) (sym lost) (no_sync_at (Err e) refl)

  pub say_at : {A E : Type 0} (bytes : List ℕ) (later : List Call) (noted : Result Unit A) (r : Result Unit E) → OnOk noted (later ≡ Say bytes ∷ n.events) → OnErr noted (later ≡ n.events)
      → OnOk r (OnErr noted ⊥) → OnErr r (OnOk noted ⊥) → Speaks bytes r (told m) (told_state n.start later)
  say_at {A} {E} bytes later (Ok x) (Ok y) kept lost good bad =
      subst (λ (k : Memory). Speaks {E = E} bytes (Ok y) (told k) (told_state n.start later)) is
      (subst (λ (l : List Call). Speaks {E = E} bytes (Ok y) (told n) (told_state n.start l)) (sym kept) (spoke n.start n.events bytes))
  say_at bytes later (Ok x) (Err e) kept lost good bad = absurd bad
  say_at bytes later (Err f) (Ok y) kept lost good bad = absurd good
  say_at bytes later (Err f) (Err e) kept lost good bad = subst (λ (l : List Call). Speaks bytes (Err e) (told m) (told_state n.start l)) (sym lost) (no_say_at (Err e) refl bytes)
