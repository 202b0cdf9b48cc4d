-- What one call more means for a site in memory.
use Rattle.std.proofs.Common.{◌≡◌, ◌⊎◌, inl, inr, ℕ, ◌≤◌, List, ◌∷◌, ◌++◌, length, take, Result, refl, sym, ◌∙◌, ap, subst, arith}
use Rattle.std.specs.Prelude.{Ok, Err, IsErr}
use Rattle.std.proofs.lemmas.List.{append-nil, take_all}
use Rattle.site_disk.specs.declared.mem_site.Call.{Call}
use Rattle.site_disk.specs.declared.mem_site.Call.TheVariants.{Write, Say, Sync}
use Rattle.vec_record.specs.Vectors.{AreBytes}
use Rattle.site_disk.specs.Disk.{put}
use Rattle.site_disk.specs.ByteLists.{as_bytes_same}
use Rattle.site_disk.specs.State.{SiteState, Joins, Each}
use Rattle.site_disk.specs.Calls.{Stays, Writes, Syncs, Speaks}
use Rattle.site_disk.specs.Replay.{Replayed, step, replay, Image, During, told_state}
use Rattle.site_disk.specs.Clock.{none_later, told_is_now, content_is_image}
use Rattle.site_disk.proofs.Moments.{joins_start}

-- nothing has happened
pub stays_same : (start : List ℕ) (es : List Call) → Stays (told_state start es) (told_state start es)
stays_same start es =
    let now = told_is_now start es in
    record {
      joins = joins_start (told_state start es) now;
      said = refl;
      content = refl;
      images = λ c. (λ image. image, λ image. image);
      moments = λ s c since. now.only s c since;
    }

module _ (start : List ℕ) (es : List Call) (e : Call)
    (starts : (c : List ℕ) → Image (replay start es) c → During (replay start es) e (replay start es).said c)
    (ends : (c : List ℕ) → Image (step (replay start es) e) c → During (replay start es) e (step (replay start es) e).said c) where
  abbrev a : SiteState
  a = told_state start es

  abbrev b : SiteState
  b = told_state start (e ∷ es)

  pub during_only : Each a b (During (replay start es) e)
  during_only s c (inl now) = subst (λ r. During (replay start es) e r c) (sym now.0) (ends c now.1)
  during_only s c (inr (inl this)) = this.1
  during_only s c (inr (inr had)) = absurd (none_later start es (length es) s c (omega arith) had)

  splits : (t : ℕ) (s c : List ℕ) → t ≤ a.moment → b.since t s c → a.since t s c ⊎ b.since a.moment s c
  splits t s c le (inl now) = inr (inl now)
  splits t s c le (inr (inl this)) = inr (inr (inl (omega arith, this.1)))
  splits t s c le (inr (inr had)) = inl (inr had)

  keeps : (t : ℕ) (s c : List ℕ) → t ≤ a.moment → a.since t s c → b.since t s c
  keeps t s c le (inl now) = inr (inl (le, subst (λ r. During (replay start es) e r c) (sym now.0) (starts c now.1)))
  keeps t s c le (inr had) = inr (inr had)

  counts : (t : ℕ) (s c : List ℕ) → t ≤ a.moment → b.since a.moment s c → b.since t s c
  counts t s c le (inl now) = inl now
  counts t s c le (inr (inl this)) = inr (inl (le, this.1))
  counts t s c le (inr (inr had)) = absurd (none_later start es (length es) s c (omega arith) had)

  pub one_more : Joins a b
  one_more = record { later = omega arith; splits = splits; keeps = keeps; counts = counts }

module _ (start : List ℕ) (es : List Call) where
  abbrev d : Replayed
  d = replay start es

  pub wrote : {E : Type 0} (at : ℕ) (bytes : List ℕ) → AreBytes bytes → Writes {E = E} at bytes (Ok tt) (told_state start es) (told_state start (Write at bytes ∷ es))
  wrote {E} at bytes are = record {
    joins = one_more start es (Write at bytes) starts ends;
    said = refl;
    content = ap (λ (l : List ℕ). put at l d.content) (as_bytes_same bytes are);
    images = λ c image. inr image;
    moments = during_only start es (Write at bytes) starts ends;
  }
    where
      starts : (c : List ℕ) → Image d c → During d (Write at bytes) d.said c
      starts c image = (refl, inl image)

      ends : (c : List ℕ) → Image (step d (Write at bytes)) c → During d (Write at bytes) (step d (Write at bytes)).said c
      ends c image = (refl, inr image)

  pub synced : {E : Type 0} → Syncs {E = E} (Ok tt) (told_state start es) (told_state start (Sync ∷ es))
  synced {E} = record {
    joins = one_more start es Sync starts ends;
    said = refl;
    content = refl;
    only = λ c is. is;
    images = was;
    moments = during_only start es Sync starts ends;
  }
    where
      was : (c : List ℕ) → Image (step d Sync) c → Image d c
      was c is = subst (Image d) (sym is) (content_is_image start es)

      starts : (c : List ℕ) → Image d c → During d Sync d.said c
      starts c image = (refl, image)

      ends : (c : List ℕ) → Image (step d Sync) c → During d Sync (step d Sync).said c
      ends c image = (refl, was c image)

  pub spoke : {E : Type 0} (bytes : List ℕ) → Speaks {E = E} bytes (Ok tt) (told_state start es) (told_state start (Say bytes ∷ es))
  spoke {E} bytes = record {
    joins = one_more start es (Say bytes) starts ends;
    said = refl;
    prefix = whole;
    content = refl;
    images = λ c. (λ image. image, λ image. image);
    moments = during_only start es (Say bytes) starts ends;
  }
    where
      whole : (n : ℕ) × (d.said ++ bytes ≡ d.said ++ take n bytes)
      whole = (length bytes, ap (λ (l : List ℕ). d.said ++ l) (sym (take_all (length bytes) bytes (omega arith))))

      starts : (c : List ℕ) → Image d c → During d (Say bytes) d.said c
      starts c image = ((0, sym (append-nil d.said)), image)

      ends : (c : List ℕ) → Image (step d (Say bytes)) c → During d (Say bytes) (step d (Say bytes)).said c
      ends c image = (whole, image)

-- a failed call that did nothing
module _ {E : Type 0} (a : SiteState) (stays : Stays a a) where
  pub not_written : (r : Result Unit E) → IsErr r → (at : ℕ) (bytes : List ℕ) → Writes at bytes r a a
  not_written (Ok x) fails at bytes = absurd (cc fails)
  not_written (Err e) fails at bytes = record { joins = stays.joins; said = refl; content = tt; images = λ c image. inl image; moments = λ s c since. let m = stays.moments s c since in (m.0, inl m.1) }

  pub not_synced : (r : Result Unit E) → IsErr r → Syncs r a a
  not_synced (Ok x) fails = absurd (cc fails)
  not_synced (Err e) fails = record { joins = stays.joins; said = refl; content = tt; only = tt; images = λ c image. image; moments = stays.moments }

  pub not_said : (r : Result Unit E) → IsErr r → (bytes : List ℕ) → Speaks bytes r a a
  not_said (Ok x) fails bytes = absurd (cc fails)
  not_said (Err e) fails bytes = record {
    joins = stays.joins;
    said = tt;
    prefix = (0, sym (append-nil a.said));
    content = refl;
    images = λ c. (λ image. image, λ image. image);
    moments = λ s c since. let m = stays.moments s c since in ((0, m.0 ∙ sym (append-nil a.said)), m.1);
  }
