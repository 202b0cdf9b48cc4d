-- The clock of a site in memory: the moments since now, what is read, and that images are bytes.
-- Lemmas alone: the law of `MemSite` cites them, and what a law cites stands in specs/.
use Rattle.std.proofs.Common.{◌≡◌, ◌⊎◌, inl, inr, ℕ, ◌≤◌, List, [], ◌∷◌, length, refl, sym, subst, arith}
use Rattle.vec_record.specs.Vectors.{AreBytes}
use Rattle.site_disk.specs.declared.mem_site.Call.{Call}
use Rattle.site_disk.specs.declared.mem_site.Call.TheVariants.{Write, Say, Sync}
use Rattle.site_disk.specs.Disk.{put, Torn, IsImage}
use Rattle.site_disk.specs.State.{IsNow}
use Rattle.site_disk.specs.Replay.{as_bytes, Replayed, replay, Image, Had, Now, told_state}
use Rattle.site_disk.specs.ByteLists.{bytes_put, as_bytes_are, length-as_bytes}
use Rattle.site_disk.specs.Puts.{length-put, put_below, put_above}

-- what a write leaves is one of what a crash may leave of it
pub torn_put : (at : ℕ) (bytes file : List ℕ) → AreBytes (put at bytes file) → Torn at (length bytes) file (put at bytes file)
torn_put at [] file are = record { bytes = are; no_shorter = omega arith; no_longer = omega arith; below = λ i long lt. refl; above = λ i long ge. refl }
torn_put at (b ∷ more) file are = record {
  bytes = are;
  no_shorter = omega (arith, length-put at b more file);
  no_longer = omega (arith, length-put at b more file);
  below = λ i long lt. put_below at b more file i lt;
  above = λ i long ge. put_above at b more file i ge;
}

-- the base and the content are bytes
pub record OfBytes (d : Replayed) : Type 0 where
  pub base : AreBytes d.base
  pub content : AreBytes d.content

pub replay_bytes : (start : List ℕ) (es : List Call) → OfBytes (replay start es)
replay_bytes start [] = record { base = as_bytes_are start; content = as_bytes_are start }
replay_bytes start (Write at bytes ∷ es) = let so_far = replay_bytes start es in record {
  base = so_far.base;
  content = bytes_put at (as_bytes bytes) (replay start es).content (as_bytes_are bytes) so_far.content;
}
replay_bytes start (Say bytes ∷ es) = let so_far = replay_bytes start es in record { base = so_far.base; content = so_far.content }
replay_bytes start (Sync ∷ es) = let so_far = replay_bytes start es in record { base = so_far.content; content = so_far.content }

pub image_bytes : (base : List ℕ) (ranges : List (ℕ × ℕ)) (c : List ℕ) → AreBytes base → IsImage base ranges c → AreBytes c
image_bytes base [] c are is = subst AreBytes (sym is) are
image_bytes base (w ∷ ws) c are (d, image, torn) = torn.bytes

-- a write of as many bytes makes an image of an image
pub image_put : (base : List ℕ) (ranges : List (ℕ × ℕ)) (at n : ℕ) (bytes file : List ℕ) → length bytes ≡ n → AreBytes bytes → AreBytes file
    → IsImage base ranges file → IsImage base ((at, n) ∷ ranges) (put at bytes file)
image_put base ranges at n bytes file len are_bytes are_file image =
    (file, image, subst (λ (k : ℕ). Torn at k file (put at bytes file)) len (torn_put at bytes file (bytes_put at bytes file are_bytes are_file)))

pub content_is_image : (start : List ℕ) (es : List Call) → Image (replay start es) (replay start es).content
content_is_image start [] = refl
content_is_image start (Write at bytes ∷ es) =
    let d = replay start es in
    image_put d.base d.ranges at (length bytes) (as_bytes bytes) d.content (length-as_bytes bytes) (as_bytes_are bytes) (replay_bytes start es).content (content_is_image start es)
content_is_image start (Say bytes ∷ es) = content_is_image start es
content_is_image start (Sync ∷ es) = refl

-- no call is as late as now
pub none_later : (start : List ℕ) (es : List Call) (t : ℕ) (s c : List ℕ) → length es ≤ t → Had start es t s c → ⊥
none_later start [] t s c late had = had
none_later start (e ∷ es) t s c late (inl this) = absurd (omega (arith, late, this.0))
none_later start (e ∷ es) t s c late (inr had) = none_later start es t s c (omega (arith, late)) had

pub told_is_now : (start : List ℕ) (es : List Call) → IsNow (told_state start es)
told_is_now start es = record {
  only = only;
  counts = λ t c le image. inl (refl, image);
  read = content_is_image start es;
  bytes = λ c image. image_bytes (replay start es).base (replay start es).ranges c (replay_bytes start es).base image;
}
  where
    only : (s c : List ℕ) → Now (replay start es) s c ⊎ Had start es (length es) s c → Now (replay start es) s c
    only s c (inl now) = now
    only s c (inr had) = absurd (none_later start es (length es) s c (omega arith) had)
