-- Lists of bytes, and what parts of them, and a write into them, are.
-- Lemmas alone: the law of `MemSite` cites them, and what a law cites stands in specs/.
use Rattle.std.proofs.Common.{◌≡◌, ℕ, ◌%◌, ◌<◌, ◌+◌, ◌-◌, List, [], ◌∷◌, ◌++◌, length, take, drop, get_or, refl, arith}
use Rattle.std.specs.Prelude.{replicate, zero, suc}
use Rattle.vec_record.specs.Vectors.{AreBytes}
use Rattle.site_disk.specs.Disk.{put, zeros}
use Rattle.site_disk.specs.Replay.{as_bytes}

pub bytes_append : (a b : List ℕ) → AreBytes a → AreBytes b → AreBytes (a ++ b)
bytes_append [] b ha hb = hb
bytes_append (x ∷ a) b ha hb = (ha.0, bytes_append a b ha.1 hb)

pub bytes_take : (n : ℕ) (a : List ℕ) → AreBytes a → AreBytes (take n a)
bytes_take zero a h = tt
bytes_take (suc n) [] h = tt
bytes_take (suc n) (x ∷ a) h = (h.0, bytes_take n a h.1)

pub bytes_drop : (n : ℕ) (a : List ℕ) → AreBytes a → AreBytes (drop n a)
bytes_drop zero a h = h
bytes_drop (suc n) [] h = tt
bytes_drop (suc n) (x ∷ a) h = bytes_drop n a h.1

pub bytes_replicate : (n b : ℕ) → b < 256 → AreBytes (replicate n b)
bytes_replicate zero b h = tt
bytes_replicate (suc n) b h = (h, bytes_replicate n b h)

pub bytes_put : (at : ℕ) (bytes file : List ℕ) → AreBytes bytes → AreBytes file → AreBytes (put at bytes file)
bytes_put at [] file hb hf = hf
bytes_put at (b ∷ bytes) file hb hf =
    bytes_append (take at (file ++ zeros (at - length file))) ((b ∷ bytes) ++ drop (at + length (b ∷ bytes)) file)
    (bytes_take at (file ++ zeros (at - length file)) (bytes_append file (zeros (at - length file)) hf (bytes_replicate (at - length file) 0 (omega arith))))
    (bytes_append (b ∷ bytes) (drop (at + length (b ∷ bytes)) file) hb (bytes_drop (at + length (b ∷ bytes)) file hf))

pub as_bytes_are : (l : List ℕ) → AreBytes (as_bytes l)
as_bytes_are [] = tt
as_bytes_are (x ∷ l) = (omega arith, as_bytes_are l)

-- a list of bytes is itself
pub as_bytes_same : (l : List ℕ) → AreBytes l → as_bytes l ≡ l
as_bytes_same [] h = refl
as_bytes_same (x ∷ l) h =
    let first : x % 256 ≡ x = omega (arith, h.0) in
    let rest : as_bytes l ≡ l = as_bytes_same l h.1 in
    cc (first, rest)

pub length-as_bytes : (l : List ℕ) → length (as_bytes l) ≡ length l
length-as_bytes [] = refl
length-as_bytes (x ∷ l) = omega (arith, length-as_bytes l)

pub bytes_by_index : (l : List ℕ) → ((i : ℕ) → get_or l i 0 < 256) → AreBytes l
bytes_by_index [] h = tt
bytes_by_index (x ∷ l) h = (h 0, bytes_by_index l (λ i. h (suc i)))
