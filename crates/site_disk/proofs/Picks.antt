-- The images of a crash that a site in memory picks from.
use Rattle.std.proofs.Common.{◌≡◌, inl, inr, ℕ, ◌+◌, ◌-◌, ◌<◌, ◌≤◌, ◌/◌, true, false, List, [], ◌∷◌, ◌++◌, length, take, get_or, reverse, refl, sym, ◌∙◌, ap, subst, arith, length-append, length-take}
use Rattle.std.specs.Prelude.{replicate, Result, Ok, Err, IfOk}
use Rattle.std.proofs.lemmas.List.{take_all, take-append-le, take_more, reverse-append, get_or_append_left, get_or_push, get_or-take, length-replicate, length_push}
use Rattle.std.proofs.lemmas.Bool.{cases_lt, cases_eq}
use Rattle.vec_record.specs.Vectors.{AreBytes}
use Rattle.site_disk.specs.declared.mem_site.Call.{Call}
use Rattle.site_disk.specs.declared.mem_site.Call.TheVariants.{Write, Say, Sync}
use Rattle.site_disk.specs.Disk.{put, Torn, IsImage}
use Rattle.site_disk.specs.ByteLists.{bytes_append, bytes_take, bytes_replicate, as_bytes_are, length-as_bytes}
use Rattle.site_disk.specs.Replay.{as_bytes, replay, Image}
use Rattle.site_disk.specs.Picks.{half, after, after_half, halved, cut, is_sync, IsSettled}
use Rattle.site_disk.specs.Clock.{image_put, content_is_image, replay_bytes, image_bytes}
use Rattle.site_disk.specs.Puts.{length-put, put_below, put_above}

-- one more call, the oldest first
pub reverse_push : (xs : List Call) (x : Call) → reverse (xs ++ x ∷ []) ≡ x ∷ reverse xs
reverse_push xs x = reverse-append xs (x ∷ [])

pub reverse_more : (xs : List Call) (i : ℕ) (d : Call) → i < length xs → reverse (take (i + 1) xs) ≡ get_or xs i d ∷ reverse (take i xs)
reverse_more xs i d lt = ap reverse (take_more xs i d lt) ∙ reverse_push (take i xs) (get_or xs i d)

pub after_is : (start : List ℕ) (e : Call) (es : List Call) → (replay start (e ∷ es)).content ≡ after e (replay start es).content
after_is start (Write at bytes) es = refl
after_is start (Say bytes) es = refl
after_is start Sync es = refl

pub half_is : (start : List ℕ) (e : Call) (es : List Call) → is_sync e ≡ false → halved start (e ∷ es) ≡ after_half e (halved start es)
half_is start (Write at bytes) es open_ = refl
half_is start (Say bytes) es open_ = refl
half_is start Sync es open_ = absurd (cc open_)

-- the last sync
pub settled_none : IsSettled 0 []
settled_none = record { within = omega arith; base = λ start. refl; halves = λ start. refl; later = λ k d le lt. absurd (omega (arith, lt)) }

pub settled_sync : (xs : List Call) (x : Call) → is_sync x ≡ true → IsSettled (length xs + 1) (xs ++ x ∷ [])
settled_sync xs (Write at bytes) sync = absurd (cc sync)
settled_sync xs (Say bytes) sync = absurd (cc sync)
settled_sync xs Sync sync = record {
  within = omega (arith, len);
  base = λ start. ap (λ (l : List Call). (replay start (reverse l)).content) whole ∙ at_sync start ∙ ap (λ (l : List Call). (replay start l).base) (sym (reverse_push xs Sync));
  halves = λ start. ap (λ (l : List Call). (replay start (reverse l)).content) whole ∙ at_sync start ∙ ap (halved start) (sym (reverse_push xs Sync)) ∙ ap (λ (l : List Call). halved start (reverse l)) (sym whole);
  later = λ k d le lt. absurd (omega (arith, len, le, lt));
}
  where
    len : length (xs ++ Sync ∷ []) ≡ length xs + 1
    len = length_push xs Sync

    whole : take (length xs + 1) (xs ++ Sync ∷ []) ≡ xs ++ Sync ∷ []
    whole = take_all (length xs + 1) (xs ++ Sync ∷ []) (omega (arith, len))

    at_sync : (start : List ℕ) → (replay start (reverse (xs ++ Sync ∷ []))).content ≡ (replay start (reverse xs)).content
    at_sync start = ap (λ (l : List Call). (replay start l).content) (reverse_push xs Sync)

pub settled_more : (xs : List Call) (n : ℕ) (x : Call) → IsSettled n xs → is_sync x ≡ false → IsSettled n (xs ++ x ∷ [])
settled_more xs n x so_far none = record {
  within = omega (arith, so_far.within, len);
  base = λ start. ap (λ (l : List Call). (replay start (reverse l)).content) front ∙ so_far.base start ∙ sym (same_base start x (reverse xs) none) ∙ ap (λ (l : List Call). (replay start l).base) (sym (reverse_push xs x));
  halves = λ start. subst (λ (l : List Call). (replay start (reverse l)).content ≡ halved start (reverse l)) (sym front) (so_far.halves start);
  later = λ k d le lt. elim (cases_lt k (length xs)) [
    | inl before ↦ ap is_sync (get_or_append_left xs (x ∷ []) d k before) ∙ so_far.later k d le before
    | inr at_end ↦ ap is_sync (get_or_push xs x d k (omega (arith, lt, len, at_end))) ∙ none
  ];
}
  where
    len : length (xs ++ x ∷ []) ≡ length xs + 1
    len = length_push xs x

    front : take n (xs ++ x ∷ []) ≡ take n xs
    front = take-append-le n xs (x ∷ []) so_far.within

    same_base : (start : List ℕ) (e : Call) (es : List Call) → is_sync e ≡ false → (replay start (e ∷ es)).base ≡ (replay start es).base
    same_base start (Write at bytes) es open_ = refl
    same_base start (Say bytes) es open_ = refl
    same_base start Sync es open_ = absurd (cc open_)

-- no write since the last sync is kept
pub base_is_image : (base : List ℕ) (ranges : List (ℕ × ℕ)) → AreBytes base → IsImage base ranges base
base_is_image base [] are = refl
base_is_image base (w ∷ ws) are = (base, base_is_image base ws are, record { bytes = are; no_shorter = omega arith; no_longer = omega arith; below = λ i long lt. refl; above = λ i long ge. refl })

bytes_half : (bytes : List ℕ) → AreBytes bytes → AreBytes (half bytes)
bytes_half bytes are = bytes_append (take (length bytes / 2) bytes) (replicate (length bytes - length bytes / 2) 165) (bytes_take (length bytes / 2) bytes are) (bytes_replicate (length bytes - length bytes / 2) 165 (omega arith))

length-half : (bytes : List ℕ) → length (half bytes) ≡ length bytes
length-half bytes =
    let part : ℕ = length bytes / 2 in
    let byte : ℕ = 165 in
    omega (arith, length-append (take part bytes) (replicate (length bytes - part) byte), length-take part bytes, length-replicate (length bytes - part) byte)

pub halved_is_image : (start : List ℕ) (es : List Call) → Image (replay start es) (halved start es)
halved_is_image start [] = refl
halved_is_image start (Write at bytes ∷ es) =
    let d = replay start es in
    let image = halved_is_image start es in
    image_put d.base d.ranges at (length bytes) (half (as_bytes bytes)) (halved start es) (length-half (as_bytes bytes) ∙ length-as_bytes bytes) (bytes_half (as_bytes bytes) (as_bytes_are bytes)) (image_bytes d.base d.ranges (halved start es) (replay_bytes start es).base image) image
halved_is_image start (Say bytes ∷ es) = halved_is_image start es
halved_is_image start (Sync ∷ es) = refl

-- a write never makes a file shorter
no_shorter : (at : ℕ) (bytes file : List ℕ) → length file ≤ length (put at bytes file)
no_shorter at [] file = omega arith
no_shorter at (b ∷ more) file = omega (arith, length-put at b more file)

content_long : (start : List ℕ) (es : List Call) → length (replay start es).base ≤ length (replay start es).content
content_long start [] = omega arith
content_long start (Write at bytes ∷ es) = omega (arith, content_long start es, no_shorter at (as_bytes bytes) (replay start es).content)
content_long start (Say bytes ∷ es) = content_long start es
content_long start (Sync ∷ es) = omega arith

-- what a crash that cuts the file may make of a write
torn_cut : (at : ℕ) (bytes file : List ℕ) (n : ℕ) → n ≤ length file → AreBytes (put at bytes file) → Torn at (length bytes) (take n file) (take n (put at bytes file))
torn_cut at [] file n le are = record { bytes = bytes_take n file are; no_shorter = omega arith; no_longer = omega arith; below = λ i long lt. refl; above = λ i long ge. refl }
torn_cut at (b ∷ more) file n le are = record {
  bytes = bytes_take n (put at (b ∷ more) file) are;
  no_shorter = omega (arith, short, long);
  no_longer = omega (arith, short, long);
  below = λ i inside lt. get_or-take n (put at (b ∷ more) file) i 0 (omega (arith, inside, short)) ∙ put_below at b more file i lt ∙ sym (get_or-take n file i 0 (omega (arith, inside, short)));
  above = λ i inside ge. get_or-take n (put at (b ∷ more) file) i 0 (omega (arith, inside, short)) ∙ put_above at b more file i ge ∙ sym (get_or-take n file i 0 (omega (arith, inside, short)));
}
  where
    short : length (take n file) ≡ n
    short = omega (arith, length-take n file, le)

    long : length (take n (put at (b ∷ more) file)) ≡ n
    long = omega (arith, length-take n (put at (b ∷ more) file), length-put at b more file, le)

pub cut_is_image : (start : List ℕ) (es : List Call) → Image (replay start es) (cut start es)
cut_is_image start [] = take_all (length (as_bytes start)) (as_bytes start) (omega arith)
cut_is_image start (Write at bytes ∷ es) =
    let d = replay start es in
    (cut start es, cut_is_image start es, subst (λ (k : ℕ). Torn at k (cut start es) (cut start (Write at bytes ∷ es))) (length-as_bytes bytes) (torn_cut at (as_bytes bytes) d.content (length d.base) (content_long start es) (replay_bytes start (Write at bytes ∷ es)).content))
cut_is_image start (Say bytes ∷ es) = cut_is_image start es
cut_is_image start (Sync ∷ es) = take_all (length (replay start es).content) (replay start es).content (omega arith)

module _ (calls : List Call) (i : ℕ) (x : Call) (lt : i < length calls) (is : x ≡ get_or calls i x) where
  pushed : take (i + 1) calls ≡ take i calls ++ x ∷ []
  pushed = take_more calls i x lt ∙ ap (λ (y : Call). take i calls ++ y ∷ []) (sym is)

  pub settled_here : is_sync x ≡ true → IsSettled (i + 1) (take (i + 1) calls)
  settled_here sync =
      let long : length (take i calls) + 1 ≡ i + 1 = omega (arith, length-take i calls, lt) in
      subst (IsSettled (i + 1)) (sym pushed) (subst (λ (k : ℕ). IsSettled k (take i calls ++ x ∷ [])) long (settled_sync (take i calls) x sync))

  pub settled_before : (n : ℕ) → IsSettled n (take i calls) → is_sync x ≡ false → IsSettled n (take (i + 1) calls)
  settled_before n so_far none = subst (IsSettled n) (sym pushed) (settled_more (take i calls) n x so_far none)

-- whatever is picked is an image
pub one_of : {E : Type 0} (start : List ℕ) (es : List Call) (pick : ℕ) (r : Result (List ℕ) E) → (pick ≡ 0 → IfOk r (λ image. image ≡ (replay start es).base)) → (pick ≡ 1 → IfOk r (λ image. image ≡ (replay start es).content))
    → (pick ≡ 2 → IfOk r (λ image. image ≡ halved start es)) → (3 ≤ pick → IfOk r (λ image. image ≡ cut start es)) → IfOk r (Image (replay start es))
one_of start es pick (Err e) none all halves rest = tt
one_of start es pick (Ok image) none all halves rest =
    let d = replay start es in
    elim (cases_eq pick 0) [
      | inl is ↦ subst (Image d) (sym (none is)) (base_is_image d.base d.ranges (replay_bytes start es).base)
      | inr not_none ↦ elim (cases_eq pick 1) [
        | inl is ↦ subst (Image d) (sym (all is)) (content_is_image start es)
        | inr not_all ↦ elim (cases_eq pick 2) [
          | inl is ↦ subst (Image d) (sym (halves is)) (halved_is_image start es)
          | inr not_half ↦ subst (Image d) (sym (rest (omega (arith, not_none, not_all, not_half)))) (cut_is_image start es)
        ]
      ]
    ]
