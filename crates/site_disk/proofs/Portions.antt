-- A piece that is written or read in parts.
use Rattle.std.proofs.Common.{◌≡◌, inl, inr, ℕ, ◌+◌, ◌-◌, ◌<◌, ◌≤◌, List, [], ◌∷◌, ◌++◌, length, take, drop, get_or, sym, ◌∙◌, ap, arith, refl, length-append}
use Rattle.std.proofs.lemmas.List.{append-nil, ext_get_or, get_or-append_right, get_or_append_left, length-take-le, take_rest}
use Rattle.std.proofs.Math.Seq.{take-add}
use Rattle.std.proofs.lemmas.Bool.{cases_lt}
use Rattle.site_disk.specs.Disk.{put}
use Rattle.site_disk.specs.Puts.{length-put, put_below, put_inside, put_above}

module _ (at x : ℕ) (xs : List ℕ) (y : ℕ) (ys file : List ℕ) where
  abbrev first : List ℕ
  first = x ∷ xs

  abbrev second : List ℕ
  second = y ∷ ys

  abbrev once : List ℕ
  once = put at (first ++ second) file

  abbrev twice : List ℕ
  twice = put (at + length first) second (put at first file)

  same_length : length twice ≡ length once
  same_length = omega (arith, length-put (at + length first) y ys (put at first file), length-put at x xs file, length-put at x (xs ++ second) file, length-append first second)

  in_first : (i : ℕ) → at ≤ i → i < at + length first → get_or twice i 0 ≡ get_or once i 0
  in_first i ge lt =
      let there : at + (i - at) ≡ i = omega (arith, ge) in
      let within : i - at < length first = omega (arith, ge, lt) in
      let more : i - at < length (first ++ second) = omega (arith, within, length-append first second) in
      put_below (at + length first) y ys (put at first file) i lt
      ∙ ap (λ (k : ℕ). get_or (put at first file) k 0) (sym there)
      ∙ put_inside at x xs file (i - at) within
      ∙ sym (get_or_append_left first second 0 (i - at) within)
      ∙ sym (put_inside at x (xs ++ second) file (i - at) more)
      ∙ ap (λ (k : ℕ). get_or once k 0) there

  in_second : (i : ℕ) → at + length first ≤ i → i < at + length first + length second → get_or twice i 0 ≡ get_or once i 0
  in_second i ge lt =
      let there : at + length first + (i - at - length first) ≡ i = omega (arith, ge) in
      let also : at + (i - at) ≡ i = omega (arith, ge) in
      let within : i - at - length first < length second = omega (arith, ge, lt) in
      let more : i - at < length (first ++ second) = omega (arith, ge, lt, length-append first second) in
      ap (λ (k : ℕ). get_or twice k 0) (sym there)
      ∙ put_inside (at + length first) y ys (put at first file) (i - at - length first) within
      ∙ sym (get_or-append_right first second (length first) (i - at) 0 refl (omega (arith, ge)))
      ∙ sym (put_inside at x (xs ++ second) file (i - at) more)
      ∙ ap (λ (k : ℕ). get_or once k 0) also

  past : (i : ℕ) → at + length first + length second ≤ i → get_or twice i 0 ≡ get_or once i 0
  past i ge =
      put_above (at + length first) y ys (put at first file) i ge
      ∙ put_above at x xs file i (omega (arith, ge))
      ∙ sym (put_above at x (xs ++ second) file i (omega (arith, ge, length-append first second)))

  before : (i : ℕ) → i < at → get_or twice i 0 ≡ get_or once i 0
  before i lt =
      put_below (at + length first) y ys (put at first file) i (omega (arith, lt))
      ∙ put_below at x xs file i lt
      ∙ sym (put_below at x (xs ++ second) file i lt)

  same : twice ≡ once
  same = ext_get_or 0 twice once same_length (λ i _. elim (cases_lt i at) [
    | inl lt ↦ before i lt
    | inr ge ↦ elim (cases_lt i (at + length first)) [
      | inl lt ↦ in_first i ge lt
      | inr ge2 ↦ elim (cases_lt i (at + length first + length second)) [
        | inl lt ↦ in_second i ge2 lt
        | inr ge3 ↦ past i ge3
      ]
    ]
  ])

-- two writes side by side are one
pub put_twice : (at : ℕ) (xs ys file : List ℕ) → put (at + length xs) ys (put at xs file) ≡ put at (xs ++ ys) file
put_twice at [] ys file = let here : at + 0 ≡ at = omega arith in ap (λ (k : ℕ). put k ys file) here
put_twice at (x ∷ xs) [] file = ap (λ (l : List ℕ). put at l file) (sym (append-nil (x ∷ xs)))
put_twice at (x ∷ xs) (y ∷ ys) file = same at x xs y ys file

-- what was taken, and then the first n of the rest
pub put_next : (at taken n : ℕ) (bytes old now new : List ℕ) → taken ≤ length bytes → now ≡ put at (take taken bytes) old
    → new ≡ put (at + taken) (take n (take (length bytes - taken) (drop taken bytes))) now → new ≡ put at (take (taken + n) bytes) old
put_next at taken n bytes old now new within so_far next =
    let len : length (take taken bytes) ≡ taken = length-take-le taken bytes within in
    next
    ∙ ap (λ (l : List ℕ). put (at + taken) (take n l) now) (take_rest bytes taken)
    ∙ ap (λ (l : List ℕ). put (at + taken) (take n (drop taken bytes)) l) so_far
    ∙ ap (λ (k : ℕ). put (at + k) (take n (drop taken bytes)) (put at (take taken bytes) old)) (sym len)
    ∙ put_twice at (take taken bytes) (take n (drop taken bytes)) old
    ∙ ap (λ (l : List ℕ). put at l old) (sym (take-add taken n bytes))
