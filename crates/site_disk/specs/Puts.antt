-- What stands in a file after a write.
-- Lemmas alone: the law of `MemSite` cites them, and what a law cites stands in specs/.
use Rattle.std.proofs.Common.{◌≡◌, inl, inr, ℕ, ◌+◌, ◌-◌, ◌<◌, ◌≤◌, max, List, ◌∷◌, ◌++◌, length, take, drop, get_or, refl, sym, ◌∙◌, ap, arith, length-append, length-drop}
use Rattle.std.proofs.lemmas.List.{get_or-take, get_or-drop, get_or-append_right, get_or_append_left, get_or-replicate, get_or_past, length-replicate, length-take-le}
use Rattle.std.proofs.lemmas.Bool.{cases_lt}
use Rattle.site_disk.specs.Disk.{put, zeros}

pub length-zeros : (n : ℕ) → length (zeros n) ≡ n
length-zeros n = let z : ℕ = 0 in length-replicate n z

abbrev none : ℕ
none = 0

zero_at : (n i : ℕ) → get_or (zeros n) i 0 ≡ none
zero_at n i = elim (cases_lt i n) [
  | inl lt ↦ get_or-replicate n i 0 0 lt
  | inr ge ↦ get_or_past (zeros n) i 0 (omega (arith, length-zeros n, ge))
]

-- zeros at the end are what a read past the end gives
padded : (file : List ℕ) (n i : ℕ) → get_or (file ++ zeros n) i 0 ≡ get_or file i 0
padded file n i = elim (cases_lt i (length file)) [
  | inl lt ↦ get_or_append_left file (zeros n) 0 i lt
  | inr ge ↦ get_or-append_right file (zeros n) (length file) i 0 refl ge ∙ zero_at n (i - length file) ∙ sym (get_or_past file i 0 ge)
]

module _ (at : ℕ) (b : ℕ) (more file : List ℕ) where
  abbrev bytes : List ℕ
  bytes = b ∷ more

  abbrev front : List ℕ
  front = take at (file ++ zeros (at - length file))

  length-front : length front ≡ at
  length-front = length-take-le at (file ++ zeros (at - length file)) (omega (arith, length-append file (zeros (at - length file)), length-zeros (at - length file)))

  pub length-put : length (put at bytes file) ≡ max (length file) (at + length bytes)
  length-put = omega (arith, length-append front (bytes ++ drop (at + length bytes) file), length-append bytes (drop (at + length bytes) file), length-drop (at + length bytes) file, length-front)

  pub put_below : (i : ℕ) → i < at → get_or (put at bytes file) i 0 ≡ get_or file i 0
  put_below i lt =
      get_or_append_left front (bytes ++ drop (at + length bytes) file) 0 i (omega (arith, length-front, lt))
      ∙ get_or-take at (file ++ zeros (at - length file)) i 0 lt ∙ padded file (at - length file) i

  pub put_inside : (i : ℕ) → i < length bytes → get_or (put at bytes file) (at + i) 0 ≡ get_or bytes i 0
  put_inside i lt =
      let there : at + i - at ≡ i = omega arith in
      get_or-append_right front (bytes ++ drop (at + length bytes) file) at (at + i) 0 length-front (omega arith)
      ∙ ap (λ (k : ℕ). get_or (bytes ++ drop (at + length bytes) file) k 0) there
      ∙ get_or_append_left bytes (drop (at + length bytes) file) 0 i lt

  pub put_above : (i : ℕ) → at + length bytes ≤ i → get_or (put at bytes file) i 0 ≡ get_or file i 0
  put_above i ge =
      let there : at + length bytes + (i - at - length bytes) ≡ i = omega (arith, ge) in
      get_or-append_right front (bytes ++ drop (at + length bytes) file) at i 0 length-front (omega (arith, ge))
      ∙ get_or-append_right bytes (drop (at + length bytes) file) (length bytes) (i - at) 0 refl (omega (arith, ge))
      ∙ get_or-drop (at + length bytes) file (i - at - length bytes) 0
      ∙ ap (λ (k : ℕ). get_or file k 0) there
