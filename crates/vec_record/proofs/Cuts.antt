-- Table that lie one behind another in a list of bytes.
use Rattle.std.proofs.Common.{◌≡◌, ◌∙◌, sym, ap, subst, ℕ, zero, suc, ◌+◌, ◌-◌, ◌*◌, ◌<◌, ◌≤◌, List, [], ◌∷◌, ◌++◌, take, drop, length, slice_index_or, refl, arith}
use Rattle.std.proofs.lemmas.List.{take_at, drop_at, take_all, take-append-le, drop-append-le, drop-drop, append_assoc, length-take, length-take-le, length-drop, length-append}
use Rattle.std.proofs.lemmas.List.{nil_from_length}
use Rattle.std.proofs.Math.Seq.{take-add}
use Rattle.std.specs.List.{AllByRecursion, insert, remove}
use Rattle.vec_record.specs.Vectors.{AreBytes, IsVector}
use Rattle.vec_record.specs.Table.{Table, AreRows, row_at}
use Rattle.vec_record.specs.inside.Cut.{cut}

abbrev pub as_table : ℕ → List (List ℕ) → Table
as_table w rs = record { width = w; rows = rs }

pub length_cut : (w n : ℕ) (bs : List ℕ) → length (cut w n bs) ≡ n
length_cut w zero bs = refl
length_cut w (suc n) bs = omega (arith, length_cut w n (drop w bs))

-- the rows of an opened block are as many as it counts
pub counted : (w n : ℕ) (bs : List ℕ) (b : Table) → as_table w (cut w n bs) ≡ b → length b.rows ≡ n
counted w n bs b e = ap (λ (x : Table). length x.rows) (sym e) ∙ length_cut w n bs

-- a row ends within the bytes
pub row_ends : (w at n : ℕ) → at < n → at * w + w ≤ n * w
row_ends w at zero h = absurd (omega arith)
row_ends w zero (suc n) h = omega arith
row_ends w (suc at) (suc n) h = omega (arith, row_ends w at n (omega arith))

pub row_begins : (w at n : ℕ) → at ≤ n → at * w ≤ n * w
row_begins w zero n h = omega arith
row_begins w (suc at) zero h = absurd (omega arith)
row_begins w (suc at) (suc n) h = omega (arith, row_begins w at n (omega arith))

pub cut_at : (w n at : ℕ) (bs : List ℕ) → at < n → slice_index_or (cut w n bs) at [] ≡ take w (drop (at * w) bs)
cut_at w zero at bs h = absurd (omega arith)
cut_at w (suc n) zero bs h = let e : 0 ≡ zero * w = omega arith in ap (λ k. take w (drop k bs)) e
cut_at w (suc n) (suc at) bs h =
    let e : w + at * w ≡ suc at * w = omega arith in
    cut_at w n at (drop w bs) (omega arith) ∙ (ap (take w) (drop-drop (at * w) w bs) ∙ ap (λ k. take w (drop k bs)) e)

-- bytes put in before a row
abbrev pub bytes_in : ℕ → List ℕ → List ℕ → List ℕ
bytes_in k r bs = take k bs ++ (r ++ drop k bs)

cut_first : (w n : ℕ) (r bs : List ℕ) → length r ≡ w → cut w (suc n) (r ++ bs) ≡ r ∷ cut w n bs
cut_first w n r bs l = rw (take_at r bs w l, drop_at r bs w l) refl

later_row : (w k : ℕ) (r bs : List ℕ) → w ≤ length bs → bytes_in (w + k) r bs ≡ take w bs ++ bytes_in k r (drop w bs)
later_row w k r bs l =
    rw (take-add w k bs, ← drop-drop k w bs) (append_assoc (take w bs) (take k (drop w bs)) (r ++ drop k (drop w bs)))

pub cut_insert : (w n at : ℕ) (r bs : List ℕ) → length r ≡ w → at ≤ n → length bs ≡ n * w → cut w (suc n) (bytes_in (at * w) r bs) ≡ insert (cut w n bs) at r
cut_insert w n zero r bs l h m =
    let e : zero * w ≡ 0 = omega arith in
    ap (λ k. cut w (suc n) (bytes_in k r bs)) e ∙ cut_first w n r bs l
cut_insert w zero (suc at) r bs l h m = absurd (omega arith)
cut_insert w (suc n) (suc at) r bs l h m =
    let long : w ≤ length bs = omega arith in
    let e : suc at * w ≡ w + at * w = omega arith in
    let rest : length (drop w bs) ≡ n * w = omega (arith, length-drop w bs) in
    ap (λ k. cut w (suc (suc n)) (bytes_in k r bs)) e
    ∙ (ap (cut w (suc (suc n))) (later_row w (at * w) r bs long)
    ∙ (cut_first w (suc n) (take w bs) (bytes_in (at * w) r (drop w bs)) (length-take-le w bs long)
    ∙ ap (λ z. take w bs ∷ z) (cut_insert w n at r (drop w bs) l (omega arith) rest)))

-- a row put in at the end
pub cut_push : (w n : ℕ) (r bs : List ℕ) → length r ≡ w → length bs ≡ n * w → cut w (suc n) (bs ++ r) ≡ cut w n bs ++ r ∷ []
cut_push w zero r bs l m =
    let e : bs ≡ [] = nil_from_length bs (omega arith) in
    let all : take w r ≡ r = take_all w r (omega arith) in
    rw (e, all) refl
cut_push w (suc n) r bs l m =
    let long : w ≤ length bs = omega arith in
    let rest : length (drop w bs) ≡ n * w = omega (arith, length-drop w bs) in
    let front : take w (bs ++ r) ≡ take w bs = take-append-le w bs r long in
    let back : drop w (bs ++ r) ≡ drop w bs ++ r = drop-append-le w bs r long in
    ap (λ z. z ∷ cut w (suc n) (drop w (bs ++ r))) front ∙ (ap (λ z. take w bs ∷ cut w (suc n) z) back ∙ ap (λ z. take w bs ∷ z) (cut_push w n r (drop w bs) l rest))

-- bytes taken out from a place on
abbrev pub bytes_out : ℕ → ℕ → List ℕ → List ℕ
bytes_out k w bs = take k bs ++ drop (k + w) bs

later_out : (w k : ℕ) (bs : List ℕ) → w ≤ length bs → bytes_out (w + k) w bs ≡ take w bs ++ bytes_out k w (drop w bs)
later_out w k bs l =
    let e : w + k + w ≡ w + (k + w) = omega arith in
    ap (λ z. take (w + k) bs ++ drop z bs) e ∙ rw (take-add w k bs, ← drop-drop (k + w) w bs) (append_assoc (take w bs) (take k (drop w bs)) (drop (k + w) (drop w bs)))

pub cut_remove : (w n at : ℕ) (bs : List ℕ) → at < suc n → length bs ≡ suc n * w → cut w n (bytes_out (at * w) w bs) ≡ remove (cut w (suc n) bs) at
cut_remove w n zero bs h m =
    let e : zero * w ≡ 0 = omega arith in
    let f : 0 + w ≡ w = omega arith in
    ap (λ k. cut w n (bytes_out k w bs)) e ∙ ap (λ k. cut w n (drop k bs)) f
cut_remove w zero (suc at) bs h m = absurd (omega arith)
cut_remove w (suc n) (suc at) bs h m =
    let long : w ≤ length bs = omega arith in
    let e : suc at * w ≡ w + at * w = omega arith in
    let rest : length (drop w bs) ≡ suc n * w = omega (arith, length-drop w bs) in
    ap (λ k. cut w (suc n) (bytes_out k w bs)) e
    ∙ (ap (cut w (suc n)) (later_out w (at * w) bs long)
    ∙ (cut_first w n (take w bs) (bytes_out (at * w) w (drop w bs)) (length-take-le w bs long)
    ∙ ap (λ z. take w bs ∷ z) (cut_remove w n at (drop w bs) (omega arith) rest)))

-- bytes stay bytes, however they are cut
taken : (k : ℕ) (bs : List ℕ) → AreBytes bs → AreBytes (take k bs)
taken zero bs h = tt
taken (suc k) [] h = tt
taken (suc k) (x ∷ xs) h = (h.0, taken k xs h.1)

dropped : (k : ℕ) (bs : List ℕ) → AreBytes bs → AreBytes (drop k bs)
dropped zero bs h = h
dropped (suc k) [] h = tt
dropped (suc k) (x ∷ xs) h = dropped k xs h.1

all_cut : (w n : ℕ) (bs : List ℕ) → length bs ≡ n * w → AreBytes bs → AllByRecursion (IsVector w) (cut w n bs)
all_cut w zero bs l h = tt
all_cut w (suc n) bs l h =
    let long : w ≤ length bs = omega arith in
    let rest : length (drop w bs) ≡ n * w = omega (arith, length-drop w bs) in
    (record { len = length-take-le w bs long; bytes = taken w bs h }, all_cut w n (drop w bs) rest (dropped w bs h))

-- the same of an opened block
module _ (w n : ℕ) (bs : List ℕ) (b : Table) (is : as_table w (cut w n bs) ≡ b) (whole : length bs ≡ n * w) where
  pub row_within : (at : ℕ) → at < length b.rows → (at * w + w ≤ length bs) × (at * w ≤ length bs)
  row_within at h =
      let e : at * w + w ≤ n * w = row_ends w at n (omega (arith, counted w n bs b is)) in
      (omega arith, omega arith)

  pub are_rows : AreBytes bs → AreRows b
  are_rows h = subst AreRows is (all_cut w n bs whole h)

  pub begins_within : (at : ℕ) → at ≤ length b.rows → at * w ≤ length bs
  begins_within at h =
      let e : at * w ≤ n * w = row_begins w at n (omega (arith, counted w n bs b is)) in
      omega arith

  pub row_is : (at : ℕ) → at < length b.rows → take w (drop (at * w) bs) ≡ row_at b at
  row_is at h =
      sym (cut_at w n at bs (omega (arith, counted w n bs b is))) ∙ ap (λ (x : Table). row_at x at) is

  -- the same in the words of a width that is known otherwise
  pub row_within_by : (m at : ℕ) → m ≡ b.width → at < length b.rows → (at * m + m ≤ length bs) × (at * m ≤ length bs)
  row_within_by m at e h =
      let same : w ≡ m = ap (λ (x : Table). x.width) is ∙ sym e in
      subst (λ (k : ℕ). (at * k + k ≤ length bs) × (at * k ≤ length bs)) same (row_within at h)

  pub row_is_by : (m at : ℕ) → m ≡ b.width → at < length b.rows → take m (drop (at * m) bs) ≡ row_at b at
  row_is_by m at e h =
      let same : w ≡ m = ap (λ (x : Table). x.width) is ∙ sym e in
      subst (λ (k : ℕ). take k (drop (at * k) bs) ≡ row_at b at) same (row_is at h)

  pub pushed : (r after : List ℕ) → length r ≡ b.width → after ≡ bs ++ r → as_table w (cut w (n + 1) after) ≡ as_table b.width (b.rows ++ r ∷ [])
  pushed r after l e =
      let same : length r ≡ w = l ∙ ap (λ (x : Table). x.width) (sym is) in
      let more : n + 1 ≡ suc n = omega arith in
      ap (λ z. as_table w (cut w (n + 1) z)) e
      ∙ (ap (λ k. as_table w (cut w k (bs ++ r))) more
      ∙ (ap (λ z. as_table w z) (cut_push w n r bs same whole) ∙ ap (λ (x : Table). as_table x.width (x.rows ++ r ∷ [])) is))

  pub inserted : (at : ℕ) (r after : List ℕ) → length r ≡ b.width → at ≤ length b.rows → after ≡ bytes_in (at * w) r bs → as_table w (cut w (n + 1) after) ≡ as_table b.width (insert b.rows at r)
  inserted at r after l h e =
      let same : length r ≡ w = l ∙ ap (λ (x : Table). x.width) (sym is) in
      let within : at ≤ n = omega (arith, counted w n bs b is) in
      let more : n + 1 ≡ suc n = omega arith in
      ap (λ z. as_table w (cut w (n + 1) z)) e
      ∙ (ap (λ k. as_table w (cut w k (bytes_in (at * w) r bs))) more
      ∙ (ap (λ z. as_table w z) (cut_insert w n at r bs same within whole) ∙ ap (λ (x : Table). as_table x.width (insert x.rows at r)) is))

  one_less : (k at : ℕ) → n ≡ k → at < n → suc (n - 1) ≡ k
  one_less k at e h = omega arith

  pub removed : (at : ℕ) (after : List ℕ) → at < length b.rows → after ≡ bytes_out (at * w) w bs → as_table w (cut w (n - 1) after) ≡ as_table b.width (remove b.rows at)
  removed at after h e =
      let within : at < n = omega (arith, counted w n bs b is) in
      let same : suc (n - 1) ≡ n = one_less n at refl within in
      let long : length bs ≡ suc (n - 1) * w = whole ∙ ap (λ k. k * w) (sym same) in
      ap (λ z. as_table w (cut w (n - 1) z)) e
      ∙ (ap (λ z. as_table w z) (cut_remove w (n - 1) at bs (omega arith) long)
      ∙ (ap (λ k. as_table w (remove (cut w k bs) at)) same ∙ ap (λ (x : Table). as_table x.width (remove x.rows at)) is))

  pub fewer : (at : ℕ) (after : List ℕ) → at < length b.rows → after ≡ bytes_out (at * w) w bs → length after ≡ (n - 1) * w
  fewer at after h e =
      let within : at < n = omega (arith, counted w n bs b is) in
      let ends = row_within at h in
      let same : suc (n - 1) ≡ n = one_less n at refl within in
      let all : suc (n - 1) * w ≡ n * w = ap (λ k. k * w) same in
      let is_after : length after ≡ length (bytes_out (at * w) w bs) = ap length e in
      omega (arith, is_after, ends.0, ends.1, length-append (take (at * w) bs) (drop (at * w + w) bs), length-take (at * w) bs, length-drop (at * w + w) bs)
