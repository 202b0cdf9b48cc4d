-- The changes of a batch have numbers that are not 0 and vectors of the width.
use Rattle.std.proofs.Common.{◌≡◌, ◌≢◌, ℕ, ◌+◌, ◌≤◌, ◌<◌, ◌*◌, ◌/◌, Bool, true, false, cond, ◌&&◌, nat_le, List, [], ◌∷◌, ◌++◌, length, map, take, Option, Some, None, Result, Ok, Err, refl, sym, ap, subst, arith, ◌∙◌, ◌⊎◌, inl, inr, ◌==◌, min, codes, get_or}
use Rattle.std.specs.List.{AllByRecursion, range_with_len}
use Rattle.std.specs.Str.{bytes_eq}
use Rattle.std.proofs.lemmas.Bool.{and_parts, leb-true, eqb-true}
use Rattle.std.proofs.lemmas.List.{length-take, take_all}
use Rattle.std.proofs.lemmas.List.FromFn.{length-map-range_with_len}
use Rattle.std.proofs.lemmas.Option.{none-some, same_Some, cond_some}
use Rattle.vec_record.specs.Limits.{width_of}
use Rattle.vec_record.specs.Vectors.{AreBytes}
use Rattle.vec_record.specs.Spelled.{is_spelled}
use Rattle.vec_record.specs.declared.change.Change.{Change}
use Rattle.vec_record.specs.declared.change.Change.TheVariants.{Insert, Delete}
use Rattle.vec_record.specs.declared.kind.MetricKind.{MetricKind}
use Rattle.vec_record.specs.declared.kind.MetricKind.TheVariants.{L1, Max, Hamming}
use Rattle.batch_text.specs.Numbers.{number_of, within}
use Rattle.batch_text.specs.Vectors.{alone, bytes_of, joined, packed_byte, spelled, spelled_by}
use Rattle.batch_text.proofs.Spelling.{parts_spelled}
use Rattle.batch_text.specs.Grammar.{change_of, deletion, insertion, signed_change}
use Rattle.batch_text.specs.Batch.{IsChangeOf, IsSpelledChange, changes_next, changes_of, said_by}
use Rattle.batch_text.specs.declared.faults.LineFault.{LineFault}
use Rattle.batch_text.specs.declared.read.ReadBatch.{ReadBatch}
use Rattle.batch_text.specs.declared.faults.LineFault.TheVariants.{Malformed, WrongLength}

-- a number that was found is within the bounds
within_both : (low high : ℕ) (o : Option ℕ) (n : ℕ) → within low high o ≡ Some n → (low ≤ n) × (n ≤ high)
within_both low high None n e = absurd (none-some _ e)
within_both low high (Some m) n e =
    let both = cond_some (nat_le low m && nat_le m high) m n e in
    let parts = and_parts (nat_le low m) (nat_le m high) both.0 in
    rw (← both.1) (leb-true _ _ parts.0, leb-true _ _ parts.1)

bytes_append : (u w : List ℕ) → AreBytes u → AreBytes w → AreBytes (u ++ w)
bytes_append [] w a b = b
bytes_append (x ∷ u) w a b = (a.0, bytes_append u w a.1 b)

alone_bytes : (o : Option ℕ) (w : List ℕ) → ((n : ℕ) → o ≡ Some n → n < 256) → alone o ≡ Some w → AreBytes w
alone_bytes None w h e = absurd (none-some _ e)
alone_bytes (Some n) w h e = subst AreBytes (same_Some _ _ e) (h n refl, tt)

coordinate_bytes : (f w : List ℕ) → alone (within 0 255 (number_of f)) ≡ Some w → AreBytes w
coordinate_bytes f w e = alone_bytes (within 0 255 (number_of f)) w (λ n i. let b = within_both 0 255 (number_of f) n i in omega (arith, b.1)) e

joined_bytes : (a b : Option (List ℕ)) (w : List ℕ) → ((u : List ℕ) → a ≡ Some u → AreBytes u) → ((u : List ℕ) → b ≡ Some u → AreBytes u) → joined a b ≡ Some w → AreBytes w
joined_bytes None b w h k e = absurd (none-some _ e)
joined_bytes (Some a) None w h k e = absurd (none-some _ e)
joined_bytes (Some a) (Some b) w h k e = subst AreBytes (same_Some _ _ e) (bytes_append a b (h a refl) (k b refl))

spelled_bytes : (m : MetricKind) (fs : List (List ℕ)) (w : List ℕ) → ((f u : List ℕ) → spelled_by m f ≡ Some u → AreBytes u) → spelled m fs ≡ Some w → AreBytes w
spelled_bytes m [] w h e = subst AreBytes (same_Some _ _ e) tt
spelled_bytes m (f ∷ fs) w h e = joined_bytes (spelled_by m f) (spelled m fs) w (h f) (λ u i. spelled_bytes m fs u h i) e

bit_small : (b : Bool) → cond b 1 0 ≤ 1
bit_small true = omega arith
bit_small false = omega arith

byte_small : (text : List ℕ) (i : ℕ) → packed_byte text i < 256
byte_small text i =
    omega (
      arith,
      bit_small (get_or text (8 * i + 0) 48 == 49),
      bit_small (get_or text (8 * i + 1) 48 == 49),
      bit_small (get_or text (8 * i + 2) 48 == 49),
      bit_small (get_or text (8 * i + 3) 48 == 49),
      bit_small (get_or text (8 * i + 4) 48 == 49),
      bit_small (get_or text (8 * i + 5) 48 == 49),
      bit_small (get_or text (8 * i + 6) 48 == 49),
      bit_small (get_or text (8 * i + 7) 48 == 49),
    )

mapped_bytes : (f : ℕ → ℕ) (xs : List ℕ) → ((i : ℕ) → f i < 256) → AreBytes (map f xs)
mapped_bytes f [] h = tt
mapped_bytes f (x ∷ xs) h = (h x, mapped_bytes f xs h)

-- the bytes of a vector are bytes, as many as the width
are_bytes : (m : MetricKind) (fs : List (List ℕ)) (parts : List ℕ) → spelled m fs ≡ Some parts → AreBytes (bytes_of m parts)
are_bytes L1 fs parts e = spelled_bytes L1 fs parts coordinate_bytes e
are_bytes Max fs parts e = spelled_bytes Max fs parts coordinate_bytes e
are_bytes Hamming fs parts e = mapped_bytes (packed_byte parts) (range_with_len 0 ((length parts + 7) / 8)) (byte_small parts)

byte_count : (m : MetricKind) (parts : List ℕ) → length (bytes_of m parts) ≡ width_of m (length parts)
byte_count L1 parts = refl
byte_count Max parts = refl
byte_count Hamming parts = length-map-range_with_len (packed_byte parts) 0 ((length parts + 7) / 8)

-- either way of a choice that came to a change
chosen : (b : Bool) (x y : Result Change LineFault) (c : Change) → cond b x y ≡ Ok c → ((b ≡ true) × (x ≡ Ok c)) ⊎ (y ≡ Ok c)
chosen true x y c e = inl (refl, e)
chosen false x y c e = inr e

abbrev good : Change → Result Change LineFault
good c = Ok c

not_zero : (text : List ℕ) (n : ℕ) → within 1 4294967295 (number_of text) ≡ Some n → n ≢ 0
not_zero text n e = let b = within_both 1 4294967295 (number_of text) n e in λ z. omega (arith, b.0, z)

changed_here : (P : Change → Type 0) (a c : Change) → P a → good a ≡ good c → P c
changed_here P a c h e = let same : a ≡ c = cc e in subst P same h

-- What holds of each insertion of dim coordinates or bits, and of each deletion, holds of each change that a record is.
module _ (m : MetricKind) (dim : ℕ) (P : Change → Type 0)
    (inserted : (n : ℕ) (fs : List (List ℕ)) (parts : List ℕ) → n ≢ 0 → spelled m fs ≡ Some parts → length parts ≡ dim → P (Insert n (bytes_of m parts)))
    (deleted : (n : ℕ) → n ≢ 0 → P (Delete n)) where
  insertion_so : (n : ℕ) (fs : List (List ℕ)) (o : Option (List ℕ)) (c : Change) → n ≢ 0 → spelled m fs ≡ o → insertion m dim n o ≡ Ok c → P c
  insertion_so n fs None c some is e = cc e
  insertion_so n fs (Some parts) c some is e = elim (chosen (length parts == dim) (Ok (Insert n (bytes_of m parts))) (Err WrongLength) c e) [
    | inl p ↦ changed_here P (Insert n (bytes_of m parts)) c (inserted n fs parts some is (eqb-true _ _ p.0)) p.1
    | inr q ↦ cc q
  ]

  deletion_so : (n : ℕ) (fs : List (List ℕ)) (c : Change) → n ≢ 0 → deletion n fs ≡ Ok c → P c
  deletion_so n [] c some e = changed_here P (Delete n) c (deleted n some) e
  deletion_so n (f ∷ fs) c some e = cc e

  signed_so : (sign : List ℕ) (o : Option ℕ) (fs : List (List ℕ)) (c : Change) → ((n : ℕ) → o ≡ Some n → n ≢ 0) → signed_change m dim sign o fs ≡ Ok c → P c
  signed_so sign None fs c h e = cc e
  signed_so sign (Some n) fs c h e =
      elim (chosen (bytes_eq sign (codes "+")) (insertion m dim n (spelled m fs)) (cond (bytes_eq sign (codes "-")) (deletion n fs) (Err Malformed)) c e) [
        | inl p ↦ insertion_so n fs (spelled m fs) c (h n refl) refl p.1
        | inr q ↦ elim (chosen (bytes_eq sign (codes "-")) (deletion n fs) (Err Malformed) c q) [
          | inl r ↦ deletion_so n fs c (h n refl) r.1
          | inr s ↦ cc s
        ]
      ]

  change_so : (r : List (List ℕ)) (c : Change) → change_of m dim r ≡ Ok c → P c
  change_so [] c e = cc e
  change_so (s ∷ []) c e = cc e
  change_so (s ∷ n ∷ fs) c e = signed_so s (within 1 4294967295 (number_of n)) fs c (not_zero n) e

  next_so : (o : Result Change LineFault) (cs : List Change) → ((c : Change) → o ≡ Ok c → P c) → AllByRecursion P cs → AllByRecursion P (changes_next o cs)
  next_so (Ok c) cs h k = (h c refl, k)
  next_so (Err e) cs h k = tt

  all_so : (rs : List (List (List ℕ))) → AllByRecursion P (changes_of m dim rs)
  all_so [] = tt
  all_so (r ∷ rs) = next_so (change_of m dim r) (changes_of m dim rs) (change_so r) (all_so rs)

all_fit : (m : MetricKind) (dim : ℕ) (rs : List (List (List ℕ))) → AllByRecursion (IsChangeOf (width_of m dim)) (changes_of m dim rs)
all_fit m dim rs = all_so m dim (IsChangeOf (width_of m dim)) (λ n fs parts some is len. (some, record { len = byte_count m parts ∙ ap (width_of m) len; bytes = are_bytes m fs parts is })) (λ n some. some) rs

all_spelled : (m : MetricKind) (dim : ℕ) (rs : List (List (List ℕ))) → AllByRecursion (IsSpelledChange m dim) (changes_of m dim rs)
all_spelled m dim rs = all_so m dim (IsSpelledChange m dim) (λ n fs parts some is len. ap (λ (d : ℕ). is_spelled m d (bytes_of m parts)) (sym len) ∙ parts_spelled m parts) (λ n some. tt) rs

next_short : (o : Result Change LineFault) (cs : List Change) (n : ℕ) → length cs ≤ n → length (changes_next o cs) ≤ n + 1
next_short (Ok c) cs n h = omega (arith, h)
next_short (Err e) cs n h = omega arith

-- there are no more changes than records
none_more : (m : MetricKind) (dim : ℕ) (rs : List (List (List ℕ))) → length (changes_of m dim rs) ≤ length rs
none_more m dim [] = omega arith
none_more m dim (r ∷ rs) = let step = next_short (change_of m dim r) (changes_of m dim rs) (length rs) (none_more m dim rs) in omega (arith, step)

counted : (rs : List (List (List ℕ))) → length (take 100001 rs) ≡ min (length rs) 100001
counted rs = length-take 100001 rs ∙ omega arith

-- what a batch that was read tells besides
pub told_total : (m : MetricKind) (dim : ℕ) (rs : List (List (List ℕ))) (b : ReadBatch) → b ≡ said_by m dim (take 100001 rs) → b.total ≡ min (length rs) 100001
told_total m dim rs b e = ap (λ (x : ReadBatch). x.total) e ∙ counted rs

pub told_whole : (m : MetricKind) (dim : ℕ) (rs : List (List (List ℕ))) (b : ReadBatch) → b ≡ said_by m dim (take 100001 rs) → b.total ≤ 100000 → b ≡ said_by m dim rs
told_whole m dim rs b e le =
    let few : length rs ≤ 100001 = omega (arith, told_total m dim rs b e) in
    e ∙ ap (said_by m dim) (take_all 100001 rs few)

pub told_fits : (m : MetricKind) (dim : ℕ) (rs : List (List (List ℕ))) (b : ReadBatch) → b ≡ said_by m dim rs → AllByRecursion (IsChangeOf (width_of m dim)) b.changes
told_fits m dim rs b e = subst (λ (x : ReadBatch). AllByRecursion (IsChangeOf (width_of m dim)) x.changes) (sym e) (all_fit m dim rs)

pub told_spelled : (m : MetricKind) (dim : ℕ) (rs : List (List (List ℕ))) (b : ReadBatch) → b ≡ said_by m dim rs → AllByRecursion (IsSpelledChange m dim) b.changes
told_spelled m dim rs b e = subst (λ (x : ReadBatch). AllByRecursion (IsSpelledChange m dim) x.changes) (sym e) (all_spelled m dim rs)

pub told_places : (m : MetricKind) (dim : ℕ) (rs : List (List (List ℕ))) (b : ReadBatch) → b ≡ said_by m dim rs → length b.changes ≤ b.total
told_places m dim rs b e = subst (λ (x : ReadBatch). length x.changes ≤ x.total) (sym e) (none_more m dim rs)
