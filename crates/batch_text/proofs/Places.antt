-- The fields of a record by their places, and the bytes that were packed so far.
use Rattle.std.proofs.Common.{◌≡◌, ◌+◌, ℕ, zero, suc, List, [], ◌∷◌, drop, Some, None, refl, sym, ap, arith, subst, ◌++◌, append_assoc, Option, map, ◌∙◌}
use Rattle.std.specs.List.{range_with_len}
use Rattle.std.proofs.lemmas.List.FromFn.{map-range_with_len_more}
use Rattle.std.proofs.lemmas.Option.{none-some, same_Some}
use Rattle.csv.specs.Records.{field_at}
use Rattle.vec_record.specs.declared.kind.MetricKind.{MetricKind}
use Rattle.batch_text.specs.Grammar.{change_of, signed_change}
use Rattle.batch_text.specs.Vectors.{joined, packed_byte, spelled, spelled_by}
use Rattle.batch_text.specs.Numbers.{number_of, within}
use Rattle.batch_text.specs.declared.faults.LineFault.TheVariants as fault
use Rattle.std.specs.Prelude.{Bool, true, false, Err}
use Rattle.std.specs.Bool.{then_some}

here : (fs : List (List ℕ)) (i : ℕ) (f : List ℕ) → field_at fs i ≡ Some f → drop i fs ≡ f ∷ drop (suc i) fs
unfolding field_at
here [] i f h = absurd (none-some _ h)
here (g ∷ gs) zero f h = rw (same_Some _ _ h) refl
here (g ∷ gs) (suc i) f h = here gs i f h

pub field_here : (fs : List (List ℕ)) (i : ℕ) (f : List ℕ) → field_at fs i ≡ Some f → drop i fs ≡ f ∷ drop (i + 1) fs
field_here fs i f h =
    let one : i + 1 ≡ suc i = omega arith in
    subst (λ k. drop i fs ≡ f ∷ drop k fs) (sym one) (here fs i f h)

pub field_gone : (fs : List (List ℕ)) (i : ℕ) → field_at fs i ≡ None → drop i fs ≡ []
unfolding field_at
field_gone [] zero h = refl
field_gone [] (suc i) h = refl
field_gone (g ∷ gs) zero h = absurd (none-some _ (sym h))
field_gone (g ∷ gs) (suc i) h = field_gone gs i h

pub change_two : (m : MetricKind) (dim : ℕ) (fs : List (List ℕ)) (sign number : List ℕ) → field_at fs 0 ≡ Some sign → field_at fs 1 ≡ Some number
    → change_of m dim fs ≡ signed_change m dim sign (within 1 4294967295 (number_of number)) (drop 2 fs)
unfolding field_at
change_two m dim [] sign number a b = absurd (none-some _ a)
change_two m dim (s ∷ []) sign number a b = absurd (none-some _ b)
change_two m dim (s ∷ n ∷ fs) sign number a b = rw (same_Some _ _ a, same_Some _ _ b) refl

pub change_none : (m : MetricKind) (dim : ℕ) (fs : List (List ℕ)) → field_at fs 0 ≡ None → change_of m dim fs ≡ Err fault.Malformed
unfolding field_at
change_none m dim [] a = refl
change_none m dim (s ∷ fs) a = absurd (none-some _ (sym a))

pub change_one : (m : MetricKind) (dim : ℕ) (fs : List (List ℕ)) → field_at fs 1 ≡ None → change_of m dim fs ≡ Err fault.Malformed
unfolding field_at
change_one m dim [] a = refl
change_one m dim (s ∷ []) a = refl
change_one m dim (s ∷ n ∷ fs) a = absurd (none-some _ (sym a))

-- three texts, joined either way
joined_twice : (a : List ℕ) (b c : Option (List ℕ)) → joined (joined (Some a) b) c ≡ joined (Some a) (joined b c)
joined_twice a None c = refl
joined_twice a (Some b) None = refl
joined_twice a (Some b) (Some c) = ap Some (append_assoc a b c)

all_onto : (m : MetricKind) (v : List ℕ) (fs : List (List ℕ)) (i : ℕ) (f : List ℕ) (o : Option (List ℕ)) → field_at fs i ≡ Some f → o ≡ joined (Some v) (spelled_by m f)
    → joined (Some v) (spelled m (drop i fs)) ≡ joined o (spelled m (drop (i + 1) fs))
all_onto m v fs i f o h e = rw (field_here fs i f h, e) (sym (joined_twice v (spelled_by m f) (spelled m (drop (i + 1) fs))))

-- a field that is not in the grammar, and one that is
pub onto_bad : (m : MetricKind) (v w : List ℕ) (fs : List (List ℕ)) (i : ℕ) (f : List ℕ) (good : Bool) → field_at fs i ≡ Some f → then_some good w ≡ joined (Some v) (spelled_by m f) → good ≡ false
    → joined (Some v) (spelled m (drop i fs)) ≡ None
onto_bad m v w fs i f good h e g = all_onto m v fs i f None h (rw g at e)

pub onto_good : (m : MetricKind) (v w : List ℕ) (fs : List (List ℕ)) (i : ℕ) (f : List ℕ) (good : Bool) → field_at fs i ≡ Some f → then_some good w ≡ joined (Some v) (spelled_by m f) → good ≡ true
    → joined (Some v) (spelled m (drop i fs)) ≡ joined (Some w) (spelled m (drop (i + 1) fs))
onto_good m v w fs i f good h e g = all_onto m v fs i f (Some w) h (rw g at e)

-- one more byte of a text of bits
pub packed_further : (text bytes longer : List ℕ) (i b : ℕ) → longer ≡ bytes ++ b ∷ [] → b ≡ packed_byte text i → bytes ≡ map (packed_byte text) (range_with_len 0 i) → longer ≡ map (packed_byte text) (range_with_len 0 (i + 1))
packed_further text bytes longer i b e g h =
    e ∙ (ap (λ x. bytes ++ x ∷ []) g ∙ (ap (λ bs. bs ++ packed_byte text i ∷ []) h ∙ sym (map-range_with_len_more (packed_byte text) 0 i i (omega arith))))
