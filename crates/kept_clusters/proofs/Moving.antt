-- Records that are taken over one by one are all taken over in the end.
use Rattle.std.proofs.Common.{◌≡◌, ◌≢◌, ℕ, zero, suc, ◌+◌, ◌<◌, ◌≤◌, Bool, true, false, cond, List, [], ◌∷◌, drop, length, get_or, None, Some, is_some, IsSome, inl, inr, refl, sym, ap, subst, ◌∙◌, arith, add-one}
use Rattle.std.specs.Ordering.{nat_cmp}
use Rattle.std.specs.Cmp.{nat_cmp_total}
use Rattle.std.specs.FinMap as finite
use Rattle.std.specs.FinMap.{same_map, nat_cmp-IsAntisymmetric}
use Rattle.std.proofs.lemmas.Bool.{cases_eq}
use Rattle.std.proofs.lemmas.List.{length-map}
use Rattle.std.proofs.Math.Seq.{drop-cons}
use Rattle.vec_record.specs.Held.{Held}
use Rattle.plain_dbscan.proofs.CoresOf.{among}
use Rattle.label_book.specs.Labels.{IsMember}
use Rattle.label_book.proofs.Added.{here, apart}
use Rattle.label_book.proofs.Taken.{removed_same, removed_other}
use Rattle.label_book.proofs.Views.{known, no_value}
use Rattle.update_seed.proofs.Lists.{to_member, from_member, none}
use Rattle.insert_case.specs.Inserted.{with_record}
use Rattle.delete_case.specs.Deleted.{without}
use Rattle.kept_clusters.specs.Kept.{no_records}
use Rattle.kept_clusters.specs.inside.Moving.{IsTakenOver, HasMoved, AreMoving}

other : false ≡ true → ⊥
other f = cc

at_most_one : (b : Bool) (n m i : ℕ) → m ≡ cond b n (n + 1) → n ≤ i → m ≤ i + 1
at_most_one true n m i e h = omega (arith, e, h)
at_most_one false n m i e h = omega (arith, e, h)

pub start : (all : Held) → AreMoving all all (no_records all.width) 0 (finite.keys all.vectors)
start all = record {
  left_width = refl;
  moved_width = refl;
  few = let e = finite.len-empty nat_cmp (List ℕ) in omega (arith, e);
  each = λ q. inr (finite.get-empty nat_cmp q, refl);
  pending = λ q there. from_member (finite.keys all.vectors) q (among (finite.entries all.vectors) q (ap is_some (sym (finite.get-entries all.vectors q)) ∙ there));
}

module _ {all left moved : Held} {i number : ℕ} {rest : List ℕ} (moving : AreMoving all left moved i (number ∷ rest)) where
  pub may_add : IsSome (finite.get left.vectors number) → finite.get moved.vectors number ≡ None
  may_add there = elim (moving.each number) [
    | inl x ↦ absurd (other (sym (ap is_some x.1) ∙ there))
    | inr x ↦ x.0
  ]

  moved_none : (moved' : Held) → finite.get left.vectors number ≡ None → moved' ≡ moved → HasMoved all.vectors (finite.remove left.vectors number) moved'.vectors number
  moved_none moved' none same =
      let at : finite.get moved'.vectors number ≡ finite.get moved.vectors number = ap (λ (h : Held). finite.get h.vectors number) same in
      elim (moving.each number) [
        | inl x ↦ inl (at ∙ x.0, removed_same left.vectors number)
        | inr x ↦ inl (at ∙ x.0 ∙ sym none ∙ x.1, removed_same left.vectors number)
      ]

  moved_some : (moved' : Held) (v : List ℕ) → finite.get left.vectors number ≡ Some v → moved' ≡ with_record moved number v → HasMoved all.vectors (finite.remove left.vectors number) moved'.vectors number
  moved_some moved' v at is = elim (moving.each number) [
    | inl x ↦ absurd (no_value x.1 at)
    | inr x ↦ inl (ap (λ (h : Held). finite.get h.vectors number) is ∙ here moved.vectors number v ∙ sym at ∙ x.1, removed_same left.vectors number)
  ]

  module _ (moved' : Held) (taken : IsTakenOver number left moved moved') where
    kept_other : (q : ℕ) → q ≢ number → finite.get moved'.vectors q ≡ finite.get moved.vectors q
    kept_other q ne = elim taken [
      | inl x ↦ ap (λ (h : Held). finite.get h.vectors q) x.1
      | inr x ↦ ap (λ (h : Held). finite.get h.vectors q) x.1.1 ∙ apart moved.vectors number x.0 q ne
    ]

    each_other : (q : ℕ) → q ≢ number → HasMoved all.vectors (finite.remove left.vectors number) moved'.vectors q
    each_other q ne =
        let left_same = removed_other left.vectors number q ne in
        let moved_same = kept_other q ne in
        elim (moving.each q) [
          | inl x ↦ inl (moved_same ∙ x.0, left_same ∙ x.1)
          | inr x ↦ inr (moved_same ∙ x.0, left_same ∙ x.1)
        ]

    each_own : HasMoved all.vectors (finite.remove left.vectors number) moved'.vectors number
    each_own = elim taken [
      | inl x ↦ moved_none moved' x.0 x.1
      | inr x ↦ moved_some moved' x.0 x.1.0 x.1.1
    ]

    each_now : (q : ℕ) → HasMoved all.vectors (finite.remove left.vectors number) moved'.vectors q
    each_now q = elim (cases_eq q number) [
      | inl same ↦ subst (λ (k : ℕ). HasMoved all.vectors (finite.remove left.vectors number) moved'.vectors k) (sym same) each_own
      | inr ne ↦ each_other q ne
    ]

    few_now : finite.len moved'.vectors ≤ i + 1
    few_now = elim taken [
      | inl x ↦ let e = ap (λ (h : Held). finite.len h.vectors) x.1 in omega (arith, e, moving.few)
      | inr x ↦
          let e : finite.len moved'.vectors ≡ cond (finite.contains_key moved.vectors number) (finite.len moved.vectors) (finite.len moved.vectors + 1) =
          ap (λ (h : Held). finite.len h.vectors) x.1.1 ∙ finite.len-insert nat_cmp_total moved.vectors number x.0 in
          at_most_one (finite.contains_key moved.vectors number) (finite.len moved.vectors) (finite.len moved'.vectors) i e moving.few
    ]

    width_now : moved'.width ≡ all.width
    width_now = elim taken [
      | inl x ↦ ap (λ (h : Held). h.width) x.1 ∙ moving.moved_width
      | inr x ↦ ap (λ (h : Held). h.width) x.1.1 ∙ moving.moved_width
    ]

    pending_now : (q : ℕ) → IsSome (finite.get (finite.remove left.vectors number) q) → IsMember rest q
    pending_now q there = elim (cases_eq q number) [
      | inl same ↦ absurd (other (sym (ap (λ (k : ℕ). is_some (finite.get (finite.remove left.vectors number) k)) same ∙ ap is_some (removed_same left.vectors number)) ∙ there))
      | inr ne ↦ elim (to_member (number ∷ rest) q (moving.pending q (ap is_some (sym (removed_other left.vectors number q ne)) ∙ there))) [
        | inl e ↦ absurd (ne e)
        | inr m ↦ from_member rest q m
      ]
    ]

    pub step : AreMoving all (without left number) moved' (i + 1) rest
    step = record {
      left_width = moving.left_width;
      moved_width = width_now;
      few = few_now;
      each = each_now;
      pending = pending_now;
    }

-- nothing is left in the end
pub moved_all : (all left moved : Held) (n : ℕ) → AreMoving all left moved n [] → moved ≡ all
moved_all all left moved n moving =
    let width : moved.width ≡ all.width = moving.moved_width in
    let vectors : moved.vectors ≡ all.vectors = same_map nat_cmp_total nat_cmp-IsAntisymmetric moved.vectors all.vectors (λ q. elim (moving.each q) [
      | inl x ↦ x.0
      | inr x ↦ elim (known (finite.get left.vectors q)) [
        | inl e ↦ x.0 ∙ sym e ∙ x.1
        | inr r ↦ absurd (none q (moving.pending q (ap is_some r.1)))
      ]
    ]) in
    λ i. record { width = width i; vectors = vectors i }

-- the numbers that are left from a place on
pub from_place : (all left moved : Held) (i : ℕ) (numbers : List ℕ) → i < length numbers → AreMoving all left moved i (drop i numbers) → AreMoving all left moved i (get_or numbers i 0 ∷ drop (i + 1) numbers)
from_place all left moved i numbers h moving =
    let e : drop i numbers ≡ get_or numbers i 0 ∷ drop (i + 1) numbers = rw (add-one, drop-cons numbers i 0) refl in
    subst (AreMoving all left moved i) e moving

nothing_left : (i : ℕ) (xs : List ℕ) → length xs ≤ i → drop i xs ≡ []
nothing_left zero [] h = refl
nothing_left zero (x ∷ xs) h = absurd (omega (arith, h))
nothing_left (suc i) [] h = refl
nothing_left (suc i) (x ∷ xs) h = nothing_left i xs (omega (arith, h))

pub all_moved : (all left moved : Held) (i : ℕ) (numbers : List ℕ) → length numbers ≤ i → AreMoving all left moved i (drop i numbers) → moved ≡ all
all_moved all left moved i numbers h moving = moved_all all left moved i (subst (AreMoving all left moved i) (nothing_left i numbers h) moving)

-- there are as many numbers as records
pub few_numbers : (all : Held) (numbers : List ℕ) → numbers ≡ finite.keys all.vectors → length numbers ≡ finite.len all.vectors
few_numbers all numbers e = ap length e ∙ length-map (finite.entries all.vectors) (λ (x : ℕ × List ℕ). x.0) ∙ sym (finite.len-entries all.vectors)
