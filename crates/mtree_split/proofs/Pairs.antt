-- The chosen pair: none has a lesser greater radius, and no earlier one has the same.
use Rattle.std.proofs.Common.{◌≡◌, ℕ, suc, ◌+◌, ◌*◌, ◌/◌, ◌%◌, ◌<◌, ◌≤◌, ◌^◌, min, max, List, Bool, false, refl, sym, ap, ◌∙◌, arith, inl, inr, subst, get_or, length, count_by, slice_index_or}
use Rattle.std.proofs.lemmas.Bool.Decides.{leb_tells}
use Rattle.std.proofs.lemmas.Nat.{div-mul-add, mod-mul-add, mul-add-lt}
use Rattle.std.proofs.Math.Nat.{div-add-mod, mul_comm, mul-le-mul_right, add-mul}
use Rattle.mtree_split.specs.declared.pair.Parting.{Parting}
use Rattle.mtree_split.specs.Least.{first_least, beyond}
use Rattle.mtree_split.specs.Choice.{greater_radius, parting_of, pair_rank, choice, row_of}
use Rattle.mtree_split.specs.Sides.{sides_of}
use Rattle.mtree_split.specs.Laws.{IsEarlier}
use Rattle.mtree_split.proofs.Places.{square_some}
use Rattle.mtree_split.proofs.Rows.{pair_balanced, pair_none_past}
use Rattle.mtree_split.proofs.Firsts.{first_inside, first_is_least, first_is_first}

cut : (a b g : ℕ) → max (min a g) (min b g) ≤ g
cut a b g = omega arith

pub earlier_place : (count i j left right : ℕ) → j < count → IsEarlier i j left right → i * count + j < left * count + right
earlier_place count i j left right l (inl before) =
    let rows : (i + 1) * count ≤ left * count = mul-le-mul_right count (omega arith) in
    omega (arith, rows, add-mul i 1 count)
earlier_place count i j left right l (inr on) = omega (arith, on.1, ap (λ n. n * count) on.0)

module _ (count : ℕ) (matrix radii : List ℕ) (greatest : ℕ) where
  pub left_of : (i j : ℕ) → (parting_of count matrix radii greatest i j).left ≡ i
  unfolding parting_of
  left_of i j = refl

  pub right_of : (i j : ℕ) → (parting_of count matrix radii greatest i j).right ≡ j
  unfolding parting_of
  right_of i j = refl

  stays : (i j : ℕ) → parting_of count matrix radii greatest i j ≡ parting_of count matrix radii greatest (parting_of count matrix radii greatest i j).left (parting_of count matrix radii greatest i j).right
  unfolding parting_of
  stays i j = refl

  pub radius_cut : (i j : ℕ) → greater_radius (parting_of count matrix radii greatest i j) ≤ greatest
  unfolding parting_of
  radius_cut i j = cut _ _ greatest

  pub rank_at : (place : ℕ) → place / count < place % count → pair_rank count matrix radii greatest place ≡ greater_radius (parting_of count matrix radii greatest (place / count) (place % count))
  unfolding pair_rank
  rank_at place l = elim (leb_tells (suc (place / count)) (place % count)) [ inl t ↦ rw t.0 refl | inr f ↦ absurd (omega (arith, f.1)) ]

  is_pair : (place : ℕ) → pair_rank count matrix radii greatest place < beyond → place / count < place % count
  unfolding pair_rank
  is_pair place l =
      elim (leb_tells (suc (place / count)) (place % count)) [ inl t ↦ omega (arith, t.1) | inr f ↦ absurd (let h : beyond < beyond = rw f.0 at l in omega (arith, h)) ]

  rank_of_pair : (i j : ℕ) → i < j → j < count → pair_rank count matrix radii greatest (i * count + j) ≡ greater_radius (parting_of count matrix radii greatest i j)
  rank_of_pair i j l m =
      let row : (i * count + j) / count ≡ i = div-mul-add i count j m in
      let column : (i * count + j) % count ≡ j = mod-mul-add i count j m in
      rank_at (i * count + j) (omega arith) ∙ ap (λ n. greater_radius (parting_of count matrix radii greatest n ((i * count + j) % count))) row
      ∙ ap (λ n. greater_radius (parting_of count matrix radii greatest i n)) column

  pub record IsChosen (p : Parting) : Type 0 where
    pub rises : p.left < p.right
    pub inside : p.right < count
    pub parting : p ≡ parting_of count matrix radii greatest p.left p.right
    pub least : (i j : ℕ) → i < j → j < count → greater_radius p ≤ greater_radius (parting_of count matrix radii greatest i j)
    pub first : (i j : ℕ) → i < j → j < count → IsEarlier i j p.left p.right → greater_radius p < greater_radius (parting_of count matrix radii greatest i j)

  pub choice_is : 1 < count → greatest < 2 ^ 32 → IsChosen (choice count matrix radii greatest)
  choice_is some small =
      let rank = pair_rank count matrix radii greatest in
      let bound = count * count in
      let place = first_least rank bound in
      let left = place / count in
      let right = place % count in
      let D = parting_of count matrix radii greatest in
      let inside : place < bound = first_inside rank bound (square_some count (omega arith)) in
      let pair_inside : (i j : ℕ) → i < j → j < count → i * count + j < bound = λ i j l m. mul-add-lt i count j count (omega arith) m in
      let one : rank (0 * count + 1) ≡ greater_radius (D 0 1) = rank_of_pair 0 1 (omega arith) some in
      let best : rank place ≤ rank (0 * count + 1) = first_is_least rank bound (0 * count + 1) (pair_inside 0 1 (omega arith) some) in
      let rises : left < right = is_pair place (omega (arith, radius_cut 0 1, one, best)) in
      let value : rank place ≡ greater_radius (D left right) = rank_at place rises in
      let l : (D left right).left ≡ left = left_of left right in
      let r : (D left right).right ≡ right = right_of left right in
      let whole : left * count + right ≡ place = omega (arith, div-add-mod place count, mul_comm count left) in
      record {
        rises = rw (l, r) rises;
        inside = rw r (omega arith);
        parting = stays left right;
        least = λ i j lt m. omega (arith, value, rank_of_pair i j lt m, first_is_least rank bound (i * count + j) (pair_inside i j lt m));
        first = λ i j lt m earlier.
            let before : i * count + j < left * count + right = earlier_place count i j left right m (rw (l, r) at earlier) in
            omega (arith, value, rank_of_pair i j lt m, first_is_first rank bound (i * count + j) (omega arith));
      }

  pub sides_are : (p : Parting) → IsChosen p → p.sides ≡ sides_of (row_of count matrix p.left) (row_of count matrix p.right)
  unfolding parting_of
  sides_are p c = ap (λ (p : Parting). p.sides) c.parting

  pub is_chosen : 1 < count → greatest < 2 ^ 32 → (p : Parting) → p ≡ choice count matrix radii greatest → IsChosen p
  is_chosen some small p e = subst IsChosen (sym e) (choice_is some small)

  module _ (p : Parting) (c : IsChosen p) (small : (k : ℕ) → get_or matrix k 0 < 2 ^ 32) (square : length matrix ≡ count * count) (room : count ≤ 36) where
    pub chosen_balanced : count_by (λ x. x) p.sides ≡ count / 2
    chosen_balanced = ap (count_by (λ x. x)) (sides_are p c) ∙ pair_balanced count matrix p.left p.right small square room (omega (arith, c.rises, c.inside)) c.inside

    pub chosen_none_past : (k : ℕ) → count ≤ k → slice_index_or p.sides k false ≡ false
    chosen_none_past k l = ap (λ (xs : List Bool). slice_index_or xs k false) (sides_are p c) ∙ pair_none_past count matrix p.left p.right small square room (omega (arith, c.rises, c.inside)) c.inside k l
