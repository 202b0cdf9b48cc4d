-- The halves of a split: their entries are those that were there, and their objects stood among
-- them.
use Rattle.std.proofs.Common.{ℕ, ◌*◌, ◌<◌, Bool, true, false, List, [], ◌∷◌, length, map, arith}
use Rattle.std.proofs.Common.{inl, inr}
use Rattle.std.specs.List.{AllByRecursion}
use Rattle.std.proofs.lemmas.Bool.{cases_Bool}
use Rattle.std.proofs.lemmas.List.{length-map}
use Rattle.mtree_split.specs.Least.{first_least}
use Rattle.mtree_split.specs.Sides.{is_on}
use Rattle.mtree_split.specs.Choice.{choice, pair_rank, parting_of}
use Rattle.mtree_split.proofs.Firsts.{first_inside}
use Rattle.mtree_split.proofs.Places.{row_inside, square_some}
use Rattle.mtree_index.specs.declared.split.Half.{Half}
use Rattle.mtree_index.specs.Split.{distances, half, left_half, right_half, on_side, parting}
use Rattle.mtree_index.specs.Split.{with_parents}
use Rattle.tree_objects.proofs.Lists.{all_map, get_all}

module _ (count : ℕ) (matrix radii : List ℕ) (greatest : ℕ) (some : 0 < count) where
  -- the place of the pair that is chosen stands for one of the pairs
  place_inside : first_least (pair_rank count matrix radii greatest) (count * count) < count * count
  place_inside = first_inside (pair_rank count matrix radii greatest) (count * count)
      (square_some count some)

  left_inside : (choice count matrix radii greatest).left < count
  unfolding parting_of
  left_inside =
      row_inside count (first_least (pair_rank count matrix radii greatest) (count * count)) some
      place_inside

  right_inside : (choice count matrix radii greatest).right < count
  unfolding parting_of
  right_inside = omega (arith, some)

module _ {A : Type 0} (Q : A → Type 0) where
  -- the entries of one side are among all
  side_all : (side : Bool) (sides : List Bool) (es : List A) → AllByRecursion Q es
      → AllByRecursion Q (on_side side sides es)
  side_all side [] es a = tt
  side_all side (b ∷ sides) [] a = tt
  side_all side (b ∷ sides) (e ∷ es) a =
      let rest = side_all side sides es a.1 in
      elim (cases_Bool (is_on side b)) [ inl on ↦ rw on (a.0, rest) | inr off ↦ rw off rest ]

module _
    (P : List ℕ → Type 0)
    {A : Type 0}
    (object : A → List ℕ)
    (radius : A → ℕ)
    (set : ℕ → A → A)
    (Q : A → Type 0)
    (has : (e : A) → Q e → P (object e))
    (moved : (d : ℕ) (e : A) → Q e → Q (set d e)) where
  set_all : (ds : List ℕ) (es : List A) → AllByRecursion Q es
      → AllByRecursion Q (with_parents set ds es)
  set_all [] es a = tt
  set_all (d ∷ ds) [] a = tt
  set_all (d ∷ ds) (e ∷ es) a = (moved d e a.0, set_all ds es a.1)

  -- a half whose object and entries have the property
  pub record HalfHasAll (s : Half A) : Type 0 where
    pub promoted : P s.object
    pub all : AllByRecursion Q s.entries

  module _ (dist : List ℕ → List ℕ → ℕ) (greatest : ℕ) (es : List A) (a : AllByRecursion Q es) where
    half_all : (side : Bool) (at reach : ℕ) (sides : List Bool) → at < length es
        → HalfHasAll (half dist greatest object radius set side at reach sides es)
    half_all side at reach sides inside = record {
      promoted = get_all P (map object es) at [] (all_map Q P object es has a)
          (omega (arith, inside, length-map es object));
      all = side_all Q side sides _ (set_all _ es a);
    }

    module _ (some : 0 < length es) where
      -- the half under the first of the pair
      pub left_all : HalfHasAll (left_half dist greatest object radius set es)
      left_all =
          let p = parting dist greatest object radius set es in
          half_all false p.left p.left_radius p.sides
          (left_inside (length es) (distances dist (map object es)) (map radius es) greatest some)

      -- the half under the second of the pair
      pub right_all : HalfHasAll (right_half dist greatest object radius set es)
      right_all =
          let p = parting dist greatest object radius set es in
          half_all true p.right p.right_radius p.sides
          (right_inside (length es) (distances dist (map object es)) (map radius es) greatest some)
