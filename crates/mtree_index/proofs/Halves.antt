-- The halves of a split, put together.
use Rattle.std.proofs.Common.{◌≡◌, ℕ, zero, suc, ◌<◌, true, false, List, [], ◌∷◌, length, map, get_or, refl, sym, ap, ◌∙◌, arith}
use Rattle.std.specs.List.{AllByRecursion}
use Rattle.mtree_split.specs.declared.pair.Parting.{Parting}
use Rattle.mtree_split.specs.Choice.{choice}
use Rattle.mtree_index.specs.declared.split.Half.{Half}
use Rattle.mtree_index.specs.Split.{row, distances, parting, left_half, right_half, on_side, with_parents}

module _ {A : Type 0} where
  pub index_map : {B : Type 0} (f : A → B) (es : List A) (i : ℕ) (x : A) (d : B) → i < length es → x ≡ get_or es i x → get_or (map f es) i d ≡ f x
  index_map f [] i x d l g = absurd (omega (arith, l))
  index_map f (e ∷ es) zero x d l g = ap f (sym g)
  index_map f (e ∷ es) (suc i) x d l g = index_map f es i x d (omega (arith, l)) g

  pub objects_of : (object : A → List ℕ) (width : ℕ) (es : List A) (i : ℕ) → AllByRecursion (λ e. length (object e) ≡ width) es → i < length es → length (get_or (map object es) i []) ≡ width
  objects_of object width [] i all l = absurd (omega (arith, l))
  objects_of object width (e ∷ es) zero all l = all.0
  objects_of object width (e ∷ es) (suc i) all l = objects_of object width es i all.1 (omega (arith, l))

  module _ (dist : List ℕ → List ℕ → ℕ) (greatest : ℕ) (object : A → List ℕ) (radius : A → ℕ) (set : ℕ → A → A) (es : List A) where
    pub parting_is : (p : Parting) (n : ℕ) (m r : List ℕ) (most : ℕ) → p ≡ choice n m r most → n ≡ length es → m ≡ distances dist (map object es) → r ≡ map radius es → most ≡ greatest
        → p ≡ parting dist greatest object radius set es
    parting_is p n m r most is count matrix radii top = is ∙ rw (count, matrix, radii, top) refl

    pub left_is : (p : Parting) (o : List ℕ) (ds : List ℕ) (side : List A) → p ≡ parting dist greatest object radius set es → o ≡ get_or (map object es) p.left [] → ds ≡ row dist o (map object es)
        → side ≡ on_side false p.sides (with_parents set ds es) → ◌≡◌ {A = Half A} (record { object = o; radius = p.left_radius; entries = side }) (left_half dist greatest object radius set es)
    left_is p o ds side is at distances entries = rw (entries, distances, at, is) refl

    pub right_is : (p : Parting) (o : List ℕ) (ds : List ℕ) (side : List A) → p ≡ parting dist greatest object radius set es → o ≡ get_or (map object es) p.right [] → ds ≡ row dist o (map object es)
        → side ≡ on_side true p.sides (with_parents set ds es) → ◌≡◌ {A = Half A} (record { object = o; radius = p.right_radius; entries = side }) (right_half dist greatest object radius set es)
    right_is p o ds side is at distances entries = rw (entries, distances, at, is) refl
