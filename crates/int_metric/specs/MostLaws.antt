-- The laws of the greatest absolute difference.
use Rattle.std.specs.Prelude.{◌≡◌, ℕ, ◌+◌, ◌≤◌, ◌↔◌, List, [], ◌∷◌, length, refl}
use Rattle.std.proofs.Common.{arith, subst}
use Rattle.vec_record.specs.Vectors.{AreBytes, IsVector, IsWidth}
use Rattle.vec_record.specs.Distance.{most_apart}

most_self : (u : List ℕ) → most_apart u u ≡ 0
most_self [] = refl
most_self (x ∷ xs) = omega (arith, most_self xs)

most_comm : (u v : List ℕ) → most_apart u v ≡ most_apart v u
most_comm [] [] = refl
most_comm [] (y ∷ ys) = refl
most_comm (x ∷ xs) [] = refl
most_comm (x ∷ xs) (y ∷ ys) = omega (arith, most_comm xs ys)

most_zero : (u v : List ℕ) → length u ≡ length v → most_apart u v ≡ 0 → u ≡ v
most_zero [] [] l e = refl
most_zero [] (y ∷ ys) l e = absurd (omega (arith, l))
most_zero (x ∷ xs) [] l e = absurd (omega (arith, l))
most_zero (x ∷ xs) (y ∷ ys) l e =
    let head : x ≡ y = omega arith in
    let tail : xs ≡ ys = most_zero xs ys (omega (arith, l)) (omega arith) in
    cc

most_detour : (u v x : List ℕ) → length u ≡ length v → length v ≡ length x → most_apart u x ≤ most_apart u v + most_apart v x
most_detour [] v x l k = omega arith
most_detour (a ∷ u) [] x l k = absurd (omega (arith, l))
most_detour (a ∷ u) (b ∷ v) [] l k = absurd (omega (arith, k))
most_detour (a ∷ u) (b ∷ v) (c ∷ x) l k = omega (arith, most_detour u v x (omega (arith, l)) (omega (arith, k)))

most_small : (u v : List ℕ) → AreBytes u → AreBytes v → most_apart u v ≤ 255
most_small [] v a b = omega arith
most_small (x ∷ xs) [] a b = omega arith
most_small (x ∷ xs) (y ∷ ys) a b = omega (arith, most_small xs ys a.1 b.1)

-- distance 0 is equality
pub most_identity : (w : ℕ) (u v : List ℕ) → IsWidth w → IsVector w u → IsVector w v → (most_apart u v ≡ 0) ↔ (u ≡ v)
most_identity w u v width a b = (λ e. most_zero u v (omega arith) e, λ e. subst (λ z. most_apart u z ≡ 0) e (most_self u))

-- the distance is symmetric
pub most_symmetry : (w : ℕ) (u v : List ℕ) → IsWidth w → IsVector w u → IsVector w v → most_apart u v ≡ most_apart v u
most_symmetry w u v width a b = most_comm u v

-- the triangle law
pub most_triangle : (w : ℕ) (u v x : List ℕ) → IsWidth w → IsVector w u → IsVector w v → IsVector w x → most_apart u x ≤ most_apart u v + most_apart v x
most_triangle w u v x width a b c = most_detour u v x (omega arith) (omega arith)

-- no distance is above the greatest one
pub most_bound : (w : ℕ) (u v : List ℕ) → IsWidth w → IsVector w u → IsVector w v → most_apart u v ≤ 255
most_bound w u v width a b = most_small u v a.bytes b.bytes
