-- The laws of the sum of the absolute differences.
use Rattle.std.specs.Prelude.{◌≡◌, ℕ, ◌+◌, ◌*◌, ◌≤◌, ◌↔◌, List, [], ◌∷◌, length, refl}
use Rattle.std.proofs.Common.{arith, subst}
use Rattle.vec_record.specs.Vectors.{AreBytes, IsVector, IsWidth}
use Rattle.vec_record.specs.Distance.{sum_apart}

sum_self : (u : List ℕ) → sum_apart u u ≡ 0
sum_self [] = refl
sum_self (x ∷ xs) = omega (arith, sum_self xs)

sum_comm : (u v : List ℕ) → sum_apart u v ≡ sum_apart v u
sum_comm [] [] = refl
sum_comm [] (y ∷ ys) = refl
sum_comm (x ∷ xs) [] = refl
sum_comm (x ∷ xs) (y ∷ ys) = omega (arith, sum_comm xs ys)

sum_zero : (u v : List ℕ) → length u ≡ length v → sum_apart u v ≡ 0 → u ≡ v
sum_zero [] [] l e = refl
sum_zero [] (y ∷ ys) l e = absurd (omega (arith, l))
sum_zero (x ∷ xs) [] l e = absurd (omega (arith, l))
sum_zero (x ∷ xs) (y ∷ ys) l e =
    let head : x ≡ y = omega arith in
    let tail : xs ≡ ys = sum_zero xs ys (omega (arith, l)) (omega arith) in
    cc

sum_detour : (u v x : List ℕ) → length u ≡ length v → length v ≡ length x → sum_apart u x ≤ sum_apart u v + sum_apart v x
sum_detour [] v x l k = omega arith
sum_detour (a ∷ u) [] x l k = absurd (omega (arith, l))
sum_detour (a ∷ u) (b ∷ v) [] l k = absurd (omega (arith, k))
sum_detour (a ∷ u) (b ∷ v) (c ∷ x) l k = omega (arith, sum_detour u v x (omega (arith, l)) (omega (arith, k)))

sum_small : (u v : List ℕ) → AreBytes u → AreBytes v → sum_apart u v ≤ 255 * length u
sum_small [] v a b = omega arith
sum_small (x ∷ xs) [] a b = omega arith
sum_small (x ∷ xs) (y ∷ ys) a b = omega (arith, sum_small xs ys a.1 b.1)

-- distance 0 is equality
pub sum_identity : (w : ℕ) (u v : List ℕ) → IsWidth w → IsVector w u → IsVector w v → (sum_apart u v ≡ 0) ↔ (u ≡ v)
sum_identity w u v width a b = (λ e. sum_zero u v (omega arith) e, λ e. subst (λ z. sum_apart u z ≡ 0) e (sum_self u))

-- the distance is symmetric
pub sum_symmetry : (w : ℕ) (u v : List ℕ) → IsWidth w → IsVector w u → IsVector w v → sum_apart u v ≡ sum_apart v u
sum_symmetry w u v width a b = sum_comm u v

-- the triangle law
pub sum_triangle : (w : ℕ) (u v x : List ℕ) → IsWidth w → IsVector w u → IsVector w v → IsVector w x → sum_apart u x ≤ sum_apart u v + sum_apart v x
sum_triangle w u v x width a b c = sum_detour u v x (omega arith) (omega arith)

-- no distance is above the greatest one
pub sum_bound : (w : ℕ) (u v : List ℕ) → IsWidth w → IsVector w u → IsVector w v → sum_apart u v ≤ 255 * w
sum_bound w u v width a b = omega (arith, sum_small u v a.bytes b.bytes)
