-- Counts of distances, over products.
use Rattle.std.proofs.Common.{◌≡◌, ℕ, ◌+◌, ◌*◌, ◌≤◌, mul-le-mul, arith}
use Rattle.std.proofs.lemmas.Grind.{common_steps}

next_row : (i n : ℕ) → (i + 1) * n ≡ i * n + n
next_row i n = grind (arith, common_steps)

products : (a b c e : ℕ) → a ≤ b → c ≤ e → a * c ≤ b * e
products a b c e h k = mul-le-mul h k

thrice : (n : ℕ) → 3 * n * n ≡ n * n + n * n + n * n
thrice n = grind (arith, common_steps)

twice : (n : ℕ) → 2 * n * n ≡ n * n + n * n
twice n = grind (arith, common_steps)

-- the passes over pairs for labels and for borders: n points, and m of them cores
pub in_two : (n m i start first now : ℕ) → m ≤ n → i ≤ n → first ≤ start + m * m → now ≤ first + i * m → now ≤ start + 2 * n * n
in_two n m i start first now cores place one two = omega (arith, twice n, products m n m n cores cores, products i n m n place cores, one, two)

pub in_one : (n m start first : ℕ) → m ≤ n → first ≤ start + m * m → first ≤ start + 2 * n * n
in_one n m start first cores one = omega (arith, twice n, products m n m n cores cores, one)

-- and all of them
pub in_all : (n start first now : ℕ) → first ≤ start + n * n → now ≤ first + 2 * n * n → now ≤ start + 3 * n * n
in_all n start first now one two = omega (arith, twice n, thrice n, one, two)

pub in_first : (n start first : ℕ) → first ≤ start + n * n → first ≤ start + 3 * n * n
in_first n start first one = omega (arith, thrice n, one)

pub one_row : (start i m old now : ℕ) → old ≤ start + i * m → now ≤ old + m → now ≤ start + (i + 1) * m
one_row start i m old now h k = omega (arith, next_row i m, h, k)
