-- What a map ends as where a value was changed in place.
use Rattle.std.specs.Prelude.{◌≡◌, ℕ, cond, is_some}
use Rattle.std.specs.Option.{OnSome}
use Rattle.std.specs.declared.option.Option.{Option}
use Rattle.std.specs.Borrow.{LendsSo, Fml, RattleType, MutBor}
use Rattle.std.specs.Ordering.{nat_cmp}
use Rattle.std.specs.FinMap.{FinMap, get, insert}
use Rattle.number_map.specs.contracts.map.NumberMap.{the_row}

-- The number has the last value behind the reference; without a reference the map stays.
abbrev pub LendsEntry : (V : RattleType) → MutBor (FinMap nat_cmp V.Denot) → ℕ → Option (MutBor V.Denot) → Fml
LendsEntry V m number r = LendsSo (the_row V) V m r (λ n w. OnSome r (n ≡ insert m.now number w)) (λ n. n ≡ m.now)

-- The map with this value under a number, if the number is in it.
abbrev pub replaced : {V : Type 0} → FinMap nat_cmp V → ℕ → V → FinMap nat_cmp V
replaced m number value = cond (is_some (get m number)) (insert m number value) m
