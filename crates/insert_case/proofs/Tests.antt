-- Tests of counts, and the anchor that they leave.
use Rattle.std.proofs.Common.{◌≡◌, ℕ, ◌<◌, ◌≤◌, Bool, true, false, cond, ◌&&◌, nat_le, None, refl, arith}
use Rattle.std.specs.Prelude.{nat_lt}
use Rattle.std.proofs.lemmas.Bool.Decides.{nat_tests}
use Rattle.std.specs.declared.option.Option.{Option}
use Rattle.insert_case.specs.inside.Counting.{anchor_after}

pub le_true : (m n : ℕ) → m ≤ n → nat_le m n ≡ true
le_true m n h = grind (arith, nat_tests)

pub le_false : (m n : ℕ) → n < m → nat_le m n ≡ false
le_false m n h = grind (arith, nat_tests)

pub lt_true : (m n : ℕ) → m < n → nat_lt m n ≡ true
lt_true m n h = grind (arith, nat_tests)

pub lt_false : (m n : ℕ) → n ≤ m → nat_lt m n ≡ false
lt_false m n h = grind (arith, nat_tests)

pub true_le : (m n : ℕ) → nat_le m n ≡ true → m ≤ n
true_le m n h = grind (arith, nat_tests)

pub false_le : (m n : ℕ) → nat_le m n ≡ false → n < m
false_le m n h = grind (arith, nat_tests)

pub none_either : {X : Type 0} (b : Bool) (o : Option X) → o ≡ None → cond b None o ≡ None
none_either true o e = refl
none_either false o e = e

pub and_false : (b : Bool) → b && false ≡ false
and_false true = refl
and_false false = refl

pub anchor_became : (m s n : ℕ) (o : Option ℕ) → s < m → m ≤ n → anchor_after m s n o ≡ None
anchor_became m s n o h k = rw (lt_true s m h, le_true m n k) refl

pub anchor_stays : (m s n : ℕ) (o : Option ℕ) → n < m → anchor_after m s n o ≡ o
anchor_stays m s n o h = rw (le_false m n h, and_false (nat_lt s m)) refl

pub anchor_kept : (m s n : ℕ) (o : Option ℕ) → m ≤ s → anchor_after m s n o ≡ o
anchor_kept m s n o h = rw (lt_false s m h) refl
