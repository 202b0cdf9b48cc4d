-- A truth value as a number.
use Rattle.std.proofs.Common.{◌≡◌, Bool, true, false, cond, refl}
use mir.Val.{bool_byte}

-- 1 where it is true, and otherwise 0
pub bool_number : (b : Bool) → bool_byte b ≡ cond b 1 0
bool_number true = refl
bool_number false = refl
