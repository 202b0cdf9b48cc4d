-- What a set's own tests say.
use Rattle.std.proofs.Common.{◌≡◌, ℕ, Bool, true, false, not, List, refl, sym, ◌∙◌}
use Rattle.std.specs.Prelude.{nat_eq}
use Rattle.std.specs.List.{list_any}
use Rattle.chain_growth.specs.inside.Lists.{is_in, In}
use Rattle.chain_growth.proofs.Entering.{any_flip}

pub out_by : (x : ℕ) (keys : List ℕ) (found : Bool) → found ≡ list_any (nat_eq x) keys → found ≡ false → is_in keys x ≡ false
out_by x keys found e h = sym (any_flip x keys) ∙ sym e ∙ h

pub in_by : (x : ℕ) (keys : List ℕ) (found : Bool) → found ≡ list_any (nat_eq x) keys → found ≡ true → In keys x
in_by x keys found e h = sym (any_flip x keys) ∙ sym e ∙ h

-- whether a number is new is whether the set doesn't have it
pub now_false : (b t : Bool) → t ≡ true → t ≡ not b → b ≡ false
now_false true t h k = absurd (cc)
now_false false t h k = refl

pub now_true : (b t : Bool) → t ≡ false → t ≡ not b → b ≡ true
now_true true t h k = refl
now_true false t h k = absurd (cc)
