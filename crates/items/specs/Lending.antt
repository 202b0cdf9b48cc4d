-- What becomes of a list or a box of which a part was changed in place.
use Rattle.std.specs.Prelude.{ℕ, List, slice_set}
use Rattle.std.specs.Borrow.{Lends, MutBor, Fml, RattleType}
use Rattle.items.specs.contracts.list.Items as items
use Rattle.items.specs.contracts.boxed.Boxed as boxed

-- the list ends with the item at a place set to the last value behind the reference
abbrev pub LendsItem : (T : RattleType) → MutBor (List T.Denot) → ℕ → MutBor T.Denot → Fml
LendsItem T list at r = Lends (items.the_row T) T list r (slice_set list.now at)

-- the box ends with the last value behind the reference
abbrev pub LendsValue : (T : RattleType) → MutBor T.Denot → MutBor T.Denot → Fml
LendsValue T box r = Lends (boxed.the_row T) T box r (λ value. value)
