-- What the walk may compute, for entries one after the other and for an entry from its child.
use Rattle.std.proofs.Common.{◌≡◌, ℕ, suc, ◌+◌, ◌-◌, ◌*◌, ◌<◌, ◌≤◌, inl, inr, arith}
use Rattle.std.proofs.Math.Nat.{mul-le-mul_right}
use Rattle.std.proofs.lemmas.Bool.{cases_lt}
use Rattle.mtree_node.specs.Progress.{IsWhole, IsPart}

-- what the entries that were built so far named and computed: with fewer than 7 named nothing was computed
pub record AreWhole (level before left began steps : ℕ) : Type 0 where
  pub fewer : left ≤ before
  pub whole : IsWhole level (before - left) (steps - began)
  pub none : before - left < 7 → steps ≤ began

whole_sum : (level a b c d m n : ℕ) → IsWhole level a c → IsWhole level b d → m ≡ a + b → n ≤ c + d → IsWhole level m n
whole_sum level a b c d m n h k is most = grind arith

part_sum : (level a b c d m n : ℕ) → IsWhole level a c → (a < 7 → c ≡ 0) → IsPart level b d → m ≡ a + b → n ≤ c + d → IsPart level m n
part_sum level a b c d m n h none k is most = record { most = grind (arith, k.most); few = λ few. omega (arith, none, k.few) }

-- one entry more
pub whole_more : (level before left began steps left' steps' : ℕ) → AreWhole level before left began steps → left' + 7 ≤ left → IsWhole level (left - left') (steps' - steps) → AreWhole level before left' began steps'
whole_more level before left began steps left' steps' so_far named whole =
    record {
      fewer = omega (arith, so_far.fewer);
      whole = whole_sum level (before - left) (left - left') (steps - began) (steps' - steps) (before - left') (steps' - began) so_far.whole whole (omega (arith, so_far.fewer)) (omega arith);
      none = λ few. absurd (omega (arith, so_far.fewer));
    }

-- a part behind entries that were built
pub part_more : (level before left began steps left' steps' : ℕ) → AreWhole level before left began steps → left' ≤ left → IsPart level (left - left') (steps' - steps) → IsPart level (before - left') (steps' - began)
part_more level before left began steps left' steps' so_far fewer part =
    part_sum level (before - left) (left - left') (steps - began) (steps' - steps) (before - left') (steps' - began) so_far.whole (λ few. omega (arith, so_far.none few)) part (omega (arith, so_far.fewer)) (omega arith)

-- what is whole is a part, where it computed nothing with fewer than 7 named
pub part_whole : (level m c : ℕ) → IsWhole level m c → (m < 7 → c ≤ m + level) → IsPart level m c
part_whole level m c whole few = record { most = omega (arith, whole); few = few }

child_whole : (above level m c n : ℕ) → level ≡ suc above → IsWhole above m c → 7 ≤ m → n ≤ 1 + c + m → IsWhole level m n
child_whole above level m c n is whole named most = grind arith

-- what an entry that was built named and computed
pub record IsEntry (level before left began steps : ℕ) : Type 0 where
  pub named : left + 7 ≤ before
  pub whole : IsWhole level (before - left) (steps - began)
  pub part : IsPart level (before - left) (steps - began)

-- an entry from its child: one distance for the parent, and at most one for each record below for the radius
pub entry_built : (level before left named began first second steps : ℕ) → 1 ≤ level → left + named ≡ before → 7 ≤ named → first ≤ began + 1 → IsWhole (level - 1) (before - left) (second - first) → steps ≤ second + named → IsEntry level before left began steps
entry_built level before left named began first second steps some is seven one below last =
    let whole : IsWhole level (before - left) (steps - began) = child_whole (level - 1) level (before - left) (second - first) (steps - began) (omega arith) below (omega arith) (omega arith) in
    record { named = omega arith; whole = whole; part = part_whole level (before - left) (steps - began) whole (λ few. absurd (omega arith)) }

few_or_most : (above m c records : ℕ) → above ≤ 5 → 1 ≤ records → m ≤ records → IsPart above m c → c ≤ 8 * records
few_or_most above m c records low some within part =
    let five : above * m ≤ 5 * m = mul-le-mul_right m low in
    elim (cases_lt m 7) [ inl few ↦ omega (arith, part.few few) | inr many ↦ omega (arith, part.most, five) ]

-- the whole tree: at most 8 distances for each record
pub at_most_eight : (above records left began steps : ℕ) → above ≤ 5 → 1 ≤ records → IsPart above (records - left) (steps - began) → steps ≤ began + 8 * records
at_most_eight above records left began steps low some part = omega (arith, few_or_most above (records - left) (steps - began) records low some (omega arith) part)
