use Rattle.std.proofs.Common.{◌≡◌, ℕ, ◌+◌, ◌-◌, ◌<◌, List, [], ◌∷◌, length, get_or, sym, ap, subst, arith}
use Rattle.std.specs.List.{AllByRecursion}
use Rattle.mtree_node.specs.declared.node.InnerEntry.{InnerEntry, out-InnerEntry}
use Rattle.mtree_node.specs.Tree.{IsLeveled}
use Rattle.mtree_node.proofs.Opened.{some_level, leveled_inner}
use Rattle.mtree_node.proofs.levels.+height.Goals as goal

first_of : (P : InnerEntry → Type 0) (es : List InnerEntry) (d : InnerEntry) → 0 < length es → AllByRecursion P es → P (get_or es 0 d)
first_of P [] d some all = absurd (omega (arith, some))
first_of P (x ∷ es) d some all = all.0

levels_are : (t : ℕ) (c : goal.After-height t) → (h : ℕ) → IsLeveled h c.args.root.now → 1 + c.height.result ≡ h
levels_are t c h s =
    let level = some_level h c.args.root.now s in
    let node = leveled_inner c.args.root.now c.in-Inner.tag c.in-Inner.entries c.in-Inner.is h (h - 1) level s in
    let P : InnerEntry → Type 0 = λ e. IsLeveled (h - 1) (out-InnerEntry e).child in
    let es = c.as_slice.result.now in
    let same : c.in-Inner.entries ≡ es = sym c.as_slice.ensures in
    let some : 0 < length es = omega (arith, node.1, ap length same) in
    let child = first_of P es c.index-as_slice-0.result some (subst (AllByRecursion P) same node.3) in
    omega (arith, level, c.height.ensures.only (h - 1) (subst (IsLeveled (h - 1)) (sym c.get.ensures) child))

pub returns-in-Inner-clause-is : goal.returns-in-Inner-clause-is
returns-in-Inner-clause-is t c = subst (λ (h : ℕ). IsLeveled h c.args.root.now) (sym (levels_are t c c.requires.leveled.0 c.requires.leveled.2)) c.requires.leveled.2

pub returns-in-Inner-clause-only : goal.returns-in-Inner-clause-only
returns-in-Inner-clause-only t c = λ h s. levels_are t c h s
