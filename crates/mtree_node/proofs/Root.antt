-- What becomes of the walk of the root: the tree that it built, or the first place that fails.
use Rattle.std.proofs.Common.{◌≡◌, ◌↔◌, ℕ, zero, suc, ◌+◌, ◌-◌, ◌*◌, ◌<◌, ◌≤◌, List, [], ◌∷◌, length, drop, Option, Some, None, refl, sym, ap, ◌∙◌, subst, arith}
use Rattle.std.specs.FinMap as finite
use Rattle.std.proofs.lemmas.Bool.Decides.{nat_tests}
use Rattle.vec_record.specs.Held.{Rows, Held}
use Rattle.mtree_node.specs.declared.node.Node.{Node}
use Rattle.mtree_node.specs.declared.shape.Shape.{Shape}
use Rattle.mtree_node.specs.declared.shape.BadPlace.{BadPlace}
use Rattle.mtree_node.specs.declared.shape.BadWhat.TheVariants as bad
use Rattle.mtree_node.specs.declared.progress.Progress.{Progress}
use Rattle.mtree_node.specs.Walk.{Standing, Fails, Builds, walk, start, first_failing, failing, unreached, bad_place, IsTreeOf}
use Rattle.mtree_node.specs.Progress.{standing, ahead, IsPart}
use Rattle.mtree_node.proofs.Complete.{only_tree, never_fails}
use Rattle.mtree_node.proofs.Bounds.{at_most_eight}

-- the first shape that isn't reached
unreached_first : (next : ℕ) (shapes : List Shape) (k : ℕ) → k < length shapes → unreached next (drop k shapes) ≡ Some (bad_place next 0 bad.Fill)
unreached_first next [] k some = absurd (omega arith)
unreached_first next (x ∷ xs) zero some = refl
unreached_first next (x ∷ xs) (suc k) some = unreached_first next xs k (omega arith)

left_over : (n : Node) (s : Standing) → 0 < finite.len s.left → failing (Builds n s) ≡ Some (bad_place 0 0 bad.Missing)
left_over n s some = grind (arith, nat_tests)

all_named : (n : Node) (s : Standing) → finite.len s.left ≡ 0 → failing (Builds n s) ≡ unreached s.next s.rest
all_named n s none = rw none

-- the walk of a copy of the records is that of the records
module _ (dist : List ℕ → List ℕ → ℕ) (h : ℕ) (slice shapes : List Shape) (held records : Held) where
  pub root_built : (q : Progress) (n : Node) → slice ≡ shapes → held ≡ records → walk dist h None (start slice held.vectors) ≡ Builds n (standing (ahead slice q) q) → walk dist h None (start shapes records.vectors) ≡ Builds n (standing (ahead shapes q) q)
  root_built q n same copied is = subst (λ (r : Held). walk dist h None (start shapes r.vectors) ≡ Builds n (standing (ahead shapes q) q)) copied (subst (λ (x : List Shape). walk dist h None (start x held.vectors) ≡ Builds n (standing (ahead x q) q)) same is)

  pub root_failed : (p : BadPlace) → slice ≡ shapes → held ≡ records → walk dist h None (start slice held.vectors) ≡ Fails p → walk dist h None (start shapes records.vectors) ≡ Fails p
  root_failed p same copied is = subst (λ (r : Held). walk dist h None (start shapes r.vectors) ≡ Fails p) copied (subst (λ (x : List Shape). walk dist h None (start x held.vectors) ≡ Fails p) same is)

module _ (dist : List ℕ → List ℕ → ℕ) (h : ℕ) (shapes : List Shape) (rows : Rows) (some : 0 < h) where
  first_is : first_failing dist h shapes rows ≡ failing (walk dist h None (start shapes rows))
  first_is = let one : h ≡ suc (h - 1) = omega arith in subst (λ k. first_failing dist k shapes rows ≡ failing (walk dist k None (start shapes rows))) (sym one) refl

  pub root_fails : (p : BadPlace) → walk dist h None (start shapes rows) ≡ Fails p → first_failing dist h shapes rows ≡ Some p
  root_fails p is = first_is ∙ ap failing is

  module _ (n : Node) (t : Standing) (is : walk dist h None (start shapes rows) ≡ Builds n t) where
    pub root_missing : 0 < finite.len t.left → first_failing dist h shapes rows ≡ Some (bad_place 0 0 bad.Missing)
    root_missing left = first_is ∙ (ap failing is ∙ left_over n t left)

    pub root_unreached : (k : ℕ) → finite.len t.left ≡ 0 → t.rest ≡ drop k shapes → k < length shapes → first_failing dist h shapes rows ≡ Some (bad_place t.next 0 bad.Fill)
    root_unreached k none rest more = first_is ∙ (ap failing is ∙ (all_named n t none ∙ (ap (unreached t.next) rest ∙ unreached_first t.next shapes k more)))

    pub only_root : (width greatest : ℕ) (other : Option Node) → IsTreeOf dist width greatest h shapes rows other → Some n ≡ other
    only_root width greatest None tree = absurd (omega (arith, tree.0))
    only_root width greatest (Some m) tree = ap Some (only_tree dist width greatest h shapes rows n m t is tree)

  -- no tree has these shapes where a place fails
  pub no_root : (p : BadPlace) (width greatest : ℕ) → first_failing dist h shapes rows ≡ Some p → (root : Option Node) → IsTreeOf dist width greatest h shapes rows root → ⊥
  no_root p width greatest is None tree = absurd (omega (arith, tree.0))
  no_root p width greatest is (Some m) tree = let none : first_failing dist h shapes rows ≡ None = never_fails dist width greatest h shapes rows m tree in cc

has_some : (h n : ℕ) → 0 < h → (n ≡ 0 → h ≡ 0) → 1 ≤ n
has_some h zero some none = absurd (let zero_is : h ≡ 0 = none refl in omega arith)
has_some h (suc n) some none = omega arith

-- at most 8 distances for each record
pub root_counted : (height : ℕ) (held records : Held) (left began steps : ℕ) → held ≡ records → height ≤ 6 → 0 < height → ((height ≡ 0) ↔ (finite.len records.vectors ≡ 0)) → IsPart (height - 1) (finite.len held.vectors - left) (steps - began) → steps ≤ began + 8 * finite.len records.vectors
root_counted height held records left began steps same low some none part =
    let few : 1 ≤ finite.len records.vectors = has_some height (finite.len records.vectors) some none.1 in
    at_most_eight (height - 1) (finite.len records.vectors) left began steps (omega arith) few (subst (λ (h : Held). IsPart (height - 1) (finite.len h.vectors - left) (steps - began)) same part)
