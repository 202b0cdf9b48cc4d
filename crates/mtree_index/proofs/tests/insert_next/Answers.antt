use Rattle.std.proofs.Common.{◌≡◌, ℕ, ◌+◌, ◌≤◌, true, false, cond, Some, None, ap, ◌∙◌, arith}
use Rattle.std.specs.FinMap.{FinMap, get, insert, len, len-insert, get-insert, contains_key}
use Rattle.std.specs.Ordering.{nat_cmp}
use Rattle.std.specs.Cmp.{nat_cmp_total, unsigned_tied}
use Rattle.std.proofs.lemmas.Bool.{ne_eqb}
use Rattle.std.proofs.lemmas.Result.{on_ok_weaker}
use Rattle.mtree_index.specs.Tree.{contents}
use Rattle.mtree_index.proofs.tests.insert_next.Goals as goal

other_key : {X : Type 0} (m : FinMap nat_cmp X) (a b : ℕ) (v : X) → (b ≡ a → ⊥) → get m b ≡ None → get (insert m a v) b ≡ None
other_key m a b v d h = get-insert nat_cmp_total m a v b ∙ (ap (λ t. cond t (Some v) (get m b)) (unsigned_tied b a ∙ ne_eqb b a d) ∙ h)

one_more : {X : Type 0} (m : FinMap nat_cmp X) (k : ℕ) (v : X) → len (insert m k v) ≤ len m + 1
one_more m k v = rw (len-insert nat_cmp_total m k v) (elim (contains_key m k) as (λ b. cond b (len m) (len m + 1) ≤ len m + 1) [ true ↦ omega arith | false ↦ omega arith ])

pub returns-clause-fresh : goal.returns-clause-fresh
returns-clause-fresh g c =
    on_ok_weaker c.insert.result (λ d. λ q l. rw d.contents (other_key (contents c.args.tree.now) c.args.number q c.args.vector.now (λ e. absurd (omega (arith, l, e))) (c.requires.fresh q (omega (arith, l))))) c.insert.ensures.inserted

pub returns-clause-few : goal.returns-clause-few
returns-clause-few g c = on_ok_weaker c.insert.result (λ d. omega (arith, ap len d.contents, one_more (contents c.args.tree.now) c.args.number c.args.vector.now, c.requires.few)) c.insert.ensures.inserted
