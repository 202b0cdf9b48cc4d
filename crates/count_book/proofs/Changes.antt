-- What a write through a loan of one row does to the rows.
use Rattle.std.proofs.Common.{◌≡◌, ℕ, ◌<◌, ◌≤◌, ◌↔◌, Bool, true, false, cond, sym, ap, subst, ◌∙◌, None, Some, IsTrue, IsSome, IsSomeAnd, MutBor, arith}
use Rattle.std.specs.declared.option.Option.{Option}
use Rattle.std.specs.Option.{OnSome}
use Rattle.std.specs.Cmp.{nat_cmp_total, eq_by_cmp_equiv}
use Rattle.std.specs.FinMap as map
use Rattle.count_book.specs.declared.row.Row.{Row}
use Rattle.count_book.specs.Counted.{Rows, IsCore, put_back, changed}

pub given : {X : Type 0} {o : Option (MutBor X)} {b : MutBor X} {P : Type 0} → o ≡ Some b → OnSome o P → P
given {P = P} is h = subst (λ o. OnSome o P) is h

pub wrote : (f : Row → Row) (rows fresh : Rows) (k : ℕ) (r w : Row) → Some r ≡ map.get rows k → fresh ≡ map.insert rows k w → w ≡ f r → fresh ≡ changed f rows k
wrote f rows fresh k r w at new same = new ∙ ap (map.insert rows k) same ∙ ap (put_back f rows k) at

pub kept : (f : Row → Row) (rows fresh : Rows) (k : ℕ) → None ≡ map.get rows k → fresh ≡ rows → fresh ≡ changed f rows k
kept f rows fresh k at new = new ∙ ap (put_back f rows k) at

pub absent : (o : Option Row) → None ≡ o → IsSome o → ⊥
absent o e h = let x : false ≡ true = subst IsSome (sym e) h in cc

pub here : (rows : Rows) (k : ℕ) (w : Row) → map.get (map.insert rows k w) k ≡ Some w
here rows k w = map.get-insert nat_cmp_total rows k w k ∙ ap (λ b. cond b (Some w) (map.get rows k)) ((eq_by_cmp_equiv nat_cmp_total).refl k)

above : ℕ → Option Row → Type 0
above minpts o = IsSomeAnd o (λ r. minpts ≤ r.count)

rises : (minpts : ℕ) (r w : Row) (b : Bool) → IsTrue b ↔ ((r.count < minpts) × (minpts ≤ w.count)) → IsTrue b ↔ ((minpts ≤ r.count → ⊥) × (minpts ≤ w.count))
rises minpts r w b h = (λ t. let u = h.0 t in (λ le. omega (arith, le, u.0), u.1), λ s. h.1 (let f = s.0 in omega arith, s.1))

falls : (minpts : ℕ) (r w : Row) (b : Bool) → IsTrue b ↔ ((minpts ≤ r.count) × (w.count < minpts)) → IsTrue b ↔ ((minpts ≤ r.count) × (minpts ≤ w.count → ⊥))
falls minpts r w b h = (λ t. let u = h.0 t in (u.0, λ le. omega (arith, le, u.1)), λ s. h.1 (s.0, let f = s.1 in omega arith))

pub became_core : (minpts : ℕ) (rows fresh : Rows) (k : ℕ) (r w : Row) (b : Bool) → Some r ≡ map.get rows k → fresh ≡ map.insert rows k w
    → IsTrue b ↔ ((r.count < minpts) × (minpts ≤ w.count)) → IsTrue b ↔ ((IsCore (record { minpts = minpts; rows = rows }) k → ⊥) × IsCore (record { minpts = minpts; rows = fresh }) k)
unfolding above
became_core minpts rows fresh k r w b at new h =
    subst (λ o. IsTrue b ↔ ((above minpts o → ⊥) × above minpts (map.get fresh k))) at
    (subst (λ o. IsTrue b ↔ ((above minpts (Some r) → ⊥) × above minpts o)) (sym (ap (λ m. map.get m k) new ∙ here rows k w)) (rises minpts r w b h))

pub ceased_core : (minpts : ℕ) (rows fresh : Rows) (k : ℕ) (r w : Row) (b : Bool) → Some r ≡ map.get rows k → fresh ≡ map.insert rows k w
    → IsTrue b ↔ ((minpts ≤ r.count) × (w.count < minpts)) → IsTrue b ↔ (IsCore (record { minpts = minpts; rows = rows }) k × (IsCore (record { minpts = minpts; rows = fresh }) k → ⊥))
unfolding above
ceased_core minpts rows fresh k r w b at new h =
    subst (λ o. IsTrue b ↔ (above minpts o × (above minpts (map.get fresh k) → ⊥))) at
    (subst (λ o. IsTrue b ↔ (above minpts (Some r) × (above minpts o → ⊥))) (sym (ap (λ m. map.get m k) new ∙ here rows k w)) (falls minpts r w b h))

-- a core whose row was raised is core still
pub stays_core : (minpts : ℕ) (rows fresh : Rows) (k : ℕ) (r w : Row) → Some r ≡ map.get rows k → fresh ≡ map.insert rows k w
    → (minpts ≤ r.count → minpts ≤ w.count) → IsCore (record { minpts = minpts; rows = rows }) k → IsCore (record { minpts = minpts; rows = fresh }) k
unfolding above
stays_core minpts rows fresh k r w at new h was =
    subst (above minpts) (sym (ap (λ m. map.get m k) new ∙ here rows k w)) (h (subst (above minpts) (sym at) was))
