-- Records that leaf entries name one after the other.
use Rattle.std.proofs.Common.{◌≡◌, ℕ, ◌+◌, ◌-◌, true, false, cond, List, [], ◌∷◌, ◌++◌, length, map, count_by, Some, None, refl, sym, ap, subst, ◌∙◌, inl, inr, ◌⊎◌, arith}
use Rattle.std.specs.Prelude.{◌==◌}
use Rattle.std.specs.List.{AllByRecursion}
use Rattle.std.specs.Option.{is_some}
use Rattle.std.specs.Ordering.{nat_cmp, eq_by_cmp}
use Rattle.std.specs.Cmp.{nat_cmp_total, unsigned_tied}
use Rattle.std.specs.FinMap as finite
use Rattle.std.proofs.lemmas.Bool.Decides.{eqb_tells}
use Rattle.std.proofs.lemmas.List.Sums.{sum_by-cons}
use Rattle.vec_record.specs.Held.{Rows, HaveWidth}
use Rattle.vec_record.specs.Vectors.{IsVector}
use Rattle.mtree_node.specs.declared.node.LeafEntry.{LeafEntry}
use Rattle.mtree_node.specs.Tree.{AreDistinct, record_of}

-- each entry names a record that is left, with its vector, and takes it away; after all these are left
abbrev pub Taken : List LeafEntry → Rows → Rows → Type 0
Taken [] left after = after ≡ left
Taken (e ∷ es) left after = (finite.get left e.number ≡ Some e.vector) × Taken es (finite.remove left e.number) after

-- ---- one record taken away

ties : (a b : ℕ) → ((eq_by_cmp nat_cmp a b ≡ true) × (a ≡ b)) ⊎ ((eq_by_cmp nat_cmp a b ≡ false) × (a ≡ b → ⊥))
ties a b = rw (unsigned_tied a b) (eqb_tells a b)

get_same : (left : Rows) (k q : ℕ) → q ≡ k → finite.get (finite.remove left k) q ≡ None
get_same left k q same = elim (ties q k) [ inl t ↦ finite.get-remove nat_cmp_total left k q ∙ rw t.0 refl | inr f ↦ absurd (f.1 same) ]

get_other : (left : Rows) (k q : ℕ) → (q ≡ k → ⊥) → finite.get (finite.remove left k) q ≡ finite.get left q
get_other left k q other = elim (ties q k) [ inl t ↦ absurd (other t.1) | inr f ↦ finite.get-remove nat_cmp_total left k q ∙ rw f.0 refl ]

-- what is left afterwards was left before
held_before : (left : Rows) (k q : ℕ) (v : List ℕ) → finite.get (finite.remove left k) q ≡ Some v → finite.get left q ≡ Some v
held_before left k q v g =
    elim (ties q k) [
      | inl t ↦ absurd (let none = get_same left k q t.1 in cc)
      | inr f ↦ sym (get_other left k q f.1) ∙ g
    ]

none_after : (left : Rows) (k q : ℕ) → finite.get left q ≡ None → finite.get (finite.remove left k) q ≡ None
none_after left k q none = elim (ties q k) [ inl t ↦ get_same left k q t.1 | inr f ↦ get_other left k q f.1 ∙ none ]

put_back : (left : Rows) (k : ℕ) (v : List ℕ) → finite.get left k ≡ Some v → finite.insert (finite.remove left k) k v ≡ left
put_back left k v g =
    finite.same_map nat_cmp_total finite.nat_cmp-IsAntisymmetric _ _ (λ q.
    finite.get-insert nat_cmp_total (finite.remove left k) k v q
    ∙ elim (ties q k) [
      | inl t ↦ rw t.0 (sym g ∙ ap (finite.get left) (sym t.1))
      | inr f ↦ rw f.0 (get_other left k q f.1)
    ])

-- where something is held, the number of records isn't 0
some_held : (left : Rows) (k : ℕ) (v : List ℕ) → finite.get left k ≡ Some v → finite.len left ≡ 0 → ⊥
some_held left k v g none =
    let nothing : finite.get left k ≡ None = subst (λ m. finite.get m k ≡ None) (sym (finite.empty_of_len left none)) (finite.get-empty nat_cmp k) in
    cc

one_less : (left : Rows) (k : ℕ) (v : List ℕ) → finite.get left k ≡ Some v → finite.len (finite.remove left k) + 1 ≡ finite.len left
one_less left k v g =
    let held : finite.contains_key left k ≡ true = ap is_some g in
    let some : finite.len left ≡ 0 → ⊥ = some_held left k v g in
    let less : finite.len (finite.remove left k) ≡ finite.len left - 1 = finite.len-remove nat_cmp_total left k ∙ rw held refl in
    omega arith

-- ---- all that a list of entries takes

pub taken_len : (es : List LeafEntry) (left after : Rows) → Taken es left after → finite.len after + length es ≡ finite.len left
taken_len [] left after t = rw t (omega arith)
taken_len (e ∷ es) left after t = omega (arith, one_less left e.number e.vector t.0, taken_len es (finite.remove left e.number) after t.1)

width_after : (width : ℕ) (left : Rows) (k : ℕ) → HaveWidth width left → HaveWidth width (finite.remove left k)
width_after width left k widths q v g = widths q v (held_before left k q v g)

pub taken_width : (width : ℕ) (es : List LeafEntry) (left after : Rows) → HaveWidth width left → Taken es left after → HaveWidth width after
taken_width width [] left after widths t = subst (HaveWidth width) (sym t) widths
taken_width width (e ∷ es) left after widths t = taken_width width es (finite.remove left e.number) after (width_after width left e.number widths) t.1

pub taken_vectors : (width : ℕ) (es : List LeafEntry) (left after : Rows) → HaveWidth width left → Taken es left after → AllByRecursion (λ e. IsVector width e.vector) es
taken_vectors width [] left after widths t = tt
taken_vectors width (e ∷ es) left after widths t =
    (widths e.number e.vector t.0, taken_vectors width es (finite.remove left e.number) after (width_after width left e.number widths) t.1)

pub taken_append : (es fs : List LeafEntry) (left between after : Rows) → Taken es left between → Taken fs between after → Taken (es ++ fs) left after
taken_append [] fs left between after t u = subst (λ m. Taken fs m after) t u
taken_append (e ∷ es) fs left between after t u = (t.0, taken_append es fs (finite.remove left e.number) between after t.1 u)

-- where nothing is left afterwards, the entries' records are all that was left before
pub taken_records : (es : List LeafEntry) (left : Rows) → Taken es left finite.empty → finite.from_entries (map record_of es) ≡ left
taken_records [] left t = t
taken_records (e ∷ es) left t =
    ap (λ m. finite.insert m e.number e.vector) (taken_records es (finite.remove left e.number) t.1) ∙ put_back left e.number e.vector t.0

-- ---- no number is taken twice

counted : (q : ℕ) (e : LeafEntry) (es : List LeafEntry) → count_by (λ (x : LeafEntry). x.number == q) (e ∷ es) ≡ cond (e.number == q) 1 0 + count_by (λ (x : LeafEntry). x.number == q) es
counted q e es = sum_by-cons (λ (x : LeafEntry). cond (x.number == q) 1 0) e es

counted_here : (q : ℕ) (e : LeafEntry) (es : List LeafEntry) → (e.number == q) ≡ true → count_by (λ (x : LeafEntry). x.number == q) (e ∷ es) ≡ 1 + count_by (λ (x : LeafEntry). x.number == q) es
counted_here q e es here = counted q e es ∙ rw here refl

counted_not : (q : ℕ) (e : LeafEntry) (es : List LeafEntry) → (e.number == q) ≡ false → count_by (λ (x : LeafEntry). x.number == q) (e ∷ es) ≡ count_by (λ (x : LeafEntry). x.number == q) es
counted_not q e es other = counted q e es ∙ rw other (omega arith)

never_taken : (q : ℕ) (es : List LeafEntry) (left after : Rows) → Taken es left after → finite.get left q ≡ None → count_by (λ (e : LeafEntry). e.number == q) es ≡ 0
never_taken q [] left after t none = refl
never_taken q (e ∷ es) left after t none =
    elim (eqb_tells e.number q) [
      | inl same ↦ absurd (let some : finite.get left q ≡ Some e.vector = subst (λ k. finite.get left k ≡ Some e.vector) same.1 t.0 in cc)
      | inr other ↦ counted_not q e es other.0 ∙ never_taken q es (finite.remove left e.number) after t.1 (none_after left e.number q none)
    ]

pub taken_distinct : (es : List LeafEntry) (left after : Rows) → Taken es left after → AreDistinct es
taken_distinct [] left after t q = omega arith
taken_distinct (e ∷ es) left after t q =
    let rest = finite.remove left e.number in
    elim (eqb_tells e.number q) [
      | inl same ↦ omega (arith, counted_here q e es same.0, never_taken q es rest after t.1 (get_same left e.number q (sym same.1)))
      | inr other ↦ omega (arith, counted_not q e es other.0, taken_distinct es rest after t.1 q)
    ]
