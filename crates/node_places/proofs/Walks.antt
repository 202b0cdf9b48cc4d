-- The nodes of a walk, one by one.
use Rattle.std.proofs.Common.{◌≡◌, ◌⊎◌, inl, inr, ℕ, ◌+◌, ◌<◌, ◌≤◌, min, Bool, true, false, cond, not, ◌&&◌, List, [], ◌∷◌, ◌++◌, length, drop, get_or, refl, sym, ◌∙◌, ap, arith, append_assoc}
use Rattle.std.specs.Prelude.{◌==◌}
use Rattle.std.proofs.lemmas.Bool.{cases_lt, ne_eqb}
use Rattle.std.proofs.lemmas.List.{drop_more, drop_all, append-nil}
use Rattle.node_places.specs.declared.nodes.Tagged.{Tagged}
use Rattle.node_places.specs.Slots.{has, absent}
use Rattle.node_places.specs.Nodes.{is_of, holder, numbers_from, ref_of, refs_by}

-- the first node with a tag, from a node on
pub holder_more : (leaf : Bool) (nodes : List Tagged) (k tag : ℕ) (d : Tagged) → k < length nodes
    → holder (k + 1) leaf (drop k nodes) tag ≡ cond (is_of leaf (get_or nodes k d) && ((get_or nodes k d).tag == tag)) (k + 1) (holder (k + 1 + 1) leaf (drop (k + 1) nodes) tag)
holder_more leaf nodes k tag d lt =
    ap (λ (l : List Tagged). holder (k + 1) leaf l tag) (drop_more nodes k d lt)

pub holder_none : (leaf : Bool) (nodes : List Tagged) (i k tag : ℕ) → length nodes ≤ k
    → holder i leaf (drop k nodes) tag ≡ 0
holder_none leaf nodes i k tag past =
    ap (λ (l : List Tagged). holder i leaf l tag) (drop_all k nodes past)

-- the nodes without a place, from a node on
module _ (leaf : Bool) (slots : List ℕ) (nodes : List Tagged) where
  abbrev from : ℕ → List ℕ
  from k = absent slots (numbers_from (k + 1) leaf (drop k nodes))

  one : (k : ℕ) (d : Tagged) → k < length nodes
      → from k ≡ absent slots (cond (is_of leaf (get_or nodes k d)) ((k + 1) ∷ numbers_from (k + 1 + 1) leaf (drop (k + 1) nodes)) (numbers_from (k + 1 + 1) leaf (drop (k + 1) nodes)))
  one k d lt =
      ap (λ (l : List Tagged). absent slots (numbers_from (k + 1) leaf l)) (drop_more nodes k d lt)

  pub is_new : (k : ℕ) (d : Tagged) (before all : List ℕ) → k < length nodes
      → is_of leaf (get_or nodes k d) ≡ true → has slots (k + 1) ≡ false → before ++ from k ≡ all
      → (before ++ (k + 1) ∷ []) ++ from (k + 1) ≡ all
  is_new k d before all lt is away whole =
      append_assoc before ((k + 1) ∷ []) (from (k + 1))
      ∙ ap (λ (l : List ℕ). before ++ l) (sym (one k d lt
      ∙ ap (λ (b : Bool). absent slots (cond b ((k + 1) ∷ numbers_from (k + 1 + 1) leaf (drop (k + 1) nodes)) (numbers_from (k + 1 + 1) leaf (drop (k + 1) nodes)))) is
      ∙ ap (λ (b : Bool). cond (not b) ((k + 1) ∷ from (k + 1)) (from (k + 1))) away))
      ∙ whole

  pub is_old : (k : ℕ) (d : Tagged) (before all : List ℕ) → k < length nodes
      → has slots (k + 1) ≡ true → before ++ from k ≡ all → before ++ from (k + 1) ≡ all
  is_old k d before all lt there whole =
      ap (λ (l : List ℕ). before ++ l) (sym (one k d lt ∙ of_test (is_of leaf (get_or nodes k d))))
      ∙ whole
    where
      of_test : (b : Bool)
          → absent slots (cond b ((k + 1) ∷ numbers_from (k + 1 + 1) leaf (drop (k + 1) nodes)) (numbers_from (k + 1 + 1) leaf (drop (k + 1) nodes))) ≡ from (k + 1)
      of_test true = ap (λ (b : Bool). cond (not b) ((k + 1) ∷ from (k + 1)) (from (k + 1))) there
      of_test false = refl

  pub is_other : (k : ℕ) (d : Tagged) (before all : List ℕ) → k < length nodes
      → is_of leaf (get_or nodes k d) ≡ false → before ++ from k ≡ all
      → before ++ from (k + 1) ≡ all
  is_other k d before all lt other whole =
      ap (λ (l : List ℕ). before ++ l) (sym (one k d lt
      ∙ ap (λ (b : Bool). absent slots (cond b ((k + 1) ∷ numbers_from (k + 1 + 1) leaf (drop (k + 1) nodes)) (numbers_from (k + 1 + 1) leaf (drop (k + 1) nodes)))) other))
      ∙ whole

  pub all_seen : (k : ℕ) (before all : List ℕ) → length nodes ≤ k → before ++ from k ≡ all
      → before ≡ all
  all_seen k before all past whole =
      sym (ap (λ (l : List Tagged). before ++ absent slots (numbers_from (k + 1) leaf l)) (drop_all k nodes past) ∙ append-nil before)
      ∙ whole

-- the reference of a number, from a slot on
pub ref_more : (slots refs : List ℕ) (n k : ℕ) → k < length slots → k < length refs
    → ref_of (drop k slots) (drop k refs) n ≡ cond (get_or slots k 0 == n) (get_or refs k 0) (ref_of (drop (k + 1) slots) (drop (k + 1) refs) n)
ref_more slots refs n k s r = ap (λ (l : List ℕ). ref_of l (drop k refs) n) (drop_more slots k 0 s)
    ∙ ap (λ (l : List ℕ). ref_of (get_or slots k 0 ∷ drop (k + 1) slots) l n) (drop_more refs k 0 r)

pub ref_none : (slots refs : List ℕ) (n k : ℕ) → (length slots ≤ k) ⊎ (length refs ≤ k)
    → ref_of (drop k slots) (drop k refs) n ≡ 0
ref_none slots refs n k (inl past) =
    ap (λ (l : List ℕ). ref_of l (drop k refs) n) (drop_all k slots past)
ref_none slots refs n k (inr past) =
    ap (λ (l : List ℕ). ref_of (drop k slots) l n) (drop_all k refs past)
    ∙ of_none (drop k slots)
  where
    of_none : (l : List ℕ) → ref_of l [] n ≡ 0
    of_none [] = refl
    of_none (m ∷ l) = refl

pub ref_skips : (slots refs : List ℕ) (n k left : ℕ) → k + 1 ≡ left → left ≤ length slots
    → left ≤ length refs → (get_or slots k 0 ≡ n → ⊥)
    → ref_of (drop left slots) (drop left refs) n ≡ ref_of (drop k slots) (drop k refs) n
ref_skips slots refs n k left next s r other =
    ap (λ (i : ℕ). ref_of (drop i slots) (drop i refs) n) (sym next)
    ∙ sym (ref_more slots refs n k (omega (arith, next, s)) (omega (arith, next, r)) ∙ ap (λ (b : Bool). cond b (get_or refs k 0) (ref_of (drop (k + 1) slots) (drop (k + 1) refs) n)) (ne_eqb (get_or slots k 0) n other))

pub min_past : (a b left : ℕ) → left ≡ min a b → (a ≤ left) ⊎ (b ≤ left)
min_past a b left is = elim (cases_lt a b) [
  | inl lt ↦ inl (omega (arith, lt, is))
  | inr ge ↦ inr (omega (arith, ge, is))
]

-- the references of nodes, from a node on
pub refs_more : (f g : ℕ → ℕ) (nodes : List Tagged) (k : ℕ) (d : Tagged) (before all : List ℕ)
    → k < length nodes → before ++ refs_by f g (k + 1) (drop k nodes) ≡ all
    → (before ++ cond ((get_or nodes k d).leaf) (f (k + 1)) (g (k + 1)) ∷ []) ++ refs_by f g (k + 1 + 1) (drop (k + 1) nodes) ≡ all
refs_more f g nodes k d before all lt whole =
    let r = cond ((get_or nodes k d).leaf) (f (k + 1)) (g (k + 1)) in
    append_assoc before (r ∷ []) (refs_by f g (k + 1 + 1) (drop (k + 1) nodes))
    ∙ ap (λ (l : List ℕ). before ++ l) (sym (ap (refs_by f g (k + 1)) (drop_more nodes k d lt)))
    ∙ whole

pub refs_all : (f g : ℕ → ℕ) (nodes : List Tagged) (k : ℕ) (before all : List ℕ) → length nodes ≤ k
    → before ++ refs_by f g (k + 1) (drop k nodes) ≡ all → before ≡ all
refs_all f g nodes k before all past whole =
    sym (ap (λ (l : List Tagged). before ++ refs_by f g (k + 1) l) (drop_all k nodes past) ∙ append-nil before)
    ∙ whole
