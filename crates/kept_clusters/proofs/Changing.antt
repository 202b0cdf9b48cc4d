-- What a change of records promises, from what the tree and the books promise.
use Rattle.std.proofs.Common.{◌≡◌, ◌⊎◌, ℕ, ◌+◌, ◌*◌, ◌≤◌, List, Result, Ok, Err, OnOk, OnErr, IsSome, unwrap_or, inl, inr, ap, subst, ◌∙◌}
use Rattle.std.specs.declared.option.Option.{Option}
use Rattle.std.specs.FinMap as finite
use Rattle.vec_record.specs.Held.{Held, Rows}
use Rattle.mtree_index.specs.Plain.{PlainTree}
use Rattle.mtree_index.specs.Tree.{contents, query_cost, IsLawful, IsInserted, after_insertion}
use Rattle.mtree_index.specs.Shrinking.{IsRemoved}
use Rattle.mtree_index.specs.Laws.{QueriesAreCheap}
use Rattle.update_seed.specs.Books.{IsHeld}
use Rattle.insert_case.specs.Inserted as insertion
use Rattle.delete_case.specs.Deleted as deletion
use Rattle.kept_clusters.specs.Kept.{Kept, density_in}
use Rattle.kept_clusters.specs.Paid.{tree_without, IsInsertionPaid, IsDeletionPaid}
use Rattle.kept_clusters.specs.Work.{insertion_work, deletion_work}
use Rattle.kept_clusters.proofs.Cheap.{IsAtMost, insertion_cheap, deletion_cheap, cheap_of_index, cheap_paid, little_paid, little_work}

pub both_ok : {T E A B C : Type 0} (r : Result T E) → (A → B → C) → OnOk r A → OnOk r B → OnOk r C
both_ok (Ok x) f a b = f a b
both_ok (Err e) f a b = tt

-- what holds after Ok, or with something small after Err
either_way : {T E A B S : Type 0} (r : Result T E) → OnOk r A → OnErr r (A ⊎ S) → OnOk r B → OnErr r (B ⊎ S) → (A × B) ⊎ S
either_way (Ok x) a a' b b' = inl (a, b)
either_way (Err e) a a' b b' = elim a' [
  | inl x ↦ elim b' [ inl y ↦ inl (x, y) | inr small ↦ inr small ]
  | inr small ↦ inr small
]

module _ {T E : Type 0} (r : Result T E) (dist : List ℕ → List ℕ → ℕ) (most : ℕ → ℕ) (old : Kept) (tree' : PlainTree) (records : Held) (s t : ℕ) where
  module _
      (number : ℕ) (v : List ℕ) (held : IsHeld old.tree.width (contents old.tree) records)
      (grown : OnOk r (IsInserted dist most old.tree tree' number v)) (grown_err : OnErr r (IsInserted dist most old.tree tree' number v ⊎ (t ≤ s + 16384)))
      (paid : OnOk r (insertion.IsPaid (density_in dist old) (query_cost dist tree') records number v s t))
      (paid_err : OnErr r (insertion.IsPaid (density_in dist old) (query_cost dist tree') records number v s t ⊎ (t ≤ s + 16384))) where
    pub insertion_paid : IsInsertionPaid most (density_in dist old) old.tree records number v s t
    insertion_paid = elim (either_way r grown grown_err paid paid_err) [
      | inl is ↦ subst (λ (tree : PlainTree). insertion.IsPaid (density_in dist old) (query_cost dist tree) records number v s t) is.0.tree is.1
      | inr little ↦ little_paid (density_in dist old) (query_cost dist (after_insertion dist most number v old.tree)) records number v s t little
    ]

    pub insertion_worked : QueriesAreCheap → IsLawful dist most tree' → t ≤ s + insertion_work (density_in dist old) records number v
    insertion_worked cheap lawful = elim (either_way r grown grown_err paid paid_err) [
      | inl is ↦
          let same : contents tree' ≡ finite.insert records.vectors number v = is.0.contents ∙ ap (λ m. finite.insert m number v) held.same_pairs in
          let few : IsAtMost (query_cost dist tree') (2 * finite.len (finite.insert records.vectors number v)) =
          subst (λ (m : Rows). IsAtMost (query_cost dist tree') (2 * finite.len m)) same (cheap dist most tree' lawful) in
          insertion_cheap (density_in dist old) (query_cost dist tree') records number v s t few is.1
      | inr little ↦ little_work _ _ _ s t little
    ]

  module _
      (number : ℕ) (held : IsHeld old.tree.width (contents old.tree) records)
      (gone : OnOk r (IsRemoved dist most old.tree tree' number (deletion.vector_at records number)))
      (gone_err : OnErr r (IsRemoved dist most old.tree tree' number (deletion.vector_at records number) ⊎ deletion.IsCheap (query_cost dist old.tree) records number s t))
      (paid : OnOk r (deletion.IsPaid (density_in dist old) (query_cost dist old.tree) (query_cost dist tree') records number s t))
      (paid_err : OnErr r (deletion.IsPaid (density_in dist old) (query_cost dist old.tree) (query_cost dist tree') records number s t ⊎ deletion.IsCheap (query_cost dist old.tree) records number s t)) where
    after_is : IsRemoved dist most old.tree tree' number (deletion.vector_at records number) → tree' ≡ tree_without dist most number (deletion.vector_at records number) old.tree
    after_is is = ap (λ (o : Option PlainTree). unwrap_or o old.tree) is.tree

    pub deletion_paid : IsDeletionPaid most (density_in dist old) old.tree records number s t
    deletion_paid = elim (either_way r gone gone_err paid paid_err) [
      | inl is ↦ subst (λ (tree : PlainTree). deletion.IsPaid (density_in dist old) (query_cost dist old.tree) (query_cost dist tree) records number s t) (after_is is.0) is.1
      | inr little ↦ cheap_paid (density_in dist old) (query_cost dist old.tree) (query_cost dist (tree_without dist most number (deletion.vector_at records number) old.tree)) records number s t little
    ]

    pub deletion_worked : IsSome (finite.get records.vectors number) → QueriesAreCheap → IsLawful dist most old.tree → IsLawful dist most tree' → t ≤ s + deletion_work (density_in dist old) records number
    deletion_worked there cheap lawful lawful' =
        let few : IsAtMost (query_cost dist old.tree) (2 * finite.len records.vectors) =
        subst (λ (m : Rows). IsAtMost (query_cost dist old.tree) (2 * finite.len m)) held.same_pairs (cheap dist most old.tree lawful) in
        elim (either_way r gone gone_err paid paid_err) [
          | inl is ↦
              let same : contents tree' ≡ finite.remove records.vectors number = is.0.contents ∙ ap (λ m. finite.remove m number) held.same_pairs in
              let few' : IsAtMost (query_cost dist tree') (2 * finite.len (finite.remove records.vectors number)) =
              subst (λ (m : Rows). IsAtMost (query_cost dist tree') (2 * finite.len m)) same (cheap dist most tree' lawful') in
              deletion_cheap (density_in dist old) records number (query_cost dist old.tree) (query_cost dist tree') s t there few few' is.1
          | inr little ↦ cheap_of_index (density_in dist old) records number (query_cost dist old.tree) s t few little
        ]
