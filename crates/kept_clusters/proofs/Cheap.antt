-- The price of a change is at most its work, where no query costs more than two distances a record.
use Rattle.std.proofs.Common.{◌≡◌, ℕ, ◌+◌, ◌*◌, ◌≤◌, Bool, true, false, not, ◌&&◌, ◌||◌, List, [], ◌∷◌, length, filter, is_some, IsTrue, IsSome, unwrap_or, refl, sym, ap, subst, ◌∙◌, inl, inr, arith, max}
use Rattle.std.specs.Prelude.{◌==◌}
use Rattle.std.specs.List.{list_any}
use Rattle.std.specs.Ordering.{nat_cmp}
use Rattle.std.specs.FinMap as finite
use Rattle.std.specs.FinMap.Entries.{find as value_at}
use Rattle.std.proofs.lemmas.Bool.{cases_Bool}
use Rattle.std.proofs.lemmas.Bool.Decides.{nat_tests}
use Rattle.std.proofs.lemmas.List.Sums.{sum_by-cons}
use Rattle.std.proofs.lemmas.Nat.{mul-le}
use Rattle.vec_record.specs.Held.{Held, Rows}
use Rattle.plain_dbscan.specs.Marks.{Density, Entries, numbers_of, is_core, cluster_of, anchor_of}
use Rattle.plain_dbscan.specs.Asked.{is_new_core, new_cores, asked_of_insertion, asked_of_deletion, is_lost_anchor, was_with_lost, is_shaken, work}
use Rattle.plain_dbscan.proofs.Chains.{Member, both, first_of_both, left_or, right_or}
use Rattle.plain_dbscan.proofs.Members.{member_filter}
use Rattle.plain_dbscan.proofs.CoresOf.{among}
use Rattle.label_book.specs.Labels.{IsMember}
use Rattle.label_book.proofs.Taken.{removed_same}
use Rattle.update_seed.specs.Price.{QueryCost, cost_at, cost_of_all}
use Rattle.update_seed.proofs.Lists.{from_member}
use Rattle.mtree_index.specs.Plain.{PlainTree}
use Rattle.mtree_index.specs.Tree.{contents, query_cost, IsLawful}
use Rattle.mtree_index.specs.Laws.{QueriesAreCheap}
use Rattle.insert_case.specs.Inserted as insertion
use Rattle.delete_case.specs.Deleted as deletion
use Rattle.kept_clusters.proofs.Told.{no_more}

-- no query costs more than this
abbrev pub IsAtMost : QueryCost → ℕ → Type 0
IsAtMost cost bound = (centre : List ℕ) (radius : ℕ) → cost centre radius ≤ bound

all_cost : (cost : QueryCost) (bound : ℕ) → IsAtMost cost bound → (records : Held) (eps : ℕ) (asked : List ℕ) → cost_of_all cost records eps asked ≤ length asked * bound
all_cost cost bound few records eps [] = omega arith
all_cost cost bound few records eps (a ∷ asked) =
    let one = few (unwrap_or (finite.get records.vectors a) []) eps in
    let rest = all_cost cost bound few records eps asked in
    let sum = sum_by-cons (cost_at cost records eps) a asked in
    grind (arith, one, rest, sum)

fewer_pass : (p q : ℕ → Bool) → ((a : ℕ) → IsTrue (p a) → IsTrue (q a)) → (xs : List ℕ) → length (filter p xs) ≤ length (filter q xs)
fewer_pass p q all [] = omega arith
fewer_pass p q all (x ∷ xs) =
    let rest = fewer_pass p q all xs in
    elim (cases_Bool (p x)) [
      | inl yes_p ↦ rw (yes_p, all x yes_p) (omega (arith, rest))
      | inr no_p ↦ elim (cases_Bool (q x)) [
        | inl yes_q ↦ rw (no_p, yes_q) (omega (arith, rest))
        | inr no_q ↦ rw (no_p, no_q) rest
      ]
    ]

-- so many queries and one more, each at most twice as dear as there are records
times_more : (k m bound n : ℕ) → k ≤ m → bound ≤ 2 * n → bound + k * bound ≤ (1 + m) * 2 * n
times_more k m bound n few cheap =
    let a : (1 + k) * bound ≤ (1 + m) * (2 * n) = mul-le (1 + k) bound (1 + m) (2 * n) (omega (arith, few)) cheap in
    omega (arith, a)

pub insertion_cheap : (d : Density) (cost : QueryCost) (records : Held) (p : ℕ) (v : List ℕ) (s t : ℕ)
    → IsAtMost cost (2 * finite.len (finite.insert records.vectors p v)) → insertion.IsPaid d cost records p v s t
    → t ≤ s + work (asked_of_insertion d (finite.entries records.vectors) (finite.entries (finite.insert records.vectors p v)) p) (finite.entries records.vectors) (finite.entries (finite.insert records.vectors p v))
insertion_cheap d cost records p v s t few paid =
    let before = finite.entries records.vectors in
    let rows = finite.insert records.vectors p v in
    let after = finite.entries rows in
    let cores = new_cores d before after in
    let asked = asked_of_insertion d before after p in
    let bound = 2 * finite.len rows in
    let own = few (unwrap_or (finite.get rows p) []) d.eps in
    let rest = all_cost cost bound few (insertion.with_record records p v) d.eps cores in
    let less : length cores ≤ length asked = fewer_pass (is_new_core d before after) (λ a. (a == p) || is_new_core d before after a) (λ a h. right_or (a == p) (is_new_core d before after a) h) (numbers_of after) in
    let n = max (length before) (length after) in
    let big : bound ≤ 2 * n = omega (arith, finite.len-entries rows) in
    let all = times_more (length cores) (length asked) bound n less big in
    omega (arith, paid, own, rest, all)

-- the numbers of a list fall into those that pass, those that don't, and one that is neither
parts : (p : ℕ) (r : ℕ → Bool) (xs : List ℕ)
    → length (filter (λ a. not (a == p) && not (r a)) xs) + length (filter (λ a. not (a == p) && r a) xs) + length (filter (λ a. a == p) xs) ≡ length xs
parts p r [] = refl
parts p r (x ∷ xs) =
    let rest = parts p r xs in
    elim (cases_Bool (x == p)) [
      | inl same ↦ rw same (omega (arith, rest))
      | inr other ↦ elim (cases_Bool (r x)) [
        | inl yes_r ↦ rw (other, yes_r) (omega (arith, rest))
        | inr no_r ↦ rw (other, no_r) (omega (arith, rest))
      ]
    ]

itself : (p : ℕ) → IsTrue (p == p)
itself p = grind (arith, nat_tests)

same_number : (a p : ℕ) → IsTrue (a == p) → a ≡ p
same_number a p h = grind (arith, nat_tests)

some_member : (xs : List ℕ) (q : ℕ) → Member q xs → 1 ≤ length xs
some_member [] q m = absurd m
some_member (x ∷ xs) q m = omega arith

any_with : (f : ℕ → ℕ) (l b : ℕ) (xs : List ℕ) → Member b xs → f b ≡ l → IsTrue (list_any (λ c. l == f c) xs)
any_with f l b [] m e = absurd m
any_with f l b (x ∷ xs) (inl same) e = left_or (l == f x) (list_any (λ c. l == f c) xs) (subst (λ (k : ℕ). IsTrue (l == k)) (sym e ∙ ap f same) (itself l))
any_with f l b (x ∷ xs) (inr m) e = right_or (l == f x) (list_any (λ c. l == f c) xs) (any_with f l b xs m e)

module _ (d : Density) (records : Held) (p : ℕ) where
  abbrev before : Entries
  before = finite.entries records.vectors

  abbrev rest : Rows
  rest = finite.remove records.vectors p

  abbrev after : Entries
  after = finite.entries rest

  gone : is_some (value_at nat_cmp p after) ≡ false
  gone = ap is_some (sym (finite.get-entries rest p) ∙ removed_same records.vectors p)

  -- a core that is left, of a cluster that lost one, is asked
  kept_asked : (a : ℕ) → deletion.IsGrownOf d before after a → IsTrue (is_core d after a) × Member a (asked_of_deletion d before after p)
  kept_asked a g =
      let k = g.grown.member in
      let lost : Member g.beside (new_cores d after before) =
      member_filter (is_new_core d after before) (numbers_of before) g.beside (among before g.beside (first_of_both _ _ g.lost.was_core))
      (both (is_core d before g.beside) (not (is_core d after g.beside)) g.lost.was_core (ap not g.lost.no_core)) in
      let with_lost = both (is_core d after a) (list_any (λ b. cluster_of d before a == cluster_of d before b) (new_cores d after before)) k.is_core
      (any_with (cluster_of d before) (cluster_of d before a) g.beside (new_cores d after before) lost (g.lost.label ∙ sym k.label)) in
      let shaken : IsTrue (is_shaken d before after a) =
      right_or (is_new_core d after before a) _ (right_or (is_lost_anchor d after (anchor_of d before a)) (was_with_lost d before after a) with_lost) in (
        k.is_core,
        member_filter (λ b. (b == p) || is_shaken d before after b) (numbers_of before) a (among before a (first_of_both _ _ k.was_core))
            (right_or (a == p) (is_shaken d before after a) shaken),
      )

  left : List ℕ
  left = filter (λ a. not (a == p) && is_core d after a) (asked_of_deletion d before after p)

  in_left : (a : ℕ) → deletion.IsGrownOf d before after a → IsMember left a
  unfolding left
  in_left a g =
      let k = kept_asked a g in
      let other : (a == p) ≡ false = elim (cases_Bool (a == p)) [
        | inr off ↦ off
        | inl same ↦
            let bad : false ≡ true = sym gone ∙ subst (λ (b : ℕ). IsTrue (is_some (value_at nat_cmp b after))) (same_number a p same) (first_of_both _ _ k.0) in
            absurd (cc)
      ] in
      from_member left a (member_filter (λ b. not (b == p) && is_core d after b) (asked_of_deletion d before after p) a k.1 (both (not (a == p)) (is_core d after a) (ap not other) k.0))

  abbrev asked : List ℕ
  asked = asked_of_deletion d before after p

  itself_asked : IsSome (finite.get records.vectors p) → 1 ≤ length (filter (λ a. a == p) asked)
  itself_asked there =
      let in_before = among before p (ap is_some (sym (finite.get-entries records.vectors p)) ∙ there) in
      let m = member_filter (λ b. (b == p) || is_shaken d before after b) (numbers_of before) p in_before (left_or (p == p) (is_shaken d before after p) (itself p)) in
      some_member (filter (λ a. a == p) asked) p (member_filter (λ a. a == p) asked p m (itself p))

  few_asked : IsSome (finite.get records.vectors p) → length (deletion.outer_asked d before after p) + length left + 1 ≤ length asked
  unfolding left
  few_asked there = omega (arith, parts p (is_core d after) asked, itself_asked there)

  deletion_bound : (outer kept m bound n : ℕ) → outer + kept + 1 ≤ m → bound ≤ 2 * n → bound + (bound + (outer * bound + kept * bound)) ≤ (1 + m) * 2 * n
  deletion_bound outer kept m bound n few cheap =
      let a : (2 + (outer + kept)) * bound ≤ (1 + m) * (2 * n) = mul-le (2 + (outer + kept)) bound (1 + m) (2 * n) (omega (arith, few)) cheap in
      omega (arith, a)

  pub deletion_cheap : (cost cost' : QueryCost) (s t : ℕ) → IsSome (finite.get records.vectors p)
      → IsAtMost cost (2 * finite.len records.vectors) → IsAtMost cost' (2 * finite.len rest) → deletion.IsPaid d cost cost' records p s t
      → t ≤ s + work asked before after
  deletion_cheap cost cost' s t there few few' paid =
      let v = deletion.vector_at records p in
      let bound = 2 * finite.len records.vectors in
      let less : 2 * finite.len rest ≤ bound = omega (arith, no_more records.vectors p) in
      let far : IsAtMost cost' bound = λ centre radius. omega (arith, few' centre radius, less) in
      let price = paid left in_left in
      let first = few v 0 in
      let second = far v d.eps in
      let outer = all_cost cost' bound far (deletion.without records p) d.eps (deletion.outer_asked d before after p) in
      let grown = all_cost cost' bound far (deletion.without records p) d.eps left in
      let n = max (length before) (length after) in
      let big : bound ≤ 2 * n = omega (arith, finite.len-entries records.vectors) in
      let all = deletion_bound (length (deletion.outer_asked d before after p)) (length left) (length asked) bound n (few_asked there) big in
      omega (arith, price, first, second, outer, grown, all)

  pub cheap_of_index : (cost : QueryCost) (s t : ℕ) → IsAtMost cost (2 * finite.len records.vectors) → deletion.IsCheap cost records p s t → t ≤ s + work asked before after
  cheap_of_index cost s t few cheap =
      let first = few (deletion.vector_at records p) 0 in
      let n = max (length before) (length after) in
      let big : 2 * finite.len records.vectors ≤ 2 * n = omega (arith, finite.len-entries records.vectors) in
      let all = times_more 0 (length asked) (2 * finite.len records.vectors) n (omega arith) big in
      omega (arith, cheap, first, all)

-- what costs no more than the index takes is paid
pub cheap_paid : (d : Density) (cost cost' : QueryCost) (records : Held) (p s t : ℕ) → deletion.IsCheap cost records p s t → deletion.IsPaid d cost cost' records p s t
cheap_paid d cost cost' records p s t cheap = λ grown all. omega (arith, cheap)

pub little_paid : (d : Density) (cost : QueryCost) (records : Held) (p : ℕ) (v : List ℕ) (s t : ℕ) → t ≤ s + 16384 → insertion.IsPaid d cost records p v s t
little_paid d cost records p v s t little = omega (arith, little)

pub little_work : (asked : List ℕ) (before after : Entries) (s t : ℕ) → t ≤ s + 16384 → t ≤ s + work asked before after
little_work asked before after s t little = omega (arith, little)

-- a query over a tree of records computes at most two distances a record
pub few_steps : (dist : List ℕ → List ℕ → ℕ) (most : ℕ → ℕ) (tree : PlainTree) → QueriesAreCheap → IsLawful dist most tree → (rows : Rows) → contents tree ≡ rows
    → (centre : List ℕ) (radius s t : ℕ) → t ≤ s + query_cost dist tree centre radius → t ≤ s + 2 * finite.len rows
few_steps dist most tree cheap lawful rows same centre radius s t h =
    let few = cheap dist most tree lawful centre radius in
    let len = ap (λ (m : Rows). finite.len m) same in
    omega (arith, few, len, h)
