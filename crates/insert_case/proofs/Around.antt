-- What a query finds around a record that was added.
use Rattle.std.proofs.Common.{◌≡◌, ◌≢◌, ℕ, ◌+◌, ◌<◌, ◌≤◌, Bool, true, false, cond, nat_le, List, [], ◌∷◌, length, IsTrue, IsSome, is_some, Some, ◌↔◌, refl, sym, ap, subst, ◌∙◌, arith}
use Rattle.std.specs.Ordering.{nat_cmp}
use Rattle.std.specs.Cmp.{nat_cmp_total}
use Rattle.std.specs.FinMap as map
use Rattle.std.specs.FinMap.Entries.{find as value_at}
use Rattle.vec_record.specs.Held.{Rows}
use Rattle.plain_dbscan.specs.Index.{near}
use Rattle.plain_dbscan.specs.Marks.{Density, Entries, within, numbers_of, is_near, near_of, size_of}
use Rattle.plain_dbscan.proofs.Members.{Rises, rises_filter}
use Rattle.plain_dbscan.proofs.CoresOf.{rises_sorted}
use Rattle.plain_dbscan.proofs.Lawful.{index_near}
use Rattle.label_book.specs.Labels.{IsMember, EachOnce}
use Rattle.label_book.proofs.Added.{here, apart}
use Rattle.update_seed.proofs.Lists.{Apart, apart_once, to_member, from_member}
use Rattle.insert_case.proofs.Tests.{le_true}
use Rattle.insert_case.proofs.Standing.{size_small, is_within, near_members}

rises_apart : (xs : List ℕ) → Rises xs → Apart xs
rises_apart [] r = tt
rises_apart (x ∷ xs) r = ((λ m. let lt = r.0 x m in absurd (omega (arith, lt))), rises_apart xs r.1)

at_most : (b : Bool) (n : ℕ) → cond b n (n + 1) ≤ n + 1
at_most true n = omega arith
at_most false n = omega arith

-- one record more makes the records one longer at most
pub length_after : (rows : Rows) (p : ℕ) (v : List ℕ) → length (map.entries (map.insert rows p v)) ≤ map.len rows + 1
length_after rows p v =
    subst (λ n. n ≤ map.len rows + 1) (sym (sym (map.len-entries (map.insert rows p v)) ∙ map.len-insert nat_cmp_total rows p v)) (at_most (map.contains_key rows p) (map.len rows))

module _ (d : Density) (rows : Rows) (p : ℕ) (v : List ℕ) (around : List ℕ) (found : around ≡ near d.dist (map.insert rows p v) v d.eps) where
  abbrev after : Entries
  after = map.entries (map.insert rows p v)

  pub around_is : around ≡ near_of d after p
  around_is = found ∙ index_near d (map.insert rows p v) p v (here rows p v)

  pub around_once : EachOnce around
  around_once =
      subst EachOnce (sym around_is)
      (apart_once (near_of d after p) (rises_apart (near_of d after p) (rises_filter (is_near d after p) (numbers_of after) (rises_sorted after (map.entries_sorted (map.insert rows p v))))))

  pub around_few : map.len rows < 200000 → length around ≤ 200000
  around_few few =
      let size : length around ≡ size_of d after p = ap length around_is in
      let small = size_small d after p in
      let long = length_after rows p v in
      omega (arith, size, small, long, few)

  pub around_members : (q : ℕ) → IsMember around q ↔ IsTrue (is_near d after p q)
  around_members q = (
    (λ m. (near_members d after p q).0 (to_member (near_of d after p) q (subst (λ xs. IsMember xs q) around_is m))),
    (λ h. subst (λ xs. IsMember xs q) (sym around_is) (from_member (near_of d after p) q ((near_members d after p q).1 h))),
  )

  value_is : value_at nat_cmp p after ≡ Some v
  value_is = sym (map.get-entries (map.insert rows p v) p) ∙ here rows p v

  -- the record is near itself
  pub around_itself : d.dist v v ≡ 0 → IsMember around p
  around_itself zero =
      let close : nat_le (d.dist v v) d.eps ≡ true = ap (λ n. nat_le n d.eps) zero ∙ le_true 0 d.eps (omega arith) in
      (around_members p).1 (ap (λ o. within d o (value_at nat_cmp p after)) value_is ∙ ap (within d (Some v)) value_is ∙ close)

  -- all others near it were there before
  pub around_there : (q : ℕ) → IsMember around q → q ≢ p → IsSome (map.get rows q)
  around_there q m ne =
      let there = is_within d (value_at nat_cmp p after) (value_at nat_cmp q after) ((around_members q).0 m) in
      ap is_some (sym (apart rows p v q ne) ∙ map.get-entries (map.insert rows p v) q) ∙ there

pub empty_list : (xs : List ℕ) → length xs ≡ 0 → xs ≡ []
empty_list [] e = refl
empty_list (x ∷ xs) e = absurd (omega (arith, e))

pub some_list : (xs : List ℕ) → (length xs ≡ 0 → ⊥) → 0 < length xs
some_list [] n = absurd (n refl)
some_list (x ∷ xs) n = omega arith
