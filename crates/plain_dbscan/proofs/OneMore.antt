-- What one more record changes of the others. Among the lemmas on changes only these know records.
use Rattle.std.proofs.Common.{◌≡◌, ◌≢◌, ℕ, ◌+◌, ◌<◌, ◌≤◌, Bool, true, false, cond, ◌&&◌, nat_le, List, [], ◌∷◌, filter, count_by, IsTrue, Option, Some, None, refl, sym, ap, subst, ◌∙◌, inl, inr, arith}
use lib.Dec.{T}
use Rattle.std.specs.Ordering.{nat_cmp, eq_by_cmp, is_eq}
use Rattle.std.specs.Cmp.{nat_cmp_total}
use Rattle.std.specs.Option.{is_some}
use Rattle.std.specs.BTreeSet.{insert_key}
use Rattle.std.specs.declared.cmp.Ordering.TheVariants.{Less, Equal, Greater}
use Rattle.std.specs.FinMap.{get, insert, remove, entries, entries_sorted, entries-insert, get-entries, get-insert, get-remove, same_map, nat_cmp-IsAntisymmetric}
use Rattle.std.specs.FinMap.Entries.{by_order, put, find as value_at, is_sorted, find-put, is_sorted-put}
use Rattle.std.proofs.lemmas.Bool.{cases_Bool, cases_eq}
use Rattle.std.proofs.lemmas.Bool.Decides.{nat_tests}
use Rattle.std.proofs.lemmas.List.Sums.{length-filter, sum_by-cons}
use Rattle.vec_record.specs.Held.{Rows}
use Rattle.plain_dbscan.specs.Marks.{Density, Entries, numbers_of, is_near, near_of, size_of, is_core, cluster_of}
use Rattle.plain_dbscan.specs.Change.{IsWithin, HasNoNew, HasOneMore, ChangesByOne, AreChanged}
use Rattle.plain_dbscan.proofs.Chains.{Member, both, first_of_both, second_of_both}
use Rattle.plain_dbscan.proofs.Members.{Rises, passes_in}
use Rattle.plain_dbscan.proofs.CoresOf.{rises_sorted, there, cluster_is, is_cluster}
use Rattle.plain_dbscan.proofs.Classes.{label_lower, label_larger}

ties : (q : ℕ) → eq_by_cmp nat_cmp q q ≡ true
ties q = grind (arith, nat_tests)

apart : (q k : ℕ) → q ≢ k → eq_by_cmp nat_cmp q k ≡ false
apart q k h = grind (arith, nat_tests)

less : (p x : ℕ) → p < x → nat_cmp p x ≡ Less
less p x h = grind (arith, nat_tests)

below : (p x : ℕ) → nat_cmp p x ≡ Less → p < x
below p x h = grind (arith, nat_tests)

-- a count over the numbers with one more
count_cons : (test : ℕ → Bool) (x : ℕ) (xs : List ℕ) → count_by test (x ∷ xs) ≡ cond (test x) 1 0 + count_by test xs
count_cons test x xs = sum_by-cons (λ y. cond (test y) 1 0) x xs

count_put : (test : ℕ → Bool) (p : ℕ) (v : List ℕ) (es : Entries) → value_at nat_cmp p es ≡ None → count_by test (numbers_of (put nat_cmp p v es)) ≡ count_by test (numbers_of es) + cond (test p) 1 0
count_put test p v [] absent = refl
count_put test p v (e ∷ es) absent =
    elim (nat_cmp p e.0) as (λ r. cond (is_eq r) (Some e.1) (value_at nat_cmp p es) ≡ None → count_by test (numbers_of (by_order r ((p, v) ∷ e ∷ es) ((e.0, v) ∷ es) (e ∷ put nat_cmp p v es))) ≡ count_by test (numbers_of (e ∷ es)) + cond (test p) 1 0) [
      | Less ↦ λ out. omega (arith, count_cons test p (numbers_of (e ∷ es)))
      | Equal ↦ λ out. absurd (cc)
      | Greater ↦ λ out. omega (arith, count_put test p v es out, count_cons test e.0 (numbers_of (put nat_cmp p v es)), count_cons test e.0 (numbers_of es))
    ] absent

count_agree : (test other : ℕ → Bool) (xs : List ℕ) → ((x : ℕ) → Member x xs → test x ≡ other x) → count_by test xs ≡ count_by other xs
count_agree test other [] agree = refl
count_agree test other (x ∷ xs) agree = rw (count_cons test x xs, count_cons other x xs, agree x (inl refl), count_agree test other xs (λ y m. agree y (inr m))) refl

-- the numbers that pass, with one more
insert_front : (p : ℕ) (xs : List ℕ) → ((y : ℕ) → Member y xs → p < y) → insert_key nat_cmp xs p ≡ p ∷ xs
insert_front p [] under = refl
insert_front p (x ∷ xs) under = rw (less p x (under x (inl refl))) refl

insert_behind : (b c : Bool) (p x : ℕ) (xs ys : List ℕ) → nat_cmp p x ≡ Greater → ys ≡ cond c (insert_key nat_cmp xs p) xs →
    cond b (x ∷ ys) ys ≡ cond c (insert_key nat_cmp (cond b (x ∷ xs) xs) p) (cond b (x ∷ xs) xs)
insert_behind true true p x xs ys after is = rw after (ap (λ (zs : List ℕ). x ∷ zs) is)
insert_behind true false p x xs ys after is = ap (λ (zs : List ℕ). x ∷ zs) is
insert_behind false true p x xs ys after is = is
insert_behind false false p x xs ys after is = is

filter_put : (test : ℕ → Bool) (p : ℕ) (v : List ℕ) (es : Entries) → Rises (numbers_of es) → value_at nat_cmp p es ≡ None →
    filter test (numbers_of (put nat_cmp p v es)) ≡ cond (test p) (insert_key nat_cmp (filter test (numbers_of es)) p) (filter test (numbers_of es))
filter_put test p v [] rises absent = refl
filter_put test p v (e ∷ es) rises absent =
    let xs = filter test (numbers_of (e ∷ es)) in
    elim (nat_cmp p e.0) as (λ r. nat_cmp p e.0 ≡ r → cond (is_eq r) (Some e.1) (value_at nat_cmp p es) ≡ None → filter test (numbers_of (by_order r ((p, v) ∷ e ∷ es) ((e.0, v) ∷ es) (e ∷ put nat_cmp p v es))) ≡ cond (test p) (insert_key nat_cmp xs p) xs) [
      | Less ↦ λ order out.
          let front = insert_front p xs (λ y m. elim (passes_in test (numbers_of (e ∷ es)) y m).member [
            | inl here ↦ omega (arith, here, below p e.0 order)
            | inr later ↦ omega (arith, rises.0 y later, below p e.0 order)
          ]) in
          ap (λ (ys : List ℕ). cond (test p) ys xs) (sym front)
      | Equal ↦ λ order out. absurd (cc)
      | Greater ↦ λ order out. insert_behind (test e.0) (test p) p e.0 (filter test (numbers_of es)) (filter test (numbers_of (put nat_cmp p v es))) order (filter_put test p v es rises.1 out)
    ] refl absent

filter_same : (test other : ℕ → Bool) (xs : List ℕ) → ((x : ℕ) → Member x xs → test x ≡ other x) → filter test xs ≡ filter other xs
filter_same test other [] agree = refl
filter_same test other (x ∷ xs) agree =
    ap (λ b. cond b (x ∷ filter test xs) (filter test xs)) (agree x (inl refl))
    ∙ ap (λ (ys : List ℕ). cond (other x) (x ∷ ys) ys) (filter_same test other xs (λ y m. agree y (inr m)))

module _ (rows : Entries) (p : ℕ) (v : List ℕ) where
  abbrev more : Entries
  more = put nat_cmp p v rows

  -- the others' vectors stay, and the record has its own
  pub value_other : (a : ℕ) → a ≢ p → value_at nat_cmp a more ≡ value_at nat_cmp a rows
  value_other a h = find-put nat_cmp nat_cmp_total a p v rows ∙ ap (λ b. cond b (Some v) (value_at nat_cmp a rows)) (apart a p h)

  pub value_here : value_at nat_cmp p more ≡ Some v
  value_here = find-put nat_cmp nat_cmp_total p p v rows ∙ ap (λ b. cond b (Some v) (value_at nat_cmp p rows)) (ties p)

module _ (d : Density) (rows : Entries) (p : ℕ) (v : List ℕ) (sorted : T (is_sorted nat_cmp rows)) (absent : value_at nat_cmp p rows ≡ None) where
  abbrev grown : Entries
  grown = put nat_cmp p v rows

  present_apart : (a : ℕ) → IsTrue (is_some (value_at nat_cmp a rows)) → a ≢ p
  present_apart a h same =
      let here : is_some (value_at nat_cmp p rows) ≡ true = subst (λ (x : ℕ). is_some (value_at nat_cmp x rows) ≡ true) same h in
      let bad : is_some (value_at nat_cmp p rows) ≡ false = ap is_some absent in
      absurd (cc)

  near_other : (a b : ℕ) → a ≢ p → b ≢ p → is_near d grown a b ≡ is_near d rows a b
  near_other a b h k = rw (value_other rows p v a h, value_other rows p v b k) refl

  near_member : (a : ℕ) → a ≢ p → (b : ℕ) → Member b (numbers_of rows) → is_near d grown a b ≡ is_near d rows a b
  near_member a h b m = near_other a b h (present_apart b (there rows b m))

  gains : (a : ℕ) → a ≢ p → near_of d grown a ≡ cond (is_near d grown a p) (insert_key nat_cmp (near_of d rows a) p) (near_of d rows a)
  gains a h =
      filter_put (is_near d grown a) p v rows (rises_sorted rows sorted) absent
      ∙ ap (λ (xs : List ℕ). cond (is_near d grown a p) (insert_key nat_cmp xs p) xs) (filter_same (is_near d grown a) (is_near d rows a) (numbers_of rows) (near_member a h))

  size_more : (a : ℕ) → a ≢ p → size_of d grown a ≡ size_of d rows a + cond (is_near d grown a p) 1 0
  size_more a h =
      length-filter (is_near d grown a) (numbers_of grown)
      ∙ count_put (is_near d grown a) p v rows absent
      ∙ ap (λ n. n + cond (is_near d grown a p) 1 0) (count_agree (is_near d grown a) (is_near d rows a) (numbers_of rows) (near_member a h) ∙ sym (length-filter (is_near d rows a) (numbers_of rows)))

  core_apart : (a : ℕ) → IsTrue (is_core d rows a) → a ≢ p
  core_apart a h = present_apart a (first_of_both _ _ h)

  -- a core stays a core
  core_more : (a : ℕ) → IsTrue (is_core d rows a) → IsTrue (is_core d grown a)
  core_more a h =
      let other = core_apart a h in
      let enough : d.minpts ≤ size_of d rows a = grind (arith, nat_tests, second_of_both (is_some (value_at nat_cmp a rows)) (nat_le d.minpts (size_of d rows a)) h) in
      let here : IsTrue (is_some (value_at nat_cmp a grown)) = ap is_some (value_other rows p v a other) ∙ first_of_both (is_some (value_at nat_cmp a rows)) (nat_le d.minpts (size_of d rows a)) h in
      let larger : d.minpts ≤ size_of d grown a = omega (arith, size_more a other) in
      both (is_some (value_at nat_cmp a grown)) (nat_le d.minpts (size_of d grown a)) here (grind (arith, nat_tests))

  within : IsWithin (is_core d rows) (is_near d rows) (is_core d grown) (is_near d grown)
  within = record {
    cores = core_more;
    agree = λ a b h k. sym (near_other a b (core_apart a h) (core_apart b k));
  }

  -- what the record is not near is core as before
  core_same : (a : ℕ) → a ≢ p → is_near d grown a p ≡ false → is_core d grown a ≡ is_core d rows a
  core_same a h off =
      let size : size_of d grown a ≡ size_of d rows a = size_more a h ∙ ap (λ b. size_of d rows a + cond b 1 0) off ∙ omega arith in
      ap (λ (o : Option (List ℕ)). is_some o && nat_le d.minpts (size_of d grown a)) (value_other rows p v a h)
      ∙ ap (λ n. is_some (value_at nat_cmp a rows) && nat_le d.minpts n) size

  new_near : (a : ℕ) → a ≢ p → is_core d rows a ≡ false → IsTrue (is_core d grown a) → IsTrue (is_near d grown a p)
  new_near a h was now = elim (cases_Bool (is_near d grown a p)) [
    | inl here ↦ here
    | inr off ↦ let bad : false ≡ true = sym was ∙ sym (core_same a h off) ∙ now in absurd (cc)
  ]

  sorted_after : T (is_sorted nat_cmp grown)
  sorted_after = is_sorted-put nat_cmp nat_cmp_total p v rows sorted

  lower : (a : ℕ) → IsTrue (is_core d rows a) → cluster_of d grown a ≤ cluster_of d rows a
  lower a h =
      label_lower (is_core d rows) (is_near d rows) (is_core d grown) (is_near d grown) within a _ _ (cluster_is d rows sorted a h) (cluster_is d grown sorted_after a (core_more a h))

  kept : (a : ℕ) → IsTrue (is_core d rows a) → HasNoNew (is_core d rows) (is_core d grown) (is_near d grown) a → cluster_of d grown a ≡ cluster_of d rows a
  kept a h all =
      is_cluster d grown sorted_after a _ (label_larger (is_core d rows) (is_near d rows) (is_core d grown) (is_near d grown) within a _ all (cluster_is d rows sorted a h))

  changes : ChangesByOne d p rows grown
  changes = record {
    near = near_other;
    gains = gains;
    size = size_more;
    within = within;
    new = new_near;
    lower = lower;
    kept = kept;
  }

pub changes_by_one : (d : Density) (p : ℕ) (v : List ℕ) (before after : Entries) → HasOneMore p v before after → ChangesByOne d p before after
changes_by_one d p v before after h = subst (ChangesByOne d p before) (sym h.is) (changes d before p v h.sorted h.absent)

-- what was taken out is put back
pub insert-remove : (rows : Rows) (p : ℕ) (v : List ℕ) → get rows p ≡ Some v → insert (remove rows p) p v ≡ rows
insert-remove rows p v is = same_map nat_cmp_total nat_cmp-IsAntisymmetric _ _ (λ q.
    get-insert nat_cmp_total (remove rows p) p v q ∙ ap (cond (eq_by_cmp nat_cmp q p) (Some v)) (get-remove nat_cmp_total rows p q) ∙ at q)
  where
    at : (q : ℕ) → cond (eq_by_cmp nat_cmp q p) (Some v) (cond (eq_by_cmp nat_cmp q p) None (get rows q)) ≡ get rows q
    at q = elim (cases_eq q p) [
      | inl same ↦ rw (same, ties p) (sym is)
      | inr other ↦ rw (apart q p other) refl
    ]

pub get-removed : (rows : Rows) (p : ℕ) → get (remove rows p) p ≡ None
get-removed rows p = get-remove nat_cmp_total rows p p ∙ ap (λ b. cond b None (get rows p)) (ties p)

inserted : (rows : Rows) (p : ℕ) (v : List ℕ) → get rows p ≡ None → HasOneMore p v (entries rows) (entries (insert rows p v))
inserted rows p v none = record {
  sorted = entries_sorted rows;
  absent = sym (get-entries rows p) ∙ none;
  is = entries-insert nat_cmp_total rows p v;
}

pub are_changed : (rows : Rows) (p : ℕ) (v : List ℕ) → AreChanged rows p v
are_changed rows p v = record {
  inserted = inserted rows p v;
  removed = λ is. subst (λ (m : Rows). HasOneMore p v (entries (remove rows p)) (entries m)) (insert-remove rows p v is) (inserted (remove rows p) p v (get-removed rows p));
}
