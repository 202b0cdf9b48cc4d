-- Entries that are inserted by rising number, one behind the other.
use Rattle.std.proofs.Common.{◌≡◌, ℕ, List, [], ◌∷◌, ◌++◌, append_assoc, refl, ap, ◌∙◌}
use Rattle.std.specs.List.{AllByRecursion}
use Rattle.std.specs.Ordering.{nat_cmp, ordering_reverse}
use Rattle.std.specs.Cmp.{nat_cmp_total}
use Rattle.std.specs.Map.{keys_of}
use Rattle.std.specs.BTreeMap.{insert_entry}
use Rattle.std.specs.List.Sorted.{IsStrictlySortedBy}
use Rattle.std.specs.declared.cmp.Ordering.TheVariants.{Less, Greater}
use Rattle.vec_record.proofs.Maps.{Vectors}

above : (x k : ℕ) → nat_cmp x k ≡ Less → nat_cmp k x ≡ Greater
above x k e = nat_cmp_total.antisymm k x ∙ ap ordering_reverse e

in_between : (P : ℕ → Type 0) (front : Vectors) (k : ℕ) (v : List ℕ) (rest : Vectors) → AllByRecursion P (keys_of (front ++ (k, v) ∷ rest)) → P k
in_between P [] k v rest h = h.0
in_between P (e ∷ es) k v rest h = in_between P es k v rest h.1

-- the greatest number so far goes to the end
last_inserted : (front : Vectors) (k : ℕ) (v : List ℕ) (rest : Vectors) → IsStrictlySortedBy nat_cmp (keys_of (front ++ (k, v) ∷ rest)) → insert_entry nat_cmp front k v ≡ front ++ (k, v) ∷ []
unfolding IsStrictlySortedBy
last_inserted [] k v rest h = refl
last_inserted (e ∷ es) k v rest h = rw (above e.0 k (in_between (λ y. nat_cmp e.0 y ≡ Less) es k v rest h.0)) (ap (λ (t : Vectors). e ∷ t) (last_inserted es k v rest h.1))

-- what was copied and what is still to come are the entries, after one more was copied too
pub one_copied : (es front : Vectors) (k : ℕ) (v : List ℕ) (rest : Vectors) → IsStrictlySortedBy nat_cmp (keys_of es) → front ++ (k, v) ∷ rest ≡ es → insert_entry nat_cmp front k v ++ rest ≡ es
one_copied es front k v rest rising is = rw (last_inserted front k v rest (rw is rising)) (append_assoc front ((k, v) ∷ []) rest ∙ is)
