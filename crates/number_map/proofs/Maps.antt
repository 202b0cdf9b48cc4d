-- A hashed map's entries, in whatever order, seen as a finite map.
use Rattle.std.proofs.Common.{◌≡◌, ℕ, ◌+◌, false, arith, nat_eq, cond, List, [], ◌∷◌, length, refl, sym, ap, subst, ◌∙◌, None, Some, IsSome, is_some, MutBor}
use Rattle.std.specs.declared.option.Option.{Option}
use Rattle.std.specs.Ordering.{nat_cmp, eq_by_cmp}
use Rattle.std.specs.Cmp.{nat_cmp_total, unsigned_tied, eq_by_cmp_equiv}
use Rattle.std.specs.Map.{lookup, keys_of}
use Rattle.std.specs.List.{AllByRecursion, IsDistinct}
use Rattle.std.specs.Option.{OnSome, option_copied_mut}
use Rattle.std.specs.FinMap.{find, get, insert, remove, from_entries, get-from_entries, get-insert, get-remove, len, len-empty, len-insert, same_map, nat_cmp-IsAntisymmetric}

tied : (k q : ℕ) → nat_eq k q ≡ eq_by_cmp nat_cmp q k
tied k q = sym (unsigned_tied k q) ∙ (eq_by_cmp_equiv nat_cmp_total).symm k q

module _ {X : Type 0} where
  found : (es : List (ℕ × X)) (q : ℕ) → find nat_cmp q es ≡ lookup (nat_eq q) es
  found [] q = refl
  found (e ∷ es) q = ap (λ b. cond b (Some e.1) (find nat_cmp q es)) (unsigned_tied q e.0) ∙ ap (cond (nat_eq q e.0) (Some e.1)) (found es q)

  -- a look-up in the map is one in the list
  pub get_held : (es : List (ℕ × X)) (q : ℕ) → get (from_entries {R = nat_cmp} es) q ≡ lookup (nat_eq q) es
  get_held es q = get-from_entries nat_cmp_total es q ∙ found es q

  pub one_given : (es fs : List (ℕ × X)) (k : ℕ) (v : X) → ((q : ℕ) → lookup (nat_eq q) fs ≡ cond (nat_eq k q) (Some v) (lookup (nat_eq q) es)) → from_entries {R = nat_cmp} fs ≡ insert (from_entries es) k v
  one_given es fs k v h = same_map nat_cmp_total nat_cmp-IsAntisymmetric _ _ (λ q.
      get_held fs q ∙ h q ∙ ap (λ b. cond b (Some v) (lookup (nat_eq q) es)) (tied k q)
      ∙ sym (get-insert nat_cmp_total (from_entries es) k v q ∙ ap (cond (eq_by_cmp nat_cmp q k) (Some v)) (get_held es q)))

  pub one_taken : (es fs : List (ℕ × X)) (k : ℕ) → ((q : ℕ) → lookup (nat_eq q) fs ≡ cond (nat_eq k q) None (lookup (nat_eq q) es)) → from_entries {R = nat_cmp} fs ≡ remove (from_entries es) k
  one_taken es fs k h = same_map nat_cmp_total nat_cmp-IsAntisymmetric _ _ (λ q.
      get_held fs q ∙ h q ∙ ap (λ b. cond b None (lookup (nat_eq q) es)) (tied k q)
      ∙ sym (get-remove nat_cmp_total (from_entries es) k q ∙ ap (cond (eq_by_cmp nat_cmp q k) None) (get_held es q)))

  none_found : (k : ℕ) (es : List (ℕ × X)) → AllByRecursion (λ q. nat_eq k q ≡ false) (keys_of es) → lookup (nat_eq k) es ≡ None
  none_found k [] h = refl
  none_found k (e ∷ es) h = ap (λ b. cond b (Some e.1) (lookup (nat_eq k) es)) h.0 ∙ none_found k es h.1

  -- no number stands twice, so the map is as long as the list
  pub len_held : (es : List (ℕ × X)) → IsDistinct nat_eq (keys_of es) → length es ≡ len (from_entries {R = nat_cmp} es)
  unfolding IsDistinct
  len_held [] h = sym (len-empty nat_cmp X)
  len_held (e ∷ es) h =
      let absent : get (from_entries {R = nat_cmp} es) e.0 ≡ None = get_held es e.0 ∙ none_found e.0 es h.0 in
      let more : len (insert (from_entries {R = nat_cmp} es) e.0 e.1) ≡ len (from_entries {R = nat_cmp} es) + 1 =
      len-insert nat_cmp_total (from_entries es) e.0 e.1 ∙ ap (λ o. cond (is_some o) (len (from_entries {R = nat_cmp} es)) (len (from_entries {R = nat_cmp} es) + 1)) absent in
      omega (arith, len_held es h.1, more)

  -- what is true of a value that is there is true where a loan of it was given
  pub on_loan : (r : Option (MutBor X)) (m : Option X) (P : Type 0) → option_copied_mut r ≡ m → (IsSome m → P) → OnSome r P
  on_loan None m P e h = tt
  on_loan (Some b) m P e h = h (subst IsSome e refl)

-- what is true where a loan was given is true at that loan
pub given : {X : Type 0} {o : Option (MutBor X)} {b : MutBor X} {P : Type 0} → o ≡ Some b → OnSome o P → P
given {P = P} is h = subst (λ o. OnSome o P) is h
