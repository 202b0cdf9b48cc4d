-- Records kept as a list of entries.
use Rattle.std.proofs.Common.{◌≡◌, ℕ, Bool, true, false, cond, ◌&&◌, List, [], ◌∷◌, length, refl, sym, ap, subst, ◌∙◌, None, Some, IfSome, inl, inr, ◌≢◌}
use Rattle.std.specs.declared.option.Option.{Option}
use Rattle.std.specs.List.{AllByRecursion}
use Rattle.std.specs.Option.{option_copied}
use Rattle.std.specs.Ordering.{nat_cmp, is_lt, match_ordering}
use Rattle.std.specs.Cmp.{nat_cmp_total, eq_by_cmp_equiv, unsigned_tied}
use Rattle.std.proofs.lemmas.Bool.Decides.{eqb_tells}
use Rattle.std.specs.FinMap as map
use Rattle.std.specs.Map.{lookup, remove_entry}
use Rattle.std.specs.BTreeMap.{is_at, insert_entry}
use Rattle.std.specs.declared.cmp.Ordering.TheVariants.{Less, Equal, Greater}
use Rattle.std.specs.List.Sorted.{IsStrictlySortedBy}
use Rattle.std.specs.Map.{keys_of}
use lib.Dec.{T}
use Rattle.std.specs.FinMap.{from_sorted, get-from_sorted, entries-from_sorted, entries, len, len-entries, is_sorted, keys, find, get, insert, remove, from_entries, get-from_entries, get-insert, get-remove, same_map, nat_cmp-IsAntisymmetric}
use Rattle.std.proofs.Common.{Bor}
use Rattle.vec_record.specs.Vectors.{IsVector}
use Rattle.vec_record.specs.Held.{Rows, AreAll, IsRecord, HaveWidth, NoneAtZero}

abbrev pub Vectors : Type 0
Vectors = List (ℕ × List ℕ)

abbrev pub vector_at : Vectors → ℕ → Option (List ℕ)
vector_at es q = lookup (is_at (nat_cmp q)) es

find_vector : (es : Vectors) (q : ℕ) → find nat_cmp q es ≡ vector_at es q
find_vector [] q = refl
find_vector (e ∷ es) q = ap (cond (is_at (nat_cmp q) e.0) (Some e.1)) (find_vector es q)

pub get_vector : (es : Vectors) (q : ℕ) → get (from_entries {R = nat_cmp} es) q ≡ vector_at es q
get_vector es q = get-from_entries nat_cmp_total es q ∙ find_vector es q

pub one_given : (es fs : Vectors) (n : ℕ) (v : List ℕ) → ((q : ℕ) → vector_at fs q ≡ cond (is_at (nat_cmp n) q) (Some v) (vector_at es q)) → from_entries {R = nat_cmp} fs ≡ insert (from_entries es) n v
one_given es fs n v h = same_map nat_cmp_total nat_cmp-IsAntisymmetric _ _ (λ q.
    get_vector fs q ∙ h q ∙ ap (λ b. cond b (Some v) (vector_at es q)) ((eq_by_cmp_equiv nat_cmp_total).symm n q)
    ∙ sym (get-insert nat_cmp_total (from_entries es) n v q ∙ ap (cond (is_at (nat_cmp q) n) (Some v)) (get_vector es q)))

pub one_taken : (es fs : Vectors) (n : ℕ) → ((q : ℕ) → vector_at fs q ≡ cond (is_at (nat_cmp n) q) None (vector_at es q)) → from_entries {R = nat_cmp} fs ≡ remove (from_entries es) n
one_taken es fs n h = same_map nat_cmp_total nat_cmp-IsAntisymmetric _ _ (λ q.
    get_vector fs q ∙ h q ∙ ap (λ b. cond b None (vector_at es q)) ((eq_by_cmp_equiv nat_cmp_total).symm n q)
    ∙ sym (get-remove nat_cmp_total (from_entries es) n q ∙ ap (cond (is_at (nat_cmp q) n) None) (get_vector es q)))

pub found_vector : (w : ℕ) (test : ℕ → Bool) (es : Vectors) → AreAll w es → IfSome (lookup test es) (IsVector w)
found_vector w test [] h = tt
found_vector w test (e ∷ es) h = elim (test e.0) as (λ b. IfSome (cond b (Some e.1) (lookup test es)) (IsVector w)) [ true ↦ h.0.vector | false ↦ found_vector w test es h.1 ]

-- vectors that all have the width are found with the width
pub have_width : (w : ℕ) (es : Vectors) → AreAll w es → HaveWidth w (from_entries es)
have_width w es all number v is =
    let there : vector_at es number ≡ Some v = sym (get_vector es number) ∙ is in
    subst (λ (o : Option (List ℕ)). IfSome o (IsVector w)) there (found_vector w (is_at (nat_cmp number)) es all)

not_at_zero : (w : ℕ) (es : Vectors) → AreAll w es → vector_at es 0 ≡ None
not_at_zero w [] h = refl
not_at_zero w (e ∷ es) h = rw (unsigned_tied 0 e.0) (elim (eqb_tells 0 e.0) [
  | inl t ↦ absurd (h.0.number (sym t.1))
  | inr f ↦ rw f.0 (not_at_zero w es h.1)
])

-- no record has the number 0
pub none_at_zero : (w : ℕ) (es : Vectors) → AreAll w es → NoneAtZero (from_entries es)
none_at_zero w es all = get_vector es 0 ∙ not_at_zero w es all

-- a number under which a vector was found isn't 0
pub some_number : {X : Type 0} (rows : Rows) (q : ℕ) (o : Option X) → NoneAtZero rows → (map.get rows q ≡ None → o ≡ None) → IfSome o (λ v. q ≢ 0)
some_number rows q None none there = tt
some_number rows q (Some v) none there = λ zero. absurd (let x : Some v ≡ None = there (ap (λ (k : ℕ). map.get rows k) zero ∙ none) in cc)

-- the same of a vector that was lent
pub lent_none : {X : Type 0} (o : Option (Bor X)) → option_copied o ≡ None → o ≡ None
lent_none None e = refl
lent_none (Some x) e = absurd (let x : Some x.now ≡ None = e in cc)

pub all_removed : (w : ℕ) (test : ℕ → Bool) (es : Vectors) → AreAll w es → AreAll w (remove_entry test es)
all_removed w test [] h = tt
all_removed w test (e ∷ es) h = elim (test e.0) as (λ b. AreAll w (cond b es (e ∷ remove_entry test es))) [ true ↦ h.1 | false ↦ (h.0, all_removed w test es h.1) ]

pub all_inserted : (w n : ℕ) (v : List ℕ) (es : Vectors) → IsRecord w (n, v) → AreAll w es → AreAll w (insert_entry nat_cmp es n v)
all_inserted w n v [] i h = (i, tt)
all_inserted w n v (e ∷ es) i h =
    elim (nat_cmp n e.0) as (λ o. AreAll w (match_ordering o ((n, v) ∷ e ∷ es) ((e.0, v) ∷ es) (e ∷ insert_entry nat_cmp es n v))) [
      | Less ↦ (i, h)
      | Equal ↦ (record { number = h.0.number; vector = i.vector }, h.1)
      | Greater ↦ (h.0, all_inserted w n v es i h.1)
    ]

pub behind : {X : Type 0} (P : X → Type 0) (o : Option (Bor X)) (m : Option X) → option_copied o ≡ m → IfSome m P → IfSome o (λ v. P v.now)
behind P None m e h = tt
behind P (Some x) m e h = let Q : Option _ → Type 0 = λ z. IfSome z P in subst Q (sym e) h

regroup : (a b c d : Bool) → T a → T (b && d) → T (c && d) → T ((a && b) && (c && d))
regroup true true c d p q r = r
regroup true false c d p q r = absurd q
regroup false b c d p q r = absurd p

second : (a b : Bool) → T (a && b) → T b
second true b p = p
second false b p = absurd p

in_front : (x : ℕ) (v : List ℕ) (es : Vectors) → AllByRecursion (λ y. nat_cmp x y ≡ Less) (keys_of es) → T (is_sorted nat_cmp es) → T (is_sorted nat_cmp ((x, v) ∷ es))
in_front x v [] h s = tt
in_front x v (e ∷ es) h s = regroup _ _ _ _ (subst (λ o. T (is_lt o)) (sym h.0) tt) (in_front x v es h.1 (second _ _ s)) s

rising : (es : Vectors) → IsStrictlySortedBy nat_cmp (keys_of es) → T (is_sorted nat_cmp es)
unfolding IsStrictlySortedBy
rising [] h = tt
rising (e ∷ es) h = in_front e.0 e.1 es h.0 (rising es h.1)

-- the entries of the map are the list, where its numbers rise
pub entries_held : (es : Vectors) → IsStrictlySortedBy nat_cmp (keys_of es) → entries (from_entries {R = nat_cmp} es) ≡ es
entries_held es h =
    ap entries (same_map nat_cmp_total nat_cmp-IsAntisymmetric (from_entries es) (from_sorted es) (λ q. get-from_entries nat_cmp_total es q ∙ sym (get-from_sorted nat_cmp es q (rising es h))))
    ∙ entries-from_sorted nat_cmp es (rising es h)

pub len_held : (es : Vectors) → IsStrictlySortedBy nat_cmp (keys_of es) → length es ≡ len (from_entries {R = nat_cmp} es)
len_held es h = ap length (sym (entries_held es h)) ∙ sym (len-entries (from_entries es))

pub keys_held : (es : Vectors) → IsStrictlySortedBy nat_cmp (keys_of es) → keys_of es ≡ keys (from_entries {R = nat_cmp} es)
keys_held es h = ap keys_of (sym (entries_held es h))

pub numbered : (w : ℕ) (es : Vectors) → AreAll w es → AllByRecursion (λ q. q ≢ 0) (keys_of es)
numbered w [] h = tt
numbered w (e ∷ es) h = (h.0.number, numbered w es h.1)
