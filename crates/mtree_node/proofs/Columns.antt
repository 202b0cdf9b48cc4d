-- The entries of a leaf, by the three lists in which they lie.
use Rattle.std.proofs.Common.{◌≡◌, ◌≢◌, subst, append_assoc, Bool, true, if◌then◌else◌, ℕ, zero, suc, ◌+◌, ◌<◌, List, [], ◌∷◌, ◌++◌, length, map, take, drop, replicate, slice_index, slice_index_or, refl, sym, ap, ◌∙◌, arith}
use Rattle.std.specs.List.{AllByRecursion, remove}
use Rattle.mtree_node.specs.declared.node.LeafEntry.{LeafEntry}
use Rattle.vec_record.specs.Vectors.{IsVector}
use Rattle.vec_record.specs.Table.{Table, AreRows}
use Rattle.mtree_node.specs.Lists.{numbers_of, parents_of, vectors_of, HaveVectorsOf, without_parent}
use Rattle.mtree_node.specs.inside.Columns.{entries_of}

pub entries_length : (ns ps : List ℕ) (vs : List (List ℕ)) → length ns ≡ length vs → length ps ≡ length vs → length (entries_of ns ps vs) ≡ length vs
entries_length [] ps [] a b = refl
entries_length [] ps (v ∷ vs) a b = absurd (omega (arith, a))
entries_length (n ∷ ns) [] [] a b = refl
entries_length (n ∷ ns) [] (v ∷ vs) a b = absurd (omega (arith, b))
entries_length (n ∷ ns) (p ∷ ps) [] a b = refl
entries_length (n ∷ ns) (p ∷ ps) (v ∷ vs) a b = omega (arith, entries_length ns ps vs (omega (arith, a)) (omega (arith, b)))

pub entries_numbers : (ns ps : List ℕ) (vs : List (List ℕ)) → length ns ≡ length vs → length ps ≡ length vs → numbers_of (entries_of ns ps vs) ≡ ns
entries_numbers [] ps vs a b = refl
entries_numbers (n ∷ ns) [] [] a b = absurd (omega (arith, a))
entries_numbers (n ∷ ns) [] (v ∷ vs) a b = absurd (omega (arith, b))
entries_numbers (n ∷ ns) (p ∷ ps) [] a b = absurd (omega (arith, a))
entries_numbers (n ∷ ns) (p ∷ ps) (v ∷ vs) a b = ap (λ (xs : List ℕ). n ∷ xs) (entries_numbers ns ps vs (omega (arith, a)) (omega (arith, b)))

pub entries_parents : (ns ps : List ℕ) (vs : List (List ℕ)) → length ns ≡ length vs → length ps ≡ length vs → parents_of (entries_of ns ps vs) ≡ ps
entries_parents [] [] vs a b = refl
entries_parents [] (p ∷ ps) [] a b = absurd (omega (arith, b))
entries_parents [] (p ∷ ps) (v ∷ vs) a b = absurd (omega (arith, a))
entries_parents (n ∷ ns) [] vs a b = refl
entries_parents (n ∷ ns) (p ∷ ps) [] a b = absurd (omega (arith, a))
entries_parents (n ∷ ns) (p ∷ ps) (v ∷ vs) a b = ap (λ (xs : List ℕ). p ∷ xs) (entries_parents ns ps vs (omega (arith, a)) (omega (arith, b)))

pub entries_vectors : (ns ps : List ℕ) (vs : List (List ℕ)) → length ns ≡ length vs → length ps ≡ length vs → vectors_of (entries_of ns ps vs) ≡ vs
entries_vectors [] ps [] a b = refl
entries_vectors [] ps (v ∷ vs) a b = absurd (omega (arith, a))
entries_vectors (n ∷ ns) [] [] a b = refl
entries_vectors (n ∷ ns) [] (v ∷ vs) a b = absurd (omega (arith, b))
entries_vectors (n ∷ ns) (p ∷ ps) [] a b = refl
entries_vectors (n ∷ ns) (p ∷ ps) (v ∷ vs) a b = ap (λ (xs : List (List ℕ)). v ∷ xs) (entries_vectors ns ps vs (omega (arith, a)) (omega (arith, b)))

-- entries behind one another
pub entries_append : (ns ps : List ℕ) (vs : List (List ℕ)) (ms qs : List ℕ) (ws : List (List ℕ)) → length ns ≡ length vs → length ps ≡ length vs
    → entries_of (ns ++ ms) (ps ++ qs) (vs ++ ws) ≡ entries_of ns ps vs ++ entries_of ms qs ws
entries_append [] [] [] ms qs ws a b = refl
entries_append [] (p ∷ ps) [] ms qs ws a b = absurd (omega (arith, b))
entries_append [] ps (v ∷ vs) ms qs ws a b = absurd (omega (arith, a))
entries_append (n ∷ ns) [] [] ms qs ws a b = absurd (omega (arith, a))
entries_append (n ∷ ns) [] (v ∷ vs) ms qs ws a b = absurd (omega (arith, b))
entries_append (n ∷ ns) (p ∷ ps) [] ms qs ws a b = absurd (omega (arith, a))
entries_append (n ∷ ns) (p ∷ ps) (v ∷ vs) ms qs ws a b =
    ap (λ (es : List LeafEntry). record { number = n; vector = v; parent = p } ∷ es) (entries_append ns ps vs ms qs ws (omega (arith, a)) (omega (arith, b)))

-- an entry is taken out of each list
pub entries_remove : (ns ps : List ℕ) (vs : List (List ℕ)) (k : ℕ) → length ns ≡ length vs → length ps ≡ length vs → k < length vs
    → entries_of (remove ns k) (remove ps k) (remove vs k) ≡ remove (entries_of ns ps vs) k
entries_remove ns ps [] k a b few = absurd (omega (arith, few))
entries_remove [] ps (v ∷ vs) k a b few = absurd (omega (arith, a))
entries_remove (n ∷ ns) [] (v ∷ vs) k a b few = absurd (omega (arith, b))
entries_remove (n ∷ ns) (p ∷ ps) (v ∷ vs) zero a b few = refl
entries_remove (n ∷ ns) (p ∷ ps) (v ∷ vs) (suc k) a b few =
    ap (λ (es : List LeafEntry). record { number = n; vector = v; parent = p } ∷ es) (entries_remove ns ps vs k (omega (arith, a)) (omega (arith, b)) (omega (arith, few)))

-- the parent distances are set to 0
pub entries_cleared : (ns ps : List ℕ) (vs : List (List ℕ)) → length ns ≡ length vs → length ps ≡ length vs → entries_of ns (replicate (length ps) 0) vs ≡ map without_parent (entries_of ns ps vs)
entries_cleared [] ps vs a b = refl
entries_cleared (n ∷ ns) [] vs a b = refl
entries_cleared (n ∷ ns) (p ∷ ps) [] a b = refl
entries_cleared (n ∷ ns) (p ∷ ps) (v ∷ vs) a b =
    ap (λ (es : List LeafEntry). record { number = n; vector = v; parent = 0 } ∷ es) (entries_cleared ns ps vs (omega (arith, a)) (omega (arith, b)))

-- the entries from a place on begin with the one there
pub next_entry : (es : List LeafEntry) (i n p : ℕ) (v : List ℕ) → i < length es → n ≡ slice_index (numbers_of es) i → p ≡ slice_index (parents_of es) i → v ≡ slice_index_or (vectors_of es) i []
    → drop i es ≡ record { number = n; vector = v; parent = p } ∷ drop (suc i) es
next_entry [] i n p v few a b c = absurd (omega (arith, few))
next_entry (e ∷ es) zero n p v few a b c = rw (a, b, c) refl
next_entry (e ∷ es) (suc i) n p v few a b c = next_entry es i n p v (omega (arith, few)) a b c

rows_have : (w : ℕ) (ns ps : List ℕ) (vs : List (List ℕ)) → length ns ≡ length vs → length ps ≡ length vs → HaveVectorsOf w (entries_of ns ps vs) → AllByRecursion (λ v. length v ≡ w) vs
rows_have w ns ps [] a b h = tt
rows_have w [] ps (v ∷ vs) a b h = absurd (omega (arith, a))
rows_have w (n ∷ ns) [] (v ∷ vs) a b h = absurd (omega (arith, b))
rows_have w (n ∷ ns) (p ∷ ps) (v ∷ vs) a b h = (h.0, rows_have w ns ps vs (omega (arith, a)) (omega (arith, b)) h.1)

entries_have : (w : ℕ) (ns ps : List ℕ) (vs : List (List ℕ)) → length ns ≡ length vs → length ps ≡ length vs → AllByRecursion (IsVector w) vs → AllByRecursion (λ (e : LeafEntry). IsVector w e.vector) (entries_of ns ps vs)
entries_have w [] ps vs a b h = tt
entries_have w (n ∷ ns) [] vs a b h = tt
entries_have w (n ∷ ns) (p ∷ ps) [] a b h = tt
entries_have w (n ∷ ns) (p ∷ ps) (v ∷ vs) a b h = (h.0, entries_have w ns ps vs (omega (arith, a)) (omega (arith, b)) h.1)

-- rows of another width than that of all rows
pub none_of_width : (t : Table) (w : ℕ) → AreRows t → AllByRecursion (λ v. length v ≡ w) t.rows → t.width ≢ w → t.rows ≡ []
none_of_width t w are all other = none t.width w t.rows are all other where
  none : (u w : ℕ) (vs : List (List ℕ)) → AllByRecursion (IsVector u) vs → AllByRecursion (λ v. length v ≡ w) vs → u ≢ w → vs ≡ []
  none u w [] are all other = refl
  none u w (v ∷ vs) are all other = absurd (other (sym are.0.len ∙ all.0))

-- the same of opened entries
module _ (ns ps : List ℕ) (vs : List (List ℕ)) (es : List LeafEntry) (is : entries_of ns ps vs ≡ es) (a : length ns ≡ length vs) (b : length ps ≡ length vs) where
  pub seen_length : length es ≡ length vs
  seen_length = ap length (sym is) ∙ entries_length ns ps vs a b

  pub seen_numbers : ns ≡ numbers_of es
  seen_numbers = sym (entries_numbers ns ps vs a b) ∙ ap numbers_of is

  pub seen_parents : ps ≡ parents_of es
  seen_parents = sym (entries_parents ns ps vs a b) ∙ ap parents_of is

  pub seen_vectors : vs ≡ vectors_of es
  seen_vectors = sym (entries_vectors ns ps vs a b) ∙ ap vectors_of is

  pub seen_rows : (w : ℕ) → HaveVectorsOf w es → AllByRecursion (λ v. length v ≡ w) vs
  seen_rows w h = rows_have w ns ps vs a b (subst (HaveVectorsOf w) (sym is) h)

  pub seen_widths : (w : ℕ) → AllByRecursion (IsVector w) vs → AllByRecursion (λ (e : LeafEntry). IsVector w e.vector) es
  seen_widths w h = subst (AllByRecursion (λ (e : LeafEntry). IsVector w e.vector)) is (entries_have w ns ps vs a b h)

  pub seen_removed : (k : ℕ) → k < length es → entries_of (remove ns k) (remove ps k) (remove vs k) ≡ remove es k
  seen_removed k few = entries_remove ns ps vs k a b (omega (arith, few, seen_length)) ∙ ap (λ (xs : List LeafEntry). remove xs k) is

  pub seen_cleared : (qs : List ℕ) → qs ≡ replicate (length ps) 0 → entries_of ns qs vs ≡ map without_parent es
  seen_cleared qs e = ap (λ (xs : List ℕ). entries_of ns xs vs) e ∙ (entries_cleared ns ps vs a b ∙ ap (map without_parent) is)

  pub seen_pushed : (n p : ℕ) (v ms qs : List ℕ) (ws : List (List ℕ)) → ms ≡ ns ++ n ∷ [] → qs ≡ ps ++ p ∷ [] → ws ≡ vs ++ v ∷ [] → entries_of ms qs ws ≡ es ++ record { number = n; vector = v; parent = p } ∷ []
  seen_pushed n p v ms qs ws c d e =
      rw (c, d, e) (entries_append ns ps vs (n ∷ []) (p ∷ []) (v ∷ []) a b ∙ ap (λ (xs : List LeafEntry). xs ++ record { number = n; vector = v; parent = p } ∷ []) is)

-- the widths that are known of all vectors of some entries are one
pub one_width : (es : List LeafEntry) (u w k : ℕ) → k < length es → AllByRecursion (λ (e : LeafEntry). IsVector u e.vector) es → HaveVectorsOf w es → w ≡ u
one_width [] u w k few are have = absurd (omega (arith, few))
one_width (e ∷ es) u w k few are have = sym have.0 ∙ are.0.len

pub width_at : (es : List LeafEntry) (w k : ℕ) → k < length es → HaveVectorsOf w es → length (slice_index_or (vectors_of es) k []) ≡ w
width_at [] w k few have = absurd (omega (arith, few))
width_at (e ∷ es) w zero few have = have.0
width_at (e ∷ es) w (suc k) few have = width_at es w k (omega (arith, few)) have.1

pub have_more : (w : ℕ) (es fs : List LeafEntry) → HaveVectorsOf w es → HaveVectorsOf w fs → HaveVectorsOf w (es ++ fs)
have_more w [] fs have more = more
have_more w (e ∷ es) fs have more = (have.0, have_more w es fs have.1 more)

-- an item more, from the items that are left
pub one_more : {A : Type 0} (done new rest later all : List A) (x : A) → done ++ rest ≡ all → rest ≡ x ∷ later → new ≡ done ++ x ∷ [] → new ++ later ≡ all
one_more done new rest later all x was next is = rw is (append_assoc done (x ∷ []) later ∙ (ap (λ (xs : List _). done ++ xs) (sym next) ∙ was))

-- what a push leaves that has room
pub pushed_items : {A : Type 0} (b : Bool) (xs ys zs : List A) → b ≡ true → xs ≡ (if b then ys else zs) → xs ≡ ys
pushed_items b xs ys zs done is = is ∙ ap (λ (t : Bool). if t then ys else zs) done

-- the entry at a place, by its parts
abbrev pub entry_at : List LeafEntry → ℕ → LeafEntry
entry_at es k = record { number = slice_index (numbers_of es) k; vector = slice_index_or (vectors_of es) k []; parent = slice_index (parents_of es) k }

pub next_at : (es : List LeafEntry) (i : ℕ) → i < length es → drop i es ≡ entry_at es i ∷ drop (suc i) es
next_at es i few = next_entry es i _ _ _ few refl refl refl
