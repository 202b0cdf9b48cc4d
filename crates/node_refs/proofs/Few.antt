-- No place is listed twice, so that no more nodes are listed than there are places.
use Rattle.std.proofs.Common.{◌≡◌, ℕ, zero, suc, ◌+◌, ◌-◌, ◌*◌, ◌/◌, ◌%◌, ◌<◌, ◌≤◌, Bool, true, false, List, [], ◌∷◌, ◌++◌, length, get_or, refl, sym, ap, subst, ◌∙◌, ⊎_elim, arith, append_assoc, length-append}
use Rattle.std.specs.Prelude.{not, ◌==◌, ◌&&◌, ◌||◌, nat_eq, nat_lt, nat_le}
use Rattle.std.specs.List.{AllByRecursion, count_by, list_any, filter}
use Rattle.std.proofs.lemmas.Bool.{or_left, or_right, or_parts, and_parts, cases_Bool, cases_eq, cond_both, cond-true, cond-false, ltb-true, leb-true, eqb-true, eq-eqb, ne_eqb, not-true, not_from_true}
use Rattle.std.proofs.lemmas.List.{append-nil}
use Rattle.std.proofs.lemmas.List.Folds.{list_any-append}
use Rattle.std.proofs.lemmas.List.Sums.{sum_by-cons, sum_by-append, length-filter}
use Rattle.std.proofs.lemmas.List.Filters.{length-filter_both}
use Rattle.mtree_node.specs.Preorder.{LeafRow, InnerRow}
use Rattle.mtree_node.specs.declared.shape.Shape.{Shape}
use Rattle.node_refs.specs.declared.pages.NodePage.{NodePage}
use Rattle.node_refs.specs.declared.pages.NodePage.TheVariants as page
use Rattle.node_refs.specs.declared.listing.Listed.{Listed}
use Rattle.node_refs.specs.Pages.{page_at, leaf_in, inner_in, leaf_at, inner_at, is_used, is_in, is_good, slot_refs, page_refs, refs_from, used_refs, HasSlots, is_leaf_page, is_inner_page}
use Rattle.node_refs.specs.Listing.{join, nothing, put_first, child_nodes, nodes_below, node_in, list_node}
use Rattle.node_refs.specs.Laws.{AreOnce, places_in, NoneTwice, FewNodes}
use Rattle.node_refs.proofs.Once.{times, counts, any_counts, counted_cons, uncounted_cons, same_is}
use Rattle.node_refs.proofs.Kept.{all_append}

-- ---- counts

not_any : {X : Type 0} (p : X → Bool) (xs : List X) → list_any p xs ≡ false → count_by p xs ≡ 0
not_any p [] none = refl
not_any p (x ∷ xs) none =
    let both = or_parts (p x) (list_any p xs) none in
    uncounted_cons p x xs both.0 ∙ not_any p xs both.1

times-append : (r : ℕ) (xs ys : List ℕ) → times r (xs ++ ys) ≡ times r xs + times r ys
times-append r xs ys = sum_by-append (λ q. counts (q == r)) xs ys

module _ {X : Type 0} (a b : X → Bool) (apart : (x : X) → a x ≡ true → b x ≡ true → ⊥) where
  either : (x : X) → counts (a x || b x) ≡ counts (a x) + counts (b x)
  either x = ⊎_elim
      (λ yes. ⊎_elim
      (λ too. absurd (apart x yes too))
      (λ no. ap counts (or_left (a x) (b x) yes) ∙ (omega (arith, ap counts yes, ap counts no)))
      (cases_Bool (b x)))
      (λ no. ⊎_elim
      (λ yes. ap counts (or_right (a x) (b x) yes) ∙ (omega (arith, ap counts yes, ap counts no)))
      (λ none. let neither : (a x || b x) ≡ false = ap (λ t. t || b x) no ∙ none in ap counts neither ∙ (omega (arith, ap counts none, ap counts no)))
      (cases_Bool (b x)))
      (cases_Bool (a x))

  -- what passes one of two tests that nothing passes both
  count_either : (xs : List X) → count_by (λ x. a x || b x) xs ≡ count_by a xs + count_by b xs
  count_either [] = refl
  count_either (x ∷ xs) =
      omega (arith, either x, count_either xs, sum_by-cons (λ y. counts (a y || b y)) x xs, sum_by-cons (λ y. counts (a y)) x xs, sum_by-cons (λ y. counts (b y)) x xs)

same_count : {X : Type 0} (p q : X → Bool) → ((x : X) → p x ≡ q x) → (xs : List X) → count_by p xs ≡ count_by q xs
same_count p q same [] = refl
same_count p q same (x ∷ xs) =
    omega (arith, ap counts (same x), same_count p q same xs, sum_by-cons (λ y. counts (p y)) x xs, sum_by-cons (λ y. counts (q y)) x xs)

turned : (x q : ℕ) → (q == x) ≡ (x == q)
turned x q = ⊎_elim
    (λ is. eq-eqb q x (sym is) ∙ sym (eq-eqb x q is))
    (λ no. ne_eqb q x (λ is. no (sym is)) ∙ sym (ne_eqb x q no))
    (cases_eq x q)

-- references that stand once among some are at most as many as those
once_behind : (x : ℕ) (xs : List ℕ) → AreOnce (x ∷ xs) → (is_in xs x ≡ false) × AreOnce xs
once_behind x xs once =
    let f = λ (r : ℕ) (q : ℕ). counts (q == r) in (
      ⊎_elim
          (λ seen. absurd (omega (arith, once x, any_counts (λ (q : ℕ). q == x) xs seen, counted_cons (λ (q : ℕ). q == x) x xs (same_is x))))
          (λ no. no)
          (cases_Bool (is_in xs x)),
      λ r. omega (arith, once r, sum_by-cons (f r) x xs),
    )

among : (us xs : List ℕ) → AreOnce xs → AllByRecursion (λ x. is_in us x ≡ true) xs → length xs ≤ count_by (is_in xs) us
among us [] once all = omega arith
among us (x ∷ xs) once all =
    let both = once_behind x xs once in
    let here = λ (q : ℕ). x == q in
    let apart : (q : ℕ) → (x == q) ≡ true → is_in xs q ≡ true → ⊥ = λ q same seen.
    let is : x ≡ q = eqb-true x q same in
    let no : is_in xs q ≡ false = subst (λ (k : ℕ). is_in xs k ≡ false) is both.0 in
    let yes : true ≡ false = sym seen ∙ no in cc in
    omega (arith, count_either here (is_in xs) apart us, among us xs both.1 all.1, same_count (λ (q : ℕ). q == x) here (turned x) us, any_counts (λ (q : ℕ). q == x) us all.0)

-- ---- rising references

-- numbers that rise strictly from one on and end below another
abbrev Rises : ℕ → ℕ → List ℕ → Type 0
Rises low high [] = low ≤ high
Rises low high (x ∷ xs) = (low ≤ x) × Rises (x + 1) high xs

rises_lower : (low less high : ℕ) (xs : List ℕ) → less ≤ low → Rises low high xs → Rises less high xs
rises_lower low less high [] l is = omega (arith, l, is)
rises_lower low less high (x ∷ xs) l is = (omega (arith, l, is.0), is.1)

rises_higher : (low high more : ℕ) (xs : List ℕ) → high ≤ more → Rises low high xs → Rises low more xs
rises_higher low high more [] l is = omega (arith, l, is)
rises_higher low high more (x ∷ xs) l is = (is.0, rises_higher (x + 1) high more xs l is.1)

rises_append : (low middle high : ℕ) (xs ys : List ℕ) → Rises low middle xs → Rises middle high ys → Rises low high (xs ++ ys)
rises_append low middle high [] ys a b = rises_lower middle low high ys a b
rises_append low middle high (x ∷ xs) ys a b = (a.0, rises_append (x + 1) middle high xs ys a.1 b)

below_none : (low high : ℕ) (xs : List ℕ) (r : ℕ) → r < low → Rises low high xs → times r xs ≡ 0
below_none low high [] r under is = refl
below_none low high (x ∷ xs) r under is =
    uncounted_cons (λ (q : ℕ). q == r) x xs (ne_eqb x r (λ same. omega (arith, same, under, is.0)))
    ∙ below_none (x + 1) high xs r (omega (arith, under, is.0)) is.1

rises_once : (low high : ℕ) (xs : List ℕ) → Rises low high xs → AreOnce xs
rises_once low high [] is = λ r. omega arith
rises_once low high (x ∷ xs) is = λ r. ⊎_elim
    (λ same. omega (arith, counted_cons (λ (q : ℕ). q == r) x xs (eq-eqb x r same), below_none (x + 1) high xs r (omega (arith, same)) is.1))
    (λ other. omega (arith, uncounted_cons (λ (q : ℕ). q == r) x xs (ne_eqb x r other), rises_once (x + 1) high xs is.1 r))
    (cases_eq x r)

slots_rise : (r high : ℕ) (slots : List (List LeafRow)) → r + length slots ≤ high → Rises r high (slot_refs r slots)
slots_rise r high [] inside = omega (arith, inside)
slots_rise r high ([] ∷ slots) inside = rises_lower (r + 1) r high (slot_refs (r + 1) slots) (omega arith) (slots_rise (r + 1) high slots (omega (arith, inside)))
slots_rise r high ((row ∷ rows) ∷ slots) inside = (omega arith, slots_rise (r + 1) high slots (omega (arith, inside)))

page_rises : (number : ℕ) (p : NodePage) → HasSlots p → Rises (64 * number) (64 * (number + 1)) (page_refs number p)
page_rises number page.Records slots = omega arith
page_rises number (page.Leaves slots) few = slots_rise (64 * number) (64 * (number + 1)) slots (omega (arith, few))
page_rises number (page.Inner []) slots = omega arith
page_rises number (page.Inner (row ∷ rows)) slots = (omega arith, omega arith)

pages_rise : (number : ℕ) (pages : List NodePage) → AllByRecursion HasSlots pages → Rises (64 * number) (64 * (number + length pages)) (refs_from number pages)
pages_rise number [] slots = omega arith
pages_rise number (p ∷ pages) slots =
    rises_append (64 * number) (64 * (number + 1)) (64 * (number + length (p ∷ pages))) (page_refs number p) (refs_from (number + 1) pages) (page_rises number p slots.0)
    (rises_higher (64 * (number + 1)) (64 * (number + 1 + length pages)) (64 * (number + length (p ∷ pages))) (refs_from (number + 1) pages) (omega arith) (pages_rise (number + 1) pages slots.1))

-- ---- a used place is one of the used places

in_slots : (first : ℕ) (slots : List (List LeafRow)) (slot r : ℕ) → r ≡ first + slot → 0 < length (get_or slots slot []) → is_in (slot_refs first slots) r ≡ true
in_slots first [] slot r at some = absurd (omega (arith, some))
in_slots first ([] ∷ slots) zero r at some = absurd (omega (arith, some))
in_slots first ([] ∷ slots) (suc slot) r at some = in_slots (first + 1) slots slot r (omega (arith, at)) some
in_slots first ((row ∷ rows) ∷ slots) zero r at some = or_left (first == r) (is_in (slot_refs (first + 1) slots) r) (eq-eqb first r (omega (arith, at)))
in_slots first ((row ∷ rows) ∷ slots) (suc slot) r at some = or_right (first == r) (is_in (slot_refs (first + 1) slots) r) (in_slots (first + 1) slots slot r (omega (arith, at)) some)

leaf_in_page : (number : ℕ) (p : NodePage) (slot r : ℕ) → r ≡ 64 * number + slot → 0 < length (leaf_in p slot) → is_in (page_refs number p) r ≡ true
leaf_in_page number page.Records slot r at some = absurd (omega (arith, some))
leaf_in_page number (page.Leaves slots) slot r at some = in_slots (64 * number) slots slot r at some
leaf_in_page number (page.Inner rows) slot r at some = absurd (omega (arith, some))

inner_in_page : (number : ℕ) (p : NodePage) (r : ℕ) → r ≡ 64 * number → 0 < length (inner_in p) → is_in (page_refs number p) r ≡ true
inner_in_page number page.Records r at some = absurd (omega (arith, some))
inner_in_page number (page.Leaves slots) r at some = absurd (omega (arith, some))
inner_in_page number (page.Inner []) r at some = absurd (omega (arith, some))
inner_in_page number (page.Inner (row ∷ rows)) r at some = or_left (64 * number == r) false (eq-eqb (64 * number) r (sym at))

in_pages : (number : ℕ) (pages : List NodePage) (i at r : ℕ) → at ≡ number + i → is_in (page_refs at (get_or pages i page.Records)) r ≡ true → is_in (refs_from number pages) r ≡ true
in_pages number [] i at r is some = absurd (let no : false ≡ true = some in cc)
in_pages number (p ∷ pages) zero at r is some =
    let here : is_in (page_refs number p) r ≡ true = subst (λ (k : ℕ). is_in (page_refs k p) r ≡ true) (let same : at ≡ number = omega (arith, is) in same) some in
    list_any-append (λ (q : ℕ). q == r) (page_refs number p) (refs_from (number + 1) pages) ∙ or_left (is_in (page_refs number p) r) (is_in (refs_from (number + 1) pages) r) here
in_pages number (p ∷ pages) (suc i) at r is some =
    list_any-append (λ (q : ℕ). q == r) (page_refs number p) (refs_from (number + 1) pages)
    ∙ or_right (is_in (page_refs number p) r) (is_in (refs_from (number + 1) pages) r) (in_pages (number + 1) pages i at r (omega (arith, is)) some)

at_page : (pages : List NodePage) (number r : ℕ) → is_in (page_refs number (page_at pages number)) r ≡ true → is_in (used_refs pages) r ≡ true
at_page pages number r some = ⊎_elim
    (λ body.
    let is = cond-true (nat_le 2 number) (get_or pages (number - 2) page.Records) page.Records body in
    in_pages 2 pages (number - 2) number r (omega (arith, leb-true 2 number body)) (subst (λ (p : NodePage). is_in (page_refs number p) r ≡ true) is some))
    (λ head.
    let is = cond-false (nat_le 2 number) (get_or pages (number - 2) page.Records) page.Records head in
    absurd (let no : false ≡ true = subst (λ (p : NodePage). is_in (page_refs number p) r ≡ true) is some in cc))
    (cases_Bool (nat_le 2 number))

leaf_used : (pages : List NodePage) (r : ℕ) → 0 < length (leaf_at pages r) → is_in (used_refs pages) r ≡ true
leaf_used pages r some = at_page pages (r / 64) r (leaf_in_page (r / 64) (page_at pages (r / 64)) (r % 64) r (omega arith) some)

inner_used : (pages : List NodePage) (r : ℕ) → 0 < length (inner_at pages r) → is_in (used_refs pages) r ≡ true
inner_used pages r some = ⊎_elim
    (λ whole.
    let is = cond-true (nat_eq (r % 64) 0) (inner_in (page_at pages (r / 64))) [] whole in
    let first : r % 64 ≡ 0 = eqb-true (r % 64) 0 whole in
    at_page pages (r / 64) r (inner_in_page (r / 64) (page_at pages (r / 64)) r (omega (arith, first)) (omega (arith, some, ap length is))))
    (λ part.
    let is = cond-false (nat_eq (r % 64) 0) (inner_in (page_at pages (r / 64))) [] part in
    absurd (omega (arith, some, ap length is)))
    (cases_Bool (nat_eq (r % 64) 0))

pub used_is_in : (level : ℕ) (pages : List NodePage) (r : ℕ) → is_used level pages r ≡ true → is_in (used_refs pages) r ≡ true
used_is_in level pages r is = ⊎_elim
    (λ leaf. leaf_used pages r (ltb-true 0 (length (leaf_at pages r)) (sym (cond-true (nat_eq level 1) (nat_lt 0 (length (leaf_at pages r))) (nat_lt 0 (length (inner_at pages r))) leaf) ∙ is)))
    (λ inner. inner_used pages r (ltb-true 0 (length (inner_at pages r)) (sym (cond-false (nat_eq level 1) (nat_lt 0 (length (leaf_at pages r))) (nat_lt 0 (length (inner_at pages r))) inner) ∙ is)))
    (cases_Bool (nat_eq level 1))

-- ---- the walk

once_push : (seen : List ℕ) (r : ℕ) → is_in seen r ≡ false → AreOnce seen → AreOnce (seen ++ r ∷ [])
once_push seen r free once = λ q. ⊎_elim
    (λ same.
    let none : times q seen ≡ 0 = subst (λ (k : ℕ). times k seen ≡ 0) same (not_any (λ (k : ℕ). k == r) seen free) in
    omega (arith, times-append q seen (r ∷ []), counted_cons (λ (k : ℕ). k == q) r [] (eq-eqb r q same), none))
    (λ other. omega (arith, times-append q seen (r ∷ []), uncounted_cons (λ (k : ℕ). k == q) r [] (ne_eqb r q other), once q))
    (cases_eq r q)

module _ (pages : List NodePage) where
  -- behind nodes that were seen stand used places, and no place twice
  record IsNew (seen : List ℕ) (l : Listed) : Type 0 where
    once : AreOnce seen → AreOnce (seen ++ l.refs)
    used : AllByRecursion (λ r. is_in (used_refs pages) r ≡ true) l.refs

  new_nothing : (seen : List ℕ) → IsNew seen nothing
  new_nothing seen = record { once = λ once. subst AreOnce (sym (append-nil seen)) once; used = tt }

  new_join : (seen : List ℕ) (a b : Listed) → IsNew seen a → IsNew (seen ++ a.refs) b → IsNew seen (join a b)
  new_join seen a b first second = record {
    once = λ once. subst AreOnce (append_assoc seen a.refs b.refs) (second.once (first.once once));
    used = all_append (λ r. is_in (used_refs pages) r ≡ true) a.refs b.refs first.used second.used;
  }

  new_first : (seen : List ℕ) (r : ℕ) (node : Shape) (rest : Listed) (level : ℕ) → is_good level pages seen r ≡ true → IsNew (seen ++ r ∷ []) rest → IsNew seen (put_first r node rest)
  new_first seen r node rest level good is =
      let both = and_parts (is_used level pages r) (not (is_in seen r)) good in
      record {
        once = λ once. subst AreOnce (append_assoc seen (r ∷ []) rest.refs) (is.once (once_push seen r (not-true (is_in seen r) both.1) once));
        used = (used_is_in level pages r both.0, is.used);
      }

  new_below : (f : ℕ → List ℕ → Listed) (level : ℕ) → ((r : ℕ) (seen : List ℕ) → is_good level pages seen r ≡ true → IsNew seen (f r seen)) → (seen : List ℕ) (rows : List InnerRow) → IsNew seen (nodes_below pages f level seen rows)
  new_below f level new seen [] = new_nothing seen
  new_below f level new seen (row ∷ rows) =
      let child = child_nodes pages f level seen row.0 in
      new_join seen child (nodes_below pages f level (seen ++ child.refs) rows)
      (cond_both (is_good level pages seen row.0) (f row.0 seen) nothing (IsNew seen) (λ good. new row.0 seen good) (λ _. new_nothing seen))
      (new_below f level new (seen ++ child.refs) rows)

  new_in : (h : ℕ) (f : ℕ → List ℕ → Listed) → ((r : ℕ) (seen : List ℕ) → is_good h pages seen r ≡ true → IsNew seen (f r seen)) → (r : ℕ) (seen : List ℕ) → is_good (suc h) pages seen r ≡ true → IsNew seen (node_in pages h f r seen)
  new_in zero f new r seen good = new_first seen r _ nothing 1 good (new_nothing (seen ++ r ∷ []))
  new_in (suc h) f new r seen good =
      new_first seen r _ (nodes_below pages f (suc h) (seen ++ r ∷ []) (inner_at pages r)) (suc (suc h)) good (new_below f (suc h) new (seen ++ r ∷ []) (inner_at pages r))

  new_nodes : (h r : ℕ) (seen : List ℕ) → is_good h pages seen r ≡ true → IsNew seen (list_node pages h r seen)
  new_nodes zero r seen good = new_nothing seen
  new_nodes (suc h) r seen good = new_in h (list_node pages h) (new_nodes h) r seen good

  root_good : (height root : ℕ) → is_used height pages root ≡ true → is_good height pages [] root ≡ true
  root_good height root used = ap (λ b. b && true) used

none_of : AreOnce []
none_of = λ r. omega arith

-- at most once in what is left of references that stand once
left_once : (p : ℕ → Bool) (r : ℕ) (us : List ℕ) → times r (filter p us) ≤ times r us
left_once p r [] = omega arith
left_once p r (u ∷ us) = ⊎_elim
    (λ yes. omega (arith, ap (times r) (cond-true (p u) (u ∷ filter p us) (filter p us) yes), left_once p r us, sum_by-cons (λ q. counts (q == r)) u us, sum_by-cons (λ q. counts (q == r)) u (filter p us)))
    (λ no. omega (arith, ap (times r) (cond-false (p u) (u ∷ filter p us) (filter p us) no), left_once p r us, sum_by-cons (λ q. counts (q == r)) u us))
    (cases_Bool (p u))

left_out : (p : ℕ → Bool) (r : ℕ) (us : List ℕ) → p r ≡ false → times r (filter p us) ≡ 0
left_out p r [] out = refl
left_out p r (u ∷ us) out = ⊎_elim
    (λ yes. ap (times r) (cond-true (p u) (u ∷ filter p us) (filter p us) yes)
    ∙ uncounted_cons (λ (q : ℕ). q == r) u (filter p us) (ne_eqb u r (λ same. let both : true ≡ false = sym yes ∙ ap p same ∙ out in cc))
    ∙ left_out p r us out)
    (λ no. ap (times r) (cond-false (p u) (u ∷ filter p us) (filter p us) no) ∙ left_out p r us out)
    (cases_Bool (p u))

-- references that stand once, and behind them those of others that aren't among them
joined_once : (rs us : List ℕ) → AreOnce rs → AreOnce us → AreOnce (rs ++ filter (λ r. not (is_in rs r)) us)
joined_once rs us first second = λ r.
    let p = λ (q : ℕ). not (is_in rs q) in
    ⊎_elim
    (λ seen. omega (arith, times-append r rs (filter p us), first r, left_out p r us (not_from_true (is_in rs r) seen)))
    (λ free. omega (arith, times-append r rs (filter p us), second r, left_once p r us, not_any (λ (q : ℕ). q == r) rs free))
    (cases_Bool (is_in rs r))

slots_few : (first : ℕ) (slots : List (List LeafRow)) → length (slot_refs first slots) ≤ length slots
slots_few first [] = omega arith
slots_few first ([] ∷ slots) = omega (arith, slots_few (first + 1) slots)
slots_few first ((row ∷ rows) ∷ slots) = omega (arith, slots_few (first + 1) slots)

page_few : (number : ℕ) (p : NodePage) → HasSlots p → length (page_refs number p) ≤ 63 * counts (is_leaf_page p) + counts (is_inner_page p)
page_few number page.Records slots = omega arith
page_few number (page.Leaves slots) few = omega (arith, slots_few (64 * number) slots, few)
page_few number (page.Inner []) slots = omega arith
page_few number (page.Inner (row ∷ rows)) slots = omega arith

pages_few : (number : ℕ) (pages : List NodePage) → AllByRecursion HasSlots pages → length (refs_from number pages) ≤ places_in pages
pages_few number [] slots = omega arith
pages_few number (p ∷ pages) slots =
    omega (
      arith,
      length-append (page_refs number p) (refs_from (number + 1) pages),
      page_few number p slots.0,
      pages_few (number + 1) pages slots.1,
      sum_by-cons (λ q. counts (is_leaf_page q)) p pages,
      sum_by-cons (λ q. counts (is_inner_page q)) p pages,
    )

pub few_nodes : FewNodes
few_nodes pages height root slots used =
    let us = used_refs pages in
    let nodes = list_node pages height root [] in
    let rs = nodes.refs in
    let new = new_nodes pages height root [] (root_good pages height root used) in
    let p = is_in rs in
    let q = λ (r : ℕ). not (is_in rs r) in
    omega (arith, among us rs (new.once none_of) new.used, length-filter p us, length-filter_both p q (λ r. refl) us, length-append rs (filter q us), pages_few 2 pages slots)

pub none_twice : NoneTwice
none_twice pages height root slots used =
    let new = new_nodes pages height root [] (root_good pages height root used) in
    joined_once (list_node pages height root []).refs (used_refs pages) (new.once none_of) (rises_once 128 (64 * (2 + length pages)) (used_refs pages) (pages_rise 2 pages slots))
