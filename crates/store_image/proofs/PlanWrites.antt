-- The writes that lead from pages to pages.
use Rattle.std.proofs.Common.{◌≡◌, inl, inr, ℕ, ◌+◌, ◌-◌, ◌<◌, ◌≤◌, Bool, true, false, cond, ltb, ◌&&◌, List, [], ◌∷◌, ◌++◌, length, drop, set, get_or, refl, sym, ◌∙◌, ap, subst, arith, length-append, append_assoc, IsTrue}
use Rattle.std.specs.Prelude.{nat_eq}
use Rattle.std.specs.Cmp.Lexicographic.{pointwise}
use Rattle.std.proofs.lemmas.Bool.{cases_Bool, cases_lt, lt-ltb, le-ltb, false≢true}
use Rattle.std.proofs.lemmas.Bool.Decides.{Decides-eqb}
use Rattle.std.proofs.lemmas.Slice.Eq.{slice_eq-Decides}
use Rattle.std.proofs.lemmas.List.{set_at, append-nil, drop_more, drop_all}
use Rattle.page_gate.specs.Gate.{rises, count_of}
use Rattle.page_gate.specs.declared.page.PageWrite.{PageWrite}
use Rattle.page_gate.specs.Writes.{pairs, Names, put_page, written, new_count, first_page, IsPlan}
use Rattle.store_image.specs.Placing.{writes_from}
use Rattle.store_image.specs.inside.Saves.{one_write}

-- lists of numbers that are tested as equal are equal
pub same_bytes : (xs ys : List ℕ) → pointwise nat_eq xs ys ≡ true → xs ≡ ys
same_bytes xs ys is = (slice_eq-Decides Decides-eqb xs ys (pointwise nat_eq xs ys) refl).0 is

pub other_bytes : (xs ys : List ℕ) → (xs ≡ ys → ⊥) → pointwise nat_eq xs ys ≡ false
other_bytes xs ys differ = elim (cases_Bool (pointwise nat_eq xs ys)) [
  | inl is ↦ absurd (differ (same_bytes xs ys is))
  | inr is ↦ is
]

abbrev pub step_write : ℕ → Bool → List ℕ → List (ℕ × List ℕ) → List (ℕ × List ℕ)
step_write page same new rest = cond same rest ((page, new) ∷ rest)

-- one page more
pub writes_more : (page : ℕ) (old : List (List ℕ)) (k : ℕ) (new : List ℕ) (more : List (List ℕ))
    → writes_from (page + k) (drop k old) (new ∷ more) ≡ one_write page old k new ++ writes_from (page + (k + 1)) (drop (k + 1) old) more
writes_more page old k new more = elim (cases_lt k (length old)) [
  | inl within ↦
      let here : ltb k (length old) ≡ true = lt-ltb k (length old) within in
      ap (λ (l : List (List ℕ)). writes_from (page + k) l (new ∷ more)) (drop_more old k [] within)
      ∙ ap (λ (n : ℕ). step_write (page + k) (pointwise nat_eq (get_or old k []) new) new (writes_from n (drop (k + 1) old) more)) (omega arith)
      ∙ parted (pointwise nat_eq (get_or old k []) new) (writes_from (page + (k + 1)) (drop (k + 1) old) more)
      ∙ ap (λ (b : Bool). cond (b && pointwise nat_eq (get_or old k []) new) [] ((page + k, new) ∷ []) ++ writes_from (page + (k + 1)) (drop (k + 1) old) more) (sym here)
  | inr past ↦
      let away : ltb k (length old) ≡ false = le-ltb k (length old) past in
      let none : drop (k + 1) old ≡ [] = drop_all (k + 1) old (omega (arith, past)) in
      ap (λ (l : List (List ℕ)). writes_from (page + k) l (new ∷ more)) (drop_all k old past)
      ∙ ap (λ (n : ℕ). (page + k, new) ∷ writes_from n [] more) (omega arith)
      ∙ ap (λ (l : List (List ℕ)). (page + k, new) ∷ writes_from (page + (k + 1)) l more) (sym none)
      ∙ ap (λ (b : Bool). cond (b && pointwise nat_eq (get_or old k []) new) [] ((page + k, new) ∷ []) ++ writes_from (page + (k + 1)) (drop (k + 1) old) more) (sym away)
]
  where
    parted : (b : Bool) (rest : List (ℕ × List ℕ)) → step_write (page + k) b new rest ≡ cond b [] ((page + k, new) ∷ []) ++ rest
    parted true rest = refl
    parted false rest = refl

pub writes_none : (page : ℕ) (old : List (List ℕ)) → writes_from page old [] ≡ []
writes_none page [] = refl
writes_none page (was ∷ old) = refl

-- the list after the writes
put_behind : (front : List (List ℕ)) (new : List ℕ) → put_page (length front + 1) new (front ++ []) ≡ (front ++ new ∷ []) ++ []
put_behind front new =
    let next : ltb (length front) (length front + 1) ≡ true = lt-ltb (length front) (length front + 1) (omega arith) in
    ap (put_page (length front + 1) new) (append-nil front)
    ∙ ap (λ (b : Bool). cond b (front ++ new ∷ []) (set front (length front + 1 - 1) new)) next ∙ sym (append-nil (front ++ new ∷ []))

put_at : (front : List (List ℕ)) (was new : List ℕ) (old : List (List ℕ)) → put_page (length front + 1) new (front ++ was ∷ old) ≡ (front ++ new ∷ []) ++ old
put_at front was new old =
    let there : ltb (length (front ++ was ∷ old)) (length front + 1) ≡ false = le-ltb (length (front ++ was ∷ old)) (length front + 1) (omega (arith, length-append front (was ∷ old))) in
    ap (λ (b : Bool). cond b ((front ++ was ∷ old) ++ new ∷ []) (set (front ++ was ∷ old) (length front + 1 - 1) new)) there
    ∙ ap (λ (k : ℕ). set (front ++ was ∷ old) k new) (omega arith)
    ∙ set_at front was old new (length front) refl ∙ sym (append_assoc front (new ∷ []) old)

one_longer : (front : List (List ℕ)) (new : List ℕ) → length (front ++ new ∷ []) + 1 ≡ length front + 1 + 1
one_longer front new = omega (arith, length-append front (new ∷ []))

pub written_from : (front old news : List (List ℕ)) → length old ≤ length news → written (front ++ old) (writes_from (length front + 1) old news) ≡ front ++ news
written_from front [] [] le = refl
written_from front (was ∷ old) [] le = absurd (omega (arith, le))
written_from front [] (new ∷ news) le =
    ap (λ (l : List (List ℕ)). written l (writes_from (length front + 1 + 1) [] news)) (put_behind front new)
    ∙ ap (λ (n : ℕ). written ((front ++ new ∷ []) ++ []) (writes_from n [] news)) (sym (one_longer front new))
    ∙ written_from (front ++ new ∷ []) [] news (omega arith)
    ∙ append_assoc front (new ∷ []) news
written_from front (was ∷ old) (new ∷ news) le = by_test (pointwise nat_eq was new) refl (λ x. written_from (front ++ x ∷ []) old news (omega (arith, le)))
  where
    on : (x : List ℕ) → written ((front ++ x ∷ []) ++ old) (writes_from (length (front ++ x ∷ []) + 1) old news) ≡ (front ++ x ∷ []) ++ news → written ((front ++ x ∷ []) ++ old) (writes_from (length front + 1 + 1) old news) ≡ front ++ x ∷ news
    on x rest = ap (λ (n : ℕ). written ((front ++ x ∷ []) ++ old) (writes_from n old news)) (sym (one_longer front x)) ∙ rest ∙ append_assoc front (x ∷ []) news

    by_test : (b : Bool) → pointwise nat_eq was new ≡ b → ((x : List ℕ) → written ((front ++ x ∷ []) ++ old) (writes_from (length (front ++ x ∷ []) + 1) old news) ≡ (front ++ x ∷ []) ++ news)
        → written (front ++ was ∷ old) (step_write (length front + 1) b new (writes_from (length front + 1 + 1) old news)) ≡ front ++ new ∷ news
    by_test true is rest =
        ap (λ (l : List (List ℕ)). written l (writes_from (length front + 1 + 1) old news)) (sym (append_assoc front (was ∷ []) old)) ∙ on was (rest was) ∙ ap (λ (x : List ℕ). front ++ x ∷ news) (same_bytes was new is)
    by_test false is rest = ap (λ (l : List (List ℕ)). written l (writes_from (length front + 1 + 1) old news)) (put_at front was new old) ∙ on new (rest new)

-- their numbers rise
both_true : (a b : Bool) → IsTrue a → IsTrue b → IsTrue (a && b)
both_true true b p q = q
both_true false b p q = absurd (false≢true p)

pub rises_from : (page low limit : ℕ) (old news : List (List ℕ)) → low < page → page + length news ≤ limit → IsTrue (rises low limit (writes_from page old news))
rises_from page low limit old [] above within = subst (λ (l : List (ℕ × List ℕ)). IsTrue (rises low limit l)) (sym (writes_none page old)) refl
rises_from page low limit [] (new ∷ news) above within =
    both_true (ltb low page) (ltb page limit && rises page limit (writes_from (page + 1) [] news)) (lt-ltb low page above)
    (both_true (ltb page limit) (rises page limit (writes_from (page + 1) [] news)) (lt-ltb page limit (omega (arith, within))) (rises_from (page + 1) page limit [] news (omega arith) (omega (arith, within))))
rises_from page low limit (was ∷ old) (new ∷ news) above within =
    by_test (pointwise nat_eq was new) (rises_from (page + 1) low limit old news (omega (arith, above)) (omega (arith, within))) (rises_from (page + 1) page limit old news (omega arith) (omega (arith, within)))
  where
    by_test : (b : Bool) → IsTrue (rises low limit (writes_from (page + 1) old news)) → IsTrue (rises page limit (writes_from (page + 1) old news)) → IsTrue (rises low limit (step_write page b new (writes_from (page + 1) old news)))
    by_test true left on = left
    by_test false left on =
        both_true (ltb low page) (ltb page limit && rises page limit (writes_from (page + 1) old news)) (lt-ltb low page above)
        (both_true (ltb page limit) (rises page limit (writes_from (page + 1) old news)) (lt-ltb page limit (omega (arith, within))) on)

-- each new page is named
pub names_from : (page p : ℕ) (old news : List (List ℕ)) → page + length old ≤ p → p < page + length news → Names p (writes_from page old news)
names_from page p old [] from below = absurd (omega (arith, from, below))
names_from page p [] (new ∷ news) from below = elim (cases_lt page p) [
  | inl later ↦ inr (names_from (page + 1) p [] news (omega (arith, later)) (omega (arith, below)))
  | inr here ↦ inl (omega (arith, here, from))
]
names_from page p (was ∷ old) (new ∷ news) from below = by_test (pointwise nat_eq was new) (names_from (page + 1) p old news (omega (arith, from)) (omega (arith, below)))
  where
    by_test : (b : Bool) → Names p (writes_from (page + 1) old news) → Names p (step_write page b new (writes_from (page + 1) old news))
    by_test true names = names
    by_test false names = inr names

begins : (old : List (List ℕ)) (first : List ℕ) (news : List (List ℕ)) → (get_or old 0 [] ≡ first → ⊥) → writes_from 1 old (first ∷ news) ≡ (1, first) ∷ writes_from 2 (drop 1 old) news
begins [] first news other = refl
begins (was ∷ old) first news other = ap (λ (b : Bool). step_write 1 b first (writes_from 2 old news)) (other_bytes was first other)

-- writes that a commit can make
pub plan_is : (old : List (List ℕ)) (first : List ℕ) (news : List (List ℕ)) → (get_or old 0 [] ≡ first → ⊥) → length old ≤ length news + 1 → count_of first ≡ length news + 2 → IsPlan old (writes_from 1 old (first ∷ news))
plan_is old first news other le count =
    let start = begins old first news other in
    let many : new_count (writes_from 1 old (first ∷ news)) ≡ length news + 2 = ap new_count start ∙ count in
    record {
      first = ap first_page start;
      rising = rises_from 1 0 (new_count (writes_from 1 old (first ∷ news))) old (first ∷ news) (omega arith) (omega (arith, many));
      no_fewer = omega (arith, le, many);
      whole = λ page above below. names_from 1 page old (first ∷ news) (omega (arith, above)) (omega (arith, many, below));
    }

pub written_all : (old news : List (List ℕ)) → length old ≤ length news → written old (writes_from 1 old news) ≡ news
written_all old news le = written_from [] old news le

pub count_written : (old : List (List ℕ)) (first : List ℕ) (news : List (List ℕ)) → (get_or old 0 [] ≡ first → ⊥) → new_count (writes_from 1 old (first ∷ news)) ≡ count_of first
count_written old first news other = ap new_count (begins old first news other)

-- the writes of a list with one more
pub pairs_push : (ws : List PageWrite) (w : PageWrite) → pairs (ws ++ w ∷ []) ≡ pairs ws ++ (w.page, w.bytes) ∷ []
pairs_push [] w = refl
pairs_push (x ∷ ws) w = ap (λ (l : List (ℕ × List ℕ)). (x.page, x.bytes) ∷ l) (pairs_push ws w)
