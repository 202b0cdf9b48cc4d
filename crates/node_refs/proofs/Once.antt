-- References that stand once in a list.
use Rattle.std.proofs.Common.{◌≡◌, ℕ, ◌+◌, ◌<◌, ◌≤◌, Bool, true, false, List, [], ◌∷◌, length, take, drop, slice_index, refl, ap, ◌∙◌, ⊎_elim, arith, cond}
use Rattle.std.specs.Prelude.{◌==◌}
use Rattle.std.specs.List.{count_by, list_any}
use Rattle.std.proofs.lemmas.Bool.{or_cases, false_from_ne_true, eq-eqb}
use Rattle.std.proofs.lemmas.List.{drop_more}
use Rattle.std.proofs.lemmas.List.Sums.{sum_by-cons, sum_by-take-drop}
use Rattle.node_refs.specs.Pages.{is_in}
use Rattle.node_refs.specs.Laws.{AreOnce}

-- how often a reference stands in a list
abbrev pub times : ℕ → List ℕ → ℕ
times r refs = count_by (λ q. q == r) refs

-- what an element counts
abbrev pub counts : Bool → ℕ
counts b = cond b 1 0

pub counted_cons : {X : Type 0} (p : X → Bool) (x : X) (xs : List X) → p x ≡ true → count_by p (x ∷ xs) ≡ 1 + count_by p xs
counted_cons p x xs is = omega (arith, sum_by-cons (λ y. counts (p y)) x xs, ap counts is)

pub uncounted_cons : {X : Type 0} (p : X → Bool) (x : X) (xs : List X) → p x ≡ false → count_by p (x ∷ xs) ≡ count_by p xs
uncounted_cons p x xs is = omega (arith, sum_by-cons (λ y. counts (p y)) x xs, ap counts is)

pub any_counts : {X : Type 0} (p : X → Bool) (xs : List X) → list_any p xs ≡ true → 1 ≤ count_by p xs
any_counts p [] is = absurd (let no : false ≡ true = is in cc)
any_counts p (x ∷ xs) is = ⊎_elim
    (λ here. omega (arith, counted_cons p x xs here))
    (λ later. omega (arith, any_counts p xs later, sum_by-cons (λ y. counts (p y)) x xs))
    (or_cases (p x) (list_any p xs) is)

pub same_is : (r : ℕ) → (r == r) ≡ true
same_is r = eq-eqb r r refl

-- what stands once isn't among what stands before it
pub fresh : (refs : List ℕ) (at : ℕ) → AreOnce refs → at < length refs → is_in (take at refs) (slice_index refs at) ≡ false
fresh refs at once inside =
    let r = slice_index refs at in
    let here = drop_more refs at 0 inside in
    let f = λ (q : ℕ). counts (q == r) in
    false_from_ne_true _ (λ seen.
    let before = any_counts (λ (q : ℕ). q == r) (take at refs) seen in
    let behind = ap (times r) here ∙ counted_cons (λ (q : ℕ). q == r) r (drop (at + 1) refs) (same_is r) in
    let all = sum_by-take-drop f refs at in
    absurd (omega (arith, before, behind, all, once r)))
