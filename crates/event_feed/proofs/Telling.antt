-- Events told one after another, and slots told one after another.
use Rattle.std.proofs.Common.{◌≡◌, ℕ, ◌+◌, ◌<◌, ◌≤◌, List, [], ◌∷◌, ◌++◌, length, get_or, set, take, drop, map, zero, suc, sym, ◌∙◌, ap, refl, arith, add-one}
use Rattle.std.proofs.lemmas.List.{at_drop_more, at_drop_all}
use Rattle.vec_record.specs.declared.event.Event.{Event}
use Rattle.event_feed.specs.Meanings.{Meaning, told}

-- the rest of the events, once one more was told
pub told_next : (m n : Meaning) (events : List Event) (k : ℕ) (d : Event) → k < length events → n ≡ told (get_or events k d ∷ []) m → told (drop (k + 1) events) n ≡ told (drop k events) m
told_next m n events k d lt e =
    ap (told (drop (k + 1) events)) e ∙ sym (at_drop_more (λ (rest : List Event). told rest m) events k d lt)

pub told_end : (m before : Meaning) (events : List Event) (k : ℕ) → length events ≤ k → told (drop k events) m ≡ before → m ≡ before
told_end m before events k le e = sym (at_drop_all (λ (rest : List Event). told rest m) events k le) ∙ e

-- what a list becomes, where its first items were changed by f and the rest is still to be
abbrev pub changed : {A B : Type 0} → (A → B) → (B → B) → ℕ → List A → List B
changed says f i items = take i (map says items) ++ map f (drop i (map says items))

changed_suc : {A B : Type 0} (says : A → B) (f : B → B) (items : List A) (i : ℕ) (old new : A) → i < length items → says new ≡ f (says (get_or items i old)) → changed says f (suc i) (set items i new) ≡ changed says f i items
changed_suc says f [] i old new lt e = absurd (omega (arith, lt))
changed_suc says f (x ∷ xs) zero old new lt e = ap (λ y. y ∷ map f (map says xs)) e
changed_suc says f (x ∷ xs) (suc i) old new lt e =
    ap (λ ys. says x ∷ ys) (changed_suc says f xs i old new (omega (arith, lt)) e)

pub changed_next : {A B : Type 0} (items : List A) (i : ℕ) (old new : A) (says : A → B) (f : B → B) → i < length items → says new ≡ f (says (get_or items i old)) → changed says f (i + 1) (set items i new) ≡ changed says f i items
changed_next items i old new says f lt e = rw add-one (changed_suc says f items i old new lt e)

pub changed_end : {A B : Type 0} (says : A → B) (f : B → B) (items : List A) (i : ℕ) → length items ≤ i → changed says f i items ≡ map says items
changed_end says f [] zero le = refl
changed_end says f [] (suc i) le = refl
changed_end says f (x ∷ xs) zero le = absurd (omega (arith, le))
changed_end says f (x ∷ xs) (suc i) le = ap (λ ys. says x ∷ ys) (changed_end says f xs i (omega (arith, le)))
