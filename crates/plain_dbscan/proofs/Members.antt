-- Members of lists of numbers, in order.
use Rattle.std.proofs.Common.{◌≡◌, ℕ, zero, suc, ◌<◌, ◌≤◌, Bool, true, false, cond, List, [], ◌∷◌, length, get_or, IsTrue, Some, None, refl, sym, ap, subst, ◌∙◌, inl, inr, arith}
use Rattle.std.specs.List.{filter, find}
use Rattle.plain_dbscan.proofs.Chains.{Member}

pub member_at : (xs : List ℕ) (i : ℕ) → i < length xs → Member (get_or xs i 0) xs
member_at [] i h = absurd (omega arith)
member_at (x ∷ xs) zero h = inl refl
member_at (x ∷ xs) (suc i) h = inr (member_at xs i (omega arith))

-- where a member stands
pub record StandsAt (xs : List ℕ) (x i : ℕ) : Type 0 where
  pub below : i < length xs
  pub is : get_or xs i 0 ≡ x

pub place_of : (xs : List ℕ) (x : ℕ) → Member x xs → (i : ℕ) × StandsAt xs x i
place_of [] x m = absurd m
place_of (y ∷ xs) x (inl e) = (0, record { below = omega arith; is = sym e })
place_of (y ∷ xs) x (inr m) = let p = place_of xs x m in (suc p.0, record { below = omega (arith, p.1.below); is = p.1.is })

pub member_filter : (p : ℕ → Bool) (xs : List ℕ) (x : ℕ) → Member x xs → IsTrue (p x) → Member x (filter p xs)
member_filter p [] x m h = absurd m
member_filter p (y ∷ xs) x (inl e) h = rw (subst (λ (z : ℕ). p z ≡ true) e h) (inl e)
member_filter p (y ∷ xs) x (inr m) h = elim (p y) as (λ b. Member x (cond b (y ∷ filter p xs) (filter p xs))) [ true ↦ inr (member_filter p xs x m h) | false ↦ member_filter p xs x m h ]

pub record PassesIn (p : ℕ → Bool) (xs : List ℕ) (x : ℕ) : Type 0 where
  pub member : Member x xs
  pub passes : IsTrue (p x)

pub passes_in : (p : ℕ → Bool) (xs : List ℕ) (x : ℕ) → Member x (filter p xs) → PassesIn p xs x
passes_in p [] x m = absurd m
passes_in p (y ∷ xs) x m =
    elim (p y) as (λ b. p y ≡ b → Member x (cond b (y ∷ filter p xs) (filter p xs)) → PassesIn p (y ∷ xs) x) [
      | true ↦ λ e m. elim m [
        | inl same ↦ record { member = inl same; passes = ap p same ∙ e }
        | inr m' ↦ let r = passes_in p xs x m' in record { member = inr r.member; passes = r.passes }
      ]
      | false ↦ λ e m. let r = passes_in p xs x m in record { member = inr r.member; passes = r.passes }
    ] refl m

-- each number is below those after it
abbrev pub Rises : List ℕ → Type 0
Rises [] = Unit {0}
Rises (x ∷ xs) = ((y : ℕ) → Member y xs → x < y) × Rises xs

pub rises_filter : (p : ℕ → Bool) (xs : List ℕ) → Rises xs → Rises (filter p xs)
rises_filter p [] r = tt
rises_filter p (x ∷ xs) r = elim (p x) as (λ b. Rises (cond b (x ∷ filter p xs) (filter p xs))) [
  | true ↦ ((λ y m. r.0 y (passes_in p xs y m).member), rises_filter p xs r.1)
  | false ↦ rises_filter p xs r.1
]

-- what `find` gives of a list that rises
pub record IsFirst (p : ℕ → Bool) (xs : List ℕ) (b : ℕ) : Type 0 where
  pub found : find p xs ≡ Some b
  pub member : Member b xs
  pub passes : IsTrue (p b)
  pub least : (c : ℕ) → Member c xs → IsTrue (p c) → b ≤ c

pub first_of : (p : ℕ → Bool) (xs : List ℕ) (x : ℕ) → Rises xs → Member x xs → IsTrue (p x) → (b : ℕ) × IsFirst p xs b
first_of p [] x r m h = absurd m
first_of p (y ∷ xs) x r m h =
    elim (p y) as (λ b. p y ≡ b → (b : ℕ) × IsFirst p (y ∷ xs) b) [
      | true ↦ λ e. (
        y,
        record {
          found = ap (λ b. cond b (Some y) (find p xs)) e;
          member = inl refl;
          passes = e;
          least = λ c m' h'. elim m' [ inl same ↦ omega (arith, same) | inr later ↦ omega (arith, r.0 c later) ];
        },
      )
      | false ↦ λ e. elim m [
        | inl same ↦ let bad : p y ≡ true = sym (ap p same) ∙ h in absurd (cc)
        | inr later ↦
            let rest = first_of p xs x r.1 later h in (
              rest.0,
              record {
                found = ap (λ b. cond b (Some y) (find p xs)) e ∙ rest.1.found;
                member = inr rest.1.member;
                passes = rest.1.passes;
                least = λ c m' h'. elim m' [
                  | inl same ↦ let bad : p y ≡ true = sym (ap p same) ∙ h' in absurd (cc)
                  | inr later' ↦ rest.1.least c later' h'
                ];
              },
            )
      ]
    ] refl

-- the first place that passes
pub find_at : (p : ℕ → Bool) (xs : List ℕ) (i : ℕ) → i < length xs → ((k : ℕ) → k < i → p (get_or xs k 0) ≡ false) → IsTrue (p (get_or xs i 0)) → find p xs ≡ Some (get_or xs i 0)
find_at p [] i h before here = absurd (omega arith)
find_at p (x ∷ xs) zero h before here = rw here refl
find_at p (x ∷ xs) (suc i) h before here = rw (before 0 (omega arith)) (find_at p xs i (omega arith) (λ k lt. before (suc k) (omega arith)) here)

pub find_none : (p : ℕ → Bool) (xs : List ℕ) → ((k : ℕ) → k < length xs → p (get_or xs k 0) ≡ false) → find p xs ≡ None
find_none p [] all = refl
find_none p (x ∷ xs) all = rw (all 0 (omega arith)) (find_none p xs (λ k lt. all (suc k) (omega arith)))

-- lists that agree at each place are equal
pub same_list : (xs ys : List ℕ) → length xs ≡ length ys → ((i : ℕ) → i < length ys → get_or xs i 0 ≡ get_or ys i 0) → xs ≡ ys
same_list [] [] l each = refl
same_list [] (y ∷ ys) l each = absurd (omega arith)
same_list (x ∷ xs) [] l each = absurd (omega arith)
same_list (x ∷ xs) (y ∷ ys) l each = let e : x ≡ y = each 0 (omega arith) in let es : xs ≡ ys = same_list xs ys (omega arith) (λ i h. each (suc i) (omega arith)) in cc

not_Some : {X : Type 0} (x : X) → Some x ≡ None → ⊥
not_Some x e = cc

-- where `find` gives none, no member passes
pub find_fails : (p : ℕ → Bool) (xs : List ℕ) → find p xs ≡ None → (c : ℕ) → Member c xs → p c ≡ false
find_fails p [] none c m = absurd m
find_fails p (x ∷ xs) none c m =
    elim (p x) as (λ b. p x ≡ b → cond b (Some x) (find p xs) ≡ None → p c ≡ false) [
      | true ↦ λ e n. absurd (not_Some x n)
      | false ↦ λ e n. elim m [ inl same ↦ ap p same ∙ e | inr later ↦ find_fails p xs n c later ]
    ] refl none

-- where `find` gives a number of a list that rises, it is the first that passes
pub find_first : (p : ℕ → Bool) (xs : List ℕ) (b : ℕ) → Rises xs → find p xs ≡ Some b → IsFirst p xs b
find_first p [] b r found = absurd (cc)
find_first p (x ∷ xs) b r found =
    elim (p x) as (λ t. p x ≡ t → cond t (Some x) (find p xs) ≡ Some b → IsFirst p (x ∷ xs) b) [
      | true ↦ λ e f. let same : x ≡ b = cc in record {
        found = found;
        member = inl (sym same);
        passes = subst (λ (z : ℕ). IsTrue (p z)) same e;
        least = λ c m h. elim m [ inl here ↦ omega (arith, here, same) | inr later ↦ omega (arith, r.0 c later, same) ];
      }
      | false ↦ λ e f. let rest = find_first p xs b r.1 f in record {
        found = found;
        member = inr rest.member;
        passes = rest.passes;
        least = λ c m h. elim m [
          | inl here ↦ let bad : p x ≡ true = sym (ap p here) ∙ h in absurd (cc)
          | inr later ↦ rest.least c later h
        ];
      }
    ] refl found
