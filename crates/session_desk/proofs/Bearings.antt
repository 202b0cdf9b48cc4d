-- The moments of a birth.
use Rattle.std.proofs.Common.{◌≡◌, ◌⊎◌, inl, inr, ℕ, Bool, true, false, List, [], ◌∷◌, ◌++◌, take, Result, refl, sym, ap, subst, ◌∙◌}
use Rattle.std.specs.Prelude.{codes}
use Rattle.std.proofs.lemmas.List.{append-nil}
use Rattle.site_disk.specs.State.{SiteState, Safe}
use Rattle.page_gate.specs.Gate.{is_blank, opening, Opens, count_of, number_4, part}
use Rattle.page_gate.specs.Promises.{Asks, Bears, Holds}
use Rattle.page_layout.specs.Heads.{Values, head_page}
use Rattle.session_desk.specs.Moments.{IsSaying}
use Rattle.session_desk.specs.Births.{new_head, new_pages, birth_due, IsUnbegun, IsBirthImage, IsBirthMoment}
use Rattle.session_desk.specs.Bearing.{IsBearing}
use Rattle.session_desk.proofs.Going.{safe_as, then_safe, then_said}

-- a new store has two pages
pub new-count : (v : Values) → count_of (head_page (new_head v)) ≡ 2
unfolding count_of number_4 part head_page
new-count v = refl

module _ (v : Values) (first : List ℕ) (e : first ≡ head_page (new_head v)) where
  opens-new : (c : List ℕ) → opening c ≡ Opens (first ∷ []) → opening c ≡ Opens (new_pages v)
  opens-new c opens = opens ∙ ap (λ (p : List ℕ). Opens (p ∷ [])) e

  bearing-image : (a : SiteState) (s c : List ℕ) → s ≡ a.said → (is_blank c ≡ true) ⊎ (opening c ≡ Opens (first ∷ [])) → IsBearing v a s c
  bearing-image a s c quiet (inl blank) = record { prefix = (0, quiet ∙ sym (append-nil a.said)); image_is = inl (quiet, blank) }
  bearing-image a s c quiet (inr opens) = record { prefix = (0, quiet ∙ sym (append-nil a.said)); image_is = inr (opens-new c opens) }

  -- nothing is said before the store holds
  pub bears-quietly : {E : Type 0} {r : Result Unit E} (a b : SiteState) → Bears first r a b → Safe a b (IsBearing v a)
  bears-quietly {E} {r} a b birth = safe_as birth.safe (λ s i at. bearing-image a s i at.0 at.1)

  -- the word is said over the new store alone
  pub bears : {E : Type 0} {r : Result Unit E} (a b c : SiteState) → Bears first r a b → Holds (first ∷ []) b → Safe b c (IsSaying b (codes "born\n")) → Safe a c (IsBearing v a)
  bears {E} {r} a b c birth holds say = then_said (codes "born\n") (bears-quietly a b birth) say
      (λ n i left. record {
        prefix = (n, ap (λ (s : List ℕ). s ++ take n (codes "born\n")) birth.said);
        image_is = inr (opens-new i (ap opening (holds.only i left) ∙ holds.list));
      })

-- over a blank content
pub births : {E : Type 0} {r : Result Bool E} (v : Values) (a b c : SiteState) → is_blank a.content ≡ true → Asks r a b → Safe b c (IsBearing v b) → Safe a c (IsBirthMoment v a)
births {E} {r} v a b c blank asks bear = then_safe
    (safe_as asks.safe (λ s i at. moment s i (0, at.0 ∙ sym (append-nil a.said)) (inl (at.0, inl at.1))))
    (safe_as bear (λ s i m. moment s i (m.prefix.0, m.prefix.1 ∙ ap (λ (t : List ℕ). t ++ take m.prefix.0 (codes "born\n")) asks.said) (before s i m.image_is)))
  where
    before : (s i : List ℕ) → ((s ≡ b.said) × (is_blank i ≡ true)) ⊎ (opening i ≡ Opens (new_pages v)) → IsUnbegun a s i ⊎ (opening i ≡ Opens (new_pages v))
    before s i (inl quiet) = inl (quiet.0 ∙ asks.said, inr quiet.1)
    before s i (inr opens) = inr opens

    moment : (s i : List ℕ) → (n : ℕ) × (s ≡ a.said ++ take n (codes "born\n")) → IsUnbegun a s i ⊎ (opening i ≡ Opens (new_pages v)) → IsBirthMoment v a s i
    moment s i prefix image = record {
      prefix = (prefix.0, prefix.1 ∙ ap (λ (b : Bool). a.said ++ take prefix.0 (birth_due b).text) (sym blank));
      image_is = let P : Bool → Type 0 = λ b. IsBirthImage v b a s i in subst P (sym blank) image;
    }

-- over another content
pub refuses-birth : {E : Type 0} {r : Result Bool E} (v : Values) (a b c : SiteState) → is_blank a.content ≡ false → Asks r a b → Safe b c (IsSaying b (codes "store exists\n")) → Safe a c (IsBirthMoment v a)
refuses-birth {E} {r} v a b c full asks say = then_said (codes "store exists\n")
    (safe_as asks.safe (λ s i at. moment s i (0, at.0 ∙ sym (append-nil a.said)) at.1)) say
    (λ n i left. moment (b.said ++ take n (codes "store exists\n")) i (n, ap (λ (t : List ℕ). t ++ take n (codes "store exists\n")) asks.said) (asks.safe.now i left).1)
  where
    moment : (s i : List ℕ) → (n : ℕ) × (s ≡ a.said ++ take n (codes "store exists\n")) → a.may_leave i → IsBirthMoment v a s i
    moment s i prefix image = record {
      prefix = (prefix.0, prefix.1 ∙ ap (λ (b : Bool). a.said ++ take prefix.0 (birth_due b).text) (sym full));
      image_is = let P : Bool → Type 0 = λ b. IsBirthImage v b a s i in subst P (sym full) image;
    }
