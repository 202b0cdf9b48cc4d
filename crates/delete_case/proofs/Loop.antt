-- The loop that parts one former cluster after another.
use Rattle.std.proofs.Common.{◌≡◌, ℕ, zero, suc, ◌+◌, ◌<◌, Bool, List, [], ◌∷◌, ◌++◌, length, take, get_or, refl, sym, ap, subst, ◌∙◌, Some, slice_get, arith}
use Rattle.std.specs.FinMap as map
use Rattle.std.proofs.lemmas.List.{take_more}
use Rattle.std.proofs.lemmas.Option.{slice_get-get_or}
use Rattle.vec_record.specs.declared.event.Event.{Event}
use Rattle.count_book.specs.Counted.{Counted}
use Rattle.label_book.specs.Labels.{Labels}
use Rattle.label_book.proofs.Views.{no_value}
use Rattle.update_seed.specs.declared.former.Former.{Former}
use Rattle.update_seed.proofs.Lists.{none, no_members}
use Rattle.delete_case.specs.Parting.{IsPartable, ArePartable, AreAllParted, AreAllTold, AreAllPaid}
use Rattle.delete_case.specs.inside.Cutting.{IsOneCut, IsOneTold, IsOnePaid}
use Rattle.delete_case.proofs.Parts.{append_none, parted_more, told_more, paid_more, untouched}

pub longer : {X : Type 0} (xs : List X) (i k : ℕ) (x : X) → slice_get (take i xs) k ≡ Some x → slice_get xs k ≡ Some x
longer [] zero k x e = e
longer [] (suc i) k x e = e
longer (y ∷ xs) zero k x e = absurd (no_value refl e)
longer (y ∷ xs) (suc i) zero x e = e
longer (y ∷ xs) (suc i) (suc k) x e = longer xs i k x e

pub shorter : {X : Type 0} (xs : List X) (i k : ℕ) (x : X) → slice_get (take i xs) k ≡ Some x → k < i
shorter [] zero k x e = absurd (no_value refl e)
shorter [] (suc i) k x e = absurd (no_value refl e)
shorter (y ∷ xs) zero k x e = absurd (no_value refl e)
shorter (y ∷ xs) (suc i) zero x e = omega arith
shorter (y ∷ xs) (suc i) (suc k) x e = let r = shorter xs i k x e in omega (arith, r)

-- nothing is told or paid at first
pub told_none : (old new : Labels) (out : List Event) → AreAllTold old [] new out out
told_none old new out = ([], refl, append_none out)

pub paid_start : (core : ℕ → Bool) (near : ℕ → ℕ → Bool) (cost : ℕ → ℕ) (old : Labels) (s : ℕ) → AreAllPaid core near cost old [] s s
paid_start core near cost old s all = record { asked = []; once = no_members; may = λ a m. absurd (none a m); count = omega arith }

-- what some of them cost they all may cost
pub paid_longer : (core : ℕ → Bool) (near : ℕ → ℕ → Bool) (cost : ℕ → ℕ) (old : Labels) (list : List Former) (i s t : ℕ) → AreAllPaid core near cost old (take i list) s t → AreAllPaid core near cost old list s t
paid_longer core near cost old list i s t paid all =
    let a = paid (λ j f at. all j f (longer list i j f at)) in
    record {
      asked = a.asked;
      once = a.once;
      may = λ x m. let may = a.may x m in record { place = may.place; former = may.former; stands = longer list i may.place may.former may.stands; grown = may.grown };
      count = a.count;
    }

module _ (core : ℕ → Bool) (near : ℕ → ℕ → Bool) (counts : Counted) (old now : Labels) (list : List Former) (part : ArePartable counts old list) (i : ℕ) (f : Former) (h : i < length list) (is : f ≡ get_or list i f)
    (parted : AreAllParted core near old (take i list) now) where
  at : slice_get list i ≡ Some f
  at = slice_get-get_or list i f h ∙ ap (λ x. Some x) (sym is)

  here : IsPartable counts old f
  here = part.each i f at

  next : take (i + 1) list ≡ take i list ++ f ∷ []
  next = take_more list i f h ∙ ap (λ x. take i list ++ x ∷ []) (sym is)

  other : (j : ℕ) (g : Former) → slice_get (take i list) j ≡ Some g → g.label ≡ f.label → ⊥
  other j g e same = let less = part.rising j i g f (shorter list i j g e) (longer list i j g e) at in omega (arith, less, same)

  kept : (c : ℕ) → map.get old c ≡ Some f.label → map.get now c ≡ map.get old c
  kept = untouched core near old now (take i list) f here.label_is here.lost_in other parted

  pub partable_now : IsPartable counts now f
  partable_now = record {
    label_is = kept f.label here.label_is ∙ here.label_is;
    lost_in = λ b m. kept b (here.lost_in b m) ∙ here.lost_in b m;
    lost_once = here.lost_once;
    lost_out = here.lost_out;
    seeds_in = λ q m. let s = here.seeds_in q m in (s.0, kept q s.1 ∙ s.1);
  }

  module _ (new : Labels) (one : IsOneCut core near now f new) where
    pub parted_next : AreAllParted core near old (take (i + 1) list) new
    parted_next = subst (λ (xs : List Former). AreAllParted core near old xs new) (sym next)
        (parted_more core near old now (take i list) f here.label_is here.lost_in other parted new one (λ j g e. (part.each j g (longer list i j g e)).lost_in))

    pub told_next : (out mid out' : List Event) → AreAllTold old (take i list) now out mid → IsOneTold now f new mid out' → AreAllTold old (take (i + 1) list) new out out'
    told_next out mid out' all told = subst (λ (xs : List Former). AreAllTold old xs new out out') (sym next)
        (told_more core near old now (take i list) f here.label_is here.lost_in other parted new one out mid out' all told)

  pub paid_next : (cost : ℕ → ℕ) (s t u : ℕ) → AreAllPaid core near cost old (take i list) s t → IsOnePaid core near cost now f t u → AreAllPaid core near cost old (take (i + 1) list) s u
  paid_next cost s t u all one = subst (λ (xs : List Former). AreAllPaid core near cost old xs s u) (sym next)
      (paid_more core near old now (take i list) f here.label_is here.lost_in other parted cost s t u all one)
