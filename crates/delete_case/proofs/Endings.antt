-- The end of a deletion, from what its calls gave.
use Rattle.std.proofs.Common.{◌≡◌, ℕ, ◌≤◌, false, List, [], ◌∷◌, length, IsTrue, is_some, refl, sym, ap, subst, ◌∙◌, None, Some, arith}
use Rattle.std.specs.Prelude.{unwrap_or}
use Rattle.std.specs.declared.option.Option.{Option}
use Rattle.std.specs.FinMap as map
use Rattle.vec_record.specs.Held.{Held, Rows, HaveWidth}
use Rattle.vec_record.specs.Vectors.{IsVector}
use Rattle.vec_record.specs.declared.event.Event.{Event}
use Rattle.plain_dbscan.specs.Marks.{density}
use Rattle.plain_dbscan.specs.Index.{near}
use Rattle.count_book.specs.Counted.{Counted}
use Rattle.label_book.specs.Labels.{Labels, HasLeast, IsMember}
use Rattle.label_book.proofs.Taken.{removed_same, removed_other}
use Rattle.update_seed.specs.Books.{IsHeld, Fits, StandsFor, near_in, all_near}
use Rattle.update_seed.specs.Price.{QueryCost, cost_at}
use Rattle.delete_case.specs.Deleted.{without, vector_at, IsPaid}
use Rattle.delete_case.specs.Told.{AreEventsTold}
use Rattle.delete_case.specs.inside.Clearing.{IsTaken, IsAround, IsNext, IsCleared, IsPaidAway}
use Rattle.delete_case.proofs.Gone.{around_once, around_there, around_other, apart_from}
use Rattle.delete_case.proofs.Whole.{is_next, deletion_fits, minpts_kept, deletion_stands, deletion_told, deletion_paid}

-- a list of no length has nothing
pub no_length : {X : Type 0} (xs : List X) → length xs ≤ 0 → xs ≡ []
no_length [] h = refl
no_length (x ∷ xs) h = absurd (omega arith)

pub none_is : (o : Option ℕ) → is_some o ≡ false → o ≡ None
none_is None h = refl
none_is (Some x) h = absurd (cc)

pub vector_is : (records : Held) (p : ℕ) (v : List ℕ) → map.get records.vectors p ≡ Some v → v ≡ vector_at records p
vector_is records p v at = sym (ap (λ (o : Option (List ℕ)). unwrap_or o []) at)

module _ (dist : List ℕ → List ℕ → ℕ) (eps : ℕ) (width width' : ℕ) (contents contents' : Rows) (records records' : Held) (p : ℕ) (v : List ℕ) (same : records' ≡ without records p) (at : map.get records.vectors p ≡ Some v)
    (wide : HaveWidth records.width records.vectors) (back : (u x : List ℕ) → IsVector records.width u → IsVector records.width x → dist u x ≡ dist x u) (itself : (u : List ℕ) → IsVector records.width u → dist u u ≡ 0)
    (counts : Counted) (labels : Labels) (fits : Fits width contents records counts labels) (law : (width' ≡ width) × (contents' ≡ map.remove contents p)) where
  pairs_are : contents' ≡ map.remove records.vectors p
  pairs_are = law.1 ∙ ap (λ (m : Rows). map.remove m p) fits.held.same_pairs

  held_without : IsHeld width' contents' (without records p)
  held_without = record { same_width = law.0 ∙ fits.held.same_width; same_pairs = pairs_are }

  pub still_held : IsHeld width' contents' records'
  still_held = subst (λ (r : Held). IsHeld width' contents' r) (sym same) held_without

  module _ (around : List ℕ) (found : around ≡ near dist contents' v eps) where
    found_rest : around ≡ near dist (map.remove records.vectors p) v eps
    found_rest = found ∙ ap (λ (m : Rows). near dist m v eps) pairs_are

    was_there : (q : ℕ) → IsMember around q → IsTrue (is_some (map.get records.vectors q))
    was_there q m =
        ap is_some (sym (removed_other records.vectors p q (apart_from dist eps counts.minpts records.width records.vectors p v at wide back around found_rest q m)))
        ∙ around_there dist eps counts.minpts records.width records.vectors p v at wide back around found_rest q m

    pub about : IsAround p around counts
    about = record {
      once = around_once dist eps counts.minpts records.width records.vectors p v at wide back around found_rest;
      there = λ q m. fits.numbers q ∙ was_there q m;
      other = around_other dist eps counts.minpts records.width records.vectors p v at wide back around found_rest;
    }

    pub next_steps : IsNext records' p around counts labels
    next_steps = subst (λ (r : Held). IsNext r p around counts labels) (sym same)
        (is_next width contents records p around counts labels fits (removed_same records.vectors p) about)

    module _ (new : Counted) (labels' : Labels) (out out' : List Event) (done : IsCleared (near_in dist eps records') (all_near dist eps records') p around counts new labels labels' out out') where
      done_without : IsCleared (near_in dist eps (without records p)) (all_near dist eps (without records p)) p around counts new labels labels' out out'
      done_without = subst (λ (r : Held). IsCleared (near_in dist eps r) (all_near dist eps r) p around counts new labels labels' out out') same done

      pub ends_minpts : new.minpts ≡ counts.minpts
      ends_minpts = minpts_kept width contents records p around counts labels fits (near_in dist eps (without records p)) (all_near dist eps (without records p)) new labels' out out' done_without

      fit : HasLeast labels' → Fits width' contents' (without records p) new labels'
      fit least = deletion_fits width contents records p around counts labels fits (near_in dist eps (without records p)) (all_near dist eps (without records p)) new labels' out out' done_without least width' contents' held_without

      pub ends_fit : HasLeast labels' → Fits width' contents' records' new labels'
      ends_fit least = subst (λ (r : Held). Fits width' contents' r new labels') (sym same) (fit least)

      pub ends_stand : HasLeast labels' → StandsFor (density dist eps counts.minpts) width contents records counts labels → StandsFor (density dist eps counts.minpts) width' contents' records' new labels'
      ends_stand least stood = subst (λ (r : Held). StandsFor (density dist eps counts.minpts) width' contents' r new labels') (sym same)
          (deletion_stands dist eps width contents records p v at wide back itself around found_rest counts labels stood new labels' out out' done_without width' contents' (fit least))

      pub ends_told : StandsFor (density dist eps counts.minpts) width contents records counts labels → AreEventsTold (density dist eps counts.minpts) records.vectors records'.vectors out out'
      ends_told stood = subst (λ (r : Held). AreEventsTold (density dist eps counts.minpts) records.vectors r.vectors out out') (sym same)
          (deletion_told dist eps width contents records p v at wide back itself around found_rest counts labels stood new labels' out out' done_without)

  pub ends_paid : (around : List ℕ) → around ≡ near dist contents' v eps → StandsFor (density dist eps counts.minpts) width contents records counts labels → (cost cost' : QueryCost) (first third last : ℕ) → IsTaken cost cost' v eps first third
      → IsPaidAway (near_in dist eps records') (cost_at cost' records' eps) p around counts labels third last → IsPaid (density dist eps counts.minpts) cost cost' records p first last
  ends_paid around found stood cost cost' first third last taken paid =
      deletion_paid dist eps width contents records p v at wide back itself around (found ∙ ap (λ (m : Rows). near dist m v eps) pairs_are) counts labels stood cost cost' first third last taken
      (subst (λ (r : Held). IsPaidAway (near_in dist eps r) (cost_at cost' r eps) p around counts labels third last) same paid)
