-- A deletion as a whole: the books fit and stand after it, and it was paid.
use Rattle.std.proofs.Common.{◌≡◌, ℕ, ◌+◌, ◌≤◌, Bool, true, false, List, [], ◌++◌, IsSome, is_some, refl, sym, ap, subst, ◌∙◌, None, Some, inl, inr, sum_by, arith}
use Rattle.std.specs.Prelude.{unwrap_or}
use Rattle.std.specs.declared.option.Option.{Option}
use Rattle.std.specs.FinMap as map
use Rattle.vec_record.specs.Held.{Held, Rows, HaveWidth}
use Rattle.vec_record.specs.Vectors.{IsVector}
use Rattle.vec_record.specs.declared.event.Event.{Event}
use Rattle.plain_dbscan.specs.Marks.{density}
use Rattle.plain_dbscan.specs.Index.{near}
use Rattle.count_book.specs.Counted.{Counted, IsCore, anchor_in}
use Rattle.label_book.specs.Labels.{Labels, HasLeast, IsMember}
use Rattle.label_book.proofs.Views.{no_value, some_and}
use Rattle.update_seed.specs.Books.{IsHeld, Fits, StandsFor, AreLabelsDue, near_in, all_near, core_in}
use Rattle.update_seed.specs.Price.{QueryCost, cost_at}
use Rattle.update_seed.specs.Outgoing.{AreOut, IsLost, IsNearLost, IsLoose, AreHung}
use Rattle.update_seed.proofs.Lists.{none, no_members}
use Rattle.delete_case.specs.Deleted.{without, vector_at, IsGrownOf, outer_asked, deletion_price, IsPaid}
use Rattle.delete_case.specs.Parting.{AreAllParted}
use Rattle.delete_case.specs.inside.Clearing.{IsTaken, IsAround, IsNext, AreThere, IsShaken, IsQuiet, IsCleared, IsPaidAway}
use Rattle.delete_case.proofs.Fitting.{core_row, counted_there, hung_core, core_hung, hung_there, hung_row, lost_no_core, counted_numbers, cores_there, are_out, fits_after, labels_keep, are_partable}
use Rattle.delete_case.proofs.Gone.{changes}
use Rattle.delete_case.proofs.Hung.{hung_none}
use Rattle.delete_case.proofs.DueRows.{rows_due}
use Rattle.delete_case.proofs.Deletion.{former_of, labels_after, grown_cost, outer_cost, lost_cost}
use Rattle.delete_case.specs.Told.{AreEventsTold}
use Rattle.delete_case.proofs.Told.{told_due}
use Rattle.delete_case.proofs.Parts.{parted_none, append_none}

-- nothing more was done: as if there were no former clusters, and nothing hung
module _ (near : ℕ → ℕ → Bool) (all : ℕ → List ℕ) (p : ℕ) (around lost : List ℕ) (counted new : Counted) (labels labels' : Labels) (out out' : List Event) (q : IsQuiet p lost counted new labels labels' out out') where
  none_lost : (b : ℕ) → IsLost labels p lost b → ⊥
  none_lost b (inl m) = none b (subst (λ (xs : List ℕ). IsMember xs b) q.none m)
  none_lost b (inr h) = let bad : false ≡ true = sym (ap is_some q.no_label) ∙ h.1 in absurd (cc)

  none_loose : (a : ℕ) → IsLoose near counted labels p around lost a → ⊥
  none_loose a h = let got = some_and (anchor_in (map.get counted.rows a)) (λ c. IsLost labels p lost c × IsNearLost near p around c a) h.1 in none_lost got.0 got.2.0

  pub quiet_shaken : IsShaken near all p around lost counted new labels labels' out out'
  quiet_shaken = record {
    list = [];
    loose = [];
    hung = counted;
    former = record { each = λ j f at. absurd (no_value refl at); all = λ b l. absurd (none_lost b l); rising = λ i j f g lt at. absurd (no_value refl at) };
    loose_are = record { exact = λ a. ((λ m. absurd (none a m)), (λ h. absurd (none_loose a h))); once = no_members };
    first = subst (λ (xs : List ℕ). AreHung all xs counted counted) (sym q.none) (hung_none all counted);
    parted = subst (λ (m : Labels). AreAllParted (core_in counted) near labels [] m) (sym q.labels_kept) (parted_none (core_in counted) near labels);
    told = ([], refl, q.untold ∙ append_none out);
    second = subst (λ (c : Counted). AreHung all [] counted c) (sym q.counts) (hung_none all counted);
  }

pub cleared_shaken : (near : ℕ → ℕ → Bool) (all : ℕ → List ℕ) (p : ℕ) (around : List ℕ) (counts new : Counted) (labels labels' : Labels) (out out' : List Event) (c : IsCleared near all p around counts new labels labels' out out')
    → IsShaken near all p around c.lost c.counted new labels labels' out out'
cleared_shaken near all p around counts new labels labels' out out' c = elim c.rest [
  | inl q ↦ quiet_shaken near all p around c.lost c.counted new labels labels' out out' q
  | inr s ↦ s
]

module _ (width : ℕ) (contents : Rows) (records : Held) (p : ℕ) (around : List ℕ) (counts : Counted) (labels : Labels) (fits : Fits width contents records counts labels) where
  -- what the steps after counting out need
  pub is_next : map.get (without records p).vectors p ≡ None → IsAround p around counts → IsNext (without records p) p around counts labels
  is_next gone about counted lost out = (out_of, there, λ near list former. are_partable p around counts counted lost out near labels list fits.least former)
    where
      there_row : (b : ℕ) → IsMember lost b → IsSome (map.get counted.rows b)
      there_row b m =
          let h = (out.lost_are b).0 m in
          let row = core_row counts b h.1.0 in
          counted_there p around counts counted lost out b (λ e. about.other (subst (IsMember around) e h.0)) ∙ ap is_some row.1

      out_of : AreOut (without records p) counted labels p around lost
      out_of = record {
        gone_absent = gone;
        around_once = about.once;
        lost_once = out.lost_once;
        there = λ b m. sym (counted_numbers p around counts counted lost out width contents records labels fits b) ∙ there_row b m;
        labelled = λ b m. (are_out p around counts counted lost out width contents records labels fits b m).0;
        no_core = λ b m. lost_no_core p around counts counted lost out labels b (inl m);
        unhung = λ b m. (are_out p around counts counted lost out width contents records labels fits b m).1;
      }

      there : AreThere (without records p) counted
      there = record {
        numbers = λ a h. sym (counted_numbers p around counts counted lost out width contents records labels fits a) ∙ h;
        cores = cores_there p around counts counted lost out width contents records labels fits;
      }

  module _ (near : ℕ → ℕ → Bool) (all : ℕ → List ℕ) (new : Counted) (labels' : Labels) (out out' : List Event) (c : IsCleared near all p around counts new labels labels' out out') where
    abbrev s : IsShaken near all p around c.lost c.counted new labels labels' out out'
    s = cleared_shaken near all p around counts new labels labels' out out' c

    core_stays : (a : ℕ) → IsCore c.counted a → map.get new.rows a ≡ map.get c.counted.rows a
    core_stays a k =
        s.second.others a (λ m. ((s.loose_are.exact a).0 m).0 k)
        ∙ s.first.others a (λ m. lost_no_core p around counts c.counted c.lost c.out_are labels a (inl m) k)

    pub minpts_kept : new.minpts ≡ counts.minpts
    minpts_kept = s.second.minpts_kept ∙ s.first.minpts_kept ∙ c.out_are.minpts_kept

    pub deletion_fits : HasLeast labels' → (width' : ℕ) (contents' : Rows) → IsHeld width' contents' (without records p) → Fits width' contents' (without records p) new labels'
    deletion_fits least width' contents' held =
        fits_after p around counts c.counted c.lost c.out_are width contents records labels fits labels' least
        (labels_keep p around counts c.counted c.lost c.out_are near (core_in c.counted) labels labels' s.list s.former s.parted)
        new (s.second.minpts_kept ∙ s.first.minpts_kept)
        (λ a. (
          (λ h. hung_core all c.lost c.counted s.hung s.first a (hung_core all s.loose s.hung new s.second a h)),
          (λ h. core_hung all s.loose s.hung new s.second a (core_hung all c.lost c.counted s.hung s.first a h)),
        ))
        (λ a. hung_there all s.loose s.hung new s.second a ∙ hung_there all c.lost c.counted s.hung s.first a)
        (λ a r' e.
        let mid = hung_row all s.loose s.hung new s.second a r' e in
        let row = hung_row all c.lost c.counted s.hung s.first a mid.0 mid.1 in
        (row.0, row.1, mid.2 ∙ row.2))
        core_stays width' contents' held

module _ (dist : List ℕ → List ℕ → ℕ) (eps : ℕ) (width : ℕ) (contents : Rows) (records : Held) (p : ℕ) (v : List ℕ) (at : map.get records.vectors p ≡ Some v) (wide : HaveWidth records.width records.vectors)
    (back : (u x : List ℕ) → IsVector records.width u → IsVector records.width x → dist u x ≡ dist x u) (itself : (u : List ℕ) → IsVector records.width u → dist u u ≡ 0)
    (around : List ℕ) (found : around ≡ near dist (map.remove records.vectors p) v eps)
    (counts : Counted) (labels : Labels) (stood : StandsFor (density dist eps counts.minpts) width contents records counts labels) where
  abbrev near' : ℕ → ℕ → Bool
  near' = near_in dist eps (without records p)

  module _ (new : Counted) (labels' : Labels) (out out' : List Event) (c : IsCleared near' (all_near dist eps (without records p)) p around counts new labels labels' out out') where
    abbrev end : IsShaken near' (all_near dist eps (without records p)) p around c.lost c.counted new labels labels' out out'
    end = cleared_shaken near' (all_near dist eps (without records p)) p around counts new labels labels' out out' c

    pub deletion_stands : (width' : ℕ) (contents' : Rows) → Fits width' contents' (without records p) new labels' → StandsFor (density dist eps counts.minpts) width' contents' (without records p) new labels'
    deletion_stands width' contents' fits = record {
      fits = fits;
      rows = rows_due dist eps counts.minpts records.width records.vectors p v at wide back itself around found counts c.counted c.lost labels stood.rows refl c.out_are stood.labels_due end.loose end.hung new end.first end.loose_are end.second;
      labels_due = labels_after dist eps counts.minpts records.width records.vectors p v at wide back itself around found counts c.counted c.lost labels stood.rows refl c.out_are stood.labels_due end.list end.former labels' end.parted;
    }

    labels_now : AreLabelsDue (density dist eps counts.minpts) (map.entries (without records p).vectors) labels'
    labels_now = labels_after dist eps counts.minpts records.width records.vectors p v at wide back itself around found counts c.counted c.lost labels stood.rows refl c.out_are stood.labels_due end.list end.former labels' end.parted

    pub deletion_told : AreEventsTold (density dist eps counts.minpts) records.vectors (without records p).vectors out out'
    deletion_told =
        end.told.2
        ∙ ap (λ (es : List Event). out ++ es)
        (told_due (density dist eps counts.minpts) (map.entries records.vectors) (map.entries (without records p).vectors) (map.entries_sorted records.vectors) (map.entries_sorted (without records p).vectors)
        (changes dist eps counts.minpts records.width records.vectors p v at wide back).within.cores labels labels' stood.labels_due labels_now end.list
        (former_of dist eps counts.minpts records.width records.vectors p v at wide back itself around found counts c.counted c.lost labels stood.rows refl c.out_are stood.labels_due end.list end.former) end.former.rising
        end.told.0 end.told.1)

  -- what the steps after the index cost
  outer_paid : (cost : ℕ → ℕ) (steps steps' : ℕ) → IsPaidAway near' cost p around counts labels steps steps' → (grown : List ℕ)
      → ((a : ℕ) → IsGrownOf (density dist eps counts.minpts) (map.entries records.vectors) (map.entries (without records p).vectors) a → IsMember grown a)
      → steps' ≤ steps + (sum_by cost (outer_asked (density dist eps counts.minpts) (map.entries records.vectors) (map.entries (without records p).vectors) p) + sum_by cost grown)
  outer_paid cost steps steps' (inl none) grown all = omega (arith, none)
  outer_paid cost steps steps' (inr c) grown all = elim c.spent [
    | inl asked ↦
        let less = lost_cost dist eps counts.minpts records.width records.vectors p v at wide back itself around found counts c.counted c.lost labels stood.rows refl c.out_are stood.labels_due cost in
        omega (arith, asked, less)
    | inr s ↦
        let mid = grown_cost dist eps counts.minpts records.width records.vectors p v at wide back itself around found counts c.counted c.lost labels stood.rows refl c.out_are stood.labels_due s.list s.former cost (steps + sum_by cost c.lost) s.mid s.paid grown all in
        let less = outer_cost dist eps counts.minpts records.width records.vectors p v at wide back itself around found counts c.counted c.lost labels stood.rows refl c.out_are stood.labels_due s.loose s.loose_are cost in
        omega (arith, mid, less, s.last)
  ]

  pub deletion_paid : (cost cost' : QueryCost) (first third steps' : ℕ) → IsTaken cost cost' v eps first third
      → IsPaidAway near' (cost_at cost' (without records p) eps) p around counts labels third steps' → IsPaid (density dist eps counts.minpts) cost cost' records p first steps'
  deletion_paid cost cost' first third steps' taken paid grown all =
      let rest = outer_paid (cost_at cost' (without records p) eps) third steps' paid grown all in
      let is : vector_at records p ≡ v = ap (λ (o : Option (List ℕ)). unwrap_or o []) at in
      subst (λ (u : List ℕ). steps' ≤ first + deletion_price cost cost' (without records p) eps u (outer_asked (density dist eps counts.minpts) (map.entries records.vectors) (map.entries (without records p).vectors) p) grown) (sym is)
      (omega (arith, rest, taken))
