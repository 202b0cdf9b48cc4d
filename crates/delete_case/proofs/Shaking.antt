-- What the parting and the hanging need, and what they give together.
use Rattle.std.proofs.Common.{◌≡◌, ℕ, ◌+◌, ◌≤◌, Bool, List, IsSome, refl, subst, None, Some, inr, sum_by}
use Rattle.std.specs.declared.option.Option.{Option}
use Rattle.std.specs.FinMap as map
use Rattle.vec_record.specs.Held.{Held}
use Rattle.vec_record.specs.declared.event.Event.{Event}
use Rattle.count_book.specs.declared.row.Row.{Row}
use Rattle.count_book.specs.Counted.{Counted, anchor_in}
use Rattle.label_book.specs.Labels.{Labels, IsMember}
use Rattle.label_book.proofs.Views.{some_and}
use Rattle.update_seed.specs.declared.former.Former.{Former}
use Rattle.update_seed.specs.Books.{core_in}
use Rattle.update_seed.specs.Outgoing.{AreFormer, AreLoose, AreHung}
use Rattle.delete_case.specs.Parting.{CoresAreThere, IsPartable, ArePartable, AreAllParted, AreAllTold, AreAllPaid}
use Rattle.delete_case.specs.inside.Clearing.{AreThere, IsShaken, IsSpentAfter}
use Rattle.delete_case.proofs.Fitting.{hung_core, core_hung}
use Rattle.delete_case.proofs.Hung.{hung_flags}

-- anchors are nothing to what can part
module _ (all : ℕ → List ℕ) (lost : List ℕ) (counted hung : Counted) (first : AreHung all lost counted hung) where
  pub hung_cores : (records : Held) → CoresAreThere records counted → CoresAreThere records hung
  hung_cores records there a h = there a (hung_core all lost counted hung first a h)

  partable : (labels : Labels) (f : Former) → IsPartable counted labels f → IsPartable hung labels f
  partable labels f p = record {
    label_is = p.label_is;
    lost_in = p.lost_in;
    lost_once = p.lost_once;
    lost_out = λ b m h. p.lost_out b m (hung_core all lost counted hung first b h);
    seeds_in = λ q m. let s = p.seeds_in q m in (core_hung all lost counted hung first q s.0, s.1);
  }

  pub hung_partable : (labels : Labels) (list : List Former) → ArePartable counted labels list → ArePartable hung labels list
  hung_partable labels list p = record { each = λ j f at. partable labels f (p.each j f at); rising = p.rising }

  module _ (near : ℕ → ℕ → Bool) (p : ℕ) (around : List ℕ) (labels : Labels) (list : List Former) (loose : List ℕ) (former : AreFormer near counted labels p around lost list) (loose_are : AreLoose near counted labels p around lost loose) where
    pub shaken : (new : Counted) (labels' : Labels) (out out' : List Event) → AreAllParted (core_in hung) near labels list labels' → AreAllTold labels list labels' out out' → AreHung all loose hung new
        → IsShaken near all p around lost counted new labels labels' out out'
    shaken new labels' out out' parted told second = record {
      list = list;
      loose = loose;
      hung = hung;
      former = former;
      loose_are = loose_are;
      first = first;
      parted = subst (λ (f : ℕ → Bool). AreAllParted f near labels list labels') (hung_flags all lost counted hung first) parted;
      told = told;
      second = second;
    }

    pub spent : (cost : ℕ → ℕ) (steps start mid steps' : ℕ) → start ≡ steps + sum_by cost lost → AreAllPaid (core_in hung) near cost labels list start mid → steps' ≤ mid + sum_by cost loose
        → IsSpentAfter near cost p around lost counted labels steps steps'
    spent cost steps start mid steps' is paid last = inr (record {
      list = list;
      loose = loose;
      mid = mid;
      former = former;
      loose_are = loose_are;
      paid = subst (λ (s : ℕ). AreAllPaid (core_in counted) near cost labels list s mid) is
          (subst (λ (f : ℕ → Bool). AreAllPaid f near cost labels list start mid) (hung_flags all lost counted hung first) paid);
      last = last;
    })

has_anchor : (o : Option Row) (c : ℕ) → anchor_in o ≡ Some c → IsSome o
has_anchor None c e = absurd (cc)
has_anchor (Some r) c e = refl

-- what is loose is among the records
pub loose_there : (near : ℕ → ℕ → Bool) (records : Held) (counted : Counted) (labels : Labels) (p : ℕ) (around lost loose : List ℕ) → AreThere records counted → AreLoose near counted labels p around lost loose
    → (q : ℕ) → IsMember loose q → IsSome (map.get records.vectors q)
loose_there near records counted labels p around lost loose there are q m =
    let got = some_and (anchor_in (map.get counted.rows q)) _ ((are.exact q).0 m).1 in
    there.numbers q (has_anchor (map.get counted.rows q) got.0 got.1)
