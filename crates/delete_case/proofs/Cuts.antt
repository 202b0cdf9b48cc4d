-- The groups of one former cluster.
use Rattle.std.proofs.Common.{◌≡◌, ℕ, zero, suc, ◌<◌, ◌≤◌, Bool, List, [], ◌∷◌, length, refl, sym, subst, ◌∙◌, Some, slice_get, arith}
use Rattle.vec_record.specs.Held.{Held}
use Rattle.plain_dbscan.specs.Chains.{Joined}
use Rattle.plain_dbscan.proofs.Chains.{joined_on, joined_back}
use Rattle.count_book.specs.Counted.{Counted}
use Rattle.label_book.specs.Labels.{Labels, IsMember}
use Rattle.label_book.proofs.Views.{same_value, no_value}
use Rattle.update_seed.specs.declared.former.Former.{Former}
use Rattle.update_seed.specs.Books.{core_in}
use Rattle.update_seed.proofs.Lists.{none, no_members}
use Rattle.chain_growth.proofs.Views.{union_as, seeds_as, grown_as}
use Rattle.split_expand.specs.Split.{AreCoresIn, AreAmong, AreGroupsOf, AreSeeded, IsSplit, IsPaid}
use Rattle.delete_case.specs.Parting.{CoresAreThere, IsPartable, Remains, IsSeeded}
use Rattle.delete_case.specs.inside.Cutting.{AreRemaining, IsCutBy, IsOnePaid}
use Rattle.delete_case.proofs.Counted.{core_tested, test_core}

pub paid_none : (core : ℕ → Bool) (near : ℕ → ℕ → Bool) (cost : ℕ → ℕ) (labels : Labels) (f : Former) (steps steps' : ℕ) → steps' ≤ steps → IsOnePaid core near cost labels f steps steps'
paid_none core near cost labels f steps steps' h s = record { asked = []; once = no_members; may = λ a m. absurd (none a m); count = omega (arith, h) }

-- members of a list with fewer than two are equal
one_seed : (xs : List ℕ) (a b : ℕ) → length xs < 2 → IsMember xs a → IsMember xs b → a ≡ b
one_seed [] a b h m k = absurd (none a m)
one_seed (x ∷ []) a b h m k = first_is m ∙ sym (first_is k)
  where
    first_is : {c : ℕ} → IsMember (x ∷ []) c → c ≡ x
    first_is {c = c} m = at_first m.0 m.1
      where
        at_first : (i : ℕ) → slice_get (x ∷ []) i ≡ Some c → c ≡ x
        at_first zero e = sym (same_value refl e)
        at_first (suc i) e = absurd (no_value refl e)
one_seed (x ∷ y ∷ xs) a b h m k = absurd (omega (arith, h))

module _ (counts : Counted) (near : ℕ → ℕ → Bool) (labels : Labels) (f : Former) (p : IsPartable counts labels f) where
  abbrev core : ℕ → Bool
  core = core_in counts

  -- with fewer than two seeds there is one class, or none
  module _ (alike : (a b : ℕ) → near a b ≡ near b a) (few : length f.seeds < 2) where
    all_joined : IsSeeded core near labels f → (a b : ℕ) → Remains core labels f.label a → Remains core labels f.label b → Joined core near a b
    all_joined s a b ra rb =
        let qa = s.seeds.each a ra in
        let qb = s.seeds.each b rb in
        let same : qa.0 ≡ qb.0 = one_seed f.seeds qa.0 qb.0 few qa.1 qb.1 in
        joined_on core near a qa.0 b qa.2 (subst (λ (q : ℕ). Joined core near q b) (sym same) (joined_back core near alike b qb.0 qb.2))

    pub cut_by_none : IsCutBy core near labels f []
    cut_by_none = record {
      parting = record {
        label_is = p.label_is;
        lost_in = p.lost_in;
        lost_once = p.lost_once;
        grouped_in = λ a of. absurd (no_value refl of.1.1.0);
        group_once = λ j g at. absurd (no_value refl at);
        apart = λ b m of. no_value refl of.1.1.0;
        one_group = λ a of. absurd (no_value refl of.1.1.0);
      };
      split = λ s. record {
        classes = λ j g at. absurd (no_value refl at);
        rest = λ a b ra rb oa ob. all_joined s a b ra rb;
      };
    }

  module _ (members : List ℕ) (are : AreRemaining core labels f.label members) where
    to : (a : ℕ) → IsMember members a → Remains core labels f.label a
    to a m = (are a).0 m

    back : (a : ℕ) → Remains core labels f.label a → IsMember members a
    back a r = (are a).1 r

    same_seeds : (q : ℕ) → IsMember f.seeds q → IsMember f.seeds q
    same_seeds q m = m

    seeded : IsSeeded core near labels f → AreSeeded core near members f.seeds
    seeded s = record {
      union = union_as core near (Remains core labels f.label) (IsMember members) back to s.union;
      each = seeds_as core near (Remains core labels f.label) (IsMember members) (IsMember f.seeds) (IsMember f.seeds) back to same_seeds same_seeds s.seeds;
    }

    pub cut_by : (groups : List (List ℕ)) → AreGroupsOf members groups → IsSplit core near members f.seeds groups → IsCutBy core near labels f groups
    cut_by groups g split = record {
      parting = record {
        label_is = p.label_is;
        lost_in = p.lost_in;
        lost_once = p.lost_once;
        grouped_in = λ a of. (to a (g.members a of)).1;
        group_once = g.once;
        apart = λ b m of. p.lost_out b m (test_core counts b (to b (g.members b of)).0);
        one_group = g.apart;
      };
      split = λ s. let c = split (seeded s) in record {
        classes = c.classes;
        rest = λ a b ra rb. c.rest a b (back a ra) (back b rb);
      };
    }

    pub paid_by : (cost : ℕ → ℕ) (steps steps' : ℕ) → IsPaid core near cost members f.seeds steps steps' → IsOnePaid core near cost labels f steps steps'
    paid_by cost steps steps' paid s =
        let q = paid (seeded s) in
        record {
          asked = q.asked;
          once = q.once;
          may = λ a m. record {
            place = 0;
            former = f;
            stands = refl;
            grown = grown_as core near (IsMember members) (Remains core labels f.label) (IsMember f.seeds) (IsMember f.seeds) to same_seeds same_seeds a (q.grown a m);
          };
          count = q.count;
        }

    pub cores_in : (records : Held) → CoresAreThere records counts → AreCoresIn records counts members
    cores_in records there = record {
      there = λ a m. there a (test_core counts a (to a m).0);
      core = λ a m. test_core counts a (to a m).0;
    }

    pub seeds_among : AreAmong members f.seeds
    seeds_among q m = let h = p.seeds_in q m in back q (core_tested counts q h.0, h.1)
