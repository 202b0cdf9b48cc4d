-- What holds of the work list at each turn, by what it held when it began.
use Rattle.std.proofs.Common.{◌≡◌, ℕ, ◌+◌, ◌-◌, ◌<◌, ◌≤◌, Bool, false, List, [], ◌∷◌, ◌++◌, length, refl, sym, ap, subst, ◌∙◌, arith, append_assoc}
use Rattle.std.proofs.lemmas.List.{append-nil}
use Rattle.plain_dbscan.specs.Chains.{Joined}
use Rattle.chain_growth.specs.inside.Lists.{is_in, In, Distinct, missing}
use Rattle.chain_growth.specs.inside.Work.{IsCounted, IsGroup, EntersNear}
use Rattle.chain_growth.proofs.Lists.{distinct_front, length_inside, IsMissing, missing_some}
use Rattle.chain_growth.proofs.Work.{IsGrowing, growing_start, growing_ask, counted_now, counted_then, whole_class, rest_joined}
use Rattle.split_expand.specs.declared.growing.Growth.{Growth}
use Rattle.split_expand.specs.inside.Growing.{IsAlike, IsSound, GoesOn, IsBegun, next_in}

pub goes_itself : (g : Growth) → GoesOn g g
goes_itself g = record { members = refl; seeds = refl; order = record { added = []; is = sym (append-nil g.order.keys) } }

pub goes_on : (a b c : Growth) → GoesOn a b → c.members ≡ b.members → c.seeds ≡ b.seeds → (added : List ℕ) → c.order.keys ≡ b.order.keys ++ added → GoesOn a c
goes_on a b c h m s added is = record {
  members = m ∙ h.members;
  seeds = ap (λ x. x.keys) s ∙ h.seeds;
  order = record {
    added = h.order.added ++ added;
    is = is ∙ ap (λ (xs : List ℕ). xs ++ added) h.order.is ∙ append_assoc a.order.keys h.order.added added;
  };
}

-- one core more is asked, and no more come than there are members
pub fewer_left : (a b : Growth) → IsSound a → a.asked < length a.order.keys → b.members ≡ a.members → b.asked ≡ a.asked + 1 → length b.members - b.asked < length a.members - a.asked
fewer_left a b h lt m e =
    let few : length a.order.keys ≤ length a.members = length_inside a.order.keys a.members h.once h.within in
    let same : length b.members ≡ length a.members = ap length m in
    omega (arith, lt, few, same, e)

module _ (core : ℕ → Bool) (near : ℕ → ℕ → Bool) (alike : IsAlike near) (cost : ℕ → ℕ) (g : Growth) (b : IsBegun core near g) where
  abbrev Grows : Growth → ℕ → ℕ → Type 0
  Grows a old now = IsGrowing core near cost g.members g.seeds.keys b.done b.seed a.order.keys a.asked old now

  abbrev Counts : ℕ → ℕ → Type 0
  Counts old now = IsCounted core near cost g.members g.seeds.keys (Joined core near b.seed) old now

  pub begun_start : (old : ℕ) → Distinct g.order.keys → Grows g old old
  begun_start old d =
      let start = growing_start core near alike cost g.members g.seeds.keys b.union b.seeds b.done b.seed b.next old (distinct_front b.done (b.seed ∷ []) (subst Distinct b.is d)) in
      subst (λ (xs : List ℕ). IsGrowing core near cost g.members g.seeds.keys b.done b.seed xs g.asked old old) (sym b.is)
      (subst (λ (i : ℕ). IsGrowing core near cost g.members g.seeds.keys b.done b.seed (b.done ++ b.seed ∷ []) i old old) (sym b.at) start)

  module _ (a : Growth) (old now : ℕ) (h : Grows a old now) (on : GoesOn g a) (sound : IsSound a) where
    left : a.unfound ≡ missing g.seeds.keys a.order.keys
    left = sound.unfound ∙ ap (λ (xs : List ℕ). missing xs a.order.keys) on.seeds

    pub begun_counted : Counts old now
    begun_counted = counted_now core near alike cost g.members g.seeds.keys b.union b.seeds b.done b.seed b.next a.order.keys a.asked old now h

    pub begun_whole : length a.order.keys ≤ a.asked → IsGroup core near b.seed b.done a.order.keys
    begun_whole le = record {
      group = h.part;
      is = h.is;
      is_class = whole_class core near alike cost g.members g.seeds.keys b.union b.seeds b.done b.seed b.next a.order.keys a.asked old now h le;
    }

    pub begun_last : a.unfound ≡ 0 → (q : ℕ) → In g.seeds.keys q → is_in b.done q ≡ false → Joined core near b.seed q
    begun_last none = rest_joined core near alike cost g.members g.seeds.keys b.union b.seeds b.done b.seed b.next a.order.keys a.asked old now h (sym left ∙ none)

    module _ (lt : a.asked < length a.order.keys) (some : 0 < a.unfound) (new : ℕ) (le : new ≤ now + cost (next_in a)) where
      one : IsMissing g.seeds.keys a.order.keys
      one = missing_some g.seeds.keys a.order.keys (omega (arith, some, left))

      pub begun_asked : Counts old new
      begun_asked = counted_then core near alike cost g.members g.seeds.keys b.union b.seeds b.done b.seed b.next a.order.keys a.asked old now h lt one new le

      pub begun_ask : (c : Growth) → IsSound c → EntersNear near a.members (next_in a) a.order.keys c.order.keys → c.asked ≡ a.asked + 1 → Grows c old new
      begun_ask c s e at =
          let e' : EntersNear near g.members (next_in a) a.order.keys c.order.keys = subst (λ (ms : List ℕ). EntersNear near ms (next_in a) a.order.keys c.order.keys) on.members e in
          let d : Distinct (a.order.keys ++ e'.added) = subst Distinct e'.is s.once in
          let next : IsGrowing core near cost g.members g.seeds.keys b.done b.seed (a.order.keys ++ e'.added) (a.asked + 1) old new =
          growing_ask core near alike cost g.members g.seeds.keys b.union b.seeds b.done b.seed b.next a.order.keys a.asked old now h lt one e'.added new e'.sound
          (λ x f n. subst (λ (xs : List ℕ). In xs x) e'.is (e'.complete x f n)) d le
          in
          subst (λ (i : ℕ). IsGrowing core near cost g.members g.seeds.keys b.done b.seed c.order.keys i old new) (sym at)
          (subst (λ (xs : List ℕ). IsGrowing core near cost g.members g.seeds.keys b.done b.seed xs (a.asked + 1) old new) (sym e'.is) next)
