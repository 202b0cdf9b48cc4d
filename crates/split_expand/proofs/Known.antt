-- What the loop over the seeds knows, from one seed to the next.
use Rattle.std.proofs.Common.{◌≡◌, ℕ, ◌+◌, ◌<◌, ◌≤◌, Bool, false, List, [], ◌∷◌, ◌++◌, drop, length, get_or, sym, ap, subst, ◌∙◌, arith, append_assoc, length-append}
use Rattle.std.specs.List.Sorted.{IsNonDecreasing}
use Rattle.plain_dbscan.specs.Chains.{Joined}
use Rattle.plain_dbscan.proofs.Members.{place_of, member_at}
use Rattle.chain_growth.specs.Hops.{IsUnion, AreSeeds}
use Rattle.chain_growth.specs.inside.Lists.{is_in, In, Distinct, missing, flat, with_one}
use Rattle.chain_growth.specs.inside.Work.{AreClasses, IsCounted, IsDone, IsNext, IsGroup}
use Rattle.chain_growth.proofs.Lists.{in_member, member_in, in_front, in_back, in_itself, missing_nil, flat_push}
use Rattle.chain_growth.proofs.Entering.{one_new}
use Rattle.chain_growth.proofs.Work.{counted_none}
use Rattle.chain_growth.proofs.Answer.{closed_flat, classes_push, next_of, split_early, split_all, drop_past, counted_any, counted_then_in, before_there}
use Rattle.vec_record.specs.Held.{Held}
use Rattle.count_book.specs.Counted.{Counted}
use Rattle.chain_growth.proofs.Views.{listed_in, in_listed}
use Rattle.split_expand.specs.Split.{AreSeeded, AreSplit, AreGroupsOf, AreAmong, AreCoresIn, IsPaid, IsBounded}
use Rattle.split_expand.specs.declared.growing.Growth.{Growth}
use Rattle.split_expand.specs.inside.Growing.{IsAlike, IsSound, IsAsked, GoesOn, IsBegun, IsPaidFor, IsWhole, IsLast, HasSame, IsSetOf, AreThere, IsBegin}
use Rattle.split_expand.proofs.Parted.{AreSome, none_some, some_push, groups_of, split_of}
use Rattle.split_expand.proofs.Paid.{union_in, seeds_in, paid_of, bounded_of}

module _ (core : ℕ → Bool) (near : ℕ → ℕ → Bool) (cost : ℕ → ℕ) (former seeds : List ℕ) where
  pub record IsKnown (g : Growth) (groups : List (List ℕ)) (many k old now : ℕ) : Type 0 where
    pub sound : IsSound g
    pub members_are : HasSame former g.members
    pub seeds_are : IsSetOf seeds g.seeds.keys
    pub rising : IsNonDecreasing g.seeds.keys
    pub long : many ≡ length g.seeds.keys
    pub asked : IsAsked g
    pub is : g.order.keys ≡ flat groups
    pub some : AreSome groups
    pub before : (j : ℕ) → j < k → In g.order.keys (get_or g.seeds.keys j 0)
    pub classes : AreSeeded core near former seeds → AreClasses core near g.seeds.keys groups
    pub counted : AreSeeded core near former seeds → IsCounted core near cost g.members g.seeds.keys (λ a. In g.order.keys a) old now

  pub known_start : (starts : List ℕ) (g : Growth) (n : ℕ) → AreAmong former seeds → IsSetOf seeds starts → IsNonDecreasing starts → IsBegin former starts g → IsKnown g [] (length starts) 0 n n
  known_start starts g n among set up h = record {
    sound = record {
      seeds_within = λ x m.
          let there : In starts x = subst (λ (xs : List ℕ). In xs x) h.same m in
          (here x).1 (among x ((set.same x).0 there));
      seeds_once = subst Distinct (sym h.same) set.once;
      once = subst Distinct (sym h.none) tt;
      within = λ x m. let bad : In [] x = subst (λ (xs : List ℕ). In xs x) h.none m in absurd (cc);
      unfound = h.unfound ∙ sym (ap (λ (xs : List ℕ). missing xs g.order.keys) h.same ∙ ap (missing starts) h.none ∙ missing_nil starts);
    };
    members_are = here;
    seeds_are = subst (IsSetOf seeds) (sym h.same) set;
    rising = subst IsNonDecreasing (sym h.same) up;
    long = ap length (sym h.same);
    asked = h.asked ∙ sym (ap length h.none);
    is = h.none;
    some = none_some;
    before = λ j lt. absurd (omega arith);
    classes = λ _. tt;
    counted = λ _. counted_none core near cost g.members g.seeds.keys (λ a. In g.order.keys a) n;
  }
    where
      here : HasSame former g.members
      here = subst (HasSame former) (sym h.members_are) (λ q. (in_listed former q, listed_in former q))

  module _ (alike : IsAlike near) (g : Growth) (groups : List (List ℕ)) (many k old now : ℕ) (h : IsKnown g groups many k old now) where
    union : AreSeeded core near former seeds → IsUnion core near (In g.members)
    union f = union_in core near former seeds g.members g.seeds.keys h.members_are h.seeds_are f

    each : AreSeeded core near former seeds → AreSeeds core near (In g.members) (In g.seeds.keys)
    each f = seeds_in core near former seeds g.members g.seeds.keys h.members_are h.seeds_are f

    once : Distinct (flat groups)
    once = subst Distinct h.is h.sound.once

    pub groups_now : AreGroupsOf former groups
    groups_now = groups_of former g.members groups h.members_are (λ x m. h.sound.within x (subst (λ (xs : List ℕ). In xs x) (sym h.is) m)) h.some once

    pub paid_now : IsPaid core near cost former seeds old now
    paid_now f = paid_of core near cost former seeds g.members g.seeds.keys h.members_are h.seeds_are (λ a. In g.order.keys a) old now (h.counted f)

    pub bounded_now : IsBounded core near cost former seeds old now
    bounded_now f = bounded_of core near cost former seeds g.members g.seeds.keys h.members_are h.seeds_are (λ a. In g.order.keys a) old now (h.counted f)

    -- all seeds are in
    pub split_now : many ≤ k → AreSeeded core near former seeds → AreSplit core near former groups
    split_now end f = split_of core near alike former g.members g.seeds.keys groups h.members_are
        (split_all core near g.seeds.keys alike g.members (union f) (each f) groups (h.classes f) once (λ q m.
        let p = place_of g.seeds.keys q (member_in g.seeds.keys q m) in
        subst (λ (xs : List ℕ). In xs q) h.is (subst (λ (x : ℕ). In g.order.keys x) p.1.is (h.before p.0 (omega (arith, p.1.below, end, h.long))))))

    -- the seed is in already
    pub known_there : In g.order.keys (get_or g.seeds.keys k 0) → IsKnown g groups many (k + 1) old now
    known_there here = record {
      sound = h.sound;
      members_are = h.members_are;
      seeds_are = h.seeds_are;
      rising = h.rising;
      long = h.long;
      asked = h.asked;
      is = h.is;
      some = h.some;
      before = before_there g.seeds.keys g.order.keys k here h.before;
      classes = h.classes;
      counted = h.counted;
    }

    pub seed_in : (s : ℕ) → get_or g.seeds.keys k 0 ≡ s → k < many → In g.seeds.keys s
    seed_in s at lt =
        let lt' : k < length g.seeds.keys = omega (arith, lt, h.long) in
        subst (λ (x : ℕ). In g.seeds.keys x) at (in_member g.seeds.keys (get_or g.seeds.keys k 0) (member_at g.seeds.keys k lt'))

    -- the seed came in, and its class grows
    module _ (s : ℕ) (at : get_or g.seeds.keys k 0 ≡ s) (lt : k < many) (out : is_in g.order.keys s ≡ false)
        (e : Growth) (m : e.members ≡ g.members) (t : e.seeds ≡ g.seeds) (o : e.order.keys ≡ with_one g.order.keys s) (i : e.asked ≡ g.asked) where
      ms : e.members ≡ g.members
      ms = m

      ts : e.seeds.keys ≡ g.seeds.keys
      ts = ap (λ x. x.keys) t

      next : AreSeeded core near former seeds → IsNext core near g.seeds.keys g.order.keys s
      next f =
          let closed : IsDone core near g.order.keys = subst (λ (xs : List ℕ). IsDone core near xs) (sym h.is) (closed_flat core near g.seeds.keys groups (h.classes f)) in
          let lt' : k < length g.seeds.keys = omega (arith, lt, h.long) in
          subst (λ (x : ℕ). IsNext core near g.seeds.keys g.order.keys x) at (next_of core near g.seeds.keys g.order.keys k closed h.rising lt' h.before (ap (is_in g.order.keys) at ∙ out))

      is_one : e.order.keys ≡ g.order.keys ++ s ∷ []
      is_one = o ∙ one_new g.order.keys s out

      pub there_in : (records : Held) (counts : Counted) → AreCoresIn records counts former → AreThere records e.members
      there_in records counts f a n = f.there a ((h.members_are a).0 (subst (λ (xs : List ℕ). In xs a) ms (listed_in e.members a n)))

      pub entered_few : e.asked ≤ length e.order.keys
      entered_few = omega (arith, i, h.asked, ap length is_one, length-append g.order.keys (s ∷ []))

      pub begins_in : (c : Growth) → GoesOn e c → g.asked ≤ length c.order.keys
      begins_in c on = omega (arith, h.asked, ap length is_one, length-append g.order.keys (s ∷ []), ap length on.order.is, length-append e.order.keys on.order.added)

      abbrev begun : AreSeeded core near former seeds → IsBegun core near e
      begun f = record {
        union = subst (λ (xs : List ℕ). IsUnion core near (In xs)) (sym ms) (union f);
        seeds = subst (λ (xs : List ℕ). AreSeeds core near (In xs) (In e.seeds.keys)) (sym ms) (subst (λ (ks : List ℕ). AreSeeds core near (In g.members) (In ks)) (sym ts) (each f));
        done = g.order.keys;
        seed = s;
        is = is_one;
        at = i ∙ h.asked;
        next = subst (λ (ks : List ℕ). IsNext core near ks g.order.keys s) (sym ts) (next f);
      }

      module _ (new : ℕ) (p : IsPaidFor core near cost e now new) where
        then : AreSeeded core near former seeds → IsCounted core near cost g.members g.seeds.keys (Joined core near s) now new
        then f =
            subst (λ (xs : List ℕ). IsCounted core near cost xs g.seeds.keys (Joined core near s) now new) ms
            (subst (λ (ks : List ℕ). IsCounted core near cost e.members ks (Joined core near s) now new) ts (p (begun f)))

        any : AreSeeded core near former seeds → IsCounted core near cost g.members g.seeds.keys (λ (x : ℕ). Unit {0}) old new
        any f = counted_any core near alike cost g.members g.seeds.keys (union f) (each f) g.order.keys s (next f) old now new (h.counted f) (then f)

        pub paid_then : IsPaid core near cost former seeds old new
        paid_then f = paid_of core near cost former seeds g.members g.seeds.keys h.members_are h.seeds_are (λ (x : ℕ). Unit {0}) old new (any f)

        pub bounded_then : IsBounded core near cost former seeds old new
        bounded_then f = bounded_of core near cost former seeds g.members g.seeds.keys h.members_are h.seeds_are (λ (x : ℕ). Unit {0}) old new (any f)

        -- it is left off
        pub split_then : IsLast core near e → AreSeeded core near former seeds → AreSplit core near former groups
        split_then last f =
            let one : (q : ℕ) → In g.seeds.keys q → is_in (flat groups) q ≡ false → Joined core near s q = λ q n r.
            last (begun f) q (subst (λ (ks : List ℕ). In ks q) (sym ts) n) (ap (λ (xs : List ℕ). is_in xs q) h.is ∙ r)
            in
            split_of core near alike former g.members g.seeds.keys groups h.members_are (split_early core near g.seeds.keys alike g.members (union f) (each f) groups (h.classes f) once s one)

        -- it is whole
        module _ (c : Growth) (on : GoesOn e c) (sound : IsSound c) (all : IsAsked c) (whole : IsWhole core near e c) (group : List ℕ) (cut : group ≡ drop g.asked c.order.keys) where
          mc : c.members ≡ g.members
          mc = on.members ∙ ms

          tc : c.seeds.keys ≡ g.seeds.keys
          tc = on.seeds ∙ ts

          long_on : c.order.keys ≡ g.order.keys ++ (s ∷ on.order.added)
          long_on = on.order.is ∙ ap (λ (xs : List ℕ). xs ++ on.order.added) is_one ∙ append_assoc g.order.keys (s ∷ []) on.order.added

          group_is : group ≡ s ∷ on.order.added
          group_is = cut ∙ ap (drop g.asked) long_on ∙ drop_past g.order.keys (s ∷ on.order.added) g.asked h.asked

          here : In c.order.keys s
          here = subst (λ (xs : List ℕ). In xs s) (sym long_on) (in_back g.order.keys (s ∷ on.order.added) s (in_itself s on.order.added))

          stay : (x : ℕ) → In g.order.keys x → In c.order.keys x
          stay x n = subst (λ (xs : List ℕ). In xs x) (sym long_on) (in_front g.order.keys (s ∷ on.order.added) x n)

          w : (f : AreSeeded core near former seeds) → IsGroup core near s g.order.keys c.order.keys
          w f = whole (begun f)

          same_group : (f : AreSeeded core near former seeds) → (w f).group ≡ group
          same_group f = sym (cut ∙ ap (drop g.asked) (w f).is ∙ drop_past g.order.keys (w f).group g.asked h.asked)

          pub known_more : IsKnown c (groups ++ group ∷ []) many (k + 1) old new
          known_more = record {
            sound = sound;
            members_are = subst (HasSame former) (sym mc) h.members_are;
            seeds_are = subst (IsSetOf seeds) (sym tc) h.seeds_are;
            rising = subst IsNonDecreasing (sym tc) h.rising;
            long = h.long ∙ ap length (sym tc);
            asked = all;
            is = long_on ∙ ap (λ (xs : List ℕ). xs ++ (s ∷ on.order.added)) h.is ∙ ap (λ (xs : List ℕ). flat groups ++ xs) (sym group_is) ∙ sym (flat_push groups group);
            some = some_push groups group h.some (subst (λ (xs : List ℕ). 0 < length xs) (sym group_is) (omega arith));
            before = before_there c.seeds.keys c.order.keys k
                (subst (λ (x : ℕ). In c.order.keys x) (sym (ap (λ (xs : List ℕ). get_or xs k 0) tc ∙ at)) here)
                (λ j l. subst (λ (ks : List ℕ). In c.order.keys (get_or ks j 0)) (sym tc) (stay _ (h.before j l)));
            classes = λ f.
                let n = next f in
                subst (λ (ks : List ℕ). AreClasses core near ks (groups ++ group ∷ [])) (sym tc)
                (subst (λ (x : List ℕ). AreClasses core near g.seeds.keys (groups ++ x ∷ [])) (same_group f) (classes_push core near g.seeds.keys groups (w f).group s (h.classes f) n.seed (w f).is_class));
            counted = λ f.
                let in_it = counted_then_in core near alike cost g.members g.seeds.keys (union f) (each f) g.order.keys s (next f) old now new (h.counted f) (then f) c.order.keys (w f) in
                subst (λ (xs : List ℕ). IsCounted core near cost xs c.seeds.keys (λ a. In c.order.keys a) old new) (sym mc)
                (subst (λ (ks : List ℕ). IsCounted core near cost g.members ks (λ a. In c.order.keys a) old new) (sym tc) in_it);
          }
