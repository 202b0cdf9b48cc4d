-- After an insertion the joined labels are those that are due.
use Rattle.std.proofs.Common.{◌≡◌, ℕ, ◌≤◌, Bool, true, false, List, get_or, IsTrue, sym, ap, ◌∙◌, None, Some, inl, inr, slice_get, if◌then◌else◌, arith}
use lib.Dec.{T}
use Rattle.std.specs.Ordering.{nat_cmp}
use Rattle.std.specs.FinMap as map
use Rattle.std.specs.FinMap.Entries.{is_sorted}
use Rattle.std.proofs.lemmas.Bool.{cases_Bool}
use Rattle.vec_record.specs.Held.{Rows}
use Rattle.plain_dbscan.specs.Chains.{Joined, IsLabel}
use Rattle.plain_dbscan.specs.Change.{HasNoNew}
use Rattle.plain_dbscan.specs.Marks.{Density, is_core, is_near, cluster_of}
use Rattle.plain_dbscan.proofs.Chains.{joined_on, joined_back, joined_end}
use Rattle.plain_dbscan.proofs.Classes.{label_larger}
use Rattle.plain_dbscan.proofs.CoresOf.{cluster_is, is_cluster}
use Rattle.label_book.specs.Labels.{Labels, HasLeast, IsMember}
use Rattle.label_book.proofs.Views.{some_and}
use Rattle.update_seed.specs.declared.groups.InGroup.{InGroup}
use Rattle.update_seed.specs.Books.{AreLabelsDue, label_due}
use Rattle.update_seed.specs.Groups.{AreGathered, StoodBefore, IsInGroup, AreClusters}
use Rattle.update_seed.proofs.Lists.{here_in}
use Rattle.insert_case.specs.Joining.{IsLabelOf, IsInSome, AreAllJoined}
use Rattle.insert_case.proofs.Joined.{some_or, in_group_of, label_in}

module _ (d : Density) (before after : Rows) (old new : Labels) (cores : List ℕ) (groups : List InGroup) (alike : (a b : ℕ) → is_near d (map.entries after) a b ≡ is_near d (map.entries after) b a)
    (stood : StoodBefore d before after old cores) (gathered : AreGathered old cores groups) (clusters : AreClusters d (map.entries after) old groups) (least : HasLeast old) (joined : AreAllJoined old groups new) where
  abbrev core : ℕ → Bool
  core = is_core d (map.entries before)

  abbrev near : ℕ → ℕ → Bool
  near = is_near d (map.entries before)

  abbrev core' : ℕ → Bool
  core' = is_core d (map.entries after)

  abbrev near' : ℕ → ℕ → Bool
  near' = is_near d (map.entries after)

  sorted : T (is_sorted nat_cmp (map.entries before))
  sorted = map.entries_sorted before

  sorted' : T (is_sorted nat_cmp (map.entries after))
  sorted' = map.entries_sorted after

  -- a new core of a group
  pub new_core : (j : ℕ) (g : InGroup) → slice_get groups j ≡ Some g → (n : ℕ) × IsMember g.new_cores n
  new_core j g at = (get_or g.new_cores 0 0, here_in g.new_cores 0 (gathered.some j g at))

  -- what is in a group is a core, and joined with all that is in the group
  module _ (j : ℕ) (g : InGroup) (at : slice_get groups j ≡ Some g) (a : ℕ) (i : IsInGroup old g a) where
    first : ℕ
    first = (new_core j g at).0

    from_first : (c : ℕ) → IsInGroup old g c → Joined core' near' first c
    unfolding first new_core
    from_first c = (clusters j g at first c (new_core j g at).1).1

    to_all : (c : ℕ) → IsInGroup old g c → Joined core' near' a c
    to_all c k = joined_on core' near' a first c (joined_back core' near' alike first a (from_first a i)) (from_first c k)

    pub only_all : (c : ℕ) → Joined core' near' a c → IsInGroup old g c
    unfolding first new_core
    only_all c k = (clusters j g at first c (new_core j g at).1).0 (joined_on core' near' first a c (from_first a i) k)

    pub is_core_here : IsTrue (core' a)
    is_core_here = joined_end core' near' first a (from_first a i)

    low : (l : ℕ) → IsLabelOf g l → (c : ℕ) → IsInGroup old g c → l ≤ c
    low l is c (inl m) = is.second c m
    low l is c (inr f) =
        let up = is.first f.0 f.1.0 in
        let down = (least c f.0 f.1.1).0 in
        omega (arith, up, down)

    has_label : (l : ℕ) → IsLabelOf g l → IsLabel core' near' a l
    has_label l is = record {
      joined = to_all l (label_in old groups cores gathered j g l at is);
      least = λ c k. low l is c (only_all c k);
    }

    pub cluster_here : (l : ℕ) → IsLabelOf g l → cluster_of d (map.entries after) a ≡ l
    cluster_here l is = is_cluster d (map.entries after) sorted' a l (has_label l is)

    pub some_label : (l : ℕ) × IsLabelOf g l
    some_label = let l = some_and (map.get new a) (IsLabelOf g) (joined.label j a g at i) in (l.0, l.2)

    in_group_due : map.get new a ≡ label_due d (map.entries after) a
    in_group_due =
        let l = some_and (map.get new a) (IsLabelOf g) (joined.label j a g at i) in
        l.1
        ∙ ap (λ n. Some n) (sym (cluster_here l.0 l.2))
        ∙ sym (ap (λ b. if b then Some (cluster_of d (map.entries after) a) else None) is_core_here)

  -- a new core is in a group
  pub grouped : (a : ℕ) → IsTrue (core' a) → core a ≡ false → IsInSome old groups a
  grouped a is was = in_group_of old groups a ((gathered.cores_are a).0 ((stood.new a).1 (is, was)))

  -- what is in no group
  module _ (a : ℕ) (out : IsInSome old groups a → ⊥) where
    kept : map.get new a ≡ label_due d (map.entries before) a
    kept = joined.others a out ∙ stood.labels_due a

    no_new : IsTrue (core' a) → HasNoNew core core' near' a
    no_new is c k = elim (cases_Bool (core c)) [
      | inl was ↦ was
      | inr not ↦
          let s = grouped c (joined_end core' near' a c k) not in
          absurd (out (s.0, (s.1.0, (s.1.1.0, only_all s.0 s.1.0 s.1.1.0 c s.1.1.1 a (joined_back core' near' alike a c k)))))
    ]

    stays : IsTrue (core' a) → IsTrue (core a)
    stays is = elim (cases_Bool (core a)) [ inl was ↦ was | inr not ↦ absurd (out (grouped a is not)) ]

    same_label : IsTrue (core' a) → cluster_of d (map.entries after) a ≡ cluster_of d (map.entries before) a
    same_label is =
        is_cluster d (map.entries after) sorted' a (cluster_of d (map.entries before) a)
        (label_larger core near core' near' stood.within a (cluster_of d (map.entries before) a) (no_new is) (cluster_is d (map.entries before) sorted a (stays is)))

    out_due : map.get new a ≡ label_due d (map.entries after) a
    out_due = elim (cases_Bool (core' a)) [
      | inl is ↦
          kept
          ∙ ap (λ b. if b then Some (cluster_of d (map.entries before) a) else None) (stays is)
          ∙ ap (λ n. Some n) (sym (same_label is))
          ∙ sym (ap (λ b. if b then Some (cluster_of d (map.entries after) a) else None) is)
      | inr not ↦
          kept
          ∙ ap (λ b. if b then Some (cluster_of d (map.entries before) a) else None) (was_not not)
          ∙ sym (ap (λ b. if b then Some (cluster_of d (map.entries after) a) else None) not)
    ]
      where
        was_not : core' a ≡ false → core a ≡ false
        was_not not = elim (cases_Bool (core a)) [
          | inl was ↦ let is : true ≡ false = sym (stood.within.cores a was) ∙ not in absurd (cc)
          | inr off ↦ off
        ]

  pub labels_due : AreLabelsDue d (map.entries after) new
  labels_due a = elim (some_or old groups a) [
    | inl s ↦ in_group_due s.0 s.1.0 s.1.1.0 a s.1.1.1
    | inr out ↦ out_due a out
  ]
