-- The groups are the clusters that have a new core.
use Rattle.std.proofs.Common.{◌≡◌, ℕ, Bool, false, List, nat_le, IsTrue, refl, sym, ap, subst, ◌∙◌, None, Some, inl, inr, if◌then◌else◌, arith}
use lib.Dec.{T}
use Rattle.std.specs.declared.option.Option.{Option}
use Rattle.std.specs.Option.{is_some}
use Rattle.std.specs.Ordering.{nat_cmp}
use Rattle.std.specs.FinMap as map
use Rattle.std.specs.FinMap.Entries.{is_sorted, find as value_at}
use Rattle.std.proofs.lemmas.Bool.{cases_Bool}
use Rattle.vec_record.specs.Held.{Held, Rows, HaveWidth}
use Rattle.vec_record.specs.Vectors.{IsVector}
use Rattle.plain_dbscan.specs.Chains.{Joined, IsLabel, is_joined}
use Rattle.plain_dbscan.specs.Marks.{Density, density, Entries, within, numbers_of, is_near, near_of, is_core, cores_of, cluster_of}
use Rattle.plain_dbscan.proofs.Chains.{joined_itself, joined_near, joined_on, joined_back, joined_start, joined_from_test, test_from_joined}
use Rattle.plain_dbscan.proofs.Classes.{joined_larger, joined_in}
use Rattle.plain_dbscan.proofs.CoresOf.{are_cores, cluster_is, is_cluster, among}
use Rattle.plain_dbscan.proofs.Lawful.{label_itself}
use Rattle.label_book.specs.Labels.{Labels, IsMember, AreFree}
use Rattle.label_book.proofs.Views.{same_value, no_value, known}
use Rattle.update_seed.specs.declared.groups.InGroup.{InGroup}
use Rattle.update_seed.specs.Books.{label_due, near_in}
use Rattle.update_seed.specs.Groups.{StoodBefore, IsInGroup, IsCluster, AreClusters, AreMerged}
use Rattle.update_seed.specs.inside.Ties.{Same, IsTwoWay, Finer, AreLinked, IsClassOf, AreClasses}
use Rattle.update_seed.proofs.Lists.{in_filter, to_filter, from_member}
use Rattle.update_seed.proofs.Classes.{head_at, core_of}
use Rattle.update_seed.proofs.Linked.{AreNear}
use Rattle.update_seed.proofs.Tied.{is_there, same_back, same_on}

-- near goes both ways
near_both : (dist : List ℕ → List ℕ → ℕ) (eps minpts w : ℕ) → ((u v : List ℕ) → IsVector w u → IsVector w v → dist u v ≡ dist v u) → (o p : Option (List ℕ))
    → ((v : List ℕ) → o ≡ Some v → IsVector w v) → ((v : List ℕ) → p ≡ Some v → IsVector w v) → within (density dist eps minpts) o p ≡ within (density dist eps minpts) p o
near_both dist eps minpts w back None None f g = refl
near_both dist eps minpts w back None (Some v) f g = refl
near_both dist eps minpts w back (Some u) None f g = refl
near_both dist eps minpts w back (Some u) (Some v) f g = ap (λ n. nat_le n eps) (back u v (f u refl) (g v refl))

pub near_alike : (dist : List ℕ → List ℕ → ℕ) (eps minpts w : ℕ) (rows : Rows) → HaveWidth w rows → ((u v : List ℕ) → IsVector w u → IsVector w v → dist u v ≡ dist v u)
    → (a b : ℕ) → is_near (density dist eps minpts) (map.entries rows) a b ≡ is_near (density dist eps minpts) (map.entries rows) b a
near_alike dist eps minpts w rows wide back a b =
    near_both dist eps minpts w back (value_at nat_cmp a (map.entries rows)) (value_at nat_cmp b (map.entries rows))
    (λ v e. wide a v (map.get-entries rows a ∙ e)) (λ v e. wide b v (map.get-entries rows b ∙ e))

is_within : (d : Density) (o p : Option (List ℕ)) → IsTrue (within d o p) → IsTrue (is_some p)
is_within d None p h = absurd (cc)
is_within d (Some u) None h = absurd (cc)
is_within d (Some u) (Some v) h = refl

-- what a query finds is what is near
pub found_near : (d : Density) (es : Entries) (core : ℕ) (found : List ℕ) → found ≡ near_of d es core → AreNear (is_near d es) core found
found_near d es core found e q = (
  (λ i. (in_filter (is_near d es core) (numbers_of es) q (subst (λ xs. IsMember xs q) e i)).1),
  (λ h.
      let there = among es q (is_within d (value_at nat_cmp core es) (value_at nat_cmp q es) h) in
      subst (λ xs. IsMember xs q) (sym e) (to_filter (is_near d es core) (numbers_of es) q (from_member (numbers_of es) q there) h)),
)

due_core : (d : Density) (es : Entries) (a : ℕ) (o : Option ℕ) → o ≡ label_due d es a → IsTrue (is_core d es a) → o ≡ Some (cluster_of d es a)
due_core d es a o due h = due ∙ ap (λ b. if b then Some (cluster_of d es a) else None) h

due_other : (d : Density) (es : Entries) (a : ℕ) (o : Option ℕ) → o ≡ label_due d es a → is_core d es a ≡ false → o ≡ None
due_other d es a o due h = due ∙ ap (λ b. if b then Some (cluster_of d es a) else None) h

module _ (d : Density) (before after : Rows) (labels m : Labels) (cores : List ℕ) (stood : StoodBefore d before after labels cores) (linked : AreLinked (is_near d (map.entries after)) labels cores cores m)
    (alike : (a b : ℕ) → is_near d (map.entries after) a b ≡ is_near d (map.entries after) b a) where
  abbrev core : ℕ → Bool
  core = is_core d (map.entries before)

  abbrev near : ℕ → ℕ → Bool
  near = is_near d (map.entries before)

  abbrev core' : ℕ → Bool
  core' = is_core d (map.entries after)

  abbrev near' : ℕ → ℕ → Bool
  near' = is_near d (map.entries after)

  sorted : T (is_sorted nat_cmp (map.entries before))
  sorted = map.entries_sorted before

  was_core : (a l : ℕ) → map.get labels a ≡ Some l → IsTrue (core a)
  was_core a l e = elim (cases_Bool (core a)) [
    | inl h ↦ h
    | inr h ↦ absurd (no_value (due_other d (map.entries before) a (map.get labels a) (stood.labels_due a) h) e)
  ]

  had : (a : ℕ) → IsTrue (core a) → map.get labels a ≡ Some (cluster_of d (map.entries before) a)
  had a h = due_core d (map.entries before) a (map.get labels a) (stood.labels_due a) h

  label_is : (a l : ℕ) → map.get labels a ≡ Some l → IsLabel core near a l
  label_is a l e =
      let h = was_core a l e in
      subst (IsLabel core near a) (same_value (had a h) e) (cluster_is d (map.entries before) sorted a h)

  is_label : (a l : ℕ) → IsLabel core near a l → map.get labels a ≡ Some l
  is_label a l h = had a (joined_start core near a l h.joined) ∙ ap (λ n. Some n) (is_cluster d (map.entries before) sorted a l h)

  own_label : (a l : ℕ) → map.get labels a ≡ Some l → map.get labels l ≡ Some l
  own_label a l e = is_label l l (label_itself core near a l (label_is a l e))

  still : (a l : ℕ) → map.get labels a ≡ Some l → IsTrue (core' a)
  still a l e = stood.within.cores a (was_core a l e)

  -- near ones had one label
  one_label : (a b k l : ℕ) → map.get labels a ≡ Some k → map.get labels b ≡ Some l → IsTrue (near' a b) → k ≡ l
  one_label a b k l ea eb n =
      let ha = was_core a k ea in
      let hb = was_core b l eb in
      let ab = joined_near core near a b ha hb (stood.within.agree a b ha hb ∙ n) in
      let ba = joined_near core near b a hb ha (stood.within.agree b a hb ha ∙ (alike b a ∙ n)) in
      let la = label_is a k ea in
      let lb = label_is b l eb in
      let up = la.least l (joined_on core near a b l ab lb.joined) in
      let down = lb.least k (joined_on core near b a k ba la.joined) in
      omega (arith, up, down)

  to_label : (a l : ℕ) → map.get labels a ≡ Some l → Joined core' near' a l
  to_label a l e = joined_larger core near core' near' stood.within a l (label_is a l e).joined

  -- what is tied together is joined
  abbrev e : ℕ → ℕ → Bool
  e = is_joined core' near' (cores_of d (map.entries after))

  tested : (a b : ℕ) → Joined core' near' a b → IsTrue (e a b)
  tested = test_from_joined core' near' (cores_of d (map.entries after)) (are_cores d (map.entries after))

  holds : (a b : ℕ) → IsTrue (e a b) → Joined core' near' a b
  holds = joined_from_test core' near' (cores_of d (map.entries after)) (are_cores d (map.entries after))

  two_way : IsTwoWay e
  two_way = record {
    back = λ a b h. tested b a (joined_back core' near' alike a b (holds a b h));
    on = λ a b c h k. tested a c (joined_on core' near' a b c (holds a b h) (holds b c k));
  }

  new_core : (n : ℕ) → IsMember cores n → IsTrue (core' n)
  new_core n i = ((stood.new n).0 i).0

  fine : Finer m e
  fine = linked.finest e two_way (λ n i. tested n n (joined_itself core' near' n (new_core n i)))
      (λ n b l i h k. tested n l (joined_on core' near' n b l (joined_near core' near' n b (new_core n i) (still b l k) h) (to_label b l k)))
      (λ n b i h j. tested n b (joined_near core' near' n b (new_core n i) (new_core b j) h))

  joined : (a b : ℕ) → Same m a b → Joined core' near' a b
  joined a b s = holds a b (fine a b s)

  module _ (head : ℕ) (g : InGroup) (class : IsClassOf labels m head g) (inside : (n : ℕ) → IsMember g.new_cores n → IsMember cores n) where
    from_group : (n a : ℕ) → IsMember g.new_cores n → IsInGroup labels g a → Joined core' near' n a
    from_group n a i (inl j) = joined n a (same_on m n head a (same_back m head n ((class.new n).0 i).0) ((class.new a).0 j).0)
    from_group n a i (inr h) =
        let l = h.0 in
        let to = joined n l (same_on m n head l (same_back m head n ((class.new n).0 i).0) ((class.old l).0 h.1.0).0) in
        joined_on core' near' n l a to (joined_back core' near' alike a l (to_label a l h.1.1))

    -- a core without label is new
    is_new : (b : ℕ) → IsTrue (core' b) → map.get labels b ≡ None → IsMember cores b
    is_new b h off = elim (cases_Bool (core b)) [
      | inl was ↦ absurd (no_value off (had b was))
      | inr not ↦ (stood.new b).1 (h, not)
    ]

    closed : (a b : ℕ) → IsInGroup labels g a → IsTrue (core' b) → IsTrue (near' a b) → IsInGroup labels g b
    closed a b (inl i) h n = elim (known (map.get labels b)) [
      | inl off ↦
          let s = linked.core a b (inside a i) n (is_new b h off) in
          inl ((class.new b).1 (same_on m head a b ((class.new a).0 i).0 s, off))
      | inr l ↦
          let s = linked.label a b l.0 (inside a i) n l.1 in
          inr (l.0, ((class.old l.0).1 (same_on m head a l.0 ((class.new a).0 i).0 s, is_there (own_label b l.0 l.1)), l.1))
    ]
    closed a b (inr f) h n = elim (known (map.get labels b)) [
      | inl off ↦
          let s = linked.label b a f.0 (is_new b h off) (alike b a ∙ n) f.1.1 in
          inl ((class.new b).1 (same_on m head f.0 b ((class.old f.0).0 f.1.0).0 (same_back m b f.0 s), off))
      | inr l ↦ inr (f.0, (f.1.0, l.1 ∙ ap (λ k. Some k) (sym (one_label a b f.0 l.0 f.1.1 l.1 n))))
    ]

    pub group_is_cluster : IsCluster d (map.entries after) labels g
    group_is_cluster n a i = (
      (λ j. joined_in core' near' (IsInGroup labels g) closed n a (inl i) j),
      from_group n a i,
    )

  module _ (groups : List InGroup) (free : AreFree labels cores) (are : AreClasses labels m cores groups) where
    pub all_clusters : AreClusters d (map.entries after) labels groups
    all_clusters j g at =
        let h = head_at labels m cores groups free linked.keys linked.there are j g at in
        group_is_cluster h.0 g h.1.1 (λ n i. core_of labels m cores groups free linked.keys linked.there are j g n at i)

same_within : (dist : List ℕ → List ℕ → ℕ) (eps m n : ℕ) (o p : Option (List ℕ)) → within (density dist eps m) o p ≡ within (density dist eps n) o p
same_within dist eps m n None p = refl
same_within dist eps m n (Some u) None = refl
same_within dist eps m n (Some u) (Some v) = refl

-- how many make a core has nothing to do with what is near
linked_by : (near beside : ℕ → ℕ → Bool) (labels m : Labels) (cores : List ℕ) → ((a b : ℕ) → near a b ≡ beside a b) → AreLinked near labels cores cores m → AreLinked beside labels cores cores m
linked_by near beside labels m cores same l = record {
  there = l.there;
  keys = l.keys;
  label = λ n b k i h e. l.label n b k i (same n b ∙ h) e;
  core = λ n b i h j. l.core n b i (same n b ∙ h) j;
  finest = λ e two itself by_label by_core.
      l.finest e two itself (λ n b k i h. by_label n b k i (sym (same n b) ∙ h)) (λ n b i h. by_core n b i (sym (same n b) ∙ h));
}

pub all_merged : (dist : List ℕ → List ℕ → ℕ) (eps : ℕ) (records : Held) (labels m : Labels) (cores : List ℕ) (groups : List InGroup) → HaveWidth records.width records.vectors
    → ((u v : List ℕ) → IsVector records.width u → IsVector records.width v → dist u v ≡ dist v u) → AreLinked (near_in dist eps records) labels cores cores m → AreFree labels cores
    → AreClasses labels m cores groups → AreMerged dist eps records labels cores groups
all_merged dist eps records labels m cores groups wide back linked free are minpts before stood =
    let es = map.entries records.vectors in
    let linked' = linked_by (near_in dist eps records) (is_near (density dist eps minpts) es) labels m cores
    (λ a b. same_within dist eps 1 minpts (value_at nat_cmp a es) (value_at nat_cmp b es)) linked in
    all_clusters (density dist eps minpts) before records.vectors labels m cores stood linked' (near_alike dist eps minpts records.width records.vectors wide back) groups free are
