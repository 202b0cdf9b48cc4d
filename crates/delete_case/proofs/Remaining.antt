-- What is left of a cluster is a union of classes, and each class has a seed. Labels after the parting are due.
use Rattle.std.proofs.Common.{◌≡◌, ◌↔◌, ◌⊎◌, ℕ, zero, suc, Bool, false, List, [], ◌∷◌, IsTrue, refl, sym, ap, ◌∙◌, None, Some, inl, inr, if◌then◌else◌, slice_get}
use lib.Dec.{T}
use Rattle.std.specs.Ordering.{nat_cmp}
use Rattle.std.specs.FinMap as map
use Rattle.std.specs.FinMap.Entries.{is_sorted}
use Rattle.std.proofs.lemmas.Bool.{cases_Bool, cases_eq}
use Rattle.plain_dbscan.specs.Chains.{Joined}
use Rattle.plain_dbscan.specs.Change.{IsWithin, HasNoNew}
use Rattle.plain_dbscan.specs.Marks.{Density, Entries, is_near, is_core, cluster_of}
use Rattle.plain_dbscan.proofs.Chains.{joined_back, joined_end, joined_near}
use Rattle.plain_dbscan.proofs.Classes.{joined_larger, seed_of}
use Rattle.plain_dbscan.proofs.CoresOf.{is_cluster}
use Rattle.label_book.specs.Labels.{Labels, IsMember}
use Rattle.label_book.specs.Parting.{IsGrouped}
use Rattle.label_book.proofs.Views.{same_value, no_value, some_and}
use Rattle.label_book.proofs.Parted.{grouped_or}
use Rattle.update_seed.specs.declared.former.Former.{Former}
use Rattle.update_seed.specs.Books.{AreLabelsDue}
use Rattle.chain_growth.specs.Hops.{IsUnion}
use Rattle.delete_case.specs.Parting.{Remains, IsSeeded, AreClasses, IsLeft, IsCut, AreAllParted}
use Rattle.delete_case.proofs.Labelled.{due_core, due_other, was_core, was_cluster, one_class, one_label}

-- a lost core of the cluster of this label
pub record IsLostIn (core core' : ℕ → Bool) (labels : Labels) (l b : ℕ) : Type 0 where
  pub was : IsTrue (core b)
  pub out : core' b ≡ false
  pub label : map.get labels b ≡ Some l

-- a former cluster by the cores before and after
pub record IsFormerOf (core core' : ℕ → Bool) (near : ℕ → ℕ → Bool) (labels : Labels) (f : Former) : Type 0 where
  pub one : ℕ
  pub lost : IsLostIn core core' labels f.label one
  pub lost_are : (b : ℕ) → IsMember f.lost b ↔ IsLostIn core core' labels f.label b
  pub seeds_in : (q : ℕ) → IsMember f.seeds q → Remains core' labels f.label q
  pub seeds_are : (q b : ℕ) → Remains core' labels f.label q → IsMember f.lost b → IsTrue (near b q) → IsMember f.seeds q

-- so each of them is, and each lost core is in one
pub record AreFormerOf (core core' : ℕ → Bool) (near : ℕ → ℕ → Bool) (labels : Labels) (list : List Former) : Type 0 where
  pub each : (j : ℕ) (f : Former) → slice_get list j ≡ Some f → IsFormerOf core core' near labels f
  pub all : (b : ℕ) → IsTrue (core b) → core' b ≡ false → (j : ℕ) × (f : Former) × (slice_get list j ≡ Some f) × IsMember f.lost b

-- a list has a former cluster of this label, or none
pub labelled_or : (list : List Former) (l : ℕ) → ((j : ℕ) × (f : Former) × (slice_get list j ≡ Some f) × (f.label ≡ l)) ⊎ ((j : ℕ) (f : Former) → slice_get list j ≡ Some f → f.label ≡ l → ⊥)
labelled_or [] l = inr (λ j f at e. no_value refl at)
labelled_or (g ∷ list) l = elim (cases_eq g.label l) [
  | inl here ↦ inl (0, g, refl, here)
  | inr other ↦ elim (labelled_or list l) [
    | inl found ↦ inl (suc found.0, found.1, found.2, found.3)
    | inr none ↦ inr (past none other)
  ]
]
  where
    past : ((j : ℕ) (f : Former) → slice_get list j ≡ Some f → f.label ≡ l → ⊥) → (g.label ≡ l → ⊥) → (j : ℕ) (f : Former) → slice_get (g ∷ list) j ≡ Some f → f.label ≡ l → ⊥
    past none other zero f at e = other (ap (λ (x : Former). x.label) (same_value refl at) ∙ e)
    past none other (suc j) f at e = none j f at e

module _ (d : Density) (before after : Entries) (labels : Labels) (due : AreLabelsDue d before labels) (sorted : T (is_sorted nat_cmp before)) (sorted' : T (is_sorted nat_cmp after))
    (within : IsWithin (is_core d after) (is_near d after) (is_core d before) (is_near d before))
    (alike : (a b : ℕ) → is_near d before a b ≡ is_near d before b a) (alike' : (a b : ℕ) → is_near d after a b ≡ is_near d after b a) where
  abbrev core : ℕ → Bool
  core = is_core d before

  abbrev near : ℕ → ℕ → Bool
  near = is_near d before

  abbrev core' : ℕ → Bool
  core' = is_core d after

  abbrev near' : ℕ → ℕ → Bool
  near' = is_near d after

  larger : (a b : ℕ) → Joined core' near' a b → Joined core near a b
  larger = joined_larger core' near' core near within

  remains_on : (l a b : ℕ) → Remains core' labels l a → Joined core' near' a b → Remains core' labels l b
  remains_on l a b r j = (joined_end core' near' a b j, one_label d before labels due sorted alike a b l (larger a b j) r.1)

  pub union : (l : ℕ) → IsUnion core' near' (Remains core' labels l)
  union l = record { cores = λ a r. r.0; whole = remains_on l }

  module _ (f : Former) (former : IsFormerOf core core' near labels f) where
    seeded : (a : ℕ) → Remains core' labels f.label a → (q : ℕ) × IsMember f.seeds q × Joined core' near' a q
    seeded a r =
        let lost = former.lost in
        let found = seed_of core' near' core near within a former.one r.0 lost.out (one_class d before labels due sorted alike a former.one f.label r.1 lost.label) in
        let s = found.0 in
        let seed = found.2 in
        let here = remains_on f.label a s r found.1 in
        let was = within.cores s seed.is_core in
        let on = joined_near core near s seed.beside was seed.was seed.is_near in
        let beside : IsMember f.lost seed.beside = (former.lost_are seed.beside).1 (record {
          was = seed.was;
          out = seed.lost;
          label = one_label d before labels due sorted alike s seed.beside f.label on here.1;
        }) in
        (s, former.seeds_are s seed.beside here beside (alike seed.beside s ∙ seed.is_near), found.1)

    pub is_seeded : IsSeeded core' near' labels f
    is_seeded = record { union = union f.label; seeds = record { members = former.seeds_in; each = seeded } }

    module _ (new : Labels) (cut : IsCut core' near' labels f new) where
      not_lost : (a : ℕ) → IsTrue (core' a) → IsMember f.lost a → ⊥
      not_lost a h m = let bad : core' a ≡ false = ((former.lost_are a).0 m).out in absurd (cc)

      abbrev groups : List (List ℕ)
      groups = cut.groups

      split : AreClasses core' near' labels f.label groups
      split = cut.split is_seeded

      -- a group is a class, so its least member is the label of each
      grouped_due : (a : ℕ) → IsTrue (core' a) → (of : IsGrouped groups a) → map.get new a ≡ Some (cluster_of d after a)
      grouped_due a h of =
          let g = of.1.0 in
          let class = split.classes of.0 g of.1.1.0 in
          let got = some_and (map.get new a) _ (cut.grouped a of) in
          let l = got.0 in
          got.1 ∙ ap (λ n. Some n) (sym (is_cluster d after sorted' a l (record {
            joined = (class a l of.1.1.1).1 got.2.0;
            least = λ c j. let m = (class a c of.1.1.1).0 j in got.2.1 m.0 c m.1;
          })))

      -- what remains and is in no group is left
      left : (a : ℕ) → Remains core' labels f.label a → (IsGrouped groups a → ⊥) → IsLeft labels f groups a
      left a r out = record { member = r.1; kept = not_lost a r.0; alone = out }

      remains_left : (a : ℕ) → IsLeft labels f groups a → Remains core' labels f.label a
      remains_left a l = elim (cases_Bool (core' a)) [
        | inl h ↦ (h, l.member)
        | inr out ↦ absurd (l.kept ((former.lost_are a).1 (record { was = was_core d before labels due a f.label l.member; out = out; label = l.member })))
      ]

      -- what is joined with one in no group is in no group
      alone_on : (a b : ℕ) → Joined core' near' a b → (IsGrouped groups a → ⊥) → IsGrouped groups b → ⊥
      alone_on a b j out of =
          let class = split.classes of.0 of.1.0 of.1.1.0 in
          out (of.0, (of.1.0, (of.1.1.0, (class b a of.1.1.1).0 (joined_back core' near' alike' a b j))))

      rest_due : (a : ℕ) → Remains core' labels f.label a → (IsGrouped groups a → ⊥) → map.get new a ≡ Some (cluster_of d after a)
      rest_due a r out =
          let got = some_and (map.get new a) _ (cut.rest a (left a r out)) in
          let l = got.0 in
          let rl = remains_left l got.2.0 in
          got.1 ∙ ap (λ n. Some n) (sym (is_cluster d after sorted' a l (record {
            joined = split.rest a l r rl out got.2.0.alone;
            least = λ c j. got.2.1 c (left c (remains_on f.label a c r j) (alone_on a c j out));
          })))

      pub remaining_due : (a : ℕ) → Remains core' labels f.label a → map.get new a ≡ Some (cluster_of d after a)
      remaining_due a r = elim (grouped_or groups a) [ inl of ↦ grouped_due a r.0 of | inr out ↦ rest_due a r out ]

  module _ (list : List Former) (former : AreFormerOf core core' near labels list) (kept : (a : ℕ) → IsTrue (core' a) → HasNoNew core' core near a → cluster_of d before a ≡ cluster_of d after a)
      (new : Labels) (parted : AreAllParted core' near' labels list new) where
    -- a cluster that lost no core keeps its label
    untouched : (a l : ℕ) → IsTrue (core' a) → map.get labels a ≡ Some l → ((j : ℕ) (f : Former) → slice_get list j ≡ Some f → f.label ≡ l → ⊥) → map.get new a ≡ Some (cluster_of d after a)
    untouched a l h e none =
        let all : HasNoNew core' core near a = λ c j. elim (cases_Bool (core' c)) [
          | inl stays ↦ stays
          | inr out ↦
              let found = former.all c (joined_end core near a c j) out in
              let f = found.1 in
              let of = ((former.each found.0 f found.2).lost_are c).0 found.3 in
              absurd (none found.0 f found.2 (same_value of.label (one_label d before labels due sorted alike a c l j e)))
        ] in
        parted.others a (λ j f at e'. none j f at (same_value e' e))
        ∙ e
        ∙ ap (λ n. Some n) (sym (was_cluster d before labels due a l e) ∙ kept a h all)

    core_due : (a : ℕ) → IsTrue (core' a) → map.get new a ≡ Some (cluster_of d after a)
    core_due a h =
        let e = due_core d before labels due a (within.cores a h) in
        let l = cluster_of d before a in
        elim (labelled_or list l) [
          | inl found ↦
              let f = found.1 in
              remaining_due f (former.each found.0 f found.2) new (parted.each found.0 f found.2) a (h, e ∙ ap (λ n. Some n) (sym found.3))
          | inr none ↦ untouched a l h e none
        ]

    other_due : (a : ℕ) → core' a ≡ false → map.get new a ≡ None
    other_due a out = elim (cases_Bool (core a)) [
      | inl was ↦ let found = former.all a was out in (parted.each found.0 found.1 found.2).gone a found.3
      | inr not ↦
          let none = due_other d before labels due a not in
          parted.others a (λ j f at e. no_value none e) ∙ none
    ]

    pub labels_due : AreLabelsDue d after new
    labels_due a = elim (cases_Bool (core' a)) [
      | inl h ↦ core_due a h ∙ sym (ap (λ b. if b then Some (cluster_of d after a) else None) h)
      | inr h ↦ other_due a h ∙ sym (ap (λ b. if b then Some (cluster_of d after a) else None) h)
    ]
