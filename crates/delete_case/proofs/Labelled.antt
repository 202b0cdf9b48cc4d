-- Labels that are due: one label a class, and one class a label.
use Rattle.std.proofs.Common.{◌≡◌, ℕ, false, IsTrue, ap, subst, ◌∙◌, None, Some, inl, inr, if◌then◌else◌}
use lib.Dec.{T}
use Rattle.std.specs.Ordering.{nat_cmp}
use Rattle.std.specs.FinMap as map
use Rattle.std.specs.FinMap.Entries.{is_sorted}
use Rattle.std.proofs.lemmas.Bool.{cases_Bool}
use Rattle.plain_dbscan.specs.Chains.{Joined, IsLabel}
use Rattle.plain_dbscan.specs.Marks.{Density, Entries, is_near, is_core, cluster_of}
use Rattle.plain_dbscan.proofs.Chains.{joined_on, joined_back, joined_start}
use Rattle.plain_dbscan.proofs.CoresOf.{cluster_is, is_cluster}
use Rattle.label_book.specs.Labels.{Labels}
use Rattle.label_book.proofs.Views.{same_value, no_value}
use Rattle.update_seed.specs.Books.{AreLabelsDue}

module _ (d : Density) (es : Entries) (labels : Labels) (due : AreLabelsDue d es labels) where
  pub due_core : (a : ℕ) → IsTrue (is_core d es a) → map.get labels a ≡ Some (cluster_of d es a)
  due_core a h = due a ∙ ap (λ b. if b then Some (cluster_of d es a) else None) h

  pub due_other : (a : ℕ) → is_core d es a ≡ false → map.get labels a ≡ None
  due_other a h = due a ∙ ap (λ b. if b then Some (cluster_of d es a) else None) h

  pub was_core : (a l : ℕ) → map.get labels a ≡ Some l → IsTrue (is_core d es a)
  was_core a l e = elim (cases_Bool (is_core d es a)) [ inl h ↦ h | inr h ↦ absurd (no_value (due_other a h) e) ]

  pub was_cluster : (a l : ℕ) → map.get labels a ≡ Some l → cluster_of d es a ≡ l
  was_cluster a l e = same_value (due_core a (was_core a l e)) e

  module _ (sorted : T (is_sorted nat_cmp es)) where
    pub label_is : (a l : ℕ) → map.get labels a ≡ Some l → IsLabel (is_core d es) (is_near d es) a l
    label_is a l e = subst (IsLabel (is_core d es) (is_near d es) a) (was_cluster a l e) (cluster_is d es sorted a (was_core a l e))

    pub is_label : (a l : ℕ) → IsLabel (is_core d es) (is_near d es) a l → map.get labels a ≡ Some l
    is_label a l h = due_core a (joined_start (is_core d es) (is_near d es) a l h.joined) ∙ ap (λ n. Some n) (is_cluster d es sorted a l h)

    module _ (alike : (a b : ℕ) → is_near d es a b ≡ is_near d es b a) where
      pub one_class : (a b l : ℕ) → map.get labels a ≡ Some l → map.get labels b ≡ Some l → Joined (is_core d es) (is_near d es) a b
      one_class a b l ea eb =
          joined_on (is_core d es) (is_near d es) a l b (label_is a l ea).joined
          (joined_back (is_core d es) (is_near d es) alike b l (label_is b l eb).joined)

      pub one_label : (a b l : ℕ) → Joined (is_core d es) (is_near d es) a b → map.get labels a ≡ Some l → map.get labels b ≡ Some l
      one_label a b l j e =
          let h = label_is a l e in
          is_label b l (record {
            joined = joined_on (is_core d es) (is_near d es) b a l (joined_back (is_core d es) (is_near d es) alike a b j) h.joined;
            least = λ c k. h.least c (joined_on (is_core d es) (is_near d es) a b c j k);
          })
