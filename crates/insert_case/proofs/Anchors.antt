-- The anchor of a record that isn't core, from its old anchor and the new cores near it.
use Rattle.std.proofs.Common.{◌≡◌, ℕ, ◌≤◌, Bool, true, false, List, [], ◌∷◌, min, IsTrue, None, Some, inl, inr, ◌⊎◌, ◌↔◌, refl, sym, ap, ◌∙◌, arith}
use lib.Dec.{T}
use Rattle.std.proofs.lemmas.Bool.{cases_Bool, cases_eq}
use Rattle.std.specs.Ordering.{nat_cmp}
use Rattle.std.specs.declared.option.Option.{Option}
use Rattle.std.specs.List.{find}
use Rattle.std.specs.FinMap.Entries.{is_sorted}
use Rattle.count_book.specs.Counted.{lesser}
use Rattle.label_book.proofs.Views.{known, same_value, no_value}
use Rattle.plain_dbscan.specs.Marks.{Density, Entries, is_core, is_near, anchor_of}
use Rattle.plain_dbscan.specs.Laws.{HasAnchor, IsNoise}
use Rattle.plain_dbscan.proofs.Chains.{Member}
use Rattle.plain_dbscan.proofs.Members.{Rises, find_first, find_fails}
use Rattle.plain_dbscan.proofs.Lawful.{anchored}
use Rattle.update_seed.specs.Offers.{least_of}

lesser_is : (o : Option ℕ) (c : ℕ) → (o ≡ Some (lesser o c)) ⊎ (lesser o c ≡ c)
lesser_is None c = inr refl
lesser_is (Some a) c = elim (cases_eq (min a c) a) [ inl e ↦ inl (ap (λ n. Some n) (sym e)) | inr ne ↦ inr (omega arith) ]

lesser_below : (o : Option ℕ) (c : ℕ) → lesser o c ≤ c
lesser_below None c = omega arith
lesser_below (Some a) c = omega arith

lesser_low : (o : Option ℕ) (c x : ℕ) → o ≡ Some x → lesser o c ≤ x
lesser_low None c x e = absurd (no_value refl e)
lesser_low (Some a) c x e = let s : a ≡ x = same_value refl e in omega arith

-- what the least of an anchor and of some cores is
record IsLeastOr (o : Option ℕ) (cs : List ℕ) (r : Option ℕ) : Type 0 where
  none : r ≡ None → (o ≡ None) × ((c : ℕ) → Member c cs → ⊥)
  one : (b : ℕ) → r ≡ Some b → (o ≡ Some b) ⊎ Member b cs
  low : (b x : ℕ) → r ≡ Some b → o ≡ Some x → b ≤ x
  below : (b c : ℕ) → r ≡ Some b → Member c cs → b ≤ c

least_is : (o : Option ℕ) (cs : List ℕ) → IsLeastOr o cs (least_of o cs)
least_is o [] = record {
  none = λ e. (e, λ c m. absurd m);
  one = λ b e. inl e;
  low = λ b x e f. let s : b ≡ x = same_value e f in omega arith;
  below = λ b c e m. absurd m;
}
least_is o (d ∷ cs) =
    let r = least_is (Some (lesser o d)) cs in
    record {
      none = λ e. absurd (no_value (r.none e).0 refl);
      one = λ b e. elim (r.one b e) [
        | inl f ↦ let s : lesser o d ≡ b = same_value refl f in elim (lesser_is o d) [
          | inl g ↦ inl (g ∙ ap (λ n. Some n) s)
          | inr g ↦ inr (inl (sym s ∙ g))
        ]
        | inr m ↦ inr (inr m)
      ];
      low = λ b x e f. let h = r.low b (lesser o d) e refl in let k = lesser_low o d x f in omega (arith, h, k);
      below = λ b c e m. elim m [
        | inl g ↦ let h = r.low b (lesser o d) e refl in let k = lesser_below o d in omega (arith, h, k, g)
        | inr n ↦ r.below b c e n
      ];
    }

-- the least core near a record, or none where none is near
pub record IsHung (core : ℕ → Bool) (near : ℕ → ℕ → Bool) (a : ℕ) (o : Option ℕ) : Type 0 where
  pub none : o ≡ None → (c : ℕ) → IsTrue (core c) → IsTrue (near a c) → ⊥
  pub one : (b : ℕ) → o ≡ Some b → IsTrue (core b) × IsTrue (near a b)
  pub least : (b c : ℕ) → o ≡ Some b → IsTrue (core c) → IsTrue (near a c) → b ≤ c

pub not_both : (b : Bool) → b ≡ false → IsTrue b → ⊥
not_both b f t = let bad : false ≡ true = sym f ∙ t in cc

-- more cores, which are offered
pub hung_more : (core core' : ℕ → Bool) (near : ℕ → ℕ → Bool) (a : ℕ) (o : Option ℕ) (cs : List ℕ) → ((c : ℕ) → IsTrue (core c) → IsTrue (core' c))
    → ((c : ℕ) → Member c cs ↔ ((IsTrue (core' c) × (core c ≡ false)) × IsTrue (near a c))) → IsHung core near a o → IsHung core' near a (least_of o cs)
hung_more core core' near a o cs up are was =
    let l = least_is o cs in
    record {
      none = λ e c h n. elim (cases_Bool (core c)) [
        | inl k ↦ was.none (l.none e).0 c k n
        | inr k ↦ (l.none e).1 c ((are c).1 ((h, k), n))
      ];
      one = λ b e. elim (l.one b e) [
        | inl f ↦ let w = was.one b f in (up b w.0, w.1)
        | inr m ↦ let w = (are b).0 m in (w.0.0, w.1)
      ];
      least = λ b c e h n. elim (cases_Bool (core c)) [
        | inl k ↦ elim (known o) [
          | inl f ↦ absurd (was.none f c k n)
          | inr x ↦ let low = l.low b x.0 e x.1 in let least = was.least x.0 c x.1 k n in omega (arith, low, least)
        ]
        | inr k ↦ l.below b c e ((are c).1 ((h, k), n))
      ];
    }

-- the same cores are near
pub hung_alike : (core : ℕ → Bool) (near near' : ℕ → ℕ → Bool) (a : ℕ) (o : Option ℕ) → ((c : ℕ) → IsTrue (core c) → near' a c ≡ near a c) → IsHung core near a o → IsHung core near' a o
hung_alike core near near' a o same was = record {
  none = λ e c h n. was.none e c h (sym (same c h) ∙ n);
  one = λ b e. let w = was.one b e in (w.0, same b w.0 ∙ w.1);
  least = λ b c e h n. was.least b c e h (sym (same c h) ∙ n);
}

-- no core becomes one, none ceases
pub hung_kept : (core core' : ℕ → Bool) (near : ℕ → ℕ → Bool) (a : ℕ) (o : Option ℕ) → ((c : ℕ) → IsTrue (core c) ↔ IsTrue (core' c)) → IsHung core near a o → IsHung core' near a o
hung_kept core core' near a o same was = record {
  none = λ e c h n. was.none e c ((same c).1 h) n;
  one = λ b e. let w = was.one b e in ((same b).0 w.0, w.1);
  least = λ b c e h n. was.least b c e ((same c).1 h) n;
}

-- the first core of those near
pub first_hung : (core test : ℕ → Bool) (near : ℕ → ℕ → Bool) (a : ℕ) (around : List ℕ) → Rises around → ((c : ℕ) → Member c around ↔ IsTrue (near a c)) → ((c : ℕ) → IsTrue (test c) ↔ IsTrue (core c)) → IsHung core near a (find test around)
first_hung core test near a around rises are tests = record {
  none = λ e c h n. not_both (test c) (find_fails test around e c ((are c).1 n)) ((tests c).1 h);
  one = λ b e. let f = find_first test around b rises e in ((tests b).0 f.passes, (are b).0 f.member);
  least = λ b c e h n. let f = find_first test around b rises e in f.least c ((are c).1 n) ((tests c).1 h);
}

module _ (d : Density) (es : Entries) (sorted : T (is_sorted nat_cmp es)) (a : ℕ) (off : is_core d es a ≡ false) where
  pub due_hung : IsHung (is_core d es) (is_near d es) a (anchor_of d es a)
  due_hung =
      let law = anchored d es sorted a in
      record {
        none = λ e c h n. not_both (is_near d es a c) (((law.none off).0 e).apart c h) n;
        one = λ b e. let h = (law.least b).0 e in (h.is_core, h.is_near);
        least = λ b c e h n. ((law.least b).0 e).least c h n;
      }

  near_none : (o : Option ℕ) → IsHung (is_core d es) (is_near d es) a o → o ≡ None → IsNoise d es a
  near_none o h e = record {
    no_core = off;
    apart = λ c k. elim (cases_Bool (is_near d es a c)) [ inl n ↦ absurd (h.none e c k n) | inr n ↦ n ];
  }

  near_one : (o : Option ℕ) (b : ℕ) → IsHung (is_core d es) (is_near d es) a o → o ≡ Some b → HasAnchor d es a b
  near_one o b h e = record {
    no_core = off;
    is_core = (h.one b e).0;
    is_near = (h.one b e).1;
    least = λ c k n. h.least b c e k n;
  }

  pub hung_due : (o : Option ℕ) → IsHung (is_core d es) (is_near d es) a o → o ≡ anchor_of d es a
  hung_due o h = let law = anchored d es sorted a in elim (known o) [
    | inl e ↦ e ∙ sym ((law.none off).1 (near_none o h e))
    | inr b ↦ b.1 ∙ sym ((law.least b.0).1 (near_one o b.0 h b.1))
  ]
