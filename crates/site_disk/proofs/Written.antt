-- What two writes with a sync between them, and a line said after them, leave at each moment.
use Rattle.std.proofs.Common.{◌≡◌, ◌⊎◌, inl, inr, ℕ, List, [], ◌∷◌, ◌++◌, length, take, Result, refl, sym, ◌∙◌, ap, subst}
use Rattle.std.specs.Prelude.{Ok, Err, OnOk}
use Rattle.std.proofs.lemmas.List.{append-nil}
use Rattle.std.proofs.lemmas.Result.{on_ok_weaker}
use Rattle.vec_record.specs.Vectors.{AreBytes}
use Rattle.site_disk.specs.Disk.{put, Torn, IsImage}
use Rattle.site_disk.specs.State.{SiteState, IsNow, Safe}
use Rattle.site_disk.specs.Calls.{Writes, Syncs, Speaks}
use Rattle.site_disk.specs.Written.{IsSettledState, IsEarly, IsLate, WritesTwice}
use Rattle.site_disk.proofs.Moments.{start, after_write, after_say}
use Rattle.site_disk.proofs.Picks.{base_is_image}

on_ok_any : {T E P : Type 0} (r : Result T E) → P → OnOk r P
on_ok_any (Ok x) p = p
on_ok_any (Err e) p = tt

module _ (at : ℕ) (bytes : List ℕ) (next : ℕ) (more line : List ℕ) (a : SiteState) (now : IsNow a) (settled : IsSettledState a) where
  abbrev P : List ℕ → List ℕ → Type 0
  P s c = IsEarly a at (length bytes) s c ⊎ IsLate a at bytes next (length more) line s c

  abbrev first_content : List ℕ
  first_content = put at bytes a.content

  begun : Safe a a P
  begun = start now (λ c left. inl (refl, subst (IsImage a.content ((at, length bytes) ∷ [])) (sym (settled c left)) (base_is_image a.content ((at, length bytes) ∷ []) (now.bytes a.content now.read))))

  pub first : {E : Type 0} {r : Result Unit E} {b : SiteState} → Writes at bytes r a b → Safe a b P
  first {E} {r} {b} write = after_write begun write (λ d i left torn. inl (refl, (a.content, refl, subst (λ (l : List ℕ). Torn at (length bytes) l i) (settled d left) torn)))

  -- the first write is the only image
  pub record Between (c : SiteState) : Type 0 where
    pub content : c.content ≡ first_content
    pub only : (i : List ℕ) → c.may_leave i → i ≡ first_content
    pub said : c.said ≡ a.said
    pub are : AreBytes first_content

  pub between : {E : Type 0} {b c : SiteState} → IsNow c → Writes {E = E} at bytes (Ok tt) a b → Syncs {E = E} (Ok tt) b c → Between c
  between {E} {b} {c} law write sync = record {
    content = is;
    only = λ i left. sync.only i left ∙ is;
    said = sync.said ∙ write.said;
    are = subst AreBytes is (law.bytes c.content law.read);
  }
    where
      is : c.content ≡ first_content
      is = sync.content ∙ write.content

  late : {s i : List ℕ} → ((k : ℕ) × (s ≡ a.said ++ take k line)) → IsImage first_content ((next, length more) ∷ []) i → P s i
  late said image = inr (said, image)

  unsaid : {s : List ℕ} → s ≡ a.said → (k : ℕ) × (s ≡ a.said ++ take k line)
  unsaid is = (0, is ∙ sym (append-nil a.said))

  of_second : {c : SiteState} → Between c → (i : List ℕ) → (d : List ℕ) → c.may_leave d → Torn next (length more) d i → IsImage first_content ((next, length more) ∷ []) i
  of_second {c} here i d left torn = (first_content, refl, subst (λ (l : List ℕ). Torn next (length more) l i) (here.only d left) torn)

  pub second : {E : Type 0} {r : Result Unit E} {c d : SiteState} → Safe a c P → Between c → Writes next more r c d → Safe a d P
  second {E} {r} {c} {d} so_far here write = after_write so_far write (λ i j left torn. late (unsaid here.said) (of_second here j i left torn))

  pub images : {E : Type 0} {r : Result Unit E} {c d : SiteState} → Between c → Writes next more r c d → (i : List ℕ) → d.may_leave i → IsImage first_content ((next, length more) ∷ []) i
  images {E} {r} {c} {d} here write i left = of_either (write.images i left)
    where
      of_either : (c.may_leave i ⊎ ((j : List ℕ) × c.may_leave j × Torn next (length more) j i)) → IsImage first_content ((next, length more) ∷ []) i
      of_either (inl was) = subst (IsImage first_content ((next, length more) ∷ [])) (sym (here.only i was)) (base_is_image first_content ((next, length more) ∷ []) here.are)
      of_either (inr torn) = of_second here i torn.0 torn.1 torn.2

  pub says : {E : Type 0} {r : Result Unit E} {d e : SiteState} → Safe a d P → d.said ≡ a.said → ((i : List ℕ) → d.may_leave i → IsImage first_content ((next, length more) ∷ []) i) → d.content ≡ put next more first_content → Speaks line r d e → WritesTwice at bytes next more line r a e
  says {E} {r} {d} {e} so_far said left_images holds say = record {
    safe = after_say so_far say (λ n i left. late (n, ap (λ (l : List ℕ). l ++ take n line) said) (left_images i left));
    said = on_ok_weaker r (λ is. is ∙ ap (λ (l : List ℕ). l ++ line) said) say.said;
    content = on_ok_any r (say.content ∙ holds);
    images = on_ok_any r (λ i left. left_images i ((say.images i).0 left));
  }
