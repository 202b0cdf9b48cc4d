-- What was written is read again, and how many slots were read.
use Rattle.std.proofs.Common.{◌≡◌, ℕ, ◌+◌, ◌*◌, Bool, true, false, cond, List, [], ◌∷◌, ◌++◌, length, map, get_or, Option, Some, None, Result, Ok, Err, refl, sym, ◌∙◌, ap, subst, arith, length-append, zero-add, IsTrue}
use Rattle.std.specs.Prelude.{◌==◌}
use Rattle.std.specs.List.{AllByRecursion}
use Rattle.std.proofs.lemmas.List.FromFn.{length-map-range_with_len}
use Rattle.vec_record.specs.Limits.{are_within, width_of}
use Rattle.node_places.specs.Nodes.{count_of}
use Rattle.page_layout.specs.declared.fault.LayoutFault.{LayoutFault}
use Rattle.page_layout.specs.declared.fault.LayoutFault.TheVariants as layout_fault
use Rattle.page_layout.specs.declared.body.Body.{Body}
use Rattle.page_layout.specs.declared.body.Body.TheVariants as body
use Rattle.page_layout.specs.Fields.{first_bad, unless_bad}
use Rattle.page_layout.specs.Heads.{Values, HeadValue, IsHead, head_page}
use Rattle.page_layout.specs.Slots.{Rows, slot_at, slot_in, rows_in, record_fields, rows_of_page}
use Rattle.page_layout.specs.Leaves.{leaves_of}
use Rattle.page_layout.specs.Inner.{inner_of}
use Rattle.page_layout.specs.Bodies.{as_body, body_of, IsBody, body_bytes}
use Rattle.page_layout.specs.Laws.{HeadsHaveOneSpelling, BodiesHaveOneSpelling, WrittenArePages}
use Rattle.store_image.specs.declared.fault.StoreFault.{StoreFault}
use Rattle.store_image.specs.Contents.{kinds_of, all_slots}
use Rattle.store_image.specs.Loading.{and_then, in_page, head_in_pages, bodies_in}
use Rattle.store_image.specs.Placing.{size_on}
use Rattle.store_image.proofs.SavedBodies.{counted}

-- pages that were written
module _ (v : Values) (spelled : BodiesHaveOneSpelling) (written : WrittenArePages) (within : IsTrue (are_within v.metric v.dim v.eps v.minpts v.cap)) where
  body_read : (b : Body) → IsBody v b → body_of v (body_bytes v b) ≡ Ok b
  body_read b is = (spelled v (body_bytes v b) b within (written.1 v b within is)).1 (is, refl)

  pub bodies_read : (page : ℕ) (bodies : List Body) → AllByRecursion (IsBody v) bodies → bodies_in v page (map (body_bytes v) bodies) ≡ Ok bodies
  unfolding bodies_in
  bodies_read page [] each = refl
  bodies_read page (b ∷ bodies) each =
      ap (λ (o : Result Body LayoutFault). and_then (in_page page o) (λ first. and_then (bodies_in v (page + 1) (map (body_bytes v) bodies)) (λ rest. Ok (first ∷ rest)))) (body_read b each.0)
      ∙ ap (λ (o : Result (List Body) StoreFault). and_then o (λ rest. Ok (b ∷ rest))) (bodies_read (page + 1) bodies each.1)

-- the head page
pub head_read : HeadsHaveOneSpelling → WrittenArePages → (h : HeadValue) (more : List (List ℕ)) → IsHead h → head_in_pages (head_page h ∷ more) ≡ Ok h
unfolding head_in_pages
head_read spelled written h more is = ap (in_page 1) ((spelled (head_page h) h (written.0 h is)).1 (is, refl))

-- a page of records has as many slots as fit
module _ (v : Values) where
  abbrev HasSlots : Body → Type 0
  HasSlots (body.Slots slots) = length slots ≡ size_on v
  HasSlots (body.Leaves leaves) = Unit {0}
  HasSlots (body.Inner rows) = Unit {0}

  rows_long : (bytes : List ℕ) (rows : Rows) → rows_of_page v bytes ≡ Ok rows → length rows ≡ size_on v
  unfolding rows_of_page
  rows_long bytes rows is = at (first_bad (record_fields v bytes)) is
    where
      at : (o : Option ℕ) → unless_bad o (rows_in (width_of v.metric v.dim) bytes) ≡ Ok rows → length rows ≡ size_on v
      at None is =
          let same : rows ≡ rows_in (width_of v.metric v.dim) bytes = cc in
          ap length same ∙ length-map-range_with_len (λ k. slot_in (width_of v.metric v.dim) bytes (slot_at (width_of v.metric v.dim) k)) 0 (size_on v)
      at (Some offset) is = absurd (cc)

  of_slots : (o : Result Rows LayoutFault) (b : Body) → ((rows : Rows) → o ≡ Ok rows → length rows ≡ size_on v) → as_body body.Slots o ≡ Ok b → HasSlots b
  of_slots (Ok rows) b long is = let same : body.Slots rows ≡ b = cc in subst HasSlots same (long rows refl)
  of_slots (Err fault) b long is = absurd (cc)

  of_another : {A : Type 0} (make : A → Body) (o : Result A LayoutFault) (b : Body) → ((x : A) → HasSlots (make x)) → as_body make o ≡ Ok b → HasSlots b
  of_another make (Ok x) b none is = let same : make x ≡ b = cc in subst HasSlots same (none x)
  of_another make (Err fault) b none is = absurd (cc)

  body_long : (bytes : List ℕ) (b : Body) → body_of v bytes ≡ Ok b → HasSlots b
  unfolding body_of
  body_long bytes b is = at (get_or bytes 0 0 == 1) (get_or bytes 0 0 == 2) (get_or bytes 0 0 == 3) is
    where
      at : (x y z : Bool) → cond x (as_body body.Slots (rows_of_page v bytes)) (cond y (as_body body.Leaves (leaves_of bytes)) (cond z (as_body body.Inner (inner_of v bytes)) (Err (layout_fault.Damaged 0)))) ≡ Ok b → HasSlots b
      at true y z is = of_slots (rows_of_page v bytes) b (rows_long bytes) is
      at false true z is = of_another body.Leaves (leaves_of bytes) b (λ leaves. tt) is
      at false false true is = of_another body.Inner (inner_of v bytes) b (λ rows. tt) is
      at false false false is = absurd (cc)

  -- the parts of what was read
  pub record Passed {A B : Type 0} (o : Result A StoreFault) (next : A → Result B StoreFault) (b : B) : Type 0 where
    pub value : A
    pub first : o ≡ Ok value
    pub then_is : next value ≡ Ok b

  passed : {A B : Type 0} (o : Result A StoreFault) (next : A → Result B StoreFault) (b : B) → and_then o next ≡ Ok b → Passed o next b
  passed (Ok x) next b is = record { value = x; first = refl; then_is = is }
  passed (Err fault) next b is = absurd (cc)

  of_page : {A : Type 0} (page : ℕ) (o : Result A LayoutFault) (x : A) → in_page page o ≡ Ok x → o ≡ Ok x
  of_page page (Ok y) x is = cc
  of_page page (Err fault) x is = absurd (cc)

  slots_cons : (b : Body) (bodies : List Body) → HasSlots b → length (all_slots bodies) ≡ size_on v * count_of 1 (kinds_of bodies) → length (all_slots (b ∷ bodies)) ≡ size_on v * count_of 1 (kinds_of (b ∷ bodies))
  slots_cons (body.Slots slots) bodies long rest =
      let both : length (slots ++ all_slots bodies) ≡ length slots + length (all_slots bodies) = length-append slots (all_slots bodies) in
      omega (arith, both, long, rest, ap (λ (n : ℕ). size_on v * n) (counted 1 1 (kinds_of bodies)))
  slots_cons (body.Leaves leaves) bodies long rest = rest ∙ ap (λ (n : ℕ). size_on v * n) (sym (counted 1 2 (kinds_of bodies) ∙ zero-add (count_of 1 (kinds_of bodies))))
  slots_cons (body.Inner rows) bodies long rest = rest ∙ ap (λ (n : ℕ). size_on v * n) (sym (counted 1 3 (kinds_of bodies) ∙ zero-add (count_of 1 (kinds_of bodies))))

  -- as many slots were read as the record pages have
  pub slots_read : (page : ℕ) (pages : List (List ℕ)) (bodies : List Body) → bodies_in v page pages ≡ Ok bodies → length (all_slots bodies) ≡ size_on v * count_of 1 (kinds_of bodies)
  unfolding bodies_in
  slots_read page [] bodies is =
      let none : bodies ≡ [] = cc in
      subst (λ (l : List Body). length (all_slots l) ≡ size_on v * count_of 1 (kinds_of l)) (sym none) (omega arith)
  slots_read page (bytes ∷ more) bodies is =
      let one = passed (in_page page (body_of v bytes)) (λ first. and_then (bodies_in v (page + 1) more) (λ rest. Ok (first ∷ rest))) bodies is in
      let two = passed (bodies_in v (page + 1) more) (λ rest. Ok (one.value ∷ rest)) bodies one.then_is in
      let same : one.value ∷ two.value ≡ bodies = same_ok (one.value ∷ two.value) bodies two.then_is in
      subst (λ (l : List Body). length (all_slots l) ≡ size_on v * count_of 1 (kinds_of l)) same
      (slots_cons one.value two.value (body_long bytes one.value (of_page page (body_of v bytes) one.value one.first)) (slots_read (page + 1) more two.value two.first))
    where
      same_ok : (x y : List Body) → ◌≡◌ {A = Result (List Body) StoreFault} (Ok x) (Ok y) → x ≡ y
      same_ok x y is = cc
