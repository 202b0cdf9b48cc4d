-- What is read of pages, part by part.
use Rattle.std.proofs.Common.{◌≡◌, ℕ, ◌+◌, ◌≤◌, Bool, true, false, cond, List, [], ◌∷◌, ◌++◌, length, drop, get_or, Option, Some, None, Result, Ok, Err, refl, sym, ◌∙◌, ap, append_assoc}
use Rattle.std.specs.Prelude.{◌==◌}
use Rattle.std.proofs.lemmas.List.{append-nil, drop_all}
use Rattle.page_gate.specs.Gate.{part, number_4}
use Rattle.page_layout.specs.declared.fault.LayoutFault.{LayoutFault}
use Rattle.page_layout.specs.declared.fault.LayoutFault.TheVariants as layout_fault
use Rattle.page_layout.specs.declared.body.Body.{Body}
use Rattle.page_layout.specs.Fields.{first_bad, unless_bad}
use Rattle.page_layout.specs.Heads.{Values, HeadValue, head_of, head_in, head_fields, known_version}
use Rattle.page_layout.specs.Bodies.{body_of}
use Rattle.store_image.specs.declared.fault.StoreFault.{StoreFault}
use Rattle.store_image.specs.declared.fault.StoreFault.TheVariants.{Foreign, Damaged, Memory}
use Rattle.store_image.specs.Loading.{and_then, in_page, head_in_pages, bodies_in, values_of_head, params_in_pages, count_said, Fails}
use Rattle.store_image.specs.inside.Reads.{bodies_behind}

pub go_on : {A B : Type 0} (o : Result A StoreFault) (next : A → Result B StoreFault) (a : A) (r : Result B StoreFault) → o ≡ Ok a → next a ≡ r → and_then o next ≡ r
go_on o next a r is then_is = ap (λ o'. and_then o' next) is ∙ then_is

-- refusals
pub fails_is : {A : Type 0} (e : StoreFault) (due : Result A StoreFault) → due ≡ Err e → Fails e due
fails_is Foreign due is = is
fails_is (Damaged page offset) due is = is
fails_is Memory due is = tt

pub fails_then : {A B : Type 0} (e : StoreFault) (o : Result A StoreFault) (next : A → Result B StoreFault) → Fails e o → Fails e (and_then o next)
fails_then Foreign o next is = ap (λ o'. and_then o' next) is
fails_then (Damaged page offset) o next is = ap (λ o'. and_then o' next) is
fails_then Memory o next is = tt

-- body pages
bodies_none : (v : Values) (page : ℕ) → bodies_in v page [] ≡ Ok []
unfolding bodies_in
bodies_none v page = refl

-- one page more
pub behind_more : (v : Values) (page : ℕ) (bytes : List ℕ) (pages : List (List ℕ)) (bodies : List Body) (body : Body) → body_of v bytes ≡ Ok body → bodies_behind v page (bytes ∷ pages) bodies ≡ bodies_behind v (page + 1) pages (bodies ++ body ∷ [])
unfolding bodies_in
behind_more v page bytes pages bodies body is =
    ap (λ (o : Result Body LayoutFault). and_then (and_then (in_page page o) (λ first. and_then (bodies_in v (page + 1) pages) (λ rest. Ok (first ∷ rest)))) (λ rest. Ok (bodies ++ rest))) is
    ∙ at (bodies_in v (page + 1) pages)
  where
    at : (o : Result (List Body) StoreFault) → and_then (and_then o (λ rest. Ok (body ∷ rest))) (λ rest. Ok (bodies ++ rest)) ≡ and_then o (λ rest. Ok ((bodies ++ body ∷ []) ++ rest))
    at (Ok rest) = ap Ok (sym (append_assoc bodies (body ∷ []) rest))
    at (Err fault) = refl

pub behind_fails : (v : Values) (page : ℕ) (bytes : List ℕ) (pages : List (List ℕ)) (bodies : List Body) (e : StoreFault) → Fails e (in_page page (body_of v bytes)) → Fails e (bodies_behind v page (bytes ∷ pages) bodies)
unfolding bodies_in
behind_fails v page bytes pages bodies e is =
    fails_then e (bodies_in v page (bytes ∷ pages)) (λ rest. Ok (bodies ++ rest)) (fails_then e (in_page page (body_of v bytes)) (λ first. and_then (bodies_in v (page + 1) pages) (λ rest. Ok (first ∷ rest))) is)

pub behind_all : (v : Values) (page : ℕ) (pages : List (List ℕ)) (k : ℕ) (bodies : List Body) → length pages ≤ k → bodies_behind v page (drop k pages) bodies ≡ Ok bodies
behind_all v page pages k bodies past =
    ap (λ (l : List (List ℕ)). bodies_behind v page l bodies) (drop_all k pages past)
    ∙ ap (λ (o : Result (List Body) StoreFault). and_then o (λ rest. Ok (bodies ++ rest))) (bodies_none v page) ∙ ap Ok (append-nil bodies)

pub behind_nothing : (o : Result (List Body) StoreFault) → o ≡ and_then o (λ rest. Ok ([] ++ rest))
behind_nothing (Ok rest) = refl
behind_nothing (Err fault) = refl

-- the head
pub head_value : (page : List ℕ) (h : HeadValue) → head_of page ≡ Ok h → h ≡ head_in page
unfolding head_of
head_value page h is = at (number_4 4 page == known_version) is
  where
    of_fields : (o : Option ℕ) → unless_bad o (head_in page) ≡ Ok h → h ≡ head_in page
    of_fields None is = cc
    of_fields (Some offset) is = absurd (cc)

    at : (b : Bool) → cond b (unless_bad (first_bad (head_fields page)) (head_in page)) (Err layout_fault.Foreign) ≡ Ok h → h ≡ head_in page
    at true is = of_fields (first_bad (head_fields page)) is
    at false is = absurd (cc)

pub head_in_is : (pages : List (List ℕ)) → head_in_pages pages ≡ in_page 1 (head_of (get_or pages 0 []))
unfolding head_in_pages
head_in_is pages = refl

pub read_head_is : (pages : List (List ℕ)) (h : HeadValue) → head_in_pages pages ≡ Ok h → head_of (get_or pages 0 []) ≡ Ok h
read_head_is pages h is = at (head_of (get_or pages 0 [])) (sym (head_in_is pages) ∙ is)
  where
    at : (o : Result HeadValue LayoutFault) → in_page 1 o ≡ Ok h → o ≡ Ok h
    at (Ok x) is = cc
    at (Err layout_fault.Foreign) is = absurd (cc)
    at (Err (layout_fault.Damaged offset)) is = absurd (cc)
    at (Err layout_fault.Memory) is = absurd (cc)

-- the parameters are those of the head page
pub params_are : (pages : List (List ℕ)) (h : HeadValue) → head_in_pages pages ≡ Ok h → params_in_pages pages ≡ Ok h.values
unfolding params_in_pages
params_are pages h is = ap (λ o. and_then o values_of_head) is

-- the number of records is read of the head page
pub count_is : (pages : List (List ℕ)) (h : HeadValue) → head_in_pages pages ≡ Ok h → count_said pages ≡ h.count
unfolding head_in
count_is pages h is = sym (ap (λ (x : HeadValue). x.count) (head_value (get_or pages 0 []) h (read_head_is pages h is)))

-- no page is no head
pub no_head : head_of [] ≡ Err layout_fault.Foreign
unfolding head_of head_fields head_in number_4 part
no_head = refl
