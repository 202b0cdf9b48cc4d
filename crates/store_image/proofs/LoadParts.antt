-- Body pages that are taken apart one by one.
use Rattle.std.proofs.Common.{◌≡◌, List, [], ◌∷◌, ◌++◌, map, reverse, sym, ◌∙◌, ap, append_assoc}
use Rattle.std.specs.List.{flat_map}
use Rattle.std.proofs.lemmas.List.{reverse-append, reverse-reverse}

popped : {A : Type 0} (left rest : List A) (x : A) → left ≡ rest ++ x ∷ [] → reverse left ≡ x ∷ reverse rest
popped left rest x is = ap reverse is ∙ reverse-append rest (x ∷ [])

pub begun : {A : Type 0} (left all : List A) → left ≡ reverse all → reverse left ≡ all
begun left all is = ap reverse is ∙ reverse-reverse all

pub mapped_more : {A B : Type 0} (f : A → B) (all left rest : List A) (x : A) (done new : List B) → map f all ≡ done ++ map f (reverse left) → left ≡ rest ++ x ∷ [] → new ≡ done ++ f x ∷ [] → map f all ≡ new ++ map f (reverse rest)
mapped_more f all left rest x done new so is next =
    so ∙ ap (λ l. done ++ map f l) (popped left rest x is) ∙ sym (append_assoc done (f x ∷ []) (map f (reverse rest))) ∙ ap (λ l. l ++ map f (reverse rest)) (sym next)

pub flat_more : {A B : Type 0} (f : A → List B) (all left rest : List A) (x : A) (done new : List B) → flat_map f all ≡ done ++ flat_map f (reverse left) → left ≡ rest ++ x ∷ [] → new ≡ done ++ f x → flat_map f all ≡ new ++ flat_map f (reverse rest)
flat_more f all left rest x done new so is next =
    so ∙ ap (λ l. done ++ flat_map f l) (popped left rest x is) ∙ sym (append_assoc done (f x) (flat_map f (reverse rest))) ∙ ap (λ l. l ++ flat_map f (reverse rest)) (sym next)
