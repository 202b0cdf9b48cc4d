-- Clusters and cores become one cluster, one after the other.
use Rattle.std.proofs.Common.{◌≡◌, ◌≢◌, ℕ, zero, suc, ◌≤◌, List, [], ◌∷◌, ◌++◌, length, refl, sym, ap, subst, ◌∙◌, cond, None, Some, inl, inr, ◌⊎◌, slice_get, min, arith}
use Rattle.std.proofs.lemmas.Bool.{cases_eq, cases_lt}
use Rattle.std.proofs.lemmas.Bool.Decides.{eqb_tells}
use Rattle.std.specs.Option.{option_map}
use Rattle.std.specs.FinMap as map
use Rattle.label_book.specs.Labels.{Labels, HasLeast, IsMember, AreLabels, IsJoined, IsLeastOfBoth}
use Rattle.label_book.specs.inside.Steps.{IsWith, IsMerged, relabel}
use Rattle.label_book.proofs.Views.{same_value, no_value, known}
use Rattle.label_book.proofs.Added.{in_front, at_end, last_or, same_label, other_label}

past : (x : ℕ) (xs : List ℕ) (q : ℕ) → (x ≡ q → ⊥) → (i : ℕ) → slice_get (x ∷ xs) i ≡ Some q → IsMember xs q
past x xs q ne zero e = absurd (ne (same_value refl e))
past x xs q ne (suc i) e = (i, e)

-- the number stands in the list or it doesn't
pub member_or : (xs : List ℕ) (q : ℕ) → IsMember xs q ⊎ (IsMember xs q → ⊥)
member_or [] q = inr (λ m. no_value refl m.1)
member_or (x ∷ xs) q = elim (cases_eq x q) [
  | inl s ↦ inl (0, ap (λ n. Some n) s)
  | inr ne ↦ elim (member_or xs q) [
    | inl m ↦ inl (suc m.0, m.1)
    | inr n ↦ inr (λ m. n (past x xs q ne m.0 m.1))
  ]
]

pub pushed : (xs : List ℕ) (y q : ℕ) → IsMember (xs ++ y ∷ []) q → IsMember xs q ⊎ (q ≡ y)
pushed xs y q m = elim (last_or xs y m.0 q m.1) [ inl f ↦ inl (m.0, f) | inr g ↦ inr g.1 ]

pub pushed_old : (xs : List ℕ) (y q : ℕ) → IsMember xs q → IsMember (xs ++ y ∷ []) q
pushed_old xs y q m = (m.0, in_front xs (y ∷ []) m.0 q m.1)

pub pushed_new : (xs : List ℕ) (y : ℕ) → IsMember (xs ++ y ∷ []) y
pushed_new xs y = (length xs, at_end xs y)

-- what holds of the labels once those of A and the cores of B are one cluster
pub record Grown (old : Labels) (A B : ℕ → Type 0) (label : ℕ) (new : Labels) : Type 0 where
  pub core : (q : ℕ) → B q → map.get new q ≡ Some label
  pub joined : (q x : ℕ) → A x → map.get old q ≡ Some x → map.get new q ≡ Some label
  pub others : (q : ℕ) → (B q → ⊥) → ((x : ℕ) → A x → map.get old q ≡ Some x → ⊥) → map.get new q ≡ map.get old q
  pub one : A label ⊎ B label
  pub least : (x : ℕ) → (A x ⊎ B x) → label ≤ x

-- the labels joined by then: one label, and the first ones of a list
abbrev pub Chosen : List ℕ → ℕ → ℕ → Type 0
Chosen done target x = (x ≡ target) ⊎ IsMember done x

abbrev pub NoCore : ℕ → Type 0
NoCore q = ⊥

pub start : (old : Labels) (target : ℕ) → Grown old (Chosen [] target) NoCore target old
start old target = record {
  core = λ q b. absurd b;
  joined = λ q x a has. elim a [ inl s ↦ has ∙ ap (λ n. Some n) s | inr m ↦ absurd (no_value refl m.1) ];
  others = λ q n m. refl;
  one = inl (inl refl);
  least = λ x a. elim a [ inl c ↦ (elim c [ inl s ↦ omega (arith, s) | inr m ↦ absurd (no_value refl m.1) ]) | inr b ↦ absurd b ];
}

-- the next label of the list has a label now: the joined one's or its own
pub next_labelled : (old now : Labels) (done : List ℕ) (target label l : ℕ) → map.get old l ≡ Some l → Grown old (Chosen done target) NoCore label now
    → (map.get now l ≡ Some label) ⊎ ((map.get now l ≡ Some l) × (Chosen done target l → ⊥))
next_labelled old now done target label l is g = elim (cases_eq l target) [
  | inl s ↦ inl (g.joined l l (inl s) is)
  | inr ne ↦ elim (member_or done l) [
    | inl m ↦ inl (g.joined l l (inr m) is)
    | inr n ↦
        let not_chosen : ((l ≡ target) ⊎ IsMember done l) → ⊥ = λ a. elim a [ inl s ↦ ne s | inr m ↦ n m ] in
        inr (g.others l (λ b. b) (λ x a has. not_chosen (subst (λ y. (y ≡ target) ⊎ IsMember done y) (sym (same_value is has)) a)) ∙ is, not_chosen)
  ]
]

-- the label of the joined ones is theirs
pub own_label : (old now : Labels) (A B : ℕ → Type 0) (label : ℕ) → ((x : ℕ) → A x → map.get old x ≡ Some x) → Grown old A B label now → map.get now label ≡ Some label
own_label old now A B label labels g = elim g.one [ inl a ↦ g.joined label label a (labels label a) | inr b ↦ g.core label b ]

pub chosen_labels : (old : Labels) (done : List ℕ) (target : ℕ) → AreLabels old done → map.get old target ≡ Some target → (x : ℕ) → Chosen done target x → map.get old x ≡ Some x
chosen_labels old done target labels is x a = elim a [ inl s ↦ subst (λ n. map.get old n ≡ Some n) (sym s) is | inr m ↦ labels x m ]

-- one more label joined
pub merged_more : (old now new : Labels) (done : List ℕ) (target label l x : ℕ) → map.get old l ≡ Some l → map.get now l ≡ Some x → Grown old (Chosen done target) NoCore label now
    → IsMerged now label x new → Grown old (Chosen (done ++ l ∷ []) target) NoCore (min label x) new
merged_more old now new done target label l x is has g m =
    let which = next_labelled old now done target label l is g in
    let wide : (y : ℕ) → ((y ≡ target) ⊎ IsMember done y) → ((y ≡ target) ⊎ IsMember (done ++ l ∷ []) y) = λ y a. elim a [ inl s ↦ inl s | inr n ↦ inr (pushed_old done l y n) ] in
    let back : (y : ℕ) → ((y ≡ target) ⊎ IsMember (done ++ l ∷ []) y) → (((y ≡ target) ⊎ IsMember done y) ⊎ (y ≡ l)) = λ y a. elim a [
      | inl s ↦ inl (inl s)
      | inr n ↦ elim (pushed done l y n) [ inl f ↦ inl (inr f) | inr s ↦ inr s ]
    ] in
    let last : (l ≡ target) ⊎ IsMember (done ++ l ∷ []) l = inr (pushed_new done l) in
    let x_is : (x ≡ label) ⊎ (x ≡ l) = elim which [ inl f ↦ inl (same_value has f) | inr f ↦ inr (same_value has f.0) ] in
    let low : min label x ≤ l = elim which [
      | inl f ↦
          let s : x ≡ label = same_value has f in
          elim (cases_eq l target) [
            | inl t ↦ let le : label ≤ l = g.least l (inl (inl t)) in omega (arith, s, le)
            | inr ne ↦ elim (member_or done l) [
              | inl n ↦ let le : label ≤ l = g.least l (inl (inr n)) in omega (arith, s, le)
              | inr n ↦
                  let own = g.others l (λ b. b) (λ y a e. elim (subst (λ z. (z ≡ target) ⊎ IsMember done z) (sym (same_value is e)) a) [ inl t ↦ ne t | inr d ↦ n d ]) ∙ is in
                  let t : x ≡ l = same_value has own in
                  omega (arith, t)
            ]
          ]
      | inr f ↦ let s : x ≡ l = same_value has f.0 in omega (arith, s)
    ] in
    record {
      core = λ q b. absurd b;
      joined = λ q y a e. elim (back y a) [
        | inl f ↦ m.first q (g.joined q y f e)
        | inr s ↦
            let e_l : map.get old q ≡ Some l = e ∙ ap (λ n. Some n) s in
            elim (cases_eq l target) [
              | inl t ↦ m.first q (g.joined q l (inl t) e_l)
              | inr ne ↦ elim (member_or done l) [
                | inl n ↦ m.first q (g.joined q l (inr n) e_l)
                | inr n ↦
                    let not_chosen : (z : ℕ) → ((z ≡ target) ⊎ IsMember done z) → map.get old q ≡ Some z → ⊥ = λ z c f. elim (subst (λ w. (w ≡ target) ⊎ IsMember done w) (sym (same_value e_l f)) c) [ inl t ↦ ne t | inr d ↦ n d ] in
                    let not_chosen_l : (z : ℕ) → ((z ≡ target) ⊎ IsMember done z) → map.get old l ≡ Some z → ⊥ = λ z c f. elim (subst (λ w. (w ≡ target) ⊎ IsMember done w) (sym (same_value is f)) c) [ inl t ↦ ne t | inr d ↦ n d ] in
                    let x_l : x ≡ l = same_value has (g.others l (λ b. b) not_chosen_l ∙ is) in
                    m.second q (g.others q (λ b. b) not_chosen ∙ (e_l ∙ ap (λ n. Some n) (sym x_l)))
              ]
            ]
      ];
      others = λ q n far.
          let stays : map.get now q ≡ map.get old q = g.others q n (λ y a e. far y (wide y a) e) in
          let not_label : map.get now q ≡ Some label → ⊥ = λ e. elim g.one [ inl a ↦ far label (wide label a) (sym stays ∙ e) | inr b ↦ b ] in
          let not_x : map.get now q ≡ Some x → ⊥ = λ e. elim x_is [
            | inl s ↦ not_label (e ∙ ap (λ z. Some z) s)
            | inr s ↦ far l last (sym stays ∙ (e ∙ ap (λ z. Some z) s))
          ] in
          m.others q not_label not_x ∙ stays;
      one = elim (cases_lt x label) [
        | inl lt ↦
            let t : min label x ≡ x = omega (arith, lt) in
            elim x_is [
              | inl s ↦ absurd (omega (arith, lt, s))
              | inr s ↦ inl (subst (λ z. (z ≡ target) ⊎ IsMember (done ++ l ∷ []) z) (sym (t ∙ s)) last)
            ]
        | inr le ↦
            let t : min label x ≡ label = omega (arith, le) in
            elim g.one [ inl a ↦ inl (subst (λ z. (z ≡ target) ⊎ IsMember (done ++ l ∷ []) z) (sym t) (wide label a)) | inr b ↦ absurd b ]
      ];
      least = λ y a. elim a [
        | inl c ↦ elim (back y c) [
          | inl f ↦ let le : label ≤ y = g.least y (inl f) in omega (arith, le)
          | inr s ↦ omega (arith, low, s)
        ]
        | inr b ↦ absurd b
      ];
    }

-- one more core added
pub added_more : (old now new : Labels) → HasLeast old → (A : ℕ → Type 0) (done : List ℕ) (label core : ℕ) → ((q : ℕ) → IsMember done q → map.get old q ≡ None) → ((x : ℕ) → A x → map.get old x ≡ Some x) → map.get old core ≡ None
    → (IsMember done core → ⊥) → Grown old A (IsMember done) label now → IsWith now label core new → Grown old A (IsMember (done ++ core ∷ [])) (min label core) new
added_more old now new least A done label core free_done labels free fresh g w =
    let to = min label core in
    let at_core : map.get new core ≡ Some to = w core ∙ (elim (eqb_tells core core) [ inl t ↦ ap (λ b. cond b (Some to) (option_map (relabel label to) (map.get now core))) t.0 | inr f ↦ absurd (f.1 refl) ]) in
    let far : (q : ℕ) → q ≢ core → map.get new q ≡ option_map (relabel label to) (map.get now q) = λ q ne.
    w q ∙ (elim (eqb_tells q core) [ inl t ↦ absurd (ne t.1) | inr f ↦ ap (λ b. cond b (Some to) (option_map (relabel label to) (map.get now q))) f.0 ]) in
    let moves : (q : ℕ) → q ≢ core → map.get now q ≡ Some label → map.get new q ≡ Some to = λ q ne e.
    far q ne ∙ (ap (option_map (relabel label to)) e ∙ ap (λ n. Some n) (same_label label label refl to)) in
    record {
      core = λ q b. elim (cases_eq q core) [
        | inl s ↦ ap (map.get new) s ∙ at_core
        | inr ne ↦ elim (pushed done core q b) [ inl m ↦ moves q ne (g.core q m) | inr s ↦ absurd (ne s) ]
      ];
      joined = λ q x a e. moves q (λ s. no_value (ap (map.get old) s ∙ free) e) (g.joined q x a e);
      others = λ q n m.
          let ne : q ≢ core = λ s. n (subst (IsMember (done ++ core ∷ [])) (sym s) (pushed_new done core)) in
          let stays : map.get now q ≡ map.get old q = g.others q (λ b. n (pushed_old done core q b)) m in
          far q ne
          ∙ (elim (known (map.get now q)) [
            | inl gone ↦ ap (option_map (relabel label to)) gone ∙ sym gone
            | inr r ↦
                let differs : r.0 ≡ label → ⊥ = λ s.
                let e : map.get old q ≡ Some label = sym stays ∙ (r.1 ∙ ap (λ z. Some z) s) in
                elim g.one [
                  | inl a ↦ m label a e
                  | inr b ↦ no_value (free_done label b) (least q label e).1
                ] in
                ap (option_map (relabel label to)) r.1 ∙ (ap (λ z. Some z) (other_label label r.0 differs to) ∙ sym r.1)
          ] ∙ stays);
      one = elim (cases_lt core label) [
        | inl lt ↦ let t : to ≡ core = omega (arith, lt) in inr (subst (IsMember (done ++ core ∷ [])) (sym t) (pushed_new done core))
        | inr le ↦
            let t : to ≡ label = omega (arith, le) in
            elim g.one [ inl a ↦ inl (subst A (sym t) a) | inr b ↦ inr (subst (IsMember (done ++ core ∷ [])) (sym t) (pushed_old done core label b)) ]
      ];
      least = λ x a. elim a [
        | inl f ↦ let le : label ≤ x = g.least x (inl f) in omega (arith, le)
        | inr b ↦ elim (pushed done core x b) [ inl m ↦ (let le : label ≤ x = g.least x (inr m) in omega (arith, le)) | inr s ↦ omega (arith, s) ]
      ];
    }

-- all of it, in the words of the contract
pub joined_end : (old new : Labels) (labels cores : List ℕ) (target label : ℕ) → IsMember labels target → Grown old (Chosen labels target) (IsMember cores) label new → IsJoined old labels cores label new
joined_end old new labels cores target label m g = record {
  core = g.core;
  joined = λ q h. g.joined q h.0 (inr h.1.0) h.1.1;
  others = λ q n far. g.others q n (λ x a e. far (x, ((elim a [ inl s ↦ subst (IsMember labels) (sym s) m | inr f ↦ f ]), e)));
}

pub least_end : (old new : Labels) (labels cores : List ℕ) (target label : ℕ) → IsMember labels target → Grown old (Chosen labels target) (IsMember cores) label new → IsLeastOfBoth label labels cores
least_end old new labels cores target label m g = record {
  one = elim g.one [
    | inl a ↦ inl (elim a [ inl s ↦ subst (IsMember labels) (sym s) m | inr f ↦ f ])
    | inr b ↦ inr b
  ];
  first = λ x f. g.least x (inl (inr f));
  second = λ y f. g.least y (inr f);
}

-- before the first core
pub no_cores : (old now : Labels) (A : ℕ → Type 0) (label : ℕ) → Grown old A NoCore label now → Grown old A (IsMember []) label now
no_cores old now A label g = record {
  core = λ q b. absurd (no_value refl b.1);
  joined = g.joined;
  others = λ q n far. g.others q (λ b. b) far;
  one = elim g.one [ inl a ↦ inl a | inr b ↦ absurd b ];
  least = λ x a. elim a [ inl f ↦ g.least x (inl f) | inr b ↦ absurd (no_value refl b.1) ];
}
