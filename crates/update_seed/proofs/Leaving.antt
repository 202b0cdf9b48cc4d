-- What lost cores leave behind, one of them after the other.
use Rattle.std.proofs.Common.{◌≡◌, ℕ, Bool, true, false, not, ◌&&◌, List, [], ◌∷◌, ◌++◌, filter, find, cond, IsTrue, IsSome, ◌↔◌, refl, sym, ap, subst, ◌∙◌, None, Some, inl, inr, ◌⊎◌, slice_get, arith}
use Rattle.std.specs.declared.option.Option.{Option}
use Rattle.std.specs.Option.{option_map}
use Rattle.std.proofs.lemmas.Option.{slice_get_within}
use Rattle.std.proofs.lemmas.Bool.{cases_Bool}
use Rattle.std.proofs.lemmas.Bool.Decides.{eqb_tells}
use Rattle.std.specs.FinMap as map
use Rattle.count_book.specs.declared.row.Row.{Row}
use Rattle.count_book.specs.Counted.{Counted, IsCore, anchor_in, anchored, updated}
use Rattle.label_book.specs.Labels.{Labels, IsMember, EachOnce}
use Rattle.label_book.proofs.Views.{same_value, no_value, known, some_and}
use Rattle.label_book.proofs.Added.{some_is, in_front}
use Rattle.label_book.proofs.Joined.{member_or, pushed, pushed_old, pushed_new}
use Rattle.label_book.proofs.Parted.{once_more}
use Rattle.std.specs.Ordering.{nat_cmp}
use Rattle.std.specs.FinMap.Entries.{find as value_at}
use Rattle.vec_record.specs.Held.{Rows}
use Rattle.plain_dbscan.specs.Marks.{Density, Entries, within, is_near, near_of, numbers_of as numbers_in}
use Rattle.plain_dbscan.proofs.Chains.{Member}
use Rattle.plain_dbscan.proofs.Members.{Rises}
use Rattle.plain_dbscan.proofs.CoresOf.{rises_sorted}
use Rattle.update_seed.specs.declared.labelled.Labelled.{Labelled}
use Rattle.update_seed.specs.declared.found.Found.{Found}
use Rattle.update_seed.specs.declared.former.Former.{Former}
use Rattle.update_seed.specs.Books.{is_core_row, core_in}
use Rattle.update_seed.specs.Outgoing.{IsLost, IsNearLost, AreFormer, IsLoose, AreHung}
use Rattle.update_seed.specs.inside.Ties.{Same}
use Rattle.update_seed.specs.inside.Split.{numbers_of, Has, AreLabelled, AreSplit, AreLost, IsPut}
use Rattle.update_seed.specs.inside.Found.{IsKept, hangs_on, is_at, IsLooked, AreFound}
use Rattle.update_seed.proofs.Lists.{none, Apart, once_apart, apart_once, to_member, from_member, in_filter, to_filter, once_filter}
use Rattle.update_seed.proofs.Tied.{is_there, not_there}
use Rattle.update_seed.proofs.Nearby.{at_changed, off_changed}
use Rattle.update_seed.proofs.Linked.{AreNear}
use Rattle.update_seed.proofs.ByLabel.{number_at, at_number}
use Rattle.update_seed.proofs.Looking.{core_in_is, numbers_more, labelled_more}

-- nothing is near a record that isn't there
pub none_near : (d : Density) (es : Entries) (a : ℕ) → value_at nat_cmp a es ≡ None → (q : ℕ) → IsTrue (is_near d es a q) → ⊥
none_near d es a off q h = let f : false ≡ true = sym (ap (λ o. within d o (value_at nat_cmp q es)) off) ∙ h in cc

rises_apart : (xs : List ℕ) → Rises xs → Apart xs
rises_apart [] r = tt
rises_apart (x ∷ xs) r = ((λ m. let less = r.0 x m in absurd (omega (arith, less))), rises_apart xs r.1)

-- what is near a record is named once
pub near_once : (d : Density) (rows : Rows) (a : ℕ) (found : List ℕ) → found ≡ near_of d (map.entries rows) a → EachOnce found
near_once d rows a found e =
    let es = map.entries rows in
    subst EachOnce (sym e) (once_filter (is_near d es a) (numbers_in es) (apart_once (numbers_in es) (rises_apart (numbers_in es) (rises_sorted es (map.entries_sorted rows)))))

-- members of two lists in one
either : (xs ys : List ℕ) (q : ℕ) → Member q (xs ++ ys) → Member q xs ⊎ Member q ys
either [] ys q m = inr m
either (x ∷ xs) ys q (inl e) = inl (inl e)
either (x ∷ xs) ys q (inr m) = elim (either xs ys q m) [ inl a ↦ inl (inr a) | inr b ↦ inr b ]

behind : (xs ys : List ℕ) (q : ℕ) → Member q ys → Member q (xs ++ ys)
behind [] ys q m = m
behind (x ∷ xs) ys q m = inr (behind xs ys q m)

in_both : (xs ys : List ℕ) (q : ℕ) → IsMember (xs ++ ys) q → IsMember xs q ⊎ IsMember ys q
in_both xs ys q m = elim (either xs ys q (to_member (xs ++ ys) q m)) [ inl a ↦ inl (from_member xs q a) | inr b ↦ inr (from_member ys q b) ]

in_first_one : (xs ys : List ℕ) (q : ℕ) → IsMember xs q → IsMember (xs ++ ys) q
in_first_one xs ys q m = (m.0, in_front xs ys m.0 q m.1)

in_second : (xs ys : List ℕ) (q : ℕ) → IsMember ys q → IsMember (xs ++ ys) q
in_second xs ys q m = from_member (xs ++ ys) q (behind xs ys q (to_member ys q m))

apart_both : (xs ys : List ℕ) → Apart xs → Apart ys → ((q : ℕ) → Member q xs → Member q ys → ⊥) → Apart (xs ++ ys)
apart_both [] ys a b n = b
apart_both (x ∷ xs) ys a b n = (
  λ m. elim (either xs ys x m) [ inl c ↦ a.0 c | inr c ↦ n x (inl refl) c ],
  apart_both xs ys a.1 b (λ q c d. n q (inr c) d),
)

once_both : (xs ys : List ℕ) → EachOnce xs → EachOnce ys → ((q : ℕ) → IsMember xs q → IsMember ys q → ⊥) → EachOnce (xs ++ ys)
once_both xs ys a b n = apart_once (xs ++ ys) (apart_both xs ys (once_apart xs a) (once_apart ys b) (λ q c d. n q (from_member xs q c) (from_member ys q d)))

-- what hanging on a core is
at_is : (core : ℕ) (o : Option ℕ) → is_at core o ≡ true → o ≡ Some core
at_is core None h = absurd (cc)
at_is core (Some x) h = elim (eqb_tells x core) [ inl t ↦ ap (λ n. Some n) t.1 | inr f ↦ let g : false ≡ true = sym f.0 ∙ h in absurd (cc) ]

is_at_it : (core : ℕ) (o : Option ℕ) → o ≡ Some core → is_at core o ≡ true
is_at_it core o e = ap (is_at core) e ∙ (elim (eqb_tells core core) [ inl t ↦ t.0 | inr f ↦ absurd (f.1 refl) ])

not_at : (core : ℕ) (o : Option ℕ) → (o ≡ Some core → ⊥) → is_at core o ≡ false
not_at core o n = elim (cases_Bool (is_at core o)) [ inl t ↦ absurd (n (at_is core o t)) | inr f ↦ f ]

hangs : (b d : Bool) → (not b && d) ≡ true → (b ≡ false) × (d ≡ true)
hangs true d h = absurd (cc)
hangs false d h = (refl, h)

to_hang : (b d : Bool) → b ≡ false → d ≡ true → (not b && d) ≡ true
to_hang b d e f = ap (λ x. not x && d) e ∙ f

no_hang : (b d : Bool) → d ≡ false → (not b && d) ≡ false
no_hang true d e = refl
no_hang false d e = e

no_core : (c : Counted) (q : ℕ) → core_in c q ≡ false → IsCore c q → ⊥
no_core c q e i = let f : false ≡ true = sym e ∙ (core_in_is c q).1 i in absurd (cc)

not_core : (c : Counted) (q : ℕ) → (IsCore c q → ⊥) → core_in c q ≡ false
not_core c q n = elim (cases_Bool (core_in c q)) [ inl t ↦ absurd (n ((core_in_is c q).0 t)) | inr f ↦ f ]

hung_is : (c : Counted) (core q : ℕ) → IsTrue (hangs_on c core q) → (IsCore c q → ⊥) × (anchor_in (map.get c.rows q) ≡ Some core)
hung_is c core q h = let g = hangs (core_in c q) (is_at core (anchor_in (map.get c.rows q))) h in (no_core c q g.0, at_is core (anchor_in (map.get c.rows q)) g.1)

is_hung : (c : Counted) (core q : ℕ) → (IsCore c q → ⊥) → anchor_in (map.get c.rows q) ≡ Some core → IsTrue (hangs_on c core q)
is_hung c core q n e = to_hang (core_in c q) (is_at core (anchor_in (map.get c.rows q))) (not_core c q n) (is_at_it core (anchor_in (map.get c.rows q)) e)

-- lost cores, and one more
lost_old : (labels : Labels) (gone : ℕ) (done : List ℕ) (b x : ℕ) → IsLost labels gone done x → IsLost labels gone (done ++ b ∷ []) x
lost_old labels gone done b x l = elim l [ inl m ↦ inl (pushed_old done b x m) | inr g ↦ inr g ]

lost_or : (labels : Labels) (gone : ℕ) (done : List ℕ) (b x : ℕ) → IsLost labels gone (done ++ b ∷ []) x → IsLost labels gone done x ⊎ (x ≡ b)
lost_or labels gone done b x l = elim l [
  | inl m ↦ elim (pushed done b x m) [ inl o ↦ inl (inl o) | inr e ↦ inr e ]
  | inr g ↦ inl (inr g)
]

module _ (near : ℕ → ℕ → Bool) (counts : Counted) (labels : Labels) (gone : ℕ) (around : List ℕ) where
  pub found_none : (f : Found) → IsKept labels f → f.seeds.items ≡ [] → f.loose ≡ [] → map.get labels gone ≡ None → AreFound near counts labels gone around [] f
  found_none f kept seeds loose off = record {
    kept = kept;
    seeds = λ q. (
      λ i. absurd (none q (subst (λ xs. IsMember (numbers_of xs) q) seeds i)),
      λ h. absurd (nobody h.1.0 h.1.1.0),
    );
    loose = record {
      exact = λ q. (
        λ i. absurd (none q (subst (λ xs. IsMember xs q) loose i)),
        λ h. let s = some_and (anchor_in (map.get counts.rows q)) _ h.1 in absurd (nobody s.0 s.2.0),
      );
      once = subst EachOnce (sym loose) (λ i j core a b. absurd (no_value refl a));
    };
  }
    where
      nobody : (x : ℕ) → IsLost labels gone [] x → ⊥
      nobody x l = elim l [ inl m ↦ none x m | inr g ↦ not_there off g.1 ]

  pub found_around : (f g : Found) → ((q : ℕ) → IsTrue (near gone q) → ⊥) → EachOnce around → IsSome (map.get labels gone) → f.seeds.items ≡ [] → f.loose ≡ []
      → IsLooked counts labels gone around f g → AreFound near counts labels gone around [] g
  found_around f g far once named seeds loose is = record {
    kept = is.kept;
    seeds = λ q. (
      λ i. elim ((is.seeds q).0 i) [
        | inl o ↦ absurd (none q (subst (λ xs. IsMember (numbers_of xs) q) seeds o))
        | inr n ↦ (n.1.0, (gone, (inr (refl, named), (inr (refl, n.0), n.1.1))))
      ],
      λ h. (is.seeds q).1 (inr (near_it q h.1.0 h.1.1.0 h.1.1.1.0, (h.0, subst (λ x. Same labels x q) (is_gone h.1.0 h.1.1.0) h.1.1.1.1))),
    );
    loose = record {
      exact = λ q. (
        λ i.
            let h = in_filter (hangs_on counts gone) around q (subst (λ xs. IsMember xs q) all i) in
            let u = hung_is counts gone q h.1 in
            (u.0, some_is (λ c. IsLost labels gone [] c × IsNearLost near gone around c q) u.1 (inr (refl, named), inr (refl, h.0))),
        λ h.
            let s = some_and (anchor_in (map.get counts.rows q)) _ h.1 in
            subst (λ xs. IsMember xs q) (sym all)
            (to_filter (hangs_on counts gone) around q (near_it q s.0 s.2.0 s.2.1) (is_hung counts gone q h.0 (s.1 ∙ ap (λ n. Some n) (is_gone s.0 s.2.0)))),
      );
      once = subst EachOnce (sym all) (once_filter (hangs_on counts gone) around once);
    };
  }
    where
      all : g.loose ≡ filter (hangs_on counts gone) around
      all = is.loose ∙ ap (λ ys. ys ++ filter (hangs_on counts gone) around) loose

      is_gone : (x : ℕ) → IsLost labels gone [] x → x ≡ gone
      is_gone x l = elim l [ inl m ↦ absurd (none x m) | inr e ↦ e.0 ]

      near_it : (q x : ℕ) → IsLost labels gone [] x → IsNearLost near gone around x q → IsMember around q
      near_it q x l n = elim n [ inl h ↦ absurd (far q (subst (λ y. IsTrue (near y q)) (is_gone x l) h)) | inr e ↦ e.1 ]

  module _ (done found : List ℕ) (b : ℕ) (now : Counted) (f g : Found) (all : AreNear near b found) (once : EachOnce found) (fresh : IsMember done b → ⊥) (other : b ≡ gone → ⊥)
      (cores : (q : ℕ) → core_in now q ≡ core_in counts q) (same_hung : (q : ℕ) → hangs_on now b q ≡ hangs_on counts b q) (old : AreFound near counts labels gone around done f)
      (is : IsLooked now labels b found f g) where
    core_now : (q : ℕ) → IsCore now q → IsCore counts q
    core_now q i = (core_in_is counts q).0 (sym (cores q) ∙ (core_in_is now q).1 i)

    now_core : (q : ℕ) → IsCore counts q → IsCore now q
    now_core q i = (core_in_is now q).0 (cores q ∙ (core_in_is counts q).1 i)

    near_b : (x q : ℕ) → x ≡ b → IsNearLost near gone around x q → IsMember found q
    near_b x q e n = elim n [
      | inl h ↦ (all q).1 (subst (λ y. IsTrue (near y q)) e h)
      | inr h ↦ absurd (other (sym e ∙ h.0))
    ]

    not_lost : IsLost labels gone done b → ⊥
    not_lost l = elim l [ inl m ↦ fresh m | inr e ↦ other e.0 ]

    loose_at : (q : ℕ) → IsMember (filter (hangs_on now b) found) q → IsMember found q × (IsTrue (hangs_on counts b q))
    loose_at q i = let h = in_filter (hangs_on now b) found q i in (h.0, sym (same_hung q) ∙ h.1)

    to_loose : (q : ℕ) → IsMember g.loose q → IsLoose near counts labels gone around (done ++ b ∷ []) q
    to_loose q i = elim (in_both f.loose (filter (hangs_on now b) found) q (subst (λ xs. IsMember xs q) is.loose i)) [
      | inl o ↦
          let h = (old.loose.exact q).0 o in
          let s = some_and (anchor_in (map.get counts.rows q)) _ h.1 in
          (h.0, some_is (λ c. IsLost labels gone (done ++ b ∷ []) c × IsNearLost near gone around c q) s.1 (lost_old labels gone done b s.0 s.2.0, s.2.1))
      | inr n ↦
          let h = loose_at q n in
          let u = hung_is counts b q h.1 in
          (u.0, some_is (λ c. IsLost labels gone (done ++ b ∷ []) c × IsNearLost near gone around c q) u.1 (inl (pushed_new done b), inl ((all q).0 h.0)))
    ]

    from_loose : (q : ℕ) → IsLoose near counts labels gone around (done ++ b ∷ []) q → IsMember g.loose q
    from_loose q h =
        let s = some_and (anchor_in (map.get counts.rows q)) _ h.1 in
        subst (λ xs. IsMember xs q) (sym is.loose) (elim (lost_or labels gone done b s.0 s.2.0) [
          | inl l ↦ in_first_one f.loose (filter (hangs_on now b) found) q ((old.loose.exact q).1 (h.0, some_is (λ c. IsLost labels gone done c × IsNearLost near gone around c q) s.1 (l, s.2.1)))
          | inr e ↦ in_second f.loose (filter (hangs_on now b) found) q
              (to_filter (hangs_on now b) found q (near_b s.0 q e s.2.1) (same_hung q ∙ is_hung counts b q h.0 (s.1 ∙ ap (λ n. Some n) e)))
        ])

    pub found_more : AreFound near counts labels gone around (done ++ b ∷ []) g
    found_more = record {
      kept = is.kept;
      seeds = λ q. (
        λ i. elim ((is.seeds q).0 i) [
          | inl o ↦ let h = (old.seeds q).0 o in (h.0, (h.1.0, (lost_old labels gone done b h.1.0 h.1.1.0, h.1.1.1)))
          | inr n ↦ (core_now q n.1.0, (b, (inl (pushed_new done b), (inl ((all q).0 n.0), n.1.1))))
        ],
        λ h. (is.seeds q).1 (elim (lost_or labels gone done b h.1.0 h.1.1.0) [
          | inl l ↦ inl ((old.seeds q).1 (h.0, (h.1.0, (l, h.1.1.1))))
          | inr e ↦ inr (near_b h.1.0 q e h.1.1.1.0, (now_core q h.0, subst (λ x. Same labels x q) e h.1.1.1.1))
        ]),
      );
      loose = record {
        exact = λ q. (to_loose q, from_loose q);
        once = subst EachOnce (sym is.loose) (once_both f.loose (filter (hangs_on now b) found) old.loose.once (once_filter (hangs_on now b) found once) (λ q i n.
            let h = (old.loose.exact q).0 i in
            let s = some_and (anchor_in (map.get counts.rows q)) _ h.1 in
            let u = hung_is counts b q (loose_at q n).1 in
            not_lost (subst (IsLost labels gone done) (same_value s.1 u.1) s.2.0)));
      };
    }

-- anchors
row_stays : (minpts : ℕ) (a : Option ℕ) (o : Option Row) → is_core_row minpts (option_map (anchored a) o) ≡ is_core_row minpts o
row_stays minpts a None = refl
row_stays minpts a (Some r) = refl

find_same : (p r : ℕ → Bool) → ((q : ℕ) → p q ≡ r q) → (xs : List ℕ) → find p xs ≡ find r xs
find_same p r e [] = refl
find_same p r e (x ∷ xs) = ap (λ b. cond b (Some x) (find p xs)) (e x) ∙ ap (λ o. cond (r x) (Some x) o) (find_same p r e xs)

found_passes : (p : ℕ → Bool) (xs : List ℕ) (x : ℕ) → find p xs ≡ Some x → IsTrue (p x)
found_passes p [] x e = absurd (no_value refl e)
found_passes p (y ∷ xs) x e = elim (cases_Bool (p y)) [
  | inl t ↦ let s = same_value (sym (ap (λ b. cond b (Some y) (find p xs)) t) ∙ e) refl in subst (λ z. IsTrue (p z)) (sym s) t
  | inr f ↦ found_passes p xs x (sym (ap (λ b. cond b (Some y) (find p xs)) f) ∙ e)
]

pub hung_none : (all_near : ℕ → List ℕ) (c : Counted) → AreHung all_near [] c c
hung_none all_near c = record { minpts_kept = refl; hung = λ q m. absurd (none q m); others = λ q n. refl }

module _ (all_near : ℕ → List ℕ) (done : List ℕ) (old now : Counted) (h : AreHung all_near done old now) where
  pub core_same : (q : ℕ) → core_in now q ≡ core_in old q
  core_same q =
      ap (λ n. is_core_row n (map.get now.rows q)) h.minpts_kept
      ∙ elim (member_or done q) [
        | inl m ↦ ap (is_core_row old.minpts) (h.hung q m) ∙ row_stays old.minpts (find (core_in old) (all_near q)) (map.get old.rows q)
        | inr n ↦ ap (is_core_row old.minpts) (h.others q n)
      ]

  hung_not : (b q : ℕ) (o : Option Row) → (IsCore old b → ⊥) → is_at b (anchor_in (option_map (anchored (find (core_in old) (all_near q))) o)) ≡ false
  hung_not b q None n = refl
  hung_not b q (Some r) n = not_at b (find (core_in old) (all_near q)) (λ e. n ((core_in_is old b).0 (found_passes (core_in old) (all_near q) b e)))

  pub hangs_same : (b : ℕ) → (IsCore old b → ⊥) → ((q : ℕ) → IsMember done q → anchor_in (map.get old.rows q) ≡ None) → (q : ℕ) → hangs_on now b q ≡ hangs_on old b q
  hangs_same b n un q = elim (member_or done q) [
    | inl m ↦
        no_hang (core_in now q) (is_at b (anchor_in (map.get now.rows q))) (ap (λ o. is_at b (anchor_in o)) (h.hung q m) ∙ hung_not b q (map.get old.rows q) n)
        ∙ sym (no_hang (core_in old q) (is_at b (anchor_in (map.get old.rows q))) (ap (is_at b) (un q m)))
    | inr o ↦ ap (λ x. not x && is_at b (anchor_in (map.get now.rows q))) (core_same q) ∙ ap (λ o. not (core_in old q) && is_at b (anchor_in o)) (h.others q o)
  ]

  pub hung_more : (b : ℕ) (found : List ℕ) (new : Counted) → (IsMember done b → ⊥) → found ≡ all_near b → new ≡ updated (anchored (find (core_in now) found)) now b
      → AreHung all_near (done ++ b ∷ []) old new
  hung_more b found new fresh all is = record {
    minpts_kept = ap (λ (c : Counted). c.minpts) is ∙ h.minpts_kept;
    hung = λ q m. elim (pushed done b q m) [
      | inl o ↦ stays q (λ e. fresh (subst (IsMember done) e o)) ∙ h.hung q o
      | inr e ↦ subst (λ x. map.get new.rows x ≡ option_map (anchored (find (core_in old) (all_near x))) (map.get old.rows x)) (sym e) (
          ap (λ (c : Counted). map.get c.rows b) is
          ∙ at_changed (anchored (find (core_in now) found)) now.rows b (map.get now.rows b) refl
          ∙ ap (λ o. option_map (anchored (find (core_in now) found)) o) (h.others b fresh)
          ∙ ap (λ a. option_map (anchored a) (map.get old.rows b)) (find_same (core_in now) (core_in old) core_same found ∙ ap (find (core_in old)) all))
    ];
    others = λ q n. stays q (λ e. n (subst (IsMember (done ++ b ∷ [])) (sym e) (pushed_new done b))) ∙ h.others q (λ m. n (pushed_old done b q m));
  }
    where
      stays : (q : ℕ) → (q ≡ b → ⊥) → map.get new.rows q ≡ map.get now.rows q
      stays q ne = ap (λ (c : Counted). map.get c.rows q) is ∙ off_changed (anchored (find (core_in now) found)) now.rows b q (map.get now.rows b) ne

-- lost cores beside their labels
pub lost_start : (labels : Labels) (gone : ℕ) (list : List Labelled) → IsPut labels gone [] list → AreLost labels gone [] list
lost_start labels gone list is = elim (known (map.get labels gone)) [
  | inl off ↦ subst (AreLost labels gone []) (sym (is.absent off)) (record {
    labelled = λ k p e. absurd (no_value refl e);
    are = λ b. (λ m. absurd (none b m), λ l. elim l [ inl m ↦ m | inr e ↦ absurd (not_there off e.1) ]);
    once = λ i j core a b. absurd (no_value refl a);
  })
  | inr at ↦ subst (AreLost labels gone []) (sym (is.there at.0 at.1)) (record {
    labelled = labelled_more labels [] (record { label = at.0; number = gone }) (λ k p e. absurd (no_value refl e)) at.1;
    are = λ b. (
      λ m. elim (pushed [] gone b m) [ inl o ↦ absurd (none b o) | inr e ↦ inr (e, is_there at.1) ],
      λ l. elim l [ inl m ↦ absurd (none b m) | inr e ↦ subst (IsMember (gone ∷ [])) (sym e.0) (pushed_new [] gone) ],
    );
    once = once_more [] gone (λ i j core a b. absurd (no_value refl a)) (none gone);
  })
]

pub lost_more : (labels : Labels) (gone : ℕ) (done : List ℕ) (b : ℕ) (list more : List Labelled) → AreLost labels gone done list → IsSome (map.get labels b) → (IsMember done b → ⊥) → (b ≡ gone → ⊥)
    → IsPut labels b list more → AreLost labels gone (done ++ b ∷ []) more
lost_more labels gone done b list more old named fresh other is = elim (known (map.get labels b)) [
  | inl off ↦ absurd (not_there off named)
  | inr at ↦
      let p : Labelled = record { label = at.0; number = b } in
      let e = numbers_more list p in
      subst (AreLost labels gone (done ++ b ∷ [])) (sym (is.there at.0 at.1)) (record {
        labelled = labelled_more labels list p old.labelled at.1;
        are = λ q. (
          λ m. elim (pushed (numbers_of list) b q (subst (λ xs. IsMember xs q) e m)) [
            | inl o ↦ lost_old labels gone done b q ((old.are q).0 o)
            | inr s ↦ inl (subst (IsMember (done ++ b ∷ [])) (sym s) (pushed_new done b))
          ],
          λ l. subst (λ xs. IsMember xs q) (sym e) (elim (lost_or labels gone done b q l) [
            | inl o ↦ pushed_old (numbers_of list) b q ((old.are q).1 o)
            | inr s ↦ subst (IsMember (numbers_of list ++ b ∷ [])) (sym s) (pushed_new (numbers_of list) b)
          ]),
        );
        once = subst EachOnce (sym e) (once_more (numbers_of list) b old.once (λ m. elim ((old.are b).0 m) [ inl o ↦ fresh o | inr g ↦ other g.0 ]));
      })
]

-- a number has the label of the book, where it stands
has_is : (labels : Labels) (list : List Labelled) → AreLabelled labels list → (l q : ℕ) → Has list l q → IsMember (numbers_of list) q × (map.get labels q ≡ Some l)
has_is labels list all l q h = (
  (h.0, number_at list h.0 h.1.0 h.1.1.0 ∙ ap (λ n. Some n) h.1.1.1.1),
  ap (map.get labels) (sym h.1.1.1.1) ∙ all h.0 h.1.0 h.1.1.0 ∙ ap (λ n. Some n) h.1.1.1.0,
)

is_has : (labels : Labels) (list : List Labelled) → AreLabelled labels list → (l q : ℕ) → IsMember (numbers_of list) q → map.get labels q ≡ Some l → Has list l q
is_has labels list all l q m e =
    let p = at_number list m.0 q m.1 in
    (m.0, (p.0, (p.1.0, (same_value (ap (map.get labels) (sym p.1.1) ∙ all m.0 p.0 p.1.0) e, p.1.1))))

-- the former clusters, out of what was found
module _ (near : ℕ → ℕ → Bool) (counts : Counted) (labels : Labels) (gone : ℕ) (around lost : List ℕ) (pairs : List Labelled) (f : Found) (list : List Former)
    (out : AreLost labels gone lost pairs) (found : AreFound near counts labels gone around lost f) (is : AreSplit pairs f.seeds.items list) where
  lost_at : (j : ℕ) (g : Former) → slice_get list j ≡ Some g → (b : ℕ) → IsMember g.lost b ↔ (IsLost labels gone lost b × (map.get labels b ≡ Some g.label))
  lost_at j g e b = (
    λ m. let h = has_is labels pairs out.labelled g.label b (((is.lost_are j g e).are b).0 m) in ((out.are b).0 h.0, h.1),
    λ h. ((is.lost_are j g e).are b).1 (is_has labels pairs out.labelled g.label b ((out.are b).1 h.0) h.1),
  )

  seeds_at : (j : ℕ) (g : Former) → slice_get list j ≡ Some g → (q : ℕ)
      → IsMember g.seeds q ↔ ((IsCore counts q × (map.get labels q ≡ Some g.label)) × ((b : ℕ) × (IsMember g.lost b × IsNearLost near gone around b q)))
  seeds_at j g e q = (
    λ m.
        let h = has_is labels f.seeds.items found.kept.labelled g.label q (((is.seeds_are j g e).are q).0 m) in
        let s = (found.seeds q).0 h.0 in
        let same = s.1.1.1.1 in
        let at = same.1.0 ∙ ap (λ n. Some n) (same_value same.1.1 h.1) in
        ((s.0, h.1), (s.1.0, ((lost_at j g e s.1.0).1 (s.1.1.0, at), s.1.1.1.0))),
    λ h.
        let l = (lost_at j g e h.1.0).0 h.1.1.0 in
        ((is.seeds_are j g e).are q).1 (is_has labels f.seeds.items found.kept.labelled g.label q
        ((found.seeds q).1 (h.0.0, (h.1.0, (l.0, (h.1.1.1, (g.label, (l.1, h.0.1))))))) h.0.1),
  )

  pub former : AreFormer near counts labels gone around lost list
  former = record {
    each = λ j g e. record {
      some =
          let h = is.some j g e in
          let m = ((is.lost_are j g e).are h.0).1 h.1 in
          let low = slice_get_within g.lost m.0 h.0 m.1 in
          omega (arith, low);
      lost_are = lost_at j g e;
      lost_once = (is.lost_are j g e).once out.once;
      seeds_are = seeds_at j g e;
      seeds_once = (is.seeds_are j g e).once found.kept.once;
    };
    all = λ b l.
        let m = (out.are b).1 l in
        let p = at_number pairs m.0 b m.1 in
        let s = is.all p.0.label b (m.0, (p.0, (p.1.0, (refl, p.1.1)))) in
        (s.0, (s.1.0, (s.1.1.0, ((is.lost_are s.0 s.1.0 s.1.1.0).are b).1 (m.0, (p.0, (p.1.0, (sym s.1.1.1, p.1.1)))))));
    rising = is.rising;
  }
