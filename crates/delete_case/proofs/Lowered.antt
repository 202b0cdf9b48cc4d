-- One less is counted at one record after another, and the lost ones are gathered.
use Rattle.std.proofs.Common.{◌≡◌, ℕ, ◌-◌, ◌<◌, ◌≤◌, true, false, cond, List, [], ◌∷◌, ◌++◌, refl, sym, ap, subst, ◌∙◌, None, Some, inl, inr, arith}
use Rattle.std.specs.Prelude.{nat_lt}
use Rattle.std.specs.declared.option.Option.{Option}
use Rattle.std.specs.Option.{option_map, IsSomeAnd}
use Rattle.std.specs.Cmp.{nat_cmp_total}
use Rattle.std.specs.FinMap as map
use Rattle.std.proofs.lemmas.Bool.Decides.{nat_tests}
use Rattle.count_book.specs.declared.row.Row.{Row}
use Rattle.count_book.specs.Counted.{Counted, Rows, row_of, IsCore, CeasedToBeCore, one_less, put_back, changed, updated, left}
use Rattle.label_book.specs.Labels.{IsMember, EachOnce}
use Rattle.label_book.proofs.Added.{here, apart}
use Rattle.label_book.proofs.Joined.{member_or, pushed, pushed_old, pushed_new}
use Rattle.label_book.proofs.Parted.{once_more}
use Rattle.label_book.proofs.Taken.{removed_same, removed_other}
use Rattle.update_seed.proofs.Lists.{none, no_members}
use Rattle.delete_case.specs.Counting.{lowered, AreCountedOut}
use Rattle.delete_case.specs.inside.Lowering.{IsLowered, AreLowered}

at_changed : (f : Row → Row) (rows : Rows) (k : ℕ) (o : Option Row) → map.get rows k ≡ o → map.get (put_back f rows k o) k ≡ option_map f o
at_changed f rows k None e = e
at_changed f rows k (Some r) e = here rows k (f r)

off_changed : (f : Row → Row) (rows : Rows) (k q : ℕ) (o : Option Row) → (q ≡ k → ⊥) → map.get (put_back f rows k o) q ≡ map.get rows q
off_changed f rows k q None ne = refl
off_changed f rows k q (Some r) ne = apart rows k (f r) q ne

-- the row of a number that was changed, and those of the others
pub updated_here : (f : Row → Row) (c : Counted) (k : ℕ) → map.get (updated f c k).rows k ≡ option_map f (map.get c.rows k)
updated_here f c k = at_changed f c.rows k (map.get c.rows k) refl

pub updated_other : (f : Row → Row) (c : Counted) (k q : ℕ) → (q ≡ k → ⊥) → map.get (updated f c k).rows q ≡ map.get c.rows q
updated_other f c k q ne = off_changed f c.rows k q (map.get c.rows k) ne

-- whether a number is core is a matter of its row
pub same_core : (b c : Counted) (q : ℕ) → b.minpts ≡ c.minpts → map.get b.rows q ≡ map.get c.rows q → IsCore b q → IsCore c q
same_core b c q e f h = subst (λ o. IsSomeAnd o (λ r. c.minpts ≤ r.count)) f (subst (λ m. IsSomeAnd (map.get b.rows q) (λ r. m ≤ r.count)) e h)

-- a count above 1 is lowered, and another stays
less_by_one : (r : Row) → 1 < r.count → one_less r ≡ lowered r
less_by_one r h = ap (λ n. row_of n r.anchor) (let t : nat_lt 1 r.count ≡ true = grind (arith, nat_tests) in sym (ap (λ b. cond b (r.count - 1) r.count) t))

not_less : (r : Row) → r.count ≤ 1 → lowered r ≡ r
not_less r h = ap (λ n. row_of n r.anchor) (let t : nat_lt 1 r.count ≡ false = grind (arith, nat_tests) in ap (λ b. cond b (r.count - 1) r.count) t)

same_put : (f g : Row → Row) (rows : Rows) (k : ℕ) (r : Row) → map.get rows k ≡ Some r → f r ≡ g r → changed f rows k ≡ changed g rows k
same_put f g rows k r at e =
    ap (put_back f rows k) at ∙ ap (λ x. map.insert rows k x) e ∙ sym (ap (put_back g rows k) at)

kept_put : (f : Row → Row) (rows : Rows) (k : ℕ) (r : Row) → map.get rows k ≡ Some r → f r ≡ r → changed f rows k ≡ rows
kept_put f rows k r at e = map.same_map nat_cmp_total map.nat_cmp-IsAntisymmetric _ _ (λ q. elim (member_or (k ∷ []) q) [
  | inl m ↦ let same = same_one q m in subst (λ x. map.get (changed f rows k) x ≡ map.get rows x) (sym same) (at_changed f rows k (map.get rows k) refl ∙ ap (option_map f) at ∙ ap (λ x. Some x) e ∙ sym at)
  | inr n ↦ off_changed f rows k q (map.get rows k) (λ s. n (subst (λ x. IsMember (k ∷ []) x) (sym s) (0, refl)))
])
  where
    same_one : (q : ℕ) → IsMember (k ∷ []) q → q ≡ k
    same_one q m = elim (pushed [] k q m) [ inl o ↦ absurd (none q o) | inr s ↦ s ]

pub dropped : (c new : Counted) (k n : ℕ) → Some n ≡ option_map (λ (r : Row). r.count) (map.get c.rows k) → 1 < n → new ≡ updated one_less c k → new ≡ updated lowered c k
dropped c new k n at more is = by (map.get c.rows k) refl at
  where
    by : (o : Option Row) → map.get c.rows k ≡ o → Some n ≡ option_map (λ (r : Row). r.count) o → new ≡ updated lowered c k
    by None e a = absurd (cc)
    by (Some r) e a =
        let count : n ≡ r.count = cc in
        is ∙ ap (λ rs. record c { rows = rs }) (same_put one_less lowered c.rows k r e (less_by_one r (omega (arith, count, more))))

pub stayed : (c : Counted) (k n : ℕ) → Some n ≡ option_map (λ (r : Row). r.count) (map.get c.rows k) → n ≤ 1 → c ≡ updated lowered c k
stayed c k n at few = by (map.get c.rows k) refl at
  where
    by : (o : Option Row) → map.get c.rows k ≡ o → Some n ≡ option_map (λ (r : Row). r.count) o → c ≡ updated lowered c k
    by None e a = absurd (cc)
    by (Some r) e a =
        let count : n ≡ r.count = cc in
        sym (ap (λ rs. record c { rows = rs }) (kept_put lowered c.rows k r e (not_less r (omega (arith, count, few)))))

-- a book that is left as it was has no core less
pub none_ceased : (c : Counted) (k : ℕ) → CeasedToBeCore c c k → ⊥
none_ceased c k h = h.1 h.0

pub lowered_none : (c : Counted) → AreLowered [] c c []
lowered_none c = record {
  minpts_kept = refl;
  near = λ q m. absurd (none q m);
  far = λ q n. refl;
  lost_are = λ q. ((λ m. absurd (none q m)), (λ h. absurd (none q h.0)));
  lost_once = no_members;
}

module _ (done : List ℕ) (b : ℕ) (old now new : Counted) (lost lost' : List ℕ) (out : IsMember done b → ⊥) (l : AreLowered done old now lost) (s : IsLowered b now new lost lost') where
  minpts : new.minpts ≡ now.minpts
  minpts = ap (λ (x : Counted). x.minpts) s.book

  other : (q : ℕ) → (q ≡ b → ⊥) → map.get new.rows q ≡ map.get now.rows q
  other q ne = ap (λ (x : Counted). map.get x.rows q) s.book ∙ updated_other lowered now b q ne

  at_b : map.get new.rows b ≡ option_map lowered (map.get old.rows b)
  at_b = ap (λ (x : Counted). map.get x.rows b) s.book ∙ updated_here lowered now b ∙ ap (option_map lowered) (l.far b out)

  in_done : (q : ℕ) → IsMember done q → (q ≡ b → ⊥)
  in_done q m e = out (subst (IsMember done) e m)

  -- whether an earlier one ceased to be core is as before
  ceased_still : (q : ℕ) → (q ≡ b → ⊥) → CeasedToBeCore old now q → CeasedToBeCore old new q
  ceased_still q ne h = (h.0, λ k. h.1 (same_core new now q minpts (other q ne) k))

  ceased_before : (q : ℕ) → (q ≡ b → ⊥) → CeasedToBeCore old new q → CeasedToBeCore old now q
  ceased_before q ne h = (h.0, λ k. h.1 (same_core now new q (sym minpts) (sym (other q ne)) k))

  ceased_here : CeasedToBeCore now new b → CeasedToBeCore old new b
  ceased_here h = (same_core now old b l.minpts_kept (l.far b out) h.0, h.1)

  ceased_there : CeasedToBeCore old new b → CeasedToBeCore now new b
  ceased_there h = (same_core old now b (sym l.minpts_kept) (sym (l.far b out)) h.0, h.1)

  lost_to : (q : ℕ) → IsMember lost' q → IsMember (done ++ b ∷ []) q × CeasedToBeCore old new q
  lost_to q m = elim s.pushed [
    | inl y ↦ elim (pushed lost b q (subst (λ xs. IsMember xs q) y.1 m)) [
      | inl o ↦ let h = (l.lost_are q).0 o in (pushed_old done b q h.0, ceased_still q (in_done q h.0) h.1)
      | inr e ↦ subst (λ x. IsMember (done ++ b ∷ []) x × CeasedToBeCore old new x) (sym e) (pushed_new done b, ceased_here y.0)
    ]
    | inr n ↦ let h = (l.lost_are q).0 (subst (λ xs. IsMember xs q) n.1 m) in (pushed_old done b q h.0, ceased_still q (in_done q h.0) h.1)
  ]

  before_lost : (q : ℕ) → IsMember done q → CeasedToBeCore old new q → IsMember lost q
  before_lost q m h = (l.lost_are q).1 (m, ceased_before q (in_done q m) h)

  lost_from : (q : ℕ) → IsMember (done ++ b ∷ []) q → CeasedToBeCore old new q → IsMember lost' q
  lost_from q m h = elim s.pushed [
    | inl y ↦ subst (λ xs. IsMember xs q) (sym y.1) (elim (pushed done b q m) [
      | inl o ↦ pushed_old lost b q (before_lost q o h)
      | inr e ↦ subst (IsMember (lost ++ b ∷ [])) (sym e) (pushed_new lost b)
    ])
    | inr n ↦ subst (λ xs. IsMember xs q) (sym n.1) (elim (pushed done b q m) [
      | inl o ↦ before_lost q o h
      | inr e ↦ absurd (n.0 (ceased_there (subst (CeasedToBeCore old new) e h)))
    ])
  ]

  once : EachOnce lost'
  once = elim s.pushed [
    | inl y ↦ subst EachOnce (sym y.1) (once_more lost b l.lost_once (λ m. out ((l.lost_are b).0 m).0))
    | inr n ↦ subst EachOnce (sym n.1) l.lost_once
  ]

  pub lowered_more : AreLowered (done ++ b ∷ []) old new lost'
  lowered_more = record {
    minpts_kept = minpts ∙ l.minpts_kept;
    near = λ q m. elim (pushed done b q m) [
      | inl o ↦ other q (in_done q o) ∙ l.near q o
      | inr e ↦ subst (λ x. map.get new.rows x ≡ option_map lowered (map.get old.rows x)) (sym e) at_b
    ];
    far = λ q n.
        other q (λ e. n (subst (IsMember (done ++ b ∷ [])) (sym e) (pushed_new done b)))
        ∙ l.far q (λ m. n (pushed_old done b q m));
    lost_are = λ q. (lost_to q, λ h. lost_from q h.0 h.1);
    lost_once = once;
  }

-- and the deleted number leaves
pub counted_out : (gone : ℕ) (around : List ℕ) (old now new : Counted) (lost : List ℕ) → (IsMember around gone → ⊥) → AreLowered around old now lost → new ≡ left now gone → AreCountedOut gone around old new lost
counted_out gone around old now new lost out l is = record {
  minpts_kept = same ∙ l.minpts_kept;
  left = ap (λ (x : Counted). map.get x.rows gone) is ∙ removed_same now.rows gone;
  near = λ q m. other q (apart_from q m) ∙ l.near q m;
  far = λ q ne n. other q ne ∙ l.far q n;
  lost_are = λ q. (
    (λ m. let h = (l.lost_are q).0 m in (h.0, (h.1.0, λ k. h.1.1 (same_core new now q same (other q (apart_from q h.0)) k)))),
    (λ h. (l.lost_are q).1 (h.0, (h.1.0, λ k. h.1.1 (same_core now new q (sym same) (sym (other q (apart_from q h.0))) k)))),
  );
  lost_once = l.lost_once;
}
  where
    same : new.minpts ≡ now.minpts
    same = ap (λ (x : Counted). x.minpts) is

    other : (q : ℕ) → (q ≡ gone → ⊥) → map.get new.rows q ≡ map.get now.rows q
    other q ne = ap (λ (x : Counted). map.get x.rows q) is ∙ removed_other now.rows gone q ne

    apart_from : (q : ℕ) → IsMember around q → (q ≡ gone → ⊥)
    apart_from q m e = out (subst (IsMember around) e m)
