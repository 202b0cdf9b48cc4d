-- What is near a new core comes to it, one number after another.
use Rattle.std.proofs.Common.{◌≡◌, ℕ, Bool, true, false, cond, List, [], ◌∷◌, ◌++◌, IsSome, is_some, refl, sym, ap, subst, ◌∙◌, None, Some, inl, inr, arith}
use Rattle.std.specs.Prelude.{nat_lt}
use Rattle.std.specs.declared.option.Option.{Option}
use Rattle.std.specs.Option.{option_map}
use Rattle.std.specs.FinMap as map
use Rattle.count_book.specs.declared.row.Row.{Row}
use Rattle.count_book.specs.Counted.{Counted, Rows, offered, lesser, updated, put_back, row_of}
use Rattle.label_book.specs.Labels.{Labels, HasLeast, IsMember}
use Rattle.label_book.proofs.Views.{same_value, no_value}
use Rattle.label_book.proofs.Added.{here, apart}
use Rattle.label_book.proofs.Joined.{member_or, pushed, pushed_old, pushed_new}
use Rattle.update_seed.specs.inside.Ties.{Same, IsTied, IsName, AreTied, IsNamed, IsOffered}
use Rattle.update_seed.proofs.Lists.{only, the_one, none}
use Rattle.update_seed.proofs.Tied.{is_there, not_there, same_itself, same_there}

module _ (labels old new : Labels) (least : HasLeast labels) (core near : ℕ) where
  -- a number with a label comes by its label
  pub by_label : (l : ℕ) → map.get labels near ≡ Some l → IsTied old core l new → AreTied labels core (near ∷ []) old new
  by_label l at tie = record {
    kept = tie.kept;
    tied = λ b t m is. elim is [
      | inl e ↦ subst (λ x. Same new core x) (same_value at (subst (λ x. map.get labels x ≡ Some t) (only near b m) e)) tie.tied
      | inr r ↦ absurd (no_value (subst (λ x. map.get labels x ≡ None) (only near b m) r.0) at)
    ];
    keys = λ q h. elim (tie.keys q h) [
      | inl o ↦ inl o
      | inr e ↦ inr (subst (λ x. map.get labels x ≡ Some x) (sym e) (least near l at).1)
    ];
    finest = λ e two all fine. tie.finest e two (all near l (the_one near) (inl at)) fine;
  }

  -- a new core comes by itself
  pub by_itself : map.get labels near ≡ None → IsSome (map.get old near) → IsTied old core near new → AreTied labels core (near ∷ []) old new
  by_itself off there tie = record {
    kept = tie.kept;
    tied = λ b t m is. elim is [
      | inl e ↦ absurd (no_value off (subst (λ x. map.get labels x ≡ Some t) (only near b m) e))
      | inr r ↦ subst (λ x. Same new core x) (sym (r.1.1 ∙ only near b m)) tie.tied
    ];
    keys = λ q h. elim (tie.keys q h) [
      | inl o ↦ inl o
      | inr e ↦ inl (subst (λ x. IsSome (map.get old x)) (sym e) there)
    ];
    finest = λ e two all fine. tie.finest e two (all near near (the_one near) (inr (off, (there, refl)))) fine;
  }

-- a number that is neither comes to nothing
pub by_none : (labels old : Labels) (core near : ℕ) → (IsNamed labels old near → ⊥) → AreTied labels core (near ∷ []) old old
by_none labels old core near un = record {
  kept = λ x y s. s;
  tied = λ b t m is. elim is [
    | inl e ↦ absurd (un (inl (is_there (subst (λ x. map.get labels x ≡ Some t) (only near b m) e))))
    | inr r ↦ absurd (un (inr (subst (λ x. IsSome (map.get old x)) (only near b m) r.1.0)))
  ];
  keys = λ q h. inl h;
  finest = λ e two all fine. fine;
}

pub tied_none : (labels old : Labels) (core : ℕ) → AreTied labels core [] old old
tied_none labels old core = record {
  kept = λ x y s. s;
  tied = λ b t m is. absurd (none b m);
  keys = λ q h. inl h;
  finest = λ e two all fine. fine;
}

module _ (labels old now : Labels) (core : ℕ) (done : List ℕ) (t : AreTied labels core done old now) where
  there_up : (q : ℕ) → IsSome (map.get old q) → IsSome (map.get now q)
  there_up q h = same_there now q q (t.kept q q (same_itself old q h))

  named_up : (q : ℕ) → IsNamed labels old q → IsNamed labels now q
  named_up q h = elim h [ inl l ↦ inl l | inr o ↦ inr (there_up q o) ]

  named_down : (q : ℕ) → IsNamed labels now q → IsNamed labels old q
  named_down q h = elim h [ inl l ↦ inl l | inr o ↦ elim (t.keys q o) [ inl k ↦ inr k | inr l ↦ inl (is_there l) ] ]

  name_up : (b x : ℕ) → IsName labels old b x → IsName labels now b x
  name_up b x is = elim is [ inl e ↦ inl e | inr r ↦ inr (r.0, (there_up b r.1.0, r.1.1)) ]

  name_down : (b x : ℕ) → IsName labels now b x → IsName labels old b x
  name_down b x is = elim is [
    | inl e ↦ inl e
    | inr r ↦ elim (t.keys b r.1.0) [ inl k ↦ inr (r.0, (k, r.1.1)) | inr l ↦ absurd (no_value r.0 l) ]
  ]

  pub tied_more : (new : Labels) (b : ℕ) → AreTied labels core (b ∷ []) now new → AreTied labels core (done ++ b ∷ []) old new
  tied_more new b u = record {
    kept = λ x y s. u.kept x y (t.kept x y s);
    tied = λ c x m is. elim (pushed done b c m) [
      | inl o ↦ u.kept core x (t.tied c x o is)
      | inr e ↦ u.tied c x (subst (λ y. IsMember (b ∷ []) y) (sym e) (the_one b)) (name_up c x is)
    ];
    keys = λ q h. elim (u.keys q h) [ inl o ↦ t.keys q o | inr l ↦ inr l ];
    finest = λ e two all fine.
        u.finest e two
        (λ c x m is. all c x (subst (λ y. IsMember (done ++ b ∷ []) y) (sym (only b c m)) (pushed_new done b)) (name_down c x is))
        (t.finest e two (λ c x m is. all c x (pushed_old done b c m) is) fine);
  }

  once_more : (b : Bool) (a : Option ℕ) (c : ℕ) → cond b (Some (lesser (cond b (Some (lesser a c)) a) c)) (cond b (Some (lesser a c)) a) ≡ cond b (Some (lesser a c)) a
  once_more true None c = ap (λ n. Some n) (omega arith)
  once_more true (Some a) c = ap (λ n. Some n) (omega arith)
  once_more false a c = refl

  -- a core that is offered twice is offered once
  twice : (minpts c : ℕ) (r : Row) → offered minpts c (offered minpts c r) ≡ offered minpts c r
  twice minpts c r = ap (row_of r.count) (once_more (nat_lt r.count minpts) r.anchor c)

  twice_in : (minpts c : ℕ) (o : Option Row) → option_map (offered minpts c) (option_map (offered minpts c) o) ≡ option_map (offered minpts c) o
  twice_in minpts c None = refl
  twice_in minpts c (Some r) = ap (λ x. Some x) (twice minpts c r)

  pub offered_more : (was is will : Counted) (b : ℕ) → IsOffered labels old core done was is → IsOffered labels now core (b ∷ []) is will → IsOffered labels old core (done ++ b ∷ []) was will
  offered_more was is will b d s = record {
    minpts_kept = s.minpts_kept ∙ d.minpts_kept;
    row = λ q m un. elim (member_or (b ∷ []) q) [
      | inl at ↦
          s.row q at (λ h. un (named_down q h))
          ∙ ap (λ n. option_map (offered n core) (map.get is.rows q)) d.minpts_kept
          ∙ elim (member_or done q) [
            | inl o ↦ ap (option_map (offered was.minpts core)) (d.row q o un) ∙ twice_in was.minpts core (map.get was.rows q)
            | inr n ↦ ap (option_map (offered was.minpts core)) (d.far q n)
          ]
      | inr off ↦ s.far q off ∙ d.row q (elim (pushed done b q m) [ inl o ↦ o | inr e ↦ absurd (off (subst (λ y. IsMember (b ∷ []) y) (sym e) (the_one b))) ]) un
    ];
    named = λ q h. s.named q (named_up q h) ∙ d.named q h;
    far = λ q n.
        s.far q (λ m. n (subst (λ y. IsMember (done ++ b ∷ []) y) (sym (only b q m)) (pushed_new done b)))
        ∙ d.far q (λ m. n (pushed_old done b q m));
  }

pub offered_none : (labels m : Labels) (core : ℕ) (near : List ℕ) (c : Counted) → ((q : ℕ) → IsMember near q → IsNamed labels m q) → IsOffered labels m core near c c
offered_none labels m core near c all = record {
  minpts_kept = refl;
  row = λ q at un. absurd (un (all q at));
  named = λ q h. refl;
  far = λ q n. refl;
}

pub at_changed : (f : Row → Row) (rows : Rows) (k : ℕ) (o : Option Row) → map.get rows k ≡ o → map.get (put_back f rows k o) k ≡ option_map f o
at_changed f rows k None e = e
at_changed f rows k (Some r) e = here rows k (f r)

pub off_changed : (f : Row → Row) (rows : Rows) (k q : ℕ) (o : Option Row) → (q ≡ k → ⊥) → map.get (put_back f rows k o) q ≡ map.get rows q
off_changed f rows k q None ne = refl
off_changed f rows k q (Some r) ne = apart rows k (f r) q ne

pub offered_one : (labels m : Labels) (core near : ℕ) (c new : Counted) → (IsNamed labels m near → ⊥) → new ≡ updated (offered c.minpts core) c near → IsOffered labels m core (near ∷ []) c new
offered_one labels m core near c new un is = record {
  minpts_kept = ap (λ x. x.minpts) is;
  row = λ q at un'.
      subst (λ x. map.get new.rows x ≡ option_map (offered c.minpts core) (map.get c.rows x)) (sym (only near q at))
      (ap (λ x. map.get x.rows near) is ∙ at_changed (offered c.minpts core) c.rows near (map.get c.rows near) refl);
  named = λ q h. other q (λ e. un (subst (λ x. IsNamed labels m x) e h));
  far = λ q n. other q (λ e. n (subst (λ x. IsMember (near ∷ []) x) (sym e) (the_one near)));
}
  where
    other : (q : ℕ) → (q ≡ near → ⊥) → map.get new.rows q ≡ map.get c.rows q
    other q ne = ap (λ x. map.get x.rows q) is ∙ off_changed (offered c.minpts core) c.rows near q (map.get c.rows near) ne

pub un_named : (labels m : Labels) (near : ℕ) (b : Bool) → map.get labels near ≡ None → b ≡ is_some (map.get m near) → b ≡ false → IsNamed labels m near → ⊥
un_named labels m near b off is untrue (inl h) = not_there off h
un_named labels m near b off is untrue (inr h) = let bad : false ≡ true = sym untrue ∙ is ∙ h in absurd (cc)

pub is_named : (m : Labels) (near : ℕ) (b : Bool) (o : Option ℕ) → o ≡ map.get m near → b ≡ is_some o → b ≡ true → IsSome (map.get m near)
is_named m near b o is test holds = ap is_some (sym is) ∙ sym test ∙ holds

pub none_named : (labels m : Labels) (q : ℕ) → IsMember [] q → IsNamed labels m q
none_named labels m q at = absurd (none q at)
