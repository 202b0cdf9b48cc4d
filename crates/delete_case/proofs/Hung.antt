-- Records are hung one after another, and no flag changes by it.
use Rattle.std.proofs.Common.{◌≡◌, ℕ, Bool, List, [], ◌∷◌, ◌++◌, refl, sym, ap, subst, ◌∙◌, None, Some, inl, inr}
use Rattle.std.specs.Prelude.{find}
use Rattle.std.specs.declared.option.Option.{Option}
use Rattle.std.specs.Option.{option_map}
use Rattle.std.specs.FinMap as map
use Rattle.std.proofs.Math.Path.{fun_ext}
use Rattle.count_book.specs.declared.row.Row.{Row}
use Rattle.count_book.specs.Counted.{Counted, anchored, updated}
use Rattle.label_book.specs.Labels.{IsMember}
use Rattle.label_book.proofs.Joined.{member_or, pushed, pushed_old, pushed_new}
use Rattle.update_seed.specs.Books.{is_core_row, core_in}
use Rattle.update_seed.specs.Outgoing.{AreHung}
use Rattle.update_seed.proofs.Lists.{none}
use Rattle.delete_case.proofs.Lowered.{updated_here, updated_other}

row_flag : (m : ℕ) (x : Option ℕ) (o : Option Row) → is_core_row m (option_map (anchored x) o) ≡ is_core_row m o
row_flag m x None = refl
row_flag m x (Some r) = refl

-- an anchor is nothing to a flag
pub hung_flag : (all : ℕ → List ℕ) (done : List ℕ) (old new : Counted) → AreHung all done old new → (q : ℕ) → core_in new q ≡ core_in old q
hung_flag all done old new h q =
    ap (λ (m : ℕ). is_core_row m (map.get new.rows q)) h.minpts_kept
    ∙ elim (member_or done q) [
      | inl m ↦ ap (is_core_row old.minpts) (h.hung q m) ∙ row_flag old.minpts (find (core_in old) (all q)) (map.get old.rows q)
      | inr n ↦ ap (is_core_row old.minpts) (h.others q n)
    ]

pub hung_flags : (all : ℕ → List ℕ) (done : List ℕ) (old new : Counted) → AreHung all done old new → core_in new ≡ core_in old
hung_flags all done old new h = fun_ext (hung_flag all done old new h)

pub hung_none : (all : ℕ → List ℕ) (c : Counted) → AreHung all [] c c
hung_none all c = record { minpts_kept = refl; hung = λ q m. absurd (none q m); others = λ q n. refl }

module _ (all : ℕ → List ℕ) (done : List ℕ) (b : ℕ) (old now new : Counted) (out : IsMember done b → ⊥) (h : AreHung all done old now) (is : new ≡ updated (anchored (find (core_in now) (all b))) now b) where
  other : (q : ℕ) → (q ≡ b → ⊥) → map.get new.rows q ≡ map.get now.rows q
  other q ne = ap (λ (x : Counted). map.get x.rows q) is ∙ updated_other (anchored (find (core_in now) (all b))) now b q ne

  here : map.get new.rows b ≡ option_map (anchored (find (core_in old) (all b))) (map.get old.rows b)
  here =
      ap (λ (x : Counted). map.get x.rows b) is
      ∙ updated_here (anchored (find (core_in now) (all b))) now b
      ∙ ap (option_map (anchored (find (core_in now) (all b)))) (h.others b out)
      ∙ ap (λ (f : ℕ → Bool). option_map (anchored (find f (all b))) (map.get old.rows b)) (hung_flags all done old now h)

  pub hung_more : AreHung all (done ++ b ∷ []) old new
  hung_more = record {
    minpts_kept = ap (λ (x : Counted). x.minpts) is ∙ h.minpts_kept;
    hung = λ q m. elim (pushed done b q m) [
      | inl o ↦ other q (λ e. out (subst (IsMember done) e o)) ∙ h.hung q o
      | inr e ↦ subst (λ (x : ℕ). map.get new.rows x ≡ option_map (anchored (find (core_in old) (all x))) (map.get old.rows x)) (sym e) here
    ];
    others = λ q n.
        other q (λ e. n (subst (IsMember (done ++ b ∷ [])) (sym e) (pushed_new done b)))
        ∙ h.others q (λ m. n (pushed_old done b q m));
  }
