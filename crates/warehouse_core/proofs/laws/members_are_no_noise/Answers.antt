use Rattle.std.proofs.Common.{◌≡◌, ℕ, true, false, cond, List, [], ◌∷◌, filter, Some, None, refl, subst}
use Rattle.std.specs.List.{AllByRecursion, list_any}
use Rattle.std.proofs.lemmas.Option.{none-some, same_Some}
use Rattle.plain_dbscan.specs.declared.marks.Mark.{Mark}
use Rattle.plain_dbscan.specs.declared.marks.Mark.TheVariants.{Core, Border, Noise}
use Rattle.plain_dbscan.specs.Cases.{is_core_of, is_member_of}
use Rattle.plain_dbscan.specs.Texts.{is_noise_mark}
use Rattle.warehouse_core.proofs.laws.members_are_no_noise.Goals as goal

abbrev NoNoise : List (ℕ × Mark) → Type 0
NoNoise members = AllByRecursion (λ (m : ℕ × Mark). is_noise_mark m.1 ≡ false) members

no_member : (label : ℕ) (mark : Mark) → is_member_of label mark ≡ true → is_noise_mark mark ≡ false
no_member label (Core l) e = refl
no_member label (Border l) e = refl
no_member label Noise e = cc

kept : (label : ℕ) (marks : List (ℕ × Mark)) → NoNoise (filter (λ (m : ℕ × Mark). is_member_of label m.1) marks)
kept label [] = tt
kept label (m ∷ ms) =
    let rest = filter (λ (m : ℕ × Mark). is_member_of label m.1) ms in
    elim (is_member_of label m.1) as (λ b. is_member_of label m.1 ≡ b → NoNoise (cond b (m ∷ rest) rest)) [
      | true ↦ λ e. (no_member label m.1 e, kept label ms)
      | false ↦ λ e. kept label ms
    ] refl

pub returns : goal.returns
returns c = λ label marks members is.
    let all = filter (λ (m : ℕ × Mark). is_member_of label m.1) marks in
    elim (list_any (λ (m : ℕ × Mark). is_core_of label m.1) marks) as (λ b. cond b (Some all) None ≡ Some members → NoNoise members) [
      | true ↦ λ e. subst NoNoise (same_Some _ _ e) (kept label marks)
      | false ↦ λ e. absurd (none-some _ e)
    ] is
