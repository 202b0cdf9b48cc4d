-- Lines that name nothing that they mustn't.
use Rattle.std.proofs.Common.{◌≡◌, ℕ, suc, ◌&&◌, Bool, true, false, not, List, [], ◌∷◌, refl, ap, ◌∙◌, None, Some}
use Rattle.std.specs.Prelude.{◌==◌, if◌then◌else◌}
use Rattle.std.specs.declared.option.Option.{Option}
use Rattle.std.specs.Option.{option_or}
use Rattle.std.specs.List.{AllByRecursion}
use Rattle.stored_lines.specs.declared.line.Line.{Line}
use Rattle.stored_lines.specs.declared.fault.Loose.{Loose}
use Rattle.stored_lines.specs.Lines.{loose_at, loose_from}

-- an anchor is 0 or a core, and a label is 0 or leads
pub record IsTied (core leader : ℕ → Bool) (line : Line) : Type 0 where
  pub anchor : (line.anchor == 0) ≡ false → core line.anchor ≡ true
  pub label : (line.label == 0) ≡ false → leader line.label ≡ true

chosen : (a b : Bool) (x y : Loose) → (if a then Some x else (if b then Some y else None)) ≡ None → (a ≡ false) × (b ≡ false)
chosen true b x y e = absurd (let f : Some x ≡ None = e in cc)
chosen false true x y e = absurd (let f : Some y ≡ None = e in cc)
chosen false false x y e = (refl, refl)

holds : (a b : Bool) → (not a && not b) ≡ false → a ≡ false → b ≡ true
holds a true e is = refl
holds true false e is = absurd (let f : true ≡ false = is in cc)
holds false false e is = absurd (let f : true ≡ false = e in cc)

holds_not : (a b : Bool) → (a ≡ false → b ≡ true) → (not a && not b) ≡ false
holds_not true b h = refl
holds_not false b h = ap not (h refl)

pub tied_here : (core leader : ℕ → Bool) (place : ℕ) (line : Line) → loose_at core leader place line ≡ None → IsTied core leader line
tied_here core leader place line e =
    let parts = chosen (not (line.anchor == 0) && not (core line.anchor)) (not (line.label == 0) && not (leader line.label)) _ _ e in
    record {
      anchor = holds (line.anchor == 0) (core line.anchor) parts.0;
      label = holds (line.label == 0) (leader line.label) parts.1;
    }

neither : {X : Type 0} (o p : Option X) → option_or o p ≡ None → (o ≡ None) × (p ≡ None)
neither None p e = (refl, e)
neither (Some x) p e = absurd (let f : Some x ≡ None = e in cc)

pub tied_each : (core leader : ℕ → Bool) (place : ℕ) (lines : List Line) → loose_from core leader place lines ≡ None → AllByRecursion (IsTied core leader) lines
tied_each core leader place [] e = tt
tied_each core leader place (l ∷ ls) e =
    let parts = neither (loose_at core leader place l) (loose_from core leader (suc place) ls) e in
    (tied_here core leader place l parts.0, tied_each core leader (suc place) ls parts.1)

pub not_loose : (core leader : ℕ → Bool) (place : ℕ) (line : Line) → IsTied core leader line → loose_at core leader place line ≡ None
not_loose core leader place line t =
    rw (holds_not (line.anchor == 0) (core line.anchor) t.anchor, holds_not (line.label == 0) (leader line.label) t.label) refl

pub each_tied : (core leader : ℕ → Bool) (place : ℕ) (lines : List Line) → AllByRecursion (IsTied core leader) lines → loose_from core leader place lines ≡ None
each_tied core leader place [] each = refl
each_tied core leader place (l ∷ ls) each =
    ap (λ o. option_or o (loose_from core leader (suc place) ls)) (not_loose core leader place l each.0) ∙ each_tied core leader (suc place) ls each.1

-- tests that agree find the same
pub loose_alike : (f g h k : ℕ → Bool) (place : ℕ) (lines : List Line) → ((n : ℕ) → f n ≡ h n) → ((n : ℕ) → g n ≡ k n) → loose_from f g place lines ≡ loose_from h k place lines
loose_alike f g h k place lines e d =
    let fs : f ≡ h = λ i n. e n i in
    let gs : g ≡ k = λ i n. d n i in
    ap (λ t. loose_from t g place lines) fs ∙ ap (λ t. loose_from h t place lines) gs
