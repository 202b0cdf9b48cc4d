-- Slots as records and as lines, by their numbers.
use Rattle.std.proofs.Common.{◌≡◌, inl, inr, ℕ, Bool, true, false, cond, ◌||◌, [], ◌∷◌, map, Some, None, refl, sym, ◌∙◌, ap, arith}
use Rattle.std.specs.Prelude.{◌==◌, is_some}
use Rattle.std.specs.List.{flat_map}
use Rattle.std.specs.Ordering.{nat_cmp, eq_by_cmp}
use Rattle.std.specs.FinMap.{find}
use Rattle.std.proofs.lemmas.Bool.{cases_order, eq-eqb, ne_eqb, lt-ltb, le-ltb}
use Rattle.stored_lines.specs.Lines as lines_in
use Rattle.page_layout.specs.Slots.{Rows}
use Rattle.node_places.specs.Slots.{has}
use Rattle.store_image.specs.Images.{number_of, entry_of, lines_of}

-- keys are compared as numbers
pub tied_is : (q k : ℕ) → eq_by_cmp nat_cmp q k ≡ (k == q)
tied_is q k = elim (cases_order q k) [
  | inl same ↦
      let lt = le-ltb q k (omega (arith, same)) in
      let eq = eq-eqb q k same in
      let back = eq-eqb k q (sym same) in
      rw (lt, eq, back) refl
  | inr (inl below) ↦
      let lt = lt-ltb q k below in
      let back = ne_eqb k q (λ is. omega (arith, is, below)) in
      rw (lt, back) refl
  | inr (inr above) ↦
      let lt = le-ltb q k (omega (arith, above)) in
      let eq = ne_eqb q k (λ is. omega (arith, is, above)) in
      let back = ne_eqb k q (λ is. omega (arith, is, above)) in
      rw (lt, eq, back) refl
]

pub found_number : (rows : Rows) (q : ℕ) → (q ≡ 0 → ⊥) → is_some (find nat_cmp q (flat_map entry_of rows)) ≡ has (map number_of rows) q
found_number [] q some = refl
found_number (None ∷ rows) q some =
    let none : (0 == q) ≡ false = ne_eqb 0 q (λ is. some (sym is)) in
    found_number rows q some ∙ ap (λ (b : Bool). b || has (map number_of rows) q) (sym none)
found_number (Some s ∷ rows) q some = at (eq_by_cmp nat_cmp q s.number) (tied_is q s.number) (found_number rows q some)
  where
    at : (b : Bool) → b ≡ (s.number == q) → is_some (find nat_cmp q (flat_map entry_of rows)) ≡ has (map number_of rows) q
        → is_some (cond b (Some s.vector) (find nat_cmp q (flat_map entry_of rows))) ≡ ((s.number == q) || has (map number_of rows) q)
    at true is rest = ap (λ (b : Bool). b || has (map number_of rows) q) is
    at false is rest = rest ∙ ap (λ (b : Bool). b || has (map number_of rows) q) is

-- the same of the lines of used slots
pub found_line : (rows : Rows) (q : ℕ) → is_some (find nat_cmp q (flat_map entry_of rows)) ≡ has (map lines_in.number_of (lines_of rows)) q
found_line [] q = refl
found_line (None ∷ rows) q = found_line rows q
found_line (Some s ∷ rows) q = at (eq_by_cmp nat_cmp q s.number) (tied_is q s.number) (found_line rows q)
  where
    at : (b : Bool) → b ≡ (s.number == q) → is_some (find nat_cmp q (flat_map entry_of rows)) ≡ has (map lines_in.number_of (lines_of rows)) q
        → is_some (cond b (Some s.vector) (find nat_cmp q (flat_map entry_of rows))) ≡ ((s.number == q) || has (map lines_in.number_of (lines_of rows)) q)
    at true is rest = ap (λ (b : Bool). b || has (map lines_in.number_of (lines_of rows)) q) is
    at false is rest = rest ∙ ap (λ (b : Bool). b || has (map lines_in.number_of (lines_of rows)) q) is
