-- Empty books and an empty index fit no records.
use Rattle.std.proofs.Common.{◌≡◌, ℕ, ◌≤◌, true, false, IsSome, IsSomeAnd, is_some, refl, sym, ap, subst, ◌∙◌}
use Rattle.std.specs.Ordering.{nat_cmp}
use Rattle.std.specs.FinMap as map
use Rattle.count_book.specs.declared.row.Row.{Row}
use Rattle.label_book.proofs.Views.{no_value}
use Rattle.update_seed.specs.Books.{Fits}

other : false ≡ true → ⊥
other f = cc

pub empty_fits : (width minpts : ℕ) → Fits width map.empty (record { width = width; vectors = map.empty }) (record { minpts = minpts; rows = map.empty }) map.empty
empty_fits width minpts = record {
  held = record { same_width = refl; same_pairs = refl };
  numbers = λ a. ap is_some (map.get-empty nat_cmp a) ∙ sym (ap is_some (map.get-empty nat_cmp a));
  counted = λ a r at. absurd (no_value (map.get-empty nat_cmp a) at);
  unhung = λ a r at le. absurd (no_value (map.get-empty nat_cmp a) at);
  labelled = λ a. (
    λ has. absurd (other (subst IsSome (map.get-empty nat_cmp a) has)),
    λ core. absurd (subst (λ o. IsSomeAnd o (λ (r : Row). minpts ≤ r.count)) (map.get-empty nat_cmp a) core),
  );
  least = λ core label at. absurd (no_value (map.get-empty nat_cmp core) at);
}
