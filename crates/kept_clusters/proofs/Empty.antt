-- Nothing kept stands for no records.
use Rattle.std.proofs.Common.{◌≡◌, ℕ, ◌≤◌, Bool, true, false, cond, ◌&&◌, List, IsSome, IsSomeAnd, is_some, None, Some, refl, sym, ap, subst, ◌∙◌}
use Rattle.std.specs.Prelude.{nat_le}
use Rattle.std.specs.Ordering.{nat_cmp}
use Rattle.std.specs.declared.option.Option.{Option}
use Rattle.std.specs.FinMap as map
use Rattle.plain_dbscan.specs.Marks.{Density, density, is_core, cluster_of, size_of, anchor_of}
use Rattle.count_book.specs.declared.row.Row.{Row}
use Rattle.count_book.specs.Counted.{row_of}
use Rattle.label_book.proofs.Views.{no_value}
use Rattle.update_seed.specs.Books.{Fits, StandsFor}
use Rattle.kept_clusters.specs.Kept.{nothing_kept, no_records, Stand}

other : false ≡ true → ⊥
other f = cc

none_core : (d : Density) (a : ℕ) → is_core d (map.entries (map.empty {R = nat_cmp})) a ≡ false
none_core d a =
    ap (λ (o : Option (List ℕ)). is_some o && nat_le d.minpts (size_of d (map.entries (map.empty {R = nat_cmp})) a)) (sym (map.get-entries map.empty a) ∙ map.get-empty nat_cmp a)

fits : (width minpts : ℕ) → Fits width map.empty (no_records width) (record { minpts = minpts; rows = map.empty }) map.empty
fits width minpts = record {
  held = record { same_width = refl; same_pairs = refl };
  numbers = λ a. ap is_some (map.get-empty nat_cmp a) ∙ sym (ap is_some (map.get-empty nat_cmp a));
  counted = λ a r at. absurd (no_value (map.get-empty nat_cmp a) at);
  unhung = λ a r at le. absurd (no_value (map.get-empty nat_cmp a) at);
  labelled = λ a. (
    λ has. absurd (other (subst IsSome (map.get-empty nat_cmp a) has)),
    λ core. absurd (subst (λ o. IsSomeAnd o (λ (r : Row). minpts ≤ r.count)) (map.get-empty nat_cmp a) core),
  );
  least = λ core label at. absurd (no_value (map.get-empty nat_cmp core) at);
}

stands : (d : Density) (width : ℕ) → StandsFor d width map.empty (no_records width) (record { minpts = d.minpts; rows = map.empty }) map.empty
stands d width = record {
  fits = fits width d.minpts;
  rows = λ a. map.get-empty nat_cmp a ∙ sym (ap (λ (o : Option (List ℕ)). cond (is_some o) (Some (row_of (size_of d (map.entries (no_records width).vectors) a) (anchor_of d (map.entries (no_records width).vectors) a))) None) (map.get-empty nat_cmp a));
  labels_due = λ a. map.get-empty nat_cmp a ∙ sym (ap (λ (b : Bool). cond b (Some (cluster_of d (map.entries (no_records width).vectors) a)) None) (none_core d a));
}

pub empty_stands : (dist : List ℕ → List ℕ → ℕ) (width eps minpts : ℕ) → Stand dist (no_records width) (nothing_kept width eps minpts)
empty_stands dist width eps minpts = stands (density dist eps minpts) width
