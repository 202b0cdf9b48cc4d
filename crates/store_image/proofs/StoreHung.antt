-- Clusters that stand for records hang on cores.
use Rattle.std.proofs.Common.{◌≡◌, ℕ, ◌≤◌, Bool, true, false, cond, Option, Some, None, refl, sym, ◌∙◌, ap, subst}
use Rattle.std.specs.Prelude.{nat_le, is_some, IsSomeAnd}
use Rattle.std.specs.Ordering.{nat_cmp}
use Rattle.std.specs.FinMap as maps
use Rattle.std.specs.FinMap.Entries.{find as value_at}
use Rattle.std.proofs.lemmas.Bool.{and_parts, leb-true}
use Rattle.vec_record.specs.Held as held
use Rattle.plain_dbscan.specs.Marks.{Density, Entries, is_core, size_of, anchor_of}
use Rattle.plain_dbscan.proofs.CoresOf.{anchor_is}
use Rattle.count_book.specs.declared.row.Row.{Row}
use Rattle.count_book.specs.Counted.{Counted, IsCore, row_of}
use Rattle.update_seed.specs.Books.{row_due}
use Rattle.stored_lines.specs.Laws.{AreHung}
use Rattle.mtree_index.specs.Tree.{contents}
use Rattle.kept_clusters.specs.Kept.{density_in}
use Rattle.store_image.specs.Stores.{StandingAreHung}

-- the anchor of a row that is due
due_anchor : (b : Bool) (size : ℕ) (anchor : Option ℕ) (r : Row) → Some r ≡ cond b (Some (row_of size anchor)) None → r.anchor ≡ anchor
due_anchor true size anchor r is = cc
due_anchor false size anchor r is = absurd (cc)

module _ (d : Density) (width : ℕ) (pairs : held.Rows) (records : held.Held) (counts : Counted) where
  abbrev entries : Entries
  entries = maps.entries records.vectors

  core_row : (b : ℕ) → d.minpts ≡ counts.minpts → maps.get counts.rows b ≡ row_due d entries records.vectors b → is_core d entries b ≡ true → IsCore counts b
  core_row b same row core =
      let parts = and_parts (is_some (value_at nat_cmp b entries)) (nat_le d.minpts (size_of d entries b)) core in
      let there : is_some (maps.get records.vectors b) ≡ true = ap is_some (maps.get-entries records.vectors b) ∙ parts.0 in
      let due : maps.get counts.rows b ≡ Some (row_of (size_of d entries b) (anchor_of d entries b)) =
      row ∙ ap (λ (t : Bool). cond t (Some (row_of (size_of d entries b) (anchor_of d entries b))) None) there in
      let enough : counts.minpts ≤ size_of d entries b = subst (λ (n : ℕ). n ≤ size_of d entries b) same (leb-true d.minpts (size_of d entries b) parts.1) in
      subst (λ (o : Option Row). IsSomeAnd o (λ r. counts.minpts ≤ r.count)) (sym due) enough

  hung : d.minpts ≡ counts.minpts → ((a : ℕ) → maps.get counts.rows a ≡ row_due d entries records.vectors a) → AreHung counts
  hung same rows a r b is at =
      let anchor : anchor_of d entries a ≡ Some b = sym (due_anchor (is_some (maps.get records.vectors a)) (size_of d entries a) (anchor_of d entries a) r (sym is ∙ rows a)) ∙ at in
      core_row b same (rows b) (anchor_is d entries (maps.entries_sorted records.vectors) a b anchor).is_core

pub standing_are_hung : StandingAreHung
standing_are_hung dist records kept stands = hung (density_in dist kept) kept.tree.width (contents kept.tree) records kept.counts refl stands.rows
