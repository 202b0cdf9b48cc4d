-- Pages that load have as many records as their head says.
use Rattle.std.proofs.Common.{◌≡◌, ⊎_elim, ℕ, ◌+◌, Bool, false, cond, List, [], ◌∷◌, length, map, drop, None, sym, ◌∙◌, ap, arith}
use Rattle.std.specs.Prelude.{Some, is_some}
use Rattle.std.specs.List.{flat_map, AllByRecursion}
use Rattle.std.specs.Ordering.{nat_cmp}
use Rattle.std.specs.FinMap as maps
use Rattle.std.specs.Cmp.{nat_cmp_total}
use Rattle.std.proofs.lemmas.Bool.{eqb-true}
use Rattle.page_layout.specs.Slots.{Rows}
use Rattle.node_places.specs.Slots.{has, AreApart}
use Rattle.store_image.specs.Images.{Image, number_of, entry_of, vectors_of, lines_of}
use Rattle.store_image.specs.Contents.{all_slots}
use Rattle.store_image.specs.Stores.{LoadsCountRecords}
use Rattle.store_image.proofs.StoreNumbers.{IsLawful}
use Rattle.store_image.proofs.StoreLawful.{bodies_lawful}
use Rattle.store_image.proofs.StoreReading.{load_parts}
use Rattle.store_image.proofs.LoadReading.{count_is}
use Rattle.store_image.proofs.LoadNumbers.{once_apart}
use Rattle.store_image.proofs.LoadEntries.{found_number}

-- each number once, so each line has a record of its own
as_many : (minpts : ℕ) (slots : Rows) → AllByRecursion (IsLawful minpts) slots → AreApart (map number_of slots) → maps.len (vectors_of slots) ≡ length (lines_of slots)
as_many minpts [] all apart = maps.len-empty nat_cmp (List ℕ)
as_many minpts (None ∷ slots) all apart = as_many minpts slots all.1 apart.1
as_many minpts (Some s ∷ slots) all apart =
    let some : s.number ≡ 0 → ⊥ = λ none. omega (arith, none, all.0.number) in
    let away : has (map number_of slots) s.number ≡ false = ⊎_elim (λ none. absurd (some none)) (λ off. off) apart.0 in
    let absent : is_some (maps.get (vectors_of slots) s.number) ≡ false =
    ap is_some (maps.get-from_entries nat_cmp_total (flat_map entry_of slots) s.number) ∙ found_number slots s.number some ∙ away in
    maps.len-insert nat_cmp_total (vectors_of slots) s.number s.vector
    ∙ ap (λ (b : Bool). cond b (maps.len (vectors_of slots)) (maps.len (vectors_of slots) + 1)) absent
    ∙ ap (λ (n : ℕ). n + 1) (as_many minpts slots all.1 apart.1)
    ∙ omega arith

pub loads_count_records : LoadsCountRecords
loads_count_records pages image is =
    let p = load_parts pages image is in
    let slots = all_slots p.bodies in
    count_is pages p.h p.head
    ∙ sym (eqb-true (length (lines_of slots)) p.h.count p.count)
    ∙ sym (as_many p.h.values.minpts slots (bodies_lawful p.h.values 2 (drop 1 pages) p.bodies p.read) (once_apart (map number_of slots) p.once))
    ∙ ap (λ (i : Image). maps.len i.records.vectors) (sym p.image_is)
