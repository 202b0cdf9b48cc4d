-- What a query finds and counts in a leaf, by places and by entries.
use Rattle.std.proofs.Common.{◌≡◌, ◌∙◌, sym, ap, refl, ℕ, zero, suc, ◌+◌, ◌<◌, Bool, true, false, cond, if◌then◌else◌, not, nat_le, List, [], ◌∷◌, ◌++◌, map, drop, length, slice_index, slice_index_or, sum_by, Option, Some, arith, add-one}
use Rattle.std.proofs.lemmas.List.{length-map}
use Rattle.std.proofs.lemmas.List.Sums.{sum_by-cons}
use Rattle.std.specs.List.{filter, flat_map, range_with_len, slice_get}
use Rattle.vec_record.specs.Asked.{near_at}
use Rattle.vec_record.specs.Table.{Table}
use Rattle.mtree_node.specs.declared.node.LeafEntry.{LeafEntry}
use Rattle.mtree_node.specs.Cost.{is_skipped, leaf_cost}
use Rattle.mtree_node.specs.Lists.{numbers_of, parents_of, vectors_of, HaveVectorsOf}
use Rattle.mtree_node.proofs.Columns.{entry_at, next_at}
use Rattle.mtree_node.proofs.Rows.{no_rows}
use Rattle.mtree_index.specs.Entries.{leaf_with_parent}
use Rattle.mtree_index.specs.Found.{leaf_found}
use Rattle.mtree_index.specs.Pruned.{places_left}
use Rattle.mtree_index.specs.Removal.{all_under}
use Rattle.mtree_index.specs.Split.{on_side, with_parents, row, parting, left_half, right_half}
use Rattle.mtree_split.specs.declared.pair.Parting.{Parting}
use Rattle.mtree_split.specs.Sides.{is_on}

pub get_at : (es : List LeafEntry) (i : ℕ) → i < length es → slice_get es i ≡ Some (entry_at es i)
get_at [] i few = absurd (omega (arith, few))
get_at (e ∷ es) zero few = refl
get_at (e ∷ es) (suc i) few = get_at es i (omega (arith, few))

-- the entries at the places of a range
by_place : (es : List LeafEntry) (i n : ℕ) → i + n ≡ length es → map (entry_at es) (range_with_len i n) ≡ drop i es
by_place es i zero h = sym (no_rows es i (omega (arith, h)))
by_place es i (suc n) h =
    ap (λ (xs : List LeafEntry). entry_at es i ∷ xs) (by_place es (i + 1) n (omega (arith, h))) ∙ rw add-one (sym (next_at es i (omega (arith, h))))

-- one place more
found_one : (near : ℕ → Bool) (s n : Bool) (k : ℕ) (ks : List ℕ) (f : ℕ → ℕ) (tail : List ℕ) → near k ≡ n → map f (filter near ks) ≡ tail → map f (filter near (cond (not s) (k ∷ ks) ks)) ≡ (if s then [] else (if n then f k ∷ [] else [])) ++ tail
found_one near true n k ks f tail e h = h
found_one near false true k ks f tail e h =
    ap (λ b. map f (cond b (k ∷ filter near ks) (filter near ks))) e ∙ ap (λ z. f k ∷ z) h
found_one near false false k ks f tail e h =
    ap (λ b. map f (cond b (k ∷ filter near ks) (filter near ks))) e ∙ h

counted_one : (s : Bool) (k : ℕ) (ks : List ℕ) (tail : ℕ) → length ks ≡ tail → length (cond (not s) (k ∷ ks) ks) ≡ (if s then 0 else 1) + tail
counted_one true k ks tail h = omega arith
counted_one false k ks tail h = omega arith

module _ (dist : List ℕ → List ℕ → ℕ) (q : List ℕ) (o : Option ℕ) (r : ℕ) (es : List LeafEntry) where
  abbrev kept : ℕ → Bool
  kept k = not (is_skipped o r (slice_index (parents_of es) k))

  abbrev near : ℕ → Bool
  near k = nat_le (dist q (slice_index_or (vectors_of es) k [])) r

  found_by : (ks : List ℕ) → map (slice_index (numbers_of es)) (filter near (filter kept ks)) ≡ flat_map (leaf_found dist q r o) (map (entry_at es) ks)
  found_by [] = refl
  found_by (k ∷ ks) =
      found_one near (is_skipped o r (slice_index (parents_of es) k)) (near k) k (filter kept ks) (slice_index (numbers_of es)) (flat_map (leaf_found dist q r o) (map (entry_at es) ks)) refl (found_by ks)

  counted_by : (ks : List ℕ) → length (filter kept ks) ≡ sum_by (leaf_cost dist q r o) (map (entry_at es) ks)
  counted_by [] = refl
  counted_by (k ∷ ks) =
      counted_one (is_skipped o r (slice_index (parents_of es) k)) k (filter kept ks) (sum_by (leaf_cost dist q r o) (map (entry_at es) ks)) (counted_by ks)
      ∙ sym (sum_by-cons (leaf_cost dist q r o) (entry_at es k) (map (entry_at es) ks))

  abbrev all : List ℕ
  all = range_with_len 0 (length (parents_of es))

  all_there : map (entry_at es) all ≡ es
  all_there =
      ap (λ n. map (entry_at es) (range_with_len 0 n)) (length-map es (λ (e : LeafEntry). e.parent)) ∙ by_place es 0 (length es) (omega arith)

  -- the numbers at the places that are near
  pub leaf_finds : (numbers parents left hits : List ℕ) (t : Table) → numbers ≡ numbers_of es → parents ≡ parents_of es → t.rows ≡ vectors_of es → left ≡ places_left o r parents → hits ≡ near_at dist q t r left → map (slice_index numbers) hits ≡ flat_map (leaf_found dist q r o) es
  leaf_finds numbers parents left hits t a b c d e =
      rw (e, d, a, b, c) (found_by all ∙ ap (flat_map (leaf_found dist q r o)) all_there)

  pub leaf_counts : (parents left : List ℕ) → parents ≡ parents_of es → left ≡ places_left o r parents → length left ≡ sum_by (leaf_cost dist q r o) es
  leaf_counts parents left b d =
      rw (d, b) (counted_by all ∙ ap (sum_by (leaf_cost dist q r o)) all_there)

-- the vectors stay as wide wherever their entries go
pub parents_keep : (w : ℕ) (ds : List ℕ) (es : List LeafEntry) → HaveVectorsOf w es → HaveVectorsOf w (with_parents leaf_with_parent ds es)
parents_keep w [] es have = tt
parents_keep w (d ∷ ds) [] have = tt
parents_keep w (d ∷ ds) (e ∷ es) have = (have.0, parents_keep w ds es have.1)

pub side_keeps : (w : ℕ) (side : Bool) (sides : List Bool) (es : List LeafEntry) → HaveVectorsOf w es → HaveVectorsOf w (on_side side sides es)
side_keeps w side [] es have = tt
side_keeps w side (b ∷ sides) [] have = tt
side_keeps w side (b ∷ sides) (e ∷ es) have =
    let rest = side_keeps w side sides es have.1 in
    elim (is_on side b) as (λ t. HaveVectorsOf w (if t then e ∷ on_side side sides es else on_side side sides es)) [ true ↦ (have.0, rest) | false ↦ rest ]

pub under_keeps : (dist : List ℕ → List ℕ → ℕ) (w : ℕ) (o : List ℕ) (es : List LeafEntry) → HaveVectorsOf w es → HaveVectorsOf w (all_under dist (λ (e : LeafEntry). e.vector) leaf_with_parent o es)
under_keeps dist w o [] have = tt
under_keeps dist w o (e ∷ es) have = (have.0, under_keeps dist w o es have.1)

module _ (dist : List ℕ → List ℕ → ℕ) (greatest w : ℕ) (es : List LeafEntry) (have : HaveVectorsOf w es) where
  abbrev its_vector : LeafEntry → List ℕ
  its_vector e = e.vector

  abbrev no_radius : LeafEntry → ℕ
  no_radius e = 0

  abbrev parted : Parting
  parted = parting dist greatest its_vector no_radius leaf_with_parent es

  abbrev to_object : ℕ → List ℕ
  to_object promoted = row dist (slice_index_or (map its_vector es) promoted []) (map its_vector es)

  pub left_keeps : HaveVectorsOf w (left_half dist greatest its_vector no_radius leaf_with_parent es).entries
  left_keeps = side_keeps w false parted.sides (with_parents leaf_with_parent (to_object parted.left) es) (parents_keep w (to_object parted.left) es have)

  pub right_keeps : HaveVectorsOf w (right_half dist greatest its_vector no_radius leaf_with_parent es).entries
  right_keeps = side_keeps w true parted.sides (with_parents leaf_with_parent (to_object parted.right) es) (parents_keep w (to_object parted.right) es have)
