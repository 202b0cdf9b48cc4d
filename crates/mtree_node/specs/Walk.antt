-- The walk over a list of shapes: the tree that it builds, or the first place where the list is no tree over the records.
use Rattle.std.specs.Prelude.{◌≡◌, ◌↔◌, ℕ, zero, suc, ◌<◌, ◌≤◌, Bool, true, false, ◌&&◌, if◌then◌else◌, nat_eq, nat_le, nat_lt, List, [], ◌∷◌, length, Option, Some, None}
use Rattle.std.specs.List.{AllByRecursion}
use Rattle.std.specs.FinMap as finite
use Rattle.vec_record.specs.Held.{Rows}
use Rattle.mtree_node.specs.declared.node.LeafEntry.{LeafEntry}
use Rattle.mtree_node.specs.declared.node.InnerEntry.{InnerEntry, roll-InnerEntry}
use Rattle.mtree_node.specs.declared.node.Node.{Node}
use Rattle.mtree_node.specs.declared.node.Node.TheVariants as node
use Rattle.mtree_node.specs.declared.shape.Shape.{Shape}
use Rattle.mtree_node.specs.declared.shape.Shape.TheVariants as shape
use Rattle.mtree_node.specs.declared.shape.BadPlace.{BadPlace}
use Rattle.mtree_node.specs.declared.shape.BadWhat.{BadWhat}
use Rattle.mtree_node.specs.declared.shape.BadWhat.TheVariants as bad
use Rattle.mtree_node.specs.Preorder.{LeafRow, InnerRow, preorder}
use Rattle.mtree_node.specs.Tree.{leaves, parent_distance, records, IsTree}

-- where a walk stands: the place of the next shape, the shapes from there on, and the records that no entry has named
pub record Standing : Type 0 where
  pub next : ℕ
  pub rest : List Shape
  pub left : Rows

-- what a walk gives: the first failing place, or what it built and where it stands then
pub data Walked (A : Type 0) : Type 0 where
  Fails : BadPlace → Walked A
  Builds : A → Standing → Walked A

-- a walk that goes on with what was built
abbrev pub go_on : {A B : Type 0} → Walked A → (A → Standing → Walked B) → Walked B
go_on (Fails p) f = Fails p
go_on (Builds a s) f = f a s

-- rows are walked one after the other, each under its position
abbrev pub walk_all : {R E : Type 0} → (ℕ → R → Standing → Walked E) → ℕ → List R → Standing → Walked (List E)
walk_all f entry [] s = Builds [] s
walk_all f entry (r ∷ rs) s = go_on (f entry r s) (λ e t. go_on (walk_all f (suc entry) rs t) (λ es u. Builds (e ∷ es) u))

abbrev pub bad_place : ℕ → ℕ → BadWhat → BadPlace
bad_place place entry what = record { node = place; entry = entry; what = what }

-- a node has 7 to 30 entries, the root at least its own lower bound
abbrev pub is_filled : Option (List ℕ) → ℕ → ℕ → Bool
is_filled None low entries = nat_le low entries && nat_le entries 30
is_filled (Some object) low entries = nat_le 7 entries && nat_le entries 30

-- whether a first shape is there, and of the kind of a level: a leaf at level 1, an inner node above
abbrev pub is_of_level : ℕ → List Shape → Bool
is_of_level level [] = false
is_of_level level (shape.Leaf tag rows ∷ shapes) = nat_eq level 1
is_of_level level (shape.Inner tag rows ∷ shapes) = nat_lt 1 level

-- where a walk begins
abbrev pub start : List Shape → Rows → Standing
start shapes rows = record { next = 0; rest = shapes; left = rows }

abbrev pub unreached : ℕ → List Shape → Option BadPlace
unreached next [] = None
unreached next (shape ∷ rest) = Some (bad_place next 0 bad.Fill)

-- after the walk: each record was named, and then each shape was reached
abbrev pub failing : Walked Node → Option BadPlace
failing (Fails p) = Some p
failing (Builds n s) = if nat_eq (finite.len s.left) 0 then unreached s.next s.rest else Some (bad_place 0 0 bad.Missing)

module _ (dist : List ℕ → List ℕ → ℕ) where
  abbrev pub named : ℕ → Option (List ℕ) → ℕ → LeafRow → Standing → Option (List ℕ) → Walked LeafEntry
  named place over entry row s None = Fails (bad_place place entry bad.Number)
  named place over entry row s (Some v) =
      if nat_eq row.1 (parent_distance dist over v) then Builds (record { number = row.0; vector = v; parent = row.1 }) (record { next = s.next; rest = s.rest; left = finite.remove s.left row.0 })
      else Fails (bad_place place entry bad.Parent)

  -- a leaf entry: its number is that of a record that no entry has named, and its parent distance is exact
  abbrev pub walk_leaf_row : ℕ → Option (List ℕ) → ℕ → LeafRow → Standing → Walked LeafEntry
  walk_leaf_row place over entry row s = named place over entry row s (finite.get s.left row.0)

  -- whether each vector is within the radius of the object
  abbrev pub reaches : List ℕ → ℕ → List LeafEntry → Bool
  reaches object radius [] = true
  reaches object radius (l ∷ ls) = nat_le (dist object l.vector) radius && reaches object radius ls

  abbrev pub covered : (Node → List LeafEntry) → ℕ → ℕ → InnerRow → Node → Standing → Walked InnerEntry
  covered under place entry row child s =
      if reaches row.3 row.2 (under child) then Builds (roll-InnerEntry (record { object = row.3; radius = row.2; parent = row.1; child = child })) s
      else Fails (bad_place place entry bad.Radius)

  -- an inner entry whose child is on a level: its parent distance is exact, its child's place is the next one and good, the child is walked, and its radius reaches to each vector below
  abbrev pub walk_inner_row : ℕ → (List ℕ → Standing → Walked Node) → (Node → List LeafEntry) → ℕ → Option (List ℕ) → ℕ → InnerRow → Standing → Walked InnerEntry
  walk_inner_row level below under place over entry row s =
      if nat_eq row.1 (parent_distance dist over row.3) then (
      if nat_eq row.0 s.next && is_of_level level s.rest then go_on (below row.3 s) (covered under place entry row)
      else Fails (bad_place place entry bad.Child)
      ) else Fails (bad_place place entry bad.Parent)

  -- a node whose shape was taken: it is well filled, and then its entries are walked
  abbrev pub walk_shape : ℕ → (List ℕ → Standing → Walked Node) → (Node → List LeafEntry) → Option (List ℕ) → ℕ → Shape → Standing → Walked Node
  walk_shape level below under over place (shape.Leaf tag rows) s =
      if is_filled over 1 (length rows) then go_on (walk_all (walk_leaf_row place over) 0 rows s) (λ es t. Builds (node.Leaf tag es) t)
      else Fails (bad_place place 0 bad.Fill)
  walk_shape level below under over place (shape.Inner tag rows) s =
      if is_filled over 2 (length rows) then go_on (walk_all (walk_inner_row level below under place over) 0 rows s) (λ es t. Builds (node.Inner tag es) t)
      else Fails (bad_place place 0 bad.Fill)

  abbrev pub walk_in : ℕ → (List ℕ → Standing → Walked Node) → (Node → List LeafEntry) → Option (List ℕ) → ℕ → Rows → List Shape → Walked Node
  walk_in level below under over next left [] = Fails (bad_place next 0 bad.Child)
  walk_in level below under over next left (shape ∷ rest) = walk_shape level below under over next shape (record { next = suc next; rest = rest; left = left })

  -- the walk of the next node, on a level, below an entry with this object, none for the root
  abbrev pub walk : ℕ → Option (List ℕ) → Standing → Walked Node
  walk zero over s = Fails (bad_place s.next 0 bad.Child)
  walk (suc h) over s = walk_in h (λ object t. walk h (Some object) t) (leaves h) over s.next s.left s.rest

  -- the first place where the list isn't a tree of this height over these records, in the order of the walk
  abbrev pub first_failing : ℕ → List Shape → Rows → Option BadPlace
  first_failing zero shapes rows = None
  first_failing (suc h) shapes rows = failing (walk (suc h) None (start shapes rows))

  -- a well-formed tree over exactly these records, whose preorder the list is. The empty tree has the height 0, no shapes and no records
  abbrev pub IsTreeOf : ℕ → ℕ → ℕ → List Shape → Rows → Option Node → Type 0
  IsTreeOf width greatest h shapes rows None = (h ≡ 0) × (shapes ≡ []) × (finite.len rows ≡ 0)
  IsTreeOf width greatest h shapes rows (Some n) = IsTree dist width greatest h n × (preorder h n ≡ shapes) × (records h n ≡ rows)

abbrev pub HasObjectsIn : ℕ → ℕ → Shape → Type 0
HasObjectsIn width greatest (shape.Leaf tag rows) = Unit {0}
HasObjectsIn width greatest (shape.Inner tag rows) = AllByRecursion (λ (row : InnerRow). (length row.3 ≡ width) × (row.2 ≤ greatest)) rows

-- what shapes need, to be asked whether they are a tree of a height over records
pub record CanBeBuilt (width greatest h : ℕ) (shapes : List Shape) (rows : Rows) : Type 0 where
  pub few : length shapes ≤ 200000
  pub low : h ≤ 6
  pub no_shapes : (h ≡ 0) ↔ (length shapes ≡ 0)
  pub no_records : (h ≡ 0) ↔ (finite.len rows ≡ 0)
  pub root : 0 < h → is_of_level h shapes ≡ true
  pub objects : AllByRecursion (HasObjectsIn width greatest) shapes
