-- A removal takes one record and leaves nodes well formed, but for one entry that may be missing; where it finds nothing, the pair isn't there.
use Rattle.std.proofs.Common.{◌≡◌, ℕ, zero, suc, ◌+◌, ◌-◌, ◌<◌, ◌≤◌, Bool, true, false, cond, List, [], ◌∷◌, ◌++◌, length, sum_by, Option, Some, None, refl, sym, ap, subst, ◌∙◌, arith, inl, inr, length-append}
use Rattle.std.specs.Prelude.{nat_eq, nat_le, nat_lt, ◌&&◌, ◌↔◌}
use Rattle.std.specs.Option.{option_map}
use Rattle.std.specs.List.{AllByRecursion, flat_map}
use Rattle.std.proofs.lemmas.Bool.{ltb-true}
use Rattle.std.proofs.lemmas.Bool.Decides.{leb_tells, eqb_tells}
use Rattle.std.proofs.lemmas.List.Sums.{sum_by-cons, sum_by-append}
use Rattle.vec_record.specs.Vectors.{IsVector}
use Rattle.vec_record.specs.Distance.{apart}
use Rattle.mtree_node.specs.declared.node.LeafEntry.{LeafEntry}
use Rattle.mtree_node.specs.declared.node.InnerEntry.{InnerEntry, out-InnerEntry}
use Rattle.mtree_node.specs.declared.node.Node.{Node, out-Node}
use Rattle.mtree_node.specs.declared.node.Node.TheOpen.{Node-F}
use Rattle.mtree_node.specs.declared.node.Node.TheVariants as node
use Rattle.mtree_node.specs.Layer.{Layer}
use Rattle.mtree_node.specs.Cost.{is_skipped}
use Rattle.mtree_node.specs.Tree.{leaves, leaves_in, parent_distance, IsFilled, IsLeafEntry, IsNode, IsNodeIn}
use Rattle.mtree_node.proofs.Opened.{out_inner, out_leaf}
use Rattle.mtree_index.specs.Removal.{without_first, first_changed, changed_here, joined_at, size, is_short_at, joined, refilled, is_pair, entry_without, to_object, with_child, removed, removed_in}
use Rattle.mtree_index.proofs.Parted.{Lawful}
use Rattle.mtree_index.proofs.Places.{all_append}
use Rattle.mtree_index.proofs.Totals.{total, total-cons, total-append, total-flat_map, far, none_far, all_within}
use Rattle.mtree_index.proofs.Distinct.{under}
use Rattle.mtree_index.proofs.Kept.{IsEntry, vectors_below, leaves_leaf, leaves_inner}
use Rattle.mtree_index.proofs.Joins.{IsAlmostFilled, IsLoose, IsLooseEntry, AreJoined, below, joins, loose_entry, tight_entry, sizes_of}

-- what a search needs of a metric at a width, beside what a split needs
pub record Telling (dist : List ℕ → List ℕ → ℕ) (width : ℕ) : Type 0 where
  pub identity : (u v : List ℕ) → IsVector width u → IsVector width v → (dist u v ≡ 0) ↔ (u ≡ v)
  pub symmetry : (u v : List ℕ) → IsVector width u → IsVector width v → dist u v ≡ dist v u

both : (a b : Bool) → (a && b) ≡ true → (a ≡ true) × (b ≡ true)
both true true e = (refl, refl)
both true false e = cc
both false b e = cc

module _ (dist : List ℕ → List ℕ → ℕ) (w greatest : ℕ) (laws : Lawful dist w greatest) (tells : Telling dist w) (number : ℕ) (v : List ℕ) (iv : IsVector w v) where
  -- 1 for a vector at distance 0, 0 otherwise
  abbrev pub same : List ℕ → ℕ
  same u = cond (nat_eq (dist v u) 0) 1 0

  -- how often the pair stands in a list
  abbrev pub hits : List LeafEntry → ℕ
  hits es = total (under number same) es

  far_off : (n : ℕ) (u : List ℕ) → 0 < dist v u → under number same n u ≡ 0
  far_off n u l =
      elim (nat_eq n number) as (λ b. cond b (same u) 0 ≡ 0) [
        | true ↦ elim (eqb_tells (dist v u) 0) [ inl t ↦ absurd (omega (arith, l, t.1)) | inr f ↦ rw f.0 refl ]
        | false ↦ refl
      ]

  -- where the first pruning test passes over an entry, its object is farther than the reach
  skip_far : (over : Option (List ℕ)) (object u : List ℕ) (reach parent : ℕ) → ((o : List ℕ) → over ≡ Some o → IsVector w o) → IsVector w u → parent ≡ parent_distance dist over u → is_skipped (to_object dist v over) reach parent ≡ true → reach < dist v u
  skip_far None object u reach parent k i p s = cc
  skip_far (Some o) object u reach parent k i p s =
      let io = k o refl in
      let off : reach < apart (dist v o) parent = ltb-true reach (apart (dist v o) parent) s in
      omega (arith, off, p, laws.triangle v u o iv i io, laws.triangle u v o i iv io, tells.symmetry u v i iv, tells.symmetry u o i io, tells.symmetry o u io i)

  -- ---- leaves

  abbrev pub LeafLost : Option (List ℕ) → List LeafEntry → Option (List LeafEntry) → Type 0
  LeafLost over es None = hits es ≡ 0
  LeafLost over es (Some xs) = AllByRecursion (IsLeafEntry dist w greatest over) xs × (length es ≡ suc (length xs)) × ((f : ℕ → List ℕ → ℕ) → total f es ≡ f number v + total f xs)

  found_pair : (over : Option (List ℕ)) (e : LeafEntry) → IsLeafEntry dist w greatest over e → is_pair dist v number over e ≡ true → (e.number ≡ number) × (e.vector ≡ v)
  found_pair over e k y =
      elim (is_skipped (to_object dist v over) 0 e.parent) as (λ b. cond b false (nat_eq (dist v e.vector) 0 && nat_eq e.number number) ≡ true → (e.number ≡ number) × (e.vector ≡ v)) [
        | true ↦ λ z. cc
        | false ↦ λ z.
            let two = both (nat_eq (dist v e.vector) 0) (nat_eq e.number number) z in
            elim (eqb_tells (dist v e.vector) 0) [
              | inl t ↦ elim (eqb_tells e.number number) [ inl n ↦ (n.1, sym ((tells.identity v e.vector iv k.vector).0 t.1)) | inr n ↦ absurd (let x = two.1 in let z2 = n.0 in cc) ]
              | inr f ↦ absurd (let x = two.0 in let z2 = f.0 in cc)
            ]
      ] y

  neither : (a b : Bool) → (a && b) ≡ false → ◌≡◌ {A = ℕ} (cond b (cond a 1 0) 0) 0
  neither true true e = cc
  neither true false e = refl
  neither false true e = refl
  neither false false e = refl

  no_pair : (over : Option (List ℕ)) (e : LeafEntry) → ((o : List ℕ) → over ≡ Some o → IsVector w o) → IsLeafEntry dist w greatest over e → is_pair dist v number over e ≡ false → under number same e.number e.vector ≡ 0
  no_pair over e ko k n =
      elim (is_skipped (to_object dist v over) 0 e.parent) as (λ b. is_skipped (to_object dist v over) 0 e.parent ≡ b → cond b false (nat_eq (dist v e.vector) 0 && nat_eq e.number number) ≡ false → under number same e.number e.vector ≡ 0) [
        | true ↦ λ s z. far_off e.number e.vector (skip_far over e.vector e.vector 0 e.parent ko k.vector k.parent s)
        | false ↦ λ s z. neither (nat_eq (dist v e.vector) 0) (nat_eq e.number number) z
      ] refl n

  cons_lost : (over : Option (List ℕ)) (e : LeafEntry) (es : List LeafEntry) (o : Option (List LeafEntry)) → IsLeafEntry dist w greatest over e → under number same e.number e.vector ≡ 0 → LeafLost over es o → LeafLost over (e ∷ es) (option_map (λ xs. e ∷ xs) o)
  cons_lost over e es None k z l = omega (arith, total-cons (under number same) e es, z, l)
  cons_lost over e es (Some xs) k z l = ((k, l.0), omega (arith, l.1), λ f. omega (arith, total-cons f e es, total-cons f e xs, l.2 f))

  leaf_lost : (over : Option (List ℕ)) (es : List LeafEntry) → ((o : List ℕ) → over ≡ Some o → IsVector w o) → AllByRecursion (IsLeafEntry dist w greatest over) es → LeafLost over es (without_first (is_pair dist v number over) es)
  leaf_lost over [] ko a = refl
  leaf_lost over (e ∷ es) ko a =
      elim (is_pair dist v number over e) as (λ b. is_pair dist v number over e ≡ b → LeafLost over (e ∷ es) (cond b (Some es) (option_map (λ xs. e ∷ xs) (without_first (is_pair dist v number over) es)))) [
        | true ↦ λ y.
            let is = found_pair over e a.0 y in
            (a.1, refl, λ f. total-cons f e es ∙ ap (λ n. n + total f es) (ap (λ n. f n e.vector) is.0 ∙ ap (f number) is.1))
        | false ↦ λ y. cons_lost over e es (without_first (is_pair dist v number over) es) a.0 (no_pair over e ko a.0 y) (leaf_lost over es ko a.1)
      ] refl

  -- ---- inner entries

  -- what a removal leaves of a node: one record is gone, or the pair wasn't there
  abbrev pub IsLost : ℕ → Option (List ℕ) → List LeafEntry → Option Node → Type 0
  IsLost h over old None = hits old ≡ 0
  IsLost h over old (Some m) = IsLoose dist w greatest laws h over m × ((f : ℕ → List ℕ → ℕ) → total f old ≡ f number v + total f (leaves h m))

  abbrev pub EntryLost : ℕ → Option (List ℕ) → InnerEntry → Option InnerEntry → Type 0
  EntryLost h over e None = hits (leaves h (out-InnerEntry e).child) ≡ 0
  EntryLost h over e (Some x) = IsLooseEntry dist w greatest laws h over x × ((f : ℕ → List ℕ → ℕ) → total f (leaves h (out-InnerEntry e).child) ≡ f number v + total f (leaves h (out-InnerEntry x).child))

  far_hits : (es : List LeafEntry) → AllByRecursion (λ l. 0 < dist v l.vector) es → hits es ≡ 0
  far_hits [] a = refl
  far_hits (e ∷ es) a = omega (arith, total-cons (under number same) e es, far_off e.number e.vector a.0, far_hits es a.1)

  far_below : (object : List ℕ) (radius : ℕ) (es : List LeafEntry) → IsVector w object → AllByRecursion (λ l. IsVector w l.vector) es → AllByRecursion (λ l. dist object l.vector ≤ radius) es → radius < dist v object → AllByRecursion (λ l. 0 < dist v l.vector) es
  far_below object radius [] i f c l = tt
  far_below object radius (e ∷ es) i f c l = (omega (arith, c.0, l, laws.triangle v e.vector object iv f.0 i, tells.symmetry e.vector object f.0 i), far_below object radius es i f.1 c.1 l)

  child_lost : (h : ℕ) (over : Option (List ℕ)) (e : InnerEntry) (o : Option Node) → IsEntry dist w greatest laws h over e → IsLost h (Some (out-InnerEntry e).object) (leaves h (out-InnerEntry e).child) o
      → EntryLost h over e (option_map (with_child (out-InnerEntry e)) o)
  child_lost h over e None k l = l
  child_lost h over e (Some m) k l =
      let x = out-InnerEntry e in (
        record {
          object = k.object;
          parent = k.parent;
          radius = k.radius;
          covers = all_within dist x.object x.radius (leaves h m) (omega (arith, l.1 (far dist x.object x.radius), none_far dist x.object x.radius (leaves h x.child) k.covers));
          child = l.0;
        },
        l.1,
      )

  pub entry_lost : (h : ℕ) (over : Option (List ℕ)) (e : InnerEntry) → ((o : List ℕ) → over ≡ Some o → IsVector w o) → IsEntry dist w greatest laws h over e
      → IsLost h (Some (out-InnerEntry e).object) (leaves h (out-InnerEntry e).child) (removed dist greatest number v h (Some (out-InnerEntry e).object) (out-InnerEntry e).child)
      → EntryLost h over e (entry_without dist v (λ object m. removed dist greatest number v h (Some object) m) over e)
  entry_lost h over e ko k l =
      let x = out-InnerEntry e in
      let below = removed dist greatest number v h (Some x.object) x.child in
      let gone = λ (off : x.radius < dist v x.object). far_hits (leaves h x.child) (far_below x.object x.radius (leaves h x.child) k.object (vectors_below dist w greatest laws h (Some x.object) x.child k.child) k.covers off) in
      elim (is_skipped (to_object dist v over) x.radius x.parent) as (λ b. is_skipped (to_object dist v over) x.radius x.parent ≡ b
      → EntryLost h over e (cond b None (cond (nat_le (dist v x.object) x.radius) (option_map (with_child x) below) None))) [
        | true ↦ λ s. gone (skip_far over x.object x.object x.radius x.parent ko k.object k.parent s)
        | false ↦ λ s. elim (leb_tells (dist v x.object) x.radius) [ inl t ↦ rw t.0 (child_lost h over e below k l) | inr f ↦ rw f.0 (gone f.1) ]
      ] refl

  -- ---- the entries of a node

  -- the entry at a place may lack an entry below, and the others are lawful
  abbrev pub OneLoose : ℕ → Option (List ℕ) → ℕ → List InnerEntry → Type 0
  OneLoose h over place [] = ⊥
  OneLoose h over zero (e ∷ es) = IsLooseEntry dist w greatest laws h over e × AllByRecursion (IsEntry dist w greatest laws h over) es
  OneLoose h over (suc place) (e ∷ es) = IsEntry dist w greatest laws h over e × OneLoose h over place es

  abbrev pub AmongLost : ℕ → Option (List ℕ) → List InnerEntry → Option (ℕ × List InnerEntry) → Type 0
  AmongLost h over es None = hits (flat_map (λ (e : InnerEntry). leaves h (out-InnerEntry e).child) es) ≡ 0
  AmongLost h over es (Some p) =
      OneLoose h over p.0 p.1 × (length p.1 ≡ length es) × ((f : ℕ → List ℕ → ℕ) → sum_by (below dist w greatest laws f h) es ≡ f number v + sum_by (below dist w greatest laws f h) p.1)

  later_lost : (h : ℕ) (over : Option (List ℕ)) (e : InnerEntry) (es : List InnerEntry) (o : Option (ℕ × List InnerEntry)) → IsEntry dist w greatest laws h over e → hits (leaves h (out-InnerEntry e).child) ≡ 0 → AmongLost h over es o
      → AmongLost h over (e ∷ es) (option_map (λ p. (suc p.0, e ∷ p.1)) o)
  later_lost h over e es None k z l = omega (arith, total-append (under number same) (leaves h (out-InnerEntry e).child) (flat_map (λ (x : InnerEntry). leaves h (out-InnerEntry x).child) es), z, l)
  later_lost h over e es (Some p) k z l =
      ((k, l.0), omega (arith, l.1), λ f. omega (arith, sum_by-cons (below dist w greatest laws f h) e es, sum_by-cons (below dist w greatest laws f h) e p.1, l.2 f))

  here_lost : (h : ℕ) (over : Option (List ℕ)) (e : InnerEntry) (es : List InnerEntry) (o : Option InnerEntry) (later : Option (ℕ × List InnerEntry)) → IsEntry dist w greatest laws h over e → AllByRecursion (IsEntry dist w greatest laws h over) es → EntryLost h over e o
      → AmongLost h over es later → AmongLost h over (e ∷ es) (changed_here o e es later)
  here_lost h over e es None later k a l m = later_lost h over e es later k l m
  here_lost h over e es (Some x) later k a l m =
      ((l.0, a), refl, λ f. omega (arith, sum_by-cons (below dist w greatest laws f h) e es, sum_by-cons (below dist w greatest laws f h) x es, l.1 f))

  pub among_lost : (h : ℕ) (over : Option (List ℕ)) (g : InnerEntry → Option InnerEntry) (es : List InnerEntry) → AllByRecursion (IsEntry dist w greatest laws h over) es → ((e : InnerEntry) → IsEntry dist w greatest laws h over e → EntryLost h over e (g e))
      → AmongLost h over es (first_changed g es)
  among_lost h over g [] a k = refl
  among_lost h over g (e ∷ es) a k = here_lost h over e es (g e) (first_changed g es) a.0 a.1 (k e a.0) (among_lost h over g es a.1 k)

  -- ---- a child that lacks an entry joins a sibling

  -- the entries of a node after a join: lawful, at most one fewer, and they hold what was there
  pub record AreRefilled (h : ℕ) (over : Option (List ℕ)) (old es : List InnerEntry) : Type 0 where
    pub all : AllByRecursion (IsEntry dist w greatest laws h over) es
    pub low : length old ≤ length es + 1
    pub high : length es ≤ length old
    pub sums : (f : ℕ → List ℕ → ℕ) → sum_by (below dist w greatest laws f h) es ≡ sum_by (below dist w greatest laws f h) old

  pair_refilled : (h : ℕ) (over : Option (List ℕ)) (l r : InnerEntry) (es : List InnerEntry) → AreJoined dist w greatest laws h over (λ f. below dist w greatest laws f h l + below dist w greatest laws f h r) (joined dist greatest over l r)
      → AllByRecursion (IsEntry dist w greatest laws h over) es → AreRefilled h over (l ∷ r ∷ es) (joined dist greatest over l r ++ es)
  pair_refilled h over l r es j a =
      let xs = joined dist greatest over l r in
      record {
        all = all_append (IsEntry dist w greatest laws h over) xs es j.all a;
        low = omega (arith, j.some, length-append xs es);
        high = omega (arith, j.few, length-append xs es);
        sums = λ f.
            let g = below dist w greatest laws f h in
            omega (arith, sum_by-append g xs es, j.sums f, sum_by-cons g l (r ∷ es), sum_by-cons g r es);
      }

  short_size : (n : ℕ) → nat_lt n 7 ≡ true → n < 7
  short_size n s = ltb-true n 7 s

  first_refilled : (h : ℕ) (over : Option (List ℕ)) (e : InnerEntry) (es : List InnerEntry) → OneLoose h over 0 (e ∷ es) → 1 ≤ length es → size (out-InnerEntry e).child < 7 → AreRefilled h over (e ∷ es) (joined_at 0 (joined dist greatest over) (e ∷ es))
  first_refilled h over e [] k l s = absurd (omega (arith, l))
  first_refilled h over e (r ∷ es) k l s =
      let n = loose_entry dist w greatest laws h over r k.1.0 in
      pair_refilled h over e r es (joins dist w greatest laws h over e r k.0 n (omega (arith, s, sizes_of dist w greatest laws h (out-InnerEntry r).object (out-InnerEntry r).child n.child))) k.1.1

  next_refilled : (h : ℕ) (over : Option (List ℕ)) (place : ℕ) (e : InnerEntry) (es : List InnerEntry) → IsEntry dist w greatest laws h over e → OneLoose h over place es → is_short_at place es ≡ true
      → AreRefilled h over (e ∷ es) (joined_at place (joined dist greatest over) (e ∷ es))
  next_refilled h over place e [] k o s = absurd o
  next_refilled h over zero e (r ∷ es) k o s =
      let n = loose_entry dist w greatest laws h over e k in
      pair_refilled h over e r es (joins dist w greatest laws h over e r n o.0 (omega (arith, short_size (size (out-InnerEntry r).child) s, sizes_of dist w greatest laws h (out-InnerEntry e).object (out-InnerEntry e).child n.child))) o.1
  next_refilled h over (suc place) e (r ∷ es) k o s =
      let m = next_refilled h over place r es o.0 o.1 s in
      record {
        all = (k, m.all);
        low = omega (arith, m.low);
        high = omega (arith, m.high);
        sums = λ f.
            let g = below dist w greatest laws f h in
            omega (arith, sum_by-cons g e (joined_at place (joined dist greatest over) (r ∷ es)), sum_by-cons g e (r ∷ es), m.sums f);
      }

  enough : (n : ℕ) → nat_lt n 7 ≡ false → 7 ≤ n
  enough n s = elim (leb_tells (suc n) 7) [ inl t ↦ absurd (let x = t.0 in cc) | inr f ↦ omega (arith, f.1) ]

  tight_all : (h : ℕ) (over : Option (List ℕ)) (place : ℕ) (es : List InnerEntry) → OneLoose h over place es → is_short_at place es ≡ false → AllByRecursion (IsEntry dist w greatest laws h over) es
  tight_all h over place [] o s = absurd o
  tight_all h over zero (e ∷ es) o s = (tight_entry dist w greatest laws h over e o.0 (enough (size (out-InnerEntry e).child) s), o.1)
  tight_all h over (suc place) (e ∷ es) o s = (o.0, tight_all h over place es o.1 s)

  short_refilled : (h : ℕ) (over : Option (List ℕ)) (place : ℕ) (es : List InnerEntry) → OneLoose h over place es → 2 ≤ length es → is_short_at place es ≡ true → AreRefilled h over es (joined_at (place - 1) (joined dist greatest over) es)
  short_refilled h over place [] o l s = absurd o
  short_refilled h over zero (e ∷ es) o l s = first_refilled h over e es o (omega (arith, l)) (short_size (size (out-InnerEntry e).child) s)
  short_refilled h over (suc place) (e ∷ es) o l s =
      let level : suc place - 1 ≡ place = omega arith in
      subst (λ k. AreRefilled h over (e ∷ es) (joined_at k (joined dist greatest over) (e ∷ es))) (sym level) (next_refilled h over place e es o.0 o.1 s)

  refilled_well : (h : ℕ) (over : Option (List ℕ)) (place : ℕ) (es : List InnerEntry) → OneLoose h over place es → 2 ≤ length es → AreRefilled h over es (refilled dist greatest over place es)
  refilled_well h over place es o l =
      elim (is_short_at place es) as (λ b. is_short_at place es ≡ b → AreRefilled h over es (cond b (joined_at (place - 1) (joined dist greatest over) es) es)) [
        | true ↦ λ s. short_refilled h over place es o l s
        | false ↦ λ s. record { all = tight_all h over place es o s; low = omega arith; high = omega arith; sums = λ f. refl }
      ] refl

  -- ---- nodes

  almost : (over : Option (List ℕ)) (low n m : ℕ) → IsFilled over low n → n ≤ m + 1 → m ≤ n → IsAlmostFilled dist w greatest laws over low m
  almost None low n m s a b = (omega (arith, s.0), omega (arith, s.1))
  almost (Some o) low n m s a b = (omega (arith, s.0), omega (arith, s.1))

  leaf_loose : (h tag : ℕ) (over : Option (List ℕ)) (es : List LeafEntry) (o : Option (List LeafEntry)) → h ≡ 0 → IsFilled over 1 (length es) → LeafLost over es o → IsLost (suc h) over es (option_map (node.Leaf tag) o)
  leaf_loose h tag over es None z s l = l
  leaf_loose h tag over es (Some xs) z s l = (rw out_leaf (z, almost over 1 (length es) (length xs) s (omega (arith, l.1)) (omega (arith, l.1)), l.0), λ f. l.2 f ∙ ap (λ ys. f number v + total f ys) (sym (leaves_leaf dist w greatest laws h tag xs)))

  two_there : (over : Option (List ℕ)) (n : ℕ) → IsFilled over 2 n → 2 ≤ n
  two_there None n s = s.0
  two_there (Some o) n s = omega (arith, s.0)

  inner_loose : (h tag : ℕ) (over : Option (List ℕ)) (es : List InnerEntry) (o : Option (ℕ × List InnerEntry)) → 0 < h → IsFilled over 2 (length es) → AmongLost h over es o
      → IsLost (suc h) over (flat_map (λ (e : InnerEntry). leaves h (out-InnerEntry e).child) es) (option_map (λ p. node.Inner tag (refilled dist greatest over p.0 p.1)) o)
  inner_loose h tag over es None z s l = l
  inner_loose h tag over es (Some p) z s l =
      let r = refilled_well h over p.0 p.1 l.0 (omega (arith, two_there over (length es) s, l.1)) in
      let xs = refilled dist greatest over p.0 p.1 in
      let L = (λ (e : InnerEntry). leaves h (out-InnerEntry e).child) in (
        rw out_inner (z, almost over 2 (length es) (length xs) s (omega (arith, r.low, l.1)) (omega (arith, r.high, l.1)), r.all),
        λ f.
            let now : total f (leaves (suc h) (node.Inner tag xs)) ≡ sum_by (below dist w greatest laws f h) xs = ap (total f) (leaves_inner dist w greatest laws h tag xs) ∙ total-flat_map f L xs in
            omega (arith, now, total-flat_map f L es, r.sums f, l.2 f),
      )

  object_is : (a b : List ℕ) → Some a ≡ Some b → IsVector w a → IsVector w b
  object_is a b e i = let is : a ≡ b = cc in subst (IsVector w) is i

  lost_in : (h : ℕ) → ((over : Option (List ℕ)) (n : Node) → ((o : List ℕ) → over ≡ Some o → IsVector w o) → IsNode dist w greatest h over n → IsLost h over (leaves h n) (removed dist greatest number v h over n))
      → (over : Option (List ℕ)) (n : Layer) → ((o : List ℕ) → over ≡ Some o → IsVector w o) → IsNodeIn dist w greatest h (λ object m. IsNode dist w greatest h (Some object) m) (leaves h) over n
      → IsLost (suc h) over (leaves_in (leaves h) n) (removed_in dist greatest number v (λ object m. removed dist greatest number v h (Some object) m) over n)
  lost_in h ih over (Node-F.Leaf tag es) ko s = leaf_loose h tag over es (without_first (is_pair dist v number over) es) s.0 s.1 (leaf_lost over es ko s.2)
  lost_in h ih over (Node-F.Inner tag es) ko s =
      let g = entry_without dist v (λ object m. removed dist greatest number v h (Some object) m) over in
      inner_loose h tag over es (first_changed g es) s.0 s.1 (among_lost h over g es s.2 (λ e k. entry_lost h over e ko k (ih (Some (out-InnerEntry e).object) (out-InnerEntry e).child (λ o q. object_is (out-InnerEntry e).object o q k.object) k.child)))

  -- a removal takes the pair's record alone; where it finds nothing the pair isn't there
  pub lost : (h : ℕ) (over : Option (List ℕ)) (n : Node) → ((o : List ℕ) → over ≡ Some o → IsVector w o) → IsNode dist w greatest h over n → IsLost h over (leaves h n) (removed dist greatest number v h over n)
  lost zero over n ko s = absurd s
  lost (suc h) over n ko s = lost_in h (lost h) over (out-Node n) ko s
