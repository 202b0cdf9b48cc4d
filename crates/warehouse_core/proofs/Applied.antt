-- Changes that can apply, one after another, with the marks and the events.
use Rattle.std.proofs.Common.{◌≡◌, ℕ, ◌+◌, ◌-◌, ◌<◌, ◌≤◌, Bool, true, false, cond, ◌&&◌, nat_le, List, [], ◌∷◌, ◌++◌, Option, Some, None, Result, Ok, Err, IsOk, refl, sym, ap, subst, ◌∙◌, arith, append_assoc, append-nil}
use lib.Dec.{T}
use Rattle.std.specs.List.{AllByRecursion}
use Rattle.std.specs.Option.{is_some}
use Rattle.std.specs.Result.{is_ok}
use Rattle.std.specs.Ordering.{nat_cmp, eq_by_cmp, is_lt}
use Rattle.std.specs.Cmp.{nat_cmp_total}
use Rattle.std.specs.FinMap as maps
use Rattle.std.specs.FinMap.Entries.{find as value_at, is_sorted, below_all}
use Rattle.std.proofs.lemmas.Bool.{false≢true, true≢false}
use Rattle.std.proofs.lemmas.Bool.Decides.{nat_tests}
use Rattle.std.proofs.lemmas.Option.{none-some, same_Some}
use Rattle.vec_record.specs.Held.{Held, Rows}
use Rattle.vec_record.specs.Limits.{width_of}
use Rattle.vec_record.specs.declared.change.Change.{Change}
use Rattle.vec_record.specs.declared.change.Change.TheVariants.{Insert, Delete}
use Rattle.vec_record.specs.declared.event.Event.{Event}
use Rattle.plain_dbscan.specs.Cases.{cases_of}
use Rattle.page_layout.specs.Heads.{Values}
use Rattle.store_image.specs.Placing.{CanStand}
use Rattle.batch_text.specs.After.{after, after_from, and_then, changed}
use Rattle.batch_text.specs.Batch.{IsChangeOf, IsSpelledChange}
use Rattle.batch_text.specs.declared.faults.CheckFault.{CheckFault}
use Rattle.batch_text.specs.declared.faults.CheckFault.TheVariants.{Repeated, Unknown, Full}
use Rattle.kept_clusters.specs.Kept.{Kept}
use Rattle.mtree_index.specs.Plain.{PlainTree}
use Rattle.warehouse_core.specs.Batches.{density_by, events_of, marks_on, or_else, rows_after}
use Rattle.warehouse_core.specs.Costs.{tree_after, tree_after_all, IsPaid, ArePaid}
use Rattle.warehouse_core.specs.Work.{held_after, work_of, work_of_all}
use Rattle.plain_dbscan.specs.Marks.{Density, density, Entries}
use Rattle.store_image.specs.Placing.{IsKept}
use Rattle.warehouse_core.specs.States.{StandBy}
use Rattle.warehouse_core.specs.Inside.{AreHeld, CanHold, CanFollow}
use Rattle.warehouse_core.proofs.Alike.{found_so, same_key}

true_of : (b : Bool) → T b → b ≡ true
true_of true h = refl
true_of false h = absurd h

both : (a b : Bool) → T (a && b) → T a × T b
both true b h = (tt, h)
both false b h = absurd h

-- a key that is found stands above all that are below
found_above : (x : ℕ) (es : Entries) (q : ℕ) (v : List ℕ) → T (below_all nat_cmp x es) → value_at nat_cmp q es ≡ Some v → eq_by_cmp nat_cmp q x ≡ false
found_above x [] q v below is = absurd (none-some _ is)
found_above x (e ∷ es) q v below is =
    let parts = both (is_lt (nat_cmp x e.0)) (below_all nat_cmp x es) below in
    let less = true_of (is_lt (nat_cmp x e.0)) parts.0 in
    elim (eq_by_cmp nat_cmp q e.0) as (λ b. eq_by_cmp nat_cmp q e.0 ≡ b → cond b (Some e.1) (value_at nat_cmp q es) ≡ Some v → eq_by_cmp nat_cmp q x ≡ false) [
      | true ↦ λ tied here. grind (arith, nat_tests, tied, less)
      | false ↦ λ apart later. found_above x es q v parts.1 later
    ] refl is

tied_itself : (q : ℕ) → eq_by_cmp nat_cmp q q ≡ true
tied_itself q = grind (arith, nat_tests)

-- what holds of all that is found holds of each entry
each_found : (P : ℕ × List ℕ → Type 0) (es : Entries) → T (is_sorted nat_cmp es) → ((q : ℕ) (v : List ℕ) → value_at nat_cmp q es ≡ Some v → P (q, v)) → AllByRecursion P es
each_found P [] sorted found = tt
each_found P (e ∷ es) sorted found =
    let parts = both (below_all nat_cmp e.0 es) (is_sorted nat_cmp es) sorted in (
      found e.0 e.1 (ap (λ (b : Bool). cond b (Some e.1) (value_at nat_cmp e.0 es)) (tied_itself e.0)),
      each_found P es parts.1 (λ q v is. found q v (ap (λ (b : Bool). cond b (Some e.1) (value_at nat_cmp q es)) (found_above e.0 es q v parts.0 is) ∙ is)),
    )

-- what holds of each record, and of the one that is inserted, holds of each after the change
abbrev OfInserted : (ℕ × List ℕ → Type 0) → Change → Type 0
OfInserted P (Insert n v) = P (n, v)
OfInserted P (Delete n) = Unit {0}

module _ (P : ℕ × List ℕ → Type 0) (rows : Rows) (all : AllByRecursion P (maps.entries rows)) where
  kept_so : (q : ℕ) (v : List ℕ) → maps.get rows q ≡ Some v → P (q, v)
  kept_so q v is = found_so P (maps.entries rows) q v all (sym (maps.get-entries rows q) ∙ is)

  changed_so : (c : Change) → OfInserted P c → (q : ℕ) (v : List ℕ) → maps.get (changed rows c) q ≡ Some v → P (q, v)
  changed_so (Insert n w) new q v is =
      elim (eq_by_cmp nat_cmp q n) as (λ b. eq_by_cmp nat_cmp q n ≡ b → cond b (Some w) (maps.get rows q) ≡ Some v → P (q, v)) [
        | true ↦ λ tied here. let Q : ℕ → Type 0 = λ k. P (k, v) in subst Q (same_key q n tied) (let R : List ℕ → Type 0 = λ u. P (n, u) in subst R (same_Some _ _ here) new)
        | false ↦ λ apart later. kept_so q v later
      ] refl (sym (maps.get-insert nat_cmp_total rows n w q) ∙ is)
  changed_so (Delete n) new q v is =
      elim (eq_by_cmp nat_cmp q n) as (λ b. cond b None (maps.get rows q) ≡ Some v → P (q, v)) [
        | true ↦ λ gone. absurd (none-some _ gone)
        | false ↦ λ later. kept_so q v later
      ] (sym (maps.get-remove nat_cmp_total rows n q) ∙ is)

  all_changed : (c : Change) → OfInserted P c → AllByRecursion P (maps.entries (changed rows c))
  all_changed c new = each_found P (maps.entries (changed rows c)) (maps.entries_sorted (changed rows c)) (λ q v is. changed_so c new q v (maps.get-entries (changed rows c) q ∙ is))

inserted_stands : (v : Values) (c : Change) → IsChangeOf (width_of v.metric v.dim) c → IsSpelledChange v.metric v.dim c → OfInserted (CanStand v) c
inserted_stands v (Insert n w) fits spelled = record { number = fits.0; vector = fits.1; spelled = spelled }
inserted_stands v (Delete n) fits spelled = tt

pub held_changed : (v : Values) (old new : Held) (c : Change) → AreHeld v old → IsChangeOf (width_of v.metric v.dim) c → IsSpelledChange v.metric v.dim c → new ≡ record { width = old.width; vectors = changed old.vectors c } → AreHeld v new
held_changed v old new c held fits spelled is =
    let P : Rows → Type 0 = λ rows. AllByRecursion (CanStand v) (maps.entries rows) in
    record {
      width = ap (λ (h : Held). h.width) is ∙ held.width;
      each = subst P (sym (ap (λ (h : Held). h.vectors) is)) (all_changed (CanStand v) old.vectors held.each c (inserted_stands v c fits spelled));
    }

-- no records can be held
pub none_held : (P : ℕ × List ℕ → Type 0) → AllByRecursion P (maps.entries (maps.empty {R = nat_cmp}))
none_held P = each_found P (maps.entries maps.empty) (maps.entries_sorted maps.empty) (λ q v is. absurd (none-some _ (sym (maps.get-empty nat_cmp q) ∙ maps.get-entries maps.empty q ∙ is)))

-- where all changes apply, the first can, the others apply to what it makes, and there are never too many records
absent : {X : Type 0} (o : Option X) → is_some o ≡ false → o ≡ None
absent None e = refl
absent (Some x) e = absurd (true≢false e)

record Applies (place cap : ℕ) (rows : Rows) (c : Change) (cs : List Change) : Type 0 where
  can : CanFollow cap rows c
  rest : after_from place cap rows (c ∷ cs) ≡ after_from (place + 1) cap (changed rows c) cs
  few : maps.len rows ≤ cap → maps.len (changed rows c) ≤ cap

insert_could : (a b : Bool) (e f : CheckFault) (m : Rows) (next : Rows → Result Rows CheckFault) → is_ok (and_then (cond a (Err e) (cond b (Err f) (Ok m))) next) ≡ true
    → (a ≡ false) × (b ≡ false) × (and_then (cond a (Err e) (cond b (Err f) (Ok m))) next ≡ next m)
insert_could true b e f m next h = absurd (false≢true h)
insert_could false true e f m next h = absurd (false≢true h)
insert_could false false e f m next h = (refl, refl, refl)

delete_could : (a : Bool) (e : CheckFault) (m : Rows) (next : Rows → Result Rows CheckFault) → is_ok (and_then (cond a (Ok m) (Err e)) next) ≡ true
    → (a ≡ true) × (and_then (cond a (Ok m) (Err e)) next ≡ next m)
delete_could true e m next h = (refl, refl)
delete_could false e m next h = absurd (false≢true h)

below_cap : (n cap : ℕ) → nat_le cap n ≡ false → n < cap
below_cap n cap h = grind (arith, nat_tests)

one_more_few : (b : Bool) (n cap new : ℕ) → new ≡ cond b n (n + 1) → nat_le cap n ≡ false → new ≤ cap
one_more_few true n cap new is below = grind (arith, nat_tests)
one_more_few false n cap new is below = grind (arith, nat_tests)

one_less_few : (b : Bool) (n cap new : ℕ) → new ≡ cond b (n - 1) n → n ≤ cap → new ≤ cap
one_less_few true n cap new is le = omega (arith, is, le)
one_less_few false n cap new is le = omega (arith, is, le)

applies : (place cap : ℕ) (rows : Rows) (c : Change) (cs : List Change) → IsOk (after_from place cap rows (c ∷ cs)) → Applies place cap rows c cs
applies place cap rows (Insert n v) cs h =
    let could = insert_could (maps.contains_key rows n) (nat_le cap (maps.len rows)) (Repeated place) (Full place) (maps.insert rows n v) (λ next. after_from (place + 1) cap next cs) h in
    record {
      can = (absent (maps.get rows n) could.0, below_cap (maps.len rows) cap could.1);
      rest = could.2;
      few = λ le. one_more_few (maps.contains_key rows n) (maps.len rows) cap (maps.len (maps.insert rows n v)) (maps.len-insert nat_cmp_total rows n v) could.1;
    }
applies place cap rows (Delete n) cs h =
    let could = delete_could (maps.contains_key rows n) (Unknown place) (maps.remove rows n) (λ next. after_from (place + 1) cap next cs) h in
    record {
      can = could.0;
      rest = could.1;
      few = one_less_few (maps.contains_key rows n) (maps.len rows) cap (maps.len (maps.remove rows n)) (maps.len-remove nat_cmp_total rows n);
    }

-- The changes that are left apply to the records that stand now, and come to what all changes come to: the records, the
-- events, the tree, and what they may cost. Of events and costs it speaks where a premise holds, as do the clusters.
pub record Goes
    (S : Type 0) (dist : List ℕ → List ℕ → ℕ) (most : ℕ → ℕ) (v : Values) (start : Held) (tree : PlainTree) (steps : ℕ) (all : List Change)
    (records : Held) (k : Kept) (events : List Event) (now : ℕ) (cs : List Change) : Type 0 where
  pub holds : CanHold v records
  pub kept : IsKept v records k
  pub clusters : S → StandBy dist v records k
  pub fit : AllByRecursion (IsChangeOf (width_of v.metric v.dim)) cs
  pub spelled : AllByRecursion (IsSpelledChange v.metric v.dim) cs
  pub rest : (place : ℕ) × (after_from place v.cap records.vectors cs ≡ after v.cap start.vectors all)
  pub events_are : S → events ++ events_of v records.vectors cs ≡ events_of v start.vectors all
  pub tree_is : tree_after_all dist most records cs k.tree ≡ tree_after_all dist most start all tree
  pub paid : S → (reached : ℕ) → ArePaid most (density dist v.eps v.minpts) k.tree records cs now reached → ArePaid most (density dist v.eps v.minpts) tree start all steps reached
  pub worked : S → now + work_of_all (density_by v) records cs ≤ steps + work_of_all (density_by v) start all

-- changes that cost nothing are paid
pub nothing_paid : (most : ℕ → ℕ) (d : Density) (tree : PlainTree) (records : Held) (cs : List Change) (steps : ℕ) → ArePaid most d tree records cs steps steps
nothing_paid most d tree records [] steps = omega arith
nothing_paid most d tree records (Insert n v ∷ cs) steps = (steps, (omega arith, nothing_paid most d (tree_after d.dist most records (Insert n v) tree) (held_after records (Insert n v)) cs steps))
nothing_paid most d tree records (Delete n ∷ cs) steps = (steps, ((λ grown all. omega arith), nothing_paid most d (tree_after d.dist most records (Delete n) tree) (held_after records (Delete n)) cs steps))

module _ (S : Type 0) (dist : List ℕ → List ℕ → ℕ) (most : ℕ → ℕ) (v : Values) (start : Held) (tree : PlainTree) (steps : ℕ) (all : List Change) where
  pub begins : (records : Held) (k : Kept) (events : List Event) (now : ℕ) (cs more : List Change) (c : Change) → cs ≡ c ∷ more → Goes S dist most v start tree steps all records k events now cs → Goes S dist most v start tree steps all records k events now (c ∷ more)
  begins records k events now cs more c e h = let P : List Change → Type 0 = λ xs. Goes S dist most v start tree steps all records k events now xs in subst P e h

  module _ (records : Held) (k : Kept) (events : List Event) (now : ℕ) (c : Change) (cs : List Change) (ok : IsOk (after v.cap start.vectors all))
      (goes : Goes S dist most v start tree steps all records k events now (c ∷ cs)) where
    first_applies : Applies goes.rest.0 v.cap records.vectors c cs
    first_applies = applies goes.rest.0 v.cap records.vectors c cs (subst IsOk (sym goes.rest.1) ok)

    pub first_can : CanFollow v.cap records.vectors c
    first_can = first_applies.can

    -- after one change more it may have come to this count, and no further
    pub stopped_paid : S → (next : ℕ) → IsPaid most (density dist v.eps v.minpts) k.tree records c now next → ArePaid most (density dist v.eps v.minpts) tree start all steps next
    stopped_paid s next paid = goes.paid s next (next, (paid, nothing_paid most (density dist v.eps v.minpts) _ _ cs next))

    pub stopped_worked : S → (next : ℕ) → next ≤ now + work_of (density_by v) records c → next ≤ steps + work_of_all (density_by v) start all
    stopped_worked s next work = let so_far = goes.worked s in omega (arith, work, so_far)

    module _ (next : Held) (k' : Kept) (more : List Event) (reached : ℕ) (is : next ≡ held_after records c) (held : AreHeld v next) (kept : IsKept v next k') (clusters : S → StandBy dist v next k')
        (tree_is : k'.tree ≡ tree_after dist most records c k.tree)
        (told : S → more ≡ events ++ cases_of (marks_on v records.vectors) (marks_on v next.vectors))
        (paid : S → IsPaid most (density dist v.eps v.minpts) k.tree records c now reached) (work : S → reached ≤ now + work_of (density_by v) records c) where
      rows_are : next.vectors ≡ changed records.vectors c
      rows_are = ap (λ (h : Held). h.vectors) is

      few : maps.len next.vectors ≤ v.cap
      few = subst (λ (rows : Rows). maps.len rows ≤ v.cap) (sym rows_are) (first_applies.few goes.holds.few)

      events_now : S → more ++ events_of v next.vectors cs ≡ events_of v start.vectors all
      events_now s =
          ap (λ (es : List Event). es ++ events_of v next.vectors cs) (told s)
          ∙ ap (λ (rows : Rows). (events ++ cases_of (marks_on v records.vectors) (marks_on v rows)) ++ events_of v rows cs) rows_are
          ∙ append_assoc events (cases_of (marks_on v records.vectors) (marks_on v (changed records.vectors c))) (events_of v (changed records.vectors c) cs)
          ∙ goes.events_are s

      paid_now : S → (last : ℕ) → ArePaid most (density dist v.eps v.minpts) k'.tree next cs reached last → ArePaid most (density dist v.eps v.minpts) tree start all steps last
      paid_now s last rest =
          let P : PlainTree → Held → Type 0 = λ t h. ArePaid most (density dist v.eps v.minpts) t h cs reached last in
          let moved : P (tree_after dist most records c k.tree) (held_after records c) = subst (λ (h : Held). P (tree_after dist most records c k.tree) h) is (subst (λ (t : PlainTree). P t next) tree_is rest) in
          goes.paid s last (reached, (paid s, moved))

      worked_now : S → reached + work_of_all (density_by v) next cs ≤ steps + work_of_all (density_by v) start all
      worked_now s =
          let same : work_of_all (density_by v) next cs ≡ work_of_all (density_by v) (held_after records c) cs = ap (λ (h : Held). work_of_all (density_by v) h cs) is in
          let more_work = work s in
          let so_far = goes.worked s in
          omega (arith, more_work, so_far, same)

      pub goes_further : Goes S dist most v start tree steps all next k' more reached cs
      goes_further = record {
        holds = record { held = held; few = few };
        kept = kept;
        clusters = clusters;
        fit = goes.fit.1;
        spelled = goes.spelled.1;
        rest = (goes.rest.0 + 1, ap (λ (rows : Rows). after_from (goes.rest.0 + 1) v.cap rows cs) rows_are ∙ (sym first_applies.rest ∙ goes.rest.1));
        events_are = events_now;
        tree_is =
            ap (λ (t : PlainTree). tree_after_all dist most next cs t) tree_is
            ∙ ap (λ (h : Held). tree_after_all dist most h cs (tree_after dist most records c k.tree)) is
            ∙ goes.tree_is;
        paid = paid_now;
        worked = worked_now;
      }

  pub record Ends (records : Held) (k : Kept) (events : List Event) (now : ℕ) : Type 0 where
    pub rows : records.vectors ≡ rows_after v start.vectors all
    pub events_are : S → events ≡ events_of v start.vectors all
    pub tree_is : k.tree ≡ tree_after_all dist most start all tree
    pub paid : S → ArePaid most (density dist v.eps v.minpts) tree start all steps now
    pub worked : S → now ≤ steps + work_of_all (density_by v) start all

  pub goes_last : (records : Held) (k : Kept) (events : List Event) (now : ℕ) → Goes S dist most v start tree steps all records k events now [] → Ends records k events now
  goes_last records k events now goes = record {
    rows = ap (or_else start.vectors) goes.rest.1;
    events_are = λ s. sym (append-nil events) ∙ goes.events_are s;
    tree_is = goes.tree_is;
    paid = λ s. goes.paid s now (omega arith);
    worked = λ s. let so_far = goes.worked s in omega (arith, so_far);
  }
