-- A trial, change by change.
use Rattle.std.proofs.Common.{◌≡◌, ◌≢◌, ℕ, suc, ◌+◌, ◌-◌, ◌<◌, ◌≤◌, Bool, true, false, cond, nat_le, List, [], ◌∷◌, ◌++◌, Option, Some, None, Result, Ok, Err, refl, sym, ap, subst, ◌∙◌, arith, append_assoc, append-nil}
use Rattle.std.specs.Option.{option_map}
use Rattle.std.specs.Ordering.{nat_cmp}
use Rattle.std.specs.Cmp.{nat_cmp_total}
use Rattle.std.specs.FinMap as maps
use Rattle.std.proofs.lemmas.Bool.Decides.{nat_tests}
use Rattle.vec_record.specs.Held.{Rows}
use Rattle.vec_record.specs.declared.change.Change.{Change}
use Rattle.vec_record.specs.declared.change.Change.TheVariants.{Insert, Delete}
use Rattle.vec_record.specs.declared.event.Event.{Event}
use Rattle.batch_text.specs.After.{after, after_from, after_one, and_then, changed}
use Rattle.batch_text.specs.Batch.{IsChangeOf}
use Rattle.batch_text.specs.declared.faults.CheckFault.{CheckFault}
use Rattle.batch_text.specs.declared.faults.CheckFault.TheVariants.{Repeated, Unknown, Full}
use Rattle.page_layout.specs.Heads.{Values}
use Rattle.cluster_report.specs.declared.counts.Summary.{Summary}
use Rattle.cluster_report.specs.Counts.{summary_of}
use Rattle.cluster_report.specs.Texts.{counts_text}
use Rattle.event_feed.specs.Meanings.{Meaning, Slots, filled, told, told_all, text_at}
use Rattle.event_feed.specs.Texts.{tally_text}
use Rattle.plain_dbscan.specs.Cases.{cases_of}
use Rattle.warehouse_core.specs.Batches.{density_by, events_of, marks_on, or_else, rows_after}
use Rattle.warehouse_core.specs.Work.{work_of, work_of_all}
use Rattle.warehouse_core.specs.States.{State}
use Rattle.site_disk.specs.State.{SiteState}
use Rattle.session_desk.specs.declared.status.Status.{Status}
use Rattle.session_desk.specs.Moments.{Says}
use Rattle.session_desk.specs.Words.{Command, Trial}
use Rattle.session_desk.specs.Trial.{trial_values, draw, coordinate, drawn_number, drawn_vector, drawn_change, drawn_changes, last_draw, trial_changes, trial_text, held_on, trial_work}
use Rattle.session_desk.specs.Trying.{IsUnsaved}

-- events told one after another are told together
told_more : (first more : List Event) (m : Option Meaning) → option_map (told more) (option_map (told first) m) ≡ option_map (told (first ++ more)) m
told_more first more None = refl
told_more first more (Some m) = ap {A = Meaning} Some (λ i rest. m (sym (append_assoc first more rest) i))

pub told_both : (first more : List Event) (slots : Slots) → told_all more (told_all first slots) ≡ told_all (first ++ more) slots
told_both first more [] = refl
told_both first more (m ∷ slots) =
    ap (λ (o : Option Meaning). o ∷ told_all more (told_all first slots)) (told_more first more m) ∙ ap (λ (s : Slots). option_map (told (first ++ more)) m ∷ s) (told_both first more slots)

-- telling nothing changes nothing
told_nothing : (m : Option Meaning) → option_map (told []) m ≡ m
told_nothing None = refl
told_nothing (Some m) = refl

told_none : (slots : Slots) → told_all [] slots ≡ slots
told_none [] = refl
told_none (m ∷ slots) = ap (λ (o : Option Meaning). o ∷ told_all [] slots) (told_nothing m) ∙ ap (λ (s : Slots). m ∷ s) (told_none slots)

-- the events of one change, and those of the others
one_event : (rows : Rows) (c : Change) (cs : List Change) → events_of trial_values rows (c ∷ []) ++ events_of trial_values (changed rows c) cs ≡ events_of trial_values rows (c ∷ cs)
one_event rows c cs =
    ap (λ (l : List Event). l ++ events_of trial_values (changed rows c) cs) (append-nil (cases_of (marks_on trial_values rows) (marks_on trial_values (changed rows c))))

-- what is drawn fits the parameters
coordinate_fits : (x : ℕ) → coordinate (draw x) < 256
coordinate_fits x = omega arith

drawn_fits : (b : Bool) (n x : ℕ) → n ≢ 0 → IsChangeOf 2 (cond b (Delete n) (Insert n (drawn_vector x)))
drawn_fits true n x some = some
drawn_fits false n x some = (some, record { len = refl; bytes = (coordinate_fits x, (coordinate_fits (draw x), tt)) })

pub change_fits : (count x : ℕ) (rows : Rows) → IsChangeOf 2 (drawn_change count x rows)
change_fits count x rows = drawn_fits (maps.contains_key rows (drawn_number count x)) (drawn_number count x) x (omega arith)

-- what is drawn can apply where there is room
module _ (rows : Rows) (n : ℕ) (v : List ℕ) where
  abbrev change : Bool → Change
  change b = cond b (Delete n) (Insert n v)

  one-applies : (b : Bool) (place cap : ℕ) → maps.contains_key rows n ≡ b → nat_le cap (maps.len rows) ≡ false → after_one place cap rows (change b) ≡ Ok (changed rows (change b))
  one-applies true place cap there room = ap (λ (t : Bool). cond t (Ok (maps.remove rows n)) (Err (Unknown place))) there
  one-applies false place cap absent room =
      ap (λ (t : Bool). cond t (Err (Repeated place)) (cond (nat_le cap (maps.len rows)) (Err (Full place)) (Ok (maps.insert rows n v)))) absent
      ∙ ap (λ (t : Bool). cond t (Err (Full place)) (Ok (maps.insert rows n v))) room

  one-more : (b : Bool) (len new : ℕ) → new ≡ cond b len (len + 1) → new ≤ len + 1
  one-more true len new is = omega (arith, is)
  one-more false len new is = omega (arith, is)

  one-less : (b : Bool) (len new : ℕ) → new ≡ cond b (len - 1) len → new ≤ len + 1
  one-less true len new is = omega (arith, is)
  one-less false len new is = omega (arith, is)

  few-more : (b : Bool) → maps.len (changed rows (change b)) ≤ maps.len rows + 1
  few-more true = one-less (maps.contains_key rows n) (maps.len rows) (maps.len (maps.remove rows n)) (maps.len-remove nat_cmp_total rows n)
  few-more false = one-more (maps.contains_key rows n) (maps.len rows) (maps.len (maps.insert rows n v)) (maps.len-insert nat_cmp_total rows n v)

module _ (count x : ℕ) (rows : Rows) where
  pub drawn_applies : (place cap : ℕ) → maps.len rows < cap → after_one place cap rows (drawn_change count x rows) ≡ Ok (changed rows (drawn_change count x rows))
  drawn_applies place cap room = one-applies rows (drawn_number count x) (drawn_vector x) (maps.contains_key rows (drawn_number count x)) place cap refl (grind (arith, nat_tests, room))

  pub drawn_accepted : (cap : ℕ) → maps.len rows < cap → after cap rows (drawn_change count x rows ∷ []) ≡ Ok (changed rows (drawn_change count x rows))
  drawn_accepted cap room = ap (λ (r : Result Rows CheckFault). and_then r (λ next. after_from 2 cap next [])) (drawn_applies 1 cap room)

  pub drawn_few : maps.len (changed rows (drawn_change count x rows)) ≤ maps.len rows + 1
  drawn_few = few-more rows (drawn_number count x) (drawn_vector x) (maps.contains_key rows (drawn_number count x))

-- How far a trial has come: what is left comes, over the records and slots of now, to what all of it comes to over
-- no records and the slots of the start.
pub record HasDrawn (seed count : ℕ) (before now : Slots) (w : State) (x left : ℕ) : Type 0 where
  pub unsaved : IsUnsaved w
  pub few : maps.len w.rows + left ≤ count
  pub rest : (place : ℕ) × (after_from place 200000 w.rows (drawn_changes count left x w.rows) ≡ after 200000 maps.empty (trial_changes seed count))
  pub events : told_all (events_of trial_values w.rows (drawn_changes count left x w.rows)) now ≡ told_all (events_of trial_values maps.empty (trial_changes seed count)) before

pub draws_begin : (seed count : ℕ) (slots : Slots) (w : State) → IsUnsaved w → w.rows ≡ maps.empty → HasDrawn seed count slots slots w seed count
draws_begin seed count slots w unsaved none = record {
  unsaved = unsaved;
  few = omega (arith, ap maps.len none, maps.len-empty nat_cmp (List ℕ));
  rest = (1, ap (λ (rows : Rows). after 200000 rows (drawn_changes count count seed rows)) none);
  events = ap (λ (rows : Rows). told_all (events_of trial_values rows (drawn_changes count count seed rows)) slots) none;
}

module _ (seed count : ℕ) (before now : Slots) (w : State) (x left : ℕ) (so_far : HasDrawn seed count before now w x (suc left)) (most : count ≤ 100000) where
  pub room_next : maps.len w.rows < 200000
  room_next = omega (arith, so_far.few)

  pub rows_next : (next : State) → next.rows ≡ rows_after trial_values w.rows (drawn_change count (draw x) w.rows ∷ []) → next.rows ≡ changed w.rows (drawn_change count (draw x) w.rows)
  rows_next next rows_are = rows_are ∙ ap (or_else w.rows) (drawn_accepted count (draw x) w.rows 200000 room_next)

  pub draws_go_on : (next : State) (told_now : Slots) (y : ℕ) → IsUnsaved next → y ≡ last_draw count (draw x) w.rows → next.rows ≡ rows_after trial_values w.rows (drawn_change count (draw x) w.rows ∷ [])
      → told_now ≡ told_all (events_of trial_values w.rows (drawn_change count (draw x) w.rows ∷ [])) now → HasDrawn seed count before told_now next y left
  draws_go_on next told_now y unsaved last rows_are told_are =
      let c = drawn_change count (draw x) w.rows in
      let rows : next.rows ≡ changed w.rows c = rows_next next rows_are in
      let cs = drawn_changes count left (last_draw count (draw x) w.rows) (changed w.rows c) in
      let rest : drawn_changes count left y next.rows ≡ cs = ap (λ (z : ℕ). drawn_changes count left z next.rows) last ∙ ap (drawn_changes count left (last_draw count (draw x) w.rows)) rows in
      let place = so_far.rest.0 in
      let ones = events_of trial_values w.rows (c ∷ []) in
      let others = events_of trial_values (changed w.rows c) cs in
      record {
        unsaved = unsaved;
        few = omega (arith, so_far.few, drawn_few count (draw x) w.rows, ap maps.len rows);
        rest = (
          place + 1,
          ap (after_from (place + 1) 200000 next.rows) rest ∙ (ap (λ (r : Rows). after_from (place + 1) 200000 r cs) rows
              ∙ (sym (ap (λ (r : Result Rows CheckFault). and_then r (λ n. after_from (place + 1) 200000 n cs)) (drawn_applies count (draw x) w.rows place 200000 room_next)) ∙ so_far.rest.1)),
        );
        events =
            ap (λ (l : List Change). told_all (events_of trial_values next.rows l) told_now) rest
            ∙ (ap (λ (r : Rows). told_all (events_of trial_values r cs) told_now) rows
            ∙ (ap (told_all others) told_are
            ∙ (told_both ones others now ∙ (ap (λ (l : List Event). told_all l now) (one_event w.rows c cs) ∙ so_far.events))));
      }

-- What was counted, and the most that the changes which are left count, are within the work of the trial.
pub record HasCounted (seed count start steps : ℕ) (w : State) (x left : ℕ) : Type 0 where
  pub within : steps + work_of_all (density_by trial_values) (held_on w.rows) (drawn_changes count left x w.rows) ≤ start + trial_work seed count

pub counts_begin : (seed count steps : ℕ) (w : State) → w.rows ≡ maps.empty → HasCounted seed count steps steps w seed count
counts_begin seed count steps w none =
    let same = ap (λ (rows : Rows). work_of_all (density_by trial_values) (held_on rows) (drawn_changes count count seed rows)) none in
    record { within = omega (arith, same) }

module _ (seed count start steps : ℕ) (w : State) (x left : ℕ) (so_far : HasCounted seed count start steps w x (suc left)) where
  abbrev next_change : Change
  next_change = drawn_change count (draw x) w.rows

  abbrev next_work : ℕ
  next_work = work_of (density_by trial_values) (held_on w.rows) next_change

  -- the next change may be counted
  pub counts_within : (more : ℕ) → more ≤ steps + next_work → more ≤ start + trial_work seed count
  counts_within more most = omega (arith, so_far.within)

  pub counts_go_on : (next : State) (y more : ℕ) → more ≤ steps + next_work → y ≡ last_draw count (draw x) w.rows → next.rows ≡ changed w.rows next_change → HasCounted seed count start more next y left
  counts_go_on next y more most last rows =
      let same =
      ap (λ (z : ℕ). work_of_all (density_by trial_values) (held_on next.rows) (drawn_changes count left z next.rows)) last
      ∙ ap (λ (r : Rows). work_of_all (density_by trial_values) (held_on r) (drawn_changes count left (last_draw count (draw x) w.rows) r)) rows in
      record { within = omega (arith, so_far.within, same) }

pub counts_so_far : (seed count start steps : ℕ) (w : State) (x left : ℕ) → HasCounted seed count start steps w x left → steps ≤ start + trial_work seed count
counts_so_far seed count start steps w x left counted = omega (arith, counted.within)

-- nothing is left
pub draws_end : (seed count : ℕ) (before now : Slots) (w : State) (x : ℕ) → HasDrawn seed count before now w x 0
    → (w.rows ≡ rows_after trial_values maps.empty (trial_changes seed count)) × (now ≡ told_all (events_of trial_values maps.empty (trial_changes seed count)) before)
draws_end seed count before now w x all = (ap (or_else maps.empty) all.rest.1, sym (told_none now) ∙ all.events)

-- the slot of a tally that was told events
pub tally_told : {A : Type 0} (says : A → Meaning) (tally : A) (watchers : List A) (events : List Event) (slots : Slots) → watchers ≡ tally ∷ [] → ((more : List Event) → says tally more ≡ tally_text more) → slots ≡ filled says watchers
    → text_at 1 (told_all events slots) ≡ tally_text events
tally_told says tally watchers events slots one tallies are =
    ap (λ (s : Slots). text_at 1 (told_all events s)) (are ∙ ap (filled says) one) ∙ (tallies (events ++ []) ∙ ap tally_text (append-nil events))

-- the tally and the summary are the text of the trial
pub said_whole : (seed count : ℕ) (w : State) (before slots : Slots) (start tally all : List ℕ) (s : Summary) → ((events : List Event) → text_at 1 (told_all events before) ≡ tally_text events) → w.values ≡ trial_values
    → w.rows ≡ rows_after trial_values maps.empty (trial_changes seed count) → slots ≡ told_all (events_of trial_values maps.empty (trial_changes seed count)) before → start ≡ [] → tally ≡ start ++ text_at 1 slots
    → s ≡ summary_of (marks_on w.values w.rows) → all ≡ tally ++ counts_text s → all ≡ trial_text seed count
said_whole seed count w before slots start tally all s tallies values_are rows_are told_are none tallied summed text =
    let events = events_of trial_values maps.empty (trial_changes seed count) in
    let rows = rows_after trial_values maps.empty (trial_changes seed count) in
    let said : tally ≡ tally_text events = tallied ∙ (ap (λ (l : List ℕ). l ++ text_at 1 slots) none ∙ (ap (text_at 1) told_are ∙ tallies events)) in
    let due : s ≡ summary_of (marks_on trial_values rows) =
    summed ∙ (ap (λ (v : Values). summary_of (marks_on v w.rows)) values_are ∙ ap (λ (r : Rows). summary_of (marks_on trial_values r)) rows_are) in
    text ∙ (ap (λ (l : List ℕ). l ++ counts_text s) said ∙ ap (λ (x : Summary). tally_text events ++ counts_text x) due)

-- the trial that was run is the one that the words ask for
pub says_trial : (own_seed own_count seed count : ℕ) (result : Status) (a b : SiteState) → ◌≡◌ {A = Option Command} (Some (Trial own_seed own_count)) (Some (Trial seed count))
    → Says (trial_text own_seed own_count) result a b → Says (trial_text seed count) result a b
says_trial own_seed own_count seed count result a b same says =
    let seeds : own_seed ≡ seed = cc in
    let counts : own_count ≡ count = cc in
    subst (λ (n : ℕ). Says (trial_text seed n) result a b) counts (subst (λ (n : ℕ). Says (trial_text n own_count) result a b) seeds says)
