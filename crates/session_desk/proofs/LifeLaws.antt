-- Lives keep batches: an induction over the runs.
use Rattle.std.proofs.Common.{◌≡◌, ◌⊎◌, inl, inr, ℕ, ◌+◌, ◌-◌, ◌≤◌, ◌<◌, Bool, true, false, cond, List, [], ◌∷◌, length, refl, sym, ap, subst, ◌∙◌, arith}
use Rattle.std.specs.Prelude.{Option, Some, None, Result, Ok, Err, nat_le}
use Rattle.std.specs.List.{list_any}
use Rattle.std.proofs.lemmas.Bool.Decides.{nat_tests}
use Rattle.std.specs.FinMap as map
use Rattle.vec_record.specs.declared.change.Change.{Change}
use Rattle.plain_dbscan.specs.declared.marks.Mark.{Mark}
use Rattle.event_feed.specs.Meanings.{Meaning, Slots, slot_at}
use Rattle.cluster_report.specs.Texts.{near_text}
use Rattle.page_gate.specs.declared.fault.OpenFault as gate
use Rattle.page_gate.specs.declared.fault.OpenFault.TheVariants as gate_fault
use Rattle.page_layout.specs.Heads.{Values}
use Rattle.store_image.specs.Stores.{IsSound, records_on, refusal_on}
use Rattle.warehouse_core.specs.declared.refusal.Refusal as batch
use Rattle.warehouse_core.specs.declared.refusal.Refusal.TheVariants as batch_refusal
use Rattle.warehouse_core.specs.Batches.{marks_on, outcome}
use Rattle.warehouse_core.specs.Queries.{mark_on, members_of, near_on}
use Rattle.session_desk.specs.Session.{Answer, Request, Batch, Cut, Ask, SessionState, answer, answers, behind, batch_answer, line_answer, label_answer, cluster_answer, watch_answer, drop_answer, tells, refuses, acked, in_list, body_of, requests_of}
use Rattle.session_desk.specs.declared.requests.Line.{Line}
use Rattle.session_desk.specs.declared.requests.Line.TheVariants as line
use Rattle.session_desk.specs.Input.{is_long}
use Rattle.session_desk.specs.Courses.{session, course_by, values_on, state_on}
use Rattle.site_disk.specs.State.{SiteState}
use Rattle.session_desk.specs.Lives.{Run, content_of, Finds, Starts, MayLeave, IsLife, FoundFirst, GoesThrough, Grows, Leaves, LivesKeepBatches, RunsStartSound}

-- an answer that accepts a batch says something
abbrev HasText : Answer → Type 0
HasText a = (a.accepted ≡ None) ⊎ (0 < length a.text)

batch-has-text : (v : Values) (s : SessionState) (due : Result (List Change) batch.Refusal) → HasText (batch_answer v s due)
batch-has-text v s (Ok changes) = inr (omega arith)
batch-has-text v s (Err (batch_refusal.Malformed place)) = inl refl
batch-has-text v s (Err (batch_refusal.WrongLength place)) = inl refl
batch-has-text v s (Err (batch_refusal.Repeated place)) = inl refl
batch-has-text v s (Err (batch_refusal.Unknown place)) = inl refl
batch-has-text v s (Err (batch_refusal.Full place)) = inl refl
batch-has-text v s (Err batch_refusal.TooManyRecords) = inl refl
batch-has-text v s (Err batch_refusal.BatchesUsedUp) = inl refl
batch-has-text v s (Err batch_refusal.SiteFault) = inl refl
batch-has-text v s (Err batch_refusal.Memory) = inl refl

either : (b : Bool) (x y : Answer) → HasText x → HasText y → HasText (cond b x y)
either true x y hx hy = hx
either false x y hx hy = hy

-- an answer to a line accepts no batch
label-accepts : (n : ℕ) (mark : Option Mark) → (label_answer n mark).accepted ≡ None
label-accepts n None = refl
label-accepts n (Some mark) = refl

cluster-accepts : (n : ℕ) (members : Option (List (ℕ × Mark))) → (cluster_answer n members).accepted ≡ None
cluster-accepts n None = refl
cluster-accepts n (Some members) = refl

watch-accepts : (slot : Option Meaning) → (watch_answer slot).accepted ≡ None
watch-accepts None = refl
watch-accepts (Some says) = refl

drop-accepts : (k : ℕ) (slot : Option Meaning) → (drop_answer k slot).accepted ≡ None
drop-accepts k None = refl
drop-accepts k (Some says) = refl

line-has-text : (v : Values) (s : SessionState) (line : Line) → HasText (line_answer v s line)
line-has-text v s line.Report = inl refl
line-has-text v s line.Summary = inl refl
line-has-text v s (line.Label n) = inl (label-accepts n (mark_on v s.rows n))
line-has-text v s (line.Cluster n) = inl (cluster-accepts n (members_of n (marks_on v s.rows)))
line-has-text v s (line.Near n) = either (map.contains_key s.rows n) (tells (near_text n (near_on v s.rows n))) (refuses 22 None) (inl refl) (inl refl)
line-has-text v s (line.Watch k) = inl (watch-accepts (slot_at k s.slots))
line-has-text v s (line.Drop k) = inl (drop-accepts k (slot_at k s.slots))
line-has-text v s line.Unknown = inl refl
line-has-text v s line.Long = inl refl

pub has-text : (v : Values) (s : SessionState) (r : Request) → HasText (answer v s r)
has-text v s (Batch body) = either (list_any is_long body) (refuses 18 None) (batch_answer v s (outcome v s.batches s.rows (body_of body)))
    (inl refl) (batch-has-text v s (outcome v s.batches s.rows (body_of body)))
has-text v s Cut = inl refl
has-text v s (Ask line) = line-has-text v s line

-- before the first byte no receipt has ended
none-first : (a : Answer) (more : List Answer) → HasText a → acked 0 more ≡ 0 → acked 0 (a ∷ more) ≡ 0
none-first a more (inr some) rest =
    let no : nat_le (length a.text) 0 ≡ false = grind (arith, nat_tests) in
    ap (λ (b : Bool). cond b (length (in_list a.accepted) + acked (0 - length a.text) more) 0) no
none-first a more (inl none) rest =
    let P : Option (List Change) → Type 0 = λ o. length (in_list o) ≡ 0 in
    let nothing : length (in_list a.accepted) ≡ 0 = subst P (sym none) refl in
    let start : 0 - length a.text ≡ 0 = omega arith in
    let tail : acked (0 - length a.text) more ≡ 0 = ap (λ (k : ℕ). acked k more) start ∙ rest in
    zero-of (nat_le (length a.text) 0) (length (in_list a.accepted) + acked (0 - length a.text) more) (omega (arith, nothing, tail))
  where
    zero-of : (b : Bool) (n : ℕ) → n ≡ 0 → cond b n 0 ≡ 0
    zero-of true n e = e
    zero-of false n e = refl

pub none-given : (v : Values) (s : SessionState) (rs : List Request) → acked 0 (answers v s rs) ≡ 0
none-given v s [] = refl
none-given v s (r ∷ more) =
    let a = answer v s r in
    none-first a (answers v (behind v s a) more) (has-text v s r) (none-given v (behind v s a) more)

none-by : (fault : Option gate.OpenFault) (c : List ℕ) (watchers : Slots) (input : List ℕ) → acked 0 (course_by fault c watchers input).answers ≡ 0
none-by None c watchers input = none-given (values_on c) (state_on c watchers) (requests_of input)
none-by (Some gate_fault.Blank) c watchers input = refl
none-by (Some gate_fault.Foreign) c watchers input = refl
none-by (Some (gate_fault.Damaged page offset)) c watchers input = refl
none-by (Some gate_fault.SiteFault) c watchers input = refl
none-by (Some gate_fault.Memory) c watchers input = refl

pub acked-none : (c : List ℕ) (watchers : Slots) (input : List ℕ) → acked 0 (session c watchers input).answers ≡ 0
unfolding session
acked-none c watchers input = none-by (refusal_on c) c watchers input

module _ {S : Type 0} (state : S → SiteState) where
  -- what each content is that a run may find or leave: sound, with records that grew through the runs before
  record LastsFrom (past : List (Run S)) (Found : List ℕ → Type 0) (image : List ℕ) : Type 0 where
    sound : IsSound image
    first : List ℕ
    found : Found first
    grows : Grows state past (records_on first) (records_on image)

  step : (r : Run S) (past : List (Run S)) (Found : List ℕ → Type 0) (image : List ℕ) → Starts state r (LastsFrom past Found) → MayLeave state r image → LastsFrom (r ∷ past) Found image
  step r past Found image starts (inl quiet) =
      let was = starts.each image quiet.1 in
      let few : acked r.said (session (content_of state r) r.watchers r.input).answers ≤ 0 =
      let none : acked r.said (session (content_of state r) r.watchers r.input).answers ≡ 0 = ap (λ (k : ℕ). acked k (session (content_of state r) r.watchers r.input).answers) quiet.0 ∙ acked-none (content_of state r) r.watchers r.input in
      omega (arith, none) in
      let still : (0 < 0) ⊎ (0 < r.said) → image ≡ content_of state r = λ moved. absurd (omega (arith, moved, quiet.0)) in
      let through : GoesThrough state r (records_on image) (records_on image) = record { before = image; found = quiet.1; rows_before = refl; m = 0; own = still; some = omega arith; holds = few; rows_are = refl } in
      record { sound = was.sound; first = was.first; found = was.found; grows = (records_on image, was.grows, through) }
  step r past Found image starts (inr crash) =
      let was = starts.each (content_of state r) starts.found in
      record {
        sound = crash.store.sound;
        first = was.first;
        found = was.found;
        grows = (
          records_on (content_of state r),
          was.grows,
          record {
            before = content_of state r;
            found = starts.found;
            rows_before = refl;
            m = crash.m;
            own = λ _. refl;
            some = crash.store.some;
            holds = crash.holds;
            rows_are = crash.store.records;
          },
        );
      }

  grown : (runs : List (Run S)) (image : List ℕ) → IsLife state runs → Leaves state runs image → LastsFrom runs (FoundFirst state runs) image
  grown [] image life left = absurd left
  grown (r ∷ []) image life left =
      step r [] (Finds state r) image (record { found = life.found; each = λ c finds. record { sound = life.each c finds; first = c; found = finds; grows = refl } }) left
  grown (r ∷ before ∷ more) image life left =
      step r (before ∷ more) (FoundFirst state (before ∷ more)) image
      (record { found = life.0.found; each = λ c finds. grown (before ∷ more) c life.1 (life.0.each c finds) }) left

  pub lives-keep-batches : LivesKeepBatches state
  lives-keep-batches runs image life left =
      let g = grown runs image life left in
      record { sound = g.sound; first = g.first; found = g.found; grows = g.grows }

  pub runs-start-sound : RunsStartSound state
  runs-start-sound [] life = tt
  runs-start-sound (r ∷ []) life = (life, tt)
  runs-start-sound (r ∷ before ∷ more) life =
      (record { found = life.0.found; each = λ c finds. (grown (before ∷ more) c life.1 (life.0.each c finds)).sound }, runs-start-sound (before ∷ more) life.1)
