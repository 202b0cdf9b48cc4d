-- The answer to one request.
use Rattle.std.proofs.Common.{◌≡◌, ◌⊎◌, inl, inr, ℕ, ◌+◌, Bool, false, cond, List, ◌++◌, take, Result, refl, sym, ap, subst, ◌∙◌}
use Rattle.std.specs.Prelude.{Option, None, Ok, Err, IfOk}
use Rattle.std.specs.List.{list_any}
use Rattle.std.proofs.lemmas.List.{append-nil}
use Rattle.vec_record.specs.Held.{Rows}
use Rattle.vec_record.specs.declared.change.Change.{Change}
use Rattle.event_feed.specs.Meanings.{Slots, told_all}
use Rattle.site_disk.specs.State.{SiteState, IsNow, Safe}
use Rattle.site_disk.specs.Calls.{Speaks}
use Rattle.site_disk.proofs.Moments.{start, after_say}
use Rattle.page_gate.specs.Gate.{opening, Opens}
use Rattle.page_gate.specs.Promises.{Holds}
use Rattle.store_image.specs.Stores.{IsStore, LoadsAreStores}
use Rattle.page_layout.specs.Heads.{Values}
use Rattle.warehouse_core.specs.declared.refusal.Refusal.{Refusal}
use Rattle.warehouse_core.specs.States.{State, IsClustered}
use Rattle.warehouse_core.specs.Batches.{rows_after, events_of}
use Rattle.warehouse_core.specs.Applying.{due, events_due, events_unless_refused, Accepts, IsBefore}
use Rattle.session_desk.specs.declared.status.Status.{Status}
use Rattle.session_desk.specs.declared.requests.Asked as read
use Rattle.session_desk.specs.declared.requests.Asked.TheVariants as asked
use Rattle.session_desk.specs.Input.{is_long}
use Rattle.session_desk.specs.Answers.{refusal_line}
use Rattle.session_desk.specs.Session.{Request, Batch, Answer, batch_answer, refuses, body_of}
use Rattle.session_desk.specs.Asking.{IsAsked}
use Rattle.session_desk.specs.Talks.{Desk, desk_at, desk_behind, IsServing, answer_on, IsStoreOf, IsGiven, IsAnswered, Answering, IsReplying}
use Rattle.session_desk.proofs.Going.{safe_as}

-- the answer to a batch that was read
batch-answer-is : (w : State) (slots : Slots) (lines : List (List ℕ)) (body : List ℕ) → list_any is_long lines ≡ false → body ≡ body_of lines → answer_on (desk_at w slots) (Batch lines) ≡ batch_answer w.values (desk_at w slots).state (due w body)
batch-answer-is w slots lines body short is =
    ap (λ (b : Bool). cond b (refuses 18 None) (batch_answer w.values (desk_at w slots).state (due w (body_of lines)))) short
    ∙ ap (λ (b : List ℕ). batch_answer w.values (desk_at w slots).state (due w b)) (sym is)

-- of what was read, with the lines of the request
asked-lines : (lines : List (List ℕ)) (body : List ℕ) → IsAsked (asked.Batch body) (Batch lines) → (list_any is_long lines ≡ false) × (body ≡ body_of lines)
asked-lines lines body given =
    let e : given.0 ≡ lines = cc given.1 in
    (ap (list_any is_long) (sym e) ∙ given.2, given.3 ∙ ap body_of e)

-- the answer that is due to a body, however it was worked out
answer-due : (w : State) (slots : Slots) (lines : List (List ℕ)) (body : List ℕ) (r : Result (List Change) Refusal) → IsAsked (asked.Batch body) (Batch lines) → due w body ≡ r → answer_on (desk_at w slots) (Batch lines) ≡ batch_answer w.values (desk_at w slots).state r
answer-due w slots lines body r given is =
    let at = asked-lines lines body given in
    batch-answer-is w slots lines body at.0 at.1 ∙ ap (batch_answer w.values (desk_at w slots).state) is

abbrev desk-with : Values → Rows → ℕ → Slots → Desk
desk-with v rows batches slots = record { values = v; state = record { rows = rows; batches = batches; slots = slots } }

-- an answer that accepts goes on to the desk behind it
pub accepted-batch : (w next : State) (slots slots' : Slots) (lines : List (List ℕ)) (body old new : List ℕ) → IsClustered w
    → IsAsked (asked.Batch body) (Batch lines) → Accepts body w next old new → slots' ≡ told_all (events_due w body) slots → IsAnswered (desk_at w slots) (Batch lines) false (desk_at next slots') old new
accepted-batch w next slots slots' lines body old new stand given accepts told =
    let d = desk_at w slots in
    let changes = accepts.changes in
    let rows = rows_after w.values w.rows changes in
    let is : answer_on d (Batch lines) ≡ batch_answer w.values d.state (Ok changes) = answer-due w slots lines body (Ok changes) given accepts.accepted in
    let now : slots' ≡ told_all (events_of w.values w.rows changes) slots = told ∙ ap (λ (r : Result (List Change) Refusal). told_all (events_unless_refused w.values w.rows r) slots) accepts.accepted in
    record {
      given = record { text = accepts.receipt stand ∙ ap (λ (x : Answer). old ++ x.text) (sym is); refused_is = ap (λ (x : Answer). x.refused) (sym is) };
      desk =
          ap (λ (v : Values). desk-with v next.rows next.batches slots') accepts.values
          ∙ ap (λ (r : Rows). desk-with w.values r next.batches slots') accepts.rows
          ∙ ap (λ (n : ℕ). desk-with w.values rows n slots') accepts.batches
          ∙ ap (λ (s : Slots). desk-with w.values rows (w.batches + 1) s) now
          ∙ ap (desk_behind d) (sym is);
    }

-- an answer that refuses leaves the desk
pub refused-batch : (w next : State) (slots slots' : Slots) (lines : List (List ℕ)) (body : List ℕ) (refusal : Refusal) (n : ℕ) (p : Option ℕ) (refused : Bool) (old mid new : List ℕ)
    → IsAsked (asked.Batch body) (Batch lines) → due w body ≡ Err refusal → batch_answer w.values (desk_at w slots).state (Err refusal) ≡ refuses n p → next ≡ w → slots' ≡ slots → mid ≡ old
    → IsGiven (refuses n p) refused mid new → IsAnswered (desk_at w slots) (Batch lines) refused (desk_at next slots') old new
refused-batch w next slots slots' lines body refusal n p refused old mid new given fault numbered same still kept said =
    let d = desk_at w slots in
    let is : answer_on d (Batch lines) ≡ refuses n p = answer-due w slots lines body (Err refusal) given fault ∙ numbered in
    record {
      given = record {
        text = said.text ∙ ap (λ (t : List ℕ). t ++ refusal_line n p) kept ∙ ap (λ (x : Answer). old ++ x.text) (sym is);
        refused_is = said.refused_is ∙ ap (λ (x : Answer). x.refused) (sym is);
      };
      desk = ap (λ (s : State). desk_at s slots') same ∙ ap (desk_at w) still ∙ ap (desk_behind d) (sym is);
    }

-- the one image of a warehouse that is at rest is its store
pub rest-store : LoadsAreStores → (w : State) (a : SiteState) → IsServing w → IsClustered w → Holds w.pages a → (c : List ℕ) → a.may_leave c → IsBefore w c
rest-store stores w a serving stand holds c left =
    let l = serving.loads stand in
    let opens : opening c ≡ Opens w.pages = ap opening (holds.only c left) ∙ holds.list in
    let store = stores c w.pages l.image opens l.loads (serving.due stand) in
    let A : Values → Type 0 = λ v. IsStore v l.image.records.vectors l.image.head.batches c in
    let B : Rows → Type 0 = λ r. IsStore w.values r l.image.head.batches c in
    let C : ℕ → Type 0 = λ n. IsStore w.values w.rows n c in
    subst C l.batches_are (subst B l.rows_are (subst A l.values_are store))

-- a request that touches nothing
pub quiet-answer : {A : Type 0} → LoadsAreStores → (w : State) (slots : Slots) (q : Request) (result : Result A Status) (a : SiteState) → IsNow a → IsServing w → IsClustered w → Holds w.pages a → Answering (desk_at w slots) q result a a
quiet-answer {A} stores w slots q result a now serving stand holds = record {
  safe = start now (λ c left. (refl, inl (rest-store stores w a serving stand holds c left)));
  unsaved = λ _ c left. rest-store stores w a serving stand holds c left;
}

-- what holds of the lines of a batch holds of the request
pub of-batch : (r : read.Asked) (body : List ℕ) (q : Request) (P : Request → Type 0) → r ≡ asked.Batch body → IsAsked r q → ((lines : List (List ℕ)) → IsAsked (asked.Batch body) (Batch lines) → P (Batch lines)) → P q
of-batch r body q P is given each =
    let Q : read.Asked → Type 0 = λ a. IsAsked a q in
    let at = subst Q is given in
    subst P (sym at.1) (each at.0 (at.0, refl, at.2, at.3))

pub if-ok : {A E : Type 0} (r : Result A E) (P Q : A → Type 0) → IfOk r P → ((x : A) → P x → Q x) → IfOk r Q
if-ok (Ok x) P Q given each = each x given
if-ok (Err e) P Q given each = tt

-- the one image of a site that is at rest is the store of the desk
pub desk-store : LoadsAreStores → (w : State) (slots : Slots) (d : Desk) (b : SiteState) → desk_at w slots ≡ d → IsServing w → IsClustered w → Holds w.pages b → (c : List ℕ) → b.may_leave c → IsStoreOf d c
desk-store stores w slots d b is serving stand holds c left = let P : Desk → Type 0 = λ x. IsStoreOf x c in subst P is (rest-store stores w b serving stand holds c left)

replying-quiet : (d : Desk) (q : Request) (a : SiteState) (s i : List ℕ) → s ≡ a.said → IsStoreOf d i ⊎ IsStoreOf (desk_behind d (answer_on d q)) i → IsReplying d q a s i
replying-quiet d q a s i is (inl before) = record { n = 0; prefix = is ∙ sym (append-nil a.said); image_is = inl (refl, before) }
replying-quiet d q a s i is (inr behind) = record { n = 0; prefix = is ∙ sym (append-nil a.said); image_is = inr behind }

pub answered-quietly : {A : Type 0} {r : Result A Status} (d : Desk) (q : Request) (a b : SiteState) → Answering d q r a b → Safe a b (IsReplying d q a)
answered-quietly {A} {r} d q a b answering = safe_as answering.safe (λ s i at. replying-quiet d q a s i at.0 at.1)

-- the answer is said
pub replies : {A E : Type 0} {r : Result A Status} {said : Result Unit E} → LoadsAreStores → (d : Desk) (next : State) (slots : Slots) (q : Request) (text : List ℕ) (a b c : SiteState)
    → Answering d q r a b → b.said ≡ a.said → IsServing next → IsClustered next → Holds next.pages b → desk_at next slots ≡ desk_behind d (answer_on d q) → text ≡ (answer_on d q).text → Speaks text said b c → Safe a c (IsReplying d q a)
replies {A} {E} {r} {said} stores d next slots q text a b c answering kept serving stand holds desk is speaks =
    after_say (answered-quietly d q a b answering) speaks (λ n i left. record {
      n = n;
      prefix = ap (λ (s : List ℕ). s ++ take n text) kept ∙ ap (λ (t : List ℕ). a.said ++ take n t) is;
      image_is = inr (desk-store stores next slots (desk_behind d (answer_on d q)) b desk serving stand holds i left);
    })
