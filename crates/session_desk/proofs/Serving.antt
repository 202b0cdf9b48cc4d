-- From a session over a warehouse to the headline over a content.
use Rattle.std.proofs.Common.{◌≡◌, ◌⊎◌, inl, inr, ⊎_elim, ℕ, ◌+◌, ◌≤◌, true, false, List, [], ◌++◌, length, take, drop, Result, Ok, Err, refl, sym, ap, subst, ◌∙◌, arith}
use Rattle.std.specs.Prelude.{Option, Some, None, unwrap_or}
use Rattle.std.proofs.lemmas.List.{append-nil, length-append, take-append-drop}
use Rattle.std.proofs.Math.Seq.{take-append_seam}
use Rattle.vec_record.specs.declared.change.Change.{Change}
use Rattle.vec_record.specs.declared.kind.MetricKind.TheVariants as kind
use Rattle.vec_record.specs.Held.{Rows}
use Rattle.site_disk.specs.State.{SiteState, IsNow, Safe}
use Rattle.site_disk.proofs.Moments.{start}
use Rattle.site_disk.specs.Causes.{Rose}
use Rattle.std.specs.FinMap as maps
use Rattle.page_gate.specs.Gate.{opening, Opening, Opens, Refuses, is_blank, through}
use Rattle.page_gate.proofs.Gates.{says_blank}
use Rattle.page_gate.specs.Promises.{IsAsWas, IsRefusal}
use Rattle.page_gate.specs.declared.fault.OpenFault.{OpenFault}
use Rattle.page_gate.specs.declared.fault.OpenFault.TheVariants.{Blank, Foreign, Damaged, SiteFault, Memory}
use Rattle.page_layout.specs.Heads.{Values, HeadValue}
use Rattle.event_feed.specs.Meanings.{Slots}
use Rattle.store_image.specs.declared.fault.StoreFault as store
use Rattle.store_image.specs.declared.fault.StoreFault.TheVariants as store_fault
use Rattle.store_image.specs.Images.{Image}
use Rattle.store_image.specs.Loading.{and_then, values_of_head, head_in_pages, params_in_pages, load_of, count_said, Fails}
use Rattle.store_image.specs.Stores.{IsStore, IsSound, AreDueIn, AreDueBy, AreDueOn, SameOpeningsAreAlike, LoadsAreStores, LoadsCountRecords, refusal_on, records_on, batches_on, verdict, refusal_of}
use Rattle.warehouse_core.specs.States.{State, LoadsAs}
use Rattle.session_desk.specs.declared.status.Status.{Status}
use Rattle.session_desk.specs.declared.status.Status.TheVariants as status
use Rattle.session_desk.specs.Statuses.{is_fault}
use Rattle.session_desk.specs.Moments.{IsSaying}
use Rattle.session_desk.specs.Session.{Answer, Request, SessionState, answers, text_of, accepted_by, acked, rows_after_all, requests_of, whole_requests}
use Rattle.session_desk.specs.Courses.{Course, course_text, course_by, begun, session, values_on, state_on, accepted}
use Rattle.session_desk.specs.Headline.{IsStoreAfter, IsMoment, SaysAll, SaysWhole, KeepsAll, IsSettled, IsUntouched, Serves}
use Rattle.session_desk.specs.Costs.{requests_work}
use Rattle.session_desk.specs.Talks.{IsServing, works_on, desk_at, answers_on, talk, IsStoreAt, IsTalk, Concludes, IsKept, IsCutOff, IsEven}
use Rattle.session_desk.specs.Opened.{is_outside, fault_of, refusal_course, IsLoaded, IsStoreAsIs}
use Rattle.session_desk.proofs.LifeLaws.{acked-none}
use Rattle.session_desk.proofs.Going.{safe_as, then_safe, then_said}

-- a session over a content that is a store
begun-by : (fault : Option OpenFault) (c : List ℕ) (watchers : Slots) (input : List ℕ) → fault ≡ None → course_by fault c watchers input ≡ begun (answers (values_on c) (state_on c watchers) (requests_of input)) input
begun-by fault c watchers input is = ap (λ (f : Option OpenFault). course_by f c watchers input) is

values-are : (w : State) (c : List ℕ) → IsStore w.values w.rows w.batches c → values_on c ≡ w.values
values-are w c store = ap (λ (o : Option Values). unwrap_or o (record { metric = kind.L1; dim = 0; eps = 0; minpts = 0; cap = 0 })) store.params

abbrev state_of : Rows → ℕ → Slots → SessionState
state_of rows batches slots = record { rows = rows; batches = batches; slots = slots }

answers-are : (w : State) (watchers : Slots) (c : List ℕ) (qs : List Request) → IsStore w.values w.rows w.batches c → answers (values_on c) (state_on c watchers) qs ≡ answers_on (desk_at w watchers) qs
answers-are w watchers c qs store =
    ap (λ (v : Values). answers v (state_on c watchers) qs) (values-are w c store)
    ∙ ap (λ (r : Rows). answers w.values (state_of r (batches_on c) watchers) qs) store.records
    ∙ ap (λ (n : ℕ). answers w.values (state_of w.rows n watchers) qs) store.batches_are

session-is : (w : State) (watchers : Slots) (c input : List ℕ) → IsStore w.values w.rows w.batches c → session c watchers input ≡ talk (desk_at w watchers) input
unfolding session
session-is w watchers c input store = begun-by (refusal_on c) c watchers input store.opens ∙ ap (λ (l : List Answer). begun l input) (answers-are w watchers c (requests_of input) store)

store-after : (w : State) (watchers : Slots) (c input : List ℕ) (m : ℕ) (image : List ℕ) → IsStore w.values w.rows w.batches c → IsStoreAt (desk_at w watchers) input m image → IsStoreAfter c watchers input m image
store-after w watchers c input m image store at =
    let same = session-is w watchers c input store in
    let batches : accepted_by (talk (desk_at w watchers) input).answers ≡ accepted c watchers input = ap (λ (s : Course). accepted_by s.answers) (sym same) in
    let P : List (List Change) → Type 0 = λ l. m ≤ length l in
    record {
      some = subst P batches at.some;
      sound = record { begins = inr at.store.opens; due = at.store.due };
      params = at.store.params ∙ sym store.params;
      records =
          at.store.records
          ∙ ap (λ (l : List (List Change)). rows_after_all w.values w.rows (take m l)) batches
          ∙ ap (λ (v : Values). rows_after_all v w.rows (take m (accepted c watchers input))) (sym (values-are w c store))
          ∙ ap (λ (r : Rows). rows_after_all (values_on c) r (take m (accepted c watchers input))) (sym store.records);
      batches = at.store.batches_are ∙ ap (λ (n : ℕ). n + m) (sym store.batches_are);
    }

-- a moment of the session over the warehouse is one over the content
talk-moment : (w : State) (watchers : Slots) (a b : SiteState) (input : List ℕ) → IsStore w.values w.rows w.batches a.content → b.said ≡ a.said → (s i : List ℕ) → IsTalk (desk_at w watchers) input b s i → IsMoment watchers input a s i
talk-moment w watchers a b input store quiet s i at =
    let same = sym (session-is w watchers a.content input store) in
    let P : Course → Type 0 = λ x. at.k ≤ length (course_text x) in
    let H : Course → Type 0 = λ x. acked at.k x.answers ≤ at.m in
    let F : Course → Type 0 = λ x. at.m ≤ acked at.k x.answers + 1 in
    record {
      k = at.k;
      within = subst P same at.within;
      prefix = at.prefix ∙ ap (λ (t : List ℕ). t ++ take at.k (course_text (talk (desk_at w watchers) input))) quiet ∙ ap (λ (x : Course). a.said ++ take at.k (course_text x)) same;
      kept = λ sound. inr (record { m = at.m; store = store-after w watchers a.content input at.m i store at.store; holds = subst H same at.holds; few = subst F same at.few });
    }

-- an image that opens as the content does holds no batch of the session
first-store : SameOpeningsAreAlike → (watchers : Slots) (c input image : List ℕ) → IsSound c → opening image ≡ opening c → IsStoreAfter c watchers input 0 image
first-store alike watchers c input image sound same =
    let all = alike image c same in
    record { some = omega arith; sound = all.sound.1 sound; params = all.params; records = all.records; batches = all.batches ∙ (let e : batches_on c ≡ batches_on c + 0 = omega arith in e) }

opening-moment : SameOpeningsAreAlike → (watchers : Slots) (a : SiteState) (input s i : List ℕ) → IsAsWas a s i → IsMoment watchers input a s i
opening-moment alike watchers a input s i at =
    let none = acked-none a.content watchers input in
    record {
      k = 0;
      within = omega arith;
      prefix = at.0 ∙ sym (append-nil a.said);
      kept = λ sound. ⊎_elim (λ left. inl (at.0, left))
          (λ same. inr (record { m = 0; store = first-store alike watchers a.content input i sound same; holds = omega (arith, none); few = omega arith }))
          at.1;
    }

pub opening-moments : SameOpeningsAreAlike → (watchers : Slots) (a b : SiteState) (input : List ℕ) → Safe a b (IsAsWas a) → Safe a b (IsMoment watchers input a)
opening-moments alike watchers a b input safe = safe_as safe (λ s i at. opening-moment alike watchers a input s i at)

-- a store that opens: the clauses of the session
pub serves-moments : SameOpeningsAreAlike → (w : State) (watchers : Slots) (a b c : SiteState) (input : List ℕ) → IsStore w.values w.rows w.batches a.content → Safe a b (IsAsWas a) → b.said ≡ a.said → Safe b c (IsTalk (desk_at w watchers) input b) → Safe a c (IsMoment watchers input a)
serves-moments alike w watchers a b c input store safe quiet talked = then_safe (opening-moments alike watchers a b input safe) (safe_as talked (λ s i at. talk-moment w watchers a b input store quiet s i at))

pub serves-all : (w : State) (watchers : Slots) (a b c : SiteState) (input : List ℕ) (result : Status) → IsStore w.values w.rows w.batches a.content → b.said ≡ a.said → Concludes (desk_at w watchers) input result b c → SaysAll watchers input result a c
serves-all w watchers a b c input result store quiet done =
    let same = sym (session-is w watchers a.content input store) in
    record {
      text = done.text ∙ ap (λ (t : List ℕ). t ++ course_text (talk (desk_at w watchers) input)) quiet ∙ ap (λ (x : Course). a.said ++ course_text x) same;
      status = done.status ∙ ap (λ (x : Course). x.status) same;
    }

pub serves-whole : (w : State) (watchers : Slots) (a b c : SiteState) (input left : List ℕ) → IsStore w.values w.rows w.batches a.content → b.said ≡ a.said → IsCutOff (desk_at w watchers) input left b c → SaysWhole watchers input left a c
serves-whole w watchers a b c input left store quiet cut = record {
  front = cut.front;
  gave = cut.gave;
  text = cut.text ∙ ap (λ (t : List ℕ). t ++ text_of (answers_on (desk_at w watchers) (whole_requests cut.front))) quiet ∙ ap (λ (l : List Answer). a.said ++ text_of l) (sym (answers-are w watchers a.content (whole_requests cut.front) store));
}

pub serves-kept : (w : State) (watchers : Slots) (a b c : SiteState) (input : List ℕ) → IsStore w.values w.rows w.batches a.content → IsKept (desk_at w watchers) input c → KeepsAll watchers input a c
serves-kept w watchers a b c input store kept =
    let batches : accepted_by (talk (desk_at w watchers) input).answers ≡ accepted a.content watchers input = ap (λ (s : Course). accepted_by s.answers) (sym (session-is w watchers a.content input store)) in
    let P : List (List Change) → Type 0 = λ l. IsStoreAfter a.content watchers input (length l) c.content in
    record { only = kept.only; store = subst P batches (store-after w watchers a.content input (length (accepted_by (talk (desk_at w watchers) input).answers)) c.content store kept.store) }

pub serves-settled : (w : State) (watchers : Slots) (a b c : SiteState) (input : List ℕ) → IsStore w.values w.rows w.batches a.content → b.said ≡ a.said → IsEven (desk_at w watchers) input b c → IsSettled watchers input a c
serves-settled w watchers a b c input store quiet even image left =
    let same = sym (session-is w watchers a.content input store) in
    let P : Course → Type 0 = λ x. even.k ≤ length (course_text x) in
    let Q : Course → Type 0 = λ x. IsStoreAfter a.content watchers input (acked even.k x.answers) image in
    inr (
      even.k,
      subst P same even.within,
      even.prefix ∙ ap (λ (t : List ℕ). t ++ take even.k (course_text (talk (desk_at w watchers) input))) quiet ∙ ap (λ (x : Course). a.said ++ take even.k (course_text x)) same,
      subst Q same (store-after w watchers a.content input (acked even.k (talk (desk_at w watchers) input).answers) image store (even.stores image left)),
    )

-- where no count rose, the status is the session's or memory was wanting
pub completes : (result due : Status) (source site : Type 0) → (is_fault result ≡ false → result ≡ due) → (result ≡ status.SiteFault → site) → (result ≡ status.SourceFault → source) → (source → ⊥) → (site → ⊥) → (result ≡ due) ⊎ (result ≡ status.Memory)
completes status.Fine due source site is by_site by_source no_source no_site = inl (is refl)
completes status.Refused due source site is by_site by_source no_source no_site = inl (is refl)
completes status.Words due source site is by_site by_source no_source no_site = inl (is refl)
completes status.SiteFault due source site is by_site by_source no_source no_site = absurd (no_site (by_site refl))
completes status.SourceFault due source site is by_site by_source no_source no_site = absurd (no_source (by_source refl))
completes status.Memory due source site is by_site by_source no_source no_site = inr refl
completes status.Blank due source site is by_site by_source no_source no_site = inl (is refl)
completes status.Broken due source site is by_site by_source no_source no_site = inl (is refl)
completes status.TooLong due source site is by_site by_source no_source no_site = inl (is refl)
completes status.Exists due source site is by_site by_source no_source no_site = inl (is refl)
completes status.Differs due source site is by_site by_source no_source no_site = inl (is refl)

-- a content that a fault refuses
same-refusal : (fault : OpenFault) (c : List ℕ) (watchers : Slots) (input : List ℕ) → course_by (Some fault) c watchers input ≡ refusal_course fault
same-refusal Blank c watchers input = refl
same-refusal Foreign c watchers input = refl
same-refusal (Damaged page offset) c watchers input = refl
same-refusal SiteFault c watchers input = refl
same-refusal Memory c watchers input = refl

no-answers : (fault : OpenFault) → (refusal_course fault).answers ≡ []
no-answers Blank = refl
no-answers Foreign = refl
no-answers (Damaged page offset) = refl
no-answers SiteFault = refl
no-answers Memory = refl

refused-session : (fault : OpenFault) (c : List ℕ) (watchers : Slots) (input : List ℕ) → refusal_on c ≡ Some fault → session c watchers input ≡ refusal_course fault
unfolding session
refused-session fault c watchers input is = ap (λ (f : Option OpenFault). course_by f c watchers input) is ∙ same-refusal fault c watchers input

refused-text : (fault : OpenFault) (c : List ℕ) (watchers : Slots) (input : List ℕ) → refusal_on c ≡ Some fault → course_text (session c watchers input) ≡ (refusal_course fault).ending
refused-text fault c watchers input is = ap course_text (refused-session fault c watchers input is) ∙ ap (λ (l : List Answer). text_of l ++ (refusal_course fault).ending) (no-answers fault)

pub refuses-all : (fault : OpenFault) (watchers : Slots) (a b c : SiteState) (input : List ℕ) (result : Status) → refusal_on a.content ≡ Some fault → b.said ≡ a.said → c.said ≡ b.said ++ (refusal_course fault).ending → result ≡ (refusal_course fault).status → SaysAll watchers input result a c
refuses-all fault watchers a b c input result is quiet said status-is = record {
  text = said ∙ ap (λ (t : List ℕ). t ++ (refusal_course fault).ending) quiet ∙ ap (λ (t : List ℕ). a.said ++ t) (sym (refused-text fault a.content watchers input is));
  status = status-is ∙ ap (λ (x : Course). x.status) (sym (refused-session fault a.content watchers input is));
}

refusal-moment : SameOpeningsAreAlike → (fault : OpenFault) (watchers : Slots) (a : SiteState) (input s i : List ℕ) (n : ℕ) → refusal_on a.content ≡ Some fault → s ≡ a.said ++ take n (refusal_course fault).ending → opening i ≡ opening a.content → IsMoment watchers input a s i
refusal-moment alike fault watchers a input s i n is prefix same =
    let line = (refusal_course fault).ending in
    let text = refused-text fault a.content watchers input is in
    let k : ℕ = length (take n line) in
    let cut : take k line ≡ take n line = ap (take k) (sym (take-append-drop n line)) ∙ take-append_seam (take n line) (drop n line) in
    let long : length line ≡ k + length (drop n line) = ap (λ (l : List ℕ). length l) (sym (take-append-drop n line)) ∙ length-append (take n line) (drop n line) in
    let whole : length (course_text (session a.content watchers input)) ≡ length line = ap (λ (l : List ℕ). length l) text in
    let receipts : acked k (session a.content watchers input).answers ≡ 0 = ap (acked k) (ap (λ (x : Course). x.answers) (refused-session fault a.content watchers input is) ∙ no-answers fault) in
    record {
      k = k;
      within = omega (arith, long, whole);
      prefix = prefix ∙ ap (λ (l : List ℕ). a.said ++ l) (sym cut) ∙ ap (λ (l : List ℕ). a.said ++ take k l) (sym text);
      kept = λ sound. inr (record { m = 0; store = first-store alike watchers a.content input i sound same; holds = omega (arith, receipts); few = omega arith });
    }

-- the moments of a refusal that is said
pub refuses-moments : SameOpeningsAreAlike → (fault : OpenFault) (watchers : Slots) (a b c : SiteState) (input : List ℕ) → refusal_on a.content ≡ Some fault → Safe a b (IsAsWas a) → b.said ≡ a.said → ((i : List ℕ) → b.may_leave i → opening i ≡ opening a.content)
    → Safe b c (IsSaying b (refusal_course fault).ending) → Safe a c (IsMoment watchers input a)
refuses-moments alike fault watchers a b c input is safe quiet images say =
    then_said (refusal_course fault).ending (opening-moments alike watchers a b input safe) say
    (λ n i left. refusal-moment alike fault watchers a input (b.said ++ take n (refusal_course fault).ending) i n is (ap (λ (t : List ℕ). t ++ take n (refusal_course fault).ending) quiet) (images i left))

pub untouched-moments : (a b c : SiteState) (text : List ℕ) → Safe a b (IsAsWas a) → Safe b c (IsSaying b text) → Safe a c (IsUntouched a)
untouched-moments a b c text safe say = then_said text (safe_as safe (λ s i at. at.1)) say (λ n i left. (safe.now i left).1)

-- want of memory at the opening
pub opening-settled : SameOpeningsAreAlike → (watchers : Slots) (a b : SiteState) (input : List ℕ) → IsSound a.content → Safe a b (IsAsWas a) → b.said ≡ a.said → IsSettled watchers input a b
opening-settled alike watchers a b input sound safe quiet image left =
    let none = acked-none a.content watchers input in
    let P : ℕ → Type 0 = λ m. IsStoreAfter a.content watchers input m image in
    ⊎_elim (λ was. inl (quiet, was))
    (λ same. inr (0, omega arith, quiet ∙ sym (append-nil a.said), subst P (sym none) (first-store alike watchers a.content input image sound same)))
    (safe.now image left).1

-- a run that ends for want of memory before it has done anything
never-memory : {P : Type 0} → (status.Memory ≡ status.Fine) ⊎ ((status.Memory ≡ status.Refused) ⊎ (status.Memory ≡ status.TooLong)) → P
never-memory {P} (inl fine) = absurd (cc fine)
never-memory {P} (inr (inl refused)) = absurd (cc refused)
never-memory {P} (inr (inr long)) = absurd (cc long)

pub serves-nothing : SameOpeningsAreAlike → (watchers : Slots) (input left : List ℕ) (a : SiteState) → IsNow a → Serves watchers input left status.Memory a a
serves-nothing alike watchers input left a now =
    let was : Safe a a (IsAsWas a) = start now (λ c leaves. (refl, inl leaves)) in
    record {
      answers = λ fine. absurd (cc fine);
      whole = λ fault. absurd (cc fault);
      crash = opening-moments alike watchers a a input was;
      end = λ ended. never-memory ended;
      settled = λ sound fault. opening-settled alike watchers a a input sound was refl;
    }

pub untouched-still : (a : SiteState) → IsNow a → Safe a a (IsUntouched a)
untouched-still a now = start now (λ c leaves. inl leaves)

pub outside : (fault : OpenFault) → (is_outside fault ≡ true) ⊎ (is_outside fault ≡ false)
outside Blank = inr refl
outside Foreign = inr refl
outside (Damaged page offset) = inr refl
outside SiteFault = inl refl
outside Memory = inl refl

pub not-site : (fault : OpenFault) → is_outside fault ≡ false → fault ≡ SiteFault → ⊥
not-site fault is site = let e = ap is_outside site in cc (e, is)

-- the verdict of the gate is the refusal of the content
pub gate-verdict : (c : List ℕ) (fault : OpenFault) → IsRefusal fault (opening c) → is_outside fault ≡ false → refusal_on c ≡ Some fault
unfolding refusal_on
gate-verdict c Blank is inside = ap verdict is
gate-verdict c Foreign is inside = ap verdict is
gate-verdict c (Damaged page offset) is inside = ap verdict is
gate-verdict c SiteFault is inside = absurd (cc inside)
gate-verdict c Memory is inside = absurd (cc inside)

-- and so is that of the load
pub load-verdict : (c : List ℕ) (pages : List (List ℕ)) (fault : store.StoreFault) → opening c ≡ Opens pages → Fails fault (load_of pages) → is_outside (fault_of fault) ≡ false → refusal_on c ≡ Some (fault_of fault)
unfolding refusal_on
load-verdict c pages store_fault.Foreign opens fails inside = ap verdict opens ∙ ap refusal_of fails
load-verdict c pages (store_fault.Damaged page offset) opens fails inside = ap verdict opens ∙ ap refusal_of fails
load-verdict c pages store_fault.Memory opens fails inside = absurd (cc inside)

-- a list of pages whose parameters aren't read doesn't load
fails-by : (fault : store.StoreFault) (r : Result Image store.StoreFault) → r ≡ Err fault → Fails fault r
fails-by store_fault.Foreign r is = is
fails-by (store_fault.Damaged page offset) r is = is
fails-by store_fault.Memory r is = tt

head-fails : (r : Result HeadValue store.StoreFault) (next : HeadValue → Result Image store.StoreFault) (fault : store.StoreFault) → and_then r values_of_head ≡ Err fault → and_then r next ≡ Err fault
head-fails (Ok h) next fault is = absurd (cc is)
head-fails (Err e) next fault is = let same : e ≡ fault = cc is in ap (λ (f : store.StoreFault). Err f) same

pub params-fail : (pages : List (List ℕ)) (fault : store.StoreFault) → params_in_pages pages ≡ Err fault → Fails fault (load_of pages)
unfolding params_in_pages load_of
params-fail pages fault is = fails-by fault (load_of pages) (head-fails (head_in_pages pages) _ fault is)

-- a content whose pages load opens
pub loaded-opens : (c : List ℕ) (pages : List (List ℕ)) (w : State) → opening c ≡ Opens pages → IsLoaded pages w → refusal_on c ≡ None
unfolding refusal_on
loaded-opens c pages w opens loaded = ap verdict opens ∙ ap refusal_of loaded.loads.loads

-- and where its lines are those that are due, the warehouse that was loaded is its store, and its clusters stand
pub loaded-store : LoadsAreStores → (c : List ℕ) (pages : List (List ℕ)) (w : State) → opening c ≡ Opens pages → IsLoaded pages w → AreDueOn c → IsStoreAsIs w c
loaded-store stores c pages w opens loaded lines =
    let l = loaded.loads in
    let P : Opening → Type 0 = λ o. AreDueBy o in
    let due : AreDueIn pages = subst P opens lines in
    let A : Values → Type 0 = λ v. IsStore v l.image.records.vectors l.image.head.batches c in
    let B : Rows → Type 0 = λ r. IsStore w.values r l.image.head.batches c in
    let C : ℕ → Type 0 = λ n. IsStore w.values w.rows n c in
    record {
      store = subst C l.batches_are (subst B l.rows_are (subst A l.values_are (stores c pages l.image opens l.loads due)));
      clustered = loaded.clustered.0 due;
    }

-- it can answer
pub loaded-serving : (pages : List (List ℕ)) (w : State) → IsLoaded pages w → IsServing w
loaded-serving pages w loaded =
    let P : List (List ℕ) → Type 0 = λ p. LoadsAs p w.values w.rows w.batches in
    let Q : List (List ℕ) → Type 0 = λ p. AreDueIn p in
    record {
      stored = loaded.stored;
      whole = loaded.whole;
      loads = λ stand. subst P (sym loaded.pages_are) loaded.loads;
      due = λ stand. subst Q (sym loaded.pages_are) (loaded.clustered.1 stand);
    }

-- a count that rose before or after
pub rose-later : (a b c : ℕ) → a ≤ b → Rose b c → Rose a c
rose-later a b c le rose = omega (arith, le, rose)

pub rose-before : (a b c : ℕ) → Rose a b → b ≤ c → Rose a c
rose-before a b c rose le = omega (arith, rose, le)

pub no-fault : (result : Status) → (result ≡ status.Fine) ⊎ ((result ≡ status.Refused) ⊎ (result ≡ status.TooLong)) → is_fault result ≡ false
no-fault result (inl fine) = ap is_fault fine
no-fault result (inr (inl refused)) = ap is_fault refused
no-fault result (inr (inr long)) = ap is_fault long

pub never-source : {P : Type 0} (result : Status) → (result ≡ status.Blank) ⊎ ((result ≡ status.Broken) ⊎ ((result ≡ status.SiteFault) ⊎ (result ≡ status.Memory))) → result ≡ status.SourceFault → P
never-source {P} result (inl blank) source = absurd (cc (blank, source))
never-source {P} result (inr (inl broken)) source = absurd (cc (broken, source))
never-source {P} result (inr (inr (inl site))) source = absurd (cc (site, source))
never-source {P} result (inr (inr (inr memory))) source = absurd (cc (memory, source))

-- a refusal of the store ends with no status of a session
pub never-ended : {P : Type 0} (result : Status) → (result ≡ status.Blank) ⊎ ((result ≡ status.Broken) ⊎ ((result ≡ status.SiteFault) ⊎ (result ≡ status.Memory))) → (result ≡ status.Fine) ⊎ ((result ≡ status.Refused) ⊎ (result ≡ status.TooLong)) → P
never-ended {P} result (inl blank) (inl fine) = absurd (cc (blank, fine))
never-ended {P} result (inl blank) (inr (inl refused)) = absurd (cc (blank, refused))
never-ended {P} result (inl blank) (inr (inr long)) = absurd (cc (blank, long))
never-ended {P} result (inr (inl broken)) (inl fine) = absurd (cc (broken, fine))
never-ended {P} result (inr (inl broken)) (inr (inl refused)) = absurd (cc (broken, refused))
never-ended {P} result (inr (inl broken)) (inr (inr long)) = absurd (cc (broken, long))
never-ended {P} result (inr (inr (inl site))) (inl fine) = absurd (cc (site, fine))
never-ended {P} result (inr (inr (inl site))) (inr (inl refused)) = absurd (cc (site, refused))
never-ended {P} result (inr (inr (inl site))) (inr (inr long)) = absurd (cc (site, long))
never-ended {P} result (inr (inr (inr memory))) (inl fine) = absurd (cc (memory, fine))
never-ended {P} result (inr (inr (inr memory))) (inr (inl refused)) = absurd (cc (memory, refused))
never-ended {P} result (inr (inr (inr memory))) (inr (inr long)) = absurd (cc (memory, long))

-- and a session with none of such a refusal
pub never-unopened : {P : Type 0} (result : Status) → (result ≡ status.Fine) ⊎ ((result ≡ status.Refused) ⊎ ((result ≡ status.TooLong) ⊎ (is_fault result ≡ true))) → (result ≡ status.Blank) ⊎ (result ≡ status.Broken) → P
never-unopened {P} result (inl fine) (inl blank) = absurd (cc (fine, blank))
never-unopened {P} result (inl fine) (inr broken) = absurd (cc (fine, broken))
never-unopened {P} result (inr (inl refused)) (inl blank) = absurd (cc (refused, blank))
never-unopened {P} result (inr (inl refused)) (inr broken) = absurd (cc (refused, broken))
never-unopened {P} result (inr (inr (inl long))) (inl blank) = absurd (cc (long, blank))
never-unopened {P} result (inr (inr (inl long))) (inr broken) = absurd (cc (long, broken))
never-unopened {P} result (inr (inr (inr fault))) (inl blank) = let e = ap is_fault blank in absurd (cc (fault, e))
never-unopened {P} result (inr (inr (inr fault))) (inr broken) = let e = ap is_fault broken in absurd (cc (fault, e))

-- ---- how many distances

blank-shut : (c : List ℕ) (pages : List (List ℕ)) → is_blank c ≡ true → opening c ≡ Opens pages → ⊥
unfolding is_blank opening through
blank-shut c pages blank opens =
    let refused : opening c ≡ Refuses Blank = ap (λ g. through g c) (says_blank (length c) c blank) in
    absurd (cc (refused, opens))

went-well : (r : Result Image store.StoreFault) → refusal_of r ≡ None → (image : Image) × (r ≡ Ok image)
went-well (Ok image) is = (image, refl)
went-well (Err store_fault.Foreign) is = absurd (cc is)
went-well (Err (store_fault.Damaged page offset)) is = absurd (cc is)
went-well (Err store_fault.Memory) is = absurd (cc is)

opened-verdict : (c : List ℕ) (pages : List (List ℕ)) → refusal_on c ≡ None → opening c ≡ Opens pages → refusal_of (load_of pages) ≡ None
unfolding refusal_on
opened-verdict c pages is opens = sym (ap verdict opens) ∙ is

-- page 1 of a sound store counts its records
pub said-records : LoadsAreStores → LoadsCountRecords → (c : List ℕ) (pages : List (List ℕ)) → opening c ≡ Opens pages → IsSound c → count_said pages ≡ maps.len (records_on c)
said-records stores counted c pages opens sound =
    let P : Opening → Type 0 = λ o. AreDueBy o in
    let due : AreDueIn pages = subst P opens sound.due in
    let none : refusal_on c ≡ None = ⊎_elim (λ blank. absurd (blank-shut c pages blank opens)) (λ is. is) sound.begins in
    let image = went-well (load_of pages) (opened-verdict c pages none opens) in
    let store = stores c pages image.0 opens image.1 due in
    counted pages image.0 image.1 ∙ ap (λ (r : Rows). maps.len r) (sym store.records)

-- what the requests of a session may take, over the warehouse and over the content
pub works-are : (w : State) (watchers : Slots) (c : List ℕ) (qs : List Request) → IsStore w.values w.rows w.batches c → works_on (desk_at w watchers) qs ≡ requests_work (values_on c) (state_on c watchers) qs
works-are w watchers c qs store =
    sym (
    ap (λ (v : Values). requests_work v (state_on c watchers) qs) (values-are w c store)
    ∙ ap (λ (r : Rows). requests_work w.values (state_of r (batches_on c) watchers) qs) store.records
    ∙ ap (λ (n : ℕ). requests_work w.values (state_of w.rows n watchers) qs) store.batches_are)
