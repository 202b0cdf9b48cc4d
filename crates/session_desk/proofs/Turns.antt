-- A session over a warehouse, turn by turn: its moments, and its ends.
use Rattle.std.proofs.Common.{◌≡◌, ◌⊎◌, inl, inr, ⊎_elim, ℕ, ◌+◌, ◌≤◌, Bool, true, false, cond, List, [], ◌∷◌, ◌++◌, length, take, drop, refl, sym, ap, subst, ◌∙◌, arith, append_assoc}
use Rattle.std.specs.Prelude.{Option, Some, None, Ok, Err, IsTrue, codes, ◌||◌}
use Rattle.std.specs.List.{list_any}
use Rattle.std.proofs.lemmas.List.{append-nil, length-append, take-append-drop}
use Rattle.std.proofs.Math.Seq.{take-append_seam}
use Rattle.vec_record.specs.declared.change.Change.{Change}
use Rattle.vec_record.specs.Held.{Rows}
use Rattle.site_disk.specs.State.{SiteState, IsNow, Safe}
use Rattle.site_disk.proofs.Moments.{start}
use Rattle.page_gate.specs.Gate.{opening, is_open}
use Rattle.page_gate.specs.Promises.{Holds}
use Rattle.page_layout.specs.Heads.{Values}
use Rattle.event_feed.specs.Meanings.{Slots}
use Rattle.store_image.specs.Stores.{IsStore, LoadsAreStores}
use Rattle.warehouse_core.specs.States.{State, IsClustered}
use Rattle.session_desk.specs.declared.status.Status.{Status}
use Rattle.session_desk.specs.declared.status.Status.TheVariants as status
use Rattle.session_desk.specs.Answers.{input_limit}
use Rattle.session_desk.specs.Statuses.{is_fault}
use Rattle.session_desk.specs.Reading.{IsTaken}
use Rattle.session_desk.specs.Moments.{IsSaying, LeavesAlone}
use Rattle.session_desk.specs.Lines.{Reading, HasSource, IsUnfinished, fresh}
use Rattle.session_desk.specs.declared.requests.Asked as read
use Rattle.session_desk.specs.declared.reading.ReadFault.{ReadFault}
use Rattle.session_desk.specs.declared.reading.ReadFault.TheVariants as read_fault
use Rattle.session_desk.specs.Asking.{Asks, IsAsked, asks, rest_of, is_past, AreWhole, IsNext, IsBroken}
use Rattle.session_desk.specs.Session.{Request, Answer, is_over, text_of, in_list, accepted_by, acked, rows_after_all, requests_of, whole_requests}
use Rattle.session_desk.specs.Courses.{course_text}
use Rattle.session_desk.specs.Talks.{work_on, works_on, Desk, desk_at, desk_behind, desk_after, IsServing, answer_on, answers_on, IsStoreOf, IsReplying, talk, IsStoreAt, IsTalk, IsRead, IsToldOf, IsGoing, Concludes, IsKept, IsCutOff, IsEven}
use Rattle.session_desk.proofs.LifeLaws.{none-given}
use Rattle.session_desk.proofs.Going.{safe_as, then_safe, then_said}
use Rattle.session_desk.proofs.Replies.{rest-store, desk-store}
use Rattle.session_desk.proofs.Talking.{text-append, accepted-append, answers-split, after-one, values-after, rows-after, batches-after, refused-one, acked-past, acked-part, few-in-list}
use Rattle.session_desk.proofs.Asking.{asks_all, none_whole, more_whole, whole_so_far}

abbrev ending-of : List ℕ → List ℕ
ending-of input = cond (is_over input) (codes "session too long\n") []

-- the answers so far and those to come
split : (d : Desk) (input : List ℕ) (asked rest : List Request) → requests_of input ≡ asked ++ rest → (talk d input).answers ≡ answers_on d asked ++ answers_on (desk_after d asked) rest
split d input asked rest are = ap (answers_on d) are ∙ answers-split d asked rest

-- the store so far is that after so many accepted batches
store-at : (d : Desk) (input : List ℕ) (asked rest : List Request) → requests_of input ≡ asked ++ rest → (c : List ℕ) → IsStoreOf (desk_after d asked) c → IsStoreAt d input (length (accepted_by (answers_on d asked))) c
store-at d input asked rest are c store =
    let next = desk_after d asked in
    let done = accepted_by (answers_on d asked) in
    let all : accepted_by (talk d input).answers ≡ done ++ accepted_by (answers_on next rest) =
    ap accepted_by (split d input asked rest are) ∙ accepted-append (answers_on d asked) (answers_on next rest) in
    let front : take (length done) (accepted_by (talk d input).answers) ≡ done = ap (take (length done)) all ∙ take-append_seam done (accepted_by (answers_on next rest)) in
    let counted : length (accepted_by (talk d input).answers) ≡ length done + length (accepted_by (answers_on next rest)) =
    ap (λ (l : List (List Change)). length l) all ∙ length-append done (accepted_by (answers_on next rest)) in
    let A : Values → Type 0 = λ v. IsStore v next.state.rows next.state.batches c in
    let B : Rows → Type 0 = λ r. IsStore d.values r next.state.batches c in
    let C : ℕ → Type 0 = λ n. IsStore d.values (rows_after_all d.values d.state.rows (take (length done) (accepted_by (talk d input).answers))) n c in
    record {
      some = omega (arith, counted);
      store = subst C (batches-after d asked) (subst B (rows-after d asked ∙ ap (rows_after_all d.values d.state.rows) (sym front)) (subst A (values-after d asked) store));
    }

-- a moment, by what was said of what is to come
point : (d : Desk) (input : List ℕ) (a : SiteState) (asked rest : List Request) → requests_of input ≡ asked ++ rest
    → (s t said c : List ℕ) (m : ℕ) → text_of (answers_on (desk_after d asked) rest) ++ ending-of input ≡ s ++ t → said ≡ a.said ++ (text_of (answers_on d asked) ++ s) → IsStoreAt d input m c
    → length (accepted_by (answers_on d asked)) + acked (length s) (answers_on (desk_after d asked) rest) ≤ m
    → m ≤ length (accepted_by (answers_on d asked)) + acked (length s) (answers_on (desk_after d asked) rest) + 1 → IsTalk d input a said c
point d input a asked rest are s t said c m cut is store holds few =
    let f = answers_on d asked in
    let e = answers_on (desk_after d asked) rest in
    let all = split d input asked rest are in
    let whole : course_text (talk d input) ≡ (text_of f ++ s) ++ t =
    ap (λ (l : List Answer). text_of l ++ ending-of input) all
    ∙ ap (λ (l : List ℕ). l ++ ending-of input) (text-append f e)
    ∙ append_assoc (text_of f) (text_of e) (ending-of input)
    ∙ ap (λ (l : List ℕ). text_of f ++ l) cut
    ∙ sym (append_assoc (text_of f) s t) in
    let k : ℕ = length (text_of f ++ s) in
    let k-is : k ≡ length (text_of f) + length s = length-append (text_of f) s in
    let long : length (course_text (talk d input)) ≡ k + length t = ap (λ (l : List ℕ). length l) whole ∙ length-append (text_of f ++ s) t in
    let receipts : acked k (talk d input).answers ≡ length (accepted_by f) + acked (length s) e =
    ap (λ (j : ℕ). acked j (talk d input).answers) k-is ∙ ap (acked (length (text_of f) + length s)) all ∙ acked-past f e (length s) in
    record {
      k = k;
      within = omega (arith, long);
      prefix = is ∙ ap (λ (l : List ℕ). a.said ++ l) (sym (ap (take k) whole ∙ take-append_seam (text_of f ++ s) t));
      m = m;
      store = store;
      holds = at-most receipts holds;
      few = at-most-one receipts few;
    }
  where
    at-most : {x y z : ℕ} → x ≡ y → y ≤ z → x ≤ z
    at-most {x} {y} {z} e le = omega (arith, e, le)

    at-most-one : {x y z : ℕ} → x ≡ y → z ≤ y + 1 → z ≤ x + 1
    at-most-one {x} {y} {z} e le = omega (arith, e, le)

-- no receipt has ended where nothing of what is to come was said
none-said : (d : Desk) (rest : List Request) → acked 0 (answers_on d rest) ≡ 0
none-said d rest = none-given d.values d.state rest

-- between two turns
pub at-rest : (d : Desk) (input : List ℕ) (a : SiteState) (asked rest : List Request) → requests_of input ≡ asked ++ rest
    → (said c : List ℕ) → said ≡ a.said ++ text_of (answers_on d asked) → IsStoreOf (desk_after d asked) c → IsTalk d input a said c
at-rest d input a asked rest are said c is store =
    let next = desk_after d asked in
    let none = none-said next rest in
    point d input a asked rest are [] (text_of (answers_on next rest) ++ ending-of input) said c (length (accepted_by (answers_on d asked))) refl
    (is ∙ ap (λ (l : List ℕ). a.said ++ l) (sym (append-nil (text_of (answers_on d asked)))))
    (store-at d input asked rest are c store)
    (omega (arith, none)) (omega (arith, none))

length-one : (d : Desk) (asked : List Request) (q : Request) → length (accepted_by (answers_on d (asked ++ q ∷ []))) ≡ length (accepted_by (answers_on d asked)) + length (in_list (answer_on (desk_after d asked) q).accepted)
length-one d asked q =
    let x = answer_on (desk_after d asked) q in
    ap (λ (l : List Answer). length (accepted_by l)) (answers-split d asked (q ∷ []))
    ∙ ap (λ (l : List (List Change)). length l) (accepted-append (answers_on d asked) (x ∷ []))
    ∙ length-append (accepted_by (answers_on d asked)) (in_list x.accepted ++ [])
    ∙ ap (λ (l : List (List Change)). length (accepted_by (answers_on d asked)) + length l) (append-nil (in_list x.accepted))

-- a moment of a turn
turn-moment : (d : Desk) (input : List ℕ) (a b : SiteState) (asked rest : List Request) (q : Request) → requests_of input ≡ asked ++ (q ∷ rest)
    → b.said ≡ a.said ++ text_of (answers_on d asked) → (s c : List ℕ) → IsReplying (desk_after d asked) q b s c → IsTalk d input a s c
turn-moment d input a b asked rest q are so_far s c m =
    let next = desk_after d asked in
    let x = answer_on next q in
    let last = desk_behind next x in
    let more = answers_on last rest in
    let n = m.n in
    let few : length (take n x.text) ≤ length x.text =
    let both = ap (λ (l : List ℕ). length l) (sym (take-append-drop n x.text)) ∙ length-append (take n x.text) (drop n x.text) in omega (arith, both) in
    let cut : text_of (x ∷ more) ++ ending-of input ≡ take n x.text ++ (drop n x.text ++ (text_of more ++ ending-of input)) =
    append_assoc x.text (text_of more) (ending-of input)
    ∙ ap (λ (l : List ℕ). l ++ (text_of more ++ ending-of input)) (sym (take-append-drop n x.text))
    ∙ append_assoc (take n x.text) (drop n x.text) (text_of more ++ ending-of input) in
    let said : s ≡ a.said ++ (text_of (answers_on d asked) ++ take n x.text) =
    m.prefix ∙ ap (λ (l : List ℕ). l ++ take n x.text) so_far ∙ append_assoc a.said (text_of (answers_on d asked)) (take n x.text) in
    let none : acked 0 more ≡ 0 = none-said last rest in
    ⊎_elim
    (λ before.
    let z : acked (length (take n x.text)) (x ∷ more) ≡ 0 = ap (λ (j : ℕ). acked (length (take j x.text)) (x ∷ more)) before.0 ∙ none-said next (q ∷ rest) in
    point d input a asked (q ∷ rest) are (take n x.text) (drop n x.text ++ (text_of more ++ ending-of input)) s c (length (accepted_by (answers_on d asked))) cut said
    (store-at d input asked (q ∷ rest) are c before.1) (omega (arith, z)) (omega (arith, z)))
    (λ behind.
    let part = acked-part x more (length (take n x.text)) few none in
    let one = few-in-list x.accepted in
    let counted = length-one d asked q in
    let P : Desk → Type 0 = λ y. IsStoreOf y c in
    let store : IsStoreOf (desk_after d (asked ++ q ∷ [])) c = subst P (sym (after-one d asked q)) behind in
    let are-next : requests_of input ≡ (asked ++ q ∷ []) ++ rest = are ∙ sym (append_assoc asked (q ∷ []) rest) in
    point d input a asked (q ∷ rest) are (take n x.text) (drop n x.text ++ (text_of more ++ ending-of input)) s c (length (accepted_by (answers_on d (asked ++ q ∷ [])))) cut said
    (store-at d input (asked ++ q ∷ []) rest are-next c store) (omega (arith, part, one, counted)) (omega (arith, part, one, counted)))
    m.image_is

-- one turn more
turn-told : (d : Desk) (input : List ℕ) (a b c : SiteState) (asked rest : List Request) (q : Request) → requests_of input ≡ asked ++ (q ∷ rest)
    → IsToldOf d input asked a b → Safe b c (IsReplying (desk_after d asked) q b) → c.said ≡ b.said ++ (answer_on (desk_after d asked) q).text → IsToldOf d input (asked ++ q ∷ []) a c
turn-told d input a b c asked rest q are told reply said =
    let f = answers_on d asked in
    let x = answer_on (desk_after d asked) q in
    let text : text_of (answers_on d (asked ++ q ∷ [])) ≡ text_of f ++ x.text =
    ap text_of (answers-split d asked (q ∷ [])) ∙ text-append f (x ∷ []) ∙ ap (λ (l : List ℕ). text_of f ++ l) (append-nil x.text) in
    record {
      said = said ∙ ap (λ (l : List ℕ). l ++ x.text) told.said ∙ append_assoc a.said (text_of f) x.text ∙ ap (λ (l : List ℕ). a.said ++ l) (sym text);
      safe = then_safe told.safe (safe_as reply (λ s i m. turn-moment d input a b asked rest q are told.said s i m));
    }

-- what holds of a desk holds of the one that it is
at-desk : {d e : Desk} (P : Desk → Type 0) → d ≡ e → P d → P e
at-desk P same given = subst P same given

-- the moments of a reply that fails
pub turn-failed : (tells : Bool) (d next : Desk) (input : List ℕ) (a b c : SiteState) (refused : Bool) (r new : Reading) (left left' : List ℕ) (q : Request) → IsTrue tells → IsGoing tells d input a refused next r left b → IsNext q r left new left'
    → Safe b c (IsReplying next q b) → Safe a c (IsTalk d input a)
turn-failed tells d next input a b c refused r new left left' q t going is reply =
    let told = going.told t in
    let are : requests_of input ≡ going.asked ++ (q ∷ asks new.room (rest_of new left')) = going.read.requests ∙ ap (λ (l : List Request). going.asked ++ l) is.asked in
    let replied = at-desk (λ x. Safe b c (IsReplying x q b)) going.desk reply in
    then_safe told.safe (safe_as replied (λ s i m. turn-moment d input a b going.asked (asks new.room (rest_of new left')) q are told.said s i m))

-- before the first turn nothing was read
pub begins-reading : (input : List ℕ) → IsRead input [] fresh input
begins-reading input = record {
  used = [];
  front = refl;
  counts = omega arith;
  requests = sym (asks_all input);
  past = refl;
  whole = inl none_whole;
  same_source = λ e. absurd (cc e);
}

pub begins-going : LoadsAreStores → (tells : Bool) (w : State) (slots : Slots) (input : List ℕ) (a : SiteState) → (IsTrue tells → IsNow a) → IsServing w → IsClustered w → (IsTrue tells → Holds w.pages a) → IsGoing tells (desk_at w slots) input a false (desk_at w slots) fresh input a
begins-going stores tells w slots input a now serving stand holds =
    let d = desk_at w slots in
    let are : requests_of input ≡ [] ++ asks input_limit input = sym (asks_all input) in
    record {
      asked = [];
      read = begins-reading input;
      desk = refl;
      refused_is = refl;
      told = λ t. record {
        said = sym (append-nil a.said);
        safe = start (now t) (λ c left. at-rest d input a [] (asks input_limit input) are a.said c (sym (append-nil a.said)) (rest-store stores w a serving stand (holds t) c left));
      };
    }

-- what the session may take is what the requests to come may, from where it stands
pub pays-first : (d : Desk) (input : List ℕ) (n : ℕ) → n + works_on d (asks fresh.room (rest_of fresh input)) ≤ n + works_on d (requests_of input)
pays-first d input n =
    let same : works_on d (asks input_limit input) ≡ works_on d (requests_of input) = ap (works_on d) (asks_all input) in
    omega (arith, same)

module _ (d : Desk) (q : Request) (now more : List Request) (before after bound : ℕ) (are : now ≡ q ∷ more) (paid : after ≤ before + work_on d q) (left : before + works_on d now ≤ bound) where
  pub pays-on : (next : Desk) → next ≡ desk_behind d (answer_on d q) → after + works_on next more ≤ bound
  pays-on next desk =
      let one : works_on d now ≡ work_on d q + works_on (desk_behind d (answer_on d q)) more = ap (works_on d) are in
      let two : works_on next more ≡ works_on (desk_behind d (answer_on d q)) more = ap (λ (x : Desk). works_on x more) desk in
      omega (arith, one, two, paid, left)

  pub pays-last : after ≤ bound
  pays-last =
      let one : works_on d now ≡ work_on d q + works_on (desk_behind d (answer_on d q)) more = ap (works_on d) are in
      omega (arith, one, paid, left)

-- and after each a request more
next-asked : (input : List ℕ) (asked : List Request) (r new : Reading) (left left' : List ℕ) (q : Request) → IsRead input asked r left → IsNext q r left new left' → requests_of input ≡ asked ++ (q ∷ asks new.room (rest_of new left'))
next-asked input asked r new left left' q read is = read.requests ∙ ap (λ (l : List Request). asked ++ l) is.asked

pub reads-on : (input : List ℕ) (asked : List Request) (r new : Reading) (left left' : List ℕ) (q : Request) → IsRead input asked r left → IsNext q r left new left' → HasSource new left' → (r.ended ≡ true → new.ended ≡ true) → IsRead input (asked ++ q ∷ []) new left'
reads-on input asked r new left left' q read is source ends =
    record {
      used = read.used ++ is.used;
      front = read.front ∙ ap (λ (l : List ℕ). read.used ++ l) is.front ∙ sym (append_assoc read.used is.used (rest_of new left'));
      counts =
          let both : length (read.used ++ is.used) ≡ length read.used + length is.used = length-append read.used is.used in
          let first = read.counts in
          let second = is.counts in
          omega (arith, both, first, second);
      requests = next-asked input asked r new left left' q read is ∙ sym (append_assoc asked (q ∷ []) (asks new.room (rest_of new left')));
      past = is.past ∙ read.past;
      whole = both-whole read.whole is.whole;
      same_source = source;
    }
  where
    both-whole : AreWhole read.used asked ⊎ (r.ended ≡ true) → AreWhole is.used (q ∷ []) ⊎ (new.ended ≡ true) → AreWhole (read.used ++ is.used) (asked ++ q ∷ []) ⊎ (new.ended ≡ true)
    both-whole (inl first) (inl second) = inl (more_whole first second)
    both-whole (inl first) (inr ended) = inr ended
    both-whole (inr ended) second = inr (ends ended)

pub goes-on : (tells : Bool) (d next last : Desk) (input : List ℕ) (a b c : SiteState) (refused one : Bool) (r new : Reading) (left left' : List ℕ) (q : Request)
    → IsGoing tells d input a refused next r left b → IsNext q r left new left' → HasSource new left' → (r.ended ≡ true → new.ended ≡ true) → last ≡ desk_behind next (answer_on next q) → one ≡ (answer_on next q).refused
    → (IsTrue tells → Safe b c (IsReplying next q b) × (c.said ≡ b.said ++ (answer_on next q).text)) → IsGoing tells d input a (refused || one) last new left' c
goes-on tells d next last input a b c refused one r new left left' q going is source ends desk one-is reply =
    let asked = going.asked in
    let rest = asks new.room (rest_of new left') in
    let are : requests_of input ≡ asked ++ (q ∷ rest) = next-asked input asked r new left left' q going.read is in
    record {
      asked = asked ++ q ∷ [];
      read = reads-on input asked r new left left' q going.read is source ends;
      desk = desk ∙ ap (λ (x : Desk). desk_behind x (answer_on x q)) going.desk ∙ sym (after-one d asked q);
      refused_is = refused-one d asked q refused one going.refused_is (one-is ∙ ap (λ (x : Desk). (answer_on x q).refused) going.desk);
      told = λ t. turn-told d input a b c asked rest q are (going.told t)
          (at-desk (λ x. Safe b c (IsReplying x q b)) going.desk (reply t).0)
          ((reply t).1 ∙ ap (λ (x : Desk). b.said ++ (answer_on x q).text) going.desk);
    }

-- where the input has no further request, all of its requests were answered
all-asked : (input : List ℕ) (asked : List Request) (r : Reading) (left : List ℕ) → IsRead input asked r left → asks r.room (rest_of r left) ≡ [] → requests_of input ≡ asked ++ []
all-asked input asked r left read none = read.requests ∙ ap (λ (l : List Request). asked ++ l) none

-- the end of the input
pub ends-fine : (tells : Bool) (d next : Desk) (input : List ℕ) (a b : SiteState) (refused : Bool) (r : Reading) (left : List ℕ) (result : Status) → IsTrue tells → IsGoing tells d input a refused next r left b
    → asks r.room (rest_of r left) ≡ [] → is_past r.room (rest_of r left) ≡ false → result ≡ cond refused status.Refused status.Fine → Concludes d input result a b
ends-fine tells d next input a b refused r left result t going none past is =
    let are : requests_of input ≡ going.asked = all-asked input going.asked r left going.read none ∙ append-nil going.asked in
    let over : is_over input ≡ false = sym going.read.past ∙ past in
    let given : (talk d input).answers ≡ answers_on d going.asked = ap (answers_on d) are in
    record {
      text =
          (going.told t).said
          ∙ ap (λ (l : List ℕ). a.said ++ l)
          (sym (ap (λ (l : List Answer). text_of l ++ ending-of input) given ∙ ap (λ (o : Bool). text_of (answers_on d going.asked) ++ cond o (codes "session too long\n") []) over ∙ append-nil (text_of (answers_on d going.asked))));
      status =
          is
          ∙ ap (λ (o : Bool). cond o status.Refused status.Fine) (going.refused_is ∙ ap (list_any (λ (x : Answer). x.refused)) (sym given))
          ∙ sym (ap (λ (o : Bool). cond o status.TooLong (cond (list_any (λ (x : Answer). x.refused) (talk d input).answers) status.Refused status.Fine)) over);
    }

-- an input that is too long
pub ends-too-long : (tells : Bool) (d next : Desk) (input : List ℕ) (a b c : SiteState) (refused : Bool) (r : Reading) (left : List ℕ) (result : Status) → IsTrue tells → IsGoing tells d input a refused next r left b
    → asks r.room (rest_of r left) ≡ [] → is_past r.room (rest_of r left) ≡ true → result ≡ status.TooLong → c.said ≡ b.said ++ codes "session too long\n" → Concludes d input result a c
ends-too-long tells d next input a b c refused r left result t going none past is said =
    let are : requests_of input ≡ going.asked = all-asked input going.asked r left going.read none ∙ append-nil going.asked in
    let over : is_over input ≡ true = sym going.read.past ∙ past in
    let given : (talk d input).answers ≡ answers_on d going.asked = ap (answers_on d) are in
    record {
      text =
          said
          ∙ ap (λ (l : List ℕ). l ++ codes "session too long\n") (going.told t).said
          ∙ append_assoc a.said (text_of (answers_on d going.asked)) (codes "session too long\n")
          ∙ ap (λ (l : List ℕ). a.said ++ l)
          (sym (ap (λ (l : List Answer). text_of l ++ ending-of input) given ∙ ap (λ (o : Bool). text_of (answers_on d going.asked) ++ cond o (codes "session too long\n") []) over));
      status = is ∙ sym (ap (λ (o : Bool). cond o status.TooLong (cond (list_any (λ (x : Answer). x.refused) (talk d input).answers) status.Refused status.Fine)) over);
    }

-- its moments
pub too-long-moments : LoadsAreStores → (tells : Bool) (d : Desk) (w : State) (slots : Slots) (input : List ℕ) (a b c : SiteState) (refused : Bool) (r : Reading) (left : List ℕ) → IsTrue tells → IsGoing tells d input a refused (desk_at w slots) r left b
    → asks r.room (rest_of r left) ≡ [] → is_past r.room (rest_of r left) ≡ true → IsServing w → IsClustered w → Holds w.pages b → Safe b c (IsSaying b (codes "session too long\n")) → Safe a c (IsTalk d input a)
too-long-moments stores tells d w slots input a b c refused r left t going none past serving stand holds say =
    let asked = going.asked in
    let are = all-asked input asked r left going.read none in
    let over : is_over input ≡ true = sym going.read.past ∙ past in
    let ending : ending-of input ≡ codes "session too long\n" = ap (λ (o : Bool). cond o (codes "session too long\n") []) over in
    let told = going.told t in
    let f = answers_on d asked in
    then_said (codes "session too long\n") told.safe say (λ n i left'.
    let line = codes "session too long\n" in
    point d input a asked [] are (take n line) (drop n line) (b.said ++ take n line) i (length (accepted_by f))
    (ending ∙ sym (take-append-drop n line))
    (ap (λ (l : List ℕ). l ++ take n line) told.said ∙ append_assoc a.said (text_of f) (take n line))
    (store-at d input asked [] are i (desk-store stores w slots (desk_after d asked) b going.desk serving stand holds i left'))
    (omega arith) (omega arith))

-- one image with all accepted batches, where what was said after b leaves the content alone
pub all-kept : LoadsAreStores → (tells : Bool) (d : Desk) (w : State) (slots : Slots) (input : List ℕ) (a b : SiteState) (refused : Bool) (r : Reading) (left : List ℕ) → IsGoing tells d input a refused (desk_at w slots) r left b
    → asks r.room (rest_of r left) ≡ [] → IsServing w → IsClustered w → (c : SiteState) → IsNow c → Holds w.pages c → IsKept d input c
all-kept stores tells d w slots input a b refused r left going none serving stand c now holds =
    let asked = going.asked in
    let are = all-asked input asked r left going.read none in
    let given : (talk d input).answers ≡ answers_on d asked = ap (answers_on d) (are ∙ append-nil asked) in
    let P : List Answer → Type 0 = λ l. IsStoreAt d input (length (accepted_by l)) c.content in
    record {
      only = holds.only;
      store = subst P (sym given) (store-at d input asked [] are c.content (desk-store stores w slots (desk_after d asked) c going.desk serving stand holds c.content now.read));
    }

-- every committed batch has its receipt said
pub even-out : (tells : Bool) (d next : Desk) (input : List ℕ) (a b c : SiteState) (refused : Bool) (r : Reading) (left : List ℕ) → IsTrue tells → IsGoing tells d input a refused next r left b
    → c.said ≡ b.said → ((i : List ℕ) → c.may_leave i → IsStoreOf next i) → IsEven d input a c
even-out tells d next input a b c refused r left t going same images =
    let asked = going.asked in
    let rest = asks r.room (rest_of r left) in
    let f = answers_on d asked in
    let e = answers_on (desk_after d asked) rest in
    let all = split d input asked rest going.read.requests in
    let whole : course_text (talk d input) ≡ text_of f ++ (text_of e ++ ending-of input) =
    ap (λ (l : List Answer). text_of l ++ ending-of input) all ∙ ap (λ (l : List ℕ). l ++ ending-of input) (text-append f e) ∙ append_assoc (text_of f) (text_of e) (ending-of input) in
    let long : length (course_text (talk d input)) ≡ length (text_of f) + length (text_of e ++ ending-of input) = ap (λ (l : List ℕ). length l) whole ∙ length-append (text_of f) (text_of e ++ ending-of input) in
    let z : length (text_of f) ≡ length (text_of f) + 0 = omega arith in
    let receipts : acked (length (text_of f)) (talk d input).answers ≡ length (accepted_by f) =
    ap (λ (j : ℕ). acked j (talk d input).answers) z ∙ ap (acked (length (text_of f) + 0)) all ∙ acked-past f e 0 ∙ (let none = none-said (desk_after d asked) rest in omega (arith, none)) in
    record {
      k = length (text_of f);
      within = omega (arith, long);
      prefix = same ∙ (going.told t).said ∙ ap (λ (l : List ℕ). a.said ++ l) (sym (ap (take (length (text_of f))) whole ∙ take-append_seam (text_of f) (text_of e ++ ending-of input)));
      stores = λ i left'.
          let Q : ℕ → Type 0 = λ m. IsStoreAt d input m i in
          subst Q (sym receipts) (store-at d input asked rest going.read.requests i (at-desk (λ x. IsStoreOf x i) going.desk (images i left')));
    }

-- a fault of the source
pub cut-off : (tells : Bool) (d next : Desk) (input : List ℕ) (a b : SiteState) (refused : Bool) (r : Reading) (left left' : List ℕ) → IsTrue tells → IsGoing tells d input a refused next r left b → IsBroken r left left' → IsCutOff d input left' a b
cut-off tells d next input a b refused r left left' t going broken =
    record {
      front = going.read.used ++ broken.part;
      gave = going.read.front ∙ ap (λ (l : List ℕ). going.read.used ++ l) broken.front ∙ sym (append_assoc going.read.used broken.part left');
      text = (going.told t).said ∙ ap (λ (l : List Request). a.said ++ text_of (answers_on d l)) (sym (so-far going.read.whole));
    }
  where
    so-far : AreWhole going.read.used going.asked ⊎ (r.ended ≡ true) → whole_requests (going.read.used ++ broken.part) ≡ going.asked
    so-far (inl whole) = whole_so_far broken.part whole broken.none
    so-far (inr ended) = absurd (cc (ended, broken.going))

-- how much was taken
pub taken : (input : List ℕ) (asked : List Request) (r : Reading) (left left' : List ℕ) → IsRead input asked r left → IsUnfinished r left left' → IsTaken 67108865 input left'
taken input asked r left left' read un = record {
  bytes = read.used ++ un.part;
  front = read.front ∙ ap (λ (l : List ℕ). read.used ++ l) un.front ∙ sym (append_assoc read.used un.part left');
  few = let both = length-append read.used un.part in let first = read.counts in let second = un.few in omega (arith, both, first, second);
}

-- what was asked next
pub some-asked : (o : Option read.Asked) (x : read.Asked) (r new : Reading) (left left' : List ℕ) → o ≡ Some x → Asks (Ok o) r left new left' → (q : Request) × IsAsked x q × IsNext q r left new left'
some-asked o x r new left left' is given = let P : Option read.Asked → Type 0 = λ v. Asks (Ok v) r left new left' in subst P is given

pub none-asked : (o : Option read.Asked) (r new : Reading) (left left' : List ℕ) → o ≡ None → Asks (Ok o) r left new left' → (asks r.room (rest_of r left) ≡ []) × (is_past r.room (rest_of r left) ≡ false)
none-asked o r new left left' is given =
    let P : Option read.Asked → Type 0 = λ v. Asks (Ok v) r left new left' in
    let at = subst P is given in (at.0, at.1)

pub too-much : (fault : ReadFault) (r new : Reading) (left left' : List ℕ) → fault ≡ read_fault.TooMuch → Asks (Err fault) r left new left' → (asks r.room (rest_of r left) ≡ []) × (is_past r.room (rest_of r left) ≡ true)
too-much fault r new left left' is given = let P : ReadFault → Type 0 = λ f. Asks (Err f) r left new left' in subst P is given

pub broken-off : (fault : ReadFault) (r new : Reading) (left left' : List ℕ) → fault ≡ read_fault.Source → Asks (Err fault) r left new left' → IsBroken r left left'
broken-off fault r new left left' is given = let P : ReadFault → Type 0 = λ f. Asks (Err f) r left new left' in subst P is given

pub is-too-much : (fault : ReadFault) → (fault ≡ read_fault.TooMuch) ⊎ (fault ≡ read_fault.TooMuch → ⊥)
is-too-much read_fault.Source = inr (λ e. cc e)
is-too-much read_fault.TooMuch = inl refl
is-too-much read_fault.Memory = inr (λ e. cc e)

-- what was said goes on
pub more-on : (x y z : List ℕ) → ((m : List ℕ) × (y ≡ x ++ m)) → ((n : List ℕ) × (z ≡ y ++ n)) → (l : List ℕ) × (z ≡ x ++ l)
more-on x y z first next = (first.0 ++ next.0, next.1 ∙ ap (λ (s : List ℕ). s ++ next.0) first.1 ∙ append_assoc x first.0 next.0)

-- a store stays where the content is left alone
pub holds-on : (pages : List (List ℕ)) (b c : SiteState) → Holds pages b → LeavesAlone b c → Holds pages c
holds-on pages b c holds alone = record {
  only = λ i left. holds.only i ((alone.images i).0 left) ∙ sym alone.content;
  list = ap opening alone.content ∙ holds.list;
  shut = ap is_open alone.content ∙ holds.shut;
}

pub too-long-only : (result : Status) → (result ≡ status.SourceFault) ⊎ ((result ≡ status.TooLong) ⊎ ((result ≡ status.Memory) ⊎ (result ≡ status.SiteFault))) → is_fault result ≡ false → result ≡ status.TooLong
too-long-only result (inl source) fine = let f = ap is_fault source in absurd (cc (f, fine))
too-long-only result (inr (inl too_long)) fine = too_long
too-long-only result (inr (inr (inl memory))) fine = let f = ap is_fault memory in absurd (cc (f, fine))
too-long-only result (inr (inr (inr site))) fine = let f = ap is_fault site in absurd (cc (f, fine))
