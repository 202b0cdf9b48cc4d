-- The headline: what is said is what plain clustering says of the records, and no crash loses an acknowledged batch.
use Rattle.std.specs.Prelude.{◌≡◌, ◌⊎◌, ℕ, ◌+◌, ◌≤◌, false, List, ◌++◌, length, take, None}
use Rattle.site_disk.specs.State.{SiteState, Safe}
use Rattle.page_gate.specs.Gate.{opening}
use Rattle.page_gate.specs.Same.{IsOnly}
use Rattle.event_feed.specs.Meanings.{Slots}
use Rattle.store_image.specs.Stores.{IsSound, AreDueOn, records_on, batches_on, params_on, refusal_on}
use Rattle.session_desk.specs.declared.status.Status.{Status}
use Rattle.session_desk.specs.declared.status.Status.TheVariants.{Fine, Refused, SourceFault, Memory, Blank, Broken, TooLong}
use Rattle.session_desk.specs.Statuses.{is_fault}
use Rattle.session_desk.specs.Session.{acked, text_of, rows_after_all, whole_requests}
use Rattle.session_desk.specs.Courses.{session, course_text, values_on, answers_over, accepted}

-- What is assumed of the content at the start: where it opens, each count, anchor and label that it
-- has is the one that is due to its record. Every sound content has it, and so has every content
-- that doesn't open.
abbrev pub HasDueLines : List ℕ → Type 0
HasDueLines c = refusal_on c ≡ None → AreDueOn c

-- an image is a sound store with the same parameters, and the records after the first m batches that the session accepts
pub record IsStoreAfter (c : List ℕ) (watchers : Slots) (input : List ℕ) (m : ℕ) (image : List ℕ) : Type 0 where
  pub some : m ≤ length (accepted c watchers input)
  pub sound : IsSound image
  pub params : params_on image ≡ params_on c
  pub records : records_on image ≡ rows_after_all (values_on c) (records_on c) (take m (accepted c watchers input))
  pub batches : batches_on image ≡ batches_on c + m

-- Crash: an image after whole batches, every one among them whose receipt is within the first k bytes said, and at most one more.
pub record IsCrash (c : List ℕ) (watchers : Slots) (input : List ℕ) (k : ℕ) (image : List ℕ) : Type 0 where
  pub m : ℕ
  pub store : IsStoreAfter c watchers input m image
  pub holds : acked k (session c watchers input).answers ≤ m
  pub few : m ≤ acked k (session c watchers input).answers + 1

-- A moment of a session that began at a: k bytes of its text were said, and, over a sound content, either nothing was said and the image is
-- one of the start, or the image is as above.
pub record IsMoment (watchers : Slots) (input : List ℕ) (a : SiteState) (said image : List ℕ) : Type 0 where
  pub k : ℕ
  pub within : k ≤ length (course_text (session a.content watchers input))
  pub prefix : said ≡ a.said ++ take k (course_text (session a.content watchers input))
  pub kept : IsSound a.content → ((said ≡ a.said) × a.may_leave image) ⊎ IsCrash a.content watchers input k image

-- Answers: all of the text was said, and the status is the session's
pub record SaysAll (watchers : Slots) (input : List ℕ) (result : Status) (a b : SiteState) : Type 0 where
  pub text : b.said ≡ a.said ++ course_text (session a.content watchers input)
  pub status : result ≡ (session a.content watchers input).status

-- after a fault of the source: the answers to the whole lines and batches of the bytes that it gave
pub record SaysWhole (watchers : Slots) (input left : List ℕ) (a b : SiteState) : Type 0 where
  pub front : List ℕ
  pub gave : input ≡ front ++ left
  pub text : b.said ≡ a.said ++ text_of (answers_over a.content watchers (whole_requests front))

-- End: one image, with every accepted batch
pub record KeepsAll (watchers : Slots) (input : List ℕ) (a b : SiteState) : Type 0 where
  pub only : IsOnly b
  pub store : IsStoreAfter a.content watchers input (length (accepted a.content watchers input)) b.content

-- each image is one of the start with nothing said, or has exactly the batches whose receipts were said
abbrev pub IsSettled : Slots → List ℕ → SiteState → SiteState → Type 0
IsSettled watchers input a b =
    (image : List ℕ) → b.may_leave image
    → ((b.said ≡ a.said) × a.may_leave image)
    ⊎ ((k : ℕ) × (k ≤ length (course_text (session a.content watchers input))) × (b.said ≡ a.said ++ take k (course_text (session a.content watchers input)))
    × IsStoreAfter a.content watchers input (acked k (session a.content watchers input).answers) image)

-- At a moment of a session that isn't begun, over any content: the image is one of the start, or opens as the content does.
abbrev pub IsUntouched : SiteState → List ℕ → List ℕ → Type 0
IsUntouched a said image = a.may_leave image ⊎ (opening image ≡ opening a.content)

-- A run of `serve` with these watchers, over a source and a site that tell, of which the source had `input` to give at the start and
-- `left` at the end, and the site went from a to b.
pub record Serves (watchers : Slots) (input left : List ℕ) (result : Status) (a b : SiteState) : Type 0 where
  -- Answers: all of the session's text and its status, where neither a fault nor want of memory ended the run
  pub answers : is_fault result ≡ false → SaysAll watchers input result a b
  -- after a fault of the source, the answers to all that it gave whole
  pub whole : result ≡ SourceFault → SaysWhole watchers input left a b
  -- Crash: at every moment a prefix of the text was said, and the image is one of the start or holds whole
  -- batches, each acknowledged one among them
  pub crash : Safe a b (IsMoment watchers input a)
  -- End: one image with all accepted batches
  pub end : (result ≡ Fine) ⊎ ((result ≡ Refused) ⊎ (result ≡ TooLong)) → KeepsAll watchers input a b
  -- after a fault of the source or want of memory, each committed batch has its receipt said
  pub settled : IsSound a.content → (result ≡ SourceFault) ⊎ (result ≡ Memory) → IsSettled watchers input a b

-- Completeness: the status is the session's, or memory was wanting.
abbrev pub IsComplete : Slots → List ℕ → Status → SiteState → Type 0
IsComplete watchers input result a = (result ≡ (session a.content watchers input).status) ⊎ (result ≡ Memory)

-- `serve` over a content that doesn't open, and wherever it says so: each image is one of the start or opens as
-- the content does.
pub record LeavesUnopened (result : Status) (a b : SiteState) : Type 0 where
  pub untouched : (refusal_on a.content ≡ None → ⊥) → Safe a b (IsUntouched a)
  pub unbegun : (result ≡ Blank) ⊎ (result ≡ Broken) → Safe a b (IsUntouched a)
