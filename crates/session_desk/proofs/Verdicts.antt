-- No session ends with a fault.
use Rattle.std.proofs.Common.{◌≡◌, ℕ, List, Bool, true, false, cond, refl}
use Rattle.std.specs.Prelude.{Option, Some, None, IfSome}
use Rattle.std.specs.List.{list_any}
use Rattle.page_gate.specs.declared.fault.OpenFault as gate
use Rattle.page_gate.specs.declared.fault.OpenFault.TheVariants as gate_fault
use Rattle.store_image.specs.Stores.{refusal_on, is_of_content, RefusalsAreOfContents}
use Rattle.event_feed.specs.Meanings.{Slots}
use Rattle.session_desk.specs.declared.status.Status.TheVariants.{Fine, Refused, TooLong}
use Rattle.session_desk.specs.Statuses.{is_fault}
use Rattle.session_desk.specs.Session.{Answer, is_over}
use Rattle.session_desk.specs.Courses.{session, course_by, SessionsHaveNoFaults}

ended : (long refused : Bool) → is_fault (cond long TooLong (cond refused Refused Fine)) ≡ false
ended true refused = refl
ended false true = refl
ended false false = refl

by-verdict : (fault : Option gate.OpenFault) (c : List ℕ) (watchers : Slots) (input : List ℕ) → IfSome fault (λ f. is_of_content f ≡ true) → is_fault (course_by fault c watchers input).status ≡ false
by-verdict None c watchers input is = ended (is_over input) (list_any (λ (a : Answer). a.refused) (course_by None c watchers input).answers)
by-verdict (Some gate_fault.Blank) c watchers input is = refl
by-verdict (Some gate_fault.Foreign) c watchers input is = refl
by-verdict (Some (gate_fault.Damaged page offset)) c watchers input is = refl
by-verdict (Some gate_fault.SiteFault) c watchers input is = absurd (cc is)
by-verdict (Some gate_fault.Memory) c watchers input is = absurd (cc is)

pub sessions-have-no-faults : RefusalsAreOfContents → SessionsHaveNoFaults
unfolding session
sessions-have-no-faults refusals c watchers input = by-verdict (refusal_on c) c watchers input (refusals.openings c)
