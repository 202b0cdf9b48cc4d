-- The numbers of the statuses, and which of them are faults.
use Rattle.std.specs.Prelude.{ℕ, Bool, true, false}
use Rattle.session_desk.specs.declared.status.Status.{Status}
use Rattle.session_desk.specs.declared.status.Status.TheVariants.{Fine, Refused, Words, SiteFault, SourceFault, Memory, Blank, Broken, TooLong, Exists, Differs}

abbrev pub status_number : Status → ℕ
status_number Fine = 0
status_number Refused = 1
status_number Words = 2
status_number SiteFault = 3
status_number SourceFault = 4
status_number Memory = 5
status_number Blank = 6
status_number Broken = 7
status_number TooLong = 8
status_number Exists = 9
status_number Differs = 10

-- Whether a status says that the outside failed or that memory was wanting.
abbrev pub is_fault : Status → Bool
is_fault Fine = false
is_fault Refused = false
is_fault Words = false
is_fault SiteFault = true
is_fault SourceFault = true
is_fault Memory = true
is_fault Blank = false
is_fault Broken = false
is_fault TooLong = false
is_fault Exists = false
is_fault Differs = false
