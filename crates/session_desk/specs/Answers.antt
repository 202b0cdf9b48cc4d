-- What a run has to say, and how it ends once it is said, as a function of the words and the whole input.
use Rattle.std.specs.Prelude.{◌≡◌, ℕ, ◌++◌, nat_le, if◌then◌else◌, List, length, Option, Some, None, Result, Ok, Err, codes}
use Rattle.std.specs.Fmt.{decimal}
use Rattle.std.specs.FinMap as map
use Rattle.vec_record.specs.declared.params.Params.{Params}
use Rattle.vec_record.specs.Distance.{distance_of}
use Rattle.vec_record.specs.Held.{Rows}
use Rattle.plain_dbscan.specs.Marks.{density, marks_of}
use Rattle.plain_dbscan.specs.Texts.{report_text}
use Rattle.session_desk.specs.declared.status.Status as status
use Rattle.session_desk.specs.declared.status.Status.TheVariants.{Fine, Refused, Words, TooLong}
use Rattle.session_desk.specs.declared.input.Refusal.{Refusal}
use Rattle.session_desk.specs.declared.input.Refusal.TheVariants.{LongLine, TooManyRecords, Malformed, WrongLength, Repeated, Unknown, Full}
use Rattle.session_desk.specs.Words.{Setting, setting}
use Rattle.session_desk.specs.Input.{rows_of}

pub record Due : Type 0 where
  pub status : status.Status
  pub text : List ℕ

-- a status and a text are those that are due
pub record IsDue (status : status.Status) (text : List ℕ) (d : Due) : Type 0 where
  pub same_status : status ≡ d.status
  pub same_text : text ≡ d.text

abbrev pub due : status.Status → List ℕ → Due
due s t = record { status = s; text = t }

abbrev pub usage_text : List ℕ
usage_text = codes "usage: once METRIC DIM EPS MINPTS, init METRIC DIM EPS MINPTS CAP, serve, check, trial SEED COUNT\n"

-- the number of a refusal
abbrev pub refusal_number : Refusal → ℕ
refusal_number LongLine = 18
refusal_number TooManyRecords = 16
refusal_number (Malformed place) = 11
refusal_number (WrongLength place) = 12
refusal_number (Repeated place) = 13
refusal_number (Unknown place) = 14
refusal_number (Full place) = 15

-- the place of the record that a refusal is of
abbrev pub refusal_place : Refusal → Option ℕ
refusal_place LongLine = None
refusal_place TooManyRecords = None
refusal_place (Malformed place) = Some place
refusal_place (WrongLength place) = Some place
refusal_place (Repeated place) = Some place
refusal_place (Unknown place) = Some place
refusal_place (Full place) = Some place

-- `refused K`, or `refused K at P` for a record
abbrev pub refusal_line : ℕ → Option ℕ → List ℕ
refusal_line number None = codes "refused " ++ (decimal number ++ codes "\n")
refusal_line number (Some place) = codes "refused " ++ (decimal number ++ (codes " at " ++ (decimal place ++ codes "\n")))

abbrev pub refusal_text : Refusal → List ℕ
refusal_text r = refusal_line (refusal_number r) (refusal_place r)

-- the report on the records, or the refusal
abbrev pub report_on : Setting → Result Rows Refusal → Due
report_on s (Ok rows) = due Fine (report_text (marks_of (density (distance_of s.metric) s.eps s.minpts) (map.entries rows)))
report_on s (Err r) = due Refused (refusal_text r)

-- the most bytes of an input
abbrev pub input_limit : ℕ
input_limit = 67108864

-- the answer to an input
abbrev pub answer_to : Setting → List ℕ → Due
answer_to s input = if nat_le (length input) input_limit then report_on s (rows_of s.metric s.dim input) else due TooLong (codes "session too long\n")

-- the answer to an input under parameters
abbrev pub answer_under : Params → List ℕ → Due
answer_under p input = answer_to (setting p.metric p.dim p.eps p.minpts) input

-- The words are judged first, then the length of the input, then its records.
abbrev pub answer_of : Option Setting → List ℕ → Due
answer_of None input = due Words usage_text
answer_of (Some s) input = answer_to s input
