-- The records of a body.
use Rattle.std.specs.Prelude.{ℕ, List}
use Rattle.csv.specs.Reading.{default_config, records, strip_bom}

-- the records that the csv crate's own definition gives of the whole body: no header row, any lengths, without a byte order mark at the start
abbrev pub records_of : List ℕ → List (List (List ℕ))
records_of body = records default_config (strip_bom body)
