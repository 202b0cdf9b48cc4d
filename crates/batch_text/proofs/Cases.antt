-- What some bodies give, by computation.
use Rattle.std.proofs.Common.{◌≡◌, ◌∷◌, [], ◌++◌, codes, refl, Some, None}
use Rattle.csv.specs.Machine.{next_record}
use Rattle.csv.specs.Reading.{records_from, strip_bom}
use Rattle.vec_record.specs.declared.change.Change.TheVariants as change
use Rattle.vec_record.specs.declared.kind.MetricKind.TheVariants as metric
use Rattle.batch_text.specs.Records.{records_of}
use Rattle.batch_text.specs.Batch.{batch_of}
use Rattle.batch_text.specs.declared.faults.LineFault.TheVariants as fault

-- a quote in mid-field is a character
pub mid_quote : records_of (codes "+,1\"2\",3\n") ≡ (codes "+" ∷ codes "1\"2\"" ∷ codes "3" ∷ []) ∷ []
unfolding next_record records_from strip_bom
mid_quote = refl

-- two quotes in a quoted field are one character
pub doubled_quote : records_of (codes "+,\"1\"\"2\",3\n") ≡ (codes "+" ∷ codes "1\"2" ∷ codes "3" ∷ []) ∷ []
unfolding next_record records_from strip_bom
doubled_quote = refl

-- characters after a closing quote join the field
pub after_quote : records_of (codes "+,\"1\"2,3\n") ≡ (codes "+" ∷ codes "12" ∷ codes "3" ∷ []) ∷ []
unfolding next_record records_from strip_bom
after_quote = refl

-- a lone CR ends a record
pub lone_cr : records_of (codes "-,1\r-,2\n") ≡ (codes "-" ∷ codes "1" ∷ []) ∷ (codes "-" ∷ codes "2" ∷ []) ∷ []
unfolding next_record records_from strip_bom
lone_cr = refl

-- empty lines are no records
pub empty_lines : records_of (codes "\n\r\n\n-,1\n\n\n-,2\n\n") ≡ (codes "-" ∷ codes "1" ∷ []) ∷ (codes "-" ∷ codes "2" ∷ []) ∷ []
unfolding next_record records_from strip_bom
empty_lines = refl

-- an unclosed quote runs to the end of the body
pub unclosed : records_of (codes "-,\"1\n-,2\n") ≡ (codes "-" ∷ codes "1\n-,2\n" ∷ []) ∷ []
unfolding next_record records_from strip_bom
unclosed = refl

-- a byte order mark is passed over at the start, and nowhere else
pub mark : records_of (0xEF ∷ 0xBB ∷ 0xBF ∷ codes "-,1\n") ≡ (codes "-" ∷ codes "1" ∷ []) ∷ []
unfolding next_record records_from strip_bom
mark = refl

pub later_mark : records_of (codes "\n" ++ 0xEF ∷ 0xBB ∷ 0xBF ∷ codes "-,1\n") ≡ ((0xEF ∷ 0xBB ∷ 0xBF ∷ codes "-") ∷ codes "1" ∷ []) ∷ []
unfolding next_record records_from strip_bom
later_mark = refl

-- a number may have zeros before it, and a replaced record is two changes
pub replaced : batch_of metric.L1 2 (codes "-,7\n+,0000000007,1,255\n") ≡ record { changes = change.Delete 7 ∷ change.Insert 7 (1 ∷ 255 ∷ []) ∷ []; fault = None; total = 2 }
unfolding next_record records_from strip_bom
replaced = refl

-- a record that is malformed and has the wrong number of coordinates is malformed
pub big_field : batch_of metric.L1 1 (codes "+,1,1,256\n") ≡ record { changes = []; fault = Some fault.Malformed; total = 1 }
unfolding next_record records_from strip_bom
big_field = refl

-- an insertion without a vector is of wrong length, and what comes after a fault only counts
pub no_vector : batch_of metric.Max 1 (codes "-,3\n+,1\n*\n") ≡ record { changes = change.Delete 3 ∷ []; fault = Some fault.WrongLength; total = 3 }
unfolding next_record records_from strip_bom
no_vector = refl

-- the bits of all fields, joined, eight in a byte
pub bits : batch_of metric.Hamming 9 (codes "+,2,0000,00001\n+,3,110000000\n") ≡ record { changes = change.Insert 2 (0 ∷ 128 ∷ []) ∷ change.Insert 3 (192 ∷ 0 ∷ []) ∷ []; fault = None; total = 2 }
unfolding next_record records_from strip_bom
bits = refl
