-- What a record of a batch says, by its fields.
use Rattle.std.specs.Prelude.{ℕ, ◌==◌, if◌then◌else◌, List, [], ◌∷◌, length, Option, Some, None, Result, Ok, Err, codes}
use Rattle.std.specs.Str.{bytes_eq}
use Rattle.vec_record.specs.declared.change.Change.{Change}
use Rattle.vec_record.specs.declared.change.Change.TheVariants.{Insert, Delete}
use Rattle.vec_record.specs.declared.kind.MetricKind.{MetricKind}
use Rattle.batch_text.specs.Numbers.{number_of, within}
use Rattle.batch_text.specs.Vectors.{bytes_of, spelled}
use Rattle.batch_text.specs.declared.faults.LineFault.{LineFault}
use Rattle.batch_text.specs.declared.faults.LineFault.TheVariants.{Malformed, WrongLength}

-- the insertion of what the vector fields spell: malformed where they spell nothing, of wrong length where it is not dim coordinates or bits
abbrev pub insertion : MetricKind → ℕ → ℕ → Option (List ℕ) → Result Change LineFault
insertion metric dim n None = Err Malformed
insertion metric dim n (Some parts) = if length parts == dim then Ok (Insert n (bytes_of metric parts)) else Err WrongLength

-- the deletion of a number, which has no further field
abbrev pub deletion : ℕ → List (List ℕ) → Result Change LineFault
deletion n [] = Ok (Delete n)
deletion n (f ∷ fs) = Err Malformed

-- the change that a sign, a number and the fields behind them make
abbrev pub signed_change : MetricKind → ℕ → List ℕ → Option ℕ → List (List ℕ) → Result Change LineFault
signed_change metric dim sign None fs = Err Malformed
signed_change metric dim sign (Some n) fs =
    if bytes_eq sign (codes "+") then insertion metric dim n (spelled metric fs)
    else if bytes_eq sign (codes "-") then deletion n fs
    else Err Malformed

-- the change that a record is, or its fault
abbrev pub change_of : MetricKind → ℕ → List (List ℕ) → Result Change LineFault
change_of metric dim [] = Err Malformed
change_of metric dim (sign ∷ []) = Err Malformed
change_of metric dim (sign ∷ number ∷ fs) = signed_change metric dim sign (within 1 4294967295 (number_of number)) fs
