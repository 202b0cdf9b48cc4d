-- What an insertion leaves, and what it may cost.
use Rattle.std.specs.Prelude.{◌≡◌, ◌≢◌, ℕ, ◌+◌, ◌<◌, ◌≤◌, List, None, length}
use Rattle.std.specs.FinMap as map
use Rattle.vec_record.specs.Held.{Held}
use Rattle.plain_dbscan.specs.Marks.{Density}
use Rattle.plain_dbscan.specs.Asked.{new_cores}
use Rattle.update_seed.specs.Price.{QueryCost, insertion_price}

-- The records with one more.
abbrev pub with_record : Held → ℕ → List ℕ → Held
with_record records number v =
    record records { vectors = map.insert records.vectors number v }

-- A record that may be added: an absent number that isn't 0, a vector of the width, and room.
pub record IsAddable (records : Held) (number : ℕ) (v : List ℕ) : Type 0 where
  pub some : number ≢ 0
  pub absent : map.get records.vectors number ≡ None
  pub width : length v ≡ records.width
  pub room : map.len records.vectors < 200000

-- What was counted is at most the price of the record's insertion, by the costs of the index after
-- it.
abbrev pub IsPaid : Density → QueryCost → Held → ℕ → List ℕ → ℕ → ℕ → Type 0
IsPaid d cost old number v before after =
    let new = with_record old number v in
    let cores = new_cores d (map.entries old.vectors) (map.entries new.vectors) in
    after ≤ before + insertion_price cost new d.eps number cores
