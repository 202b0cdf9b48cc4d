-- What a change may cost, by the costs of queries.
use Rattle.std.specs.Prelude.{ℕ, ◌+◌, List, [], sum_by, unwrap_or}
use Rattle.std.specs.FinMap as map
use Rattle.vec_record.specs.Held.{Held}

-- The cost of a query, by its centre and radius.
abbrev pub QueryCost : Type 0
QueryCost = List ℕ → ℕ → ℕ

-- The cost of a query at a record.
abbrev pub cost_at : QueryCost → Held → ℕ → ℕ → ℕ
cost_at cost records eps a = cost (unwrap_or (map.get records.vectors a) []) eps

-- The cost of one query at each of these records.
abbrev pub cost_of_all : QueryCost → Held → ℕ → List ℕ → ℕ
cost_of_all cost records eps asked = sum_by (cost_at cost records eps) asked

-- The price of an insertion of p: a query at p, one at each new core, and what the index takes. The
-- costs are those of the index after it.
abbrev pub insertion_price : QueryCost → Held → ℕ → ℕ → List ℕ → ℕ
insertion_price cost records eps p cores =
    cost_at cost records eps p + (cost_of_all cost records eps cores + 16384)
