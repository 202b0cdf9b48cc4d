-- What a change asks about, and how many distances that may take.
use Rattle.std.specs.Prelude.{ℕ, ◌+◌, ◌*◌, max, Bool, false, not, ◌&&◌, ◌||◌, ◌==◌, List, length, filter, Option, Some, None}
use Rattle.std.specs.List.{list_any}
use Rattle.plain_dbscan.specs.Marks.{Density, Entries, numbers_of, is_core, cluster_of, anchor_of}

-- Whether a record is core after a change and wasn't before it.
abbrev pub is_new_core : Density → Entries → Entries → ℕ → Bool
is_new_core d before after a = is_core d after a && not (is_core d before a)

-- The new cores of a change, rising.
abbrev pub new_cores : Density → Entries → Entries → List ℕ
new_cores d before after = filter (is_new_core d before after) (numbers_of after)

-- The lost cores of a change, rising: those that would be new if it were undone.
abbrev pub lost_cores : Density → Entries → Entries → List ℕ
lost_cores d before after = new_cores d after before

-- An insertion of p asks about p and the new cores.
abbrev pub asked_of_insertion : Density → Entries → Entries → ℕ → List ℕ
asked_of_insertion d before after p =
    filter (λ a. a == p || is_new_core d before after a) (numbers_of after)

-- Whether an anchor is a core that is lost.
abbrev pub is_lost_anchor : Density → Entries → Option ℕ → Bool
is_lost_anchor d after None = false
is_lost_anchor d after (Some b) = not (is_core d after b)

-- Whether a core that stays had the label of a lost one.
abbrev pub was_with_lost : Density → Entries → Entries → ℕ → Bool
was_with_lost d before after a =
    is_core d after a
    && list_any (λ b. cluster_of d before a == cluster_of d before b) (lost_cores d before after)

-- Whether a record is a lost core, has a lost anchor, or stays a core of a cluster that lost one.
abbrev pub is_shaken : Density → Entries → Entries → ℕ → Bool
is_shaken d before after a =
    is_new_core d after before a
    || (is_lost_anchor d after (anchor_of d before a) || was_with_lost d before after a)

-- A deletion of p asks about p and these records.
abbrev pub asked_of_deletion : Density → Entries → Entries → ℕ → List ℕ
asked_of_deletion d before after p =
    filter (λ a. a == p || is_shaken d before after a) (numbers_of before)

-- How many distances a change may take that asks about these records.
abbrev pub work : List ℕ → Entries → Entries → ℕ
work asked before after = (1 + length asked) * 2 * max (length before) (length after) + 16384
