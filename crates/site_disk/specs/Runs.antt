-- Lists of calls on a site.
use Rattle.std.specs.Prelude.{List, [], ◌∷◌}
use Rattle.site_disk.specs.State.{SiteState, Joins}

-- the site after the calls
abbrev pub at_end : {T : Type 0} → T → List T → T
at_end first [] = first
at_end first (next ∷ rest) = at_end next rest

-- moments join through each call
abbrev pub EachJoins : {T : Type 0} → (T → SiteState) → T → List T → Type 0
EachJoins state first [] = Unit {0}
EachJoins state first (next ∷ rest) = Joins (state first) (state next) × EachJoins state next rest
