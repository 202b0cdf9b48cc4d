-- What a tally says, by its counts.
use Rattle.std.specs.Prelude.{ℕ, ◌+◌, List, [], ◌∷◌, min}
use Rattle.vec_record.specs.declared.event.Kind.{Kind}
use Rattle.vec_record.specs.declared.event.Kind.TheVariants.{Noise, Created, Absorbed, Merged, Removed, Reduced, Split}
use Rattle.vec_record.specs.declared.event.Event.{Event}
use Rattle.event_feed.specs.declared.tally.Tally.{Tally}
use Rattle.event_feed.specs.Texts.{count_limit, tally_line}

-- the count of a kind
abbrev pub count_in : Tally → Kind → ℕ
count_in t Noise = t.noise
count_in t Created = t.created
count_in t Absorbed = t.absorbed
count_in t Merged = t.merged
count_in t Removed = t.removed
count_in t Reduced = t.reduced
count_in t Split = t.split

-- the tally with one more of a kind
abbrev pub one_more_of : Kind → Tally → Tally
one_more_of Noise t = record t { noise = min (t.noise + 1) count_limit }
one_more_of Created t = record t { created = min (t.created + 1) count_limit }
one_more_of Absorbed t = record t { absorbed = min (t.absorbed + 1) count_limit }
one_more_of Merged t = record t { merged = min (t.merged + 1) count_limit }
one_more_of Removed t = record t { removed = min (t.removed + 1) count_limit }
one_more_of Reduced t = record t { reduced = min (t.reduced + 1) count_limit }
one_more_of Split t = record t { split = min (t.split + 1) count_limit }

-- the tally after further events
abbrev pub tally_after : Tally → List Event → Tally
tally_after t [] = t
tally_after t (e ∷ more) = tally_after (one_more_of e.kind t) more

-- what a tally says after further events
abbrev pub tally_says : Tally → List Event → List ℕ
tally_says t more = tally_line (count_in (tally_after t more))
