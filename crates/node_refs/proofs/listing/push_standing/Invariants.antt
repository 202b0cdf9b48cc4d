use Rattle.std.proofs.Common.{◌≡◌, take}
use Rattle.node_refs.specs.Listing.{join, standing_at}
use Rattle.node_refs.proofs.listing.push_standing.Given as goal

abbrev pub invariant-loop-reference : goal.invariant-loop-reference
invariant-loop-reference l = l.listed ≡ join l.fn.listed (standing_at l.pages (take l.reference-index l.refs))
