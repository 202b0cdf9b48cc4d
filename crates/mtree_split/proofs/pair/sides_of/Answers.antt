use Rattle.std.proofs.Common.{length}
use Rattle.mtree_split.proofs.Turns.{false_front}
use Rattle.mtree_split.proofs.pair.sides_of.Goals as goal

pub take_turns-requires-clause-none_taken : goal.take_turns-requires-clause-none_taken
take_turns-requires-clause-none_taken c = false_front (length c.args.left_row.now) c.requires.at_most
