use Rattle.node_walks.proofs.Walks.{walks_are_alike, failures_are_alike}
use Rattle.node_walks.proofs.Trees.{trees_are_alike}
use Rattle.node_walks.proofs.laws.distances_are_alike.Goals as goal

pub returns-clause-walks : goal.returns-clause-walks
returns-clause-walks c = walks_are_alike

pub returns-clause-failures : goal.returns-clause-failures
returns-clause-failures c = failures_are_alike

pub returns-clause-trees : goal.returns-clause-trees
returns-clause-trees c = trees_are_alike
