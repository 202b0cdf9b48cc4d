use Rattle.std.proofs.Common.{◌∙◌, ap}
use Rattle.label_book.specs.Labels.{cluster_count}
use Rattle.label_book.proofs.Counting.{clusters_counted}
use Rattle.label_book.proofs.book.LabelBook.clusters.Goals as goal

pub returns : goal.returns
returns c = c.len.ensures ∙ (clusters_counted c.self.inside.places c.self.inside.clusters c.self.invariant ∙ ap cluster_count c.self.view_is)
