use Rattle.std.proofs.Common.{refl}
use Rattle.cluster_report.proofs.laws.counts_are_the_summary.Goals as goal

pub returns : goal.returns
returns c = λ marks. refl
