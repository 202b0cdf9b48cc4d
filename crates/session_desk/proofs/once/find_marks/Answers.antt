use Rattle.std.proofs.Common.{◌≡◌, sym, subst}
use Rattle.std.specs.Prelude.{IfOk}
use Rattle.std.specs.FinMap as map
use Rattle.vec_record.specs.declared.kind.MetricKind.{MetricKind}
use Rattle.vec_record.specs.Distance.{distance_of}
use Rattle.plain_dbscan.specs.Marks.{density, marks_of}
use Rattle.session_desk.proofs.once.find_marks.Goals as goal

pub returns-in-L1 : goal.returns-in-L1
returns-in-L1 g c =
    let P : MetricKind → Type 0 = λ kind. IfOk c.cluster_plain.result (λ m. m ≡ marks_of (density (distance_of kind) c.args.params.now.eps c.args.params.now.minpts) (map.entries c.args.records.now.vectors)) in
    subst P (sym c.in-L1.is) c.cluster_plain.ensures.marks

pub returns-in-Max : goal.returns-in-Max
returns-in-Max g c =
    let P : MetricKind → Type 0 = λ kind. IfOk c.cluster_plain-in-Max.result (λ m. m ≡ marks_of (density (distance_of kind) c.args.params.now.eps c.args.params.now.minpts) (map.entries c.args.records.now.vectors)) in
    subst P (sym c.in-Max.is) c.cluster_plain-in-Max.ensures.marks

pub returns-in-Hamming : goal.returns-in-Hamming
returns-in-Hamming g c =
    let P : MetricKind → Type 0 = λ kind. IfOk c.cluster_plain-in-Hamming.result (λ m. m ≡ marks_of (density (distance_of kind) c.args.params.now.eps c.args.params.now.minpts) (map.entries c.args.records.now.vectors)) in
    subst P (sym c.in-Hamming.is) c.cluster_plain-in-Hamming.ensures.marks
