use Rattle.std.proofs.Common.{◌≡◌, subst, sym}
use lib.Dec.{T}
use Rattle.std.specs.Ordering.{nat_cmp}
use Rattle.std.specs.FinMap as map
use Rattle.std.specs.FinMap.Entries.{is_sorted}
use Rattle.vec_record.specs.Held.{Rows}
use Rattle.plain_dbscan.specs.Cases.{Listed}
use Rattle.plain_dbscan.specs.Marks.{Density, density, marks_of}
use Rattle.plain_dbscan.proofs.MarksRise.{marks_rise}
use Rattle.change_tests.proofs.tests.house.is_plain.Goals as goal

-- the marks of records rise
risen : (d : Density) (rows : Rows) (marks : Listed) → marks ≡ marks_of d (map.entries rows) → T (is_sorted nat_cmp marks)
risen d rows marks is =
    let P : Listed → Type 0 = λ l. T (is_sorted nat_cmp l) in
    subst P (sym is) (marks_rise d (map.entries rows) (map.entries_sorted rows))

pub cases_plain-requires-clause-rising_after : goal.cases_plain-requires-clause-rising_after
cases_plain-requires-clause-rising_after g c =
    risen (density g.M.Metric.dist c.args.setting.eps c.args.setting.minpts) c.args.house.now.records.vectors _ c.in_ok-marks.ensures.marks

pub returns-then-has_marks : goal.returns-then-has_marks
returns-then-has_marks g c =
    risen (density g.M.Metric.dist c.args.setting.eps c.args.setting.minpts) c.args.house.now.records.vectors _ c.in_ok-marks.ensures.marks

pub returns-else-has_marks : goal.returns-else-has_marks
returns-else-has_marks g c =
    risen (density g.M.Metric.dist c.args.setting.eps c.args.setting.minpts) c.args.house.now.records.vectors _ c.in_ok-marks.ensures.marks
