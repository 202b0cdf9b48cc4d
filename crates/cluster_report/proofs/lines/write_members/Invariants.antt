use Rattle.std.proofs.Common.{◌≡◌, ◌++◌, take, ℕ}
use Rattle.std.specs.List.{flat_map}
use Rattle.std.specs.String.{string_bytes}
use Rattle.plain_dbscan.specs.declared.marks.Mark.{Mark}
use Rattle.cluster_report.specs.Texts.{member_text}
use Rattle.cluster_report.proofs.lines.write_members.Given as goal

abbrev pub invariant-loop-number : goal.invariant-loop-number
invariant-loop-number l =
    string_bytes l.text ≡ string_bytes l.fn.text ++ flat_map (λ (m : ℕ × Mark). member_text m.0 m.1) (take l.number-index l.members)
