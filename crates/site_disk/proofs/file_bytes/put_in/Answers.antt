use Rattle.std.proofs.Common.{rules, arith, ◌≡◌, ◌+◌, ◌<◌, ◌∙◌, length, ap, ℕ, ◌++◌, ◌-◌, drop}
use Rattle.std.proofs.lemmas.List.{take_at}
use Rattle.site_disk.specs.Disk.{zeros}
use Rattle.site_disk.proofs.Writing.{laid_over}
use Rattle.site_disk.proofs.file_bytes.put_in.Goals as goal

pub returns-clause-ok : goal.returns-clause-ok
returns-clause-ok c =
    let ends : c.in-Some.end ≡ c.args.at + length c.args.bytes.now = search rules in
    let some : 0 < length c.args.bytes.now = search rules in
    let whole : length c.lay_over.new.file ≡ c.widen.new.file.len = omega arith in
    take_at c.lay_over.new.file (drop (length c.lay_over.new.file) c.widen.new.file.items) c.widen.new.file.len whole
    ∙ c.lay_over.ensures
    ∙ laid_over c.args.at c.args.bytes.now c.args.file.now.items c.deref_mut.result.now some
    (c.deref_mut.ensures.value ∙ c.in_ok-widen.ensures.ok ∙ ap (λ (k : ℕ). c.args.file.now.items ++ zeros (k - length c.args.file.now.items)) ends)
