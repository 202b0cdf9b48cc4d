use Rattle.std.proofs.Common.{◌⊎◌, inl, inr, ◌<◌, ◌*◌, length, arith}
use Rattle.page_gate.proofs.Finding.{listed_bad, lists_of}
use Rattle.page_gate.proofs.opening.read_list.Goals as goal
use Rattle.page_gate.proofs.opening.read_list.Goals.{then-count-lt2-via-then-count-lt2, then-count-lt2-via-else-count-lt2+then-from-len}

pub returns-then-count-lt2-clause-told : goal.returns-then-count-lt2-clause-told
returns-then-count-lt2-clause-told g c = λ told.
    let read = c.in-Ok.ensures.told told in
    let bad : (c.in-Ok.count < 2) ⊎ (length (g.T.Site.state c.args.site.now).content < 16384 * c.in-Ok.count) = elim c.then-count-lt2.branch [
      | then-count-lt2-via-then-count-lt2 w ↦ inl w.if-count-lt2.true
      | then-count-lt2-via-else-count-lt2+then-from-len w ↦ inr (omega (arith, w.if-from-len.true, w.from.ensures, c.requires.len told))
    ] in
    record { stays = read.stays; list = listed_bad (g.T.Site.state c.args.site.now).content c.in-Ok.count (c.requires.long told) read.number_is bad }

pub returns-clause-told : goal.returns-clause-told
returns-clause-told g c = λ told.
    let read = c.in-Ok.ensures.told told in
    lists_of c.in-Ok.count c.load_list.result read.stays (c.load_list.ensures.told told) read.number_is (omega (arith, c.if-count-lt2.false)) (omega (arith, c.if-from-len.false, c.from.ensures, c.requires.len told))
