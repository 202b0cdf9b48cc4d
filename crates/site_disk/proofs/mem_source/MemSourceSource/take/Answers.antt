use Rattle.std.proofs.Common.{◌≡◌, ◌-◌, ◌∙◌, ap, arith, length, take, drop}
use Rattle.std.proofs.lemmas.List.{take_rest}
use Rattle.site_disk.proofs.Pieces.{gives}
use Rattle.site_disk.proofs.mem_source.MemSourceSource.take.Goals as goal

pub returns-clause-told : goal.returns-clause-told
returns-clause-told c =
    let all = c.as_slice-2.result.now in
    let rest : take (length all - c.self.inside.at) (drop c.self.inside.at all) ≡ drop c.self.inside.at c.self.inside.bytes = take_rest all c.self.inside.at ∙ ap (drop c.self.inside.at) c.as_slice-2.ensures in
    rw (← c.self.view_is) (gives c.copy_piece-amount.result c.self.inside.piece c.self.inside.at c.self.inside.bytes c.copy_piece-amount.new.into
    (omega (arith, c.copy_piece-amount.ensures.amount, ap length rest, c.copy_piece-amount.auto.into))
    (c.copy_piece-amount.ensures.bytes ∙ ap (take c.copy_piece-amount.result) rest)
    c.self.invariant.1)
