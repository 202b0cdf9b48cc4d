use Rattle.std.proofs.Common.{arith, reverse}
use Rattle.site_disk.specs.ByteLists.{bytes_by_index}
use Rattle.site_disk.specs.Memory.{held}
use Rattle.site_disk.proofs.Writing.{write_is}
use Rattle.site_disk.proofs.Calls.{no_write_at, write_at_at}
use Rattle.site_disk.proofs.mem_site.MemSiteSite.write_at.Goals as goal

pub returns-in_err-begin-clause-told : goal.returns-in_err-begin-clause-told
returns-in_err-begin-clause-told c = no_write_at c.args.self.now _ c.self.view_is c.from_residual.result c.from_residual.ensures.0 c.args.at c.args.bytes.now

pub invariant_of-self-2 : goal.invariant_of-self-2
invariant_of-self-2 c = rw (← c.as_slice-2.ensures) (write_is c.as_slice-2.result.now (reverse c.self.inside.calls.items) (reverse c.write_in-done.new.calls.items) (held c.as_slice-2.result.now c.self.inside.written) (held c.as_slice-2.result.now c.write_in-done.new.written) c.self.inside.said.items c.args.at c.args.bytes.now c.write_in-done.result
    (rw c.as_slice-2.ensures c.self.invariant) (bytes_by_index c.args.bytes.now (λ i. omega (arith, c.type_inv.bytes i)))
    c.write_in-done.ensures.ok c.write_in-done.ensures.err c.write_in-done.ensures.changed c.write_in-done.ensures.stays)

pub returns-clause-told : goal.returns-clause-told
returns-clause-told c = write_at_at c.args.self.now _ c.self.view_is c.args.at c.args.bytes.now (bytes_by_index c.args.bytes.now (λ i. omega (arith, c.type_inv.bytes i))) (reverse c.write_in-done.new.calls.items) c.write_in-done.result c.count.result c.write_in-done.ensures.ok c.write_in-done.ensures.err c.count.ensures.good c.count.ensures.bad
