use Rattle.std.proofs.Common.{reverse}
use Rattle.site_disk.proofs.Calls.{no_say_at, say_at}
use Rattle.site_disk.proofs.mem_site.MemSiteSite.say.Goals as goal

pub returns-in_err-begin-clause-told : goal.returns-in_err-begin-clause-told
returns-in_err-begin-clause-told c = no_say_at c.args.self.now _ c.self.view_is c.from_residual.result c.from_residual.ensures.0 c.args.bytes.now

pub returns-clause-told : goal.returns-clause-told
returns-clause-told c = say_at c.args.self.now _ c.self.view_is c.args.bytes.now (reverse c.say_in-done.new.calls.items) c.say_in-done.result c.count.result c.say_in-done.ensures.ok c.say_in-done.ensures.err c.count.ensures.good c.count.ensures.bad
