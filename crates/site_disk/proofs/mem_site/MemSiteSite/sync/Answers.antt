use Rattle.std.proofs.Common.{reverse}
use Rattle.site_disk.proofs.Calls.{no_sync_at, sync_at}
use Rattle.site_disk.proofs.mem_site.MemSiteSite.sync.Goals as goal

pub returns-in_err-begin-clause-told : goal.returns-in_err-begin-clause-told
returns-in_err-begin-clause-told c = no_sync_at c.args.self.now _ c.self.view_is c.from_residual.result c.from_residual.ensures.0

pub returns-clause-told : goal.returns-clause-told
returns-clause-told c = sync_at c.args.self.now _ c.self.view_is (reverse c.keep-done.new.calls.items) c.keep-done.result c.count.result c.keep-done.ensures.ok c.keep-done.ensures.err c.count.ensures.good c.count.ensures.bad
