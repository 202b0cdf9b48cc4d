use Rattle.site_disk.proofs.Calls.{stay_at}
use Rattle.site_disk.proofs.mem_site.MemSiteSite.len.Goals as goal

pub returns-in_err-begin-clause-told : goal.returns-in_err-begin-clause-told
returns-in_err-begin-clause-told c = stay_at c.args.self.now _ c.self.view_is

pub returns-clause-told : goal.returns-clause-told
returns-clause-told c = stay_at c.args.self.now _ c.self.view_is
