use Rattle.std.proofs.Common.{reverse}
use Rattle.site_disk.proofs.Picks.{one_of}
use Rattle.site_disk.proofs.mem_site.MemSite.crash_image.Goals as goal

pub returns-clause-image : goal.returns-clause-image
returns-clause-image c = rw (← c.self.view_is, ← c.as_slice-2.ensures, ← c.deref.ensures.value)
    (one_of c.as_slice-2.result.now (reverse c.deref.result.now) c.args.pick c.picked.result c.picked.ensures.none c.picked.ensures.all c.picked.ensures.halves c.picked.ensures.cut)
