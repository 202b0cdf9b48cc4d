use Rattle.std.proofs.Common.{subst}
use Rattle.vec_record.specs.Vectors.{AreBytes}
use Rattle.site_disk.proofs.Writing.{fresh_is}
use Rattle.site_disk.proofs.mem_site.MemSite.new.Goals as goal

pub invariant_of-result : goal.invariant_of-result
invariant_of-result c = fresh_is c.args.content c.new-2.result.items c.new.result.items (subst AreBytes c.as_slice.ensures c.are_bytes.ensures) c.new-2.ensures.items c.new.ensures.items
