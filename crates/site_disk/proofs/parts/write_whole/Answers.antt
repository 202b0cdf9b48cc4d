use Rattle.std.proofs.Common.{◌∙◌, arith, length-drop}
use Rattle.site_disk.proofs.Portions.{put_next}
use Rattle.site_disk.proofs.parts.write_whole.Goals.{in-Ok, in-Err}
use Rattle.site_disk.proofs.parts.write_whole.Goals as goal

pub parts-preserved : goal.parts-preserved
parts-preserved g c = elim c.match-write_part.branch [
  | in-Ok w ↦ record {
    within = omega (arith, w.taken-is, w.in-Ok.ensures.bound, c.parts.invariant.within, length-drop c.parts.taken c.args.bytes.now);
    told = λ t. rw w.taken-is (put_next c.args.at c.parts.taken w.in-Ok.amount c.args.bytes.now (g.D.TakesParts.held c.args.device.now) (g.D.TakesParts.held c.parts.device) (g.D.TakesParts.held c.write_part.new.self) c.parts.invariant.within (c.parts.invariant.told t) (w.in-Ok.ensures.told t));
  }
  | in-Err w ↦ record {
    within = omega (arith, w.taken-is, c.parts.invariant.within);
    told = λ t. rw w.taken-is (w.in-Err.ensures.told t ∙ c.parts.invariant.told t);
  }
]
