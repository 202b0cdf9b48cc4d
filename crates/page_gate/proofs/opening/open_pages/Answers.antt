use Rattle.page_gate.proofs.Finding.{sound_gate}
use Rattle.page_gate.proofs.opening.open_pages.Goals as goal

pub settle_gate-requires-clause-sound : goal.settle_gate-requires-clause-sound
settle_gate-requires-clause-sound g c = sound_gate c.in-Ok-look.len c.as_slice.result.now c.gate_of-gate.result c.gate_of-gate.ensures c.in-Ok-look.ensures.bound
