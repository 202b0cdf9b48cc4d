use Rattle.std.proofs.Common.{sym, subst}
use Rattle.page_gate.specs.Births.{IsBlank, Bare}
use Rattle.page_gate.proofs.Births.{leaves_look, leaves_sync}
use Rattle.page_gate.proofs.new_store.close_birth.Goals as goal

pub returns-clause-told : goal.returns-clause-told
returns-clause-told g c = λ told. leaves_sync IsBlank Bare (leaves_look IsBlank Bare (g.met.T.Site.is_now c.args.site.now told) (λ i left. subst IsBlank (sym ((c.requires told).only i left)) (c.requires told).blank)
    (c.in_ok-len.ensures.told told) (c.in_ok-clear_gate.ensures.told told)) (c.sync.ensures.told told)
