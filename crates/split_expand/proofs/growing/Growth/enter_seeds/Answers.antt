use Rattle.std.proofs.Common.{◌≡◌, ◌<◌, ℕ, List, length, get_or, ap, subst, ◌∙◌, arith}
use Rattle.split_expand.specs.inside.Growing.{IsMet}
use Rattle.split_expand.proofs.Meeting.{met_more}
use Rattle.split_expand.proofs.growing.Growth.enter_seeds.Goals as goal

pub loop-i-preserved : goal.loop-i-preserved
loop-i-preserved c =
    let g = c.args.self.now in
    let inv = c.loop-i.invariant in
    let i = c.loop-i.i in
    let here : c.as_slice.result.now ≡ g.near = c.as_slice.ensures ∙ inv.near in
    let at : get_or c.as_slice.result.now i 0 ≡ get_or g.near i 0 = ap (λ (xs : List ℕ). get_or xs i 0) here in
    let low : i < length g.near = omega (arith, c.loop-i-test.true, c.len-i-end.ensures) in
    let e = c.in_ok-meet.ensures in
    record {
      sound = e.sound;
      met = met_more g c.loop-i.self c.meet.new.self i low inv.met inv.members inv.seeds (subst (IsMet c.loop-i.self c.meet.new.self) at e.met);
      members = e.members ∙ inv.members;
      seeds = e.seeds ∙ inv.seeds;
      asked = e.asked ∙ inv.asked;
      near = e.near ∙ inv.near;
    }
