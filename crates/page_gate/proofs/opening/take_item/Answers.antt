use Rattle.std.proofs.Common.{◌≡◌, ◌∙◌, ◌+◌, ap, length, arith}
use Rattle.page_gate.specs.Gate.{part}
use Rattle.page_gate.proofs.Looking.{stays_on}
use Rattle.page_gate.proofs.Reading.{part_read}
use Rattle.page_gate.proofs.Taking.{taken}
use Rattle.page_gate.proofs.opening.take_item.Goals as goal

pub returns-clause-told : goal.returns-clause-told
returns-clause-told g c = λ told.
    let read = c.in_ok-number.ensures.told told in
    let room = c.requires.told told in
    let image : c.as_slice.result.now ≡ part (c.args.at + 8) 16384 (g.T.Site.state c.args.site.now).content =
    c.as_slice.ensures.same ∙ part_read (c.args.at + 8) 16384 c.fill_from.new.self (g.T.Site.state c.read_number.new.site).content c.fill_from.ensures.length (c.in_ok-fill_from.ensures.read told) (omega (arith, room, ap length read.stays.content))
    ∙ ap (part (c.args.at + 8) 16384) read.stays.content in
    taken c.args.at c.args.limit c.in_ok-number.number c.as_slice.result.now (g.met.T.Site.is_now c.args.site.now told) (stays_on read.stays (c.in_ok-fill_from.ensures.told told)) read.number_is image (c.write_image.ensures.told told)
