use Rattle.std.proofs.Common.{◌∙◌, ap}
use Rattle.site_disk.specs.Disk.{put}
use Rattle.site_disk.proofs.Moments.{after_sync}
use Rattle.site_disk.proofs.Written.{first, between, second, images, says}
use Rattle.site_disk.proofs.callers.write_twice.Goals as goal

pub returns-clause-told : goal.returns-clause-told
returns-clause-told g c = λ told.
    let a = g.T.Site.state c.args.site.now in
    let law = g.met.T.Site.is_now c.args.site.now told in
    let after_first = g.met.T.Site.is_now c.sync.new.self told in
    let w1 = c.write_at.ensures.told told in
    let s1 = c.sync.ensures.told told in
    let w2 = c.write_at-2.ensures.told told in
    let say = c.say.ensures.told told in
    let settled = c.requires.settled told in
    let here = between c.args.at c.args.bytes.now c.args.next c.args.more.now c.args.line.now a law settled after_first (c.in_ok-write_at.ensures.told told) (c.in_ok-sync.ensures.told told) in
    let begun = after_sync (first c.args.at c.args.bytes.now c.args.next c.args.more.now c.args.line.now a law settled w1) s1 in
    let written = second c.args.at c.args.bytes.now c.args.next c.args.more.now c.args.line.now a law settled begun here w2 in
    says c.args.at c.args.bytes.now c.args.next c.args.more.now c.args.line.now a law settled written (w2.said ∙ here.said) (images c.args.at c.args.bytes.now c.args.next c.args.more.now c.args.line.now a law settled here w2) ((c.in_ok-write_at-2.ensures.told told).content ∙ ap (put c.args.next c.args.more.now) here.content) say
