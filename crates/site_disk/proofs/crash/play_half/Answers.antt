use Rattle.std.proofs.Common.{◌≡◌, ℕ, List, sym, ◌∙◌, ap, subst}
use Rattle.std.specs.Prelude.{OnOk}
use Rattle.std.proofs.lemmas.Result.{on_ok_weaker}
use Rattle.vec_record.specs.Vectors.{AreBytes}
use Rattle.site_disk.specs.declared.mem_site.Call.{Call}
use Rattle.site_disk.specs.Disk.{put}
use Rattle.site_disk.specs.ByteLists.{as_bytes_same}
use Rattle.site_disk.specs.Picks.{half, after_half}
use Rattle.site_disk.proofs.crash.play_half.Goals as goal

pub returns-in_ok-part-in-Write : goal.returns-in_ok-part-in-Write
returns-in_ok-part-in-Write c =
    let part : c.deref.result.now ≡ half c.as_slice-in-Write.result.now = c.deref.ensures.value ∙ c.in_ok-part-in-Write.ensures in
    let bytes : c.as_slice-in-Write.result.now ≡ c.in-Write.bytes = c.as_slice-in-Write.ensures in
    let same = as_bytes_same c.in-Write.bytes (subst AreBytes c.as_slice.ensures c.are_bytes.ensures) in
    subst (λ (k : Call). OnOk c.put_in.result (c.put_in.new.file.items ≡ after_half k c.args.file.now.items)) (sym c.in-Write.is)
    (on_ok_weaker c.put_in.result (λ is. is ∙ ap (λ (l : List ℕ). put c.in-Write.at l c.args.file.now.items) (part ∙ ap half (bytes ∙ sym same))) c.put_in.ensures.ok)
