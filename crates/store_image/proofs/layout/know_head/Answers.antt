use Rattle.std.proofs.Common.{⊎_elim, ◌<◌, [], length, sym, ◌∙◌, ap, subst, arith}
use Rattle.std.proofs.lemmas.List.{get_or_past}
use Rattle.vec_record.specs.Vectors.{AreBytes}
use Rattle.page_layout.specs.Heads.{plain, head_of}
use Rattle.page_layout.specs.Laws.{IsPage}
use Rattle.store_image.proofs.PlanLayout.{no_head, head_read_is, head_lawful}
use Rattle.store_image.proofs.layout.know_head.Goals as goal

pub returns-in-Some : goal.returns-in-Some
returns-in-Some c =
    let list = c.args.pages.now.list in
    let page = c.in-Some.page.now in
    let is : IsPage page = record { len = c.as_slice.ensures.length; bytes = subst AreBytes c.as_slice.ensures.same c.know_bytes.ensures } in
    head_lawful c.heads_have_one_spelling.ensures list (plain c.args.head.now) (subst IsPage c.in-Some.ensures.2 is) c.requires

pub returns-in_default : goal.returns-in_default
returns-in_default c =
    let list = c.args.pages.now.list in
    let none : length list < 1 = ⊎_elim (λ is. absurd (omega (arith, is))) (λ few. few) c.in_default.ensures in
    absurd (no_head (plain c.args.head.now) (ap head_of (sym (get_or_past list 0 [] (omega (arith, none)))) ∙ head_read_is list (plain c.args.head.now) c.requires))
