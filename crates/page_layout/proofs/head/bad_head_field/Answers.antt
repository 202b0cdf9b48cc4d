use Rattle.std.proofs.Common.{◌≡◌, List, [], leb, refl}
use Rattle.page_layout.specs.Fields.{Field}
use Rattle.page_layout.proofs.HeadLaws.{nine, fields_with, nine_bad, nine_lawful}
use Rattle.page_layout.proofs.head.bad_head_field.Goals as goal

pub returns-in-Some : goal.returns-in-Some
returns-in-Some c =
    let fields : List Field = nine (leb 2 c.word_at.result) c.is_between.result c.is_between-2.result c.is_between-3.result c.is_between-4.result c.is_between-5.result (leb c.word_at-count.result c.word_at-cap.result) c.is_root.result c.is_height.result [] in
    let are : fields ≡ fields_with c.args.page.now [] =
    rw (c.is_between.ensures, c.is_between-2.ensures, c.is_between-3.ensures, c.is_between-4.ensures, c.is_between-5.ensures, c.dim_limit.ensures, c.is_root.ensures, c.is_height.ensures, c.word_at.ensures, c.word_at-metric.ensures, c.word_at-cap.ensures, c.word_at-count.ensures, c.word_at-2.ensures, c.word_at-3.ensures, c.word_at-4.ensures, c.word_at-5.ensures, c.word_at-6.ensures) refl in
    nine_bad c.args.page.now fields c.in-Some.offset are c.in-Some.ensures

pub returns-in-None : goal.returns-in-None
returns-in-None c =
    let fields : List Field = nine (leb 2 c.word_at.result) c.is_between.result c.is_between-2.result c.is_between-3.result c.is_between-4.result c.is_between-5.result (leb c.word_at-count.result c.word_at-cap.result) c.is_root.result c.is_height.result [] in
    let are : fields ≡ fields_with c.args.page.now [] =
    rw (c.is_between.ensures, c.is_between-2.ensures, c.is_between-3.ensures, c.is_between-4.ensures, c.is_between-5.ensures, c.dim_limit.ensures, c.is_root.ensures, c.is_height.ensures, c.word_at.ensures, c.word_at-metric.ensures, c.word_at-cap.ensures, c.word_at-count.ensures, c.word_at-2.ensures, c.word_at-3.ensures, c.word_at-4.ensures, c.word_at-5.ensures, c.word_at-6.ensures) refl in
    nine_lawful c.args.page.now fields c.first_set.result are c.in-None.ensures c.first_set.ensures
