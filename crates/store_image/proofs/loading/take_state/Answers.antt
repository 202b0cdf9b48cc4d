use Rattle.std.proofs.Common.{Ok, sym, ◌∙◌, ap, subst, arith}
use Rattle.std.proofs.lemmas.Result.{err_from_is_err_and}
use Rattle.page_layout.specs.Heads.{plain}
use Rattle.store_image.specs.Placing.{IsKept}
use Rattle.store_image.proofs.LoadChecks.{remaining_uncounted, remaining_loose, remaining_treeless, remaining_passes, kept_is, state_image}
use Rattle.store_image.proofs.LoadFacts.{kept_of}
use Rattle.store_image.proofs.loading.take_state.Goals as goal

pub returns-then-len-head-clause-loaded : goal.returns-then-len-head-clause-loaded
returns-then-len-head-clause-loaded g c =
    remaining_uncounted (plain c.args.head) c.args.parts (λ is. c.if-len-head.true (omega (arith, c.len.ensures, c.args.parts.lines.ok.0, is)))

pub tree_of-requires-clause-count : goal.tree_of-requires-clause-count
tree_of-requires-clause-count g c = omega (arith, c.requires.parts.tied.count, c.len.ensures, c.args.parts.lines.ok.0, c.if-len-head.false)

pub returns-in_err-books-clause-loaded : goal.returns-in_err-books-clause-loaded
returns-in_err-books-clause-loaded g c =
    let p = err_from_is_err_and c.from_residual.result c.from_residual.ensures.1 in
    rw (p.1, p.2) (remaining_loose (plain c.args.head) c.args.parts c.in_err-books.field-0.0 (omega (arith, c.len.ensures, c.args.parts.lines.ok.0, c.if-len-head.false)) c.in_err-books.ensures.err)

pub returns-in_err-tree-clause-loaded : goal.returns-in_err-tree-clause-loaded
returns-in_err-tree-clause-loaded g c =
    let p = err_from_is_err_and c.from_residual-in_err-tree.result c.from_residual-in_err-tree.ensures.1 in
    rw (p.1, p.2) (remaining_treeless (plain c.args.head) c.args.parts c.in_err-tree.field-0.0 (omega (arith, c.len.ensures, c.args.parts.lines.ok.0, c.if-len-head.false)) c.in_ok-books.ensures.ok c.in_err-tree.ensures.tree)

pub returns-clause-loaded : goal.returns-clause-loaded
returns-clause-loaded g c =
    let h = plain c.args.head in
    let parts = c.args.parts in
    let tree = c.in_ok-tree.tree in
    remaining_passes h parts tree (omega (arith, c.len.ensures, c.args.parts.lines.ok.0, c.if-len-head.false)) c.in_ok-books.ensures.ok c.in_ok-tree.ensures.tree
    ∙ ap Ok (state_image h parts tree c.from_parts.result c.requires.parts.width
    (kept_is h.values parts.lines.items tree c.in_ok-books.books.counts c.in_ok-books.books.labels c.from_parts.result c.from_parts.ensures c.in_ok-books.ensures.counts c.in_ok-books.ensures.labels))

pub returns-clause-kept : goal.returns-clause-kept
returns-clause-kept g c =
    let h = plain c.args.head in
    let parts = c.args.parts in
    let tree = c.in_ok-tree.tree in
    subst (IsKept h.values parts.records)
    (sym (kept_is h.values parts.lines.items tree c.in_ok-books.books.counts c.in_ok-books.books.labels c.from_parts.result c.from_parts.ensures c.in_ok-books.ensures.counts c.in_ok-books.ensures.labels))
    (kept_of h.values parts.records parts.lines.items tree c.books_have_form.ensures c.requires.parts.tied c.in_ok-books.ensures.ok c.in_ok-tree.ensures.width c.in_ok-tree.ensures.contents c.in_ok-tree.ensures.spelled)

pub returns-clause-standing : goal.returns-clause-standing
returns-clause-standing g c = c.requires.parts.tied.stand

pub returns-clause-width : goal.returns-clause-width
returns-clause-width g c = c.requires.parts.width

pub returns-clause-few : goal.returns-clause-few
returns-clause-few g c = omega (arith, c.requires.parts.tied.count, c.len.ensures, c.args.parts.lines.ok.0, c.if-len-head.false, c.requires.lawful.count)
