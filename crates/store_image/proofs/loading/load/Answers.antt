use Rattle.std.proofs.Common.{◌≡◌, Ok, Result, MatchResult, sym, ◌∙◌, subst, arith}
use Rattle.std.proofs.lemmas.Result.{err_from_is_err_and}
use Rattle.page_layout.specs.Heads.{plain}
use Rattle.store_image.specs.declared.fault.StoreFault.{StoreFault}
use Rattle.store_image.specs.Images.{Image, image_with}
use Rattle.store_image.specs.Placing.{IsPaged}
use Rattle.store_image.specs.Loading.{Fails}
use Rattle.store_image.proofs.LoadChecks.{load_is, load_no_head, load_no_bodies, parted_fails, parts_checked, paged_of, if_all}
use Rattle.store_image.proofs.LoadReading.{params_are, count_is}
use Rattle.store_image.proofs.loading.load.Goals as goal

pub returns-in_err-head-clause-loaded : goal.returns-in_err-head-clause-loaded
returns-in_err-head-clause-loaded g c =
    let p = err_from_is_err_and c.from_residual.result c.from_residual.ensures.1 in
    rw (p.1, p.2) (load_no_head c.args.pages.now.list c.in_err-head.field-0.0 c.in_err-head.ensures.head)

pub returns-in_err-bodies-clause-loaded : goal.returns-in_err-bodies-clause-loaded
returns-in_err-bodies-clause-loaded g c =
    let p = err_from_is_err_and c.from_residual-in_err-bodies.result c.from_residual-in_err-bodies.ensures.1 in
    rw (p.1, p.2) (load_no_bodies c.args.pages.now.list (plain c.in_ok-head.head) c.in_err-bodies.field-0.0 c.in_ok-head.ensures.head c.in_err-bodies.ensures.bodies)

pub returns-in_err-parts-clause-loaded : goal.returns-in_err-parts-clause-loaded
returns-in_err-parts-clause-loaded g c =
    let list = c.args.pages.now.list in
    let h = plain c.in_ok-head.head in
    let bodies = c.in_ok-bodies.bodies.items in
    let p = err_from_is_err_and c.from_residual-in_err-parts.result c.from_residual-in_err-parts.ensures.1 in
    rw (p.1, p.2) (subst (Fails c.in_err-parts.field-0.0) (sym (load_is list h bodies c.in_ok-head.ensures.head c.in_ok-bodies.ensures.bodies)) (parted_fails h bodies c.in_err-parts.field-0.0 c.in_err-parts.ensures))

pub take_state-requires-clause-kind : goal.take_state-requires-clause-kind
take_state-requires-clause-kind g c =
    let h = plain c.in_ok-head.head in
    c.requires.kind h.values (params_are c.args.pages.now.list h c.in_ok-head.ensures.head)

pub returns-clause-loaded : goal.returns-clause-loaded
returns-clause-loaded g c =
    let list = c.args.pages.now.list in
    let h = plain c.in_ok-head.head in
    let bodies = c.in_ok-bodies.bodies.items in
    let same = load_is list h bodies c.in_ok-head.ensures.head c.in_ok-bodies.ensures.bodies ∙ parts_checked h bodies c.in_ok-parts.parts c.in_ok-parts.ensures in
    subst (λ (o : Result Image StoreFault). MatchResult c.take_state.result (λ s. o ≡ Ok (image_with (plain s.head) s.records s.clusters)) (λ e. Fails e o)) (sym same) c.take_state.ensures.loaded

pub returns-clause-paged : goal.returns-clause-paged
returns-clause-paged g c =
    let list = c.args.pages.now.list in
    let head = c.in_ok-head.head in
    let parts = c.in_ok-parts.parts in
    if_all (λ s. s.head ≡ head) (λ s. s.places.kinds.items ≡ parts.kinds.items) (λ s. s.places.numbers.items ≡ parts.numbers.items) (λ s. IsPaged (plain s.head) s.places list) c.take_state.result
    (λ s is kinds numbers. subst (λ h. IsPaged (plain h) s.places list) (sym is) (paged_of (plain head) c.in_ok-bodies.bodies.items parts s.places list c.in_ok-head.ensures.head c.in_ok-bodies.ensures.bodies c.in_ok-parts.ensures kinds numbers))
    c.take_state.ensures.head c.take_state.ensures.kinds c.take_state.ensures.numbers

pub returns-clause-bounded : goal.returns-clause-bounded
returns-clause-bounded g c =
    omega (arith, c.take_state.ensures.bounded, count_is c.args.pages.now.list (plain c.in_ok-head.head) c.in_ok-head.ensures.head)
