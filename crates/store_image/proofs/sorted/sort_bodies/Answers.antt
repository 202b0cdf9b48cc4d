use Rattle.std.proofs.Common.{◌≡◌, true, List, ℕ, length, map, sym, ◌∙◌, ap, subst, arith}
use Rattle.std.specs.List.{AllByRecursion}
use Rattle.std.proofs.lemmas.Result.{err_from_is_err_and}
use Rattle.page_layout.specs.Heads.{values_of}
use Rattle.page_layout.specs.Slots.{Rows, IsRow}
use Rattle.store_image.specs.Contents.{kinds_of, all_slots}
use Rattle.store_image.specs.Images.{number_of}
use Rattle.store_image.specs.Loading.{are_few, Fails}
use Rattle.store_image.specs.inside.Reads.{repeats}
use Rattle.store_image.proofs.LoadFacts.{few_bounded, kinds_few, slots_lawful, sorted_of}
use Rattle.store_image.proofs.LoadChecks.{many_parted, repeats_fail}
use Rattle.store_image.proofs.sorted.sort_bodies.Goals as goal

pub take_slots-requires-clause-pages : goal.take_slots-requires-clause-pages
take_slots-requires-clause-pages c =
    let v = values_of c.args.params.now in
    let bodies = c.args.bodies.items in
    let few : are_few v bodies ≡ true = sym (c.are_few-few.ensures bodies (c.deref.ensures.value ∙ c.in_ok-contents.ensures.kinds)) ∙ c.if-not-few.false in
    let most = kinds_few bodies (few_bounded v bodies c.args.params.now.limits few) in
    let long : length c.in_ok-contents.contents.kinds.items ≡ length (kinds_of bodies) = ap length c.in_ok-contents.ensures.kinds in
    omega (arith, most, long)

pub take_slots-requires-clause-lawful : goal.take_slots-requires-clause-lawful
take_slots-requires-clause-lawful c =
    let v = values_of c.args.params.now in
    subst (AllByRecursion (IsRow v)) (sym c.in_ok-contents.ensures.slots) (slots_lawful v c.args.bodies.items c.requires)

pub returns-then-not-few : goal.returns-then-not-few
returns-then-not-few c =
    let v = values_of c.args.params.now in
    let bodies = c.args.bodies.items in
    many_parted v bodies (sym (c.are_few-few.ensures bodies (c.deref.ensures.value ∙ c.in_ok-contents.ensures.kinds)) ∙ c.if-not-few.true)

pub returns-in_err-taken : goal.returns-in_err-taken
returns-in_err-taken c =
    let v = values_of c.args.params.now in
    let bodies = c.args.bodies.items in
    let few : are_few v bodies ≡ true = sym (c.are_few-few.ensures bodies (c.deref.ensures.value ∙ c.in_ok-contents.ensures.kinds)) ∙ c.if-not-few.false in
    let e = c.in_err-taken.field-0.0 in
    let p = err_from_is_err_and c.from_residual-in_err-taken.result c.from_residual-in_err-taken.ensures.1 in
    rw (p.1, p.2) (repeats_fail v bodies e few
    (subst (λ (ks : List ℕ). Fails e (repeats v ks (map number_of (all_slots bodies)))) (c.deref-2.ensures.value ∙ c.in_ok-contents.ensures.kinds)
    (subst (λ (s : Rows). Fails e (repeats v c.deref-2.result.now (map number_of s))) c.in_ok-contents.ensures.slots c.in_err-taken.ensures)))

pub returns : goal.returns
returns c =
    let v = values_of c.args.params.now in
    let bodies = c.args.bodies.items in
    let few : are_few v bodies ≡ true = sym (c.are_few-few.ensures bodies (c.deref.ensures.value ∙ c.in_ok-contents.ensures.kinds)) ∙ c.if-not-few.false in
    sorted_of v bodies _ _ c.args.params.now.limits c.requires few c.in_ok-contents.ensures.kinds c.in_ok-contents.ensures.slots c.in_ok-contents.ensures.nodes c.in_ok-taken.ensures
