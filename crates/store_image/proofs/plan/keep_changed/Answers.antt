use Rattle.std.proofs.Common.{◌≡◌, ℕ, ◌+◌, ◌-◌, Bool, false, cond, List, [], ◌∷◌, ◌++◌, sym, ◌∙◌, ap, arith}
use Rattle.std.proofs.lemmas.Bool.{not-true}
use Rattle.page_gate.specs.Writes.{pairs}
use Rattle.store_image.specs.inside.Saves.{is_as_was}
use Rattle.store_image.proofs.PlanWrites.{pairs_push}
use Rattle.store_image.proofs.plan.keep_changed.Goals as goal

pub returns-in_ok-push : goal.returns-in_ok-push
returns-in_ok-push c =
    let list = c.args.pages.now.list in
    let page = c.args.page.now in
    let k = c.args.number - 1 in
    let changed : is_as_was list k page ≡ false = not-true (is_as_was list k page) (sym c.is_changed.ensures ∙ c.if-is_changed.true) in
    let number : 1 + k ≡ c.args.number = omega arith in
    ap pairs c.in_ok-push.ensures.ok
    ∙ pairs_push c.args.writes.now (record { page = c.args.number; bytes = c.replace-bytes.result })
    ∙ ap (λ (p : List ℕ). pairs c.args.writes.now ++ (c.args.number, p) ∷ []) c.replace-bytes.ensures.value
    ∙ ap (λ (n : ℕ). pairs c.args.writes.now ++ (n, page) ∷ []) (sym number)
    ∙ ap (λ (b : Bool). pairs c.args.writes.now ++ cond b [] ((1 + k, page) ∷ [])) (sym changed)
