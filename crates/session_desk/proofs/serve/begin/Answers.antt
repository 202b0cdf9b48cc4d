use Rattle.std.proofs.Common.{arith, ◌≡◌, ◌∙◌, sym, ap, subst, List, ℕ, Err, Result}
use Rattle.std.proofs.lemmas.Result.{err_from_is_err_and}
use Rattle.page_gate.specs.Gate.{opening}
use Rattle.page_gate.specs.Promises.{Holds}
use Rattle.page_gate.specs.declared.fault.OpenFault.{OpenFault}
use Rattle.session_desk.specs.declared.serve.AnyWarehouse.{AnyWarehouse}
use Rattle.session_desk.specs.Opened.{state_of, Loads}
use Rattle.session_desk.proofs.Serving.{said-records, gate-verdict, load-verdict, loaded-opens, loaded-store, loaded-serving}
use Rattle.session_desk.proofs.serve.begin.Goals as goal

pub returns-in_err-pages-clause-told : goal.returns-in_err-pages-clause-told
returns-in_err-pages-clause-told g c = λ t.
    let p = err_from_is_err_and c.from_residual.result c.from_residual.ensures.1 in
    let told = c.in_err-pages.ensures.told t in
    let a = g.T.Site.state c.args.site.now in
    let P : Result AnyWarehouse OpenFault → Type 0 = λ r. Loads r a (g.T.Site.state c.open_pages.new.site) in
    let is : c.from_residual.result ≡ Err c.in_err-pages.field-0.0 = p.1 ∙ ap Err p.2 in
    subst P (sym is) (record { safe = told.safe; said = told.said; opens = tt; store = λ inside. gate-verdict a.content c.in_err-pages.field-0.0 told.list inside; holds = λ ok i left. ap opening ((told.rests ok).only i left) ∙ (told.rests ok).opens })

pub returns-in-Ok-clause-told : goal.returns-in-Ok-clause-told
returns-in-Ok-clause-told g c = λ t.
    let told = c.in_ok-pages.ensures.told t in
    let a = g.T.Site.state c.args.site.now in
    let b = g.T.Site.state c.open_pages.new.site in
    let w = state_of c.in-Ok.warehouse in
    let P : List (List ℕ) → Type 0 = λ pages. Holds pages b in
    record {
      safe = told.safe;
      said = told.said;
      opens = loaded-opens a.content c.in_ok-pages.pages.list w told.list c.in-Ok.ensures.loaded;
      store = loaded-store c.loads_are_stores.ensures a.content c.in_ok-pages.pages.list w told.list c.in-Ok.ensures.loaded;
      holds = subst P (sym c.in-Ok.ensures.loaded.pages_are) told.holds;
    }

pub returns-in-Err-clause-told : goal.returns-in-Err-clause-told
returns-in-Err-clause-told g c = λ t.
    let told = c.in_ok-pages.ensures.told t in
    let a = g.T.Site.state c.args.site.now in
    let b = g.T.Site.state c.open_pages.new.site in
    let P : OpenFault → Type 0 = λ f. Loads (Err f) a b in
    subst P (sym c.fault_of.ensures) (record {
      safe = told.safe;
      said = told.said;
      opens = tt;
      store = λ inside. load-verdict a.content c.in_ok-pages.pages.list c.in-Err.fault told.list c.in-Err.ensures.loaded inside;
      holds = λ inside i left. ap opening (told.holds.only i left) ∙ told.holds.list ∙ sym told.list;
    })

pub returns-in-Ok-clause-serving : goal.returns-in-Ok-clause-serving
returns-in-Ok-clause-serving g c = loaded-serving c.in_ok-pages.pages.list (state_of c.in-Ok.warehouse) c.in-Ok.ensures.loaded

pub returns-in_err-pages-clause-work : goal.returns-in_err-pages-clause-work
returns-in_err-pages-clause-work g c = λ t sound. omega arith

pub returns-in-Ok-clause-work : goal.returns-in-Ok-clause-work
returns-in-Ok-clause-work g c = λ t sound.
    let said = said-records c.loads_are_stores.ensures c.loads_count_records.ensures (g.T.Site.state c.args.site.now).content c.in_ok-pages.pages.list (c.in_ok-pages.ensures.told t).list sound in
    omega (arith, said, c.load.ensures.bounded)

pub returns-in-Err-clause-work : goal.returns-in-Err-clause-work
returns-in-Err-clause-work g c = λ t sound.
    let said = said-records c.loads_are_stores.ensures c.loads_count_records.ensures (g.T.Site.state c.args.site.now).content c.in_ok-pages.pages.list (c.in_ok-pages.ensures.told t).list sound in
    omega (arith, said, c.load.ensures.bounded)
