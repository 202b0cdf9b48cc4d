use Rattle.std.proofs.Common.{◌∙◌, ◌⊎◌, ◌+◌, ◌≤◌, List, ℕ, refl, sym, ap, subst, inl, inr, arith}
use Rattle.std.specs.FinMap as map
use Rattle.vec_record.specs.Held.{Rows}
use Rattle.vec_record.specs.Vectors.{IsVector}
use Rattle.plain_dbscan.specs.Index.{near}
use Rattle.label_book.proofs.Taken.{not_absent}
use Rattle.plain_dbscan.specs.Marks.{density}
use Rattle.delete_case.specs.Deleted.{vector_at, IsPaid, IsCheap}
use Rattle.delete_case.proofs.Endings.{vector_is, still_held, about, next_steps, ends_minpts, ends_fit, ends_stand, ends_told, ends_paid}
use Rattle.delete_case.proofs.Lengths.{told_cases}
use Rattle.delete_case.proofs.Results.{on_err}
use Rattle.delete_case.proofs.deleting.delete_change.Goals as goal

pub returns-in-None : goal.returns-in-None
returns-in-None g c = absurd (not_absent _ c.in-None.ensures.value c.requires.there)

pub take_out-requires-clause-width : goal.take_out-requires-clause-width
take_out-requires-clause-width g c =
    (c.width.ensures.vectors c.args.number c.in-Some.vector (sym c.in-Some.ensures.value)).len ∙ sym c.requires.fits.held.same_width

pub take_out-requires-clause-there : goal.take_out-requires-clause-there
take_out-requires-clause-there g c =
    ap (λ (m : Rows). map.get m c.args.number) c.requires.fits.held.same_pairs ∙ sym c.in-Some.ensures.value

pub clear_away-requires-clause-index : goal.clear_away-requires-clause-index
clear_away-requires-clause-index g c =
    let records = c.args.records.now in
    let p = c.args.number in
    let v = c.in-Some.vector in
    let at = sym c.in-Some.ensures.value in
    let w = c.width.ensures.width in
    let wide = c.width.ensures.vectors in
    let back = λ (u x : List ℕ). g.met.M.Metric.symmetry records.width u x w in
    let itself = λ (u : List ℕ) (h : IsVector records.width u). (g.met.M.Metric.identity records.width u u w h h).1 refl in
    let old = c.args.index.now in
    let new = c.take_out.new.index in
    let fits = c.requires.fits in
    let dist = g.M.Metric.dist in
    let eps = c.args.eps in
    let counts = c.args.counts.now in
    let labels = c.args.labels.now in
    let same = c.remove.ensures.rest in
    let law = g.met.I.RangeIndex.removes old new p v c.in_ok-around.ensures.removed in
    still_held dist eps (g.I.RangeIndex.width old) (g.I.RangeIndex.width new) (g.I.RangeIndex.contents old) (g.I.RangeIndex.contents new) records c.remove.new.self p v same at wide back itself counts labels fits law

pub clear_away-requires-clause-around : goal.clear_away-requires-clause-around
clear_away-requires-clause-around g c =
    let records = c.args.records.now in
    let p = c.args.number in
    let v = c.in-Some.vector in
    let at = sym c.in-Some.ensures.value in
    let w = c.width.ensures.width in
    let wide = c.width.ensures.vectors in
    let back = λ (u x : List ℕ). g.met.M.Metric.symmetry records.width u x w in
    let itself = λ (u : List ℕ) (h : IsVector records.width u). (g.met.M.Metric.identity records.width u u w h h).1 refl in
    let old = c.args.index.now in
    let new = c.take_out.new.index in
    let fits = c.requires.fits in
    let dist = g.M.Metric.dist in
    let eps = c.args.eps in
    let counts = c.args.counts.now in
    let labels = c.args.labels.now in
    let same = c.remove.ensures.rest in
    let law = g.met.I.RangeIndex.removes old new p v c.in_ok-around.ensures.removed in
    about dist eps (g.I.RangeIndex.width old) (g.I.RangeIndex.width new) (g.I.RangeIndex.contents old) (g.I.RangeIndex.contents new) records c.remove.new.self p v same at wide back itself counts labels fits law c.in_ok-around.around c.in_ok-around.ensures.found

pub clear_away-requires-clause-next : goal.clear_away-requires-clause-next
clear_away-requires-clause-next g c =
    let records = c.args.records.now in
    let p = c.args.number in
    let v = c.in-Some.vector in
    let at = sym c.in-Some.ensures.value in
    let w = c.width.ensures.width in
    let wide = c.width.ensures.vectors in
    let back = λ (u x : List ℕ). g.met.M.Metric.symmetry records.width u x w in
    let itself = λ (u : List ℕ) (h : IsVector records.width u). (g.met.M.Metric.identity records.width u u w h h).1 refl in
    let old = c.args.index.now in
    let new = c.take_out.new.index in
    let fits = c.requires.fits in
    let dist = g.M.Metric.dist in
    let eps = c.args.eps in
    let counts = c.args.counts.now in
    let labels = c.args.labels.now in
    let same = c.remove.ensures.rest in
    let law = g.met.I.RangeIndex.removes old new p v c.in_ok-around.ensures.removed in
    next_steps dist eps (g.I.RangeIndex.width old) (g.I.RangeIndex.width new) (g.I.RangeIndex.contents old) (g.I.RangeIndex.contents new) records c.remove.new.self p v same at wide back itself counts labels fits law c.in_ok-around.around c.in_ok-around.ensures.found

pub returns-in_err-around-clause-index_err : goal.returns-in_err-around-clause-index_err
returns-in_err-around-clause-index_err g c =
    let records = c.args.records.now in
    let p = c.args.number in
    let v = c.in-Some.vector in
    let at = sym c.in-Some.ensures.value in
    let w = c.width.ensures.width in
    let wide = c.width.ensures.vectors in
    let back = λ (u x : List ℕ). g.met.M.Metric.symmetry records.width u x w in
    let itself = λ (u : List ℕ) (h : IsVector records.width u). (g.met.M.Metric.identity records.width u u w h h).1 refl in
    let old = c.args.index.now in
    let new = c.take_out.new.index in
    let fits = c.requires.fits in
    let dist = g.M.Metric.dist in
    let eps = c.args.eps in
    let counts = c.args.counts.now in
    let labels = c.args.labels.now in
    let same = c.remove.ensures.rest in
    let is = vector_is records p v at in
    let either : g.I.RangeIndex.removed old new p (vector_at records p) ⊎ (c.take_out.new.steps ≤ c.args.steps.now + (16384 + g.I.RangeIndex.cost old (vector_at records p) 0)) =
    elim c.in_err-around.ensures.err [
      | inl h ↦ inl (subst (λ (u : List ℕ). g.I.RangeIndex.removed old new p u) is h.0)
      | inr h ↦ inr (subst (λ (u : List ℕ). c.take_out.new.steps ≤ c.args.steps.now + (16384 + g.I.RangeIndex.cost old u 0)) is h)
    ] in
    on_err _ _ either

pub returns-in_err-around-clause-price_err : goal.returns-in_err-around-clause-price_err
returns-in_err-around-clause-price_err g c stood =
    let records = c.args.records.now in
    let p = c.args.number in
    let v = c.in-Some.vector in
    let at = sym c.in-Some.ensures.value in
    let w = c.width.ensures.width in
    let wide = c.width.ensures.vectors in
    let back = λ (u x : List ℕ). g.met.M.Metric.symmetry records.width u x w in
    let itself = λ (u : List ℕ) (h : IsVector records.width u). (g.met.M.Metric.identity records.width u u w h h).1 refl in
    let old = c.args.index.now in
    let new = c.take_out.new.index in
    let fits = c.requires.fits in
    let dist = g.M.Metric.dist in
    let eps = c.args.eps in
    let counts = c.args.counts.now in
    let labels = c.args.labels.now in
    let same = c.remove.ensures.rest in
    let is = vector_is records p v at in
    let either : IsPaid (density dist eps counts.minpts) (g.I.RangeIndex.cost old) (g.I.RangeIndex.cost new) records p c.args.steps.now c.take_out.new.steps ⊎ IsCheap (g.I.RangeIndex.cost old) records p c.args.steps.now c.take_out.new.steps =
    elim c.in_err-around.ensures.err [
      | inl h ↦
          let law = g.met.I.RangeIndex.removes old new p v h.0 in
          inl (ends_paid dist eps (g.I.RangeIndex.width old) (g.I.RangeIndex.width new) (g.I.RangeIndex.contents old) (g.I.RangeIndex.contents new) records c.remove.new.self p v same at wide back itself counts labels fits law (near dist (g.I.RangeIndex.contents new) v eps) refl stood (g.I.RangeIndex.cost old) (g.I.RangeIndex.cost new) c.args.steps.now c.take_out.new.steps c.take_out.new.steps h.1 (inl (omega arith)))
      | inr h ↦ inr (subst (λ (u : List ℕ). c.take_out.new.steps ≤ c.args.steps.now + (16384 + g.I.RangeIndex.cost old u 0)) is h)
    ] in
    on_err _ _ either

pub returns-in_err-clear_away-clause-index_err : goal.returns-in_err-clear_away-clause-index_err
returns-in_err-clear_away-clause-index_err g c =
    let records = c.args.records.now in
    let p = c.args.number in
    let v = c.in-Some.vector in
    let at = sym c.in-Some.ensures.value in
    let w = c.width.ensures.width in
    let wide = c.width.ensures.vectors in
    let back = λ (u x : List ℕ). g.met.M.Metric.symmetry records.width u x w in
    let itself = λ (u : List ℕ) (h : IsVector records.width u). (g.met.M.Metric.identity records.width u u w h h).1 refl in
    let old = c.args.index.now in
    let new = c.take_out.new.index in
    let fits = c.requires.fits in
    let dist = g.M.Metric.dist in
    let eps = c.args.eps in
    let counts = c.args.counts.now in
    let labels = c.args.labels.now in
    let same = c.remove.ensures.rest in
    let either : g.I.RangeIndex.removed old new p (vector_at records p) ⊎ (c.clear_away.new.steps ≤ c.args.steps.now + (16384 + g.I.RangeIndex.cost old (vector_at records p) 0)) =
    inl (subst (λ (u : List ℕ). g.I.RangeIndex.removed old new p u) (vector_is records p v at) c.in_ok-around.ensures.removed) in
    on_err _ _ either

pub returns-in_err-clear_away-clause-price_err : goal.returns-in_err-clear_away-clause-price_err
returns-in_err-clear_away-clause-price_err g c stood =
    let records = c.args.records.now in
    let p = c.args.number in
    let v = c.in-Some.vector in
    let at = sym c.in-Some.ensures.value in
    let w = c.width.ensures.width in
    let wide = c.width.ensures.vectors in
    let back = λ (u x : List ℕ). g.met.M.Metric.symmetry records.width u x w in
    let itself = λ (u : List ℕ) (h : IsVector records.width u). (g.met.M.Metric.identity records.width u u w h h).1 refl in
    let old = c.args.index.now in
    let new = c.take_out.new.index in
    let fits = c.requires.fits in
    let dist = g.M.Metric.dist in
    let eps = c.args.eps in
    let counts = c.args.counts.now in
    let labels = c.args.labels.now in
    let same = c.remove.ensures.rest in
    let law = g.met.I.RangeIndex.removes old new p v c.in_ok-around.ensures.removed in
    let either : IsPaid (density dist eps counts.minpts) (g.I.RangeIndex.cost old) (g.I.RangeIndex.cost new) records p c.args.steps.now c.clear_away.new.steps ⊎ IsCheap (g.I.RangeIndex.cost old) records p c.args.steps.now c.clear_away.new.steps =
    inl (ends_paid dist eps (g.I.RangeIndex.width old) (g.I.RangeIndex.width new) (g.I.RangeIndex.contents old) (g.I.RangeIndex.contents new) records c.remove.new.self p v same at wide back itself counts labels fits law c.in_ok-around.around c.in_ok-around.ensures.found stood (g.I.RangeIndex.cost old) (g.I.RangeIndex.cost new) c.args.steps.now c.take_out.new.steps c.clear_away.new.steps c.in_ok-around.ensures.counted c.clear_away.ensures.paid) in
    on_err _ _ either

pub returns-clause-records : goal.returns-clause-records
returns-clause-records g c =
    c.remove.ensures.rest

pub returns-clause-minpts : goal.returns-clause-minpts
returns-clause-minpts g c =
    let records = c.args.records.now in
    let p = c.args.number in
    let v = c.in-Some.vector in
    let at = sym c.in-Some.ensures.value in
    let w = c.width.ensures.width in
    let wide = c.width.ensures.vectors in
    let back = λ (u x : List ℕ). g.met.M.Metric.symmetry records.width u x w in
    let itself = λ (u : List ℕ) (h : IsVector records.width u). (g.met.M.Metric.identity records.width u u w h h).1 refl in
    let old = c.args.index.now in
    let new = c.take_out.new.index in
    let fits = c.requires.fits in
    let dist = g.M.Metric.dist in
    let eps = c.args.eps in
    let counts = c.args.counts.now in
    let labels = c.args.labels.now in
    let same = c.remove.ensures.rest in
    let law = g.met.I.RangeIndex.removes old new p v c.in_ok-around.ensures.removed in
    ends_minpts dist eps (g.I.RangeIndex.width old) (g.I.RangeIndex.width new) (g.I.RangeIndex.contents old) (g.I.RangeIndex.contents new) records c.remove.new.self p v same at wide back itself counts labels fits law c.in_ok-around.around c.in_ok-around.ensures.found c.clear_away.new.counts c.clear_away.new.labels c.args.out.now c.clear_away.new.out c.in_ok-clear_away.ensures.done

pub returns-clause-index : goal.returns-clause-index
returns-clause-index g c =
    let records = c.args.records.now in
    let p = c.args.number in
    let v = c.in-Some.vector in
    let at = sym c.in-Some.ensures.value in
    let w = c.width.ensures.width in
    let wide = c.width.ensures.vectors in
    let back = λ (u x : List ℕ). g.met.M.Metric.symmetry records.width u x w in
    let itself = λ (u : List ℕ) (h : IsVector records.width u). (g.met.M.Metric.identity records.width u u w h h).1 refl in
    let old = c.args.index.now in
    let new = c.take_out.new.index in
    let fits = c.requires.fits in
    let dist = g.M.Metric.dist in
    let eps = c.args.eps in
    let counts = c.args.counts.now in
    let labels = c.args.labels.now in
    let same = c.remove.ensures.rest in
    subst (λ (u : List ℕ). g.I.RangeIndex.removed old new p u) (vector_is records p v at) c.in_ok-around.ensures.removed

pub returns-clause-fits : goal.returns-clause-fits
returns-clause-fits g c =
    let records = c.args.records.now in
    let p = c.args.number in
    let v = c.in-Some.vector in
    let at = sym c.in-Some.ensures.value in
    let w = c.width.ensures.width in
    let wide = c.width.ensures.vectors in
    let back = λ (u x : List ℕ). g.met.M.Metric.symmetry records.width u x w in
    let itself = λ (u : List ℕ) (h : IsVector records.width u). (g.met.M.Metric.identity records.width u u w h h).1 refl in
    let old = c.args.index.now in
    let new = c.take_out.new.index in
    let fits = c.requires.fits in
    let dist = g.M.Metric.dist in
    let eps = c.args.eps in
    let counts = c.args.counts.now in
    let labels = c.args.labels.now in
    let same = c.remove.ensures.rest in
    let law = g.met.I.RangeIndex.removes old new p v c.in_ok-around.ensures.removed in
    ends_fit dist eps (g.I.RangeIndex.width old) (g.I.RangeIndex.width new) (g.I.RangeIndex.contents old) (g.I.RangeIndex.contents new) records c.remove.new.self p v same at wide back itself counts labels fits law c.in_ok-around.around c.in_ok-around.ensures.found c.clear_away.new.counts c.clear_away.new.labels c.args.out.now c.clear_away.new.out c.in_ok-clear_away.ensures.done c.labels_are_least.ensures

pub returns-clause-stands : goal.returns-clause-stands
returns-clause-stands g c stood =
    let records = c.args.records.now in
    let p = c.args.number in
    let v = c.in-Some.vector in
    let at = sym c.in-Some.ensures.value in
    let w = c.width.ensures.width in
    let wide = c.width.ensures.vectors in
    let back = λ (u x : List ℕ). g.met.M.Metric.symmetry records.width u x w in
    let itself = λ (u : List ℕ) (h : IsVector records.width u). (g.met.M.Metric.identity records.width u u w h h).1 refl in
    let old = c.args.index.now in
    let new = c.take_out.new.index in
    let fits = c.requires.fits in
    let dist = g.M.Metric.dist in
    let eps = c.args.eps in
    let counts = c.args.counts.now in
    let labels = c.args.labels.now in
    let same = c.remove.ensures.rest in
    let law = g.met.I.RangeIndex.removes old new p v c.in_ok-around.ensures.removed in
    ends_stand dist eps (g.I.RangeIndex.width old) (g.I.RangeIndex.width new) (g.I.RangeIndex.contents old) (g.I.RangeIndex.contents new) records c.remove.new.self p v same at wide back itself counts labels fits law c.in_ok-around.around c.in_ok-around.ensures.found c.clear_away.new.counts c.clear_away.new.labels c.args.out.now c.clear_away.new.out c.in_ok-clear_away.ensures.done c.labels_are_least.ensures stood

pub returns-clause-told : goal.returns-clause-told
returns-clause-told g c stood =
    let records = c.args.records.now in
    let p = c.args.number in
    let v = c.in-Some.vector in
    let at = sym c.in-Some.ensures.value in
    let w = c.width.ensures.width in
    let wide = c.width.ensures.vectors in
    let back = λ (u x : List ℕ). g.met.M.Metric.symmetry records.width u x w in
    let itself = λ (u : List ℕ) (h : IsVector records.width u). (g.met.M.Metric.identity records.width u u w h h).1 refl in
    let old = c.args.index.now in
    let new = c.take_out.new.index in
    let fits = c.requires.fits in
    let dist = g.M.Metric.dist in
    let eps = c.args.eps in
    let counts = c.args.counts.now in
    let labels = c.args.labels.now in
    let same = c.remove.ensures.rest in
    let law = g.met.I.RangeIndex.removes old new p v c.in_ok-around.ensures.removed in
    ends_told dist eps (g.I.RangeIndex.width old) (g.I.RangeIndex.width new) (g.I.RangeIndex.contents old) (g.I.RangeIndex.contents new) records c.remove.new.self p v same at wide back itself counts labels fits law c.in_ok-around.around c.in_ok-around.ensures.found c.clear_away.new.counts c.clear_away.new.labels c.args.out.now c.clear_away.new.out c.in_ok-clear_away.ensures.done stood

pub returns-clause-cases : goal.returns-clause-cases
returns-clause-cases g c stood =
    told_cases (density g.M.Metric.dist c.args.eps c.args.counts.now.minpts) c.args.records.now c.remove.new.self c.args.number c.remove.ensures.rest c.args.out.now c.clear_away.new.out (returns-clause-told g c stood)

pub returns-clause-price : goal.returns-clause-price
returns-clause-price g c stood =
    let records = c.args.records.now in
    let p = c.args.number in
    let v = c.in-Some.vector in
    let at = sym c.in-Some.ensures.value in
    let w = c.width.ensures.width in
    let wide = c.width.ensures.vectors in
    let back = λ (u x : List ℕ). g.met.M.Metric.symmetry records.width u x w in
    let itself = λ (u : List ℕ) (h : IsVector records.width u). (g.met.M.Metric.identity records.width u u w h h).1 refl in
    let old = c.args.index.now in
    let new = c.take_out.new.index in
    let fits = c.requires.fits in
    let dist = g.M.Metric.dist in
    let eps = c.args.eps in
    let counts = c.args.counts.now in
    let labels = c.args.labels.now in
    let same = c.remove.ensures.rest in
    let law = g.met.I.RangeIndex.removes old new p v c.in_ok-around.ensures.removed in
    ends_paid dist eps (g.I.RangeIndex.width old) (g.I.RangeIndex.width new) (g.I.RangeIndex.contents old) (g.I.RangeIndex.contents new) records c.remove.new.self p v same at wide back itself counts labels fits law c.in_ok-around.around c.in_ok-around.ensures.found stood (g.I.RangeIndex.cost old) (g.I.RangeIndex.cost new) c.args.steps.now c.take_out.new.steps c.clear_away.new.steps c.in_ok-around.ensures.counted c.clear_away.ensures.paid
