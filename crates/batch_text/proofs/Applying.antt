-- Changes that can apply, one after another.
use Rattle.std.proofs.Common.{◌≡◌, ℕ, ◌+◌, Bool, true, false, cond, nat_le, List, [], ◌∷◌, Option, Some, None, Result, Ok, Err, IsOk, IfOk, refl, sym, ap, subst, ◌∙◌}
use Rattle.std.specs.List.{AllByRecursion}
use Rattle.std.specs.Option.{is_some}
use Rattle.std.specs.Result.{is_ok}
use Rattle.std.specs.FinMap.{contains_key, get, insert, len, remove}
use Rattle.std.proofs.lemmas.Bool.{false≢true, true≢false}
use Rattle.vec_record.specs.Held.{Held, Rows}
use Rattle.vec_record.specs.declared.change.Change.{Change}
use Rattle.vec_record.specs.declared.change.Change.TheVariants.{Insert, Delete}
use Rattle.batch_text.specs.After.{CanApply, after_from, and_then, changed}
use Rattle.batch_text.specs.Batch.{IsChangeOf}
use Rattle.batch_text.specs.declared.faults.CheckFault.{CheckFault}
use Rattle.batch_text.specs.declared.faults.CheckFault.TheVariants.{Repeated, Unknown, Full}

absent : {X : Type 0} (o : Option X) → is_some o ≡ false → o ≡ None
absent None e = refl
absent (Some x) e = absurd (true≢false e)

insert_could : (a b : Bool) (e f : CheckFault) (m : Rows) (next : Rows → Result Rows CheckFault) → is_ok (and_then (cond a (Err e) (cond b (Err f) (Ok m))) next) ≡ true
    → (a ≡ false) × (and_then (cond a (Err e) (cond b (Err f) (Ok m))) next ≡ next m)
insert_could true b e f m next h = absurd (false≢true h)
insert_could false true e f m next h = absurd (false≢true h)
insert_could false false e f m next h = (refl, refl)

delete_could : (a : Bool) (e : CheckFault) (m : Rows) (next : Rows → Result Rows CheckFault) → is_ok (and_then (cond a (Ok m) (Err e)) next) ≡ true → and_then (cond a (Ok m) (Err e)) next ≡ next m
delete_could true e m next h = refl
delete_could false e m next h = absurd (false≢true h)

-- where all changes apply, the first can, and the others apply to what it makes
applies : (place cap : ℕ) (rows : Rows) (c : Change) (cs : List Change) → IsOk (after_from place cap rows (c ∷ cs)) → CanApply rows c × (after_from place cap rows (c ∷ cs) ≡ after_from (place + 1) cap (changed rows c) cs)
applies place cap rows (Insert n v) cs h =
    let could = insert_could (contains_key rows n) (nat_le cap (len rows)) (Repeated place) (Full place) (insert rows n v) (λ next. after_from (place + 1) cap next cs) h in
    (absent (get rows n) could.0, could.1)
applies place cap rows (Delete n) cs h =
    (tt, delete_could (contains_key rows n) (Unknown place) (remove rows n) (λ next. after_from (place + 1) cap next cs) h)

-- the changes that are left apply to the records that stand now, and come to what all changes come to
pub record Applying (cap : ℕ) (width : ℕ) (all : Result Rows CheckFault) (now : Held) (cs : List Change) : Type 0 where
  pub same : now.width ≡ width
  pub fit : AllByRecursion (IsChangeOf width) cs
  pub rest : (place : ℕ) × (after_from place cap now.vectors cs ≡ all)

pub first_fits : (cap width : ℕ) (all : Result Rows CheckFault) (now : Held) (c : Change) (cs : List Change) → Applying cap width all now (c ∷ cs) → IsChangeOf now.width c
first_fits cap width all now c cs h = subst (λ w. IsChangeOf w c) (sym h.same) h.fit.0

pub first_can : (cap width : ℕ) (all : Result Rows CheckFault) (now : Held) (c : Change) (cs : List Change) → IsOk all → Applying cap width all now (c ∷ cs) → CanApply now.vectors c
first_can cap width all now c cs ok h = (applies h.rest.0 cap now.vectors c cs (subst IsOk (sym h.rest.1) ok)).0

pub goes_further : (cap width : ℕ) (all : Result Rows CheckFault) (now next : Held) (c : Change) (cs : List Change) → IsOk all → Applying cap width all now (c ∷ cs) → next ≡ record { width = now.width; vectors = changed now.vectors c } → Applying cap width all next cs
goes_further cap width all now next c cs ok h e =
    let step = (applies h.rest.0 cap now.vectors c cs (subst IsOk (sym h.rest.1) ok)).1 in
    record {
      same = ap (λ (x : Held). x.width) e ∙ h.same;
      fit = h.fit.1;
      rest = (h.rest.0 + 1, ap (λ (x : Held). after_from (h.rest.0 + 1) cap x.vectors cs) e ∙ (sym step ∙ h.rest.1));
    }

pub at_last : (cap width : ℕ) (all : Result Rows CheckFault) (now : Held) → Applying cap width all now [] → IfOk all (λ next. now ≡ record { width = width; vectors = next })
at_last cap width all now h =
    let P : Result Rows CheckFault → Type 0 = λ r. IfOk r (λ next. now ≡ record { width = width; vectors = next }) in
    let last : now ≡ record { width = width; vectors = now.vectors } = ap (λ w. let x : Held = record { width = w; vectors = now.vectors } in x) h.same in
    subst P h.rest.1 last

pub begins : (cap width : ℕ) (all : Result Rows CheckFault) (now : Held) (cs rest : List Change) (c : Change) → cs ≡ c ∷ rest → Applying cap width all now cs → Applying cap width all now (c ∷ rest)
begins cap width all now cs rest c e h = let P : List Change → Type 0 = λ xs. Applying cap width all now xs in subst P e h
