-- What stands after one more change.
use Rattle.std.proofs.Common.{◌≡◌, ℕ, suc, add-one, drop, length, get_or, ◌+◌, ◌-◌, ◌<◌, Bool, true, false, cond, nat_le, List, [], ◌∷◌, Option, Some, None, Result, refl, sym, ap, subst, ◌∙◌}
use Rattle.std.specs.Option.{is_some}
use Rattle.std.specs.Map.{lookup}
use Rattle.std.specs.Ordering.{nat_cmp}
use Rattle.std.specs.Cmp.{nat_cmp_total, eq_by_cmp_equiv}
use Rattle.std.specs.BTreeMap.{is_at}
use Rattle.std.specs.FinMap.{contains_key, get, get-insert, get-remove, insert, len, len-insert, len-remove, remove}
use Rattle.vec_record.specs.Held.{Rows}
use Rattle.std.proofs.lemmas.Bool.{lt-leb}
use Rattle.std.proofs.Math.Seq.{drop-cons}
use Rattle.vec_record.specs.declared.change.Change.{Change}
use Rattle.vec_record.specs.declared.change.Change.TheVariants.{Insert, Delete}
use Rattle.batch_text.specs.After.{Explains, after_from, after_one}
use Rattle.batch_text.specs.declared.faults.CheckFault.{CheckFault}
use Rattle.batch_text.specs.declared.faults.CheckFault.TheVariants.{Repeated, Unknown, Full, Memory}
use Rattle.batch_text.specs.Present.{Applied, Stands, has_number, or_else}
use Rattle.batch_text.specs.declared.check.Standing.{Standing}

-- a mark of one number
abbrev pub Marked : Standing → Standing → ℕ → Bool → Type 0
Marked s t number b = (n : ℕ) → lookup (is_at (nat_cmp n)) t.marks.entries ≡ cond (is_at (nat_cmp number) n) (Some b) (lookup (is_at (nat_cmp n)) s.marks.entries)

by_mark : (t b : Bool) (o : Option Bool) (was : Bool) → or_else (cond t (Some b) o) was ≡ cond t b (or_else o was)
by_mark true b o was = refl
by_mark false b o was = refl

marked : (was now : Rows) (s t : Standing) (number : ℕ) (b : Bool) → Marked s t number b → Stands was s now → (n : ℕ) → has_number was t n ≡ cond (is_at (nat_cmp number) n) b (contains_key now n)
marked was now s t number b m h n =
    ap (λ o. or_else o (contains_key was n)) (m n)
    ∙ (by_mark (is_at (nat_cmp number) n) b (lookup (is_at (nat_cmp n)) s.marks.entries) (contains_key was n)
    ∙ ap (cond (is_at (nat_cmp number) n) b) (h.present n))

some_given : {X : Type 0} (t : Bool) (v : X) (o : Option X) → is_some (cond t (Some v) o) ≡ cond t true (is_some o)
some_given true v o = refl
some_given false v o = refl

none_given : {X : Type 0} (t : Bool) (o : Option X) → is_some (cond t None o) ≡ cond t false (is_some o)
none_given true o = refl
none_given false o = refl

has_inserted : (now : Rows) (number : ℕ) (v : List ℕ) (n : ℕ) → contains_key (insert now number v) n ≡ cond (is_at (nat_cmp number) n) true (contains_key now n)
has_inserted now number v n =
    ap is_some (get-insert nat_cmp_total now number v n)
    ∙ (ap (λ t. is_some (cond t (Some v) (get now n))) ((eq_by_cmp_equiv nat_cmp_total).symm n number)
    ∙ some_given (is_at (nat_cmp number) n) v (get now n))

has_removed : (now : Rows) (number n : ℕ) → contains_key (remove now number) n ≡ cond (is_at (nat_cmp number) n) false (contains_key now n)
has_removed now number n =
    ap is_some (get-remove nat_cmp_total now number n)
    ∙ (ap (λ t. is_some (cond t None (get now n))) ((eq_by_cmp_equiv nat_cmp_total).symm n number)
    ∙ none_given (is_at (nat_cmp number) n) (get now n))

stands_inserted : (was now : Rows) (s t : Standing) (number : ℕ) (v : List ℕ) → Marked s t number true → t.count ≡ s.count + 1 → contains_key now number ≡ false → Stands was s now → Stands was t (insert now number v)
stands_inserted was now s t number v m k absent h = record {
  present = λ n. marked was now s t number true m h n ∙ sym (has_inserted now number v n);
  count = k ∙ (ap (λ x. x + 1) h.count ∙ sym (len-insert nat_cmp_total now number v ∙ ap (λ b. cond b (len now) (len now + 1)) absent));
}

stands_removed : (was now : Rows) (s t : Standing) (number : ℕ) → Marked s t number false → t.count ≡ s.count - 1 → contains_key now number ≡ true → Stands was s now → Stands was t (remove now number)
stands_removed was now s t number m k here h = record {
  present = λ n. marked was now s t number false m h n ∙ sym (has_removed now number n);
  count = k ∙ (ap (λ x. x - 1) h.count ∙ sym (len-remove nat_cmp_total now number ∙ ap (λ b. cond b (len now - 1) (len now)) here));
}

-- an insertion and a deletion that can apply
pub insertion_goes : (was now : Rows) (s t : Standing) (place cap number : ℕ) (v : List ℕ) → Marked s t number true → t.count ≡ s.count + 1 → has_number was s number ≡ false → s.count < cap → Stands was s now → Applied was t (after_one place cap now (Insert number v))
insertion_goes was now s t place cap number v m k none room h =
    let absent : contains_key now number ≡ false = sym (h.present number) ∙ none in
    let space : nat_le cap (len now) ≡ false = lt-leb cap (len now) (subst (λ n. n < cap) h.count room) in
    (insert now number v, rw (absent, space) refl, stands_inserted was now s t number v m k absent h)

pub deletion_goes : (was now : Rows) (s t : Standing) (place cap number : ℕ) → Marked s t number false → t.count ≡ s.count - 1 → has_number was s number ≡ true → Stands was s now → Applied was t (after_one place cap now (Delete number))
deletion_goes was now s t place cap number m k some h =
    let here : contains_key now number ≡ true = sym (h.present number) ∙ some in
    (remove now number, rw here refl, stands_removed was now s t number m k here h)

-- before any change
pub stands_first : (was : Rows) (s : Standing) → s.marks.entries ≡ [] → s.count ≡ len was → Stands was s was
stands_first was s e k = record {
  present = λ n. ap (λ es. or_else (lookup (is_at (nat_cmp n)) es) (contains_key was n)) e;
  count = k;
}

-- the changes from a place on begin with the one that stands there
pub first_left : (cs : List Change) (i : ℕ) (c : Change) → c ≡ get_or cs i c → i < length cs → drop i cs ≡ c ∷ drop (i + 1) cs
first_left cs i c e h = rw (add-one, drop-cons cs i c) (ap (λ x. x ∷ drop (suc i) cs) (sym e))

-- a change that could apply, and one that could not, with those behind it
pub goes_on : (was now : Rows) (t : Standing) (place i cap : ℕ) (cs : List Change) (c : Change) (all : Result Rows CheckFault) → drop i cs ≡ c ∷ drop (i + 1) cs → Applied was t (after_one place cap now c) → after_from place cap now (drop i cs) ≡ all
    → (next : Rows) × Stands was t next × (after_from (place + 1) cap next (drop (i + 1) cs) ≡ all)
goes_on was now t place i cap cs c all e g h =
    let step : after_from place cap now (drop i cs) ≡ after_from (place + 1) cap g.0 (drop (i + 1) cs) = rw (e, g.1) refl in
    (g.0, g.2, sym step ∙ h)

pub stops : (now : Rows) (place i cap : ℕ) (cs : List Change) (c : Change) (all : Result Rows CheckFault) (f : CheckFault) → drop i cs ≡ c ∷ drop (i + 1) cs → Explains f (after_one place cap now c) → after_from place cap now (drop i cs) ≡ all → Explains f all
stops now place i cap cs c all (Repeated p) e why h = sym h ∙ rw (e, why) refl
stops now place i cap cs c all (Unknown p) e why h = sym h ∙ rw (e, why) refl
stops now place i cap cs c all (Full p) e why h = sym h ∙ rw (e, why) refl
stops now place i cap cs c all Memory e why h = tt
