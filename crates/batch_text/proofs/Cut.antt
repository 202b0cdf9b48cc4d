-- What a list of records says, when one more comes, and where it is cut.
use Rattle.std.proofs.Common.{◌≡◌, ◌+◌, ◌≤◌, ◌<◌, ℕ, List, [], ◌∷◌, ◌++◌, take, length, Option, Some, None, refl, sym, ap, arith, ◌∙◌, ◌⊎◌, inl, inr, append_assoc, Bor, Bool, true, false}
use Rattle.std.proofs.lemmas.List.{append-nil, length-append, take_all, take-append-le}
use Rattle.std.proofs.lemmas.Option.{none-some}
use Rattle.std.specs.Prelude.{Result, Ok, Err}
use Rattle.std.specs.Option.{is_none}
use Rattle.csv.specs.declared.reader.Reader.{Reader}
use Rattle.vec_record.specs.declared.change.Change.{Change}
use Rattle.vec_record.specs.declared.kind.MetricKind.{MetricKind}
use Rattle.batch_text.specs.Reading.{Gives, HasLeft, Holds}
use Rattle.batch_text.specs.declared.read.ReadBatch.{ReadBatch}
use Rattle.batch_text.specs.Grammar.{change_of}
use Rattle.batch_text.specs.Batch.{changes_next, changes_of, fault_next, fault_of, said_by}
use Rattle.batch_text.specs.declared.faults.LineFault.{LineFault}

none_of : (x : Option LineFault) → is_none x ≡ true → x ≡ None
none_of None h = refl
none_of (Some e) h = cc h

some_of : (x : Option LineFault) → is_none x ≡ false → (e : LineFault) × (x ≡ Some e)
some_of None h = cc h
some_of (Some e) h = (e, refl)

-- after a fault nothing changes
fault_stays : (o : Result Change LineFault) (a b : List Change) (x y : Option LineFault) (e : LineFault) → fault_next o x ≡ Some e
    → (x ≡ Some e → (a ≡ b) × (y ≡ x)) → (changes_next o a ≡ changes_next o b) × (fault_next o y ≡ Some e)
fault_stays (Ok c) a b x y e h f = let g = f h in (ap (λ t. c ∷ t) g.0, g.1 ∙ h)
fault_stays (Err w) a b x y e h f = (refl, h)

pub stays : (m : MetricKind) (dim : ℕ) (done : List (List (List ℕ))) (r : List (List ℕ)) (e : LineFault) → fault_of m dim done ≡ Some e
    → (changes_of m dim done ≡ changes_of m dim (done ++ r ∷ [])) × (fault_of m dim (done ++ r ∷ []) ≡ Some e)
stays m dim [] r e h = absurd (none-some _ h)
stays m dim (d ∷ done) r e h =
    fault_stays (change_of m dim d) (changes_of m dim done) (changes_of m dim (done ++ r ∷ [])) (fault_of m dim done) (fault_of m dim (done ++ r ∷ [])) e h
    (λ i. let s = stays m dim done r e i in (s.0, s.1 ∙ sym i))

-- with no fault so far, the record at the end is judged
fault_comes : (o : Result Change LineFault) (a b c : List Change) (x y z : Option LineFault) → fault_next o x ≡ None
    → (x ≡ None → (b ≡ a ++ c) × (y ≡ z)) → (changes_next o b ≡ changes_next o a ++ c) × (fault_next o y ≡ z)
fault_comes (Ok d) a b c x y z h f = let g = f h in (ap (λ t. d ∷ t) g.0, g.1)
fault_comes (Err w) a b c x y z h f = absurd (none-some _ (sym h))

pub comes : (m : MetricKind) (dim : ℕ) (done : List (List (List ℕ))) (r : List (List ℕ)) → fault_of m dim done ≡ None
    → (changes_of m dim (done ++ r ∷ []) ≡ changes_of m dim done ++ changes_next (change_of m dim r) []) × (fault_of m dim (done ++ r ∷ []) ≡ fault_next (change_of m dim r) None)
comes m dim [] r h = (refl, refl)
comes m dim (d ∷ done) r h =
    fault_comes (change_of m dim d) (changes_of m dim done) (changes_of m dim (done ++ r ∷ [])) (changes_next (change_of m dim r) []) (fault_of m dim done) (fault_of m dim (done ++ r ∷ [])) (fault_next (change_of m dim r) None) h
    (λ i. comes m dim done r i)

-- the records that were read, where the reading stopped at the limit or at the end
cut_end : {A : Type 0} (n : ℕ) (all done : List A) → all ≡ done ++ [] → length done ≤ n → take n all ≡ done
cut_end n all done e le =
    let same : all ≡ done = e ∙ append-nil done in
    rw same (take_all n done le)

cut_full : {A : Type 0} (n : ℕ) (all done rest : List A) → all ≡ done ++ rest → length done ≡ n → take n all ≡ done
cut_full n all done rest e is = rw e (take-append-le n done rest (omega (arith, is)) ∙ take_all n done (omega (arith, is)))

one_longer : {A : Type 0} (xs : List A) (x : A) (n : ℕ) → n ≡ length xs → n + 1 ≡ length (xs ++ x ∷ [])
one_longer xs x n e = rw (e, length-append xs (x ∷ [])) refl

pub take_good : (m : MetricKind) (dim : ℕ) (done : List (List (List ℕ))) (r : List (List ℕ)) (b : ReadBatch) (c : Change) (list : List Change) → Holds m dim done b → is_none b.fault ≡ true
    → change_of m dim r ≡ Ok c → list ≡ b.changes ++ c ∷ [] → Holds m dim (done ++ r ∷ []) (record { changes = list; fault = b.fault; total = b.total + 1 })
take_good m dim done r b c list h free j e =
    let none = none_of b.fault free in
    let more = comes m dim done r (sym h.fault ∙ none) in
    record {
      changes = e ∙ (rw (h.changes) (sym (rw j at more.0)));
      fault = none ∙ sym (rw j at more.1);
      total = one_longer done r b.total h.total;
    }

pub take_bad : (m : MetricKind) (dim : ℕ) (done : List (List (List ℕ))) (r : List (List ℕ)) (b : ReadBatch) (w : LineFault) → Holds m dim done b → is_none b.fault ≡ true
    → change_of m dim r ≡ Err w → Holds m dim (done ++ r ∷ []) (record { changes = b.changes; fault = Some w; total = b.total + 1 })
take_bad m dim done r b w h free j =
    let none = none_of b.fault free in
    let more = comes m dim done r (sym h.fault ∙ none) in
    record {
      changes = h.changes ∙ sym (rw (j, append-nil (changes_of m dim done)) at more.0);
      fault = sym (rw j at more.1);
      total = one_longer done r b.total h.total;
    }

pub take_late : (m : MetricKind) (dim : ℕ) (done : List (List (List ℕ))) (r : List (List ℕ)) (b : ReadBatch) → Holds m dim done b → is_none b.fault ≡ false
    → Holds m dim (done ++ r ∷ []) (record { changes = b.changes; fault = b.fault; total = b.total + 1 })
take_late m dim done r b h late =
    let s = some_of b.fault late in
    let more = stays m dim done r s.0 (sym h.fault ∙ s.1) in
    record {
      changes = h.changes ∙ more.0;
      fault = s.1 ∙ sym more.1;
      total = one_longer done r b.total h.total;
    }

pub no_more : (found : Bool) (rows : List (List (List ℕ))) (f : List (List ℕ)) (r : Reader (Bor (List ℕ))) → found ≡ false → Gives found rows f r → rows ≡ []
no_more true rows f r e g = cc e
no_more false rows f r e g = g

pub one_more : (found : Bool) (rows : List (List (List ℕ))) (f : List (List ℕ)) (r : Reader (Bor (List ℕ))) → found ≡ true → Gives found rows f r
    → (rest : List (List (List ℕ))) × (rows ≡ f ∷ rest) × HasLeft r rest
one_more true rows f r e g = g
one_more false rows f r e g = cc e

-- a batch by its parts
same_batch : (b : ReadBatch) (cs : List Change) (f : Option LineFault) (n : ℕ) → b.changes ≡ cs → b.fault ≡ f → b.total ≡ n → b ≡ record { changes = cs; fault = f; total = n }
same_batch b cs f n e g h = rw (← e, ← g, ← h) refl

holds_said : (m : MetricKind) (dim : ℕ) (done : List (List (List ℕ))) (b : ReadBatch) → Holds m dim done b → b ≡ said_by m dim done
holds_said m dim done b h = same_batch b (changes_of m dim done) (fault_of m dim done) (length done) h.changes h.fault h.total

-- the records that were read are the first of all, as far as the limit
pub at_end : (n : ℕ) (m : MetricKind) (dim : ℕ) (b : ReadBatch) (all done rest : List (List (List ℕ))) → all ≡ done ++ rest → Holds m dim done b → b.total ≤ n → (rest ≡ []) ⊎ (n ≤ b.total)
    → b ≡ said_by m dim (take n all)
at_end n m dim b all done rest e h le (inl none) = rw (cut_end n all done (rw none at e) (rw h.total at le)) (holds_said m dim done b h)
at_end n m dim b all done rest e h le (inr full) =
    let same : b.total ≡ n = omega (arith, le, full) in
    rw (cut_full n all done rest e (sym h.total ∙ same)) (holds_said m dim done b h)

pub one_further : (all done rest next : List (List (List ℕ))) (f : List (List ℕ)) → all ≡ done ++ rest → rest ≡ f ∷ next → all ≡ (done ++ f ∷ []) ++ next
one_further all done rest next f e g = e ∙ rw (g, append_assoc) refl

pub grows : (n : ℕ) (m : MetricKind) (dim : ℕ) (done : List (List (List ℕ))) (r : List (List ℕ)) (b d : ReadBatch) → Holds m dim done b → Holds m dim (done ++ r ∷ []) d → b.total < n → d.total ≤ n
grows n m dim done r b d h g less =
    let long : length (done ++ r ∷ []) ≡ length done + 1 = length-append done (r ∷ []) in
    omega (arith, less, h.total, g.total, long)
