-- A read takes the first of the records that are left.
use Rattle.std.proofs.Common.{◌≡◌, ◌≤◌, ◌<◌, ◌+◌, ◌-◌, ℕ, zero, suc, List, [], ◌∷◌, ◌++◌, length, Option, Some, None, true, false, inl, inr, refl, sym, ap, arith, ◌∙◌, Bool, Bor}
use Rattle.std.proofs.lemmas.Bool.{cases_Bool, false≢true}
use Rattle.std.proofs.lemmas.Option.{none-some, same_Some}
use Rattle.csv.specs.Machine.{Read, ends_at_end, field_after, fields_after, is_end, next_record, step}
use Rattle.csv.specs.Reading.{ExplainsRead, is_flexible, stops_reader, default_config, records_from, records_next, source_of, pending_of, strip_bom, took_first, NextIs, ReadRecord, ReadsNext}
use Rattle.csv.specs.declared.reader.Reader.{Reader}
use Rattle.csv.specs.declared.error.ErrorKind.{ErrorKind}
use Rattle.csv.specs.declared.error.ErrorKind.TheVariants as error
use Rattle.csv.specs.declared.parser.Config.{Config}
use Rattle.csv.specs.declared.parser.State.{State}
use Rattle.csv.specs.declared.parser.State.TheVariants as st
use Rattle.batch_text.specs.Records.{records_of}
use Rattle.batch_text.specs.Reading.{Gives, HasLeft, records_after}

-- the end of a text gives at most one record, and then nothing is left
at_end : (cfg : Config) (s : State) (fields : List (List ℕ)) (field : List ℕ) (q : Read) → next_record cfg s fields field [] ≡ Some q → (q.1 ≡ st.StartRecord) × (q.2 ≡ [])
unfolding next_record
at_end cfg s fields field q h = elim (cases_Bool (ends_at_end s)) [
  | inl t ↦ let e : (fields ++ (field ∷ []), st.StartRecord, []) ≡ q = same_Some _ _ (rw t at h) in (sym (ap (λ (r : Read). r.1) e), sym (ap (λ (r : Read). r.2) e))
  | inr f ↦ absurd (none-some _ (rw f at h))
]

-- a record that was read leaves fewer bytes
pub shorter : (cfg : Config) (s : State) (fields : List (List ℕ)) (field : List ℕ) (xs : List ℕ) (q : Read) → next_record cfg s fields field xs ≡ Some q → length q.2 ≤ length xs - 1
unfolding next_record
shorter cfg s fields field [] q h = rw (at_end cfg s fields field q h).1 (omega arith)
shorter cfg s fields field (c ∷ rest) q h = elim (cases_Bool (is_end (step cfg s c).1)) [
  | inl t ↦
      let e : (fields_after (step cfg s c).1 fields field, (step cfg s c).0, rest) ≡ q = same_Some _ _ (rw t at h) in
      let left : rest ≡ q.2 = ap (λ (r : Read). r.2) e in
      rw (← left) (omega arith)
  | inr f ↦
      let less = shorter cfg (step cfg s c).0 (fields_after (step cfg s c).1 fields field) (field_after (step cfg s c).1 c field) rest q (rw f at h) in
      omega (arith, less)
]

none_left : (cfg : Config) (n : ℕ) → records_from cfg n st.StartRecord [] ≡ []
unfolding records_from next_record
none_left cfg zero = refl
none_left cfg (suc n) = refl

-- the count of records that is asked for is of no account once it passes the bytes
enough_next : (cfg : Config) (n m : ℕ) (s : State) (xs : List ℕ) (o : Option Read)
    → ((t : State) (ys : List ℕ) → length ys < n → length ys < m → records_from cfg n t ys ≡ records_from cfg m t ys)
    → length xs < suc n → length xs < suc m → next_record cfg s [] [] xs ≡ o
    → records_next (records_from cfg n) o ≡ records_next (records_from cfg m) o
enough_next cfg n m s xs None more a b e = refl
enough_next cfg n m s [] (Some p) more a b e =
    let end = at_end cfg s [] [] p e in
    rw (end.0, end.1, none_left cfg n, none_left cfg m) refl
enough_next cfg n m s (c ∷ rest) (Some p) more a b e =
    let less = shorter cfg s [] [] (c ∷ rest) p e in
    ap (λ t. p.0 ∷ t) (more p.1 p.2 (omega (arith, less, a)) (omega (arith, less, b)))

pub enough : (cfg : Config) (n m : ℕ) (s : State) (xs : List ℕ) → length xs < n → length xs < m → records_from cfg n s xs ≡ records_from cfg m s xs
unfolding records_from
enough cfg zero m s xs a b = absurd (omega (arith, a))
enough cfg (suc n) zero s xs a b = absurd (omega (arith, b))
enough cfg (suc n) (suc m) s xs a b = enough_next cfg n m s xs (next_record cfg s [] [] xs) (λ t ys i j. enough cfg n m t ys i j) a b refl

pub all_left : (body : List ℕ) → records_of body ≡ records_after st.StartRecord (strip_bom body)
all_left body = enough default_config (length (strip_bom body) + 1) (suc (suc (length (strip_bom body)))) st.StartRecord (strip_bom body) (omega arith) (omega arith)

-- where a record is next, it is the first of those that are left
pub left_more : (s : State) (xs : List ℕ) (p : Read) → next_record default_config s [] [] xs ≡ Some p → records_after s xs ≡ p.0 ∷ records_after p.1 p.2
unfolding records_from
left_more s xs p e =
    let less = shorter default_config s [] [] xs p e in
    rw e (ap (λ t. p.0 ∷ t) (enough default_config (suc (length xs)) (suc (suc (length p.2))) p.1 p.2 (omega (arith, less)) (omega arith)))

pub left_none : (s : State) (xs : List ℕ) → next_record default_config s [] [] xs ≡ None → records_after s xs ≡ []
unfolding records_from
left_none s xs e = rw e refl

-- the same, as a read of a record says it
next-some : (o : Option Read) (f : List (List ℕ)) (s : State) (z : List ℕ) → NextIs o true f s z → (p : Read) × (o ≡ Some p) × (f ≡ p.0) × (s ≡ p.1) × (z ≡ p.2)
next-some None f s z n = cc n
next-some (Some p) f s z n = (p, refl, n.1, n.2, n.3)

next-none : (o : Option Read) (f : List (List ℕ)) (s : State) (z : List ℕ) → NextIs o false f s z → o ≡ None
next-none None f s z n = refl
next-none (Some p) f s z n = cc n.0

takes_first : (a b : State) (y z : List ℕ) (f : List (List ℕ)) (p : Read) → next_record default_config a [] [] y ≡ Some p → f ≡ p.0 → b ≡ p.1 → z ≡ p.2 → records_after a y ≡ f ∷ records_after b z
takes_first a b y z f p e i j k = rw (i, j, k) (left_more a y p e)

takes : (a b : State) (y : List ℕ) (f : List (List ℕ)) (k : Option (List ℕ)) → ReadsNext default_config a (Some y) k true f b
    → (z : List ℕ) × (k ≡ Some z) × (records_after a y ≡ f ∷ records_after b z)
takes a b y f None r = absurd r
takes a b y f (Some z) r =
    let n = next-some _ f b z r in
    (z, refl, takes_first a b y z f n.0 n.1 n.2 n.3 n.4)

takes_none : (a b : State) (y : List ℕ) (f : List (List ℕ)) (k : Option (List ℕ)) → ReadsNext default_config a (Some y) k false f b → records_after a y ≡ []
takes_none a b y f None r = absurd r
takes_none a b y f (Some z) r = left_none a y (next-none _ f b z r)

pub read_takes : (rem : Bor (List ℕ) → Option (List ℕ)) (a b : Reader (Bor (List ℕ))) (f : List (List ℕ)) (y : List ℕ)
    → a.config ≡ default_config → source_of rem a ≡ Some y → ReadRecord rem a b true f
    → (z : List ℕ) × (source_of rem b ≡ Some z) × (records_after a.state y ≡ f ∷ records_after b.state z)
read_takes rem a b f y ec ex r =
    let g = takes a.state b.state y f (pending_of (rem b.rdr) b) (rw (ec, ex) at r.0) in
    (g.0, rw r.1 g.1, g.2)

pub read_ends : (rem : Bor (List ℕ) → Option (List ℕ)) (a b : Reader (Bor (List ℕ))) (f : List (List ℕ)) (y : List ℕ)
    → a.config ≡ default_config → source_of rem a ≡ Some y → ReadRecord rem a b false f → records_after a.state y ≡ []
read_ends rem a b f y ec ex r = takes_none a.state b.state y f (pending_of (rem b.rdr) b) (rw (ec, ex) at r.0)

-- what a read says of a reader that has these records left
pub gives : (found : Bool) (rows : List (List (List ℕ))) (a b : Reader (Bor (List ℕ))) (f : List (List ℕ))
    → HasLeft a rows → took_first b ≡ true → is_flexible b ≡ is_flexible a → ReadRecord (λ (s : Bor (List ℕ)). Some s.now) a b found f → Gives found rows f b
gives true rows a b f h first flex r =
    let g = read_takes (λ (s : Bor (List ℕ)). Some s.now) a b f h.4 h.2 h.5 r in
    (records_after b.state g.0, h.6 ∙ g.2, (r.3 ∙ h.0, inl first, r.2 ∙ h.2, flex ∙ h.3, g.0, g.1, refl))
gives false rows a b f h first flex r = h.6 ∙ read_ends (λ (s : Bor (List ℕ)). Some s.now) a b f h.4 h.2 h.5 r

-- a read of bytes with any lengths allowed fails only for the reader underneath or for memory
pub only_stops : (rem : Bor (List ℕ) → Option (List ℕ)) (a b : Reader (Bor (List ℕ))) (e : ErrorKind) → is_flexible a ≡ true → ExplainsRead rem a b false e → stops_reader e ≡ true
only_stops rem a b (error.Io e) flex w = refl
only_stops rem a b error.OutOfMemory flex w = refl
only_stops rem a b (error.UnequalLengths pos expected len) flex w = absurd (false≢true (sym w.0 ∙ flex))
only_stops rem a b (error.Utf8 pos err) flex w = absurd (false≢true w.0)
only_stops rem a b (error.Serialize text) flex w = absurd w
only_stops rem a b (error.Deserialize pos err) flex w = absurd w
