-- Slots that are taken one by one.
use Rattle.std.proofs.Common.{◌≡◌, inl, inr, ℕ, ◌+◌, Bool, true, false, cond, List, [], ◌∷◌, ◌++◌, length, map, reverse, Option, Some, None, Ok, Err, refl, sym, ◌∙◌, ap, subst, arith, append_assoc, length-append}
use Rattle.std.specs.Prelude.{is_some}
use Rattle.std.specs.List.{flat_map, AllByRecursion}
use Rattle.std.specs.declared.cmp.Ordering.{Ordering}
use Rattle.std.specs.declared.cmp.Ordering.TheVariants.{Less, Equal, Greater}
use Rattle.std.specs.Ordering.{nat_cmp}
use Rattle.std.specs.Cmp.{nat_cmp_total, ranked}
use Rattle.std.specs.FinMap as maps
use Rattle.std.specs.FinMap.{find, put, nat_cmp-IsAntisymmetric}
use Rattle.std.specs.FinMap.Entries.{by_order}
use Rattle.std.proofs.lemmas.List.Concat.{flat_map-append}
use Rattle.std.proofs.lemmas.List.{append-nil, map_push, map-append, reverse-append, nil_from_length}
use Rattle.vec_record.specs.Held as held
use Rattle.vec_record.specs.Limits.{width_of}
use Rattle.stored_lines.specs.declared.line.Line.{Line}
use Rattle.stored_lines.specs.Lines as lines_in
use Rattle.page_layout.specs.declared.slot.Slot.{Slot}
use Rattle.page_layout.specs.Heads.{Values}
use Rattle.page_layout.specs.Slots.{Rows, IsRow, IsSlot}
use Rattle.node_places.specs.Slots.{has}
use Rattle.store_image.specs.declared.fault.StoreFault.{StoreFault}
use Rattle.store_image.specs.declared.fault.StoreFault.TheVariants.{Foreign, Damaged, Memory}
use Rattle.store_image.specs.Images.{number_of, entry_of, line_of, vectors_of, lines_of}
use Rattle.store_image.specs.Loading.{first_repeated, unless_repeated, Fails}
use Rattle.store_image.specs.Placing.{CanStand}
use Rattle.store_image.specs.inside.Reads.{repeats, line_with, MayRepeat, AreTied, Taking, Took}
use Rattle.store_image.proofs.LoadNumbers.{once_push, first_found}
use Rattle.store_image.proofs.LoadEntries.{found_number, found_line}
use Rattle.store_image.proofs.LoadApart.{slot_line, lines_more}

-- one slot more
all_put : (P : ℕ × List ℕ → Type 0) (n : ℕ) (v : List ℕ) (es : List (ℕ × List ℕ)) → P (n, v) → AllByRecursion P es → AllByRecursion P (put nat_cmp n v es)
all_put P n v [] one all = (one, tt)
all_put P n v (e ∷ es) one all = at (nat_cmp n e.0) (λ is. ranked n e.0 Equal (sym is)) refl (all_put P n v es one all.1)
  where
    at : (o : Ordering) → (nat_cmp n e.0 ≡ Equal → n ≡ e.0) → nat_cmp n e.0 ≡ o → AllByRecursion P (put nat_cmp n v es) → AllByRecursion P (by_order o ((n, v) ∷ e ∷ es) ((e.0, v) ∷ es) (e ∷ put nat_cmp n v es))
    at Less same is rest = (one, (all.0, all.1))
    at Equal same is rest = (subst (λ (k : ℕ). P (k, v)) (same is) one, all.1)
    at Greater same is rest = (all.0, rest)

all_inserted : (P : ℕ × List ℕ → Type 0) (m : held.Rows) (n : ℕ) (v : List ℕ) → P (n, v) → AllByRecursion P (maps.entries m) → AllByRecursion P (maps.entries (maps.insert m n v))
all_inserted P m n v one all = subst (AllByRecursion P) (sym (maps.entries-insert nat_cmp_total m n v)) (all_put P n v (maps.entries m) one all)

entries_push : (done : Rows) (row : Option Slot) → flat_map entry_of (done ++ row ∷ []) ≡ flat_map entry_of done ++ entry_of row
entries_push done row = flat_map-append entry_of done (row ∷ []) ∙ ap (λ (l : List (ℕ × List ℕ)). flat_map entry_of done ++ l) (append-nil (entry_of row))

lines_push : (done : Rows) (row : Option Slot) → lines_of (done ++ row ∷ []) ≡ lines_of done ++ line_of row
lines_push done row = flat_map-append line_of done (row ∷ []) ∙ ap (λ (l : List Line). flat_map line_of done ++ l) (append-nil (line_of row))

abbrev held_of : Values → held.Rows → held.Held
held_of v m = record { width = width_of v.metric v.dim; vectors = m }

-- a record is there exactly where a line is
tied_of : (rows : Rows) (q : ℕ) → is_some (maps.get (vectors_of rows) q) ≡ has (map lines_in.number_of (lines_of rows)) q
tied_of rows q = ap is_some (maps.get-from_entries nat_cmp_total (flat_map entry_of rows) q) ∙ found_line rows q

module _ (v : Values) (all rest : Rows) (numbers : List ℕ) (lines : List Line) (records : held.Held) where
  pub taking_free : Taking v all (None ∷ rest) numbers lines records → Taking v all rest (numbers ++ 0 ∷ []) lines records
  taking_free t = record {
    done = t.done ++ None ∷ [];
    parts = t.parts ∙ sym (append_assoc t.done (None ∷ []) rest);
    lawful = t.lawful.1;
    numbers_are = ap (λ (l : List ℕ). l ++ 0 ∷ []) t.numbers_are ∙ sym (map_push number_of t.done None);
    once = once_push numbers 0 t.once (inl refl);
    lines_are = t.lines_are ∙ sym (lines_push t.done None ∙ append-nil (lines_of t.done));
    records_are = t.records_are ∙ ap (λ (l : List (ℕ × List ℕ)). held_of v (maps.from_entries l)) (sym (entries_push t.done None ∙ append-nil (flat_map entry_of t.done)));
    tied = t.tied;
  }

  module _ (kinds : List ℕ) (s : Slot) (t : Taking v all (Some s ∷ rest) numbers lines records) where
    abbrev lawful : IsSlot v s
    lawful = t.lawful.0

    vectors_are : records.vectors ≡ vectors_of t.done
    vectors_are = ap (λ (r : held.Held). r.vectors) t.records_are

    -- the number is there where it stood before
    there_is : is_some (maps.get records.vectors s.number) ≡ has numbers s.number
    there_is =
        ap (λ (m : held.Rows). is_some (maps.get m s.number)) vectors_are
        ∙ ap is_some (maps.get-from_entries nat_cmp_total (flat_map entry_of t.done) s.number)
        ∙ found_number t.done s.number lawful.number
        ∙ ap (λ (l : List ℕ). has l s.number) (sym t.numbers_are)

    pub taking_used : maps.get records.vectors s.number ≡ None → Taking v all rest (numbers ++ s.number ∷ []) (lines ++ line_with s ∷ []) (record records { vectors = maps.insert records.vectors s.number s.vector })
    taking_used none =
        let away : has numbers s.number ≡ false = sym there_is ∙ ap is_some none in
        let absent : find nat_cmp s.number (flat_map entry_of t.done) ≡ None = sym (maps.get-from_entries nat_cmp_total (flat_map entry_of t.done) s.number) ∙ ap (λ (m : held.Rows). maps.get m s.number) (sym vectors_are) ∙ none in
        let more : vectors_of (t.done ++ Some s ∷ []) ≡ maps.insert records.vectors s.number s.vector =
        ap maps.from_entries (entries_push t.done (Some s)) ∙ maps.from_entries_push nat_cmp_total nat_cmp-IsAntisymmetric (flat_map entry_of t.done) s.number s.vector absent
        ∙ ap (λ (m : held.Rows). maps.insert m s.number s.vector) (sym vectors_are) in
        let lines_more_are : lines ++ line_with s ∷ [] ≡ lines_of (t.done ++ Some s ∷ []) = ap (λ (l : List Line). l ++ line_with s ∷ []) t.lines_are ∙ sym (lines_push t.done (Some s)) in
        let line_away : has (map lines_in.number_of lines) s.number ≡ false = sym (t.tied.tied s.number) ∙ ap is_some none in
        record {
          done = t.done ++ Some s ∷ [];
          parts = t.parts ∙ sym (append_assoc t.done (Some s ∷ []) rest);
          lawful = t.lawful.1;
          numbers_are = ap (λ (l : List ℕ). l ++ s.number ∷ []) t.numbers_are ∙ sym (map_push number_of t.done (Some s));
          once = once_push numbers s.number t.once (inr away);
          lines_are = lines_more_are;
          records_are = λ i. record { width = (t.records_are i).width; vectors = sym more i };
          tied = record {
            lawful = lines_more v.minpts lines (line_with s) t.tied.lawful (slot_line v s lawful) line_away;
            count = maps.len-insert nat_cmp_total records.vectors s.number s.vector
                ∙ ap (λ (b : Bool). cond b (maps.len records.vectors) (maps.len records.vectors + 1)) (ap is_some none)
                ∙ ap (λ (n : ℕ). n + 1) t.tied.count ∙ sym (length-append lines (line_with s ∷ []));
            tied = λ q. ap (λ (m : held.Rows). is_some (maps.get m q)) (sym more) ∙ tied_of (t.done ++ Some s ∷ []) q ∙ ap (λ (l : List Line). has (map lines_in.number_of l) q) (sym lines_more_are);
            stand = all_inserted (CanStand v) records.vectors s.number s.vector (record { number = lawful.number; vector = lawful.vector; spelled = lawful.spelled }) t.tied.stand;
          };
        }

    found_again : has numbers s.number ≡ true → first_repeated (map number_of all) ≡ Some (length numbers)
    found_again there =
        ap (λ (l : Rows). first_repeated (map number_of l)) t.parts
        ∙ ap first_repeated (map-append number_of t.done (Some s ∷ rest))
        ∙ ap (λ (l : List ℕ). first_repeated (l ++ s.number ∷ map number_of rest)) (sym t.numbers_are)
        ∙ first_found numbers s.number (map number_of rest) t.once lawful.number there

    pub taking_fails : (e : StoreFault) → MayRepeat v kinds (length numbers) (maps.get records.vectors s.number) e → Fails e (repeats v kinds (map number_of all))
    taking_fails e may = at (maps.get records.vectors s.number) refl e may
      where
        at : (o : Option (List ℕ)) → maps.get records.vectors s.number ≡ o → (e : StoreFault) → MayRepeat v kinds (length numbers) o e → Fails e (repeats v kinds (map number_of all))
        at o is Memory may = tt
        at o is Foreign may = absurd may
        at None is (Damaged page offset) may = absurd may
        at (Some vector) is (Damaged page offset) may =
            ap (λ (p : Option ℕ). unless_repeated (width_of v.metric v.dim) kinds p (Ok tt)) (found_again (sym there_is ∙ ap is_some is)) ∙ ap Err (sym may)

pub popped : {A : Type 0} (all rest : List A) (row : A) → all ≡ rest ++ row ∷ [] → reverse all ≡ row ∷ reverse rest
popped all rest row is = ap reverse is ∙ reverse-append rest (row ∷ [])

-- no record stands in no records
none_stand : (v : Values) → AllByRecursion (CanStand v) (maps.entries (maps.empty {X = List ℕ} {R = nat_cmp}))
none_stand v = subst (AllByRecursion (CanStand v)) (sym (nil_from_length (maps.entries maps.empty) (sym (maps.len-entries maps.empty) ∙ maps.len-empty nat_cmp (List ℕ)))) tt

none_tied : (v : Values) → AreTied v [] maps.empty
none_tied v = record {
  lawful = record { each = tt; once = λ n. omega arith };
  count = maps.len-empty nat_cmp (List ℕ);
  tied = λ a. ap is_some (maps.get-empty nat_cmp a);
  stand = none_stand v;
}

pub taking_start : (v : Values) (all : Rows) (records : held.Held) → AllByRecursion (IsRow v) all → records ≡ record { width = width_of v.metric v.dim; vectors = maps.empty } → Taking v all all [] [] records
taking_start v all records all_lawful is = record {
  done = [];
  parts = refl;
  lawful = all_lawful;
  numbers_are = refl;
  once = refl;
  lines_are = refl;
  records_are = is;
  tied = subst (λ (r : held.Held). AreTied v [] r.vectors) (sym is) (none_tied v);
}

pub taking_end : (v : Values) (all : Rows) (numbers : List ℕ) (lines : List Line) (records : held.Held) → Taking v all [] numbers lines records → Took v all numbers lines records
taking_end v all numbers lines records t =
    let done : t.done ≡ all = sym (t.parts ∙ append-nil t.done) in
    let are : numbers ≡ map number_of all = t.numbers_are ∙ ap (map number_of) done in
    record {
      numbers_are = are;
      once = ap first_repeated (sym are) ∙ t.once;
      lines_are = t.lines_are ∙ ap lines_of done;
      records_are = t.records_are ∙ ap (λ (l : Rows). held_of v (vectors_of l)) done;
      tied = t.tied;
    }
