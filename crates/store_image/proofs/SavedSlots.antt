-- Slots after a save: their numbers, records and lines, and that they are lawful.
use Rattle.std.proofs.Common.{◌≡◌, inl, inr, ℕ, ◌+◌, ◌<◌, ◌≤◌, ◌^◌, Bool, true, false, cond, ◌||◌, ◌&&◌, List, [], ◌∷◌, ◌++◌, length, map, Option, Some, None, refl, sym, ◌∙◌, ap, subst, arith}
use Rattle.std.specs.Prelude.{◌==◌, nat_le, is_some, unwrap_or}
use Rattle.std.specs.List.{flat_map, AllByRecursion}
use Rattle.std.specs.Ordering.{nat_cmp, eq_by_cmp}
use Rattle.std.specs.Cmp.{nat_cmp_total}
use Rattle.std.specs.FinMap as maps
use Rattle.std.specs.FinMap.{find, nat_cmp-IsAntisymmetric}
use Rattle.std.proofs.lemmas.Bool.{cases_Bool, cases_eq, eqb-true, eq-eqb, ne_eqb, false≢true, or_left, or_right, leb-true, leb-false, le-leb}
use Rattle.std.proofs.lemmas.List.{length-map}
use Rattle.vec_record.specs.Held as held
use Rattle.node_places.specs.Slots.{has, AreApart}
use Rattle.node_places.proofs.Keys.{tied_is}
use Rattle.count_book.specs.declared.row.Row.{Row}
use Rattle.count_book.specs.Counted.{anchor_in}
use Rattle.update_seed.specs.Books.{Fits}
use Rattle.stored_lines.specs.declared.line.Line.{Line}
use Rattle.stored_lines.specs.Lines.{IsLine, AreLines, count_in, line_in}
use Rattle.stored_lines.specs.Laws.{HaveForm, AreFormed, AreHung, AreNumbers, AreLinesOf}
use Rattle.stored_lines.proofs.Back.{lines_are_lawful, books_come_back}
use Rattle.kept_clusters.specs.Kept.{Kept}
use Rattle.page_layout.specs.declared.slot.Slot.{Slot}
use Rattle.page_layout.specs.Heads.{Values}
use Rattle.page_layout.specs.Slots.{Rows, IsSlot, IsRow, is_core_count}
use Rattle.store_image.specs.Images.{number_of, entry_of, line_of, vectors_of, lines_of}
use Rattle.store_image.specs.Placing.{slot_with, slot_for, CanStand, AreBounded}
use Rattle.store_image.proofs.SavedNumbers.{used_in, has_used, none_zero, each_some, used_once}

abbrev Entries : Type 0
Entries = List (ℕ × List ℕ)

there : {A : Type 0} (o : Option A) (d : A) → is_some o ≡ true → o ≡ Some (unwrap_or o d)
there None d is = absurd (false≢true is)
there (Some x) d is = refl

nowhere : {A : Type 0} (o : Option A) → is_some o ≡ false → o ≡ None
nowhere None is = refl
nowhere (Some x) is = absurd (false≢true (sym is))

-- what holds of each entry holds of what is found
found_so : (P : ℕ × List ℕ → Type 0) (es : Entries) (q : ℕ) → AllByRecursion P es → is_some (find nat_cmp q es) ≡ true → P (q, unwrap_or (find nat_cmp q es) [])
found_so P [] q all is = absurd (false≢true is)
found_so P (e ∷ es) q all is = at (eq_by_cmp nat_cmp q e.0) (tied_is q e.0) (λ rest. found_so P es q all.1 rest) is
  where
    at : (b : Bool) → b ≡ (e.0 == q) → (is_some (find nat_cmp q es) ≡ true → P (q, unwrap_or (find nat_cmp q es) [])) → is_some (cond b (Some e.1) (find nat_cmp q es)) ≡ true → P (q, unwrap_or (cond b (Some e.1) (find nat_cmp q es)) [])
    at true same rest found = subst (λ (n : ℕ). P (n, e.1)) (eqb-true e.0 q (sym same)) all.0
    at false same rest found = rest found

-- the record of a number that stands there
pub record_so : (vectors : held.Rows) (P : ℕ × List ℕ → Type 0) (q : ℕ) → AllByRecursion P (maps.entries vectors) → maps.contains_key vectors q ≡ true → P (q, unwrap_or (maps.get vectors q) [])
record_so vectors P q all is =
    let by : maps.get vectors q ≡ find nat_cmp q (maps.entries vectors) = maps.get-entries vectors q in
    subst (λ (o : Option (List ℕ)). P (q, unwrap_or o [])) (sym by) (found_so P (maps.entries vectors) q all (ap is_some (sym by) ∙ is))

-- as many keys as entries
pub length-keys : (vectors : held.Rows) → length (maps.keys vectors) ≡ maps.len vectors
length-keys vectors = length-map (maps.entries vectors) (λ e. e.0) ∙ sym (maps.len-entries vectors)

-- no record has the number 0
pub no_zero : (v : Values) (vectors : held.Rows) → AllByRecursion (CanStand v) (maps.entries vectors) → maps.contains_key vectors 0 ≡ false
no_zero v vectors each = elim (cases_Bool (maps.contains_key vectors 0)) [
  | inl is ↦ absurd ((record_so vectors (CanStand v) 0 each is).number refl)
  | inr away ↦ away
]

pub none_at_zero : (v : Values) (vectors : held.Rows) → AllByRecursion (CanStand v) (maps.entries vectors) → held.NoneAtZero vectors
none_at_zero v vectors each = nowhere (maps.get vectors 0) (no_zero v vectors each)

module _ (vectors : held.Rows) (kept : Kept) where
  abbrev line : ℕ → Line
  line n = line_in kept.counts kept.labels n

  abbrev slot : ℕ → Slot
  slot n = slot_with (unwrap_or (maps.get vectors n) []) (line n)

  abbrev slots : List ℕ → Rows
  slots ns = map (slot_for vectors kept) ns

  pub numbers_back : (ns : List ℕ) → map number_of (map (slot_for vectors kept) ns) ≡ ns
  numbers_back [] = refl
  numbers_back (n ∷ ns) = ap (λ (k : ℕ). k ∷ map number_of (slots ns)) (at (n == 0) refl) ∙ ap (λ (l : List ℕ). n ∷ l) (numbers_back ns)
    where
      at : (b : Bool) → (n == 0) ≡ b → number_of (cond b None (Some (slot n))) ≡ n
      at true is = sym (eqb-true n 0 is)
      at false is = refl

  pub lines_back : (ns : List ℕ) → lines_of (map (slot_for vectors kept) ns) ≡ map (line_in kept.counts kept.labels) (used_in ns)
  lines_back [] = refl
  lines_back (n ∷ ns) = at (n == 0) (lines_back ns)
    where
      at : (b : Bool) → lines_of (slots ns) ≡ map (line_in kept.counts kept.labels) (used_in ns)
          → line_of (cond b None (Some (slot n))) ++ lines_of (slots ns) ≡ map (line_in kept.counts kept.labels) (cond b (used_in ns) (n ∷ used_in ns))
      at true rest = rest
      at false rest = ap (λ (l : List Line). line n ∷ l) rest

  abbrev at_most_one : ℕ → Bool → Option (List ℕ)
  at_most_one q b = cond b (Some (unwrap_or (maps.get vectors q) [])) None

  find_slots : (ns : List ℕ) (q : ℕ) → (q ≡ 0 → ⊥) → find nat_cmp q (flat_map entry_of (slots ns)) ≡ at_most_one q (has ns q)
  find_slots [] q some = refl
  find_slots (n ∷ ns) q some = elim (cases_Bool (n == 0)) [
    | inl free ↦
        let other : (n == q) ≡ false = ne_eqb n q (λ is. some (sym is ∙ eqb-true n 0 free)) in
        ap (λ (b : Bool). find nat_cmp q (entry_of (cond b None (Some (slot n))) ++ flat_map entry_of (slots ns))) free
        ∙ find_slots ns q some ∙ ap (λ (b : Bool). at_most_one q (b || has ns q)) (sym other)
    | inr used ↦
        ap (λ (b : Bool). find nat_cmp q (entry_of (cond b None (Some (slot n))) ++ flat_map entry_of (slots ns))) used
        ∙ at (eq_by_cmp nat_cmp q n) (tied_is q n) (find_slots ns q some)
  ]
    where
      at : (b : Bool) → b ≡ (n == q) → find nat_cmp q (flat_map entry_of (slots ns)) ≡ at_most_one q (has ns q)
          → cond b (Some (unwrap_or (maps.get vectors n) [])) (find nat_cmp q (flat_map entry_of (slots ns))) ≡ at_most_one q ((n == q) || has ns q)
      at true is rest = ap (λ (k : ℕ). Some (unwrap_or (maps.get vectors k) [])) (eqb-true n q (sym is)) ∙ ap (λ (b : Bool). at_most_one q (b || has ns q)) is
      at false is rest = rest ∙ ap (λ (b : Bool). at_most_one q (b || has ns q)) is

  find_zero : (ns : List ℕ) → find nat_cmp 0 (flat_map entry_of (slots ns)) ≡ None
  find_zero [] = refl
  find_zero (n ∷ ns) = elim (cases_Bool (n == 0)) [
    | inl free ↦ ap (λ (b : Bool). find nat_cmp 0 (entry_of (cond b None (Some (slot n))) ++ flat_map entry_of (slots ns))) free ∙ find_zero ns
    | inr used ↦ ap (λ (b : Bool). find nat_cmp 0 (entry_of (cond b None (Some (slot n))) ++ flat_map entry_of (slots ns))) used
        ∙ ap (λ (b : Bool). cond b (Some (unwrap_or (maps.get vectors n) [])) (find nat_cmp 0 (flat_map entry_of (slots ns)))) (tied_is 0 n ∙ used) ∙ find_zero ns
  ]

  -- exactly the records stand in slots
  abbrev pub AllStand : List ℕ → Type 0
  AllStand ns = (m : ℕ) → (m ≡ 0 → ⊥) → has ns m ≡ maps.contains_key vectors m

  pub vectors_back : (ns : List ℕ) → AllStand ns → maps.contains_key vectors 0 ≡ false → vectors_of (map (slot_for vectors kept) ns) ≡ vectors
  vectors_back ns stands none = maps.same_map nat_cmp_total nat_cmp-IsAntisymmetric (vectors_of (slots ns)) vectors (λ q. maps.get-from_entries nat_cmp_total (flat_map entry_of (slots ns)) q ∙ at q)
    where
      by_key : (q : ℕ) (b : Bool) → maps.contains_key vectors q ≡ b → at_most_one q b ≡ maps.get vectors q
      by_key q true is = sym (there (maps.get vectors q) [] is)
      by_key q false is = sym (nowhere (maps.get vectors q) is)

      at : (q : ℕ) → find nat_cmp q (flat_map entry_of (slots ns)) ≡ maps.get vectors q
      at q = elim (cases_eq q 0) [
        | inl zero_is ↦ ap (λ (k : ℕ). find nat_cmp k (flat_map entry_of (slots ns))) zero_is ∙ find_zero ns ∙ sym (nowhere (maps.get vectors 0) none) ∙ ap (maps.get vectors) (sym zero_is)
        | inr some ↦ find_slots ns q some ∙ ap (at_most_one q) (stands q some) ∙ by_key q (maps.contains_key vectors q) refl
      ]

  len_slots : (ns : List ℕ) → AreApart ns → maps.len (vectors_of (slots ns)) ≡ length (used_in ns)
  len_slots [] apart = maps.len-empty nat_cmp (List ℕ)
  len_slots (n ∷ ns) apart = elim (cases_Bool (n == 0)) [
    | inl free ↦
        ap (λ (b : Bool). maps.len (maps.from_entries {R = nat_cmp} (entry_of (cond b None (Some (slot n))) ++ flat_map entry_of (slots ns)))) free
        ∙ len_slots ns apart.1 ∙ ap (λ (b : Bool). length (cond b (used_in ns) (n ∷ used_in ns))) (sym free)
    | inr used ↦
        let some : (n ≡ 0 → ⊥) = λ zero_is. false≢true (sym used ∙ eq-eqb n 0 zero_is) in
        let away : has ns n ≡ false = elim apart.0 [ inl is ↦ absurd (some is) | inr none ↦ none ] in
        let absent : maps.contains_key (vectors_of (slots ns)) n ≡ false =
        ap is_some (maps.get-from_entries nat_cmp_total (flat_map entry_of (slots ns)) n ∙ find_slots ns n some) ∙ ap (λ (b : Bool). is_some (at_most_one n b)) away in
        let one : maps.len (maps.insert (vectors_of (slots ns)) n (unwrap_or (maps.get vectors n) [])) ≡ length (used_in ns) + 1 =
        maps.len-insert nat_cmp_total (vectors_of (slots ns)) n (unwrap_or (maps.get vectors n) [])
        ∙ ap (λ (b : Bool). cond b (maps.len (vectors_of (slots ns))) (maps.len (vectors_of (slots ns)) + 1)) absent
        ∙ ap (λ (k : ℕ). k + 1) (len_slots ns apart.1) in
        ap (λ (b : Bool). maps.len (maps.from_entries {R = nat_cmp} (entry_of (cond b None (Some (slot n))) ++ flat_map entry_of (slots ns)))) used
        ∙ one ∙ omega arith ∙ ap (λ (b : Bool). length (cond b (used_in ns) (n ∷ used_in ns))) (sym used)
  ]

  -- as many lines as records
  pub lines_long : (ns : List ℕ) → AllStand ns → maps.contains_key vectors 0 ≡ false → AreApart ns → length (lines_of (map (slot_for vectors kept) ns)) ≡ maps.len vectors
  lines_long ns stands none apart =
      ap length (lines_back ns) ∙ length-map (used_in ns) (line_in kept.counts kept.labels) ∙ sym (len_slots ns apart) ∙ ap maps.len (vectors_back ns stands none)

-- what a slot holds is small
count_small : (o : Option Row) → ((r : Row) → o ≡ Some r → r.count < 2 ^ 32) → count_in o < 2 ^ 32
count_small None small = omega arith
count_small (Some r) small = small r refl

number_small : (o : Option ℕ) → ((b : ℕ) → o ≡ Some b → b < 2 ^ 32) → unwrap_or o 0 < 2 ^ 32
number_small None small = omega arith
number_small (Some b) small = small b refl

anchor_small : (o : Option Row) → ((r : Row) (b : ℕ) → o ≡ Some r → r.anchor ≡ Some b → b < 2 ^ 32) → unwrap_or (anchor_in o) 0 < 2 ^ 32
anchor_small None small = omega arith
anchor_small (Some r) small = number_small r.anchor (λ b is. small r b refl is)

-- and its fields are beside each other as they are to be
anchor_lawful : (b : Bool) (anchor : ℕ) → (b ≡ true → anchor ≡ 0) → cond b (anchor == 0) true ≡ true
anchor_lawful true anchor core = eq-eqb anchor 0 (core refl)
anchor_lawful false anchor core = refl

label_lawful : (b : Bool) (number label : ℕ) → (b ≡ true → 1 ≤ label) → (b ≡ true → label ≤ number) → (b ≡ false → label ≡ 0) → cond b (nat_le 1 label && nat_le label number) (label == 0) ≡ true
label_lawful true number label some least none =
    ap (λ (b : Bool). b && nat_le label number) (le-leb 1 label (some refl)) ∙ le-leb label number (least refl)
label_lawful false number label some least none = eq-eqb label 0 (none refl)

module _ (v : Values) (dist : List ℕ → List ℕ → ℕ) (records : held.Held) (kept : Kept) (each : AllByRecursion (CanStand v) (maps.entries records.vectors)) (bounded : AreBounded dist records kept) (minpts : kept.counts.minpts ≡ v.minpts) where
  abbrev Line_of : ℕ → Type 0
  Line_of n = IsLine kept.counts.minpts (line records.vectors kept n)

  slot_lawful : (n : ℕ) → (n ≡ 0 → ⊥) → maps.contains_key records.vectors n ≡ true → Line_of n → IsSlot v (slot records.vectors kept n)
  slot_lawful n some stands is =
      let stood = record_so records.vectors (CanStand v) n each stands in
      let of = line records.vectors kept n in
      let core : is_core_count v of.count ≡ true → kept.counts.minpts ≤ of.count = λ yes_core. subst (λ (m : ℕ). m ≤ of.count) (sym minpts) (leb-true v.minpts of.count yes_core) in
      let not_core : is_core_count v of.count ≡ false → of.count < kept.counts.minpts = λ no_core. subst (λ (m : ℕ). of.count < m) (sym minpts) (leb-false v.minpts of.count no_core) in
      record {
        number = some;
        small = bounded.numbers n (unwrap_or (maps.get records.vectors n) []) (there (maps.get records.vectors n) [] stands);
        count = is.count;
        count_fits = count_small (maps.get kept.counts.rows n) (λ r at. bounded.counts n r at);
        anchor = anchor_lawful (is_core_count v of.count) of.anchor (λ b. is.unhung (core b));
        anchor_fits = anchor_small (maps.get kept.counts.rows n) (λ r b at its. bounded.anchors n r b at its);
        label = label_lawful (is_core_count v of.count) n of.label (λ b. is.labelled (core b)) (λ b. is.least (core b)) (λ b. is.unlabelled (not_core b));
        vector = stood.vector;
        spelled = stood.spelled;
      }

  pub slots_lawful : (ns : List ℕ) → ((m : ℕ) → (m ≡ 0 → ⊥) → has ns m ≡ true → maps.contains_key records.vectors m ≡ true)
      → AllByRecursion (IsLine kept.counts.minpts) (map (line_in kept.counts kept.labels) (used_in ns)) → AllByRecursion (IsRow v) (map (slot_for records.vectors kept) ns)
  slots_lawful [] stands lines = tt
  slots_lawful (n ∷ ns) stands lines =
      let rest = slots_lawful ns (λ m some is. stands m some (or_right (n == m) (has ns m) is)) in
      elim (cases_Bool (n == 0)) [
        | inl free ↦
            let mine : IsRow v (slot_for records.vectors kept n) = subst (λ (b : Bool). IsRow v (cond b None (Some (slot records.vectors kept n)))) (sym free) tt in
            let lines_rest = subst (λ (b : Bool). AllByRecursion (IsLine kept.counts.minpts) (map (line_in kept.counts kept.labels) (cond b (used_in ns) (n ∷ used_in ns)))) free lines in
            (mine, rest lines_rest)
        | inr used ↦
            let some : (n ≡ 0 → ⊥) = λ zero_is. false≢true (sym used ∙ eq-eqb n 0 zero_is) in
            let lines_all = subst (λ (b : Bool). AllByRecursion (IsLine kept.counts.minpts) (map (line_in kept.counts kept.labels) (cond b (used_in ns) (n ∷ used_in ns)))) used lines in
            let stood = stands n some (or_left (n == n) (has ns n) (eq-eqb n n refl)) in
            let mine : IsRow v (slot_for records.vectors kept n) = subst (λ (b : Bool). IsRow v (cond b None (Some (slot records.vectors kept n)))) (sym used) (slot_lawful n some stood lines_all.0) in
            (mine, rest lines_all.1)
      ]

-- the books over numbers in which exactly the records stand
module _ (width : ℕ) (contents : held.Rows) (records : held.Held) (kept : Kept) (fits : Fits width contents records kept.counts kept.labels) (none : maps.contains_key records.vectors 0 ≡ false) (ns : List ℕ) (apart : AreApart ns) (stands : AllStand records.vectors kept ns) where
  exact : (a : ℕ) → is_some (maps.get kept.counts.rows a) ≡ has (used_in ns) a
  exact a = elim (cases_eq a 0) [
    | inl zero_is ↦ fits.numbers a ∙ ap (maps.contains_key records.vectors) zero_is ∙ none ∙ sym (none_zero ns) ∙ ap (has (used_in ns)) (sym zero_is)
    | inr some ↦ fits.numbers a ∙ sym (stands a some) ∙ sym (has_used ns a some)
  ]

  numbers_are : AreNumbers kept.counts (used_in ns)
  numbers_are = record { exact = exact; once = used_once ns apart; some = each_some ns }

  pub lines_lawful : AreLines kept.counts.minpts (map (line_in kept.counts kept.labels) (used_in ns))
  lines_lawful =
      let formed : AreFormed kept.counts kept.labels = record { counted = fits.counted; unhung = fits.unhung; labelled = fits.labelled; least = fits.least } in
      lines_are_lawful kept.counts kept.labels (used_in ns) formed numbers_are

  pub lines_told : AreHung kept.counts → AreLinesOf kept.counts kept.labels (map (line_in kept.counts kept.labels) (used_in ns))
  lines_told hung =
      let form : HaveForm kept.counts kept.labels = record { counted = fits.counted; unhung = fits.unhung; anchored = hung; labelled = fits.labelled; least = fits.least } in
      books_come_back kept.counts kept.labels (used_in ns) form numbers_are
