-- Lists of answers: their texts, the batches that they accept, and the receipts within the first bytes.
use Rattle.std.proofs.Common.{◌≡◌, ℕ, ◌+◌, ◌-◌, ◌≤◌, Bool, true, false, cond, List, [], ◌∷◌, ◌++◌, length, refl, sym, ap, ◌∙◌, arith}
use Rattle.std.specs.Prelude.{Option, Some, None, nat_le, ◌||◌}
use Rattle.std.specs.List.{list_any}
use Rattle.std.proofs.lemmas.Bool.Decides.{nat_tests}
use Rattle.std.proofs.lemmas.Grind.{flat_map-append}
use Rattle.std.proofs.lemmas.List.{length-append}
use Rattle.std.proofs.lemmas.List.Folds.{list_any-append}
use Rattle.vec_record.specs.declared.change.Change.{Change}
use Rattle.vec_record.specs.Held.{Rows}
use Rattle.page_layout.specs.Heads.{Values}
use Rattle.session_desk.specs.Session.{Request, Answer, text_of, in_list, accepted_by, acked, rows_behind, batches_behind, rows_after_all}
use Rattle.session_desk.specs.Talks.{Desk, answer_on, answers_on, desk_behind, desk_after}

pub text-append : (d e : List Answer) → text_of (d ++ e) ≡ text_of d ++ text_of e
text-append d e = flat_map-append (λ (a : Answer). a.text) d e

pub accepted-append : (d e : List Answer) → accepted_by (d ++ e) ≡ accepted_by d ++ accepted_by e
accepted-append d e = flat_map-append (λ (a : Answer). in_list a.accepted) d e

rows-first : (v : Values) (rows : Rows) (o : Option (List Change)) (more : List (List Change)) → rows_after_all v rows (in_list o ++ more) ≡ rows_after_all v (rows_behind v rows o) more
rows-first v rows None more = refl
rows-first v rows (Some changes) more = refl

batches-first : (n : ℕ) (o : Option (List Change)) (more : List (List Change)) → n + length (in_list o ++ more) ≡ batches_behind n o + length more
batches-first n None more = refl
batches-first n (Some changes) more = omega arith

-- the answers to more requests are those over the desk behind the first
pub answers-split : (d : Desk) (asked rest : List Request) → answers_on d (asked ++ rest) ≡ answers_on d asked ++ answers_on (desk_after d asked) rest
answers-split d [] rest = refl
answers-split d (q ∷ asked) rest = ap (λ (l : List Answer). answer_on d q ∷ l) (answers-split (desk_behind d (answer_on d q)) asked rest)

-- the desk behind one request more
pub after-one : (d : Desk) (asked : List Request) (q : Request) → desk_after d (asked ++ q ∷ []) ≡ desk_behind (desk_after d asked) (answer_on (desk_after d asked) q)
after-one d [] q = refl
after-one d (r ∷ asked) q = after-one (desk_behind d (answer_on d r)) asked q

-- the store behind requests is that of the accepted batches
pub values-after : (d : Desk) (asked : List Request) → (desk_after d asked).values ≡ d.values
values-after d [] = refl
values-after d (q ∷ asked) = values-after (desk_behind d (answer_on d q)) asked

pub rows-after : (d : Desk) (asked : List Request) → (desk_after d asked).state.rows ≡ rows_after_all d.values d.state.rows (accepted_by (answers_on d asked))
rows-after d [] = refl
rows-after d (q ∷ asked) =
    let a = answer_on d q in
    rows-after (desk_behind d a) asked ∙ sym (rows-first d.values d.state.rows a.accepted (accepted_by (answers_on (desk_behind d a) asked)))

pub batches-after : (d : Desk) (asked : List Request) → (desk_after d asked).state.batches ≡ d.state.batches + length (accepted_by (answers_on d asked))
batches-after d [] = omega arith
batches-after d (q ∷ asked) =
    let a = answer_on d q in
    batches-after (desk_behind d a) asked ∙ sym (batches-first d.state.batches a.accepted (accepted_by (answers_on (desk_behind d a) asked)))

-- whether a request was refused so far
pub refused-one : (d : Desk) (asked : List Request) (q : Request) (before one : Bool) → before ≡ list_any (λ (a : Answer). a.refused) (answers_on d asked) → one ≡ (answer_on (desk_after d asked) q).refused
    → (before || one) ≡ list_any (λ (a : Answer). a.refused) (answers_on d (asked ++ q ∷ []))
refused-one d asked q before one is one-is =
    let p : Answer → Bool = λ a. a.refused in
    let last = answer_on (desk_after d asked) q in
    ap (λ (b : Bool). b || one) is
    ∙ ap (λ (b : Bool). list_any p (answers_on d asked) || b) (one-is ∙ alone last.refused)
    ∙ sym (ap (list_any p) (answers-split d asked (q ∷ [])) ∙ list_any-append p (answers_on d asked) (last ∷ []))
  where
    alone : (b : Bool) → b ≡ (b || false)
    alone true = refl
    alone false = refl

-- receipts behind whole answers
pub acked-past : (d e : List Answer) (x : ℕ) → acked (length (text_of d) + x) (d ++ e) ≡ length (accepted_by d) + acked x e
acked-past [] e x =
    let s : 0 + x ≡ x = omega arith in
    let z : acked x e ≡ 0 + acked x e = omega arith in
    ap (λ (k : ℕ). acked k e) s ∙ z
acked-past (a ∷ d) e x =
    let k : ℕ = length (a.text ++ text_of d) + x in
    let long : length (a.text ++ text_of d) ≡ length a.text + length (text_of d) = length-append a.text (text_of d) in
    let fits : nat_le (length a.text) k ≡ true = le-true (length a.text) k (omega (arith, long)) in
    let rest : k - length a.text ≡ length (text_of d) + x = omega (arith, long) in
    let later : acked (k - length a.text) (d ++ e) ≡ length (accepted_by d) + acked x e = ap (λ (j : ℕ). acked j (d ++ e)) rest ∙ acked-past d e x in
    let counted : length (in_list a.accepted ++ accepted_by d) ≡ length (in_list a.accepted) + length (accepted_by d) = length-append (in_list a.accepted) (accepted_by d) in
    ap (λ (b : Bool). cond b (length (in_list a.accepted) + acked (k - length a.text) (d ++ e)) 0) fits ∙ sums (length (in_list a.accepted)) (acked (k - length a.text) (d ++ e)) (length (accepted_by d)) (acked x e) (length (in_list a.accepted ++ accepted_by d)) later counted
  where
    le-true : (m n : ℕ) → m ≤ n → nat_le m n ≡ true
    le-true m n le = grind (arith, nat_tests)

    sums : (i j l y n : ℕ) → j ≡ l + y → n ≡ i + l → i + j ≡ n + y
    sums i j l y n first second = omega arith

-- within a part of the next answer at most its own receipt has ended
pub acked-part : (a : Answer) (more : List Answer) (x : ℕ) → x ≤ length a.text → acked 0 more ≡ 0 → acked x (a ∷ more) ≤ length (in_list a.accepted)
acked-part a more x few none =
    let start : x - length a.text ≡ 0 = omega arith in
    let later : acked (x - length a.text) more ≡ 0 = ap (λ (j : ℕ). acked j more) start ∙ none in
    by-test (nat_le (length a.text) x) (length (in_list a.accepted)) (acked (x - length a.text) more) later
  where
    by-test : (b : Bool) (i j : ℕ) → j ≡ 0 → cond b (i + j) 0 ≤ i
    by-test true i j e = omega arith
    by-test false i j e = omega arith

pub few-in-list : (o : Option (List Change)) → length (in_list o) ≤ 1
few-in-list None = omega arith
few-in-list (Some changes) = omega arith
