-- What is asked for, line by line.
use Rattle.std.proofs.Common.{◌≡◌, ℕ, ◌+◌, ◌<◌, ◌≤◌, Bool, true, false, cond, not, ◌||◌, ◌&&◌, List, [], ◌∷◌, ◌++◌, length, take, suc, ⊎_elim, refl, sym, ap, subst, ◌∙◌, ap₂, append_assoc, arith, length-append}
use Rattle.std.specs.Prelude.{Option, None, nat_lt}
use Rattle.std.specs.List.{slice_split, onto_first, list_any}
use Rattle.std.proofs.lemmas.List.{append-nil, take_all}
use Rattle.std.proofs.lemmas.Bool.Decides.{nat_tests}
use Rattle.std.proofs.Math.Seq.{take-append-add, take-nil}
use Rattle.std.proofs.lemmas.List.Splits.{length-slice_split}
use Rattle.session_desk.specs.Input.{is_line_feed}
use Rattle.session_desk.specs.Answers.{input_limit}
use Rattle.session_desk.specs.Session.{Request, counted, lines_of, requests, requests_of, whole_requests}
use Rattle.session_desk.specs.Lines.{IsOneLine, IsCut}
use Rattle.session_desk.specs.Asking.{is_past, asks_behind, asks, whole_behind, AreWhole}

neither : (a b : Bool) → (a || b) ≡ false → (a ≡ false) × (b ≡ false)
neither true b e = absurd (cc e)
neither false b e = (refl, e)

-- bytes are parted at the first that passes a test, or not at all where none does
pub split_first : (p : ℕ → Bool) (feed : ℕ) → p feed ≡ true → (raw more : List ℕ) → list_any p raw ≡ false → slice_split p (raw ++ feed ∷ more) ≡ raw ∷ slice_split p more
split_first p feed passes [] more none = ap (λ t. cond t ([] ∷ slice_split p more) (onto_first feed (slice_split p more))) passes
split_first p feed passes (b ∷ raw) more none =
    let each = neither (p b) (list_any p raw) none in
    ap (λ t. cond t ([] ∷ slice_split p (raw ++ feed ∷ more)) (onto_first b (slice_split p (raw ++ feed ∷ more)))) each.0
    ∙ ap (onto_first b) (split_first p feed passes raw more each.1)

pub split_whole : (p : ℕ → Bool) (raw : List ℕ) → list_any p raw ≡ false → slice_split p raw ≡ raw ∷ []
split_whole p [] none = refl
split_whole p (b ∷ raw) none =
    let each = neither (p b) (list_any p raw) none in
    ap (λ t. cond t ([] ∷ slice_split p raw) (onto_first b (slice_split p raw))) each.0 ∙ ap (onto_first b) (split_whole p raw each.1)

counted_more : (rest : Bool) (line : List ℕ) (parts : List (List ℕ)) → 0 < length parts → counted rest (line ∷ parts) ≡ line ∷ counted rest parts
counted_more rest line [] some = absurd (omega arith)
counted_more rest line (next ∷ parts) some = refl

-- a line that a line feed ends is the first line
pub first_line : (rest : Bool) (raw more : List ℕ) → IsOneLine raw → lines_of rest (raw ++ 10 ∷ more) ≡ raw ∷ lines_of rest more
first_line rest raw more one =
    ap (counted rest) (split_first is_line_feed 10 refl raw more one) ∙ counted_more rest raw (slice_split is_line_feed more) (omega (arith, length-slice_split is_line_feed more))

last_counted : (raw : List ℕ) (some : Bool) → some ≡ true → cond (true && some) (raw ∷ []) [] ≡ raw ∷ []
last_counted raw some e = ap (λ t. cond (true && t) (raw ∷ []) []) e

-- what stands behind the last line feed is the last line where it counts
pub last_line : (raw : List ℕ) → IsOneLine raw → 0 < length raw → lines_of true raw ≡ raw ∷ []
last_line raw one some =
    let is : nat_lt 0 (length raw) ≡ true = grind (arith, nat_tests) in
    ap (counted true) (split_whole is_line_feed raw one) ∙ last_counted raw (nat_lt 0 (length raw)) is

-- and else it is none
pub no_line : (part : List ℕ) → IsOneLine part → lines_of false part ≡ []
no_line part one = ap (counted false) (split_whole is_line_feed part one)

same_tests : (a b c d : ℕ) (x y : Bool) → nat_lt a b ≡ x → nat_lt c d ≡ y → a + d ≡ c + b → x ≡ y
same_tests a b c d true true p q e = refl
same_tests a b c d true false p q e = absurd (grind (arith, nat_tests))
same_tests a b c d false true p q e = absurd (grind (arith, nat_tests))
same_tests a b c d false false p q e = refl

-- whether more bytes are there than count is the same behind a line
pub past_cut : (room room' : ℕ) (rest after : List ℕ) → room' + length rest ≡ room + length after → is_past room' after ≡ is_past room rest
past_cut room room' rest after e = same_tests room' (length after) room (length rest) _ _ refl refl e

cut_feed : (ends : Bool) (room' : ℕ) (raw after : List ℕ) → IsOneLine raw → lines_of ends (take (length raw + suc room') (raw ++ 10 ∷ after)) ≡ raw ∷ lines_of ends (take room' after)
cut_feed ends room' raw after one = ap (lines_of ends) (take-append-add raw (10 ∷ after) (suc room')) ∙ first_line ends raw (take room' after) one

cut_end : (room room' : ℕ) (raw : List ℕ) → IsOneLine raw → 0 < length raw → length raw ≤ room → lines_of (not (is_past room raw)) (take room raw) ≡ raw ∷ lines_of (not (is_past room' [])) (take room' [])
cut_end room room' raw one some fits =
    let here : is_past room raw ≡ false = grind (arith, nat_tests) in
    let there : is_past room' [] ≡ false = grind (arith, nat_tests) in
    ap (λ (b : Bool). lines_of (not b) (take room raw)) here ∙ ap (lines_of true) (take_all room raw fits) ∙ last_line raw one some
    ∙ sym (ap (λ (b : Bool). raw ∷ lines_of (not b) (take room' [])) there ∙ ap (λ (l : List ℕ). raw ∷ lines_of true l) (take-nil room'))

-- the lines that count, where the first of them is cut off
pub cut_lines : (room room' : ℕ) (rest raw after : List ℕ) → IsCut room rest raw after → room' + length rest ≡ room + length after
    → lines_of (not (is_past room rest)) (take room rest) ≡ raw ∷ lines_of (not (is_past room' after)) (take room' after)
cut_lines room room' rest raw after cut e =
    ⊎_elim
    (λ feed.
    let long : length rest ≡ length raw + (1 + length after) = ap length feed ∙ length-append raw (10 ∷ after) ∙ omega arith in
    let space : room ≡ length raw + suc room' = omega arith in
    ap (λ (b : Bool). lines_of (not b) (take room rest)) (sym (past_cut room room' rest after e))
    ∙ ap₂ (λ (n : ℕ) (l : List ℕ). lines_of (not (is_past room' after)) (take n l)) space feed ∙ cut_feed (not (is_past room' after)) room' raw after cut.one_line)
    (λ end.
    let P : List ℕ → List ℕ → Type 0 = λ l a. lines_of (not (is_past room l)) (take room l) ≡ raw ∷ lines_of (not (is_past room' a)) (take room' a) in
    let fits : length raw ≤ room = omega (arith, ap length end.0, ap length end.1, cut.within) in
    subst (λ l. P l after) (sym end.0) (subst (P raw) (sym end.1) (cut_end room room' raw cut.one_line end.2 fits)))
    cut.cut

-- what is asked for behind the first line that counts, and what that line asks for
pub asks_cut : (body : Option (List (List ℕ))) (room room' : ℕ) (rest raw after : List ℕ) → IsCut room rest raw after → room' + length rest ≡ room + length after
    → asks_behind body room rest ≡ requests (not (is_past room' after)) body (raw ∷ lines_of (not (is_past room' after)) (take room' after))
unfolding asks_behind
asks_cut body room room' rest raw after cut e =
    ap (requests (not (is_past room rest)) body) (cut_lines room room' rest raw after cut e)
    ∙ ap (λ (b : Bool). requests (not b) body (raw ∷ lines_of (not (is_past room' after)) (take room' after))) (sym (past_cut room room' rest after e))

-- the same in bytes that are cut off somewhere
pub whole_cut : (body : Option (List (List ℕ))) (raw more : List ℕ) → IsOneLine raw → whole_behind body ((raw ++ 10 ∷ []) ++ more) ≡ requests false body (raw ∷ lines_of false more)
unfolding whole_behind
whole_cut body raw more one = ap (λ (l : List ℕ). requests false body (lines_of false l)) (append_assoc raw (10 ∷ []) more) ∙ ap (requests false body) (first_line false raw more one)

-- at the start of an input all of it is asked for
pub asks_all : (input : List ℕ) → asks input_limit input ≡ requests_of input
unfolding asks_behind
asks_all input = refl

pub whole_all : (front : List ℕ) → whole_behind None front ≡ whole_requests front
unfolding whole_behind
whole_all front = refl

pub none_whole : AreWhole [] []
none_whole = record { before = λ more. refl }

pub more_whole : {u v : List ℕ} {d e : List Request} → AreWhole u d → AreWhole v e → AreWhole (u ++ v) (d ++ e)
more_whole {u = u} {v = v} {d = d} {e = e} first second = record {
  before = λ more.
      ap whole_requests (append_assoc u v more) ∙ first.before (v ++ more) ∙ ap (λ (q : List Request). d ++ q) (second.before more)
      ∙ sym (append_assoc d e (whole_requests more));
}

pub whole_so_far : {u : List ℕ} {d : List Request} (part : List ℕ) → AreWhole u d → whole_requests part ≡ [] → whole_requests (u ++ part) ≡ d
whole_so_far {d = d} part whole none = whole.before part ∙ ap (λ (q : List Request). d ++ q) none ∙ append-nil d
