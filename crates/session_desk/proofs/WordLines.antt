-- The words of a line: what stands before its first space, and behind it.
use Rattle.std.proofs.Common.{◌≡◌, ℕ, ◌+◌, ◌-◌, ◌*◌, ◌<◌, ◌≤◌, Bool, true, false, cond, List, [], ◌∷◌, ◌++◌, length, get_or, take, drop, inl, inr, refl, sym, ap, ◌∙◌, arith, ltb}
use Rattle.std.specs.Prelude.{Option, Some, None}
use Rattle.std.specs.List.{slice_split, list_any, position_or_len}
use Rattle.std.proofs.lemmas.Bool.{cases_lt}
use Rattle.std.proofs.lemmas.Bool.Decides.{nat_tests}
use Rattle.std.proofs.lemmas.List.{take_all}
use Rattle.std.proofs.lemmas.List.Sums.{split_at_first, passes_at_first}
use Rattle.std.proofs.lemmas.List.Splits.{length-slice_split}
use Rattle.batch_text.specs.Numbers.{is_digit, digits_from, within}
use Rattle.session_desk.specs.declared.requests.Line.TheVariants.{Unknown}
use Rattle.session_desk.specs.Session.{is_space, number_said, line_of_word, line_of_words, line_with}
use Rattle.session_desk.proofs.Asking.{split_first, split_whole}
use Rattle.session_desk.proofs.LineParts.{none_in_front}

-- how many bytes stand before the first space
abbrev word_len : List ℕ → ℕ
word_len line = position_or_len is_space line

none-by : (b : Bool) (o : Option ℕ) → o ≡ None → cond b o None ≡ None
none-by true o none = none
none-by false o none = refl

-- a word with a space is no number
no-digits : (n : ℕ) (front more : List ℕ) → digits_from n (front ++ 32 ∷ more) ≡ None
no-digits n [] more = refl
no-digits n (c ∷ front) more = none-by (is_digit c) (digits_from (10 * n + (c - 48)) (front ++ 32 ∷ more)) (no-digits (10 * n + (c - 48)) front more)

no-number : (front more : List ℕ) → number_said (front ++ 32 ∷ more) ≡ None
no-number front more = ap (within 1 4294967295) (none-by _ (digits_from 0 (front ++ 32 ∷ more)) (no-digits 0 front more))

more-words : (word next : List ℕ) (parts : List (List ℕ)) → 0 < length parts → line_of_words (word ∷ next ∷ parts) ≡ Unknown
more-words word next [] some = absurd (omega arith)
more-words word next (part ∷ parts) some = refl

-- the first space parts a line
space-parts : (line : List ℕ) → word_len line < length line → line ≡ take (word_len line) line ++ 32 ∷ drop (word_len line + 1) line
space-parts line below =
    let passes = passes_at_first is_space line 0 below in
    let space : get_or line (word_len line) 0 ≡ 32 = grind (arith, nat_tests, passes) in
    split_at_first is_space line 0 below ∙ ap (λ (b : ℕ). take (word_len line) line ++ b ∷ drop (word_len line + 1) line) space

no-space : (line : List ℕ) → length line ≤ word_len line → list_any is_space line ≡ false
no-space line above = sym (ap (list_any is_space) (take_all (length line) line (omega arith))) ∙ none_in_front is_space (length line) line above

-- what is behind the first word is a number, or the line says nothing that is known
number-behind : (word rest : List ℕ) → line_of_words (word ∷ slice_split is_space rest) ≡ line_with word (number_said rest)
number-behind word rest = elim (cases_lt (word_len rest) (length rest)) [
  | inl below ↦
      let front = take (word_len rest) rest in
      let more = drop (word_len rest + 1) rest in
      let parts = space-parts rest below in
      let split : slice_split is_space rest ≡ front ∷ slice_split is_space more =
      ap (slice_split is_space) parts ∙ split_first is_space 32 refl front more (none_in_front is_space (word_len rest) rest (omega arith)) in
      let unknown : line_of_words (word ∷ front ∷ slice_split is_space more) ≡ Unknown = more-words word front (slice_split is_space more) (omega (arith, length-slice_split is_space more)) in
      ap (λ (l : List (List ℕ)). line_of_words (word ∷ l)) split ∙ unknown ∙ sym (ap (line_with word) (ap number_said parts ∙ no-number front more))
  | inr above ↦ ap (λ (l : List (List ℕ)). line_of_words (word ∷ l)) (split_whole is_space rest (no-space rest above))
]

abbrev found : List ℕ → Option ℕ
found line = cond (ltb (word_len line) (length line)) (Some (word_len line)) None

-- a line without a space is one word
pub one-word : (line : List ℕ) → found line ≡ None → line_of_word line ≡ line_of_words (slice_split is_space line)
one-word line none = elim (cases_lt (word_len line) (length line)) [
  | inl below ↦
      let t : ltb (word_len line) (length line) ≡ true = grind (arith, nat_tests, below) in
      let some : found line ≡ Some (word_len line) = ap (λ (b : Bool). cond b (Some (word_len line)) None) t in
      absurd (cc (none, some))
  | inr above ↦ sym (ap line_of_words (split_whole is_space line (no-space line above)))
]

-- and one with a space is a word and what is behind
pub two-words : (line : List ℕ) (at : ℕ) → found line ≡ Some at → line_with (take at line) (number_said (drop (at + 1) line)) ≡ line_of_words (slice_split is_space line)
two-words line at some = elim (cases_lt (word_len line) (length line)) [
  | inl below ↦
      let t : ltb (word_len line) (length line) ≡ true = grind (arith, nat_tests, below) in
      let here : found line ≡ Some (word_len line) = ap (λ (b : Bool). cond b (Some (word_len line)) None) t in
      let same : at ≡ word_len line = cc (some, here) in
      let front = take (word_len line) line in
      let more = drop (word_len line + 1) line in
      let split : slice_split is_space line ≡ front ∷ slice_split is_space more =
      ap (slice_split is_space) (space-parts line below) ∙ split_first is_space 32 refl front more (none_in_front is_space (word_len line) line (omega arith)) in
      ap (λ (n : ℕ). line_with (take n line) (number_said (drop (n + 1) line))) same ∙ sym (ap line_of_words split ∙ number-behind front more)
  | inr above ↦
      let t : ltb (word_len line) (length line) ≡ false = grind (arith, nat_tests, above) in
      let nowhere : found line ≡ None = ap (λ (b : Bool). cond b (Some (word_len line)) None) t in
      absurd (cc (some, nowhere))
]
