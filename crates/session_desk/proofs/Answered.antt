-- What is due to an input within the limit is the report on it.
use Rattle.std.proofs.Common.{◌≡◌, ℕ, ◌<◌, ◌≤◌, Bool, true, false, cond, List, length, sym, ap, ◌∙◌, arith}
use Rattle.std.specs.Prelude.{Option, None, nat_le, codes}
use Rattle.std.proofs.lemmas.Bool.Decides.{nat_tests}
use Rattle.session_desk.specs.declared.status.Status as status
use Rattle.session_desk.specs.declared.status.Status.TheVariants.{TooLong}
use Rattle.session_desk.specs.Words.{Setting}
use Rattle.session_desk.specs.Input.{rows_of}
use Rattle.session_desk.specs.Answers.{Due, IsDue, due, report_on, answer_of, answer_to, input_limit, usage_text}

within : (s : Setting) (input : List ℕ) → length input ≤ input_limit → answer_to s input ≡ report_on s (rows_of s.metric s.dim input)
within s input few =
    let fits : nat_le (length input) input_limit ≡ true = grind (arith, nat_tests) in
    ap (λ (b : Bool). cond b (report_on s (rows_of s.metric s.dim input)) (due TooLong (codes "session too long\n"))) fits

pub report_due : (s : Setting) (left input seen : List ℕ) (st : status.Status) (text : List ℕ) → left ≡ input → seen ≡ input → length input ≤ input_limit → IsDue st text (report_on s (rows_of s.metric s.dim seen)) → text ≡ (answer_to s left).text
report_due s left input seen st text same looked few given =
    let to : answer_to s left ≡ report_on s (rows_of s.metric s.dim input) = ap (answer_to s) same ∙ within s input few in
    given.same_text ∙ ap (λ (l : List ℕ). (report_on s (rows_of s.metric s.dim l)).text) looked ∙ ap (λ (d : Due). d.text) (sym to)

pub too_long_due : (s : Setting) (left : List ℕ) → input_limit < length left → codes "session too long\n" ≡ (answer_to s left).text
too_long_due s left long =
    let fails : nat_le (length left) input_limit ≡ false = grind (arith, nat_tests) in
    sym (ap (λ (b : Bool). (cond b (report_on s (rows_of s.metric s.dim left)) (due TooLong (codes "session too long\n"))).text) fails)

pub usage_due : (words : Option Setting) (left : List ℕ) → words ≡ None → usage_text ≡ (answer_of words left).text
usage_due words left is = sym (ap (λ (w : Option Setting). (answer_of w left).text) is)
