-- What one piece of a source in memory gives.
use Rattle.std.proofs.Common.{◌≡◌, ℕ, ◌+◌, ◌≤◌, min, List, ◌++◌, length, take, drop, sym, ◌∙◌, ap, arith, length-drop}
use Rattle.std.proofs.lemmas.List.{take-append-drop, drop-drop, nil_from_length}
use Rattle.site_disk.specs.Takes.{Gives}

pub gives : (n piece at : ℕ) (bytes into : List ℕ) → n ≡ min piece (min (length into) (length (drop at bytes))) → take n into ≡ take n (drop at bytes) → 1 ≤ piece
    → Gives n into (drop at bytes) (drop (at + n) bytes)
gives n piece at bytes into amount same some = record {
  next = sym (ap (λ (l : List ℕ). l ++ drop (at + n) bytes) same ∙ ap (λ (l : List ℕ). take n (drop at bytes) ++ l) (sym (drop-drop n at bytes)) ∙ take-append-drop n (drop at bytes));
  end = λ none room. nil_from_length (drop (at + n) bytes) (omega (arith, length-drop (at + n) bytes, length-drop at bytes));
}
