use Rattle.std.proofs.Common.{◌≡◌, ℕ, zero, suc, ◌≤◌, List, [], ◌∷◌, ◌++◌, length, take, drop, subst, sym, rules, arith}
use Rattle.std.proofs.Math.Seq.{take-append_seam, drop-append_seam}
use Rattle.std.specs.List.{AllByRecursion}
use Rattle.vec_record.proofs.vector.short.Goals as goal

abbrev AreZeros : List ℕ → Type 0
AreZeros xs = AllByRecursion (λ x. x ≡ 0) xs

rest_zeros : (n : ℕ) (zeros : List ℕ) → AreZeros zeros → AreZeros (drop n zeros)
rest_zeros zero zeros h = h
rest_zeros (suc n) [] h = tt
rest_zeros (suc n) (x ∷ xs) h = rest_zeros n xs h.1

-- bytes before zeros: the first of them are the bytes, and zeros lie behind
filled : (bytes own zeros : List ℕ) → own ≡ bytes → length bytes ≤ 30 → AreZeros zeros
    → (take (length bytes) (own ++ drop (length bytes) zeros) ≡ bytes) × ((length bytes ≤ 30) × AreZeros (drop (length bytes) (own ++ drop (length bytes) zeros)))
filled bytes own zeros is few all =
    let behind = drop (length bytes) zeros in
    rw is (take-append_seam bytes behind, (few, subst AreZeros (sym (drop-append_seam bytes behind)) (rest_zeros (length bytes) zeros all)))

pub returns-clause-place : goal.returns-clause-place
returns-clause-place c = filled c.args.bytes.now c.copy_from_slice.new.self _ c.copy_from_slice.ensures.after (omega arith) (search rules)
