-- What the code that writes into a file makes of it.
use Rattle.std.proofs.Common.{◌≡◌, inl, inr, ℕ, ◌+◌, ◌-◌, ◌<◌, List, [], ◌∷◌, ◌++◌, length, take, drop, reverse, Result, sym, ◌∙◌, ap, arith, length-append}
use Rattle.std.specs.Prelude.{Ok, Err, OnOk, OnErr}
use Rattle.std.proofs.lemmas.List.{append-nil, append_assoc, take-append-le, drop_all, replicate-append-replicate}
use Rattle.std.proofs.lemmas.Bool.{cases_lt}
use Rattle.vec_record.specs.Vectors.{AreBytes}
use Rattle.site_disk.specs.declared.mem_site.Call.{Call}
use Rattle.site_disk.specs.declared.mem_site.Call.TheVariants.{Write}
use Rattle.site_disk.specs.Disk.{put, zeros}
use Rattle.site_disk.specs.ByteLists.{as_bytes_same}
use Rattle.site_disk.specs.Puts.{length-zeros}
use Rattle.site_disk.specs.Replay.{as_bytes, replay}
use Rattle.site_disk.specs.Memory.{IsReplayed}

-- zeros as far as the end of a write are as good as zeros up to its start
front : (at n : ℕ) (file : List ℕ) → take at (file ++ zeros (at + n - length file)) ≡ take at (file ++ zeros (at - length file))
front at n file = elim (cases_lt (length file) at) [
  | inl lt ↦
      let more : (at - length file) + n ≡ at + n - length file = omega (arith, lt) in
      let joined : zeros (at - length file) ++ zeros n ≡ zeros (at + n - length file) = replicate-append-replicate (at - length file) n 0 ∙ ap zeros more in
      ap (λ (l : List ℕ). take at (file ++ l)) (sym joined) ∙ ap (take at) (sym (append_assoc file (zeros (at - length file)) (zeros n)))
      ∙ take-append-le at (file ++ zeros (at - length file)) (zeros n) (omega (arith, length-append file (zeros (at - length file)), length-zeros (at - length file), lt))
  | inr ge ↦ take-append-le at file (zeros (at + n - length file)) ge ∙ sym (take-append-le at file (zeros (at - length file)) ge)
]

-- and what stands behind the write is what stood there
behind : (end : ℕ) (file : List ℕ) → drop end (file ++ zeros (end - length file)) ≡ drop end file
behind end file = elim (cases_lt (length file) end) [
  | inl lt ↦ drop_all end (file ++ zeros (end - length file)) (omega (arith, length-append file (zeros (end - length file)), length-zeros (end - length file), lt)) ∙ sym (drop_all end file (omega (arith, lt)))
  | inr ge ↦
      let none : end - length file ≡ 0 = omega (arith, ge) in
      ap (λ (k : ℕ). drop end (file ++ zeros k)) none ∙ ap (drop end) (append-nil file)
]

pub laid_over : (at : ℕ) (bytes file wide : List ℕ) → 0 < length bytes → wide ≡ file ++ zeros (at + length bytes - length file)
    → take at wide ++ (bytes ++ drop (at + length bytes) wide) ≡ put at bytes file
laid_over at [] file wide some is = absurd (omega (arith, some))
laid_over at (b ∷ more) file wide some is =
    ap (λ (l : List ℕ). take at l ++ ((b ∷ more) ++ drop (at + length (b ∷ more)) l)) is
    ∙ ap (λ (l : List ℕ). l ++ ((b ∷ more) ++ drop (at + length (b ∷ more)) (file ++ zeros (at + length (b ∷ more) - length file)))) (front at (length (b ∷ more)) file)
    ∙ ap (λ (l : List ℕ). take at (file ++ zeros (at - length file)) ++ ((b ∷ more) ++ l)) (behind (at + length (b ∷ more)) file)

-- a site to which nothing has happened
pub fresh_is : (start : List ℕ) (calls : List Call) (said : List ℕ) → AreBytes start → calls ≡ [] → said ≡ [] → IsReplayed start (reverse calls) start said
fresh_is start calls said are none unsaid = record {
  content_is = sym (as_bytes_same start are) ∙ ap (λ (l : List Call). (replay start (reverse l)).content) (sym none);
  said_is = unsaid ∙ ap (λ (l : List Call). (replay start (reverse l)).said) (sym none);
}

-- a write that was kept, or found no memory
pub write_is : {A : Type 0} (start : List ℕ) (old later : List Call) (content after said : List ℕ) (at : ℕ) (bytes : List ℕ) (noted : Result Unit A) → IsReplayed start old content said → AreBytes bytes
    → OnOk noted (later ≡ Write at bytes ∷ old) → OnErr noted (later ≡ old) → OnOk noted (after ≡ put at bytes content) → OnErr noted (after ≡ content) → IsReplayed start later after said
write_is start old later content after said at bytes (Ok x) is are kept lost changed stays = record {
  content_is = changed ∙ ap (λ (l : List ℕ). put at l content) (sym (as_bytes_same bytes are)) ∙ ap (λ (l : List ℕ). put at (as_bytes bytes) l) is.content_is ∙ ap (λ (l : List Call). (replay start l).content) (sym kept);
  said_is = is.said_is ∙ ap (λ (l : List Call). (replay start l).said) (sym kept);
}
write_is start old later content after said at bytes (Err e) is are kept lost changed stays = record {
  content_is = stays ∙ is.content_is ∙ ap (λ (l : List Call). (replay start l).content) (sym lost);
  said_is = is.said_is ∙ ap (λ (l : List Call). (replay start l).said) (sym lost);
}
