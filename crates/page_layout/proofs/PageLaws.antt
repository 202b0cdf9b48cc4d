-- What is written is a page, and a page has one spelling.
use Rattle.std.proofs.Common.{◌≡◌, ℕ, zero, suc, ◌+◌, ◌-◌, ◌*◌, List, [], ◌∷◌, ◌++◌, length, replicate, Option, Some, None, ap, ◌∙◌, arith}
use Rattle.std.specs.Prelude.{IsTrue}
use Rattle.std.specs.List.{AllByRecursion, flat_map}
use Rattle.std.proofs.lemmas.List.{length-append, length-replicate}
use Rattle.vec_record.specs.Vectors.{AreBytes}
use Rattle.vec_record.specs.Limits.{are_within, width_of}
use Rattle.page_layout.specs.declared.slot.Slot.{Slot}
use Rattle.page_layout.specs.Fields.{word}
use Rattle.page_layout.specs.Heads.{Values, HeadValue, metric_number, head_page}
use Rattle.page_layout.specs.Slots.{Rows, slots_in_page, slot_at, IsRow, AreRows, slot_bytes, record_page}
use Rattle.page_layout.specs.declared.body.Body.{Body}
use Rattle.page_layout.specs.declared.body.Body.TheVariants.{Slots, Leaves, Inner}
use Rattle.page_layout.specs.Bodies.{IsBody, body_bytes}
use Rattle.page_layout.specs.Laws.{IsPage, HeadsHaveOneSpelling, RowsHaveOneSpelling, WrittenArePages}
use Rattle.page_layout.proofs.HeadLaws.{head_from, head_again}
use Rattle.page_layout.proofs.SlotLaws.{slots_fit, length-rows}
use Rattle.page_layout.proofs.RowLaws.{record_from, record_again}
use Rattle.page_layout.proofs.LeafPages.{leaf_pages}
use Rattle.page_layout.proofs.InnerPages.{inner_pages}

bytes-append : (front back : List ℕ) → AreBytes front → AreBytes back → AreBytes (front ++ back)
bytes-append [] back are more = more
bytes-append (b ∷ front) back are more = (are.0, bytes-append front back are.1 more)

bytes-zeros : (n : ℕ) → AreBytes (replicate n 0)
bytes-zeros zero = tt
bytes-zeros (suc n) = (omega arith, bytes-zeros n)

bytes-word : (n : ℕ) → AreBytes (word n)
bytes-word n = (omega arith, (omega arith, (omega arith, (omega arith, tt))))

bytes-words : (words : List ℕ) → AreBytes (flat_map word words)
bytes-words [] = tt
bytes-words (n ∷ words) = bytes-append (word n) (flat_map word words) (bytes-word n) (bytes-words words)

-- numbers, and what is behind them
words_then : (words rest : List ℕ) → AreBytes rest → AreBytes (flat_map word words ++ rest)
words_then words rest are = bytes-append (flat_map word words) rest (bytes-words words) are

eleven_long : (a b c d e f g h i j k : ℕ) (rest : List ℕ)
    → length (word a ++ (word b ++ (word c ++ (word d ++ (word e ++ (word f ++ (word g ++ (word h ++ (word i ++ (word j ++ (word k ++ rest))))))))))) ≡ 44 + length rest
eleven_long a b c d e f g h i j k rest = omega arith

eleven_bytes : (a b c d e f g h i j k : ℕ) (rest : List ℕ) → AreBytes rest
    → AreBytes (word a ++ (word b ++ (word c ++ (word d ++ (word e ++ (word f ++ (word g ++ (word h ++ (word i ++ (word j ++ (word k ++ rest)))))))))))
eleven_bytes a b c d e f g h i j k rest are = words_then (a ∷ b ∷ c ∷ d ∷ e ∷ f ∷ g ∷ h ∷ i ∷ j ∷ k ∷ []) rest are

head_is_page : (h : HeadValue) → IsPage (head_page h)
unfolding head_page
head_is_page h = record {
  len = eleven_long h.pages h.version (metric_number h.values.metric) h.values.dim h.values.eps h.values.minpts h.values.cap h.batches h.count h.root h.height (replicate 16340 0) ∙ ap (λ (n : ℕ). 44 + n) (length-replicate {A = ℕ} 16340 0);
  bytes = eleven_bytes h.pages h.version (metric_number h.values.metric) h.values.dim h.values.eps h.values.minpts h.values.cap h.batches h.count h.root h.height (replicate 16340 0) (bytes-zeros 16340);
}

bytes-row : (v : Values) (row : Option Slot) → IsRow v row → AreBytes (slot_bytes (width_of v.metric v.dim) row)
bytes-row v None is = bytes-zeros (16 + width_of v.metric v.dim)
bytes-row v (Some s) is = words_then (s.number ∷ s.count ∷ s.anchor ∷ s.label ∷ []) s.vector is.vector.bytes

bytes-rows : (v : Values) (rows : Rows) → AllByRecursion (IsRow v) rows → AreBytes (flat_map (slot_bytes (width_of v.metric v.dim)) rows)
bytes-rows v [] each = tt
bytes-rows v (row ∷ rows) each = bytes-append (slot_bytes (width_of v.metric v.dim) row) (flat_map (slot_bytes (width_of v.metric v.dim)) rows) (bytes-row v row each.0) (bytes-rows v rows each.1)

record_is_page : (v : Values) (rows : Rows) → AreRows v rows → IsPage (record_page (width_of v.metric v.dim) rows)
unfolding record_page
record_is_page v rows are =
    let width : ℕ = width_of v.metric v.dim in
    let tail : List ℕ = replicate (16384 - slot_at width (slots_in_page width)) 0 in
    let slots : List ℕ = flat_map (slot_bytes width) rows in
    let many : length slots ≡ (16 + width) * slots_in_page width = length-rows v rows are.each ∙ ap (λ (k : ℕ). (16 + width) * k) are.count in
    record {
      len = omega (arith, length-append (1 ∷ replicate 15 0) (slots ++ tail), length-append slots tail, length-replicate {A = ℕ} (16384 - slot_at width (slots_in_page width)) 0, many, slots_fit width);
      bytes = bytes-append (1 ∷ replicate 15 0) (slots ++ tail) (omega arith, bytes-zeros 15) (bytes-append slots tail (bytes-rows v rows are.each) (bytes-zeros (16384 - slot_at width (slots_in_page width))));
    }

pub heads : HeadsHaveOneSpelling
heads = λ page h is. (λ said. head_from page h is.len is.bytes said, λ both. head_again page h both.0 both.1)

pub rows_spelled : RowsHaveOneSpelling
rows_spelled = λ v page rows within is. (λ said. record_from v page rows is.bytes is.len said, λ both. record_again v page rows both.0 both.1)

body_is_page : (v : Values) (body : Body) → IsTrue (are_within v.metric v.dim v.eps v.minpts v.cap) → IsBody v body → IsPage (body_bytes v body)
body_is_page v (Slots rows) within are = record_is_page v rows are
body_is_page v (Leaves leaves) within are = leaf_pages leaves are
body_is_page v (Inner rows) within are = inner_pages v rows within are

pub written : WrittenArePages
written = (λ h is. head_is_page h, λ v body within is. body_is_page v body within is)
