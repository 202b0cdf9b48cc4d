-- The counts of a tally after further events.
use Rattle.std.proofs.Common.{◌≡◌, ℕ, ◌+◌, ◌≤◌, ◌==◌, cond, Bool, true, false, List, [], ◌∷◌, min, count_by, ap, refl, ◌∙◌, arith}
use Rattle.std.proofs.lemmas.List.Sums.{sum_by-cons}
use Rattle.vec_record.specs.declared.event.Kind.{Kind}
use Rattle.vec_record.specs.declared.event.Kind.TheVariants.{Noise, Created, Absorbed, Merged, Removed, Reduced, Split}
use Rattle.vec_record.specs.declared.event.Event.{Event}
use Rattle.event_feed.specs.declared.tally.Tally.{Tally}
use Rattle.event_feed.specs.Texts.{is_of_kind, kind_number, count_limit, tallied, tally_line, tally_text}
use Rattle.event_feed.specs.inside.Counts.{count_in, one_more_of, tally_after, tally_says}

pub by_kind : (P : Kind → Type 0) → P Noise → P Created → P Absorbed → P Merged → P Removed → P Reduced → P Split → (kind : Kind) → P kind
by_kind P a b c d e f g Noise = a
by_kind P a b c d e f g Created = b
by_kind P a b c d e f g Absorbed = c
by_kind P a b c d e f g Merged = d
by_kind P a b c d e f g Removed = e
by_kind P a b c d e f g Reduced = f
by_kind P a b c d e f g Split = g

-- the count of one kind in a tally with one more of another
abbrev CountsOneMore : Tally → Kind → Kind → Type 0
CountsOneMore t told kind =
    count_in (one_more_of told t) kind ≡ cond (kind_number told == kind_number kind) (min (count_in t kind + 1) count_limit) (count_in t kind)

counts_one_more : (t : Tally) (told kind : Kind) → CountsOneMore t told kind
counts_one_more t =
    by_kind (λ told. (kind : Kind) → CountsOneMore t told kind)
    (by_kind (CountsOneMore t Noise) refl refl refl refl refl refl refl)
    (by_kind (CountsOneMore t Created) refl refl refl refl refl refl refl)
    (by_kind (CountsOneMore t Absorbed) refl refl refl refl refl refl refl)
    (by_kind (CountsOneMore t Merged) refl refl refl refl refl refl refl)
    (by_kind (CountsOneMore t Removed) refl refl refl refl refl refl refl)
    (by_kind (CountsOneMore t Reduced) refl refl refl refl refl refl refl)
    (by_kind (CountsOneMore t Split) refl refl refl refl refl refl refl)

-- a count that stays at its limit, one step and then the rest
cut_once : (is : Bool) (count rest most : ℕ) → min (cond is (min (count + 1) most) count + rest) most ≡ min (count + (cond is 1 0 + rest)) most
cut_once true count rest most = omega arith
cut_once false count rest most = omega arith

within_once : (is : Bool) (count most : ℕ) → count ≤ most → cond is (min (count + 1) most) count ≤ most
within_once true count most le = omega arith
within_once false count most le = omega arith

counts_after : (more : List Event) (t : Tally) (kind : Kind) → count_in t kind ≤ count_limit → count_in (tally_after t more) kind ≡ min (count_in t kind + count_by (is_of_kind kind) more) count_limit
counts_after [] t kind le = omega (arith, le)
counts_after (e ∷ more) t kind le =
    let one = counts_one_more t e.kind kind in
    let is = is_of_kind kind e in
    let rest = count_by (is_of_kind kind) more in
    let within : count_in (one_more_of e.kind t) kind ≤ count_limit = rw one (within_once is (count_in t kind) count_limit le) in
    let cut = cut_once is (count_in t kind) rest count_limit in
    counts_after more (one_more_of e.kind t) kind within
    ∙ rw one (rw (sum_by-cons (λ x. cond (is_of_kind kind x) 1 0) e more) cut)

counted_from_none : (t : Tally) → ((kind : Kind) → count_in t kind ≡ 0) → (more : List Event) (kind : Kind) → count_in (tally_after t more) kind ≡ tallied more kind
counted_from_none t none more kind =
    let n = count_by (is_of_kind kind) more in
    let zero = none kind in
    counts_after more t kind (rw zero (omega arith)) ∙ rw zero (omega arith)

-- what a tally without counts says
pub tally_from_none : (t : Tally) → ((kind : Kind) → count_in t kind ≡ 0) → (more : List Event) → tally_says t more ≡ tally_text more
tally_from_none t none more =
    ap tally_line (λ i kind. counted_from_none t none more kind i)
