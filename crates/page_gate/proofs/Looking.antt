-- A sync and looks behind it.
use Rattle.std.proofs.Common.{◌≡◌, ◌⊎◌, inl, inr, ℕ, List, length, get_or, Result, refl, sym, ◌∙◌, Bool}
use Rattle.std.specs.Prelude.{Ok, Err, IsErr}
use Rattle.site_disk.specs.State.{SiteState, IsNow, Safe}
use Rattle.site_disk.specs.Calls.{Stays, Syncs}
use Rattle.site_disk.proofs.Moments.{joins_start, joins_on, start, after_stay, after_sync}
use Rattle.page_gate.specs.Gate.{is_blank, blank_by}
use Rattle.page_gate.specs.Same.{IsOnly}
use Rattle.page_gate.specs.Promises.{Asks}
use Rattle.page_gate.proofs.Moving.{IsQuiet}

-- nothing happened, or several looks
pub stays_start : {a : SiteState} → IsNow a → Stays a a
stays_start {a} now = record { joins = joins_start a now; said = refl; content = refl; images = λ c. (λ left. left, λ left. left); moments = λ s c since. now.only s c since }

pub stays_on : {a b c : SiteState} → Stays a b → Stays b c → Stays a c
stays_on {a} {b} {c} first next = record {
  joins = joins_on a b c first.joins next.joins;
  said = next.said ∙ first.said;
  content = next.content ∙ first.content;
  images = λ i. (λ left. (first.images i).0 ((next.images i).0 left), λ left. (next.images i).1 ((first.images i).1 left));
  moments = λ s i since. of s i (next.joins.splits a.moment s i first.joins.later since);
}
  where
    of : (s i : List ℕ) → b.since a.moment s i ⊎ c.since b.moment s i → (s ≡ a.said) × a.may_leave i
    of s i (inl was) = first.moments s i was
    of s i (inr then_on) = let at = next.moments s i then_on in (at.0 ∙ first.said, (first.images i).0 at.1)

-- the content is the only image, and each image on the way was one of the start
pub record Looked (a b : SiteState) : Type 0 where
  pub safe : Safe a b (IsQuiet a a.may_leave)
  pub said : b.said ≡ a.said
  pub only : IsOnly b
  pub content : b.content ≡ a.content

pub only_stays : {a b : SiteState} → IsOnly a → Stays a b → IsOnly b
only_stays only stays c left = only c ((stays.images c).0 left) ∙ sym stays.content

pub begin_look : {a : SiteState} → IsNow a → Safe a a (IsQuiet a a.may_leave)
begin_look now = start now (λ c left. (refl, left))

pub synced_look : {E : Type 0} {a b : SiteState} → IsNow a → Syncs {E = E} (Ok tt) a b → Looked a b
synced_look now sync = record { safe = after_sync (begin_look now) sync; said = sync.said; only = sync.only; content = sync.content }

pub more_look : {a b c : SiteState} → Looked a b → Stays b c → Looked a c
more_look looked stays = record { safe = after_stay looked.safe stays; said = stays.said ∙ looked.said; only = only_stays looked.only stays; content = stays.content ∙ looked.content }

blank_of : (len gate : ℕ) (c : List ℕ) → len ≡ length c → gate ≡ get_or c 0 0 → blank_by len gate ≡ is_blank c
unfolding is_blank
blank_of len gate c len_is gate_is = rw (len_is, gate_is) refl

pub asks : {E : Type 0} {a b : SiteState} → Looked a b → (answer : Bool) (len gate : ℕ) → answer ≡ blank_by len gate → len ≡ length a.content → gate ≡ get_or a.content 0 0 → Asks {E = E} (Ok answer) a b
asks {E} {a} {b} looked answer len gate is len_is gate_is = record {
  safe = looked.safe;
  said = looked.said;
  only = looked.only;
  content = looked.content;
  answer = is ∙ blank_of len gate a.content len_is gate_is;
}

pub asked : {E : Type 0} {a b : SiteState} (r : Result Bool E) → IsErr r → Safe a b (IsQuiet a a.may_leave) → b.said ≡ a.said → Asks r a b
asked (Ok x) fails safe said = absurd (cc fails)
asked (Err e) fails safe said = record { safe = safe; said = said; only = tt; content = tt; answer = tt }
