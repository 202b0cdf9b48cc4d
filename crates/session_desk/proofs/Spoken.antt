-- A run that says one text or nothing.
use Rattle.std.proofs.Common.{◌≡◌, ℕ, false, List, ◌++◌, take, Result, refl, sym, subst}
use Rattle.std.proofs.lemmas.List.{append-nil}
use Rattle.site_disk.specs.State.{SiteState, IsNow, Safe}
use Rattle.site_disk.specs.Calls.{Speaks}
use Rattle.site_disk.proofs.Moments.{joins_start, start, after_say}
use Rattle.session_desk.specs.declared.status.Status.{Status}
use Rattle.session_desk.specs.Statuses.{is_fault}
use Rattle.session_desk.specs.Moments.{IsSaying, Says, LeavesAlone}

pub nothing_said : (a : SiteState) → IsNow a → (text : List ℕ) → Safe a a (IsSaying a text)
nothing_said a now text = start now (λ c left. record { prefix = (0, sym (append-nil a.said)); is_image = left })

pub text_said : {E : Type 0} {r : Result Unit E} (a b : SiteState) → IsNow a → (text : List ℕ) → Speaks text r a b → Safe a b (IsSaying a text)
text_said a b now text speaks = after_say (nothing_said a now text) speaks (λ n i left. record { prefix = (n, refl); is_image = left })

pub same_text : (a b : SiteState) (text due : List ℕ) → text ≡ due → Safe a b (IsSaying a text) → Safe a b (IsSaying a due)
same_text a b text due e safe = subst (λ (t : List ℕ). Safe a b (IsSaying a t)) e safe

pub untouched : (a : SiteState) → IsNow a → LeavesAlone a a
untouched a now = record {
  joins = joins_start a now;
  content = refl;
  images = λ c. (λ left. left, λ left. left);
  moments = λ s c since. (now.only s c since).1;
}

pub spoken : {E : Type 0} {r : Result Unit E} (a b : SiteState) (text : List ℕ) → Speaks text r a b → LeavesAlone a b
spoken a b text speaks = record { joins = speaks.joins; content = speaks.content; images = speaks.images; moments = λ s c since. (speaks.moments s c since).1 }

-- a text that is the one that is due
pub says_text : (a b : SiteState) (text due : List ℕ) → text ≡ due → (result : Status) → (is_fault result ≡ false → b.said ≡ a.said ++ text) → (n : ℕ) × (b.said ≡ a.said ++ take n text) → Safe a b (IsSaying a text) → Says due result a b
says_text a b text due e result all prefix moments =
    subst (λ (t : List ℕ). Says t result a b) e (record { all = all; prefix = prefix; moments = moments })
