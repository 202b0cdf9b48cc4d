-- How what holds of every moment goes on through calls.
use Rattle.std.proofs.Common.{ℕ, List, ◌++◌, take, sym, subst}
use Rattle.site_disk.specs.State.{SiteState, Safe}
use Rattle.site_disk.proofs.Moments.{goes_on}
use Rattle.session_desk.specs.Moments.{IsSaying}

pub safe_as : {a b : SiteState} {P Q : List ℕ → List ℕ → Type 0} → Safe a b P → ((s i : List ℕ) → P s i → Q s i) → Safe a b Q
safe_as {a} {b} {P} {Q} safe each = record { joins = safe.joins; each = λ s i since. each s i (safe.each s i since); now = λ i left. each b.said i (safe.now i left) }

pub then_safe : {a b c : SiteState} {P : List ℕ → List ℕ → Type 0} → Safe a b P → Safe b c P → Safe a c P
then_safe so_far next = goes_on so_far next.joins next.each next.now

-- a text is said on
pub then_said : {a b c : SiteState} {P : List ℕ → List ℕ → Type 0} (text : List ℕ) → Safe a b P → Safe b c (IsSaying b text) → ((n : ℕ) (i : List ℕ) → b.may_leave i → P (b.said ++ take n text) i) → Safe a c P
then_said {a} {b} {c} {P} text so_far say each = goes_on so_far say.joins
    (λ s i since. let m = say.each s i since in subst (λ r. P r i) (sym m.prefix.1) (each m.prefix.0 i m.is_image))
    (λ i left. let m = say.now i left in subst (λ r. P r i) (sym m.prefix.1) (each m.prefix.0 i m.is_image))
