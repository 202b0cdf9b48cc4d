-- What `init` does: a new store where the file is blank.
use Rattle.std.specs.Prelude.{◌≡◌, ◌⊎◌, ℕ, Bool, true, false, List, [], ◌∷◌, ◌++◌, take, codes}
use Rattle.site_disk.specs.State.{SiteState}
use Rattle.page_gate.specs.Gate.{is_blank, opening, Opens}
use Rattle.page_gate.specs.Promises.{Holds}
use Rattle.page_gate.specs.Same.{IsOnly}
use Rattle.page_layout.specs.Heads.{Values, HeadValue, head_page}
use Rattle.session_desk.specs.declared.status.Status.{Status}
use Rattle.session_desk.specs.declared.status.Status.TheVariants.{Fine, Exists}
use Rattle.session_desk.specs.Answers.{Due, due}

-- the head of a new store, and its one page behind the gate page
abbrev pub new_head : Values → HeadValue
new_head v = record { pages = 2; version = 1; values = v; batches = 0; count = 0; root = 0; height = 0 }

abbrev pub new_pages : Values → List (List ℕ)
new_pages v = head_page (new_head v) ∷ []

-- what is due: a birth where the content is blank, or else that a store exists
abbrev pub birth_due : Bool → Due
birth_due true = due Fine (codes "born\n")
birth_due false = due Exists (codes "store exists\n")

-- nothing is said, over an image of the start or a blank one
abbrev pub IsUnbegun : SiteState → List ℕ → List ℕ → Type 0
IsUnbegun a said image = (said ≡ a.said) × (a.may_leave image ⊎ (is_blank image ≡ true))

-- The images of a birth. Over a blank content: those before it while nothing is said, and the new store.
-- Over another content: those of the start.
abbrev pub IsBirthImage : Values → Bool → SiteState → List ℕ → List ℕ → Type 0
IsBirthImage v true a said image = IsUnbegun a said image ⊎ (opening image ≡ Opens (new_pages v))
IsBirthImage v false a said image = a.may_leave image

-- a moment of a birth: a prefix of what is due was said, and `born` only over the new store
pub record IsBirthMoment (v : Values) (a : SiteState) (said image : List ℕ) : Type 0 where
  pub prefix : (n : ℕ) × (said ≡ a.said ++ take n (birth_due (is_blank a.content)).text)
  pub image_is : IsBirthImage v (is_blank a.content) a said image

-- after status 0 the only image is the new store; after status 9 it is the content as it was
abbrev pub IsBorn : Values → Status → SiteState → SiteState → Type 0
IsBorn v result a b = (result ≡ Fine → Holds (new_pages v) b) × (result ≡ Exists → IsOnly b × (b.content ≡ a.content))
