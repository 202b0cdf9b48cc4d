-- The page list after writes, page by page.
use Rattle.std.proofs.Common.{◌≡◌, ◌⊎◌, inl, inr, ℕ, ◌+◌, ◌-◌, ◌<◌, ◌≤◌, true, false, ltb, List, [], ◌∷◌, ◌++◌, length, set, get_or, IsTrue, refl, sym, ◌∙◌, ap, arith, length-append}
use Rattle.std.specs.Prelude.{◌==◌}
use Rattle.std.proofs.lemmas.List.{get_or-append_right, get_or_append_left, get_or-set_same, get_or-set_other, get_or_past, length-set}
use Rattle.std.proofs.lemmas.Bool.{cases_lt, cases_eq, lt-ltb, le-ltb, eq-eqb, ne_eqb}
use Rattle.page_gate.specs.Gate.{rises, image_of}
use Rattle.page_gate.specs.Writes.{Names, put_page, written}
use Rattle.page_gate.proofs.Lists.{both, less_of}

module _ (pages : List (List ℕ)) (image : List ℕ) (page : ℕ) (some : 1 ≤ page) (next : page ≤ length pages + 1) where
  pub put_inside : page ≤ length pages → put_page page image pages ≡ set pages (page - 1) image
  put_inside le = let no : ltb (length pages) page ≡ false = le-ltb (length pages) page le in rw no refl

  pub put_behind : length pages < page → put_page page image pages ≡ pages ++ image ∷ []
  put_behind lt = let is : ltb (length pages) page ≡ true = lt-ltb (length pages) page lt in rw is refl

  pub put_here : (d : List ℕ) → get_or (put_page page image pages) (page - 1) d ≡ image
  put_here d = elim (cases_lt (length pages) page) [
    | inl lt ↦ ap (λ (l : List (List ℕ)). get_or l (page - 1) d) (put_behind lt)
        ∙ get_or-append_right pages (image ∷ []) (length pages) (page - 1) d refl (omega (arith, lt)) ∙ ap (λ (i : ℕ). get_or (image ∷ []) i d) (here lt)
    | inr le ↦ ap (λ (l : List (List ℕ)). get_or l (page - 1) d) (put_inside le) ∙ get_or-set_same pages (page - 1) image d (omega (arith, le, some))
  ]
    where
      here : length pages < page → page - 1 - length pages ≡ 0
      here lt = omega (arith, lt, next)

  pub put_other : (p : ℕ) → (p + 1 ≡ page → ⊥) → get_or (put_page page image pages) p [] ≡ get_or pages p []
  put_other p other = elim (cases_lt (length pages) page) [
    | inl lt ↦ ap (λ (l : List (List ℕ)). get_or l p []) (put_behind lt) ∙ elim (cases_lt p (length pages)) [
      | inl below ↦ get_or_append_left pages (image ∷ []) [] p below
      | inr above ↦ get_or_past (pages ++ image ∷ []) p [] (omega (arith, length-append pages (image ∷ []), above, other, lt, next)) ∙ sym (get_or_past pages p [] above)
    ]
    | inr le ↦ ap (λ (l : List (List ℕ)). get_or l p []) (put_inside le) ∙ get_or-set_other pages (page - 1) p image [] (λ is. other (omega (arith, is, some)))
  ]

  pub put_length : ((page ≤ length pages) × (length (put_page page image pages) ≡ length pages)) ⊎ ((page ≡ length pages + 1) × (length (put_page page image pages) ≡ page))
  put_length = elim (cases_lt (length pages) page) [
    | inl lt ↦ inr (omega (arith, lt, next), ap length (put_behind lt) ∙ length-append pages (image ∷ []) ∙ omega (arith, lt, next))
    | inr le ↦ inl (le, ap length (put_inside le) ∙ length-set pages (page - 1) image)
  ]

-- a page that no item names
pub not_named : (page low limit : ℕ) (ws : List (ℕ × List ℕ)) (place : List ℕ) → IsTrue (rises low limit ws) → page ≤ low → image_of page ws place ≡ place
not_named page low limit [] place rising le = refl
not_named page low limit (w ∷ ws) place rising le =
    let first = both (ltb low w.0) _ rising in
    let above : low < w.0 = less_of low w.0 first.0 in
    let other : (w.0 == page) ≡ false = ne_eqb w.0 page (λ is. omega (arith, is, above, le)) in
    let next = both (ltb w.0 limit) _ first.1 in
    rw other (not_named page w.0 limit ws place next.1 (omega (arith, above, le)))

-- a page that one names doesn't ask for its place
pub named_any : (page : ℕ) (ws : List (ℕ × List ℕ)) (x y : List ℕ) → Names page ws → image_of page ws x ≡ image_of page ws y
named_any page [] x y names = absurd names
named_any page (w ∷ ws) x y (inl is) = let yes : (w.0 == page) ≡ true = eq-eqb w.0 page is in rw yes refl
named_any page (w ∷ ws) x y (inr names) = elim (cases_eq w.0 page) [
  | inl is ↦ let yes : (w.0 == page) ≡ true = eq-eqb w.0 page is in rw yes refl
  | inr other ↦ let never : (w.0 == page) ≡ false = ne_eqb w.0 page other in rw never (named_any page ws x y names)
]

-- one that a rising list names lies above its bound and below the limit
pub named_above : (page low limit : ℕ) (ws : List (ℕ × List ℕ)) → IsTrue (rises low limit ws) → Names page ws → (low < page) × (page < limit)
named_above page low limit [] rising names = absurd names
named_above page low limit (w ∷ ws) rising (inl is) =
    let first = both (ltb low w.0) _ rising in
    let next = both (ltb w.0 limit) _ first.1 in
    let above : low < w.0 = less_of low w.0 first.0 in
    let within : w.0 < limit = less_of w.0 limit next.0 in
    (omega (arith, above, is), omega (arith, within, is))
named_above page low limit (w ∷ ws) rising (inr names) =
    let first = both (ltb low w.0) _ rising in
    let next = both (ltb w.0 limit) _ first.1 in
    let above : low < w.0 = less_of low w.0 first.0 in
    let so = named_above page w.0 limit ws next.1 names in
    (omega (arith, above, so.0), so.1)

-- the writes name each new page
abbrev pub Covers : ℕ → ℕ → List (ℕ × List ℕ) → Type 0
Covers count limit ws = (page : ℕ) → count < page → page < limit → Names page ws

pub record Built (pages : List (List ℕ)) (ws : List (ℕ × List ℕ)) (limit : ℕ) : Type 0 where
  pub long : length (written pages ws) + 1 ≡ limit
  pub page : (p : ℕ) → get_or (written pages ws) p [] ≡ image_of (p + 1) ws (get_or pages p [])

-- one write of a page that is there or comes next
module _ (pages : List (List ℕ)) (w : ℕ × List ℕ) (ws : List (ℕ × List ℕ)) (limit : ℕ) where
  abbrev after : List (List ℕ)
  after = put_page w.0 w.1 pages

  -- no page is left out before this one
  follows : w.0 < limit → IsTrue (rises w.0 limit ws) → Covers (length pages) limit (w ∷ ws) → w.0 ≤ length pages + 1
  follows within rest covers = elim (cases_lt (length pages + 1) w.0) [
    | inl far ↦ of_either (covers (length pages + 1) (omega arith) (omega (arith, far, within)))
    | inr near ↦ near
  ]
    where
      of_either : (w.0 ≡ length pages + 1) ⊎ Names (length pages + 1) ws → w.0 ≤ length pages + 1
      of_either (inl is) = omega (arith, is)
      of_either (inr more) = let so = named_above (length pages + 1) w.0 limit ws rest more in omega (arith, so.0)

  abbrev Extends : Type 0
  Extends = ((w.0 ≤ length pages) × (length after ≡ length pages)) ⊎ ((w.0 ≡ length pages + 1) × (length after ≡ w.0))

  long_on : Extends → w.0 < limit → length pages + 1 ≤ limit → length after + 1 ≤ limit
  long_on (inl there) within le = omega (arith, there.1, le)
  long_on (inr more) within le = omega (arith, more.1, within)

  old_page : (page : ℕ) → Extends → length after < page → length pages < page
  old_page page (inl there) above = omega (arith, there.1, above)
  old_page page (inr more) above = omega (arith, more.0, more.1, above)

  other_page : (page : ℕ) → Extends → length after < page → w.0 ≡ page → ⊥
  other_page page (inl there) above is = omega (arith, there.0, there.1, above, is)
  other_page page (inr more) above is = omega (arith, more.1, above, is)

  covers_on : Extends → Covers (length pages) limit (w ∷ ws) → Covers (length after) limit ws
  covers_on grown covers page above below = of_names (covers page (old_page page grown above) below)
    where
      of_names : (w.0 ≡ page) ⊎ Names page ws → Names page ws
      of_names (inl is) = absurd (other_page page grown above is)
      of_names (inr names) = names

  page_on : (p : ℕ) → w.0 ≤ length pages + 1 → 1 ≤ w.0 → IsTrue (rises w.0 limit ws) → image_of (p + 1) ws (get_or after p []) ≡ image_of (p + 1) (w ∷ ws) (get_or pages p [])
  page_on p near some rest = elim (cases_eq w.0 (p + 1)) [
    | inl is ↦
        let yes : (w.0 == p + 1) ≡ true = eq-eqb w.0 (p + 1) is in
        let index : w.0 - 1 ≡ p = omega (arith, is) in
        rw yes (not_named (p + 1) w.0 limit ws (get_or after p []) rest (omega (arith, is)) ∙ ap (λ (i : ℕ). get_or after i []) (sym index) ∙ put_here pages w.1 w.0 some near [])
    | inr other ↦
        let never : (w.0 == p + 1) ≡ false = ne_eqb w.0 (p + 1) other in
        rw never (ap (image_of (p + 1) ws) (put_other pages w.1 w.0 some near p (λ is. other (sym is))))
  ]

pub built : (pages : List (List ℕ)) (ws : List (ℕ × List ℕ)) (low limit : ℕ) → IsTrue (rises low limit ws) → Covers (length pages) limit ws → length pages + 1 ≤ limit → Built pages ws limit
built pages [] low limit rising covers le = record {
  long = elim (cases_lt (length pages + 1) limit) [
    | inl lt ↦ absurd (covers (length pages + 1) (omega arith) lt)
    | inr ge ↦ omega (arith, ge, le)
  ];
  page = λ p. refl;
}
built pages (w ∷ ws) low limit rising covers le =
    let first = both (ltb low w.0) _ rising in
    let next = both (ltb w.0 limit) _ first.1 in
    let above : low < w.0 = less_of low w.0 first.0 in
    let within : w.0 < limit = less_of w.0 limit next.0 in
    let near : w.0 ≤ length pages + 1 = follows pages w ws limit within next.1 covers in
    let some : 1 ≤ w.0 = omega (arith, above) in
    let grown = put_length pages w.1 w.0 some near in
    let inner : Built (put_page w.0 w.1 pages) ws limit = built (put_page w.0 w.1 pages) ws w.0 limit next.1 (covers_on pages w ws limit grown covers) (long_on pages w ws limit grown within le) in
    record { long = inner.long; page = λ p. inner.page p ∙ page_on pages w ws limit p near some next.1 }

-- no more items than numbers between the bounds
pub length-rising : (low limit : ℕ) (ws : List (ℕ × List ℕ)) → IsTrue (rises low limit ws) → low < limit → length ws + low < limit
length-rising low limit [] rising lt = omega (arith, lt)
length-rising low limit (w ∷ ws) rising lt =
    let first = both (ltb low w.0) _ rising in
    let next = both (ltb w.0 limit) _ first.1 in
    let above : low < w.0 = less_of low w.0 first.0 in
    omega (arith, above, length-rising w.0 limit ws next.1 (less_of w.0 limit next.0))

-- a list of pages on the way through writes
pub record Midway (limit : ℕ) (pages : List (List ℕ)) (ws : List (ℕ × List ℕ)) : Type 0 where
  pub low : ℕ
  pub rising : IsTrue (rises low limit ws)
  pub covers : Covers (length pages) limit ws
  pub no_fewer : length pages + 1 ≤ limit

pub record Next (limit : ℕ) (pages : List (List ℕ)) (w : ℕ × List ℕ) (ws : List (ℕ × List ℕ)) : Type 0 where
  pub some : 1 ≤ w.0
  pub near : w.0 ≤ length pages + 1
  pub within : w.0 < limit
  pub rest : Midway limit (put_page w.0 w.1 pages) ws

pub next_write : (limit : ℕ) (pages : List (List ℕ)) (w : ℕ × List ℕ) (ws : List (ℕ × List ℕ)) → Midway limit pages (w ∷ ws) → Next limit pages w ws
next_write limit pages w ws mid =
    let first = both (ltb mid.low w.0) _ mid.rising in
    let next = both (ltb w.0 limit) _ first.1 in
    let above : mid.low < w.0 = less_of mid.low w.0 first.0 in
    let within : w.0 < limit = less_of w.0 limit next.0 in
    let near : w.0 ≤ length pages + 1 = follows pages w ws limit within next.1 mid.covers in
    let some : 1 ≤ w.0 = omega (arith, above) in
    let grown = put_length pages w.1 w.0 some near in
    record {
      some = some;
      near = near;
      within = within;
      rest = record { low = w.0; rising = next.1; covers = covers_on pages w ws limit grown mid.covers; no_fewer = long_on pages w ws limit grown within mid.no_fewer };
    }
