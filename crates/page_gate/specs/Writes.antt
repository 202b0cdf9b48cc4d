-- Writes of whole pages, and what they make of a list of pages.
use Rattle.std.specs.Prelude.{◌≡◌, ◌⊎◌, ℕ, ◌+◌, ◌-◌, ◌<◌, ◌≤◌, ltb, cond, List, [], ◌∷◌, ◌++◌, length, set, IsTrue}
use Rattle.page_gate.specs.declared.page.PageWrite.{PageWrite}
use Rattle.page_gate.specs.Gate.{rises, count_of}

-- the numbers and the bytes of writes
abbrev pub pairs : List PageWrite → List (ℕ × List ℕ)
pairs [] = []
pairs (w ∷ ws) = (w.page, w.bytes) ∷ pairs ws

-- one of the writes is of this page
abbrev pub Names : ℕ → List (ℕ × List ℕ) → Type 0
Names page [] = ⊥
Names page (w ∷ ws) = (w.0 ≡ page) ⊎ Names page ws

-- a page takes its place in the list from page 1 on, or comes behind the last
abbrev pub put_page : ℕ → List ℕ → List (List ℕ) → List (List ℕ)
put_page page image pages = cond (ltb (length pages) page) (pages ++ image ∷ []) (set pages (page - 1) image)

-- the list after the writes
abbrev pub written : List (List ℕ) → List (ℕ × List ℕ) → List (List ℕ)
written pages [] = pages
written pages (w ∷ ws) = written (put_page w.0 w.1 pages) ws

-- the new number of pages with page 0, which the write of page 1 brings
abbrev pub new_count : List (ℕ × List ℕ) → ℕ
new_count [] = 0
new_count (w ∷ ws) = count_of w.1

abbrev pub first_page : List (ℕ × List ℕ) → ℕ
first_page [] = 0
first_page (w ∷ ws) = w.0

-- What a commit to a list of pages needs: page 1 comes first, the numbers rise, the new number of pages isn't below the
-- old one, each new page is among the writes, and none past them.
pub record IsPlan (pages : List (List ℕ)) (ws : List (ℕ × List ℕ)) : Type 0 where
  pub first : first_page ws ≡ 1
  pub rising : IsTrue (rises 0 (new_count ws) ws)
  pub no_fewer : length pages + 1 ≤ new_count ws
  pub whole : (page : ℕ) → length pages < page → page < new_count ws → Names page ws
