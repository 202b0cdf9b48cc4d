-- What becomes of anchors that new cores are offered to.
use Rattle.std.specs.Prelude.{◌≡◌, ℕ, Bool, ◌&&◌, cond, nat_lt, List, [], ◌∷◌, filter, Option, Some, is_none}
use Rattle.std.specs.Option.{option_map}
use Rattle.std.specs.FinMap as map
use Rattle.count_book.specs.declared.row.Row.{Row}
use Rattle.count_book.specs.Counted.{Counted, lesser}
use Rattle.label_book.specs.Labels.{Labels}

-- The least of an anchor, if there is one, and of these cores.
abbrev pub least_of : Option ℕ → List ℕ → Option ℕ
least_of anchor [] = anchor
least_of anchor (c ∷ cores) = least_of (Some (lesser anchor c)) cores

-- The row of a number that isn't core, hung on the least of its anchor and of these cores.
abbrev pub hung : ℕ → List ℕ → Row → Row
hung minpts cores r =
    record r { anchor = cond (nat_lt r.count minpts) (least_of r.anchor cores) r.anchor }

-- Those of the cores that a number is near, where it has no label.
abbrev pub offers : (ℕ → ℕ → Bool) → Labels → List ℕ → ℕ → List ℕ
offers near labels cores q = filter (λ n. near n q && is_none (map.get labels q)) cores

-- The book after these cores were offered to the numbers near them that have no label.
pub record AreOffered
    (near : ℕ → ℕ → Bool) (labels : Labels) (cores : List ℕ) (old new : Counted) : Type 0 where
  pub minpts_kept : new.minpts ≡ old.minpts
  pub row :
      (q : ℕ) → map.get new.rows q
      ≡ option_map (hung old.minpts (offers near labels cores q)) (map.get old.rows q)
