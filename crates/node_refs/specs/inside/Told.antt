-- How far a walk over references has come.
use Rattle.std.specs.Prelude.{◌≡◌, ℕ, ◌+◌, ◌*◌, ◌<◌, ◌^◌, Bool, false, List, length, slice_index_or}
use Rattle.std.specs.List.{count_by}
use Rattle.node_refs.specs.declared.pages.NodePage.{NodePage}
use Rattle.node_refs.specs.declared.listing.Listed.{Listed}
use Rattle.node_refs.specs.declared.progress.Progress.{Progress}
use Rattle.node_refs.specs.Pages.{is_in}

-- a table tells of each reference below its length whether it is one of these, as many as it says
pub record Tells (table : List Bool) (refs : List ℕ) : Type 0 where
  pub each : (r : ℕ) → r < length table → slice_index_or table r false ≡ is_in refs r
  pub count : count_by (λ told. told) table ≡ length refs

-- what a walk has listed
abbrev pub listed_so_far : Progress → Listed
listed_so_far p = record { shapes = p.shapes; refs = p.refs }

-- a walk over pages can go on: its table has room for each reference, and tells what was listed
pub record IsReady (pages : List NodePage) (p : Progress) : Type 0 where
  pub few : length pages + 2 < 2 ^ 26
  pub table : length p.table.items ≡ 64 * (length pages + 2)
  pub tells : Tells p.table.items p.refs
