-- The words of the command line.
use Rattle.std.specs.Prelude.{ℕ, Bool, true, false, if◌then◌else◌, List, [], ◌∷◌, Option, Some, None, codes}
use Rattle.std.specs.Str.{bytes_eq}
use Rattle.vec_record.specs.declared.kind.MetricKind.{MetricKind}
use Rattle.vec_record.specs.declared.kind.MetricKind.TheVariants.{L1, Max, Hamming}
use Rattle.vec_record.specs.Limits.{are_within}
use Rattle.page_layout.specs.Heads.{Values}
use Rattle.batch_text.specs.Numbers.{number_of, within}

-- What `once` is asked for.
pub record Setting : Type 0 where
  pub metric : MetricKind
  pub dim : ℕ
  pub eps : ℕ
  pub minpts : ℕ

abbrev pub setting : MetricKind → ℕ → ℕ → ℕ → Setting
setting metric dim eps minpts = record { metric = metric; dim = dim; eps = eps; minpts = minpts }

-- the metric of a name
abbrev pub metric_named : List ℕ → Option MetricKind
metric_named word =
    if bytes_eq word (codes "l1") then Some L1
    else if bytes_eq word (codes "max") then Some Max
    else if bytes_eq word (codes "hamming") then Some Hamming
    else None

-- the number of one to ten digits that a word says
abbrev pub number_in : List ℕ → Option ℕ
number_in word = within 0 4294967295 (number_of word)

-- the setting, where all values are there and within their limits
abbrev pub checked : Option MetricKind → Option ℕ → Option ℕ → Option ℕ → Option Setting
checked None dim eps minpts = None
checked (Some metric) None eps minpts = None
checked (Some metric) (Some dim) None minpts = None
checked (Some metric) (Some dim) (Some eps) None = None
checked (Some metric) (Some dim) (Some eps) (Some minpts) = if are_within metric dim eps minpts 200000 then Some (setting metric dim eps minpts) else None

-- The words `once METRIC DIM EPS MINPTS`.
abbrev pub setting_of : List (List ℕ) → Option Setting
setting_of (once ∷ metric ∷ dim ∷ eps ∷ minpts ∷ []) =
    if bytes_eq once (codes "once") then checked (metric_named metric) (number_in dim) (number_in eps) (number_in minpts) else None
setting_of words = None

-- what the words ask the program for
pub data Command : Type 0 where
  Once : Setting → Command
  Init : Values → Command
  Serve : Command
  Trial : ℕ → ℕ → Command

abbrev pub once_of : Option Setting → Option Command
once_of None = None
once_of (Some s) = Some (Once s)

-- the parameters of a new store, where all values are there and within their limits
abbrev pub checked_values : Option MetricKind → Option ℕ → Option ℕ → Option ℕ → Option ℕ → Option Command
checked_values None dim eps minpts cap = None
checked_values (Some metric) None eps minpts cap = None
checked_values (Some metric) (Some dim) None minpts cap = None
checked_values (Some metric) (Some dim) (Some eps) None cap = None
checked_values (Some metric) (Some dim) (Some eps) (Some minpts) None = None
checked_values (Some metric) (Some dim) (Some eps) (Some minpts) (Some cap) =
    if are_within metric dim eps minpts cap then Some (Init (record { metric = metric; dim = dim; eps = eps; minpts = minpts; cap = cap })) else None

-- the words `init METRIC DIM EPS MINPTS CAP`
abbrev pub init_of : List (List ℕ) → Option Command
init_of (init ∷ metric ∷ dim ∷ eps ∷ minpts ∷ cap ∷ []) =
    if bytes_eq init (codes "init") then checked_values (metric_named metric) (number_in dim) (number_in eps) (number_in minpts) (number_in cap) else None
init_of words = None

-- the seed and the count of a trial, where both are there and within their limits
abbrev pub checked_trial : Option ℕ → Option ℕ → Option Command
checked_trial None count = None
checked_trial (Some seed) None = None
checked_trial (Some seed) (Some count) = Some (Trial seed count)

-- the words `trial SEED COUNT`
abbrev pub trial_of : List (List ℕ) → Option Command
trial_of (trial ∷ seed ∷ count ∷ []) =
    if bytes_eq trial (codes "trial") then checked_trial (number_in seed) (within 1 100000 (number_of count)) else None
trial_of words = None

-- the word `serve`
abbrev pub is_serve : List (List ℕ) → Bool
is_serve (serve ∷ []) = bytes_eq serve (codes "serve")
is_serve words = false

abbrev pub or_else : Option Command → Option Command → Option Command
or_else None next = next
or_else (Some command) next = Some command

-- what all the words ask for, where they have a known form
abbrev pub command_of : List (List ℕ) → Option Command
command_of words =
    if is_serve words then Some Serve else or_else (init_of words) (or_else (trial_of words) (once_of (setting_of words)))

-- whether the words ask for more than an answer to the input: a store or a trial; `once` and refused words don't
abbrev pub asks_more : Option Command → Bool
asks_more None = false
asks_more (Some (Once s)) = false
asks_more (Some (Init v)) = true
asks_more (Some Serve) = true
asks_more (Some (Trial seed count)) = true
