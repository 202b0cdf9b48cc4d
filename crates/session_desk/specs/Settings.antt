-- Parameters that are those of a setting or of a new store. The code alone speaks of this.
use Rattle.std.specs.Prelude.{◌≡◌, ◌≤◌, Option, Some, None}
use Rattle.vec_record.specs.declared.params.Params.{Params}
use Rattle.page_layout.specs.Heads.{values_of}
use Rattle.session_desk.specs.declared.words.Task.{Task}
use Rattle.session_desk.specs.declared.words.Task.TheVariants as task
use Rattle.session_desk.specs.declared.trial.Trial as trial
use Rattle.session_desk.specs.Words.{Setting, setting, Command, Once, Init, Serve, Trial}

-- the parameters are there exactly where a setting is, with its values and room for 200,000 records
abbrev pub IsSetting : Option Params → Option Setting → Type 0
IsSetting None due = due ≡ None
IsSetting (Some p) due = (due ≡ Some (setting p.metric p.dim p.eps p.minpts)) × (p.cap ≡ 200000)

-- the parameters of a new store are there exactly where they are asked for
abbrev pub IsInit : Option Params → Option Command → Type 0
IsInit None due = due ≡ None
IsInit (Some p) due = due ≡ Some (Init (values_of p))

-- the seed and the count of a trial are there exactly where it is asked for
abbrev pub IsTrial : Option trial.Trial → Option Command → Type 0
IsTrial None due = due ≡ None
IsTrial (Some t) due = (due ≡ Some (Trial t.seed t.count)) × (t.count ≤ 100000)

-- what is asked for
abbrev pub IsTask : Option Task → Option Command → Option Setting → Type 0
IsTask None due set = (due ≡ None) × (set ≡ None)
IsTask (Some (task.Once p)) due set =
    (due ≡ Some (Once (setting p.metric p.dim p.eps p.minpts))) × (set ≡ Some (setting p.metric p.dim p.eps p.minpts)) × (p.cap ≡ 200000)
IsTask (Some (task.Init p)) due set = due ≡ Some (Init (values_of p))
IsTask (Some task.Serve) due set = due ≡ Some Serve
IsTask (Some (task.Trial t)) due set = (due ≡ Some (Trial t.seed t.count)) × (t.count ≤ 100000)
