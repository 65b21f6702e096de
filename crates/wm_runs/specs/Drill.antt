-- What a drill answers for.
use Rattle.std.specs.Prelude.{◌≡◌, ◌⊎◌, ℕ, pos, true, List, [], ◌∷◌, Option, Some, None, nat_eq}
use Rattle.std.specs.List.{list_any}
use Rattle.wm_base.specs.declared.job.Asked.{Asked}
use Rattle.wm_law.specs.declared.call.Entry.{Entry}
use Rattle.wm_floor.specs.Keeping.{Telling}
use Rattle.wm_floor.specs.declared.report.Report.{Report}
use Rattle.wm_plan.specs.declared.plan.DrillPlan.{DrillPlan}
use Rattle.wm_run.specs.Kept.{HasHistory}
use Rattle.wm_run.specs.Outcome.{RunTakes}
use Rattle.wm_run.specs.Run.{IsServed}
use Rattle.wm_run.specs.Words.{settings_in}
use Rattle.wm_run.specs.declared.settings.Settings.{Settings}
use Rattle.wm_traits.specs.declared.row.Row.{Row}
use Rattle.wm_traits.specs.declared.spawner.Told.{Told}
use Rattle.wm_runs.specs.Text.{drill_text}

-- what a drill goes by: what the one word `run` says, but for 200,000 entries
abbrev pub drill_settings : Settings
drill_settings = record (settings_in None) { log_limit = 200000 }

-- a keeper tells these rows, and all that it has had
abbrev pub tells : List Row → List (List Row) → Telling
tells tables trail = record { tables = Some tables; trail = Some trail }

-- a run over a text, by objects in memory that never fail, from no rows: what it left of the text, what it wrote, its rows, and what it
-- asked for and was told
pub record IsRunOver (text : List ℕ) (status : ℕ) (log : List Entry) (kept : List Report) : Type 0 where
  pub left : List ℕ
  pub written : Option (List ℕ)
  pub tables : List Row
  pub trail : List (List Row)
  pub asked : Option (List Asked)
  pub told : Option (List Told)
  pub history : HasHistory (pos 0) status log (tells [] ([] ∷ [])) (tells tables trail) (RunTakes drill_settings (Some text) (Some left) status log (Some []) written)
  pub served : IsServed log kept (Some []) asked (Some []) told 0 0

-- a drill is a run over its text; a status of that above 0 is the drill's
pub record IsDrilled (plan : DrillPlan) (status : ℕ) (log : List Entry) (kept : List Report) : Type 0 where
  pub came : ℕ
  pub run : IsRunOver (drill_text plan.seed plan.jobs) came log kept
  pub passed : (came ≡ 0) ⊎ (status ≡ came)

-- the statuses of a run over objects that never fail, from no rows, whose text isn't too long
abbrev pub steady_statuses : List ℕ
steady_statuses = 0 ∷ 1 ∷ 6 ∷ 7 ∷ []

-- the statuses of a line that is written behind it
abbrev pub line_statuses : List ℕ
line_statuses = 0 ∷ 4 ∷ 6 ∷ []

-- the statuses of a drill
abbrev pub drill_statuses : List ℕ
drill_statuses = 0 ∷ 1 ∷ 2 ∷ 4 ∷ 6 ∷ 7 ∷ []

-- a status is one of these
abbrev pub IsAmong : List ℕ → ℕ → Type 0
IsAmong statuses status = list_any (nat_eq status) statuses ≡ true
