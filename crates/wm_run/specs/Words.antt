-- The words of the command line, and what a run goes by.
use Rattle.std.specs.Prelude.{◌≡◌, ◌⊎◌, ℕ, Bool, List, [], ◌∷◌, Option, Some, None, is_some, codes, pos}
use Rattle.wm_desc.specs.Opening.{qbatch}
use Rattle.wm_plan.specs.Plans.{plan_of}
use Rattle.wm_plan.specs.declared.plan.Plan.{Plan}
use Rattle.wm_plan.specs.declared.plan.Plan.TheVariants.{Run, Serve, Drill}
use Rattle.wm_plan.specs.declared.plan.RunPlan.{RunPlan}
use Rattle.wm_traits.specs.Told.{Grows, Stays}
use Rattle.wm_run.specs.declared.settings.Settings.{Settings}

-- the plan of a run, where it is one
abbrev pub of_run : Option Plan → Option RunPlan
of_run None = None
of_run (Some (Run plan)) = Some plan
of_run (Some (Serve plan)) = None
of_run (Some (Drill plan)) = None

-- the plan of a run that words are
abbrev pub run_plan : List (List ℕ) → Option RunPlan
run_plan words = of_run (plan_of words)

-- the words are those of a run
abbrev pub is_run : List (List ℕ) → Bool
is_run words = is_some (run_plan words)

-- what a run of the plan goes by; without a plan, what the one word `run` says
abbrev pub settings_in : Option RunPlan → Settings
settings_in (Some plan) = record { ctl = plan.ctl; user = plan.user; offset = plan.offset; log_limit = plan.log_limit }
settings_in None = record { ctl = qbatch; user = codes "QUSER"; offset = pos 0; log_limit = 1000000 }

-- what a run with these words goes by
abbrev pub settings_of : List (List ℕ) → Settings
settings_of words = settings_in (run_plan words)

-- without a plan nothing is opened; else the path of its store is, once, or nothing where memory was wanting before
abbrev pub OpensPlanned : Option RunPlan → ℕ → Option (List (List ℕ)) → Option (List (List ℕ)) → Type 0
OpensPlanned None status old new = Stays old new
OpensPlanned (Some plan) status old new = Grows old new (plan.store ∷ []) ⊎ ((status ≡ 6) × Stays old new)

-- what a run with these words opens of a store
abbrev pub OpensStoreOf : List (List ℕ) → ℕ → Option (List (List ℕ)) → Option (List (List ℕ)) → Type 0
OpensStoreOf words status old new = OpensPlanned (run_plan words) status old new
