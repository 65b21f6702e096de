-- Which options each command has, their defaults and ranges, and the plan that words are.
use Rattle.std.specs.Prelude.{ℕ, ℤ, pos, IsTrue, List, [], ◌∷◌, Option, Some, None, option_map, if◌then◌else◌, codes}
use Rattle.std.specs.Str.{bytes_eq}
use Rattle.wm_base.specs.declared.qname.QName.{QName}
use Rattle.wm_base.specs.Name.{name_of}
use Rattle.wm_desc.specs.Opening.{qbatch}
use Rattle.wm_when.specs.Schedule.{within}
use Rattle.wm_plan.specs.Options.{are_given, joined, value_of}
use Rattle.wm_plan.specs.Values.{path_of, qname_of, listen_of, offset_of, number_of, ranged_of}
use Rattle.wm_plan.specs.declared.plan.DrillPlan.{DrillPlan}
use Rattle.wm_plan.specs.declared.plan.ListenAt.{ListenAt}
use Rattle.wm_plan.specs.declared.plan.Plan.{Plan}
use Rattle.wm_plan.specs.declared.plan.Plan.TheVariants.{Run, Serve, Drill}
use Rattle.wm_plan.specs.declared.plan.RunPlan.{RunPlan}
use Rattle.wm_plan.specs.declared.plan.ServePlan.{ServePlan}

-- what a value says, or the default where the option isn't given
abbrev pub read_or : {X : Type 0} → (List ℕ → Option X) → X → Option (List ℕ) → Option X
read_or read default None = Some default
read_or read default (Some value) = read value

-- what a value says, where the option has to be given
abbrev pub read_given : {X : Type 0} → (List ℕ → Option X) → Option (List ℕ) → Option X
read_given read None = None
read_given read (Some value) = read value

-- The options of `run`

abbrev pub store_said : Option (List ℕ) → Option (List ℕ)
store_said = read_or path_of (codes ":memory:")

abbrev pub ctl_said : Option (List ℕ) → Option QName
ctl_said = read_or qname_of qbatch

abbrev pub user_said : Option (List ℕ) → Option (List ℕ)
user_said = read_or name_of (codes "QUSER")

abbrev pub offset_said : Option (List ℕ) → Option ℤ
offset_said = read_or offset_of (pos 0)

abbrev pub limit_said : Option (List ℕ) → Option ℕ
limit_said = read_or (ranged_of 1 1000000) 1000000

abbrev pub run_names : List (List ℕ)
run_names = codes "store" ∷ codes "ctl" ∷ codes "user" ∷ codes "offset" ∷ codes "log-limit" ∷ []

-- a plan, where each value says something
abbrev pub made_run : Option (List ℕ) → Option QName → Option (List ℕ) → Option ℤ → Option ℕ → Option RunPlan
made_run None ctl user offset limit = None
made_run (Some store) None user offset limit = None
made_run (Some store) (Some ctl) None offset limit = None
made_run (Some store) (Some ctl) (Some user) None limit = None
made_run (Some store) (Some ctl) (Some user) (Some offset) None = None
made_run (Some store) (Some ctl) (Some user) (Some offset) (Some limit) =
    Some (record { store = store; ctl = ctl; user = user; offset = offset; log_limit = limit })

abbrev pub run_plan : List (List ℕ) → Option RunPlan
run_plan options = made_run (store_said (value_of (codes "store") options)) (ctl_said (value_of (codes "ctl") options))
    (user_said (value_of (codes "user") options)) (offset_said (value_of (codes "offset") options))
    (limit_said (value_of (codes "log-limit") options))

-- The options of `serve`, beside those of `run` without the user

abbrev pub listen_said : Option (List ℕ) → Option ListenAt
listen_said = read_given listen_of

abbrev pub workers_said : Option (List ℕ) → Option ℕ
workers_said = read_or (ranged_of 1 16) 2

abbrev pub monitors_said : Option (List ℕ) → Option ℕ
monitors_said = read_or (ranged_of 1 8) 1

abbrev pub serve_names : List (List ℕ)
serve_names = codes "listen" ∷ codes "workers" ∷ codes "monitors" ∷ codes "store" ∷ codes "ctl" ∷ codes "offset" ∷ codes "log-limit" ∷ []

-- a plan, where each value says something
abbrev pub made_serve : Option ListenAt → Option ℕ → Option ℕ → Option (List ℕ) → Option QName → Option ℤ → Option ℕ → Option ServePlan
made_serve None workers monitors store ctl offset limit = None
made_serve (Some listen) None monitors store ctl offset limit = None
made_serve (Some listen) (Some workers) None store ctl offset limit = None
made_serve (Some listen) (Some workers) (Some monitors) None ctl offset limit = None
made_serve (Some listen) (Some workers) (Some monitors) (Some store) None offset limit = None
made_serve (Some listen) (Some workers) (Some monitors) (Some store) (Some ctl) None limit = None
made_serve (Some listen) (Some workers) (Some monitors) (Some store) (Some ctl) (Some offset) None = None
made_serve (Some listen) (Some workers) (Some monitors) (Some store) (Some ctl) (Some offset) (Some limit) =
    Some (record { listen = listen; workers = workers; monitors = monitors; store = store; ctl = ctl; offset = offset; log_limit = limit })

abbrev pub serve_plan : List (List ℕ) → Option ServePlan
serve_plan options = made_serve (listen_said (value_of (codes "listen") options)) (workers_said (value_of (codes "workers") options))
    (monitors_said (value_of (codes "monitors") options)) (store_said (value_of (codes "store") options))
    (ctl_said (value_of (codes "ctl") options)) (offset_said (value_of (codes "offset") options))
    (limit_said (value_of (codes "log-limit") options))

-- The options of `drill`

abbrev pub seed_said : Option (List ℕ) → Option ℕ
seed_said = read_given number_of

abbrev pub jobs_said : Option (List ℕ) → Option ℕ
jobs_said = read_given (ranged_of 1 5000)

abbrev pub drill_names : List (List ℕ)
drill_names = codes "seed" ∷ codes "jobs" ∷ []

abbrev pub made_drill : Option ℕ → Option ℕ → Option DrillPlan
made_drill None jobs = None
made_drill (Some seed) None = None
made_drill (Some seed) (Some jobs) = Some (record { seed = seed; jobs = jobs })

abbrev pub drill_plan : List (List ℕ) → Option DrillPlan
drill_plan options = made_drill (seed_said (value_of (codes "seed") options)) (jobs_said (value_of (codes "jobs") options))

-- The words

-- what options are planned as, where there are options, and each is one of these names, once
abbrev pub planned : {X : Type 0} → List (List ℕ) → (List (List ℕ) → Option X) → Option (List (List ℕ)) → Option X
planned names plan None = None
planned names plan (Some options) = if are_given names [] options then plan options else None

-- the plan of a command with these words behind it
abbrev pub plan_for : List ℕ → List (List ℕ) → Option Plan
plan_for command words =
    if bytes_eq command (codes "run") then option_map Run (planned run_names run_plan (joined words))
    else if bytes_eq command (codes "serve") then option_map Serve (planned serve_names serve_plan (joined words))
    else if bytes_eq command (codes "drill") then option_map Drill (planned drill_names drill_plan (joined words))
    else None

-- the plan that words are: a command, and its options in any order
abbrev pub plan_of : List (List ℕ) → Option Plan
plan_of [] = None
plan_of (command ∷ words) = plan_for command words

-- a server's limit, workers and monitors are in their ranges
abbrev pub IsFitServe : ServePlan → Type 0
IsFitServe plan = IsTrue (within 1 1000000 plan.log_limit) × (IsTrue (within 1 16 plan.workers) × IsTrue (within 1 8 plan.monitors))

-- a run's limit, what a server has of numbers, and a drill's jobs are in their ranges
abbrev pub IsFitPlan : Plan → Type 0
IsFitPlan (Run plan) = IsTrue (within 1 1000000 plan.log_limit)
IsFitPlan (Serve plan) = IsFitServe plan
IsFitPlan (Drill plan) = IsTrue (within 1 5000 plan.jobs)
