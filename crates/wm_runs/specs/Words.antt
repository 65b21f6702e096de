-- The words of a drill.
use Rattle.std.specs.Prelude.{ℕ, Bool, List, Option, Some, None, is_some}
use Rattle.wm_plan.specs.Plans.{plan_of}
use Rattle.wm_plan.specs.declared.plan.DrillPlan.{DrillPlan}
use Rattle.wm_plan.specs.declared.plan.Plan.{Plan}
use Rattle.wm_plan.specs.declared.plan.Plan.TheVariants.{Run, Serve, Drill}

-- the plan of a drill, where it is one
abbrev pub of_drill : Option Plan → Option DrillPlan
of_drill None = None
of_drill (Some (Run plan)) = None
of_drill (Some (Serve plan)) = None
of_drill (Some (Drill plan)) = Some plan

-- the plan of a drill that words are
abbrev pub drill_plan : List (List ℕ) → Option DrillPlan
drill_plan words = of_drill (plan_of words)

-- the words are those of a drill
abbrev pub is_drill : List (List ℕ) → Bool
is_drill words = is_some (drill_plan words)
