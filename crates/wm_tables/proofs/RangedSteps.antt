-- Steps of calls in range keep a sound state in range.
use Rattle.std.proofs.Common.{◌≤◌, ℕ, arith}
use Rattle.wm_base.specs.Iterate.{IsKept}
use Rattle.wm_base.proofs.Iterate.{iterate-keeps}
use Rattle.wm_law.specs.Choice.{next}
use Rattle.wm_law.specs.Launch.{launch}
use Rattle.wm_law.specs.Machine.{apply, step, with_clock}
use Rattle.wm_law.specs.Settling.{come_due, job_at, leave, ready, sbss_at, waiting}
use Rattle.wm_law.specs.declared.state.State.{State}
use Rattle.wm_law.proofs.Endings.{wishing_at}
use Rattle.wm_law.proofs.Sound.{clock_sound}
use Rattle.wm_law.proofs.Supplies.{supplied_keeps}
use Rattle.wm_tables.specs.Laws.{StepKeepsRanges}
use Rattle.wm_tables.specs.Ranges.{IsInRange}
use Rattle.wm_tables.proofs.RangedCalls.{apply_keeps}
use Rattle.wm_tables.proofs.RangedLaunches.{launch_range}
use Rattle.wm_tables.proofs.RangedSupplies.{supplies_range, wished_range}

clock_range : (s : State) (moment : ℕ) → moment ≤ 253402214399 → IsInRange s → IsInRange (with_clock s moment)
clock_range s moment h r = let most = r.clock in record { objects = r.objects; held = r.held; jobs = r.jobs; clock = omega arith }

due_range : (s : State) → IsInRange s → IsInRange (come_due s)
due_range s r = wished_range s (job_at s.clock (sbss_at s)) (sbss_at s) s.stopped s.evokes s.power (wishing_at s.clock (sbss_at s)) r

leave_range : (s : State) → IsInRange s → IsInRange (leave s)
leave_range s r = record { objects = r.objects; held = r.held; jobs = r.jobs; clock = r.clock }

ready_range : (s : State) → IsInRange s → IsInRange (ready s)
ready_range s r = supplied_keeps IsInRange supplies_range (leave (come_due s)) (leave_range (come_due s) (due_range s r))

launches_range : IsKept next (λ c t. launch t c) IsInRange
launches_range = record { by_step = λ s c e r. launch_range s c r }

pub step_keeps_ranges : StepKeepsRanges
unfolding step
step_keeps_ranges s caller call moment late fit sound r =
    let t = (apply (with_clock s moment) caller call).state in
    let called : IsInRange t = apply_keeps (with_clock s moment) caller call fit (clock_sound s moment sound) (clock_range s moment late r) in
    iterate-keeps IsInRange launches_range (waiting (ready t)) (ready t) (ready_range t called)
