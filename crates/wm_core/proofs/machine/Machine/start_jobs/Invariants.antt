use Rattle.std.proofs.Common.{◌≡◌}
use Rattle.wm_law.specs.Settling.{start_jobs, waiting}
use Rattle.wm_core.proofs.machine.Machine.start_jobs.Given as goal

-- what is left to start is what was to start from the beginning
abbrev pub invariant-loop-candidate : goal.invariant-loop-candidate
invariant-loop-candidate g l = record { state : start_jobs l.self.state ≡ start_jobs l.fn.self.state; marks : l.self.marks ≡ l.fn.self.marks }

abbrev pub decreases-loop-candidate : goal.decreases-loop-candidate
decreases-loop-candidate g l = waiting l.self.state
