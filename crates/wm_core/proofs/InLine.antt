-- The jobs of a sound state stand in line, and so do those that a call leaves before the state settles.
use Rattle.std.proofs.Common.{◌≡◌, ℕ, sym, subst}
use Rattle.wm_law.specs.declared.call.Call.{Call}
use Rattle.wm_law.specs.declared.state.State.{State}
use Rattle.wm_law.specs.Kept.{IsNumbered}
use Rattle.wm_law.specs.Machine.{apply, with_clock}
use Rattle.wm_law.specs.Sound.{HasJobsInOrder, IsSound}
use Rattle.wm_law.proofs.Numbers.{apply_keeps, clock_keeps}
use Rattle.wm_law.proofs.Serials.{apply_keeps_jobs_in_order}
use Rattle.wm_subsystems.specs.Walks.{AreInLine}

in_line : (s : State) → IsNumbered s → HasJobsInOrder s → AreInLine s.next_serial s.jobs
in_line s n h = record { increasing = h; given = n.serials; most = n.next_serial.most }

-- so do the jobs before a call of a sound state
pub sound_in_line : (s : State) → IsSound s → AreInLine s.next_serial s.jobs
sound_in_line s h = in_line s h.numbered h.jobs

pub applied_in_line : (s : State) (caller : ℕ) (call : Call) (moment : ℕ) (t : State) → IsSound s → t ≡ (apply (with_clock s moment) caller call).state → AreInLine t.next_serial t.jobs
applied_in_line s caller call moment t h e =
    let timed = with_clock s moment in
    let numbered = clock_keeps s moment h.numbered in
    subst (λ (u : State). AreInLine u.next_serial u.jobs) (sym e)
    (in_line (apply timed caller call).state (apply_keeps timed caller call numbered) (apply_keeps_jobs_in_order timed caller call numbered h.jobs))
