use Rattle.std.proofs.Common.{◌≡◌, ◌∙◌, ap, refl, sym}
use Rattle.wm_core.specs.MachineInside.{Seen, state_of}
use Rattle.wm_core.specs.Marks.{marks_at}
use Rattle.wm_core.proofs.Undone.{same_marks}
use Rattle.wm_core.proofs.machine.Machine.begin.Goals as goal

pub returns-clause-marks : goal.returns-clause-marks
returns-clause-marks c =
    let s = state_of c.self.inside in
    let present : c.mark.new.self.marked ≡ record { jobs = s.jobs; clock = s.clock; next_serial = s.next_serial; next_place = s.next_place } =
    rw (c.mark.ensures.marked, c.reserve.ensures.jobs, c.reserve.ensures.clock, c.reserve.ensures.next_serial, c.reserve.ensures.next_place) refl in
    rw (← c.self.view_is)
    (same_marks s c.args.call.now c.in_ok-mark.mark c.mark.new.self.marked (c.in_ok-mark.ensures ∙ ap (λ (t : Seen). (marks_at t.state c.args.call.now).mark) (sym c.self.view_is)) present)
