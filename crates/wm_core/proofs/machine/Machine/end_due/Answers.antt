use Rattle.std.proofs.Common.{◌≡◌, ◌∙◌, ℕ, List, map, ap}
use Rattle.wm_law.specs.declared.job.Job.{Job}
use Rattle.wm_law.specs.declared.state.Sbs.{Sbs}
use Rattle.wm_law.specs.Settling.{job_at, sbs_at, sbss_at}
use Rattle.wm_core.specs.MachineInside.{state_of}
use Rattle.wm_core.proofs.Endings.{due_ended}
use Rattle.wm_core.proofs.machine.Machine.end_due.Goals as goal

pub returns-clause-ok : goal.returns-clause-ok
returns-clause-ok c =
    let s = state_of c.self.inside in
    let reserved = c.reserve_for_active.ensures in
    let told = c.tell_all.ensures in
    let now = c.clock-clock.result in
    let subsystems = c.look_at_all.new.started in
    let clock : now ≡ s.clock = c.clock-clock.ensures ∙ reserved.rest.clock in
    let started : subsystems ≡ sbss_at s = c.look_at_all.ensures ∙ ap (λ (n : ℕ). map (sbs_at n) s.started) clock in
    let jobs : c.tell_all.new.table.jobs ≡ map (job_at s.clock (sbss_at s)) s.jobs =
    told.jobs ∙ (ap (λ (js : List Job). map (job_at now subsystems) js) reserved.jobs
    ∙ (ap (λ (n : ℕ). map (job_at n subsystems) s.jobs) clock ∙ ap (λ (bs : List Sbs). map (job_at s.clock bs) s.jobs) started)) in
    rw (← c.self.view_is)
    (due_ended s c.tell_all.new.table.jobs subsystems c.tell_all.new.table.clock c.tell_all.new.table.next_serial c.tell_all.new.table.next_place
    jobs started (told.rest.clock ∙ reserved.rest.clock) (told.rest.next_serial ∙ reserved.rest.next_serial) (told.rest.next_place ∙ reserved.rest.next_place))
