use Rattle.std.proofs.Common.{◌≡◌, ◌∙◌, ℕ, List, map, ap}
use Rattle.wm_law.specs.declared.job.Job.{Job}
use Rattle.wm_law.specs.declared.state.SbsPhase.{SbsPhase}
use Rattle.wm_law.specs.Endings.{end_phase, phased, told}
use Rattle.wm_core.specs.MachineInside.{state_of}
use Rattle.wm_subsystems.specs.Telling.{passes}
use Rattle.wm_core.proofs.Endings.{those_ended}
use Rattle.wm_core.proofs.machine.Machine.end_those.Goals as goal

pub returns-clause-ok : goal.returns-clause-ok
returns-clause-ok c =
    let s = state_of c.self.inside in
    let option = c.args.option in
    let delay = c.args.delay in
    let test = passes c.args.those.now in
    let reserved = c.reserve_for_active.ensures in
    let walked = c.tell_all.ensures in
    let clock : c.clock-clock.result ≡ s.clock = c.clock-clock.ensures ∙ reserved.rest.clock in
    let phase : c.end_phase.result ≡ end_phase s.clock option delay = c.end_phase.ensures ∙ ap (λ (n : ℕ). end_phase n option delay) clock in
    let jobs : c.tell_all.new.table.jobs ≡ map (told option test s.started) s.jobs = walked.jobs ∙ ap (λ (js : List Job). map (told option test s.started) js) reserved.jobs in
    let started : c.end_sbss.new.started ≡ map (phased test (end_phase s.clock option delay)) s.started = c.end_sbss.ensures ∙ ap (λ (p : SbsPhase). map (phased test p) s.started) phase in
    rw (← c.self.view_is)
    (those_ended s option delay test c.tell_all.new.table.jobs c.end_sbss.new.started c.drop_evokes.new.evokes c.tell_all.new.table.clock c.tell_all.new.table.next_serial c.tell_all.new.table.next_place
    jobs started c.drop_evokes.ensures (walked.rest.clock ∙ reserved.rest.clock) (walked.rest.next_serial ∙ reserved.rest.next_serial) (walked.rest.next_place ∙ reserved.rest.next_place))
