use Rattle.std.proofs.Common.{◌≡◌, ◌∙◌, ◌==◌, true, List, Some, map, ap, sym, subst}
use Rattle.std.specs.List.{find}
use Rattle.std.specs.Option.{IfSome, option_copied}
use Rattle.std.specs.Prelude.{Option}
use Rattle.wm_law.specs.declared.job.Job.{Job}
use Rattle.wm_law.specs.declared.launch.Launched.{Launched}
use Rattle.wm_law.specs.Counts.{is_waiting}
use Rattle.wm_law.specs.Jobs.{changed_at}
use Rattle.wm_law.specs.Launch.{as_launched, with_routed, routed_from_queue}
use Rattle.wm_law.specs.Laws.{IsIn}
use Rattle.wm_law.proofs.Firsts.{next_waits}
use Rattle.wm_law.proofs.Settling.{not_waiting}
use Rattle.wm_core.specs.MachineInside.{Seen, state_of}
use Rattle.wm_core.proofs.machine.Machine.launch.Goals as goal

pub launch-requires-clause-phase : goal.launch-requires-clause-phase
launch-requires-clause-phase c = rw (c.launched-launched.ensures) (not_waiting c.args.self.now.state c.args.candidate.now.sbs c.args.candidate.now.jobq c.in-Some.job.now)

pub launch-requires-clause-waits : goal.launch-requires-clause-waits
launch-requires-clause-waits c =
    let w = next_waits c.args.self.now.state c.args.candidate.now c.requires in
    let stands = subst (λ (t : Seen). IsIn w.0 t.state.jobs) (sym c.self.view_is) w.1 in
    let one = sym c.job.ensures.found ∙ c.job.ensures.one w.0 stands (sym w.3) in
    subst (λ (o : Option Job). IfSome o (λ (j : Job). is_waiting j.phase ≡ true)) (sym one) w.2

pub returns-clause-state : goal.returns-clause-state
returns-clause-state c =
    let s = state_of c.self.inside in
    let candidate = c.args.candidate.now in
    let job : Job = c.in-Some.job.now in
    let found : find (λ (j : Job). j.serial == candidate.serial) s.jobs ≡ Some job = sym c.job.ensures.found ∙ ap option_copied c.in-Some.is in
    let same = ap (λ (t : Seen). routed_from_queue t.state candidate.sbs candidate.jobq job) (sym c.self.view_is) in
    let jobs : c.launch.new.self.jobs ≡ map (changed_at candidate.serial (as_launched (routed_from_queue s candidate.sbs candidate.jobq job))) s.jobs =
    c.launch.ensures.jobs ∙ ap (λ (l : Launched). map (changed_at candidate.serial (as_launched l)) s.jobs) (c.launched-launched.ensures ∙ same) in
    rw (← c.self.view_is, c.launch.ensures.clock, c.launch.ensures.next_serial, c.launch.ensures.next_place) (ap (λ (js : List Job). record s { jobs = js }) jobs ∙ sym (ap (with_routed s candidate) found))
