use Rattle.std.proofs.Common.{◌≡◌, ◌∙◌, ◌==◌, true, Some, find, map, ap, sym, subst, List}
use Rattle.std.specs.Option.{IfSome, option_copied}
use Rattle.std.specs.Prelude.{Option}
use Rattle.wm_base.specs.declared.job.StartOrder.{StartOrder}
use Rattle.wm_law.specs.declared.job.Job.{Job}
use Rattle.wm_law.specs.declared.job.Phase.TheVariants.{Handed}
use Rattle.wm_law.specs.declared.state.State.{State}
use Rattle.wm_law.specs.Counts.{is_active, is_starting}
use Rattle.wm_law.specs.Launch.{order_of}
use Rattle.wm_law.specs.Reports.{start_job, hand_order, phased_at}
use Rattle.wm_law.proofs.Members.{found_among}
use Rattle.wm_pick.specs.Parts.{parts_of}
use Rattle.wm_core.specs.MachineInside.{Seen, state_of}
use Rattle.wm_core.proofs.ActivePhases.{starting_active}
use Rattle.wm_core.proofs.machine.Machine.hand_start.Goals as goal

pub set_phase-requires-clause-active : goal.set_phase-requires-clause-active
set_phase-requires-clause-active c =
    let s = state_of c.self.inside in
    let job : Job = c.in-Some.job.now in
    let copied = ap option_copied c.in-Some.is in
    let starts = (found_among (λ (j : Job). is_starting j.phase) s.jobs job (sym c.first_starting.ensures.first ∙ copied)).1 in
    subst (λ (js : List Job). IfSome (find (λ (j : Job). j.serial == job.serial) js) (λ (j : Job). is_active j.phase ≡ true)) (sym c.reserve.ensures.jobs)
    (subst (λ (o : Option Job). IfSome o (λ (j : Job). is_active j.phase ≡ true)) (sym (c.first_starting.ensures.by_serial job copied)) (starting_active job.phase starts))

pub returns-clause-state : goal.returns-clause-state
returns-clause-state c =
    let s = state_of c.self.inside in
    let m = c.args.monitor in
    let job : Job = c.in-Some.job.now in
    let found : find (λ (j : Job). is_starting j.phase) s.jobs ≡ Some job = sym c.first_starting.ensures.first ∙ ap option_copied c.in-Some.is in
    let parts = c.parts.ensures ∙ ap (λ (t : Seen). parts_of t.state) (sym c.self.view_is) in
    let ordered : order_of s job ≡ Some c.in-Some-2.order = sym (c.in_ok-order.ensures ∙ ap (λ (t : State). order_of t job) parts) ∙ c.in-Some-2.is in
    let jobs : c.set_phase.new.self.jobs ≡ map (phased_at job.serial (Handed m)) s.jobs = c.set_phase.ensures.jobs ∙ ap (λ (js : List Job). map (phased_at job.serial (Handed m)) js) c.reserve.ensures.jobs in
    rw (← c.self.view_is, c.set_phase.ensures.clock, c.reserve.ensures.clock, c.set_phase.ensures.next_serial, c.reserve.ensures.next_serial, c.set_phase.ensures.next_place, c.reserve.ensures.next_place) (ap (λ (js : List Job). record s { jobs = js }) jobs ∙ sym (ap (λ (o : Option Job). (start_job s m o).state) found ∙ ap (λ (o : Option StartOrder). (hand_order s m job o).state) ordered))
