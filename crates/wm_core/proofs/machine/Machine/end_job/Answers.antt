use Rattle.std.proofs.Common.{◌≡◌, ◌∙◌, List, Result, Ok, Err, map, ap}
use Rattle.wm_base.specs.declared.refusal.Refusal.{Refusal}
use Rattle.wm_law.specs.declared.job.Job.{Job}
use Rattle.wm_law.specs.Jobs.{active_at}
use Rattle.wm_law.specs.Stepped.{Stepped}
use Rattle.wm_law.specs.Wishes.{with_wish}
use Rattle.wm_subsystems.specs.declared.job_ending.Ending.{Ending}
use Rattle.wm_subsystems.specs.declared.job_ending.Ending.TheVariants.{Wished}
use Rattle.wm_core.specs.MachineInside.{state_of}
use Rattle.wm_core.proofs.Endings.{job_ends, wish_given}
use Rattle.wm_core.proofs.machine.Machine.end_job.Goals as goal

pub returns-in-Err-end_job-clause-reply : goal.returns-in-Err-end_job-clause-reply
returns-in-Err-end_job-clause-reply c =
    let s = state_of c.self.inside in
    let answer : Result Ending Refusal = Err c.in-Err-end_job.refusal in
    rw (← c.self.view_is) (ap (λ (t : Stepped). t.reply) (job_ends s c.args.command.now c.in-Ok.job.now _ _ answer c.in-Ok.ensures c.clock.ensures c.end_job.ensures c.in-Err-end_job.is))

pub returns-in-Err-end_job-clause-state : goal.returns-in-Err-end_job-clause-state
returns-in-Err-end_job-clause-state c =
    let s = state_of c.self.inside in
    let answer : Result Ending Refusal = Err c.in-Err-end_job.refusal in
    rw (← c.self.view_is) (ap (λ (t : Stepped). t.state) (job_ends s c.args.command.now c.in-Ok.job.now _ _ answer c.in-Ok.ensures c.clock.ensures c.end_job.ensures c.in-Err-end_job.is))

pub returns-in-Wished-clause-reply : goal.returns-in-Wished-clause-reply
returns-in-Wished-clause-reply c =
    let s = state_of c.self.inside in
    let answer : Result Ending Refusal = Ok (Wished c.in-Wished.wish) in
    let is : c.end_job.result ≡ answer = c.in-Ok-end_job.is ∙ ap (λ (e : Ending). Ok e) c.in-Wished.is in
    rw (← c.self.view_is) (ap (λ (t : Stepped). t.reply) (job_ends s c.args.command.now c.in-Ok.job.now _ _ answer c.in-Ok.ensures c.clock.ensures c.end_job.ensures is))

pub returns-in-Wished-clause-state : goal.returns-in-Wished-clause-state
returns-in-Wished-clause-state c =
    let s = state_of c.self.inside in
    let j : Job = c.in-Ok.job.now in
    let w = c.in-Wished.wish in
    let answer : Result Ending Refusal = Ok (Wished w) in
    let is : c.end_job.result ≡ answer = c.in-Ok-end_job.is ∙ ap (λ (e : Ending). Ok e) c.in-Wished.is in
    let kept = c.set_wish.ensures in
    let old = c.reserve.ensures in
    let jobs : c.set_wish.new.self.jobs ≡ map (active_at j.serial (with_wish w)) s.jobs = kept.jobs ∙ ap (λ (js : List Job). map (active_at j.serial (with_wish w)) js) old.jobs in
    rw (← c.self.view_is)
    (wish_given s j.serial w c.set_wish.new.self.jobs c.set_wish.new.self.clock c.set_wish.new.self.next_serial c.set_wish.new.self.next_place jobs (kept.clock ∙ old.clock) (kept.next_serial ∙ old.next_serial) (kept.next_place ∙ old.next_place)
    ∙ ap (λ (t : Stepped). t.state) (job_ends s c.args.command.now j _ _ answer c.in-Ok.ensures c.clock.ensures c.end_job.ensures is))
