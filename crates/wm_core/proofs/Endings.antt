-- What the parts of an ending come to is the state that the definitions give.
use Rattle.std.proofs.Common.{◌≡◌, ◌∙◌, ℕ, Bool, not, List, map, filter, Option, Result, Ok, refl, sym, ap}
use Rattle.wm_base.specs.declared.refusal.Refusal.{Refusal}
use Rattle.wm_law.specs.declared.command.EndOption.{EndOption}
use Rattle.wm_law.specs.declared.command.Endjob.{Endjob}
use Rattle.wm_law.specs.declared.job.Job.{Job}
use Rattle.wm_law.specs.declared.job.Wish.{Wish}
use Rattle.wm_law.specs.declared.state.Evoke.{Evoke}
use Rattle.wm_law.specs.declared.state.Sbs.{Sbs}
use Rattle.wm_law.specs.declared.state.State.{State}
use Rattle.wm_law.specs.Endings.{end_found, end_job, end_phase, end_those, is_of_those, phased, told}
use Rattle.wm_law.specs.Jobs.{active_at, with_active}
use Rattle.wm_law.specs.Named.{job_named}
use Rattle.wm_law.specs.Settling.{come_due, job_at, sbss_at}
use Rattle.wm_law.specs.Wishes.{with_wish}
use Rattle.wm_subsystems.specs.declared.job_ending.Ending.{Ending}
use Rattle.wm_subsystems.specs.OneJob.{ending_of, with_ending}
use Rattle.wm_subsystems.proofs.OneJobs.{ends_one_job}

-- what ENDJOB makes of the job that is named, it makes of the state
pub job_ends : (s : State) (c : Endjob) (j : Job) (clock : ℕ) (r answer : Result Ending Refusal) → job_named s c.job ≡ Ok j → clock ≡ s.clock → r ≡ ending_of clock c j → r ≡ answer → with_ending s j answer ≡ end_job s c
job_ends s c j clock r answer named time by is =
    let ending : ending_of s.clock c j ≡ answer = ap (λ (n : ℕ). ending_of n c j) (sym time) ∙ (sym by ∙ is) in
    sym (ap (end_found s c) named ∙ (ends_one_job s c j ∙ ap (with_ending s j) ending))

-- a state with other jobs, whose clock and next numbers are as they were
pub wish_given : (s : State) (serial : ℕ) (w : Wish) (jobs : List Job) (clock next_serial next_place : ℕ) → jobs ≡ map (active_at serial (with_wish w)) s.jobs → clock ≡ s.clock → next_serial ≡ s.next_serial → next_place ≡ s.next_place
    → record s { jobs = jobs; clock = clock; next_serial = next_serial; next_place = next_place } ≡ with_active s serial (with_wish w)
wish_given s serial w jobs clock next_serial next_place a b c d = rw (a, b, c, d) refl

-- subsystems that end
pub those_ended : (s : State) (option : EndOption) (delay : Option ℕ) (test : Sbs → Bool) (jobs : List Job) (started : List Sbs) (evokes : List Evoke) (clock next_serial next_place : ℕ)
    → jobs ≡ map (told option test s.started) s.jobs
    → started ≡ map (phased test (end_phase s.clock option delay)) s.started
    → evokes ≡ filter (λ e. not (is_of_those test s.started e.sbs)) s.evokes
    → clock ≡ s.clock → next_serial ≡ s.next_serial → next_place ≡ s.next_place
    → record s { jobs = jobs; started = started; evokes = evokes; clock = clock; next_serial = next_serial; next_place = next_place } ≡ end_those s option delay test
those_ended s option delay test jobs started evokes clock next_serial next_place a b c d e f = rw (a, b, c, d, e, f) refl

-- what is due has ended
pub due_ended : (s : State) (jobs : List Job) (started : List Sbs) (clock next_serial next_place : ℕ)
    → jobs ≡ map (job_at s.clock (sbss_at s)) s.jobs → started ≡ sbss_at s → clock ≡ s.clock → next_serial ≡ s.next_serial → next_place ≡ s.next_place
    → record s { jobs = jobs; started = started; clock = clock; next_serial = next_serial; next_place = next_place } ≡ come_due s
due_ended s jobs started clock next_serial next_place a b c d e = rw (a, b, c, d, e) refl
