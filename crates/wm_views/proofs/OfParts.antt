-- What is shown of a state is what is shown of its parts.
use Rattle.std.proofs.Common.{◌≡◌, Result, Ok, Err, refl}
use Rattle.wm_base.specs.declared.refusal.Refusal.{Refusal}
use Rattle.wm_law.specs.declared.command.Ask.{Ask}
use Rattle.wm_law.specs.declared.command.Ask.TheVariants as ask
use Rattle.wm_law.specs.declared.job.Job.{Job}
use Rattle.wm_law.specs.declared.state.State.{State}
use Rattle.wm_law.specs.Named.{job_named}
use Rattle.wm_views.specs.Parts.{parts_of}
use Rattle.wm_views.specs.Views.{job_or_no, shown}

same_job : (s : State) (r : Result Job Refusal) → job_or_no (parts_of s) r ≡ job_or_no s r
same_job s (Ok j) = refl
same_job s (Err x) = refl

pub shown_of_parts : (s : State) (a : Ask) → shown (parts_of s) a ≡ shown s a
shown_of_parts s ask.Active = refl
shown_of_parts s (ask.Queue q) = refl
shown_of_parts s (ask.Submitted u) = refl
shown_of_parts s ask.Subsystems = refl
shown_of_parts s (ask.Job r) = same_job s (job_named s r)
shown_of_parts s ask.Log = refl
shown_of_parts s (ask.Pending m) = refl
