-- What is stored of a job is the same where its phase, its queue and the rest of its standing are stored the same.
use Rattle.std.proofs.Common.{◌≡◌, Option, ap, ◌∙◌}
use Rattle.wm_base.specs.declared.qname.QName.{QName}
use Rattle.wm_law.specs.declared.job.Job.{Job}
use Rattle.wm_rows.specs.Stored.{stored_of, stored_phase}
use Rattle.wm_rows.specs.declared.stored_job.StoredJob.{StoredJob}
use Rattle.wm_rows.specs.declared.stored_job.StoredPhase.{StoredPhase}
use Rattle.wm_jobs.specs.Marked.{standing_of}
use Rattle.wm_jobs.specs.declared.touched.Standing.{Standing}
use Rattle.wm_tables.specs.Noted.{stored_standing, IsStoredAs}
use Rattle.wm_tables.specs.declared.standing.StoredStanding.{StoredStanding}

-- what is stored of a job that stands so
abbrev standing_so : StoredPhase → Option QName → StoredStanding → Job → StoredJob
standing_so phase jobq s j = record (stored_of j) { phase = phase; jobq = jobq; held = s.held; due = s.due; pty = s.pty; place = s.place }

pub stored_same : (w : Standing) (j : Job) → stored_phase w.phase ≡ stored_phase j.phase → w.jobq ≡ j.jobq → stored_standing w ≡ stored_standing (standing_of j) → IsStoredAs w j
stored_same w j phases queues rest =
    ap (λ (p : StoredPhase). standing_so p w.jobq (stored_standing w) j) phases
    ∙ ap (λ (q : Option QName). standing_so (stored_phase j.phase) q (stored_standing w) j) queues
    ∙ ap (λ (s : StoredStanding). standing_so (stored_phase j.phase) j.jobq s j) rest

pub same_phases : (w : Standing) (j : Job) → IsStoredAs w j → stored_phase w.phase ≡ stored_phase j.phase
same_phases w j same = ap (λ (s : StoredJob). s.phase) same

pub same_queues : (w : Standing) (j : Job) → IsStoredAs w j → w.jobq ≡ j.jobq
same_queues w j same = ap (λ (s : StoredJob). s.jobq) same

-- what is stored of a job beside its phase, its queue and what never changes
abbrev rest_of : StoredJob → StoredStanding
rest_of s = record { held = s.held; due = s.due; pty = s.pty; place = s.place }

pub same_rest : (w : Standing) (j : Job) → IsStoredAs w j → stored_standing w ≡ stored_standing (standing_of j)
same_rest w j same = ap rest_of same
