-- proofs/queueing/queued_jobs/Answers.antt
use Rattle.std.proofs.Common.{◌≡◌, ◌∙◌, ◌++◌, ◌∷◌, [], ℕ, List, ap, subst}
use Rattle.std.specs.Option.{option_copied}
use Rattle.wm_law.specs.declared.job.Job.{Job}
use Rattle.wm_ordered.specs.Waiting.{HavePlaces, first_on, next_on}
use Rattle.wm_pick.specs.Parts.{waiters}
use Rattle.wm_views.specs.declared.shown.JobLine.{JobLine}
use Rattle.wm_views.specs.Lines.{job_line}
use Rattle.wm_views.proofs.QueuedJobs.{walk_begins, walk_finds, walk_shortens, walk_goes_on, walk_ends}
use Rattle.wm_views.proofs.queueing.queued_jobs.Goals as goal

pub loop-next-init : goal.loop-next-init
loop-next-init c =
    rw (c.new-lines.ensures.items)
    (walk_begins c.args.jobq.now c.args.jobs.now.clock c.args.jobs.now.jobs c.first_on-next.result (c.first_on-next.ensures ∙ ap (first_on c.args.jobq.now) c.waiting-waiting.ensures.items))

pub unreachable-requires : goal.unreachable-requires
unreachable-requires c =
    let j = walk_finds c.args.jobq.now c.args.jobs.now.clock c.args.jobs.now.jobs c.loop-next.next c.loop-next.lines.items c.in-Some.waiter c.loop-next.invariant c.in-Some.is in
    let some = c.job.ensures.one j.0 j.1 j.2 in
    let none = ap option_copied c.in_default-job.is in
    absurd (cc)

pub loop-next-smaller : goal.loop-next-smaller
loop-next-smaller c =
    let jobs = c.args.jobs.now.jobs in
    let places : HavePlaces (waiters jobs) = subst HavePlaces c.waiting-waiting.ensures.items c.len.ensures.places in
    let later = c.next_on-next.ensures ∙ ap (next_on c.in-Some.waiter) c.waiting-waiting.ensures.items in
    walk_shortens c.args.jobq.now c.args.jobs.now.clock jobs c.waiting-waiting.ensures.sorted places c.loop-next.next c.loop-next.lines.items c.in-Some.waiter c.loop-next.invariant c.in-Some.is c.next_on-next.result later

pub loop-next-preserved : goal.loop-next-preserved
loop-next-preserved c =
    let jobs = c.args.jobs.now.jobs in
    let clock = c.args.jobs.now.clock in
    let lines : List JobLine = c.loop-next.lines.items in
    let k : Job = c.in-Some-job.job.now in
    let places : HavePlaces (waiters jobs) = subst HavePlaces c.waiting-waiting.ensures.items c.len.ensures.places in
    let later = c.next_on-next.ensures ∙ ap (next_on c.in-Some.waiter) c.waiting-waiting.ensures.items in
    let own : c.job_line.result ≡ job_line clock k = c.job_line.ensures ∙ ap (λ (n : ℕ). job_line n k) c.clock.ensures in
    let more : c.push.new.self.items ≡ lines ++ job_line clock k ∷ [] = c.in_ok-push.ensures.items ∙ ap (λ (h : JobLine). lines ++ h ∷ []) own in
    rw more
    (walk_goes_on c.args.jobq.now clock jobs c.waiting-waiting.ensures.sorted places c.loop-next.next lines c.in-Some.waiter c.loop-next.invariant c.in-Some.is c.next_on-next.result later (option_copied c.job.result) k c.job.ensures.one (ap option_copied c.in-Some-job.is))

pub returns : goal.returns
returns c = walk_ends c.args.jobq.now c.args.jobs.now.clock c.args.jobs.now.jobs c.loop-next.next c.loop-next.lines.items c.loop-next.invariant c.in_default.is
