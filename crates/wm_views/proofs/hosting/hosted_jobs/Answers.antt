-- proofs/hosting/hosted_jobs/Answers.antt
use Rattle.std.proofs.Common.{◌≡◌, ◌∙◌, ◌+◌, ◌<◌, ◌++◌, ◌∷◌, [], ℕ, List, length, map, filter, sym, ap, subst, append-nil, append_assoc, arith}
use Rattle.std.specs.Option.{option_copied}
use Rattle.wm_law.specs.declared.job.Job.{Job}
use Rattle.wm_jobs.proofs.Actives.{is_from}
use Rattle.wm_views.specs.declared.shown.Hosted.{Hosted}
use Rattle.wm_views.specs.Hosts.{hosted}
use Rattle.wm_views.proofs.HostedJobs.{from_first, next_active, no_active}
use Rattle.wm_views.proofs.hosting.hosted_jobs.Goals as goal

pub loop-job-init : goal.loop-job-init
loop-job-init c = rw (c.new-list.ensures.items, c.new-from.ensures) (ap (map (hosted c.args.jobs.now.clock)) (from_first c.args.jobs.now.jobs))

pub overflow_add-get : goal.overflow_add-get
overflow_add-get c =
    let fits = c.active_from.ensures.fits c.in-Some.job.now (ap option_copied c.in-Some.is) in
    let value : c.get.result ≡ c.in-Some.job.now.serial = c.get.ensures.value in
    omega (arith, fits, value)

pub loop-job-smaller : goal.loop-job-smaller
loop-job-smaller c =
    let jobs = c.args.jobs.now.jobs in
    let from = c.loop-job.from in
    let y : Job = c.in-Some.job.now in
    let next = next_active jobs from y c.active_from.ensures.sorted (sym c.active_from.ensures.found ∙ ap option_copied c.in-Some.is) in
    let behind : c.new-from-in-Some.result ≡ y.serial + 1 = c.new-from-in-Some.ensures ∙ ap (λ (n : ℕ). n + 1) c.get.ensures.value in
    let rest : List Job = filter (is_from (y.serial + 1)) jobs in
    let less : length rest < length (filter (is_from from) jobs) = subst (λ (l : List Job). length rest < length l) (sym next) (omega arith) in
    subst (λ (n : ℕ). length (filter (is_from n) jobs) < length (filter (is_from from) jobs)) (sym behind) less

pub loop-job-preserved : goal.loop-job-preserved
loop-job-preserved c =
    let jobs = c.args.jobs.now.jobs in
    let from = c.loop-job.from in
    let list : List Hosted = c.loop-job.list.items in
    let line = hosted c.args.jobs.now.clock in
    let y : Job = c.in-Some.job.now in
    let next = next_active jobs from y c.active_from.ensures.sorted (sym c.active_from.ensures.found ∙ ap option_copied c.in-Some.is) in
    let behind : c.new-from-in-Some.result ≡ y.serial + 1 = c.new-from-in-Some.ensures ∙ ap (λ (n : ℕ). n + 1) c.get.ensures.value in
    let own : c.hosted.result ≡ line y = c.hosted.ensures ∙ ap (λ (n : ℕ). hosted n y) c.clock.ensures in
    let more : c.push.new.self.items ≡ list ++ line y ∷ [] = c.in_ok-push.ensures.items ∙ ap (λ (h : Hosted). list ++ h ∷ []) own in
    rw (more, behind)
    (c.loop-job.invariant
    ∙ ap (λ (l : List Job). list ++ map line l) next
    ∙ sym (append_assoc list (line y ∷ []) (map line (filter (is_from (y.serial + 1)) jobs))))

pub returns : goal.returns
returns c =
    let jobs = c.args.jobs.now.jobs in
    let from = c.loop-job.from in
    let line = hosted c.args.jobs.now.clock in
    let none = no_active jobs from (sym c.active_from.ensures.found ∙ ap option_copied c.in_default.is) in
    sym (c.loop-job.invariant ∙ ap (λ (l : List Job). c.loop-job.list.items ++ map line l) none ∙ append-nil c.loop-job.list.items)
