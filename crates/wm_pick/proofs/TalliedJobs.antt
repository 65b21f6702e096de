-- The tally of the active jobs' hows has the counts of the jobs.
use Rattle.std.proofs.Common.{◌≡◌, ℕ, ◌+◌, ◌&&◌, Bool, true, false, cond, List, [], ◌∷◌, count_by, filter, map, refl, sym, ap, ◌∙◌, arith}
use Rattle.std.proofs.lemmas.List.Sums.{sum_by-cons}
use Rattle.wm_base.specs.declared.job.How.{How}
use Rattle.wm_law.specs.declared.job.Job.{Job}
use Rattle.wm_law.specs.Counts.{is_active, is_in_sbs, is_from_queue, is_from_priority, is_from_pre, is_by_route, count_active}
use Rattle.wm_pick.specs.declared.counted.Counted.TheVariants.{Sbs, Queue, Pty, Route, Pre}
use Rattle.wm_pick.specs.Tallied.{hows, TallyHasCounts}

-- one for a how that passes the test
abbrev passing : (How → Bool) → How → ℕ
passing test how = cond (test how) 1 0

one_more : (test : How → Bool) (active : Bool) (j : Job) (jobs : List Job) → count_by test (map (λ (k : Job). k.how) (cond active (j ∷ jobs) jobs)) ≡ cond (active && test j.how) 1 0 + count_by test (map (λ (k : Job). k.how) jobs)
one_more test true j jobs = sum_by-cons (passing test) j.how (map (λ (k : Job). k.how) jobs)
one_more test false j jobs = omega arith

-- as many of the active jobs' hows pass a test as active jobs have a how that does
counted_active : (test : How → Bool) (jobs : List Job) → count_by test (hows jobs) ≡ count_active test jobs
counted_active test [] = refl
counted_active test (j ∷ jobs) =
    let first = one_more test (is_active j.phase) j (filter (λ (k : Job). is_active k.phase) jobs) in
    let rest = counted_active test jobs in
    let all = sum_by-cons (λ (k : Job). cond (is_active k.phase && test k.how) 1 0) j jobs in
    first ∙ ap (λ (n : ℕ). cond (is_active j.phase && test j.how) 1 0 + n) rest ∙ sym all

pub tally_has_counts : TallyHasCounts
tally_has_counts jobs tally are = record {
  in_sbs = λ sbs. are (Sbs sbs) ∙ counted_active (is_in_sbs sbs) jobs;
  from_queue = λ sbs queue. are (Queue sbs queue) ∙ counted_active (is_from_queue sbs queue) jobs;
  from_priority = λ sbs queue pty. are (Pty sbs queue pty) ∙ counted_active (is_from_priority sbs queue pty) jobs;
  by_route = λ sbs seq. are (Route sbs seq) ∙ counted_active (is_by_route sbs seq) jobs;
  from_pre = λ sbs pgm. are (Pre sbs pgm) ∙ counted_active (is_from_pre sbs pgm) jobs;
}
