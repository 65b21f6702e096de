-- The lines of jobs, one after another.
use Rattle.std.proofs.Common.{◌≡◌, ℕ, suc, ◌+◌, ◌-◌, ◌<◌, List, ◌++◌, ap, sym, ◌∙◌, append_assoc, arith}
use Rattle.wm_runs.specs.Draws.{next_draw}
use Rattle.wm_runs.specs.Text.{job_line, job_lines}

-- behind so many of the jobs comes the line of the next one
next_job : (jobs at x : ℕ) → at < jobs → job_lines (jobs - at) (at + 1) x ≡ job_line (at + 1) x ++ job_lines (jobs - (at + 1)) (at + 1 + 1) (next_draw (next_draw x))
next_job jobs at x h =
    let more : jobs - at ≡ suc (jobs - (at + 1)) = omega (arith, h) in
    ap (λ (n : ℕ). job_lines n (at + 1) x) more

-- with that line added, the text and the lines that still lack are as before
pub with_next_job : (jobs at x x' : ℕ) (text text' whole : List ℕ) → at < jobs → text' ≡ text ++ job_line (at + 1) x → x' ≡ next_draw (next_draw x)
    → text ++ job_lines (jobs - at) (at + 1) x ≡ whole → text' ++ job_lines (jobs - (at + 1)) (at + 1 + 1) x' ≡ whole
with_next_job jobs at x x' text text' whole h t d w =
    rw (t, d, append_assoc text (job_line (at + 1) x) (job_lines (jobs - (at + 1)) (at + 1 + 1) (next_draw (next_draw x))))
    (ap (λ (l : List ℕ). text ++ l) (sym (next_job jobs at x h)) ∙ w)
