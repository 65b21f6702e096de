-- The kill of a job that is found is handed in that job alone.
use Rattle.std.proofs.Common.{◌≡◌, ◌&&◌, ◌==◌, Bool, true, false, cond, List, [], ◌∷◌, map, refl, sym, ap, inl, inr}
use Rattle.std.proofs.lemmas.Bool.{and_parts, eqb-true}
use Rattle.wm_law.specs.declared.job.Job.{Job}
use Rattle.wm_law.specs.Counts.{is_active}
use Rattle.wm_law.specs.Jobs.{active_at}
use Rattle.wm_law.specs.Kept.{IsDistinct}
use Rattle.wm_law.specs.Laws.{IsIn}
use Rattle.wm_law.specs.Reports.{with_kill}
use Rattle.wm_law.specs.Wishes.{handed_wish, with_wish}
use Rattle.wm_law.proofs.Forward.{only_one}
use Rattle.wm_jobs.specs.Table.{serial_of}

kill_by : (j k : Job) (b : Bool) → (b ≡ true → k ≡ j) → cond b (with_wish (handed_wish j.wish) k) k ≡ cond b (with_kill k) k
kill_by j k true same = ap (λ (i : Job). with_wish (handed_wish i.wish) k) (sym (same refl))
kill_by j k false same = refl

kill_each : (j : Job) (xs : List Job) → ((k : Job) → IsIn k xs → (is_active k.phase && k.serial == j.serial) ≡ true → k ≡ j) → map (active_at j.serial (with_wish (handed_wish j.wish))) xs ≡ map (active_at j.serial with_kill) xs
kill_each j [] one = refl
kill_each j (x ∷ xs) one = cc (kill_by j x (is_active x.phase && x.serial == j.serial) (one x (inl refl)), kill_each j xs (λ k i e. one k (inr i) e))

pub kill_handed : (jobs : List Job) (j : Job) → IsDistinct (map serial_of jobs) → IsIn j jobs → map (active_at j.serial (with_wish (handed_wish j.wish))) jobs ≡ map (active_at j.serial with_kill) jobs
kill_handed jobs j d i = kill_each j jobs (λ k m e. only_one jobs d k j m i (eqb-true k.serial j.serial (and_parts (is_active k.phase) (k.serial == j.serial) e).1))
