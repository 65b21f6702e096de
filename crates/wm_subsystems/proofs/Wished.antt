-- The job of a serial stays active where it gets a wish.
use Rattle.std.proofs.Common.{◌≡◌, ◌∙◌, ◌&&◌, ◌==◌, ℕ, Bool, true, false, cond, List, [], ◌∷◌, map, Option, Some, None, refl, sym, subst}
use Rattle.std.specs.List.{find}
use Rattle.std.specs.Option.{IfSome}
use Rattle.wm_base.specs.declared.job.EndCause.{EndCause}
use Rattle.wm_law.specs.declared.job.Job.{Job}
use Rattle.wm_law.specs.declared.job.Wish.{Wish}
use Rattle.wm_law.specs.Counts.{is_active}
use Rattle.wm_law.specs.Wishes.{with_wish}
use Rattle.wm_law.proofs.Members.{each_stays}
use Rattle.wm_subsystems.specs.Telling.{ended_at, wished_at}

wish_serial : (b : Bool) (w : Wish) (j : Job) → (cond b (with_wish w j) j).serial ≡ j.serial
wish_serial true w j = refl
wish_serial false w j = refl

wish_phase : (b : Bool) (w : Wish) (j : Job) → is_active (cond b (with_wish w j) j).phase ≡ is_active j.phase
wish_phase true w j = refl
wish_phase false w j = refl

wished_serial : (n : ℕ) (o : Option Wish) (j : Job) → (wished_at n o j).serial ≡ j.serial
wished_serial n None j = refl
wished_serial n (Some w) j = wish_serial (is_active j.phase && j.serial == n) w j

wished_phase : (n : ℕ) (o : Option Wish) (j : Job) → is_active (wished_at n o j).phase ≡ is_active j.phase
wished_phase n None j = refl
wished_phase n (Some w) j = wish_phase (is_active j.phase && j.serial == n) w j

-- the job that is found, where one is, is active
abbrev IfActive : Option Job → Type 0
IfActive o = IfSome o (λ j. is_active j.phase ≡ true)

found_by : (b : Bool) (i j : Job) (o p : Option Job) → is_active j.phase ≡ is_active i.phase → (IfActive o → IfActive p) → IfActive (cond b (Some i) o) → IfActive (cond b (Some j) p)
found_by true i j o p e rest h = e ∙ h
found_by false i j o p e rest h = rest h

pub found_active : (n : ℕ) (o : Option Wish) (jobs : List Job) → IfActive (find (λ j. j.serial == n) jobs) → IfActive (find (λ j. j.serial == n) (map (wished_at n o) jobs))
found_active n o [] h = h
found_active n o (j ∷ js) h =
    subst (λ (k : ℕ). IfActive (cond (k == n) (Some (wished_at n o j)) (find (λ (i : Job). i.serial == n) (map (wished_at n o) js)))) (sym (wished_serial n o j))
    (found_by (j.serial == n) j (wished_at n o j) (find (λ (i : Job). i.serial == n) js) (find (λ (i : Job). i.serial == n) (map (wished_at n o) js)) (wished_phase n o j) (found_active n o js) h)

-- with no wish the jobs are as they were
pub no_wish : (n : ℕ) (o : Option Wish) (jobs : List Job) → o ≡ None → jobs ≡ map (wished_at n o) jobs
no_wish n o jobs e = subst (λ (p : Option Wish). jobs ≡ map (wished_at n p) jobs) (sym e) (sym (each_stays (wished_at n None) jobs (λ j i. refl)))

-- so they are with no cause
pub no_end : (n : ℕ) (o : Option EndCause) (jobs : List Job) → o ≡ None → jobs ≡ map (ended_at n o) jobs
no_end n o jobs e = subst (λ (p : Option EndCause). jobs ≡ map (ended_at n p) jobs) (sym e) (sym (each_stays (ended_at n None) jobs (λ j i. refl)))
