-- A monitor's kills and the jobs that are Starting are active jobs, and no job is both.
use Rattle.std.proofs.Common.{◌≡◌, ℕ, ◌+◌, ◌≤◌, ◌&&◌, ◌==◌, Bool, true, false, cond, List, [], ◌∷◌, Option, refl, arith}
use Rattle.wm_law.specs.declared.job.Job.{Job}
use Rattle.wm_law.specs.declared.job.Phase.{Phase}
use Rattle.wm_law.specs.declared.job.Phase.TheVariants.{Waiting, Starting, Handed, Running, Ended}
use Rattle.wm_law.specs.Counts.{is_active, is_starting}
use Rattle.wm_law.specs.declared.state.State.{State}
use Rattle.wm_law.specs.Pending.{next_ending, pending, soonest}
use Rattle.wm_law.specs.Reports.{is_run_by, is_to_kill}
use Rattle.wm_law.specs.Wishes.{is_unhanded}
use Rattle.wm_jobs.proofs.Sifted.{count-cons}
use Rattle.wm_jobs.specs.Table.{active_in, busy_in, kills_in, next_due_in, next_wish_in, starting_in}

at_most_one : (b : Bool) → cond b 1 0 + 0 ≤ 1
at_most_one true = omega arith
at_most_one false = omega arith

one_at_most : (m : ℕ) (b : Bool) (p : Phase) → cond (is_run_by m p && b) 1 0 + cond (is_starting p) 1 0 ≤ cond (is_active p) 1 0
one_at_most m b Waiting = omega arith
one_at_most m b Starting = omega arith
one_at_most m b (Handed n) = omega arith
one_at_most m b (Running n) = at_most_one (n == m && b)
one_at_most m b (Ended c) = omega arith

pub orders_active : (m : ℕ) (jobs : List Job) → kills_in m jobs + starting_in jobs ≤ active_in jobs
orders_active m [] = omega arith
orders_active m (j ∷ js) =
    let one = one_at_most m (is_unhanded j.wish) j.phase in
    let rest = orders_active m js in
    let kills = count-cons (is_to_kill m) j js in
    let starts = count-cons (λ (k : Job). is_starting k.phase) j js in
    let actives = count-cons (λ (k : Job). is_active k.phase) j js in
    omega arith

-- what is told of the parts is told of the state
pub pending_is : (s : State) (m kills starts actives busies : ℕ) (due wish ending wishes next : Option ℕ) → kills ≡ kills_in m s.jobs → starts ≡ starting_in s.jobs → actives ≡ active_in s.jobs → busies ≡ busy_in s.jobs
    → due ≡ next_due_in s.clock s.jobs → wish ≡ next_wish_in s.clock s.jobs → ending ≡ next_ending s → wishes ≡ soonest due wish → next ≡ soonest wishes ending
    → record { orders = kills + starts; next = next; active = actives; busy = busies; power = s.power } ≡ pending s m
pending_is s m kills starts actives busies due wish ending wishes next a b c d e f g h k = rw (k, h, e, f, g, a, b, c, d) refl
