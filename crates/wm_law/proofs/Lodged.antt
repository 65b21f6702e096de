-- The subsystem of each Starting job stays started.
use Rattle.std.proofs.Common.{◌≡◌, ℕ, ◌<◌, ◌++◌, ◌==◌, ◌&&◌, not, Bool, true, false, cond, List, [], ◌∷◌, sym, ap, ◌∙◌, inl, inr, arith}
use Rattle.std.specs.List.{count_by}
use Rattle.std.proofs.lemmas.Bool.Decides.{nat_tests}
use Rattle.std.proofs.lemmas.List.Sums.{sum_by-cons}
use Rattle.wm_base.specs.declared.qname.QName.{QName}
use Rattle.wm_base.proofs.Tests.{not_both}
use Rattle.wm_law.specs.declared.job.Job.{Job}
use Rattle.wm_law.specs.declared.job.Phase.{Phase}
use Rattle.wm_law.specs.declared.job.Phase.TheVariants.{Starting}
use Rattle.wm_law.specs.declared.state.Sbs.{Sbs}
use Rattle.wm_law.specs.declared.state.State.{State}
use Rattle.wm_law.specs.Counts.{is_active, is_in_sbs, count_in_sbs}
use Rattle.wm_law.specs.Kept.{IsLodged}
use Rattle.wm_law.specs.Laws.{IsIn}
use Rattle.wm_law.specs.Settling.{is_ending, is_gone, leave}
use Rattle.wm_law.proofs.Endings.{AreEnded}
use Rattle.wm_law.proofs.Members.{in_left, in_longer}

-- one more subsystem is started
pub lodged_longer : (bs : List Sbs) (b : Sbs) (j : Job) → IsLodged bs j → IsLodged (bs ++ b ∷ []) j
lodged_longer bs b j h = (h.0, in_longer bs b h.0 h.1, h.2)

-- subsystems end
pub lodged_ending : (bs cs : List Sbs) (j : Job) → AreEnded bs cs → IsLodged bs j → IsLodged cs j
lodged_ending bs cs j e h =
    let m = e.after h.0 h.1 in
    let same = m.2 in
    (m.0, m.1, ap (λ (q : QName). is_in_sbs q j.how) same.named ∙ h.2)

abbrev pub one : (Job → Bool) → Job → ℕ
one test j = cond (test j) 1 0

pub counted : (test : Job → Bool) (jobs : List Job) (j : Job) → IsIn j jobs → test j ≡ true → 0 < count_by test jobs
counted test [] j i h = absurd i
counted test (k ∷ jobs) j (inl e) h =
    let this : one test k ≡ 1 = ap (λ (t : Bool). cond t 1 0) (ap test (sym e) ∙ h) in
    rw (sum_by-cons (one test) k jobs) (omega arith)
counted test (k ∷ jobs) j (inr i) h =
    let rest = counted test jobs j i h in
    rw (sum_by-cons (one test) k jobs) (omega arith)

pub not_zero : (n : ℕ) → 0 < n → (n == 0) ≡ false
not_zero n h = grind (arith, nat_tests)

-- a subsystem with a Starting job doesn't leave
pub lodged_left : (s : State) (j : Job) → IsIn j s.jobs → j.phase ≡ Starting → IsLodged s.started j → IsLodged (leave s).started j
lodged_left s j i e h =
    let b = h.0 in
    let active : (is_active j.phase && is_in_sbs b.sbsd j.how) ≡ true = ap (λ (p : Phase). is_active p && is_in_sbs b.sbsd j.how) e ∙ h.2 in
    let more = counted (λ (k : Job). is_active k.phase && is_in_sbs b.sbsd k.how) s.jobs j i active in
    (b, in_left (λ (x : Sbs). not (is_gone s.jobs x)) s.started b (not_both (is_ending b.phase) (count_in_sbs b.sbsd s.jobs == 0) (not_zero (count_in_sbs b.sbsd s.jobs) more)) h.1, h.2)
