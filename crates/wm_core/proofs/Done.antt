-- A use that ends.
use Rattle.std.proofs.Common.{◌≡◌, ◌∙◌, ◌==◌, ℕ, Bool, true, cond, ap, arith}
use Rattle.std.proofs.lemmas.Bool.Decides.{nat_tests}
use Rattle.wm_base.specs.declared.refusal.Refusal.TheVariants.{NotInUse, WrongPhase}
use Rattle.wm_law.specs.declared.call.Reply.{Reply}
use Rattle.wm_law.specs.declared.job.Job.{Job}
use Rattle.wm_law.specs.declared.job.Phase.{Phase}
use Rattle.wm_law.specs.declared.state.State.{State}
use Rattle.wm_law.specs.Reports.{phase_word}
use Rattle.wm_law.specs.Stepped.{Stepped, refused}
use Rattle.wm_law.specs.Uses.{done_with, use_ended}

-- where the job is in the phase and has a request, its use has ended
pub use_is_done : (s : State) (test : Phase → Bool) (reply : Reply) (j : Job) → test j.phase ≡ true → j.evoke ≡ true → done_with s test reply j ≡ record { reply = reply; state = use_ended s j }
use_is_done s test reply j passes used =
    let ended : Stepped = record { reply = reply; state = use_ended s j } in
    ap (λ (b : Bool). cond b (cond j.evoke ended (refused s NotInUse)) (refused s (WrongPhase (phase_word j.phase)))) passes
    ∙ ap (λ (b : Bool). cond b ended (refused s NotInUse)) used

pub same_serial : (a b : ℕ) → (a == b) ≡ true → a ≡ b
same_serial a b h = grind (arith, nat_tests)
