-- Where nothing may come due, settling's first part does nothing.
use Rattle.std.proofs.Common.{◌≡◌, ℕ, false, sym, subst}
use Rattle.std.proofs.lemmas.Bool.{or_parts}
use Rattle.wm_law.specs.declared.call.Call.{Call}
use Rattle.wm_law.specs.declared.state.State.{State}
use Rattle.wm_law.specs.CallKinds.{is_ending_call}
use Rattle.wm_law.specs.Machine.{apply, with_clock}
use Rattle.wm_law.specs.Pending.{next_ending, next_wish, soonest}
use Rattle.wm_law.specs.Settling.{come_due}
use Rattle.wm_law.specs.Sound.{HasNoneDue, IsSound}
use Rattle.wm_law.specs.Wishes.{has_come}
use Rattle.wm_law.proofs.Due.{nothing_due_stays}
use Rattle.wm_law.proofs.Moments.{none_due_before}
use Rattle.wm_law.proofs.Quiet.{calls_leave_none_due}
use Rattle.wm_law.proofs.Sound.{clock_sound}
use Rattle.wm_core.specs.Due.{may_come_due}

pub none_comes_due : (s : State) (caller : ℕ) (call : Call) (moment : ℕ) (t : State) → IsSound s → HasNoneDue s → t ≡ (apply (with_clock s moment) caller call).state → may_come_due s call moment ≡ false → come_due t ≡ t
none_comes_due s caller call moment t sound none is e =
    let both = or_parts (is_ending_call call) (has_come moment (soonest (next_wish s) (next_ending s))) e in
    let come = (apply (with_clock s moment) caller call).state in
    subst (λ (u : State). come_due u ≡ u) (sym is)
    (nothing_due_stays come (calls_leave_none_due (with_clock s moment) caller call (clock_sound s moment sound) (none_due_before s moment none both.1) both.0))
