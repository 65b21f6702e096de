-- A refused call leaves the state.
use Rattle.std.proofs.Common.{◌≡◌, refl, ap}
use Rattle.wm_base.specs.declared.refusal.Refusal.{Refusal}
use Rattle.wm_law.specs.declared.call.Call.{Call}
use Rattle.wm_law.specs.declared.call.Reply.TheVariants.{No}
use Rattle.wm_law.specs.declared.state.State.{State}
use Rattle.wm_law.specs.Laws.{RefusalLeaves, RefusedStepSettles}
use Rattle.wm_law.specs.Machine.{step, with_clock}
use Rattle.wm_law.specs.Settling.{settle}
use Rattle.wm_law.specs.Stepped.{Stepped}
use Rattle.wm_law.proofs.Moves.{HoldsAfterCalls, call_comes}

-- where the answer is a refusal, the state is left
abbrev Leaves : State → Stepped → Type 0
Leaves s t = (x : Refusal) → t.reply ≡ No x → t.state ≡ s

leaves : (s : State) (call : Call) → HoldsAfterCalls (Leaves s) s call
leaves s call = record {
  refuses = λ y x e. refl;
  nothing = λ n x e. absurd (cc);
  notes = λ x e. absurd (cc);
  hands = λ m j o i k f x e. absurd (cc);
  reports = λ serial j phase stopped i k r n fit x e. absurd (cc);
  starts = λ q k x e. absurd (cc);
  enters = λ user c d due has fit x e. absurd (cc);
  alters = λ reply change place p a fit x e. absurd (p.refuses_none x e);
  holds = λ reply held p a told fit x e. absurd (p.refuses_none x e);
  ends = λ reply change started stopped evokes power p a told kept x e. absurd (p.refuses_none x e);
  uses = λ reply change p u x e. absurd (p.refuses_none x e);
  waits = λ place evokes is x e. absurd (cc);
  prestarts = λ q d y can x e. absurd (cc);
  kills = λ m j i k x e. absurd (cc);
  makes = λ o c told fit x e. absurd (cc);
}

pub refusal_leaves : RefusalLeaves
refusal_leaves s caller call x e = call_comes (Leaves s) s caller call (leaves s call) x e

pub refused_step_settles : RefusedStepSettles
unfolding step
refused_step_settles s caller call moment x e = ap settle (refusal_leaves (with_clock s moment) caller call x e)
