-- A call is answered.
use Rattle.std.proofs.Common.{◌≡◌, false}
use Rattle.wm_law.specs.declared.call.Call.{Call}
use Rattle.wm_law.specs.declared.call.Reply.TheVariants.{Nothing}
use Rattle.wm_law.specs.declared.state.State.{State}
use Rattle.wm_law.specs.History.{is_hand}
use Rattle.wm_law.specs.Laws.{CallsAreAnswered}
use Rattle.wm_law.specs.Machine.{step, with_clock}
use Rattle.wm_law.specs.Stepped.{Stepped}
use Rattle.wm_law.proofs.Moves.{HoldsAfterCalls, call_comes}

-- where it is no Hand, the answer isn't Nothing
abbrev IsAnswered : State → Call → Stepped → Type 0
IsAnswered s call t = is_hand call ≡ false → t.reply ≡ Nothing → ⊥

answers : (s : State) (call : Call) → HoldsAfterCalls (IsAnswered s call) s call
answers s call = record {
  refuses = λ x n e. absurd (cc);
  nothing = λ none n e. none n;
  notes = λ n e. absurd (cc);
  hands = λ m j o i k f n e. absurd (cc);
  reports = λ serial j phase stopped i k r l fit n e. absurd (cc);
  starts = λ q k n e. absurd (cc);
  enters = λ user c d due has fit n e. absurd (cc);
  alters = λ reply change place p a fit n e. p.says e;
  holds = λ reply held p a told fit n e. p.says e;
  ends = λ reply change started stopped evokes power p a told kept n e. p.says e;
  uses = λ reply change p u n e. p.says e;
  waits = λ place evokes is n e. absurd (cc);
  prestarts = λ q d x can n e. absurd (cc);
  kills = λ m j i k n e. absurd (cc);
  makes = λ o c told fit n e. absurd (cc);
}

pub calls_are_answered : CallsAreAnswered
unfolding step
calls_are_answered s caller call moment n e =
    let t = with_clock s moment in
    call_comes (IsAnswered t call) t caller call (answers t call) n e
