-- Laws of histories.
use Rattle.std.proofs.Common.{◌≡◌, List, [], ◌∷◌, ◌++◌, refl}
use Rattle.wm_law.specs.declared.call.Entry.{Entry}
use Rattle.wm_law.specs.declared.state.State.{State}
use Rattle.wm_law.specs.History.{stepped, after, IsEntry, IsLegal}

-- after a history, and then one more
pub after-append : (s : State) (h k : List Entry) → after s (h ++ k) ≡ after (after s h) k
after-append s [] k = refl
after-append s (e ∷ h) k = after-append (stepped s e).state h k

-- a legal history with one more entry of the machine is legal
pub IsLegal-push : (s : State) (h : List Entry) (e : Entry) → IsLegal s h → IsEntry (after s h) e → IsLegal s (h ++ e ∷ [])
IsLegal-push s [] e legal entry = (entry, tt)
IsLegal-push s (d ∷ h) e legal entry = (legal.0, IsLegal-push (stepped s d).state h e legal.1 entry)
