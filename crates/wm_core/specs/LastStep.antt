-- What a contract sees of a `Core`.
use Rattle.std.specs.Prelude.{◌≡◌, Bool, true}
use Rattle.wm_law.specs.declared.state.State.{State}
use Rattle.wm_core.specs.declared.sound.Core.TheInside.{Inside}
use Rattle.wm_core.specs.Due.{IsSettled}
use Rattle.wm_core.specs.Marks.{before}

-- the state, the one before the last step, and whether that step can be taken back
pub record LastStep : Type 0 where
  pub state : State
  pub before : State
  pub undoable : Bool

abbrev pub last_step_of : Inside → LastStep
last_step_of c = record { state = c.machine.state; before = before c.machine.marks c.machine.state; undoable = c.machine.marks.mark.undoable }

-- the state is sound and nothing in it is due, and so it is with the one that can be gone back to
pub record IsCoreInside (c : Inside) : Type 0 where
  pub state : IsSettled c.machine.state
  pub before : c.machine.marks.mark.undoable ≡ true → IsSettled (before c.machine.marks c.machine.state)
