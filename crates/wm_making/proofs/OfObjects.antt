-- What a command makes of the objects of a state, it makes of them alone.
use Rattle.std.proofs.Common.{◌≡◌, refl}
use Rattle.wm_law.specs.declared.command.Command.{Command}
use Rattle.wm_law.specs.declared.command.Command.TheVariants as command
use Rattle.wm_law.specs.declared.state.State.{State}
use Rattle.wm_making.specs.Making.{change_objects, state_with}

pub same_reply : (s : State) (c : Command) → (change_objects (state_with s.objects s.started) c).reply ≡ (change_objects s c).reply
same_reply s (command.Crtcls c) = refl
same_reply s (command.Crtjobq c) = refl
same_reply s (command.Crtpgmref c) = refl
same_reply s (command.Crtjobd c) = refl
same_reply s (command.Crtsbsd c) = refl
same_reply s (command.Addjobqe c) = refl
same_reply s (command.Addrtge c) = refl
same_reply s (command.Addaje c) = refl
same_reply s (command.Addpje c) = refl
same_reply s (command.Rmvjobqe c) = refl
same_reply s (command.Rmvrtge c) = refl
same_reply s (command.Rmvaje c) = refl
same_reply s (command.Rmvpje c) = refl
same_reply s c = refl

pub same_state : (s : State) (c : Command) → record s { objects = (change_objects (state_with s.objects s.started) c).state.objects } ≡ (change_objects s c).state
same_state s (command.Crtcls c) = refl
same_state s (command.Crtjobq c) = refl
same_state s (command.Crtpgmref c) = refl
same_state s (command.Crtjobd c) = refl
same_state s (command.Crtsbsd c) = refl
same_state s (command.Addjobqe c) = refl
same_state s (command.Addrtge c) = refl
same_state s (command.Addaje c) = refl
same_state s (command.Addpje c) = refl
same_state s (command.Rmvjobqe c) = refl
same_state s (command.Rmvrtge c) = refl
same_state s (command.Rmvaje c) = refl
same_state s (command.Rmvpje c) = refl
same_state s c = refl
