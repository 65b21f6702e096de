-- What a command makes of the objects.
use Rattle.std.specs.Prelude.{List, pos}
use Rattle.wm_desc.specs.declared.objects.Objects.{Objects}
use Rattle.wm_law.specs.declared.call.Reply.TheVariants.{Nothing}
use Rattle.wm_law.specs.declared.command.Command.{Command}
use Rattle.wm_law.specs.declared.command.Command.TheVariants as command
use Rattle.wm_law.specs.declared.state.Sbs.{Sbs}
use Rattle.wm_law.specs.declared.state.State.{State}
use Rattle.wm_law.specs.Making.{make_class, make_queue, make_program, make_job_description, make_description, add_queue, add_route, add_auto, add_pre, remove_queue, remove_route, remove_auto, remove_pre}
use Rattle.wm_law.specs.Opening.{empty}
use Rattle.wm_law.specs.Stepped.{Stepped}

-- a state that has these objects and started subsystems, and else nothing
abbrev pub state_with : Objects → List Sbs → State
state_with objects started = record (empty (pos 0)) { objects = objects; started = started }

-- a command that makes an object, or adds or removes an entry; the others do nothing here
abbrev pub change_objects : State → Command → Stepped
change_objects s (command.Crtcls c) = make_class s c
change_objects s (command.Crtjobq c) = make_queue s c
change_objects s (command.Crtpgmref c) = make_program s c
change_objects s (command.Crtjobd c) = make_job_description s c
change_objects s (command.Crtsbsd c) = make_description s c
change_objects s (command.Addjobqe c) = add_queue s c
change_objects s (command.Addrtge c) = add_route s c
change_objects s (command.Addaje c) = add_auto s c
change_objects s (command.Addpje c) = add_pre s c
change_objects s (command.Rmvjobqe c) = remove_queue s c
change_objects s (command.Rmvrtge c) = remove_route s c
change_objects s (command.Rmvaje c) = remove_auto s c
change_objects s (command.Rmvpje c) = remove_pre s c
change_objects s c = record { reply = Nothing; state = s }
