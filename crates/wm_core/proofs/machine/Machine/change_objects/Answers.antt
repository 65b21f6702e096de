use Rattle.std.proofs.Common.{◌∙◌, ap}
use Rattle.wm_desc.specs.declared.objects.Objects.{Objects}
use Rattle.wm_making.proofs.OfObjects.{same_reply, same_state}
use Rattle.wm_core.specs.MachineInside.{state_of}
use Rattle.wm_core.proofs.machine.Machine.change_objects.Goals as goal

pub returns-clause-reply : goal.returns-clause-reply
returns-clause-reply c =
    let s = state_of c.self.inside in
    rw (← c.self.view_is) (c.in_ok-reply.ensures.reply ∙ same_reply s c.args.command.now)

pub returns-clause-state : goal.returns-clause-state
returns-clause-state c =
    let s = state_of c.self.inside in
    rw (← c.self.view_is) (ap (λ (o : Objects). record s { objects = o }) c.in_ok-reply.ensures.objects ∙ same_state s c.args.command.now)
