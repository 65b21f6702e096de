use Rattle.std.proofs.Common.{◌∙◌, ap, sym, subst}
use Rattle.wm_law.proofs.Maxuse.{step_keeps_maxuse}
use Rattle.wm_law.proofs.Sound as law
use Rattle.wm_law.proofs.SoundPrestart.{step_keeps_prestart_sound}
use Rattle.wm_core.specs.Due.{IsSettled}
use Rattle.wm_core.specs.LastStep.{LastStep}
use Rattle.wm_core.proofs.Undone.{back_from}
use Rattle.wm_core.proofs.sound.Core.step.Goals as goal

pub invariant_of-self-2 : goal.invariant_of-self-2
invariant_of-self-2 c =
    let s = c.self.inside.machine.state in
    let back = back_from s c.args.caller c.args.call.now c.args.now c.step.new.self.marks c.step.new.self.state c.self.invariant.state.sound.objects c.in_ok-reply.ensures.marks c.in_ok-reply.ensures.state in
    record {
      state = rw c.in_ok-reply.ensures.state (record {
        sound = law.step_keeps_sound s c.args.caller c.args.call.now c.args.now c.self.invariant.state.sound;
        none_due = law.step_leaves_none_due s c.args.caller c.args.call.now c.args.now c.self.invariant.state.sound;
      });
      before = λ undoable. subst IsSettled (sym back) c.self.invariant.state;
    }

pub returns-clause-before : goal.returns-clause-before
returns-clause-before c =
    let s = c.self.inside.machine.state in
    back_from s c.args.caller c.args.call.now c.args.now c.step.new.self.marks c.step.new.self.state c.self.invariant.state.sound.objects c.in_ok-reply.ensures.marks c.in_ok-reply.ensures.state
    ∙ ap (λ (l : LastStep). l.state) c.self.view_is

pub returns-clause-limits : goal.returns-clause-limits
returns-clause-limits c = rw (c.in_ok-reply.ensures.state, ← c.self.view_is) (law.step_keeps_limits c.self.inside.machine.state c.args.caller c.args.call.now c.args.now c.self.invariant.state.sound)

pub returns-clause-order : goal.returns-clause-order
returns-clause-order c = rw (c.in_ok-reply.ensures.state, ← c.self.view_is) (law.step_keeps_order c.self.inside.machine.state c.args.caller c.args.call.now c.args.now c.self.invariant.state.sound)

pub returns-clause-prestart : goal.returns-clause-prestart
returns-clause-prestart c = rw (c.in_ok-reply.ensures.state, ← c.self.view_is) (step_keeps_prestart_sound c.self.inside.machine.state c.args.caller c.args.call.now c.args.now c.self.invariant.state.sound)

pub returns-clause-uses : goal.returns-clause-uses
returns-clause-uses c =
    rw (c.in_ok-reply.ensures.state, ← c.self.view_is)
    (λ pres within. step_keeps_maxuse c.self.inside.machine.state c.args.caller c.args.call.now c.args.now c.self.invariant.state.sound pres c.requires.ranges within)
