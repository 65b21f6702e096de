use Rattle.std.proofs.Common.{◌≡◌, ◌∙◌, ℕ, false, sym, ap, subst}
use Rattle.wm_law.specs.declared.call.Call.{Call}
use Rattle.wm_law.specs.declared.state.State.{State}
use Rattle.wm_law.specs.Machine.{apply, step, with_clock}
use Rattle.wm_law.specs.Settling.{come_due, leave, start_jobs}
use Rattle.wm_law.specs.Supply.{supply}
use Rattle.wm_law.specs.Sound.{IsSound}
use Rattle.wm_law.proofs.Sound.{clock_sound}
use Rattle.wm_core.specs.Due.{may_come_due}
use Rattle.wm_core.specs.MachineInside.{Seen}
use Rattle.wm_core.specs.Aside.{aside_of}
use Rattle.wm_core.specs.Marks.{Marks, marks_at}
use Rattle.wm_core.proofs.InLine.{applied_in_line}
use Rattle.wm_core.proofs.NoneDue.{none_comes_due}
use Rattle.wm_core.proofs.Undone.{call_is_undone, kept_is_undone}
use Rattle.wm_core.proofs.machine.Machine.step.Goals as goal

-- the state once the clock is set
clocked : (given seen : Seen) (begun set : State) (now : ℕ) → begun ≡ given.state → given ≡ seen → set ≡ with_clock begun now → set ≡ with_clock seen.state now
clocked given seen begun set now a b c = c ∙ ap (λ (t : State). with_clock t now) (a ∙ ap (λ (t : Seen). t.state) b)

-- what is kept once the clock is set
kept : (given seen : Seen) (call : Call) (begun set : Marks) → begun ≡ marks_at given.state call → given ≡ seen → set ≡ begun → set ≡ marks_at seen.state call
kept given seen call begun set a b c = c ∙ (a ∙ ap (λ (t : Seen). marks_at t.state call) b)

-- the state once the call is applied
applied : (timed set done : State) (caller : ℕ) (call : Call) → set ≡ timed → done ≡ (apply set caller call).state → done ≡ (apply timed caller call).state
applied timed set done caller call a b = b ∙ ap (λ (t : State). (apply t caller call).state) a

pub apply-requires-clause-sound : goal.apply-requires-clause-sound
apply-requires-clause-sound c =
    let s = c.args.self.now.state in
    let timed = clocked _ _ _ _ c.args.now c.in_ok-begin.ensures.state c.self.view_is c.set_clock.ensures.state in
    subst IsSound (sym timed) (clock_sound s c.args.now c.requires.sound)

pub returns-in-Err-clause-err : goal.returns-in-Err-clause-err
returns-in-Err-clause-err c =
    let s = c.args.self.now.state in
    let timed = clocked _ _ _ _ c.args.now c.in_ok-begin.ensures.state c.self.view_is c.set_clock.ensures.state in
    let left : aside_of c.apply.new.self.state ≡ aside_of s = c.in-Err.ensures.aside ∙ ap aside_of timed in
    let marks : c.apply.new.self.marks ≡ marks_at s c.args.call.now = c.apply.ensures.marks ∙ kept _ _ c.args.call.now _ _ c.in_ok-begin.ensures.marks c.self.view_is c.set_clock.ensures.marks in
    c.take_back.ensures.state ∙ kept_is_undone s c.args.call.now c.apply.new.self.marks c.apply.new.self.state c.requires.sound.objects marks left

pub come_due-requires-clause-line : goal.come_due-requires-clause-line
come_due-requires-clause-line c =
    let s = c.args.self.now.state in
    let timed = clocked _ _ _ _ c.args.now c.in_ok-begin.ensures.state c.self.view_is c.set_clock.ensures.state in
    let come = applied _ _ _ c.args.caller c.args.call.now timed c.in-Ok.ensures.state in
    applied_in_line s c.args.caller c.args.call.now c.args.now c.apply.new.self.state c.requires.sound come

pub come_due-requires-clause-none : goal.come_due-requires-clause-none
come_due-requires-clause-none c = λ no.
    let s = c.args.self.now.state in
    let begun : c.begin.new.self.state ≡ s = c.in_ok-begin.ensures.state ∙ ap (λ (t : Seen). t.state) c.self.view_is in
    let timed = clocked _ _ _ _ c.args.now c.in_ok-begin.ensures.state c.self.view_is c.set_clock.ensures.state in
    let come = applied _ _ _ c.args.caller c.args.call.now timed c.in-Ok.ensures.state in
    let may : may_come_due s c.args.call.now c.args.now ≡ false = ap (λ (t : State). may_come_due t c.args.call.now c.args.now) (sym begun) ∙ (sym c.may_come_due-may_come_due.ensures ∙ no) in
    none_comes_due s c.args.caller c.args.call.now c.args.now c.apply.new.self.state c.requires.sound c.requires.none_due come may

pub returns-in-Err-come_due-clause-err : goal.returns-in-Err-come_due-clause-err
returns-in-Err-come_due-clause-err c =
    let s = c.args.self.now.state in
    let back = c.in-Err-come_due.ensures.err in
    let timed = clocked _ _ _ _ c.args.now c.in_ok-begin.ensures.state c.self.view_is c.set_clock.ensures.state in
    let come = applied _ _ _ c.args.caller c.args.call.now timed c.in-Ok.ensures.state in
    let left : c.come_due.new.self.state ≡ (apply (with_clock s c.args.now) c.args.caller c.args.call.now).state = ap (λ (t : Seen). t.state) back ∙ come in
    let marks : c.come_due.new.self.marks ≡ marks_at s c.args.call.now =
    ap (λ (t : Seen). t.marks) back ∙ (c.apply.ensures.marks ∙ kept _ _ c.args.call.now _ _ c.in_ok-begin.ensures.marks c.self.view_is c.set_clock.ensures.marks) in
    c.take_back-in-Err-come_due.ensures.state ∙ call_is_undone s c.args.caller c.args.call.now c.args.now c.come_due.new.self.marks c.come_due.new.self.state c.requires.sound.objects marks (ap aside_of left)

pub returns-in-Err-settle-clause-err : goal.returns-in-Err-settle-clause-err
returns-in-Err-settle-clause-err c =
    let s = c.args.self.now.state in
    let timed = clocked _ _ _ _ c.args.now c.in_ok-begin.ensures.state c.self.view_is c.set_clock.ensures.state in
    let come = applied _ _ _ c.args.caller c.args.call.now timed c.in-Ok.ensures.state in
    let left : aside_of c.settle.new.self.state ≡ aside_of (apply (with_clock s c.args.now) c.args.caller c.args.call.now).state =
    c.in-Err-settle.ensures.aside ∙ ap aside_of (c.in_default.ensures.ok ∙ ap come_due come) in
    let marks : c.settle.new.self.marks ≡ marks_at s c.args.call.now =
    c.settle.ensures.marks ∙ (c.come_due.ensures.marks ∙ (c.apply.ensures.marks ∙ kept _ _ c.args.call.now _ _ c.in_ok-begin.ensures.marks c.self.view_is c.set_clock.ensures.marks)) in
    c.take_back-in-Err-settle.ensures.state ∙ call_is_undone s c.args.caller c.args.call.now c.args.now c.settle.new.self.marks c.settle.new.self.state c.requires.sound.objects marks left

pub returns-clause-state : goal.returns-clause-state
unfolding step
returns-clause-state c =
    let timed = clocked _ _ _ _ c.args.now c.in_ok-begin.ensures.state c.self.view_is c.set_clock.ensures.state in
    let come = applied _ _ _ c.args.caller c.args.call.now timed c.in-Ok.ensures.state in
    c.in_default-settle.ensures.ok ∙ ap (λ (t : State). start_jobs (supply (leave t))) (c.in_default.ensures.ok ∙ ap come_due come)
