use Rattle.std.proofs.Common.{◌≡◌, ◌↔◌, IsTrue, codes, subst, ◌∙◌}
use Rattle.wm_law.specs.declared.call.Reply.{Reply}
use Rattle.wm_law.specs.declared.call.Reply.TheVariants.{Made}
use Rattle.wm_law.specs.declared.state.State.{State}
use Rattle.wm_law.specs.Machine.{change}
use Rattle.wm_restart.specs.ReadingInside.{state_of}
use Rattle.wm_restart.proofs.Made.{left, reply_is, state_is}
use Rattle.wm_restart.proofs.TakenAs.{refused}
use Rattle.wm_restart.proofs.reading.Reading.make.Goals as goal

pub returns-clause-made : goal.returns-clause-made
returns-clause-made c =
    let s = state_of c.self.inside in
    let replied = reply_is s c.args.command.now c.requires.place c.new-started.result c.new-started.ensures c.in_ok-reply.reply c.in_ok-reply.ensures.reply in
    subst (λ (v : State). IsTrue c.is_made.result ↔ ((change v (codes "QSYS") c.args.command.now).reply ≡ Made)) c.self.view_is
    (subst (λ (r : Reply). IsTrue c.is_made.result ↔ (r ≡ Made)) replied c.is_made.ensures)

pub returns-clause-state : goal.returns-clause-state
returns-clause-state c =
    λ _.
    let s = state_of c.self.inside in
    let made = state_is s c.args.command.now c.requires.place c.new-started.result c.new-started.ensures c.change_objects.new.objects c.in_ok-reply.ensures.objects in
    subst (λ (v : State). record s { objects = c.change_objects.new.objects } ≡ (change v (codes "QSYS") c.args.command.now).state) c.self.view_is made

pub returns-clause-left : goal.returns-clause-left
returns-clause-left c =
    λ not.
    let s = state_of c.self.inside in
    let replied = reply_is s c.args.command.now c.requires.place c.new-started.result c.new-started.ensures c.in_ok-reply.reply c.in_ok-reply.ensures.reply in
    let made = state_is s c.args.command.now c.requires.place c.new-started.result c.new-started.ensures c.change_objects.new.objects c.in_ok-reply.ensures.objects in
    let never = refused _ c.is_made.result c.is_made.ensures not in
    made ∙ left s c.args.command.now c.requires.place (λ e. never (replied ∙ e)) ∙ c.self.view_is
