use Rattle.std.proofs.Common.{ℕ, take, subst, inl, inr}
use Rattle.wm_base.proofs.Lists.{on_err}
use Rattle.wm_run.proofs.Commands.{commanded, commanded_down, commanded_some}
use Rattle.wm_run.proofs.IdleCalls.{called_no_order}
use Rattle.wm_run.proofs.Readies.{made_still}
use Rattle.wm_run.proofs.Servings.{serves_none, serves_then}
use Rattle.wm_run.proofs.StoppedRuns.{Unanswered-none, WritesSome-all}
use Rattle.wm_traits.specs.Told.{Grows}
use Rattle.wm_listing.specs.Said.{said_of}
use Rattle.wm_listing.specs.declared.mention.Mention.{Mention}
use Rattle.wm_run.specs.Answer.{with_end}
use Rattle.wm_run.specs.Grown.{session_of}
use Rattle.wm_run.proofs.running.Run.call_command.Goals as goal

pub returns-in_err-change-clause-serves : goal.returns-in_err-change-clause-serves
returns-in_err-change-clause-serves g c = serves_none c.args.self.now _ c.requires.ready

pub returns-in_err-reply-clause-serves : goal.returns-in_err-reply-clause-serves
returns-in_err-reply-clause-serves g c = c.call.ensures.serves _

pub returns-in_err-answered-clause-serves : goal.returns-in_err-answered-clause-serves
returns-in_err-answered-clause-serves g c = c.call.ensures.serves _

pub returns-in_err-turn-clause-serves : goal.returns-in_err-turn-clause-serves
returns-in_err-turn-clause-serves g c = serves_then _ _ _ (c.call.ensures.serves _) c.turn.ensures.serves

pub returns-clause-serves : goal.returns-clause-serves
returns-clause-serves g c = serves_then _ _ _ (c.call.ensures.serves _) c.turn.ensures.serves

pub returns-clause-answered : goal.returns-clause-answered
returns-clause-answered g c = commanded _ _ _ c.in_ok-answered.answered.faulty (made_still c.args.self.now c.call.new.self c.turn.new.self c.turn.ensures.session c.in_ok-reply.ensures.made) c.in_ok-change.ensures.call (subst (λ (m : Mention). Grows (g.O.Sink.written c.args.out.now) (g.O.Sink.written c.say.new.out) (with_end (said_of m c.in_ok-reply.reply))) c.mention_of-mention.ensures c.in_ok-answered.ensures.ok) c.in_ok-answered.ensures.faulty

pub returns-clause-down : goal.returns-clause-down
returns-clause-down g c = commanded_down c.in_ok-answered.answered.down (made_still c.args.self.now c.call.new.self c.turn.new.self c.turn.ensures.session c.in_ok-reply.ensures.made) c.in_ok-answered.ensures.down

pub returns-in_err-change-clause-stopped : goal.returns-in_err-change-clause-stopped
returns-in_err-change-clause-stopped g c = on_err _ (inl (Unanswered-none (session_of c.args.self.now) (g.O.Sink.written c.args.out.now)))

pub returns-in_err-reply-clause-stopped : goal.returns-in_err-reply-clause-stopped
returns-in_err-reply-clause-stopped g c = on_err _ (inl (record { none = c.in_err-reply.ensures.unmade; written = (Unanswered-none (session_of c.args.self.now) (g.O.Sink.written c.args.out.now)).written }))

pub returns-in_err-answered-clause-stopped : goal.returns-in_err-answered-clause-stopped
returns-in_err-answered-clause-stopped g c =
    let some = subst (λ (m : Mention). (n : ℕ) × Grows (g.O.Sink.written c.args.out.now) (g.O.Sink.written c.say.new.out) (take n (with_end (said_of m c.in_ok-reply.reply)))) c.mention_of-mention.ensures c.in_err-answered.ensures.some in
    on_err _ (inr (commanded_some _ _ _ some.0 c.in_ok-reply.ensures.made c.in_ok-change.ensures.call some.1))

pub returns-in_err-turn-clause-stopped : goal.returns-in_err-turn-clause-stopped
returns-in_err-turn-clause-stopped g c =
    on_err _ (inr (WritesSome-all _ _ _ _ c.in_ok-answered.answered.faulty (commanded _ _ _ c.in_ok-answered.answered.faulty (made_still c.args.self.now c.call.new.self c.turn.new.self c.turn.ensures.session c.in_ok-reply.ensures.made) c.in_ok-change.ensures.call (subst (λ (m : Mention). Grows (g.O.Sink.written c.args.out.now) (g.O.Sink.written c.say.new.out) (with_end (said_of m c.in_ok-reply.reply))) c.mention_of-mention.ensures c.in_ok-answered.ensures.ok) c.in_ok-answered.ensures.faulty)))

pub returns-clause-orders : goal.returns-clause-orders
returns-clause-orders g c none =
    called_no_order c.args.self.now c.call.new.self c.turn.new.self _ _ c.call.ensures.ready c.call.ensures.watch c.in_ok-reply.ensures.seen c.turn.ensures.floor c.turn.ensures.session none c.in_ok-turn.ensures.waited c.in_ok-turn.ensures.handed
