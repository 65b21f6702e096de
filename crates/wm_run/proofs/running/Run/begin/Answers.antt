use Rattle.std.proofs.Common.{inl, inr}
use Rattle.wm_base.proofs.Lists.{on_err}
use Rattle.wm_run.proofs.Commands.{one_call}
use Rattle.wm_run.proofs.IdleCalls.{called_no_order}
use Rattle.wm_run.proofs.Readies.{made_still}
use Rattle.wm_run.proofs.Servings.{serves_none, serves_then}
use Rattle.wm_run.proofs.running.Run.begin.Goals as goal

pub returns-in_err-start-clause-serves : goal.returns-in_err-start-clause-serves
returns-in_err-start-clause-serves g c = serves_none c.args.self.now _ c.requires.ready

pub returns-in_err-waiting-clause-serves : goal.returns-in_err-waiting-clause-serves
returns-in_err-waiting-clause-serves g c = c.call.ensures.serves _

pub returns-in_err-turn-clause-serves : goal.returns-in_err-turn-clause-serves
returns-in_err-turn-clause-serves g c = serves_then _ _ _ (c.call.ensures.serves _) c.turn.ensures.serves

pub returns-clause-serves : goal.returns-clause-serves
returns-clause-serves g c = serves_then _ _ _ (c.call.ensures.serves _) c.turn.ensures.serves

pub returns-clause-begun : goal.returns-clause-begun
returns-clause-begun g c = one_call _ _ (made_still c.args.self.now c.call.new.self c.turn.new.self c.turn.ensures.session c.in_ok-waiting.ensures.made) c.in_ok-start.ensures.call

pub returns-in_err-waiting-clause-not_begun : goal.returns-in_err-waiting-clause-not_begun
returns-in_err-waiting-clause-not_begun g c = on_err _ (inl c.in_err-waiting.ensures.unmade)

pub returns-in_err-turn-clause-not_begun : goal.returns-in_err-turn-clause-not_begun
returns-in_err-turn-clause-not_begun g c = on_err _ (inr (one_call _ _ (made_still c.args.self.now c.call.new.self c.turn.new.self c.turn.ensures.session c.in_ok-waiting.ensures.made) c.in_ok-start.ensures.call))

pub returns-clause-orders : goal.returns-clause-orders
returns-clause-orders g c none =
    called_no_order c.args.self.now c.call.new.self c.turn.new.self _ _ c.call.ensures.ready c.call.ensures.watch c.in_ok-waiting.ensures.seen c.turn.ensures.floor c.turn.ensures.session none c.in_ok-turn.ensures.waited c.in_ok-turn.ensures.handed
