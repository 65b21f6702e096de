use Rattle.std.proofs.Common.{subst, arith}
use Rattle.wm_base.proofs.Lists.{on_err}
use Rattle.wm_floor.specs.Floor.{Floored, HasLooked, Seen}
use Rattle.wm_floor.specs.Scene.{spawner_seen}
use Rattle.wm_run.specs.Calls.{Called}
use Rattle.wm_run.proofs.Readies.{uncalled_same, uncalled_seen}
use Rattle.wm_run.proofs.Servings.{serves_then}
use Rattle.wm_run.proofs.Wholes.{ends_input}
use Rattle.wm_run.proofs.running.Run.end_input.Goals as goal

pub returns-in_err-at-clause-serves : goal.returns-in_err-at-clause-serves
returns-in_err-at-clause-serves g c = c.wait_for.ensures.serves

pub returns-in_err-end-clause-serves : goal.returns-in_err-end-clause-serves
returns-in_err-end-clause-serves g c = serves_then _ _ _ c.wait_for.ensures.serves (c.catch_up.ensures.serves _)

pub returns-in_err-call-clause-serves : goal.returns-in_err-call-clause-serves
returns-in_err-call-clause-serves g c = serves_then _ _ _ c.wait_for.ensures.serves (serves_then _ _ _ (c.catch_up.ensures.serves _) (c.call.ensures.serves _))

pub returns-clause-serves : goal.returns-clause-serves
returns-clause-serves g c = serves_then _ _ _ c.wait_for.ensures.serves (serves_then _ _ _ (c.catch_up.ensures.serves _) (c.call.ensures.serves _))

pub returns-in_err-at-clause-not_ended : goal.returns-in_err-at-clause-not_ended
returns-in_err-at-clause-not_ended g c = on_err _ (uncalled_same c.args.self.now c.wait_for.new.self c.wait_for.ensures.session)

pub returns-in_err-end-clause-not_ended : goal.returns-in_err-end-clause-not_ended
returns-in_err-end-clause-not_ended g c =
    let a = c.args.self.now in
    let b = c.wait_for.new.self in
    let k = g.P.Spawner in
    let s = spawner_seen k.asked k.told k.misses k.faults c.args.spawner.now in
    on_err _ (uncalled_seen a b c.catch_up.new.self c.wait_for.ensures.serves.session.seen (c.catch_up.ensures.serves s).session.seen (uncalled_same a b c.wait_for.ensures.session) c.catch_up.ensures.uncalled)

pub returns-in_err-call-clause-not_ended : goal.returns-in_err-call-clause-not_ended
returns-in_err-call-clause-not_ended g c =
    let a = c.args.self.now in
    let b = c.wait_for.new.self in
    let d = c.catch_up.new.self in
    let k = g.P.Spawner in
    let s = spawner_seen k.asked k.told k.misses k.faults c.wait_for.new.spawner in
    let both = serves_then _ _ _ c.wait_for.ensures.serves (c.catch_up.ensures.serves s) in
    let first = uncalled_seen a b d c.wait_for.ensures.serves.session.seen (c.catch_up.ensures.serves s).session.seen (uncalled_same a b c.wait_for.ensures.session) c.catch_up.ensures.uncalled in
    on_err _ (uncalled_seen a d c.call.new.self both.session.seen (c.call.ensures.serves s).session.seen first c.in_err-call.ensures.unmade)

pub returns-clause-ended : goal.returns-clause-ended
returns-clause-ended g c log h =
    let r = c.args.self.now in
    let s = c.wait_for.new.self in
    let d = c.catch_up.new.self in
    let t = c.call.new.self in
    let called = subst (λ (f : Floored _). Called f.opening c.in_ok-end.end (g.C.Clock.coming c.wait_for.new.clock) d.session t.session c.in_ok-call.field-0.0) c.catch_up.ensures.floor c.in_ok-call.ensures.called in
    let watched = subst (λ (p : Seen _). HasLooked p t.watch) c.catch_up.ensures.watch c.call.ensures.watch in
    ends_input r s t d.session log c.wait_for.ensures.floor c.wait_for.ensures.session c.wait_for.ensures.ready c.call.ensures.ready c.catch_up.ensures.session c.catch_up.ensures.ready.zero (let a = c.in_ok-at.ensures.at in let b = c.catch_up.ensures.seen in omega arith) called watched c.in_ok-call.ensures.seen h c.in_ok-end.ensures.call c.in_ok-at.ensures.none
