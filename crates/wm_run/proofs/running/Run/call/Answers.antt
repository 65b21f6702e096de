use Rattle.std.proofs.Common.{subst, refl}
use Rattle.wm_base.proofs.Lists.{on_err}
use Rattle.wm_floor.specs.Floor.{HasLooked, IsSame, Seen}
use Rattle.wm_run.proofs.Commands.{called_at, called_since, uncalled_since}
use Rattle.wm_run.proofs.Readies.{looked_still, running_called, running_looked}
use Rattle.wm_run.proofs.Servings.{pass_called, pass_looked, serves_alone, serves_session}
use Rattle.wm_run.proofs.running.Run.call.Goals as goal

pub returns-in_err-place-clause-ready : goal.returns-in_err-place-clause-ready
returns-in_err-place-clause-ready g c = running_looked c.args.self.now c.enter.new.self c.requires.ready c.enter.ensures.floor c.enter.ensures.own c.enter.ensures.same c.in_err-place.ensures.err c.enter.ensures.watch

pub returns-in_err-place-clause-serves : goal.returns-in_err-place-clause-serves
returns-in_err-place-clause-serves g c s = serves_alone c.args.self.now c.enter.new.self s c.requires.ready c.enter.ensures.floor (pass_looked _ _ c.enter.ensures.same c.in_err-place.ensures.err) c.enter.ensures.watch c.enter.ensures.monitor

pub returns-in_err-place-clause-unmade : goal.returns-in_err-place-clause-unmade
returns-in_err-place-clause-unmade g c = on_err _ (uncalled_since c.args.self.now.floor _ _ c.requires.ready.session c.enter.ensures.own c.requires.ready.zero c.enter.ensures.same c.in_err-place.ensures.err)

pub returns-clause-called : goal.returns-clause-called
returns-clause-called g c = called_at c.now-now.result _ _ _ c.now-now.ensures.told c.in_ok-place.ensures.ok

pub returns-clause-made : goal.returns-clause-made
returns-clause-made g c = called_since c.args.self.now.floor _ _ c.requires.ready.session c.enter.ensures.own c.requires.ready.zero c.enter.ensures.same c.in_ok-place.ensures.ok

pub returns-in_err-place-clause-watch : goal.returns-in_err-place-clause-watch
returns-in_err-place-clause-watch g c = looked_still c.args.self.now.watch c.enter.new.self.watch c.enter.ensures.watch

pub returns-clause-ready : goal.returns-clause-ready
returns-clause-ready g c =
    let e = c.enter.ensures in
    let k = c.see-waiting.ensures in
    running_called c.args.self.now c.enter.new.self _ _ c.requires.ready e.floor e.own e.same e.watch refl refl k.own k.same c.in_ok-place.ensures.place k.seen

pub returns-clause-serves : goal.returns-clause-serves
returns-clause-serves g c s =
    let e = c.enter.ensures in
    let k = c.see-waiting.ensures in
    let ready = running_called c.args.self.now c.enter.new.self _ _ c.requires.ready e.floor e.own e.same e.watch refl refl k.own k.same c.in_ok-place.ensures.place k.seen in
    serves_session c.args.self.now _ s c.requires.ready ready e.floor (pass_called _ _ e.same e.mark c.in_ok-place.ensures.ok)
    (subst (λ (p : Seen _). HasLooked p c.see-waiting.new.pass) e.watch k.looked) (subst (λ (p : Seen _). IsSame p c.see-waiting.new.pass) e.watch k.same) e.monitor
