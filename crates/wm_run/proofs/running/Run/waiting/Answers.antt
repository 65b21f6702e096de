use Rattle.std.proofs.Common.{refl, ap, ◌∙◌}
use Rattle.wm_law.specs.Pending.{pending}
use Rattle.wm_floor.specs.History.{reached}
use Rattle.wm_floor.specs.Ledger.{behind}
use Rattle.wm_run.proofs.Readies.{running_watched}
use Rattle.wm_run.proofs.Servings.{serves_session, pass_none}
use Rattle.wm_run.proofs.running.Run.waiting.Goals as goal

pub returns-clause-ready : goal.returns-clause-ready
returns-clause-ready g c = running_watched c.args.self.now _ c.requires.ready refl refl c.waiting.ensures.own c.waiting.ensures.same c.waiting.ensures.looked.seen

pub returns-clause-serves : goal.returns-clause-serves
returns-clause-serves g c s =
    let ready = running_watched c.args.self.now _ c.requires.ready refl refl c.waiting.ensures.own c.waiting.ensures.same c.waiting.ensures.looked.seen in
    serves_session c.args.self.now _ s c.requires.ready ready refl (pass_none c.args.self.now.session) c.waiting.ensures.looked c.waiting.ensures.same refl

pub returns-clause-pending : goal.returns-clause-pending
returns-clause-pending g c =
    let e = c.waiting.ensures in
    e.waits.pending ∙ ap (pending (reached (behind c.args.self.now.floor.opening c.waiting.new.pass.seen))) (e.same.number ∙ c.requires.ready.one)
