use Rattle.std.proofs.Common.{sym, subst}
use Rattle.wm_floor.specs.Lists.{since}
use Rattle.wm_run.specs.Grown.{session_of}
use Rattle.wm_run.specs.Session.{Closes}
use Rattle.wm_run.proofs.Servings.{serves_none}
use Rattle.wm_run.proofs.Wholes.{uncalled_rest}
use Rattle.wm_run.proofs.running.Run.close_input.Goals as goal

pub returns-then-down-clause-serves : goal.returns-then-down-clause-serves
returns-then-down-clause-serves g c = serves_none c.args.self.now _ c.requires.ready

pub returns-then-down-clause-ended : goal.returns-then-down-clause-ended
returns-then-down-clause-ended g c log h =
    let r = c.args.self.now in
    subst (λ (t : _). Closes t (session_of r) (since r.session.seen log)) (sym c.if-down.true) (uncalled_rest r log c.requires.ready h)

pub returns-clause-ended : goal.returns-clause-ended
returns-clause-ended g c log h =
    let r = c.args.self.now in
    subst (λ (t : _). Closes t (session_of r) (since r.session.seen log)) (sym c.if-down.false) (c.in_ok-end_input.ensures.ended log h)
