use Rattle.std.proofs.lemmas.Result.{err_from_is_err_and}
use Rattle.wm_run.specs.Grown.{session_of}
use Rattle.wm_run.proofs.Outcomes.{came_none}
use Rattle.wm_run.proofs.Servings.{serves_none}
use Rattle.wm_run.proofs.running.Run.take_all.Goals as goal

pub returns-in_err-piece-clause-input : goal.returns-in_err-piece-clause-input
returns-in_err-piece-clause-input g c =
    let p = err_from_is_err_and c.from_residual.result c.from_residual.ensures.1 in
    let is = p.1 in
    let same = p.2 in
    came_none c.args.user.now c.from_residual.result p.0 (g.I.Source.left c.args.input.now) (session_of c.args.self.now) (g.O.Sink.written c.args.out.now) p.1 (λ f. absurd (cc)) (λ f. absurd (cc))

pub returns-in_err-piece-clause-serves : goal.returns-in_err-piece-clause-serves
returns-in_err-piece-clause-serves g c = serves_none c.args.self.now _ c.requires.ready
