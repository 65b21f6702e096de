use Rattle.std.proofs.Common.{inl}
use Rattle.wm_base.proofs.Lists.{on_err}
use Rattle.wm_run.specs.Grown.{session_of}
use Rattle.wm_run.proofs.Servings.{serves_none}
use Rattle.wm_run.proofs.StoppedRuns.{Unanswered-none}
use Rattle.wm_run.proofs.running.Run.answer.Goals as goal

pub returns-in_err-parsed-in-Some-clause-serves : goal.returns-in_err-parsed-in-Some-clause-serves
returns-in_err-parsed-in-Some-clause-serves g c = serves_none c.args.self.now _ c.requires.ready

pub returns-in_err-parsed-in-Some-clause-stopped : goal.returns-in_err-parsed-in-Some-clause-stopped
returns-in_err-parsed-in-Some-clause-stopped g c = on_err _ (inl (Unanswered-none (session_of c.args.self.now) (g.O.Sink.written c.args.out.now)))
