use Rattle.std.proofs.Common.{ℕ, List, Option, sym, subst}
use Rattle.std.proofs.lemmas.Result.{IfOk-weaker, on_err_weaker}
use Rattle.wm_run.specs.Grown.{entries_between, session_of}
use Rattle.wm_run.specs.Session.{Answers, AnsweredBy}
use Rattle.wm_run.specs.Stopped.{StopsIn}
use Rattle.wm_run.proofs.StoppedLines.{StopsIn-line}
use Rattle.wm_run.proofs.Takings.{AnsweredBy-one}
use Rattle.wm_run.proofs.running.Run.answer_joined.Goals as goal

pub returns-clause-answered : goal.returns-clause-answered
returns-clause-answered g c =
    let o = g.O.Sink in
    let v = o.written c.args.out.now in
    let w = o.written c.answer.new.out in
    let h = (session_of c.args.self.now) in
    let es = entries_between (session_of c.args.self.now) (session_of c.answer.new.self) in
    IfOk-weaker c.answer.result _ _ (λ r one. subst (λ (l : List (Option (List ℕ))). AnsweredBy (Answers c.args.user.now l h) es v w r.faulty) (sym c.text_of.ensures) (AnsweredBy-one _ h es v w r.faulty one)) c.answer.ensures.answered

pub returns-clause-stopped : goal.returns-clause-stopped
returns-clause-stopped g c =
    let o = g.O.Sink in
    let v = o.written c.args.out.now in
    let w = o.written c.answer.new.out in
    let h = (session_of c.args.self.now) in
    let es = entries_between (session_of c.args.self.now) (session_of c.answer.new.self) in
    on_err_weaker c.answer.result (λ stop. subst (λ (l : List (Option (List ℕ))). StopsIn c.args.user.now l h es v w) (sym c.text_of.ensures) (StopsIn-line _ h es v w stop)) c.answer.ensures.stopped
