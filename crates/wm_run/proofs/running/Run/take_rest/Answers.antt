use Rattle.std.proofs.Common.{◌≡◌, ℕ, List, [], Option, sym, ap, subst, ◌∙◌}
use Rattle.wm_clwords.specs.Part.{ended_lines, lines_from}
use Rattle.wm_clwords.specs.declared.line.LogicalLine.{LogicalLine}
use Rattle.wm_run.specs.Grown.{entries_between, session_of}
use Rattle.wm_run.specs.Session.{AnsweredBy, Answers}
use Rattle.wm_run.proofs.Inputs.{uncalled_none}
use Rattle.wm_run.proofs.Servings.{serves_none}
use Rattle.wm_run.proofs.running.Run.take_rest.Goals as goal

pub returns-in_default-clause-serves : goal.returns-in_default-clause-serves
returns-in_default-clause-serves g c = serves_none c.args.self.now _ c.requires.ready

pub returns-in_default-clause-answered : goal.returns-in_default-clause-answered
returns-in_default-clause-answered g c =
    let h = session_of c.args.self.now in
    let v = g.O.Sink.written c.args.out.now in
    let none : lines_from c.args.joiner.now [] ≡ [] = c.end.ensures.line ∙ ap (λ (o : Option LogicalLine). ended_lines o c.end.new.self) c.in_default.is in
    subst (λ (l : List (Option (List ℕ))). AnsweredBy (Answers c.args.user.now l h) (entries_between h h) v v c.uncalled.result.faulty) (sym none) (uncalled_none c.args.user.now h v c.uncalled.result.faulty c.uncalled.ensures.faulty)
