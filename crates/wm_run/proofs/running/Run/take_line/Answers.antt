use Rattle.std.proofs.Common.{◌≡◌, ◌++◌, ℕ, List, [], Option, drop, sym, subst, ◌∙◌}
use Rattle.wm_clwords.specs.Part.{lines_from, ended_lines}
use Rattle.wm_clwords.specs.declared.line.LogicalLine.{LogicalLine}
use Rattle.wm_base.proofs.Lists.{on_err}
use Rattle.wm_run.specs.Grown.{entries_between, session_of}
use Rattle.wm_run.specs.Stopped.{StopsIn}
use Rattle.wm_run.proofs.Downs.{up_none}
use Rattle.wm_run.proofs.Inputs.{uncalled_none}
use Rattle.wm_run.proofs.StoppedLines.{StopsIn-more}
use Rattle.wm_run.proofs.Servings.{serves_none}
use Rattle.wm_run.proofs.running.Run.take_line.Goals as goal

pub returns-in_default-clause-taken : goal.returns-in_default-clause-taken
returns-in_default-clause-taken g c =
    let before = c.args.joiner.now in
    let after = c.feed-taken.new.self in
    let piece = c.args.piece.now in
    let rest = drop c.feed-taken.result.0 piece in
    record {
      lines = [];
      split = subst (λ (o : Option LogicalLine). (more : List ℕ) → lines_from before (piece ++ more) ≡ ended_lines o after ++ lines_from after (rest ++ more)) c.in_default.is c.feed-taken.ensures.lines;
      answered = uncalled_none c.args.user.now (session_of c.args.self.now) (g.O.Sink.written c.args.out.now) c.uncalled.result.faulty c.uncalled.ensures.faulty;
    }

pub returns-in_default-clause-down : goal.returns-in_default-clause-down
returns-in_default-clause-down g c = c.uncalled.ensures.up ∙ sym (up_none (session_of c.args.self.now))

pub returns-in_err-answered-clause-stopped : goal.returns-in_err-answered-clause-stopped
returns-in_err-answered-clause-stopped g c =
    let o = g.O.Sink in
    let before = c.args.joiner.now in
    let after = c.feed-taken.new.self in
    let piece = c.args.piece.now in
    let rest = drop c.feed-taken.result.0 piece in
    let h = (session_of c.args.self.now) in
    let es = entries_between h (session_of c.answer_joined.new.self) in
    let v = o.written c.args.out.now in
    let w = o.written c.answer_joined.new.out in
    let lines = subst (λ (e : Option LogicalLine). (more : List ℕ) → lines_from before (piece ++ more) ≡ ended_lines e after ++ lines_from after (rest ++ more)) c.in-Some.is c.feed-taken.ensures.lines in
    on_err c.from_residual.result (λ more. subst (λ (l : List (Option (List ℕ))). StopsIn c.args.user.now l h es v w) (sym (lines more)) (StopsIn-more _ (lines_from after (rest ++ more)) h es v w c.in_err-answered.ensures.stopped))

pub returns-in_default-clause-serves : goal.returns-in_default-clause-serves
returns-in_default-clause-serves g c = serves_none c.args.self.now _ c.requires.ready
