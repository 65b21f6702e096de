use Rattle.wm_clwords.proofs.LinesLaw.{lines_from-next, on_some}
use Rattle.wm_clwords.proofs.joiner.Joiner.step.Goals as goal

pub returns-then-byte-eq10-clause-next : goal.returns-then-byte-eq10-clause-next
returns-then-byte-eq10-clause-next c =
    on_some c.finish.result (λ e. lines_from-next c.finish.new.self e) c.finish.ensures.ended
