use Rattle.std.proofs.Common.{map, string_bytes, Err, ap}
use Rattle.wm_runs.specs.Words.{drill_plan}
use Rattle.wm_runs.proofs.Drills.{not_begun, nothing_first}
use Rattle.wm_runs.proofs.whole_drill.drill.Goals as goal

pub returns-in-Err-clause-history : goal.returns-in-Err-clause-history
returns-in-Err-clause-history g c =
    not_begun (drill_plan (map string_bytes c.args.words.now)) c.not_begun.result.status c.in-Err.status c.not_begun.result.log c.not_begun.result.kept c.not_begun.ensures.status c.in-Err.ensures.statuses (λ two. c.in-Err.ensures.wrong (ap Err two)) c.not_begun.ensures.log c.not_begun.ensures.kept

pub returns-in-Err-clause-first : goal.returns-in-Err-clause-first
returns-in-Err-clause-first g c = nothing_first (drill_plan (map string_bytes c.args.words.now)) c.not_begun.result.log (g.O.Sink.written c.args.out.now)
