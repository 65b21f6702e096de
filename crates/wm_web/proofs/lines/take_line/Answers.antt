use Rattle.std.proofs.Common.{drop}
use Rattle.wm_clwords.specs.Part.{ended_lines}
use Rattle.wm_web.proofs.BodyLines.{adds_before, lines_of}
use Rattle.wm_web.proofs.lines.take_line.Goals as goal

pub returns-clause-adds : goal.returns-clause-adds
returns-clause-adds c =
    let a = c.args.joiner.now in
    let b = c.feed-taken.new.self in
    let piece = c.args.piece.now in
    let rest = drop c.feed-taken.result.0 piece in
    let ended = ended_lines c.feed-taken.result.1 b in
    adds_before c.args.user.now _ ended _ c.args.body c.in_ok-made.made (lines_of a b piece rest ended c.feed-taken.ensures.lines) c.in_ok-made.ensures.adds
