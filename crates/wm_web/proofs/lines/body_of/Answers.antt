use Rattle.std.proofs.lemmas.List.{take_rest}
use Rattle.wm_clwords.specs.Part.{ended_lines}
use Rattle.wm_web.proofs.BodyLines.{loop_begins, loop_ends, loop_takes}
use Rattle.wm_web.proofs.lines.body_of.Goals as goal

pub lines-init : goal.lines-init
lines-init c = loop_begins c.args.user.now c.args.bytes.now c.in_ok-joiner.joiner c.in_ok-joiner.ensures

pub lines-preserved : goal.lines-preserved
lines-preserved c = loop_takes c.args.user.now c.args.bytes.now c.lines.at c.in_ok-taken.taken c.lines.joiner c.take_line.new.joiner c.lines.body c.in_ok-taken.made _ (take_rest c.args.bytes.now c.lines.at) c.lines.invariant c.in_ok-taken.ensures.adds c.in_ok-taken.ensures.within c.in_ok-taken.ensures.fit

pub returns-clause-is : goal.returns-clause-is
returns-clause-is c =
    loop_ends c.args.user.now c.args.bytes.now c.lines.at c.lines.joiner (ended_lines c.end-last.result c.end-last.new.self) c.lines.body c.in_ok-all.all c.lines.invariant c.lines-test.false c.end-last.ensures.line c.in_ok-all.ensures.adds
