-- proofs/replay/replayed/Answers.antt
use Rattle.std.proofs.Common.{pos, arith}
use Rattle.wm_law.specs.History.{after}
use Rattle.wm_law.specs.Opening.{opening}
use Rattle.wm_runs.proofs.Replays.{entry_legal, none_left, rest_legal, rest_reaches}
use Rattle.wm_runs.proofs.replay.replayed.Goals as goal

pub step-requires : goal.step-requires
step-requires c =
    record { ranges = (entry_legal c.loop-at.core.state c.args.log.now c.loop-at.at c.in-Some.entry.now c.in-Some.ensures c.loop-at.invariant.0).call }

pub loop-at-preserved : goal.loop-at-preserved
loop-at-preserved c =
    let log = c.args.log.now in
    let at = c.loop-at in
    let e = c.in-Some.entry.now in
    let to = c.in_ok-step.ensures.state in (
      rest_legal at.core.state c.step.new.self.state log at.at e c.in-Some.ensures to at.invariant.0,
      rest_reaches at.core.state c.step.new.self.state (after (opening (pos 0)) log) log at.at e c.in-Some.ensures to at.invariant.1,
    )

pub returns : goal.returns
returns c = none_left c.loop-at.core.state (after (opening (pos 0)) c.args.log.now) c.args.log.now c.loop-at.at (omega arith) c.loop-at.invariant.1
