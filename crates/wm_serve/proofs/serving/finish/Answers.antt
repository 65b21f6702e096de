use Rattle.wm_turn.proofs.Histories.{starts_again}
use Rattle.wm_serve.specs.Seats.{tellers}
use Rattle.wm_serve.proofs.Closers.{all_none}
use Rattle.wm_serve.proofs.Overs.{quiet_looked}
use Rattle.wm_serve.proofs.serving.finish.Goals as goal

pub returns-in_err-power_down-clause-run : goal.returns-in_err-power_down-clause-run
returns-in_err-power_down-clause-run g c =
    let d = g.D.Desk in
    let p = g.P.Spawner in
    all_none (tellers d.hand d.had d.dries d.faults p.asked p.told p.misses p.faults) c.args.floor.now c.args.seats.now c.requires.sit

pub returns-in_err-drain-clause-seen : goal.returns-in_err-drain-clause-seen
returns-in_err-drain-clause-seen g c = starts_again c.drain.new.zero.seen c.power_down.new.zero.seen c.args.zero.now.seen c.drain.ensures.looked.seen c.power_down.ensures.seen

pub returns-clause-seen : goal.returns-clause-seen
returns-clause-seen g c = starts_again c.drain.new.zero.seen c.power_down.new.zero.seen c.args.zero.now.seen c.drain.ensures.looked.seen c.power_down.ensures.seen

pub returns-clause-quiet : goal.returns-clause-quiet
returns-clause-quiet g c = quiet_looked c.args.floor.now.opening.state c.args.zero.now c.power_down.new.zero c.drain.new.zero c.in_ok-power_down.ensures.quiet c.drain.ensures.looked.mine c.drain.ensures.looked.seen
