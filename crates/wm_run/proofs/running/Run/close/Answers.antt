use Rattle.wm_run.proofs.Closings.{whole_of}
use Rattle.wm_run.proofs.running.Run.close.Goals as goal

pub returns-clause-whole : goal.returns-clause-whole
returns-clause-whole g c = whole_of c.args.self c.join.new.pass c.await_idle.new.pass _ c.requires.ready c.requires.made c.requires.joined c.join.ensures.pass c.join.ensures.seen c.join.ensures.told c.await_idle.ensures.own c.await_idle.ensures.same c.await_idle.ensures.looked c.close_floor.ensures.log c.close_floor.ensures.joined c.close_floor.ensures.callers
