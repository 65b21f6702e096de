use Rattle.wrkmgr.specs.System.{sys_tellers}
use Rattle.wm_serve.proofs.Vacant.{pushed, vacant}
use Rattle.wrkmgr.proofs.seats.add_monitor.Goals as goal

pub push-requires-2 : goal.push-requires-2
push-requires-2 g c = record { vacant = vacant sys_tellers c.monitor.result (c.monitor.ensures.fresh sys_tellers) }

pub returns : goal.returns
returns g c = record { fresh = pushed sys_tellers _ _ _ _ c.push-2.ensures.ok c.push-2.ensures.err c.requires.fresh (c.monitor.ensures.fresh sys_tellers) }
