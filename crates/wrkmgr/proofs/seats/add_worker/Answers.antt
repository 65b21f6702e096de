use Rattle.std.proofs.Common.{rules}
use Rattle.wrkmgr.specs.System.{sys_tellers}
use Rattle.wm_serve.proofs.Vacant.{pushed, vacant}
use Rattle.wrkmgr.proofs.seats.add_worker.Goals as goal

pub push-requires : goal.push-requires
push-requires g c = record { vacant = vacant sys_tellers c.worker.result (c.worker.ensures.fresh sys_tellers (search rules)) }

pub returns : goal.returns
returns g c = record { fresh = pushed sys_tellers _ _ _ _ c.push.ensures.ok c.push.ensures.err c.requires.fresh (c.worker.ensures.fresh sys_tellers (search rules)) }
