use Rattle.wrkmgr.specs.System.{sys_tellers}
use Rattle.wm_serve.proofs.Vacant.{pushed, vacant}
use Rattle.wrkmgr.proofs.seats.add_closer.Goals as goal

pub push-requires : goal.push-requires
push-requires g c = record { vacant = vacant sys_tellers c.closer.result (c.closer.ensures.fresh sys_tellers) }

pub returns : goal.returns
returns g c = record { fresh = pushed sys_tellers _ _ _ _ c.push.ensures.ok c.push.ensures.err c.requires.fresh (c.closer.ensures.fresh sys_tellers) }
