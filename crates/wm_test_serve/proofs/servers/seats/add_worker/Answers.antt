use Rattle.std.proofs.Common.{rules}
use Rattle.wm_test_serve.specs.Fresh.{mem_tellers}
use Rattle.wm_serve.proofs.Vacant.{pushed, vacant}
use Rattle.wm_test_serve.proofs.servers.seats.add_worker.Goals as goal

pub push-requires : goal.push-requires
push-requires c = record { vacant = vacant mem_tellers c.worker.result (c.worker.ensures.fresh mem_tellers (search rules)) }

pub returns : goal.returns
returns c = record { fresh = pushed mem_tellers _ _ _ _ c.push.ensures.ok c.push.ensures.err c.requires.fresh (c.worker.ensures.fresh mem_tellers (search rules)) }
