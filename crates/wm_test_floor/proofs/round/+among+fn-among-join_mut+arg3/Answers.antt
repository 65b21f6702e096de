use Rattle.wm_floor.proofs.Crosses.{passing, floors}
use Rattle.wm_test_floor.proofs.Crosses.{TestKeeper-send, Post-send}
use Rattle.wm_test_floor.proofs.round.+among+fn-among-join_mut+arg3.Goals as goal

pub join_mut-done-requires-send-F : goal.join_mut-done-requires-send-F
join_mut-done-requires-send-F g t c κs within = search (Post-send, TestKeeper-send, floors, passing) depth 400 fits 100000
