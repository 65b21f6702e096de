-- What the threads of a round take with them.
use denote.RattleType.{RattleType}
use denote.Param.Send.{IsSend}
use Rattle.wm_traits.specs.declared.keeper.Keeper as keeper
use Rattle.wm_floor.proofs.Crosses.{passing, floors, struct_may_send}
use Rattle.wm_sqlkeep.proofs.Crosses.{OpenedKeeper-send}
use Rattle.wm_test_floor.specs.contracts.keeper.TestKeeper as TestKeeper
use Rattle.wm_test_floor.specs.contracts.work.Post as Post

pub TestKeeper-send : IsSend TestKeeper.the_row
TestKeeper-send = struct_may_send TestKeeper.the_type (search passing depth 400 fits 100000, (search (OpenedKeeper-send, passing) depth 400 fits 100000, tt))

module _ (K : RattleType) (g : keeper.Ghosts K.Denot) where
  pub Post-send : IsSend K → IsSend (Post.the_row K g)
  Post-send s =
      struct_may_send (Post.the_type K g)
      (search passing depth 400 fits 100000, (search (floors, passing) depth 400 fits 100000, (search passing depth 400 fits 100000, (search passing depth 400 fits 100000, tt))))
