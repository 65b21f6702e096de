-- What the threads of a server take with them may cross: a seat whose parts may, and the board that they share.
use mathlib.Core.List.{[], ◌∷◌}
use mir.Syntax.{Lifetime, Sym}
use base.Fml.{Lft}
use denote.Ref.{ShrRef}
use denote.RattleType.{RattleType}
use denote.Struct.Tuple.{TupleAt, type_at}
use denote.Struct.Declared as S
use denote.Param.Send.{IsSend, IsSync, shr_sync, struct_send}
use Rattle.wm_traits.specs.declared.keeper.Keeper as keeper
use Rattle.wm_floor.proofs.Crosses.{enum_may_send, floors, passing, struct_may_sync}
use Rattle.wm_serve.specs.contracts.board.Board as Board
use Rattle.wm_serve.specs.contracts.seat.MonitorSeat as MonitorSeat
use Rattle.wm_serve.specs.contracts.seat.Seat as Seat
use Rattle.wm_serve.specs.contracts.seat.WorkerSeat as WorkerSeat

module _ (K D P C : RattleType) (g : keeper.Ghosts K.Denot) where
  pub WorkerSeat-send : IsSend K → IsSend D → IsSend C → IsSend (WorkerSeat.the_field K D C g).row
  WorkerSeat-send k d c = struct_send (S.shape (WorkerSeat.the_type K D C g)) (search (floors, passing) depth 400 fits 100000, (search (floors, passing) depth 400 fits 100000, (search (floors, passing) depth 400 fits 100000, (search (floors, passing) depth 400 fits 100000, tt))))

  pub MonitorSeat-send : IsSend K → IsSend P → IsSend C → IsSend (MonitorSeat.the_field K P C g).row
  MonitorSeat-send k p c = struct_send (S.shape (MonitorSeat.the_type K P C g)) (search (floors, passing) depth 400 fits 100000, (search (floors, passing) depth 400 fits 100000, (search (floors, passing) depth 400 fits 100000, (search (floors, passing) depth 400 fits 100000, (search (floors, passing) depth 400 fits 100000, tt)))))

  pub Seat-send : IsSend K → IsSend D → IsSend P → IsSend C → IsSend (Seat.the_row K D P C g)
  Seat-send k d p c =
      let w = WorkerSeat-send k d c in
      let m = MonitorSeat-send k p c in
      enum_may_send (Seat.the_type K D P C g) ((w, tt), ((search passing depth 400 fits 100000, tt), ((m, tt), tt)))

pub Board-sync : IsSync Board.the_row
Board-sync = struct_may_sync Board.the_type (search passing depth 400 fits 100000, (search passing depth 400 fits 100000, tt))

-- a closure that takes six references along may be shared where what each points at may
module _ (ν : Sym) (k : Lifetime) (k' : Lft) (l : Lifetime) (l' : Lft) (m : Lifetime) (m' : Lft) (n : Lifetime) (n' : Lft) (o : Lifetime) (o' : Lft) (p : Lifetime) (p' : Lft) (A B D E F G : RattleType) where
  pub six_sync : IsSync A → IsSync B → IsSync D → IsSync E → IsSync F → IsSync G → IsSync (TupleAt ν (ShrRef k k' A ∷ ShrRef l l' B ∷ ShrRef m m' D ∷ ShrRef n n' E ∷ ShrRef o o' F ∷ ShrRef p p' G ∷ []))
  six_sync a b d e f g = struct_may_sync (type_at ν (ShrRef k k' A ∷ ShrRef l l' B ∷ ShrRef m m' D ∷ ShrRef n n' E ∷ ShrRef o o' F ∷ ShrRef p p' G ∷ [])) (shr_sync k k' A a, (shr_sync l l' B b, (shr_sync m m' D d, (shr_sync n n' E e, (shr_sync o o' F f, (shr_sync p p' G g, tt))))))
