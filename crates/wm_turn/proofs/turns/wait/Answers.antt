use Rattle.std.proofs.Common.{rules}
use Rattle.wm_turn.proofs.Laid.{still_waits, still_free, still_live}
use Rattle.wm_turn.proofs.turns.wait.Goals as goal

pub look-served-requires : goal.look-served-requires
look-served-requires g c = let i = c.loop.invariant in let w = c.requires.waits in record {
  own = search rules;
  waits = (w.0, still_waits _ _ i.1 w.0 w.2);
  free = still_free _ _ i.1 c.requires.free;
  live = still_live _ _ i.1 c.requires.live;
}
