-- The order of moments.
use Rattle.std.specs.Prelude.{Bool}
use Rattle.std.specs.declared.cmp.Ordering.{Ordering}
use Rattle.wm_indexes.specs.declared.turn.Turn.{Turn}
use Rattle.wm_indexes.specs.contracts.turn.TurnOrd.TheImpl as by_cmp
use Rattle.wm_indexes.specs.contracts.turn.TurnPartialEq.TheImpl as by_eq

-- by moment, then serial, as `cmp` answers
abbrev pub turn_cmp : Turn → Turn → Ordering
turn_cmp = (by_cmp.ghosts).cmp

-- whether two are one, as `==` answers
abbrev pub same_turn : Turn → Turn → Bool
same_turn = (by_eq.ghosts).eq
