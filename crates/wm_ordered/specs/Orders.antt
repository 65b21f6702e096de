-- The orders of the keys, as `cmp` and `==` answer.
use Rattle.std.specs.Prelude.{Bool}
use Rattle.std.specs.declared.cmp.Ordering.{Ordering}
use Rattle.wm_ordered.specs.declared.keys.Spot.{Spot}
use Rattle.wm_ordered.specs.declared.keys.Rise.{Rise}
use Rattle.wm_ordered.specs.contracts.keys.SpotOrd.TheImpl as spot_by_cmp
use Rattle.wm_ordered.specs.contracts.keys.SpotPartialEq.TheImpl as spot_by_eq
use Rattle.wm_ordered.specs.contracts.keys.RiseOrd.TheImpl as rise_by_cmp
use Rattle.wm_ordered.specs.contracts.keys.RisePartialEq.TheImpl as rise_by_eq

-- by queue, then priority, then place
abbrev pub spot_cmp : Spot → Spot → Ordering
spot_cmp = (spot_by_cmp.ghosts).cmp

-- whether two spots are one
abbrev pub same_spot : Spot → Spot → Bool
same_spot = (spot_by_eq.ghosts).eq

-- by moment, then serial
abbrev pub rise_cmp : Rise → Rise → Ordering
rise_cmp = (rise_by_cmp.ghosts).cmp

-- whether two rises are one
abbrev pub same_rise : Rise → Rise → Bool
same_rise = (rise_by_eq.ghosts).eq
