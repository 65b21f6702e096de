-- Whether the system takes work.
use Rattle.std.specs.Prelude.{Bool, true, false}
use Rattle.wm_law.specs.declared.state.Power.{Power}
use Rattle.wm_law.specs.declared.state.Power.TheVariants.{On, Down, DownNow}

-- whether the power is On
abbrev pub is_on : Power → Bool
is_on On = true
is_on Down = false
is_on DownNow = false

-- whether the power is down by *IMMED
abbrev pub is_down_now : Power → Bool
is_down_now On = false
is_down_now Down = false
is_down_now DownNow = true
