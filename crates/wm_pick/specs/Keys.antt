-- What lies in `Keys`.
use Rattle.std.specs.Prelude.{List, []}
use Rattle.wm_pick.specs.declared.counted.Counted.{Counted}
use Rattle.wm_pick.specs.declared.keys.Keys.{Keys}
use Rattle.wm_pick.specs.declared.keys.Keys.TheVariants.{NoKey, Two, Four}

abbrev pub keys_in : Keys → List Counted
keys_in NoKey = []
keys_in (Two keys) = keys
keys_in (Four keys) = keys
