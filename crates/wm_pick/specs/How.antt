-- What a how names, by the words of `Counts` in `wm_law`.
use Rattle.std.specs.Prelude.{List, [], ◌∷◌}
use Rattle.wm_base.specs.declared.job.How.{How}
use Rattle.wm_base.specs.declared.job.How.TheVariants.{NotYet, FromQueue, Auto, Pre}
use Rattle.wm_pick.specs.declared.counted.Counted.{Counted}
use Rattle.wm_pick.specs.declared.counted.Counted.TheVariants as key

-- the keys that it names
abbrev pub keys_of : How → List Counted
keys_of NotYet = []
keys_of (FromQueue sbs jobq pty route) = key.Sbs sbs ∷ key.Queue sbs jobq ∷ key.Pty sbs jobq pty ∷ key.Route sbs route ∷ []
keys_of (Auto sbs route) = key.Sbs sbs ∷ key.Route sbs route ∷ []
keys_of (Pre sbs pgm) = key.Sbs sbs ∷ key.Pre sbs pgm ∷ []
