use Rattle.std.proofs.Common.{◌≡◌, take}
use Rattle.wm_tables.specs.Noted.{noted}
use Rattle.wm_tables.proofs.noting.noted.Given as goal

abbrev pub invariant-loop-one : goal.invariant-loop-one
invariant-loop-one l = l.all.items ≡ noted (take l.one-index l.touched)
