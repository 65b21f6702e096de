use Rattle.std.proofs.Common.{◌≡◌, take, None}
use Rattle.std.specs.List.{fold}
use Rattle.wm_law.specs.Choice.{better, first}
use Rattle.wm_pick.proofs.parts.Parts.next.Given as goal

-- the best of the subsystems so far
abbrev pub invariant-loop-sbs : goal.invariant-loop-sbs
invariant-loop-sbs g l = l.best ≡ fold (λ best b. better best (first l.self b.sbsd)) None (take l.sbs-index l.sbs-items)
