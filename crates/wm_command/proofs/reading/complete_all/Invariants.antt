use Rattle.std.proofs.Common.{◌≡◌, drop}
use Rattle.wm_command.specs.Reading.{complete}
use Rattle.wm_command.specs.Each.{each}
use Rattle.wm_command.proofs.reading.complete_all.Given as goal

-- what is left goes on to what all of them give
abbrev pub invariant-loop-row : goal.invariant-loop-row
invariant-loop-row l = each complete l.values (drop l.row-index l.rows) ≡ each complete l.initial.values l.rows
