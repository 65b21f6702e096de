use Rattle.std.proofs.Common.{◌≡◌, drop}
use Rattle.wm_command.specs.Reading.{next_item}
use Rattle.wm_command.specs.Each.{each}
use Rattle.wm_command.proofs.reading.items_given.Given as goal

-- what is left goes on to what all of them give
abbrev pub invariant-loop-item : goal.invariant-loop-item
invariant-loop-item l = each (next_item l.rows) l.values (drop l.item-index l.rest) ≡ each (next_item l.rows) l.initial.values l.rest
