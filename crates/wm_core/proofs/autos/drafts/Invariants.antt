use Rattle.std.proofs.Common.{◌≡◌, take}
use Rattle.wm_core.specs.Drafts.{drafts}
use Rattle.wm_core.proofs.autos.drafts.Given as goal

-- the drafts of the entries so far
abbrev pub invariant-loop-entry : goal.invariant-loop-entry
invariant-loop-entry l = l.drafts.items ≡ drafts l.jobds (take l.entry-index l.entries)
