-- proofs/lines/push_subsystems/Invariants.antt
use Rattle.std.proofs.Common.{◌≡◌, ◌++◌, take}
use Rattle.std.specs.List.{flat_map}
use Rattle.wm_listing.specs.Listing.{sbs_text}
use Rattle.wm_listing.proofs.lines.push_subsystems.Given as goal

-- the lines so far
abbrev pub invariant-loop-line : goal.invariant-loop-line
invariant-loop-line l = l.out.items ≡ l.fn.out.items ++ flat_map sbs_text (take l.line-index l.lines)
