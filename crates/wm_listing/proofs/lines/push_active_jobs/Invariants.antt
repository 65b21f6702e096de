-- proofs/lines/push_active_jobs/Invariants.antt
use Rattle.std.proofs.Common.{◌≡◌, ◌++◌, take}
use Rattle.std.specs.List.{flat_map}
use Rattle.wm_listing.specs.Listing.{active_job_text}
use Rattle.wm_listing.proofs.lines.push_active_jobs.Given as goal

-- the lines so far
abbrev pub invariant-loop-line : goal.invariant-loop-line
invariant-loop-line l = l.out.items ≡ l.fn.out.items ++ flat_map active_job_text (take l.line-index l.lines)
