-- proofs/hosting/lines_among/Invariants.antt
use Rattle.std.proofs.Common.{◌≡◌, map, take}
use Rattle.wm_views.specs.Hosts.{line_among}
use Rattle.wm_views.proofs.hosting.lines_among.Given as goal

-- the lines of the subsystems so far
abbrev pub invariant-loop-sbs : goal.invariant-loop-sbs
invariant-loop-sbs l = l.lines.items ≡ map (line_among l.hosts) (take l.sbs-index l.started)
