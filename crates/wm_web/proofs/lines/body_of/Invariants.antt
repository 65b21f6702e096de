use Rattle.std.proofs.Common.{◌-◌, length}
use Rattle.wm_web.proofs.BodyLines.{BodyLoop}
use Rattle.wm_web.proofs.lines.body_of.Given as goal

abbrev pub invariant-lines : goal.invariant-lines
invariant-lines l = BodyLoop l.user l.bytes l.at l.joiner l.body

abbrev pub decreases-lines : goal.decreases-lines
decreases-lines l = length l.bytes - l.at
