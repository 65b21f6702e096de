use Rattle.std.proofs.Common.{◌≡◌, ◌≤◌, length}
use Rattle.wm_http.specs.Lines.{head_lines}
use Rattle.wm_http.proofs.lines.behind_blank.Given as goal

abbrev pub decreases-loop-rest : goal.decreases-loop-rest
decreases-loop-rest l = length l.rest

abbrev pub invariant-loop-rest : goal.invariant-loop-rest
invariant-loop-rest l = (head_lines l.rest ≡ head_lines l.fn.text) × (length l.rest ≤ length l.fn.text)
