use Rattle.std.proofs.Common.{◌≡◌, ◌<◌, ◌≤◌, drop}
use Rattle.wm_http.specs.Lines.{lines_from}
use Rattle.wm_http.proofs.lines.behind_lines.Given as goal

abbrev pub invariant-loop-at : goal.invariant-loop-at
invariant-loop-at l = (0 < l.lacks) × (l.lacks ≤ 34) × (lines_from 34 l.text ≡ lines_from l.lacks (drop l.at l.text))
