use Rattle.std.proofs.Common.{rules, ◌∙◌}
use Rattle.wm_http.proofs.LineLemmas.{feed_at, other_at}
use Rattle.wm_http.proofs.lines.behind_lines.Goals as goal
use Rattle.wm_http.proofs.lines.behind_lines.Goals.{then-byte-eq10+else-lacks-eq0, else-byte-eq10}

pub loop-at-preserved : goal.loop-at-preserved
loop-at-preserved c =
    let i = c.loop-at.invariant in
    elim c.if-byte-eq10.branch [
      | then-byte-eq10+else-lacks-eq0 w ↦
          rw w.lacks-is (search rules, search rules, i.2 ∙ feed_at c.loop-at.lacks c.loop-at.at c.args.text.now i.0 (search rules) w.if-byte-eq10.true)
      | else-byte-eq10 w ↦
          rw w.lacks-is (search rules, search rules, i.2 ∙ other_at c.loop-at.lacks c.loop-at.at c.args.text.now i.0 (search rules) w.if-byte-eq10.false)
    ]
