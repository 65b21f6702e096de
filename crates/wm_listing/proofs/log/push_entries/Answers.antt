-- proofs/log/push_entries/Answers.antt
use Rattle.std.proofs.Common.{◌+◌, List, ℕ, ◌++◌, take, ap, sym, ◌∙◌, append_assoc}
use Rattle.wm_listing.specs.Log.{entry_line, entry_lines}
use Rattle.wm_listing.proofs.Logs.{next_line}
use Rattle.wm_listing.proofs.log.push_entries.Goals as goal

pub loop-at-preserved : goal.loop-at-preserved
loop-at-preserved c =
    let at = c.loop-at.at in
    let line = entry_line (at + 1) c.index-log-at.result in
    c.in_ok-push_entry.ensures
    ∙ ap (λ (l : List ℕ). l ++ line) c.loop-at.invariant
    ∙ append_assoc c.args.out.now.items (entry_lines 1 (take at c.args.log.now)) line
    ∙ ap (λ (l : List ℕ). c.args.out.now.items ++ l) (sym (next_line c.args.log.now at c.index-log-at.result c.loop-at-test.true c.index-log-at.is))
