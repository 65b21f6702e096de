use Rattle.std.proofs.Common.{◌∙◌, ap, arith}
use Rattle.std.proofs.lemmas.Result.{err_from_is_err_and}
use Rattle.wm_clwords.specs.Verdict.{named_of}
use Rattle.wm_clwords.proofs.VerdictLemmas.{verdict-long, verdict-short, if_ok_after, if_err_after}
use Rattle.wm_clwords.proofs.command.read_tree.Goals as goal

pub returns-then-bytes-gt-LINE_LEN-clause-err : goal.returns-then-bytes-gt-LINE_LEN-clause-err
returns-then-bytes-gt-LINE_LEN-clause-err c = λ _. verdict-long c.args.bytes.now (omega arith)

pub returns-in_err-items-clause-err : goal.returns-in_err-items-clause-err
returns-in_err-items-clause-err c =
    let p = err_from_is_err_and c.from_residual.result c.from_residual.ensures.1 in
    rw (p.1, p.2) (λ n. verdict-short c.args.bytes.now (omega arith) ∙ ap named_of (c.in_err-items.ensures.err n))

pub returns-clause-ok : goal.returns-clause-ok
returns-clause-ok c = if_ok_after c.args.bytes.now _ (omega arith) c.in_ok-items.ensures.ok c.named.result c.named.ensures.ok

pub returns-clause-err : goal.returns-clause-err
returns-clause-err c = if_err_after c.args.bytes.now _ (omega arith) c.in_ok-items.ensures.ok c.named.result c.named.ensures.err
