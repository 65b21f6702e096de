use Rattle.std.proofs.Common.{◌||◌, ap, sym, ◌∙◌}
use Rattle.wm_law.specs.Named.{is_ended}
use Rattle.wm_jobs.proofs.NameParts.{names-alike}
use Rattle.wm_jobs.proofs.following.rejoin.Goals as goal

pub returns-then-had_ended-clause-names : goal.returns-then-had_ended-clause-names
returns-then-had_ended-clause-names c = λ before behind was serial job ends.
    c.rejoin.ensures.names before behind was serial job (ends ∙ ap (λ b. b || is_ended c.args.job.now.phase) c.if-had_ended.true)

pub returns-else-had_ended-clause-names : goal.returns-else-had_ended-clause-names
returns-else-had_ended-clause-names c = λ before behind was serial job ends.
    names-alike before behind was c.args.job.now c.args.names.now (sym serial) (sym job) (sym (ends ∙ ap (λ b. b || is_ended c.args.job.now.phase) c.if-had_ended.false))
