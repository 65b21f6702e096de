use Rattle.std.proofs.Common.{◌||◌, ap, sym, ◌∙◌}
use Rattle.wm_law.specs.Named.{is_ended}
use Rattle.wm_jobs.proofs.NameParts.{names-alike}
use Rattle.wm_jobs.proofs.following.follow_name.Goals as goal

pub returns-then-is_ended-clause-names : goal.returns-then-is_ended-clause-names
returns-then-is_ended-clause-names c = λ before behind is serial job ends.
    names-alike before behind c.args.job.now is c.args.names.now serial job (ends ∙ (ap (λ b. b || is_ended c.args.phase.now) (sym c.if-is_ended.ensures) ∙ c.if-is_ended.ensures))

pub returns-then-is_ended-2-clause-names : goal.returns-then-is_ended-2-clause-names
returns-then-is_ended-2-clause-names c = λ before behind is serial job ends.
    c.end.ensures.names before behind is serial job (ends ∙ (ap (λ b. b || is_ended c.args.phase.now) (sym c.if-is_ended.ensures) ∙ sym c.if-is_ended-2.ensures))

pub returns-else-is_ended-2-clause-names : goal.returns-else-is_ended-2-clause-names
returns-else-is_ended-2-clause-names c = λ before behind is serial job ends.
    names-alike before behind c.args.job.now is c.args.names.now serial job (ends ∙ (ap (λ b. b || is_ended c.args.phase.now) (sym c.if-is_ended.ensures) ∙ (sym c.if-is_ended-2.ensures ∙ c.if-is_ended.ensures)))
