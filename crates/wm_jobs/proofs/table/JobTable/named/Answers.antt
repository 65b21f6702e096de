use Rattle.std.proofs.Common.{rules, ◌≡◌, Ok, ap, sym, ◌∙◌, subst}
use Rattle.std.specs.Option.{option_copied}
use Rattle.wm_law.specs.Laws.{IsIn}
use Rattle.wm_jobs.specs.Table.{Table}
use Rattle.wm_jobs.proofs.NameParts.{named-there, not-named}
use Rattle.wm_jobs.proofs.table.JobTable.named.Goals as goal

pub returns-in_err-serial : goal.returns-in_err-serial
returns-in_err-serial c =
    let none = not-named c.args.reference.now c.self.inside.jobs.items c.in_err-serial.field-0.0 (sym c.in_err-serial.was ∙ c.find.ensures c.self.inside.jobs.items c.self.invariant.kept.named.are) in
    rw (← c.self.view_is) (search rules)

pub unreachable-requires : goal.unreachable-requires
unreachable-requires c =
    let there = named-there c.args.reference.now c.self.inside.jobs.items c.in_ok-serial.serial (option_copied c.job.result) (sym c.in_ok-serial.was ∙ c.find.ensures c.self.inside.jobs.items c.self.invariant.kept.named.are) (λ j i same. c.job.ensures.one j (subst (λ (v : Table). IsIn j v.jobs) c.self.view_is i) same) in
    cc (sym (ap option_copied c.in_default.is) ∙ there.2)

pub returns : goal.returns
returns c =
    let there = named-there c.args.reference.now c.self.inside.jobs.items c.in_ok-serial.serial (option_copied c.job.result) (sym c.in_ok-serial.was ∙ c.find.ensures c.self.inside.jobs.items c.self.invariant.kept.named.are) (λ j i same. c.job.ensures.one j (subst (λ (v : Table). IsIn j v.jobs) c.self.view_is i) same) in
    let is : there.0 ≡ c.in-Some.job.now = cc (sym there.2 ∙ ap option_copied c.in-Some.is) in
    rw (← c.self.view_is) (there.1 ∙ ap Ok is)
