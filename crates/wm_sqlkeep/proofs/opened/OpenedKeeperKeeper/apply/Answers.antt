use Rattle.std.proofs.Common.{sym, subst, OnOk, OnErr}
use Rattle.sqlite.proofs.Callers.{memory_is_clean}
use Rattle.wm_sqlkeep.specs.declared.opened.OpenedKeeper.TheVariants.{Memory, File}
use Rattle.wm_sqlkeep.specs.Opened.{HasApplied, ApplyFails, HasStayed}
use Rattle.wm_sqlkeep.proofs.Answered.{on_ok, in_memory}
use Rattle.wm_sqlkeep.proofs.opened.OpenedKeeperKeeper.apply.Goals as goal

pub returns-in-Memory-clause-made : goal.returns-in-Memory-clause-made
returns-in-Memory-clause-made c =
    subst (λ d. OnOk c.apply.result (HasApplied c.args.changes.now d (Memory c.apply.new.self))) (sym c.in-Memory.is) (c.apply.ensures.made (memory_is_clean c.apply.new.self.connection))

pub returns-in-Memory-clause-err : goal.returns-in-Memory-clause-err
returns-in-Memory-clause-err c =
    subst (λ d. OnErr c.apply.result (HasStayed d (Memory c.apply.new.self))) (sym c.in-Memory.is) (in_memory c.in-Memory.keeper.connection c.apply.new.self.connection c.apply.result c.apply.ensures.err)

pub returns-in-Memory-clause-failed : goal.returns-in-Memory-clause-failed
returns-in-Memory-clause-failed c is =
    subst (λ d. ApplyFails c.args.changes.now d (Memory c.apply.new.self)) (sym c.in-Memory.is) (c.apply.ensures.failed (memory_is_clean c.apply.new.self.connection) is)

pub returns-in-File-clause-made : goal.returns-in-File-clause-made
returns-in-File-clause-made c =
    subst (λ d. OnOk c.apply-in-File.result (HasApplied c.args.changes.now d (File c.apply-in-File.new.self))) (sym c.in-File.is) (on_ok _ c.apply-in-File.result c.apply-in-File.ensures.made)

pub returns-in-File-clause-err : goal.returns-in-File-clause-err
returns-in-File-clause-err c =
    subst (λ d. OnErr c.apply-in-File.result (HasStayed d (File c.apply-in-File.new.self))) (sym c.in-File.is) c.apply-in-File.ensures.err

pub returns-in-File-clause-failed : goal.returns-in-File-clause-failed
returns-in-File-clause-failed c is =
    subst (λ d. ApplyFails c.args.changes.now d (File c.apply-in-File.new.self)) (sym c.in-File.is) (λ clean. c.apply-in-File.ensures.failed clean is)
