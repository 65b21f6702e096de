use Rattle.std.proofs.Common.{sym, subst, IfOk}
use Rattle.sqlite.proofs.Callers.{memory_is_clean}
use Rattle.wm_sqlkeep.specs.declared.opened.OpenedKeeper.TheVariants.{Memory, File}
use Rattle.wm_sqlkeep.specs.Opened.{HasLoaded, LoadFails}
use Rattle.wm_sqlkeep.proofs.Answered.{if_ok}
use Rattle.wm_sqlkeep.proofs.opened.OpenedKeeperKeeper.load.Goals as goal

pub returns-in-Memory-clause-given : goal.returns-in-Memory-clause-given
returns-in-Memory-clause-given c =
    subst (λ d. IfOk c.load.result (λ rows. HasLoaded rows.items d (Memory c.load.new.self))) (sym c.in-Memory.is) (c.load.ensures.given (memory_is_clean c.load.new.self.connection))

pub returns-in-Memory-clause-failed : goal.returns-in-Memory-clause-failed
returns-in-Memory-clause-failed c is =
    subst (λ d. LoadFails d (Memory c.load.new.self)) (sym c.in-Memory.is) (c.load.ensures.failed (memory_is_clean c.load.new.self.connection) is)

pub returns-in-File-clause-given : goal.returns-in-File-clause-given
returns-in-File-clause-given c =
    subst (λ d. IfOk c.load-in-File.result (λ rows. HasLoaded rows.items d (File c.load-in-File.new.self))) (sym c.in-File.is) (if_ok _ c.load-in-File.result c.load-in-File.ensures.given)

pub returns-in-File-clause-failed : goal.returns-in-File-clause-failed
returns-in-File-clause-failed c is =
    subst (λ d. LoadFails d (File c.load-in-File.new.self)) (sym c.in-File.is) (λ clean. c.load-in-File.ensures.failed clean is)
