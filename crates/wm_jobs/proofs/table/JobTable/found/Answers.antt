use Rattle.wm_jobs.specs.Table.{serial_of}
use Rattle.wm_jobs.proofs.Restood.{is-found}
use Rattle.wm_jobs.proofs.Splits.{gap-unchanged}
use Rattle.wm_jobs.proofs.table.JobTable.found.Goals as goal

pub returns-in_default : goal.returns-in_default
returns-in_default c = λ change.
    rw (← c.self.view_is) (gap-unchanged serial_of c.args.serial change c.self.inside.jobs.items c.deref.result.now c.in_default.field-0 c.deref.ensures.value c.in_default.ensures)

pub returns : goal.returns
returns c =
    is-found c.self.inside c.self.invariant.kept c.args.self.now c.self.view_is c.args.serial c.in-Ok.at c.index.result.now c.deref.result.now c.deref.ensures.value c.in-Ok.ensures c.index.ensures c.len.ensures.places c.standing_of-was.result c.standing_of-was.ensures
