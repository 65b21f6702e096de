use Rattle.std.proofs.Common.{sym}
use Rattle.wm_jobs.proofs.Restood.{job_acts, leaves-if, inactive}
use Rattle.wm_jobs.proofs.table.JobTable.found_active.Goals as goal

pub returns-in_default : goal.returns-in_default
returns-in_default c = leaves-if job_acts c.args.serial c.args.self.now.jobs c.in_default.ensures

pub returns-else-is_active : goal.returns-else-is_active
returns-else-is_active c = inactive c.args.self.now c.args.serial c.in-Some.found c.in-Some.ensures (sym c.if-is_active.ensures)
