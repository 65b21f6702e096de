use Rattle.std.proofs.Common.{sym}
use Rattle.wm_jobs.proofs.Restood.{job_waits, leaves-if, unwaiting}
use Rattle.wm_jobs.proofs.table.JobTable.found_waiting.Goals as goal

pub returns-in_default : goal.returns-in_default
returns-in_default c = leaves-if job_waits c.args.serial c.args.self.now.jobs c.in_default.ensures

pub returns-else-is_waiting : goal.returns-else-is_waiting
returns-else-is_waiting c = unwaiting c.args.self.now c.args.serial c.in-Some.found c.in-Some.ensures (sym c.if-is_waiting.ensures)
