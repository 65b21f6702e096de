use Rattle.std.proofs.Common.{arith, refl, rules}
use Rattle.wm_serve.proofs.Counts.{dry_later, failed_later}
use Rattle.wm_serve.proofs.threads.serve_desk.Goals as goal

pub returns-clause-serves : goal.returns-clause-serves
returns-clause-serves g c =
    let w = c.work.ensures in
    record {
      from = c.in-Some.pass;
      to = c.work.new.pass;
      had = search rules;
      has = refl;
      same = search rules;
      served = search rules;
      commands = search rules;
      dries = dry_later c.work.result _ _ w.dry w.not_dry;
      dry = λ is. (let d = w.dry is in omega arith);
      looks = failed_later c.work.result _ _ w.failed w.not_failed;
      failed = w.failed;
    }
