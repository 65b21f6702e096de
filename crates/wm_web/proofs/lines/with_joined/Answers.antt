use Rattle.wm_web.proofs.BodyLines.{adds_at_none}
use Rattle.wm_web.proofs.lines.with_joined.Goals as goal

pub returns-in_default-clause-adds : goal.returns-in_default-clause-adds
returns-in_default-clause-adds c = adds_at_none c.args.user.now c.args.line c.args.joiner.now c.args.body c.in_default.is
