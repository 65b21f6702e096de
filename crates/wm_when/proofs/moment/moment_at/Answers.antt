use Rattle.std.proofs.Common.{arith}
use Rattle.jiff_core.proofs.SignedLemmas.{signed_arith}
use Rattle.wm_when.proofs.moment.moment_at.Goals as goal

pub returns : goal.returns
returns c = omega (arith, signed_arith)
