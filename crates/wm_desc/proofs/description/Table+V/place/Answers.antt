use mathlib.Core.Bool.{false≢true}
use Rattle.wm_desc.proofs.Tables.{stands_at, unnamed}
use Rattle.wm_desc.proofs.description.Table+V.place.Goals as goal

pub unreachable-requires : goal.unreachable-requires
unreachable-requires g c = absurd (false≢true (rw (unnamed c.args.name.now c.args.self.now c.in_default.field-0 c.in_default.ensures) at c.requires))

pub returns : goal.returns
returns g c = stands_at c.args.name.now c.args.self.now c.in-Ok.at c.in-Ok.ensures
