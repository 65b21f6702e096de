use Rattle.wm_base.proofs.Names.{IsNameInside-of}
use Rattle.wm_base.proofs.name.Name.of.Goals as goal

pub invariant_of-result : goal.invariant_of-result
invariant_of-result c = rw c.copy_from_slice.ensures.after (IsNameInside-of _ c.requires)
