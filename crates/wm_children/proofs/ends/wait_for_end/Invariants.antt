use Rattle.std.proofs.Common.{◌≡◌, true}
use Rattle.std.specs.Prelude.{is_some}
use Rattle.wm_children.proofs.ends.wait_for_end.Given as goal

-- a ring that was kept at the beginning is kept
abbrev pub invariant-loop : goal.invariant-loop
invariant-loop g l = is_some l.fn.met ≡ true → is_some l.met ≡ true
