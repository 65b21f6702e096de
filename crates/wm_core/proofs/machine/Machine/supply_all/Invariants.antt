use Rattle.std.proofs.Common.{◌≡◌, drop, fold}
use Rattle.wm_law.specs.Supply.{supply_in}
use Rattle.wm_core.specs.Aside.{aside_of}
use Rattle.wm_core.proofs.machine.Machine.supply_all.Given as goal

-- the subsystems that are left come to what all come to from the beginning
abbrev pub invariant-loop-sbs : goal.invariant-loop-sbs
invariant-loop-sbs l = record {
  left : fold supply_in l.self.state (drop l.sbs-index l.names) ≡ fold supply_in l.fn.self.state l.names;
  aside : aside_of l.self.state ≡ aside_of l.fn.self.state;
  marks : l.self.marks ≡ l.fn.self.marks;
}
