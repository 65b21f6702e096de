use Rattle.std.proofs.Common.{◌≡◌, length}
use Rattle.wm_law.specs.Prestart.{assigned}
use Rattle.wm_core.specs.Aside.{aside_of}
use Rattle.wm_core.proofs.machine.Machine.assign_all.Given as goal

-- what is left to give out is what was to be given out from the beginning
abbrev pub invariant-loop-serial : goal.invariant-loop-serial
invariant-loop-serial l = record {
  left : assigned l.self.state l.sbs l.pgm ≡ assigned l.fn.self.state l.sbs l.pgm;
  aside : aside_of l.self.state ≡ aside_of l.fn.self.state;
  marks : l.self.marks ≡ l.fn.self.marks;
}

abbrev pub decreases-loop-serial : goal.decreases-loop-serial
decreases-loop-serial l = length l.self.state.evokes
