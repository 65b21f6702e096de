use Rattle.std.proofs.Common.{◌≡◌, ◌-◌, ◌≤◌}
use Rattle.wm_law.specs.Prestart.{make_pres}
use Rattle.wm_law.specs.Submitting.{numbers_left}
use Rattle.wm_core.specs.Aside.{aside_of}
use Rattle.wm_core.proofs.machine.Machine.make_pres.Given as goal

-- the jobs that are left to be made come to those that were to be made, and there are numbers for them
abbrev pub invariant-loop-made : goal.invariant-loop-made
invariant-loop-made l = record {
  left : make_pres l.sbs l.pgm (l.jobs - l._made) l.self.state ≡ make_pres l.sbs l.pgm l.jobs l.fn.self.state;
  numbers : l.jobs - l._made ≤ numbers_left l.self.state;
  aside : aside_of l.self.state ≡ aside_of l.fn.self.state;
  marks : l.self.marks ≡ l.fn.self.marks;
}
