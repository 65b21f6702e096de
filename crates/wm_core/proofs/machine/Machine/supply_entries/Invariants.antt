use Rattle.std.proofs.Common.{◌≡◌, drop, fold}
use Rattle.wm_desc.specs.declared.description.Sbsd.{Sbsd}
use Rattle.wm_law.specs.Supply.{supply_entry}
use Rattle.wm_core.specs.Aside.{aside_of}
use Rattle.wm_core.proofs.machine.Machine.supply_entries.Given as goal

-- the entries that are left come to what all come to from the beginning
abbrev pub invariant-loop-entry : goal.invariant-loop-entry
invariant-loop-entry l = record {
  left : (d : Sbsd) → d.maxjobs ≡ l.maxjobs → fold (supply_entry l.sbs d) l.self.state (drop l.entry-index l.entries) ≡ fold (supply_entry l.sbs d) l.fn.self.state l.entries;
  aside : aside_of l.self.state ≡ aside_of l.fn.self.state;
  marks : l.self.marks ≡ l.fn.self.marks;
}
