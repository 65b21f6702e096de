-- Which subsystems are gone, by the counts of active jobs.
use Rattle.std.specs.Prelude.{Bool, ◌&&◌, ◌==◌, List}
use Rattle.std.specs.List.{list_any}
use Rattle.wm_base.specs.declared.qname.QName.{QName}
use Rattle.wm_desc.specs.Table.{same_qname}
use Rattle.wm_law.specs.declared.state.Sbs.{Sbs}
use Rattle.wm_law.specs.Settling.{is_ending}
use Rattle.wm_pick.specs.declared.counted.Counted.TheVariants as key
use Rattle.wm_pick.specs.Tally.{Counts, count_of}

-- an ending subsystem with no active job is gone
abbrev pub is_gone_by : Counts → Sbs → Bool
is_gone_by tally b = is_ending b.phase && count_of (key.Sbs b.sbsd) tally == 0

-- a subsystem of the name is gone
abbrev pub is_any_gone : Counts → List Sbs → QName → Bool
is_any_gone tally started q = list_any (λ b. is_gone_by tally b && same_qname b.sbsd q) started
