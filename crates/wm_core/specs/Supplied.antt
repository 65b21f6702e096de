-- What a prestart entry comes to as its subsystem starts.
use Rattle.std.specs.Prelude.{List, [], ◌∷◌, if◌then◌else◌}
use Rattle.wm_base.specs.declared.qname.QName.{QName}
use Rattle.wm_desc.specs.declared.entry.PreEntry.{PreEntry}
use Rattle.wm_law.specs.declared.state.Stop.{Stop}

-- the entry's stop as its subsystem starts, where it has STRJOBS(*NO)
abbrev pub stop_unless_started : QName → PreEntry → List Stop
stop_unless_started sbs e = if e.strjobs then [] else record { sbs = sbs; pgm = e.pgm } ∷ []
