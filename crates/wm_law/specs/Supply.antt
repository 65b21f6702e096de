-- Settling's third part: waiting requests go to idle prestart jobs, and entries get the jobs that they lack; and STRSBS's first prestart jobs.
use Rattle.std.specs.Prelude.{not, List, [], ◌∷◌, Option, Some, None, filter, fold, map, if◌then◌else◌}
use Rattle.std.specs.Option.{option_map_or}
use Rattle.std.specs.Ordering.{nat_cmp, is_lt}
use Rattle.std.specs.Cmp.Lexicographic.{slice_cmp}
use Rattle.wm_base.specs.declared.qname.QName.{QName}
use Rattle.wm_desc.specs.declared.description.Sbsd.{Sbsd}
use Rattle.wm_desc.specs.declared.entry.PreEntry.{PreEntry}
use Rattle.wm_desc.specs.Table.{object_named}
use Rattle.wm_law.specs.declared.state.Sbs.{Sbs}
use Rattle.wm_law.specs.declared.state.State.{State}
use Rattle.wm_law.specs.declared.state.Stop.{Stop}
use Rattle.wm_law.specs.Choice.{is_sbs_active}
use Rattle.wm_law.specs.Prestart.{assigned, make_pres, replenished, room}

-- the names with one more, before the first that doesn't come before it in the order of simple names
abbrev pub inserted : QName → List QName → List QName
inserted q [] = q ∷ []
inserted q (r ∷ rs) = if is_lt (slice_cmp nat_cmp r.name q.name) then r ∷ inserted q rs else q ∷ r ∷ rs

-- the names of subsystems, in the order of their simple names
abbrev pub in_order : List Sbs → List QName
in_order [] = []
in_order (b ∷ bs) = inserted b.sbsd (in_order bs)

-- requests that wait for the entry go to its idle jobs, and then it gets the jobs that it lacks
abbrev pub supply_entry : QName → Sbsd → State → PreEntry → State
supply_entry sbs d s e = replenished (assigned s sbs e.pgm) sbs d e

-- the same for each prestart entry of a description, where there is one
abbrev pub supply_with : QName → State → Option Sbsd → State
supply_with sbs s None = s
supply_with sbs s (Some d) = fold (supply_entry sbs d) s d.pres

-- the same for each prestart entry of a subsystem
abbrev pub supply_in : State → QName → State
supply_in s sbs = supply_with sbs s (object_named sbs s.objects.sbsds)

-- the same for each Active subsystem, in the order of their simple names
abbrev pub supply : State → State
supply s = fold supply_in s (in_order (filter (λ b. is_sbs_active b.phase) s.started))

-- the prestart entries of a subsystem, in the order of their programs
abbrev pub pres_of : State → QName → List PreEntry
pres_of s sbs = option_map_or (λ d. d.pres) (object_named sbs s.objects.sbsds) []

-- the entries of a subsystem that are stopped as it starts: those with STRJOBS(*NO)
abbrev pub first_stops : State → QName → List Stop
first_stops s sbs = map (λ e. record { sbs = sbs; pgm = e.pgm }) (filter (λ e. not e.strjobs) (pres_of s sbs))

-- the state with the first jobs of an entry: INLJOBS of them, where it has STRJOBS(*YES) and there is room
abbrev pub make_first : QName → Sbsd → State → PreEntry → State
make_first sbs d s e = if e.strjobs then make_pres sbs e.pgm (room s sbs d e e.inljobs) s else s

-- the state with the first jobs of each prestart entry of a description, where there is one
abbrev pub make_firsts_with : QName → State → Option Sbsd → State
make_firsts_with sbs s None = s
make_firsts_with sbs s (Some d) = fold (make_first sbs d) s d.pres

-- the state with the first prestart jobs of a subsystem
abbrev pub make_firsts : QName → State → State
make_firsts sbs s = make_firsts_with sbs s (object_named sbs s.objects.sbsds)
