-- Histories that grow: where one begins, what it has grown by, and how much of one the session has seen.
use Rattle.std.specs.Prelude.{List, [], ◌++◌}
use Rattle.wm_floor.specs.History.{History}
use Rattle.wm_law.specs.declared.call.Entry.{Entry}
use Rattle.wm_law.specs.declared.state.State.{State}
use Rattle.wm_floor.specs.Lists.{since}
use Rattle.wm_floor.specs.Ledger.{behind}
use Rattle.wm_run.specs.declared.running.Run.{Run}

-- the history of a state that was opened, which has no entry
abbrev pub at_opening : State → History
at_opening opened = record { opened = opened; log = [] }

-- the history with more entries
abbrev pub grown : History → List Entry → History
grown h es = record { opened = h.opened; log = h.log ++ es }

-- the entries that a history has grown by
abbrev pub entries_between : History → History → List Entry
entries_between old new = since old.log new.log

-- what of the history the session of a run has seen
abbrev pub session_of : {K : Type 0} → Run K → History
session_of r = behind r.floor.opening r.session.seen

-- the entries that the session has seen since
abbrev pub seen_since : {K : Type 0} → Run K → Run K → List Entry
seen_since old new = since old.session.seen new.session.seen
