-- Laws of histories that grow.
use Rattle.std.proofs.Common.{◌≡◌, List, [], ◌++◌, sym, ap, ◌∙◌, append_assoc}
use Rattle.std.proofs.Math.Seq.{drop-length}
use Rattle.std.proofs.lemmas.List.{append-nil}
use Rattle.wm_law.specs.declared.call.Entry.{Entry}
use Rattle.wm_law.specs.declared.state.State.{State}
use Rattle.wm_floor.specs.History.{History}
use Rattle.wm_floor.specs.Floor.{Floored}
use Rattle.wm_floor.specs.Ledger.{behind}
use Rattle.wm_turn.specs.Passed.{StartsWith}
use Rattle.wm_floor.proofs.MonitorPasses.{Extends-by}
use Rattle.wm_run.specs.Grown.{grown, entries_between, session_of}
use Rattle.wm_run.specs.declared.running.Run.{Run}
use Rattle.wm_floor.specs.Lists.{Extends}
use Rattle.wm_floor.proofs.Lists.{since-then, Extends-then}

-- a history goes on from another: it was opened with the same state, and has its entries in front
pub record Continues (old new : History) : Type 0 where
  pub opened : new.opened ≡ old.opened
  pub log : Extends old.log new.log

pub Continues-then : (a b c : History) → Continues a b → Continues b c → Continues a c
Continues-then a b c ab bc = record { opened = bc.opened ∙ ab.opened; log = Extends-then a.log b.log c.log ab.log bc.log }

-- what the session has seen goes on, where the floor is the same
pub goes_on : {K : Type 0} (old new : Run K) → new.floor ≡ old.floor → Extends old.session.seen new.session.seen → Continues (session_of old) (session_of new)
goes_on {K} old new same seen = record { opened = ap (λ (f : Floored K). f.opening.state) same; log = seen }

-- and so does the whole history behind it
pub to_whole : {K : Type 0} (a r : Run K) (log : List Entry) → r.floor ≡ a.floor → StartsWith log r.session.seen → Continues (session_of r) (behind a.floor.opening log)
to_whole {K} a r log same begins = record { opened = ap (λ (f : Floored K). f.opening.state) (sym same); log = Extends-by r.session.seen log begins.0 begins.1 }

pub grown-none : (h : History) → grown h [] ≡ h
grown-none h = ap (λ (l : List Entry). record { opened = h.opened; log = l }) (append-nil h.log)

pub grown-then : (h : History) (es fs : List Entry) → grown (grown h es) fs ≡ grown h (es ++ fs)
grown-then h es fs = ap (λ (l : List Entry). record { opened = h.opened; log = l }) (append_assoc h.log es fs)

-- with the entries that it has grown by it is the new one
pub grown-between : (old new : History) → Continues old new → grown old (entries_between old new) ≡ new
grown-between old new h =
    let log : grown old (entries_between old new) ≡ record { opened = old.opened; log = new.log } = ap (λ (l : List Entry). record { opened = old.opened; log = l }) (sym h.log) in
    let opened : record { opened = old.opened; log = new.log } ≡ new = ap (λ (s : State). record { opened = s; log = new.log }) (sym h.opened) in
    log ∙ opened

-- the entries of two parts, one after the other
pub entries-then : (a b c : History) → Continues a b → Continues b c → entries_between a c ≡ entries_between a b ++ entries_between b c
entries-then a b c ab bc = since-then a.log b.log c.log ab.log bc.log

-- nothing has none
pub entries-none : (h : History) → entries_between h h ≡ []
entries-none h = drop-length h.log
