-- How often a connection is answered that the keeper failed.
use Rattle.std.proofs.Common.{inl, inr}
use Rattle.std.specs.Prelude.{ℕ, ◌+◌, ◌-◌, ◌^◌, ◌≤◌, min, List, [], ◌∷◌, ◌++◌, length, Option}
use Rattle.wm_floor.specs.Floor.{Seen}
use Rattle.wm_floor.specs.declared.opened.Opened.{Opened}
use Rattle.wm_http.specs.declared.answer.Answer.{Answer}
use Rattle.wm_http.specs.declared.answer.Answer.TheVariants as of_answer
use Rattle.wm_web.specs.Ends.{Ends, IsSession}
use Rattle.wm_web.specs.Session.{Exchange}
use Rattle.wm_web.specs.declared.end.WebEnd.{WebEnd}
use Rattle.wm_web.specs.declared.end.WebEnd.TheVariants.{Done, CutShort, Budget, PowerDown, ReadFault, WriteFault, NoMemory}

-- how often an answer says so: once or not at all
abbrev pub keeper_faults : Answer → ℕ
keeper_faults (of_answer.Accepted place line) = 0
keeper_faults (of_answer.Listing lines) = 0
keeper_faults (of_answer.BadCommand line) = 0
keeper_faults of_answer.SeveralCommands = 0
keeper_faults (of_answer.BadRequest fault) = 0
keeper_faults of_answer.NoRoute = 0
keeper_faults (of_answer.WrongMethod method) = 0
keeper_faults (of_answer.Refused place line) = 0
keeper_faults (of_answer.RefusedRead line) = 0
keeper_faults of_answer.KeeperFault = 1
keeper_faults (of_answer.LogFull limit) = 0
keeper_faults of_answer.NoMemory = 0

-- a count that has risen so often, up to the greatest one
abbrev pub raised_by : ℕ → ℕ → ℕ
raised_by n count = min (count + n) (2 ^ 64 - 1)

module _ {K : Type 0} where
  -- how often answers say so
  abbrev pub faults_in : List (Exchange K) → ℕ
  faults_in [] = 0
  faults_in (e ∷ es) = keeper_faults e.answer + faults_in es

  -- the request with which a connection ended, where its answer was due
  abbrev pub last_of : (o : Opened K) (end : WebEnd) (left : Option (List ℕ)) (before : ℕ) (unread : List ℕ) (old new : Seen K) (due : List ℕ) (w0 w1 : Option (List ℕ)) → Ends o end left before unread old new due w0 w1 → List (Exchange K)
  last_of o Done left before unread old new due w0 w1 (inl stops) = []
  last_of o Done left before unread old new due w0 w1 (inr closes) = closes.last ∷ []
  last_of o CutShort left before unread old new due w0 w1 stops = []
  last_of o Budget left before unread old new due w0 w1 closes = closes.last ∷ []
  last_of o PowerDown left before unread old new due w0 w1 closes = closes.last ∷ []
  last_of o ReadFault left before unread old new due w0 w1 stops = []
  last_of o WriteFault left before unread old new due w0 w1 fails = fails.last ∷ []
  last_of o NoMemory left before unread old new due w0 w1 stops = []

  -- the keeper's fault is answered at most as often as the pass's mark rose
  abbrev pub FaultsAreCounted : (o : Opened K) (end : WebEnd) (taken : List ℕ) (left : Option (List ℕ)) (old new : Seen K) (w0 w1 : Option (List ℕ)) → IsSession o end taken left old new w0 w1 → Type 0
  FaultsAreCounted o end taken left old new w0 w1 s =
      raised_by (faults_in (s.served ++ last_of o end left (length s.served) s.unread s.mid new s.due w0 w1 s.ends)) old.mark ≤ new.mark
