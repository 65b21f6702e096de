-- The text of a stored job, and its row.
use Rattle.std.specs.Prelude.{ℕ, Bool, true, false, Option, Some, None, List, [], ◌++◌, codes}
use Rattle.std.specs.Fmt.{decimal}
use Rattle.wm_base.specs.declared.job.EndCause.{EndCause}
use Rattle.wm_base.specs.declared.job.EndCause.TheVariants.{Completed, Exited, Killed, Endjob, Endsbs, Endpj, Maxuse, NoRoute, RouteFull, BadRequest, NoProgram, StartFailed, Cleared, EndedOnQueue, Restarted}
use Rattle.wm_base.specs.declared.qname.QName.{QName}
use Rattle.wm_base.specs.EndCause.{end_cause_number}
use Rattle.wm_base.specs.Number.{zero_padded}
use Rattle.wm_base.specs.QName.{qname_text}
use Rattle.wm_clwords.specs.Quote.{quoted}
use Rattle.wm_law.specs.declared.job.JobKind.{JobKind}
use Rattle.wm_law.specs.declared.job.JobKind.TheVariants.{Bch, Asj, Pj}
use Rattle.wm_traits.specs.declared.row.Row.{Row}
use Rattle.wm_rows.specs.declared.stored_job.StoredJob.{StoredJob}
use Rattle.wm_rows.specs.declared.stored_job.StoredPhase.{StoredPhase}
use Rattle.wm_rows.specs.declared.stored_job.StoredPhase.TheVariants.{Waiting, Active, Ended}

-- ` KEY(VALUE)`
abbrev pub field : List ℕ → List ℕ → List ℕ
field key value = codes " " ++ key ++ codes "(" ++ value ++ codes ")"

abbrev pub kind_word : JobKind → List ℕ
kind_word Bch = codes "BCH"
kind_word Asj = codes "ASJ"
kind_word Pj = codes "PJ"

abbrev pub held_word : Bool → List ℕ
held_word true = codes "*YES"
held_word false = codes "*NO"

-- the queue's qualified name, or that there is none
abbrev pub jobq_text : Option QName → List ℕ
jobq_text None = codes "*NONE"
jobq_text (Some q) = qname_text q

-- the request in apostrophes, or that there is none
abbrev pub request_text : Option (List ℕ) → List ℕ
request_text None = codes "*NONE"
request_text (Some text) = quoted text

-- the exit code, or the number of the routing entry that was full, after a blank
abbrev pub value_text : EndCause → List ℕ
value_text Completed = []
value_text (Exited code) = codes " " ++ decimal code
value_text Killed = []
value_text Endjob = []
value_text Endsbs = []
value_text Endpj = []
value_text Maxuse = []
value_text NoRoute = []
value_text (RouteFull seq) = codes " " ++ decimal seq
value_text BadRequest = []
value_text NoProgram = []
value_text (StartFailed cause) = []
value_text Cleared = []
value_text EndedOnQueue = []
value_text Restarted = []

-- the cause's number, and its value
abbrev pub cause_text : EndCause → List ℕ
cause_text cause = decimal (end_cause_number cause) ++ value_text cause

abbrev pub phase_text : StoredPhase → List ℕ
phase_text Waiting = codes "WAITING"
phase_text Active = codes "ACTIVE"
phase_text (Ended cause) = codes "ENDED " ++ cause_text cause

-- how the job is named
abbrev pub name_fields : StoredJob → List ℕ
name_fields job =
    field (codes "SERIAL") (decimal job.serial) ++ field (codes "NUMBER") (decimal job.number)
    ++ field (codes "USER") job.user ++ field (codes "NAME") job.name

-- its kind, and where it stands on which queue
abbrev pub queue_fields : StoredJob → List ℕ
queue_fields job =
    field (codes "TYPE") (kind_word job.kind) ++ field (codes "JOBQ") (jobq_text job.jobq)
    ++ field (codes "JOBPTY") (decimal job.pty) ++ field (codes "PLACE") (decimal job.place)

-- what it is to do
abbrev pub data_fields : StoredJob → List ℕ
data_fields job = field (codes "RTGDTA") (quoted job.rtgdta) ++ field (codes "RQSDTA") (request_text job.rqsdta)

-- how it stands
abbrev pub state_fields : StoredJob → List ℕ
state_fields job =
    field (codes "HOLD") (held_word job.held) ++ field (codes "DUE") (decimal job.due)
    ++ field (codes "PHASE") (phase_text job.phase)

-- the text of a stored job: JOB, and each key with its value, one blank between
unfoldable pub job_text : StoredJob → List ℕ
job_text job = codes "JOB" ++ name_fields job ++ queue_fields job ++ data_fields job ++ state_fields job

-- its row: table 11, the serial in 20 digits, and the text
abbrev pub job_row : StoredJob → Row
job_row job = record { tab = 11; key = zero_padded 20 job.serial; body = job_text job }
