-- Where the values stand in a text that is taken for that of a job, and what they say.
use Rattle.std.specs.Prelude.{ℕ, ◌+◌, ◌-◌, ◌*◌, ◌^◌, ◌==◌, ◌&&◌, not, nat_le, nat_lt, nat_eq, Bool, Option, Some, None, List, length, take, drop, take_while, find, fold, if◌then◌else◌, codes}
use Rattle.std.specs.Cmp.Lexicographic.{pointwise}
use Rattle.wm_base.specs.declared.job.EndCause.{EndCause}
use Rattle.wm_base.specs.declared.job.EndCause.TheVariants.{Exited, RouteFull}
use Rattle.wm_base.specs.declared.qname.QName.{QName}
use Rattle.wm_base.specs.EndCause.{end_cause_number}
use Rattle.wm_base.specs.Name.{name_of}
use Rattle.wm_base.specs.Number.{is_digit}
use Rattle.wm_law.specs.declared.job.JobKind.{JobKind}
use Rattle.wm_law.specs.declared.job.JobKind.TheVariants.{Bch, Asj, Pj}
use Rattle.wm_rows.specs.declared.line.Names.{Names}
use Rattle.wm_rows.specs.declared.line.Queueing.{Queueing}
use Rattle.wm_rows.specs.declared.line.Standing.{Standing}
use Rattle.wm_rows.specs.declared.stored_job.StoredPhase.{StoredPhase}
use Rattle.wm_rows.specs.declared.stored_job.StoredPhase.TheVariants.{Waiting, Active, Ended}
use Rattle.wm_rows.specs.declared.values.TheConstants.{PLAIN}

-- Where values stand

abbrev pub is_other : ℕ → ℕ → Bool
is_other byte other = not (other == byte)

-- what stands before the first such byte, or all of the text
abbrev pub before : ℕ → List ℕ → List ℕ
before byte text = take (length (take_while (is_other byte) text)) text

-- what stands behind it, or nothing
abbrev pub behind : ℕ → List ℕ → List ℕ
behind byte text = drop (length (take_while (is_other byte) text) + 1) text

-- the value in the first parentheses
abbrev pub value : List ℕ → List ℕ
value text = before 41 (behind 40 text)

-- what stands behind them
abbrev pub rest : List ℕ → List ℕ
rest text = behind 41 (behind 40 text)

-- what stands behind the first four
abbrev pub behind_four : List ℕ → List ℕ
behind_four text = rest (rest (rest (rest text)))

-- Numbers

-- one digit more, where the number keeps 64 bits
abbrev pub push_digit : Option ℕ → ℕ → Option ℕ
push_digit None byte = None
push_digit (Some n) byte = if is_digit byte && nat_lt (n * 10 + (byte - 48)) (2 ^ 64) then Some (n * 10 + (byte - 48)) else None

-- the number that digits write
unfoldable pub number_of : List ℕ → Option ℕ
number_of text = fold push_digit (Some 0) text

abbrev pub within : ℕ → ℕ → ℕ → Bool
within low high n = nat_le low n && nat_le n high

-- a number from low to high
abbrev pub kept : ℕ → ℕ → Option ℕ → Option ℕ
kept low high None = None
kept low high (Some n) = if within low high n then Some n else None

-- Names and words

abbrev pub same : List ℕ → List ℕ → Bool
same text word = pointwise nat_eq text word

abbrev pub qname_with : Option (List ℕ) → Option (List ℕ) → Option QName
qname_with None name = None
qname_with (Some lib) None = None
qname_with (Some lib) (Some name) = Some (record { lib = lib; name = name })

abbrev pub some_queue : Option QName → Option (Option QName)
some_queue None = None
some_queue (Some queue) = Some (Some queue)

-- the queue, or that there is none
abbrev pub jobq_of : List ℕ → Option (Option QName)
jobq_of text =
    if same text (codes "*NONE") then Some None
    else some_queue (qname_with (name_of (before 47 text)) (name_of (behind 47 text)))

abbrev pub kind_of : List ℕ → JobKind
kind_of text = if same text (codes "BCH") then Bch else if same text (codes "ASJ") then Asj else Pj

-- Phases

abbrev pub exited : Option ℕ → Option EndCause
exited None = None
exited (Some code) = Some (Exited code)

abbrev pub route_full : Option ℕ → Option EndCause
route_full None = None
route_full (Some seq) = Some (RouteFull seq)

-- the cause of that number, among those that have no value
abbrev pub plain_cause : ℕ → Option EndCause
plain_cause number = find (λ cause. end_cause_number cause == number) PLAIN

abbrev pub cause_by : ℕ → Option ℕ → Option EndCause
cause_by number value =
    if number == 2 then exited (kept 0 255 value)
    else if number == 9 then route_full (kept 1 9999 value)
    else plain_cause number

abbrev pub cause_of : Option ℕ → Option ℕ → Option EndCause
cause_of None value = None
cause_of (Some number) value = cause_by number value

abbrev pub phase_by : Option EndCause → Option StoredPhase
phase_by None = None
phase_by (Some cause) = Some (Ended cause)

-- a cause's number, and its value behind a blank
abbrev pub ended_of : List ℕ → Option StoredPhase
ended_of text = phase_by (cause_of (number_of (before 32 text)) (number_of (behind 32 text)))

abbrev pub phase_of : List ℕ → Option StoredPhase
phase_of text =
    if same text (codes "WAITING") then Some Waiting
    else if same text (codes "ACTIVE") then Some Active
    else ended_of (behind 32 text)

-- Fields

abbrev pub names_with : Option ℕ → Option ℕ → Option (List ℕ) → Option (List ℕ) → Option Names
names_with None number user name = None
names_with (Some serial) None user name = None
names_with (Some serial) (Some number) None name = None
names_with (Some serial) (Some number) (Some user) None = None
names_with (Some serial) (Some number) (Some user) (Some name) = Some (record { serial = serial; number = number; user = user; name = name })

-- how the job is named, by the first four values
unfoldable pub names_of : List ℕ → Option Names
names_of text =
    names_with (number_of (value text)) (kept 1 999999 (number_of (value (rest text))))
    (name_of (value (rest (rest text)))) (name_of (value (rest (rest (rest text)))))

abbrev pub queueing_with : JobKind → Option (Option QName) → Option ℕ → Option ℕ → Option Queueing
queueing_with kind None pty place = None
queueing_with kind (Some jobq) None place = None
queueing_with kind (Some jobq) (Some pty) None = None
queueing_with kind (Some jobq) (Some pty) (Some place) = Some (record { kind = kind; jobq = jobq; pty = pty; place = place })

-- its kind, and where it stands on which queue
unfoldable pub queueing_of : List ℕ → Option Queueing
queueing_of text =
    queueing_with (kind_of (value text)) (jobq_of (value (rest text)))
    (kept 1 9 (number_of (value (rest (rest text))))) (number_of (value (rest (rest (rest text)))))

abbrev pub state_with : Bool → Option ℕ → Option StoredPhase → Option Standing
state_with held None phase = None
state_with held (Some due) None = None
state_with held (Some due) (Some phase) = Some (record { held = held; due = due; phase = phase })

-- how it stands
unfoldable pub state_of : List ℕ → Option Standing
state_of text =
    state_with (same (value text) (codes "*YES")) (kept 0 253402214399 (number_of (value (rest text))))
    (phase_of (value (rest (rest text))))
