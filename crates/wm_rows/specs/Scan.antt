-- What texts in apostrophes say, and a job by where its values stand.
use Rattle.std.specs.Prelude.{ℕ, ◌+◌, ◌==◌, true, false, Option, Some, None, List, [], ◌∷◌, ◌++◌, drop, fold, if◌then◌else◌}
use Rattle.std.specs.List.{list_all}
use Rattle.wm_base.specs.Text.{is_printable}
use Rattle.wm_rows.specs.declared.line.Names.{Names}
use Rattle.wm_rows.specs.declared.line.Queueing.{Queueing}
use Rattle.wm_rows.specs.declared.line.Standing.{Standing}
use Rattle.wm_rows.specs.declared.line.Requested.{Requested}
use Rattle.wm_rows.specs.declared.scan.Scan.{Scan}
use Rattle.wm_rows.specs.declared.scan.Quoted.{Quoted}
use Rattle.wm_rows.specs.declared.stored_job.StoredJob.{StoredJob}
use Rattle.wm_rows.specs.Reading.{behind, behind_four, names_of, queueing_of, state_of}

abbrev pub begun : Scan
begun = record { text = []; quote = false; ended = false; len = 0 }

-- an apostrophe, behind another byte
abbrev pub opened : Scan → Scan
opened s = record s { quote = true; len = s.len + 1 }

-- one byte more of the text
abbrev pub pushed : Scan → ℕ → Scan
pushed s byte = record s { text = s.text ++ byte ∷ []; quote = false; len = s.len + 1 }

abbrev pub ended : Scan → Scan
ended s = record s { ended = true }

-- one byte more: two apostrophes are one of the text, and one alone is its end
abbrev pub scanned : Scan → ℕ → Scan
scanned s byte =
    if s.ended then s
    else if byte == 39 then (if s.quote then pushed s byte else opened s)
    else if s.quote then ended s
    else pushed s byte

abbrev pub quoted_by : Scan → Option Quoted
quoted_by s = if list_all is_printable s.text then Some (record { text = s.text; len = s.len }) else None

-- the text that stands from behind its first apostrophe on
unfoldable pub quoted_of : List ℕ → Option Quoted
quoted_of text = quoted_by (fold scanned begun text)

abbrev pub request_by : Option Quoted → Option Requested
request_by None = None
request_by (Some q) = Some (record { text = Some q.text; len = q.len + 1 })

abbrev pub no_request : Requested
no_request = record { text = None; len = 0 }

-- what begins with an apostrophe is a request, anything else none
abbrev pub request_of : List ℕ → Option Requested
request_of [] = Some no_request
request_of (byte ∷ inside) = if byte == 39 then request_by (quoted_of inside) else Some no_request

-- the job, where all its parts are there
abbrev pub whole : Option Names → Option Queueing → Option Standing → List ℕ → Option (List ℕ) → Option StoredJob
whole None queueing state rtgdta rqsdta = None
whole (Some names) None state rtgdta rqsdta = None
whole (Some names) (Some queueing) None rtgdta rqsdta = None
whole (Some names) (Some queueing) (Some state) rtgdta rqsdta =
    Some (record {
      serial = names.serial;
      number = names.number;
      user = names.user;
      name = names.name;
      kind = queueing.kind;
      jobq = queueing.jobq;
      pty = queueing.pty;
      place = queueing.place;
      rtgdta = rtgdta;
      rqsdta = rqsdta;
      held = state.held;
      due = state.due;
      phase = state.phase;
    })

-- the job of a text that has this request, where the request stands first in the tail
abbrev pub text_tail : List ℕ → List ℕ → Option Requested → List ℕ → Option StoredJob
text_tail text rtgdta None tail = None
text_tail text rtgdta (Some request) tail =
    whole (names_of text) (queueing_of (behind_four text)) (state_of (drop request.len tail)) rtgdta request.text

-- the same, with this routing data, which stands first in what is inside
abbrev pub text_data : List ℕ → Option Quoted → List ℕ → Option StoredJob
text_data text None inside = None
text_data text (Some q) inside =
    let tail = behind 40 (drop q.len inside) in text_tail text q.text (request_of tail) tail

-- the job whose text this would be
unfoldable pub read_text : List ℕ → Option StoredJob
read_text text = let inside = behind 39 (behind_four (behind_four text)) in text_data text (quoted_of inside) inside
