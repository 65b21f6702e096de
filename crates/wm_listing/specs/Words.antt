-- The words of what is shown.
use Rattle.std.specs.Prelude.{ℕ, Bool, List, ◌++◌, Option, Some, None, codes, if◌then◌else◌}
use Rattle.wm_base.specs.EndCause.{end_cause_text}
use Rattle.wm_base.specs.QName.{qname_text}
use Rattle.wm_base.specs.declared.qname.QName.{QName}
use Rattle.wm_law.specs.declared.job.JobKind.{JobKind}
use Rattle.wm_law.specs.declared.job.JobKind.TheVariants.{Bch, Asj, Pj}
use Rattle.wm_views.specs.declared.shown.Status.{Status}
use Rattle.wm_views.specs.declared.shown.Status.TheVariants.{Hld, Scd, Rls, End, Start, Psrw, Active, Ended}

-- an ended job's status has its cause behind the word
abbrev pub status_text : Status → List ℕ
status_text Hld = codes "HLD"
status_text Scd = codes "SCD"
status_text Rls = codes "RLS"
status_text End = codes "END"
status_text Start = codes "START"
status_text Psrw = codes "PSRW"
status_text Active = codes "ACTIVE"
status_text (Ended cause) = codes "ENDED " ++ end_cause_text cause

abbrev pub kind_word : JobKind → List ℕ
kind_word Bch = codes "BCH"
kind_word Asj = codes "ASJ"
kind_word Pj = codes "PJ"

-- whether a subsystem is ending
abbrev pub ending_word : Bool → List ℕ
ending_word ending = if ending then codes "END" else codes "ACTIVE"

-- whether a queue is held
abbrev pub held_word : Bool → List ℕ
held_word held = if held then codes "HLD" else codes "RLS"

abbrev pub jobq_text : Option QName → List ℕ
jobq_text None = codes "*NONE"
jobq_text (Some jobq) = qname_text jobq
