-- The numbers, words and values of refusals.
use Rattle.std.specs.Prelude.{ℕ, List, [], ◌++◌, codes}
use Rattle.std.specs.Fmt.{decimal}
use Rattle.wm_base.specs.declared.refusal.Refusal.{Refusal}
use Rattle.wm_base.specs.declared.refusal.Refusal.TheVariants.{Exists, NoObject, SeqUsed, AnyNotLast, SbsActive, SbsNotActive, AlreadyActive, AlreadyEnding, NoJob, WrongPhase, Past, NumbersUsed, TableFull, BadRelation, EntryStopped, NoneAvailable, PoweringDown, Ambiguous, HeldAlready, WaitListFull, NotHeld, OutOfRange, NotInUse}
use Rattle.wm_base.specs.Number.{zero_padded}
use Rattle.wm_base.specs.Kind.{kind_word}
use Rattle.wm_base.specs.Key.{key_word}
use Rattle.wm_base.specs.PhaseWord.{phase_word}

abbrev pub refusal_number : Refusal → ℕ
refusal_number (Exists kind) = 1
refusal_number (NoObject kind) = 2
refusal_number SeqUsed = 3
refusal_number AnyNotLast = 4
refusal_number SbsActive = 5
refusal_number SbsNotActive = 6
refusal_number AlreadyActive = 7
refusal_number AlreadyEnding = 8
refusal_number NoJob = 9
refusal_number (WrongPhase phase) = 10
refusal_number Past = 11
refusal_number NumbersUsed = 12
refusal_number (TableFull kind most) = 13
refusal_number (BadRelation key other) = 14
refusal_number EntryStopped = 15
refusal_number NoneAvailable = 16
refusal_number PoweringDown = 17
refusal_number (Ambiguous count) = 18
refusal_number HeldAlready = 19
refusal_number (WaitListFull most) = 20
refusal_number NotHeld = 21
refusal_number OutOfRange = 22
refusal_number NotInUse = 23

abbrev pub refusal_word : Refusal → List ℕ
refusal_word (Exists kind) = codes "EXISTS"
refusal_word (NoObject kind) = codes "NOOBJECT"
refusal_word SeqUsed = codes "SEQUSED"
refusal_word AnyNotLast = codes "ANYNOTLAST"
refusal_word SbsActive = codes "SBSACTIVE"
refusal_word SbsNotActive = codes "SBSNOTACTIVE"
refusal_word AlreadyActive = codes "ALREADYACTIVE"
refusal_word AlreadyEnding = codes "ALREADYENDING"
refusal_word NoJob = codes "NOJOB"
refusal_word (WrongPhase phase) = codes "WRONGPHASE"
refusal_word Past = codes "PAST"
refusal_word NumbersUsed = codes "NUMBERSUSED"
refusal_word (TableFull kind most) = codes "TABLEFULL"
refusal_word (BadRelation key other) = codes "BADRELATION"
refusal_word EntryStopped = codes "ENTRYSTOPPED"
refusal_word NoneAvailable = codes "NONEAVAILABLE"
refusal_word PoweringDown = codes "POWERINGDOWN"
refusal_word (Ambiguous count) = codes "AMBIGUOUS"
refusal_word HeldAlready = codes "HELDALREADY"
refusal_word (WaitListFull most) = codes "WAITLISTFULL"
refusal_word NotHeld = codes "NOTHELD"
refusal_word OutOfRange = codes "OUTOFRANGE"
refusal_word NotInUse = codes "NOTINUSE"

-- the values, each after a blank
abbrev pub refusal_values : Refusal → List ℕ
refusal_values (Exists kind) = codes " " ++ kind_word kind
refusal_values (NoObject kind) = codes " " ++ kind_word kind
refusal_values (WrongPhase phase) = codes " " ++ phase_word phase
refusal_values (TableFull kind most) = codes " " ++ kind_word kind ++ codes " " ++ decimal most
refusal_values (BadRelation key other) = codes " " ++ key_word key ++ codes " " ++ key_word other
refusal_values (Ambiguous count) = codes " " ++ decimal count
refusal_values (WaitListFull most) = codes " " ++ decimal most
refusal_values _ = []

-- the number in two digits, a blank, the word and the values
abbrev pub refusal_text : Refusal → List ℕ
refusal_text r = zero_padded 2 (refusal_number r) ++ codes " " ++ refusal_word r ++ refusal_values r
