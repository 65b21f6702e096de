-- What a tree says as a line, or its first fault.
use Rattle.std.specs.Prelude.{ℕ, Bool, true, false, Option, Some, None, Result, Ok, Err, List, [], ◌∷◌, find}
use Rattle.wm_base.specs.declared.refusal.Key.{Key}
use Rattle.wm_base.specs.declared.refusal.Key.TheVariants as key
use Rattle.wm_clwords.specs.declared.tree.Item.{Item}
use Rattle.wm_law.specs.declared.command.Ask.{Ask}
use Rattle.wm_law.specs.declared.command.Ask.TheVariants as ask
use Rattle.wm_command.specs.declared.line.Line.{Line}
use Rattle.wm_command.specs.declared.line.Line.TheVariants as line
use Rattle.wm_command.specs.declared.fault.CmdFault.{CmdFault}
use Rattle.wm_command.specs.declared.fault.CmdFault.TheVariants.{UnknownCommand, Missing, Conflict}
use Rattle.wm_command.specs.declared.value.Value.{Value}
use Rattle.wm_command.specs.declared.value.Value.TheVariants as value
use Rattle.wm_command.specs.declared.value.Given.{Given}
use Rattle.wm_command.specs.declared.verb.ChangeVerb.{ChangeVerb}
use Rattle.wm_command.specs.declared.verb.ChangeVerb.TheVariants as change
use Rattle.wm_command.specs.declared.verb.ReadVerb.{ReadVerb}
use Rattle.wm_command.specs.declared.verb.ReadVerb.TheVariants as read
use Rattle.wm_command.specs.Each.{go_on}
use Rattle.wm_command.specs.Fields.{value_of, object_in, job_in}
use Rattle.wm_command.specs.Made.{change_made}
use Rattle.wm_command.specs.Reading.{all_given}
use Rattle.wm_command.specs.Table.{change_rows, change_word, read_rows, read_word}
use Rattle.wm_command.specs.Words.{same}

abbrev pub changes : List ChangeVerb
changes =
    change.Crtcls ∷ change.Crtjobq ∷ change.Crtpgmref ∷ change.Crtjobd ∷ change.Crtsbsd ∷ change.Addjobqe ∷ change.Addrtge ∷ change.Addaje ∷ change.Addpje ∷ change.Rmvjobqe ∷ change.Rmvrtge ∷ change.Rmvaje ∷ change.Rmvpje ∷ change.Strsbs ∷ change.Endsbs ∷ change.Sbmjob ∷ change.Hldjob ∷ change.Rlsjob ∷ change.Chgjob ∷ change.Endjob ∷ change.Hldjobq ∷ change.Rlsjobq ∷ change.Clrjobq ∷ change.Strpj ∷ change.Endpj ∷ change.Evoke ∷ change.Enduse ∷ change.Pwrdwnsys ∷ []

abbrev pub reads : List ReadVerb
reads = read.Wrkactjob ∷ read.Wrksbmjob ∷ read.Wrksbs ∷ read.Dsplog ∷ read.Wrkjobq ∷ read.Dspjob ∷ []

-- the command with a name
unfoldable pub change_named : List ℕ → Option ChangeVerb
change_named name = find (λ verb. same (change_word verb) name) changes

unfoldable pub read_named : List ℕ → Option ReadVerb
read_named name = find (λ verb. same (read_word verb) name) reads

-- SBMJOB has a request, and not two

abbrev pub is_nothing : Option Value → Bool
is_nothing None = true
is_nothing (Some value.Nothing) = true
is_nothing (Some v) = false

unfoldable pub lacks : Key → List Given → Bool
lacks k given = is_nothing (value_of k given)

abbrev pub one_request : Bool → Bool → Option CmdFault
one_request true true = Some (Missing key.Cmd)
one_request true false = None
one_request false true = None
one_request false false = Some (Conflict key.Cmd key.Rqsdta)

-- what a command has beside its table
abbrev pub own_fault : ChangeVerb → List Given → Option CmdFault
own_fault change.Sbmjob given = one_request (lacks key.Cmd given) (lacks key.Rqsdta given)
own_fault verb given = None

abbrev pub unless : {V : Type 0} → Option CmdFault → V → Result V CmdFault
unless (Some e) v = Err e
unless None v = Ok v

abbrev pub change_line : ChangeVerb → List Item → Result Line CmdFault
change_line verb items =
    go_on (all_given (change_rows verb) items) (λ given. unless (own_fault verb given) (line.Change (change_made verb given)))

-- what a reading command asks; WRKSBMJOB is about the user
abbrev pub read_made : List ℕ → ReadVerb → List Given → Ask
read_made user read.Wrkactjob given = ask.Active
read_made user read.Wrksbmjob given = ask.Submitted user
read_made user read.Wrksbs given = ask.Subsystems
read_made user read.Dsplog given = ask.Log
read_made user read.Wrkjobq given = ask.Queue (object_in key.Jobq given)
read_made user read.Dspjob given = ask.Job (job_in key.Job given)

abbrev pub read_line : List ℕ → ReadVerb → List Item → Result Line CmdFault
read_line user verb items = go_on (all_given (read_rows verb) items) (λ given. Ok (line.Read (read_made user verb given)))

abbrev pub read_by : List ℕ → List Item → Option ReadVerb → Result Line CmdFault
read_by user items None = Err UnknownCommand
read_by user items (Some verb) = read_line user verb items

abbrev pub line_by : List ℕ → List ℕ → List Item → Option ChangeVerb → Result Line CmdFault
line_by user name items None = read_by user items (read_named name)
line_by user name items (Some verb) = change_line verb items

-- the line that a tree with this name and these items is, for a user: an unknown command first; then the items from left to
-- right; then what is missing, in the table's order; then what excludes one another
abbrev pub line_of : List ℕ → List ℕ → List Item → Result Line CmdFault
line_of user name items = line_by user name items (change_named name)
