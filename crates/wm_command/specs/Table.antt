-- The command table: what each command's keys take, in their order, and what they have where they aren't given.
use Rattle.std.specs.Prelude.{ℕ, List, [], ◌∷◌, codes}
use Rattle.wm_base.specs.declared.refusal.Key.{Key}
use Rattle.wm_base.specs.declared.refusal.Key.TheVariants as key
use Rattle.wm_command.specs.declared.row.Kind.{Kind}
use Rattle.wm_command.specs.declared.row.Kind.TheVariants as kind
use Rattle.wm_command.specs.declared.row.Special.{Special}
use Rattle.wm_command.specs.declared.row.Special.TheVariants as special
use Rattle.wm_command.specs.declared.row.Default.{Default}
use Rattle.wm_command.specs.declared.row.Default.TheVariants as default
use Rattle.wm_command.specs.declared.row.Row.{Row}
use Rattle.wm_command.specs.declared.verb.ChangeVerb.{ChangeVerb}
use Rattle.wm_command.specs.declared.verb.ChangeVerb.TheVariants as change
use Rattle.wm_command.specs.declared.verb.Family.{Family}
use Rattle.wm_command.specs.declared.verb.Family.TheVariants.{Objects, Entries, Jobs, Control}
use Rattle.wm_command.specs.declared.verb.ReadVerb.{ReadVerb}
use Rattle.wm_command.specs.declared.verb.ReadVerb.TheVariants as read

-- the parts of a row: its key, what that takes, its special word, and what it has where it isn't given

abbrev pub row_key : Row → Key
row_key row = row.key

abbrev pub row_kind : Row → Kind
row_kind row = row.kind

abbrev pub row_special : Row → Special
row_special row = row.special

abbrev pub row_otherwise : Row → Default
row_otherwise row = row.otherwise

-- a key that takes its kind of value alone
abbrev pub plain : Key → Kind → Default → Row
plain k takes otherwise = record { key = k; kind = takes; special = special.Never; otherwise = otherwise }

-- a key that takes a special word too
abbrev pub or_word : Key → Kind → Special → Default → Row
or_word k takes word otherwise = record { key = k; kind = takes; special = word; otherwise = otherwise }

unfoldable pub change_rows : ChangeVerb → List Row
change_rows change.Crtcls =
    plain key.Cls kind.Object default.Required ∷
    plain key.Runpty (kind.Number 1 99) (default.Number 50) ∷
    plain key.Timeslice (kind.Number 1 9999999) (default.Number 2000) ∷
    or_word key.Dftwait (kind.Number 1 9999999) special.Nomax (default.Number 30) ∷
    plain key.Text kind.Anything default.Nothing ∷
    []
change_rows change.Crtjobq =
    plain key.Jobq kind.Object default.Required ∷
    plain key.Text kind.Anything default.Nothing ∷
    []
change_rows change.Crtpgmref =
    plain key.Pgm kind.Program default.Required ∷
    plain key.Path kind.Path default.Required ∷
    plain key.Text kind.Anything default.Nothing ∷
    []
change_rows change.Crtjobd =
    plain key.Jobd kind.Object default.Required ∷
    plain key.Jobq kind.Object default.Qbatch ∷
    plain key.Jobpty (kind.Number 1 9) (default.Number 5) ∷
    plain key.Rtgdta (kind.Text 1 80) default.Qcmdi ∷
    or_word key.Rqsdta (kind.Text 0 1000) special.None default.Special ∷
    plain key.Hold kind.Flag default.No ∷
    plain key.Text kind.Anything default.Nothing ∷
    []
change_rows change.Crtsbsd =
    plain key.Sbsd kind.Object default.Required ∷
    or_word key.Maxjobs (kind.Number 0 1000) special.Nomax default.Special ∷
    plain key.Pools kind.Anything default.Nothing ∷
    plain key.Text kind.Anything default.Nothing ∷
    []
change_rows change.Addjobqe =
    plain key.Sbsd kind.Object default.Required ∷
    plain key.Jobq kind.Object default.Required ∷
    or_word key.Maxact (kind.Number 0 1000) special.Nomax (default.Number 1) ∷
    plain key.Seqnbr (kind.Number 1 9999) (default.Number 10) ∷
    or_word key.Maxpty1 (kind.Number 0 99) special.Nomax default.Special ∷
    or_word key.Maxpty2 (kind.Number 0 99) special.Nomax default.Special ∷
    or_word key.Maxpty3 (kind.Number 0 99) special.Nomax default.Special ∷
    or_word key.Maxpty4 (kind.Number 0 99) special.Nomax default.Special ∷
    or_word key.Maxpty5 (kind.Number 0 99) special.Nomax default.Special ∷
    or_word key.Maxpty6 (kind.Number 0 99) special.Nomax default.Special ∷
    or_word key.Maxpty7 (kind.Number 0 99) special.Nomax default.Special ∷
    or_word key.Maxpty8 (kind.Number 0 99) special.Nomax default.Special ∷
    or_word key.Maxpty9 (kind.Number 0 99) special.Nomax default.Special ∷
    []
change_rows change.Addrtge =
    plain key.Sbsd kind.Object default.Required ∷
    plain key.Seqnbr (kind.Number 1 9999) default.Required ∷
    plain key.Cmpval kind.Compare default.Required ∷
    plain key.Pgm kind.Program default.Required ∷
    or_word key.Cls kind.Object special.Sbsd default.Special ∷
    or_word key.Maxact (kind.Number 0 1000) special.Nomax default.Special ∷
    plain key.Poolid (kind.Number 1 10) (default.Number 1) ∷
    []
change_rows change.Addaje =
    plain key.Sbsd kind.Object default.Required ∷
    plain key.Job kind.Name default.Required ∷
    plain key.Jobd kind.Object default.Qdftjobd ∷
    []
change_rows change.Addpje =
    plain key.Sbsd kind.Object default.Required ∷
    plain key.Pgm kind.Program default.Required ∷
    plain key.Strjobs kind.Flag default.Yes ∷
    plain key.Inljobs (kind.Number 1 9999) (default.Number 3) ∷
    plain key.Threshold (kind.Number 1 9999) (default.Number 2) ∷
    plain key.Adljobs (kind.Number 0 999) (default.Number 2) ∷
    or_word key.Maxjobs (kind.Number 1 9999) special.Nomax default.Special ∷
    or_word key.Maxuse (kind.Number 1 1000) special.Nomax (default.Number 200) ∷
    plain key.Wait kind.Flag default.Yes ∷
    or_word key.Cls kind.Object special.Sbsd default.Special ∷
    plain key.Poolid (kind.Number 1 10) (default.Number 1) ∷
    []
change_rows change.Rmvjobqe =
    plain key.Sbsd kind.Object default.Required ∷
    plain key.Jobq kind.Object default.Required ∷
    []
change_rows change.Rmvrtge =
    plain key.Sbsd kind.Object default.Required ∷
    plain key.Seqnbr (kind.Number 1 9999) default.Required ∷
    []
change_rows change.Rmvaje =
    plain key.Sbsd kind.Object default.Required ∷
    plain key.Job kind.Name default.Required ∷
    []
change_rows change.Rmvpje =
    plain key.Sbsd kind.Object default.Required ∷
    plain key.Pgm kind.Program default.Required ∷
    []
change_rows change.Strsbs = plain key.Sbsd kind.Object default.Required ∷ []
change_rows change.Endsbs =
    plain key.Sbs kind.Name default.Required ∷
    plain key.Option kind.Ending default.Cntrld ∷
    or_word key.Delay (kind.Number 1 99999) special.Nolimit default.Special ∷
    []
change_rows change.Sbmjob =
    plain key.Cmd kind.Call default.Nothing ∷
    or_word key.Rqsdta (kind.Text 0 1000) special.Jobd default.Nothing ∷
    or_word key.Job kind.Name special.Jobd default.Special ∷
    plain key.Jobd kind.Object default.Qdftjobd ∷
    or_word key.Jobq kind.Object special.Jobd default.Special ∷
    or_word key.Jobpty (kind.Number 1 9) special.Jobd default.Special ∷
    or_word key.Rtgdta (kind.Text 1 80) special.Jobd default.Qcmdb ∷
    or_word key.Hold kind.Flag special.Jobd default.Special ∷
    plain key.Scddate kind.Date default.Today ∷
    plain key.Scdtime kind.Time default.Now ∷
    []
change_rows change.Hldjob = plain key.Job kind.Job default.Required ∷ []
change_rows change.Rlsjob = plain key.Job kind.Job default.Required ∷ []
change_rows change.Chgjob =
    plain key.Job kind.Job default.Required ∷
    or_word key.Jobpty (kind.Number 1 9) special.Same default.Special ∷
    or_word key.Jobq kind.Object special.Same default.Special ∷
    or_word key.Scddate kind.Date special.Same default.Special ∷
    or_word key.Scdtime kind.Time special.Same default.Special ∷
    []
change_rows change.Endjob =
    plain key.Job kind.Job default.Required ∷
    plain key.Option kind.Ending default.Cntrld ∷
    plain key.Delay (kind.Number 1 999999) (default.Number 30) ∷
    []
change_rows change.Hldjobq = plain key.Jobq kind.Object default.Required ∷ []
change_rows change.Rlsjobq = plain key.Jobq kind.Object default.Required ∷ []
change_rows change.Clrjobq = plain key.Jobq kind.Object default.Required ∷ []
change_rows change.Strpj =
    plain key.Sbs kind.Name default.Required ∷
    plain key.Pgm kind.Program default.Required ∷
    []
change_rows change.Endpj =
    plain key.Sbs kind.Name default.Required ∷
    plain key.Pgm kind.Program default.Required ∷
    plain key.Option kind.Ending default.Cntrld ∷
    or_word key.Delay (kind.Number 1 99999) special.Nolimit default.Special ∷
    []
change_rows change.Evoke =
    plain key.Sbs kind.Name default.Required ∷
    plain key.Pgm kind.Program default.Required ∷
    []
change_rows change.Enduse = plain key.Job kind.Job default.Required ∷ []
change_rows change.Pwrdwnsys =
    plain key.Option kind.Ending default.Cntrld ∷
    or_word key.Delay (kind.Number 1 99999) special.Nolimit (default.Number 3600) ∷
    []

-- the command's name
unfoldable pub change_word : ChangeVerb → List ℕ
change_word change.Crtcls = codes "CRTCLS"
change_word change.Crtjobq = codes "CRTJOBQ"
change_word change.Crtpgmref = codes "CRTPGMREF"
change_word change.Crtjobd = codes "CRTJOBD"
change_word change.Crtsbsd = codes "CRTSBSD"
change_word change.Addjobqe = codes "ADDJOBQE"
change_word change.Addrtge = codes "ADDRTGE"
change_word change.Addaje = codes "ADDAJE"
change_word change.Addpje = codes "ADDPJE"
change_word change.Rmvjobqe = codes "RMVJOBQE"
change_word change.Rmvrtge = codes "RMVRTGE"
change_word change.Rmvaje = codes "RMVAJE"
change_word change.Rmvpje = codes "RMVPJE"
change_word change.Strsbs = codes "STRSBS"
change_word change.Endsbs = codes "ENDSBS"
change_word change.Sbmjob = codes "SBMJOB"
change_word change.Hldjob = codes "HLDJOB"
change_word change.Rlsjob = codes "RLSJOB"
change_word change.Chgjob = codes "CHGJOB"
change_word change.Endjob = codes "ENDJOB"
change_word change.Hldjobq = codes "HLDJOBQ"
change_word change.Rlsjobq = codes "RLSJOBQ"
change_word change.Clrjobq = codes "CLRJOBQ"
change_word change.Strpj = codes "STRPJ"
change_word change.Endpj = codes "ENDPJ"
change_word change.Evoke = codes "EVOKE"
change_word change.Enduse = codes "ENDUSE"
change_word change.Pwrdwnsys = codes "PWRDWNSYS"

-- the file in which a command's fields stand
abbrev pub family_of : ChangeVerb → Family
family_of change.Crtcls = Objects
family_of change.Crtjobq = Objects
family_of change.Crtpgmref = Objects
family_of change.Crtjobd = Objects
family_of change.Crtsbsd = Objects
family_of change.Addjobqe = Entries
family_of change.Addrtge = Entries
family_of change.Addaje = Entries
family_of change.Addpje = Entries
family_of change.Rmvjobqe = Entries
family_of change.Rmvrtge = Entries
family_of change.Rmvaje = Entries
family_of change.Rmvpje = Entries
family_of change.Strsbs = Control
family_of change.Endsbs = Control
family_of change.Sbmjob = Jobs
family_of change.Hldjob = Jobs
family_of change.Rlsjob = Jobs
family_of change.Chgjob = Jobs
family_of change.Endjob = Jobs
family_of change.Hldjobq = Control
family_of change.Rlsjobq = Control
family_of change.Clrjobq = Control
family_of change.Strpj = Control
family_of change.Endpj = Control
family_of change.Evoke = Control
family_of change.Enduse = Control
family_of change.Pwrdwnsys = Control

unfoldable pub read_rows : ReadVerb → List Row
read_rows read.Wrkactjob = []
read_rows read.Wrksbmjob = []
read_rows read.Wrksbs = []
read_rows read.Dsplog = []
read_rows read.Wrkjobq = plain key.Jobq kind.Object default.Required ∷ []
read_rows read.Dspjob = plain key.Job kind.Job default.Required ∷ []

-- the command's name
unfoldable pub read_word : ReadVerb → List ℕ
read_word read.Wrkactjob = codes "WRKACTJOB"
read_word read.Wrksbmjob = codes "WRKSBMJOB"
read_word read.Wrksbs = codes "WRKSBS"
read_word read.Dsplog = codes "DSPLOG"
read_word read.Wrkjobq = codes "WRKJOBQ"
read_word read.Dspjob = codes "DSPJOB"
