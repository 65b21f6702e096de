-- The state that an empty store opens with: what eight commands make of no objects.
use Rattle.std.specs.Prelude.{ℕ, ℤ, codes, List, [], ◌∷◌, fold, false, replicate, None}
use Rattle.wm_base.specs.declared.limit.Limit.TheVariants.{NoMax, Most}
use Rattle.wm_base.specs.declared.qname.QName.{QName}
use Rattle.wm_desc.specs.declared.entry.Cmp.TheVariants.{Any}
use Rattle.wm_desc.specs.Opening.{qbatch, qdftjobd, echo}
use Rattle.wm_law.specs.declared.command.Command.{Command}
use Rattle.wm_law.specs.declared.command.Command.TheVariants as command
use Rattle.wm_law.specs.declared.command.Addjobqe.{Addjobqe}
use Rattle.wm_law.specs.declared.command.Addrtge.{Addrtge}
use Rattle.wm_law.specs.declared.command.Crtcls.{Crtcls}
use Rattle.wm_law.specs.declared.command.Crtjobd.{Crtjobd}
use Rattle.wm_law.specs.declared.command.Crtjobq.{Crtjobq}
use Rattle.wm_law.specs.declared.command.Crtpgmref.{Crtpgmref}
use Rattle.wm_law.specs.declared.command.Crtsbsd.{Crtsbsd}
use Rattle.wm_law.specs.declared.state.State.{State}
use Rattle.wm_law.specs.declared.state.Power.TheVariants.{On}
use Rattle.wm_law.specs.Machine.{change}

-- CRTCLS QBATCH
abbrev pub crtcls_qbatch : Crtcls
crtcls_qbatch = record { cls = qbatch; runpty = 50; timeslice = 2000; dftwait = Most 30 }

-- CRTPGMREF PGM(ECHO) PATH('/bin/echo')
abbrev pub crtpgmref_echo : Crtpgmref
crtpgmref_echo = record { pgm = echo; path = codes "/bin/echo" }

-- CRTJOBQ QBATCH
abbrev pub crtjobq_qbatch : Crtjobq
crtjobq_qbatch = record { jobq = qbatch }

-- CRTJOBD with its defaults
abbrev pub crtjobd : QName → Crtjobd
crtjobd name = record { jobd = name; jobq = qbatch; jobpty = 5; rtgdta = codes "QCMDI"; rqsdta = None; hold = false }

-- CRTJOBD QDFTJOBD
abbrev pub crtjobd_qdftjobd : Crtjobd
crtjobd_qdftjobd = crtjobd qdftjobd

-- CRTJOBD QBATCH
abbrev pub crtjobd_qbatch : Crtjobd
crtjobd_qbatch = crtjobd qbatch

-- CRTSBSD QBATCH
abbrev pub crtsbsd_qbatch : Crtsbsd
crtsbsd_qbatch = record { sbsd = qbatch; maxjobs = NoMax }

-- ADDJOBQE SBSD(QBATCH) JOBQ(QBATCH)
abbrev pub addjobqe_qbatch : Addjobqe
addjobqe_qbatch = record { sbsd = qbatch; jobq = qbatch; maxact = Most 1; seqnbr = 10; maxpty = replicate 9 NoMax }

-- ADDRTGE SBSD(QBATCH) SEQNBR(9999) CMPVAL(*ANY) PGM(QSYS/QCMD) CLS(QBATCH)
abbrev pub addrtge_qbatch : Addrtge
addrtge_qbatch =
    record {
      sbsd = qbatch;
      seqnbr = 9999;
      cmpval = Any;
      pgm = record { lib = codes "QSYS"; name = codes "QCMD" };
      cls = qbatch;
      maxact = NoMax;
      poolid = 1;
    }

-- the commands whose objects an empty store opens with, in their order
abbrev pub opening_commands : List Command
opening_commands =
    command.Crtcls crtcls_qbatch
    ∷ command.Crtpgmref crtpgmref_echo
    ∷ command.Crtjobq crtjobq_qbatch
    ∷ command.Crtjobd crtjobd_qdftjobd
    ∷ command.Crtjobd crtjobd_qbatch
    ∷ command.Crtsbsd crtsbsd_qbatch
    ∷ command.Addjobqe addjobqe_qbatch
    ∷ command.Addrtge addrtge_qbatch
    ∷ []

-- no objects and no job, for local time so many minutes ahead of UTC
abbrev pub empty : ℤ → State
empty offset =
    record {
      objects = record { classes = []; jobqs = []; programs = []; jobds = []; sbsds = [] };
      jobs = [];
      started = [];
      held = [];
      stopped = [];
      evokes = [];
      next_number = 1;
      next_serial = 1;
      next_place = 1;
      clock = 0;
      offset_min = offset;
      power = On;
    }

-- the state after the commands of a user
abbrev pub changed_by : List ℕ → State → List Command → State
changed_by user s commands = fold (λ t c. (change t user c).state) s commands

-- the state of no rows: what the machine makes of the opening commands by QSYS
unfoldable pub opening : ℤ → State
opening offset = changed_by (codes "QSYS") (empty offset) opening_commands
