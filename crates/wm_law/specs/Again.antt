-- The commands that make a thing again.
use Rattle.std.specs.Prelude.{◌≡◌}
use Rattle.wm_base.specs.declared.job.Class.{Class}
use Rattle.wm_base.specs.declared.qname.QName.{QName}
use Rattle.wm_desc.specs.declared.description.Jobd.{Jobd}
use Rattle.wm_desc.specs.declared.description.Program.{Program}
use Rattle.wm_desc.specs.declared.description.Sbsd.{Sbsd}
use Rattle.wm_desc.specs.declared.entry.AutoEntry.{AutoEntry}
use Rattle.wm_desc.specs.declared.entry.PreEntry.{PreEntry}
use Rattle.wm_desc.specs.declared.entry.QueueEntry.{QueueEntry}
use Rattle.wm_desc.specs.declared.entry.RouteEntry.{RouteEntry}
use Rattle.wm_law.specs.declared.command.Addaje.{Addaje}
use Rattle.wm_law.specs.declared.command.Addjobqe.{Addjobqe}
use Rattle.wm_law.specs.declared.command.Addpje.{Addpje}
use Rattle.wm_law.specs.declared.command.Addrtge.{Addrtge}
use Rattle.wm_law.specs.declared.command.Crtcls.{Crtcls}
use Rattle.wm_law.specs.declared.command.Crtjobd.{Crtjobd}
use Rattle.wm_law.specs.declared.command.Crtjobq.{Crtjobq}
use Rattle.wm_law.specs.declared.command.Crtpgmref.{Crtpgmref}
use Rattle.wm_law.specs.declared.command.Crtsbsd.{Crtsbsd}
use Rattle.wm_law.specs.Making.{class_of, jobd_of, queue_entry_of, route_entry_of, auto_entry_of, pre_entry_of}

-- Objects

abbrev pub crtcls_of : QName → Class → Crtcls
crtcls_of name cls = record { cls = name; runpty = cls.runpty; timeslice = cls.timeslice; dftwait = cls.dftwait }

abbrev pub crtpgmref_of : QName → Program → Crtpgmref
crtpgmref_of name program = record { pgm = name; path = program.path }

abbrev pub crtjobq_of : QName → Crtjobq
crtjobq_of name = record { jobq = name }

abbrev pub crtjobd_of : QName → Jobd → Crtjobd
crtjobd_of name jobd =
    record {
      jobd = name;
      jobq = jobd.jobq;
      jobpty = jobd.pty;
      rtgdta = jobd.rtgdta;
      rqsdta = jobd.rqsdta;
      hold = jobd.hold;
    }

-- its entries have commands of their own
abbrev pub crtsbsd_of : QName → Sbsd → Crtsbsd
crtsbsd_of name sbsd = record { sbsd = name; maxjobs = sbsd.maxjobs }

-- The entries of a subsystem description

abbrev pub addjobqe_of : QName → QueueEntry → Addjobqe
addjobqe_of sbsd entry =
    record {
      sbsd = sbsd;
      jobq = entry.jobq;
      maxact = entry.maxact;
      seqnbr = entry.seq;
      maxpty = entry.maxpty;
    }

abbrev pub addrtge_of : QName → RouteEntry → Addrtge
addrtge_of sbsd entry =
    record {
      sbsd = sbsd;
      seqnbr = entry.seq;
      cmpval = entry.cmp;
      pgm = entry.pgm;
      cls = entry.cls;
      maxact = entry.maxact;
      poolid = entry.poolid;
    }

abbrev pub addaje_of : QName → AutoEntry → Addaje
addaje_of sbsd entry = record { sbsd = sbsd; job = entry.job; jobd = entry.jobd }

abbrev pub addpje_of : QName → PreEntry → Addpje
addpje_of sbsd entry =
    record {
      sbsd = sbsd;
      pgm = entry.pgm;
      strjobs = entry.strjobs;
      inljobs = entry.inljobs;
      threshold = entry.threshold;
      adljobs = entry.adljobs;
      maxjobs = entry.maxjobs;
      maxuse = entry.maxuse;
      wait = entry.wait;
      cls = entry.cls;
      poolid = entry.poolid;
    }

-- the description or entry that such a command makes is the one that it was made of
pub record IsMadeAgain : Type 0 where
  pub class : (name : QName) (cls : Class) → class_of (crtcls_of name cls) ≡ cls
  pub jobd : (name : QName) (jobd : Jobd) → jobd_of (crtjobd_of name jobd) ≡ jobd
  pub queue : (sbsd : QName) (entry : QueueEntry) → queue_entry_of (addjobqe_of sbsd entry) ≡ entry
  pub route : (sbsd : QName) (entry : RouteEntry) → route_entry_of (addrtge_of sbsd entry) ≡ entry
  pub auto : (sbsd : QName) (entry : AutoEntry) → auto_entry_of (addaje_of sbsd entry) ≡ entry
  pub pre : (sbsd : QName) (entry : PreEntry) → pre_entry_of (addpje_of sbsd entry) ≡ entry
