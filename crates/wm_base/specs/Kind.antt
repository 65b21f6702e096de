-- The words of the kinds of objects and entries.
use Rattle.std.specs.Prelude.{ℕ, List, codes}
use Rattle.wm_base.specs.declared.refusal.Kind.{Kind}
use Rattle.wm_base.specs.declared.refusal.Kind.TheVariants.{Cls, Jobq, Jobd, Pgm, Sbsd, Jobqe, Rtge, Aje, Pje, Sbs}

abbrev pub kind_word : Kind → List ℕ
kind_word Cls = codes "CLS"
kind_word Jobq = codes "JOBQ"
kind_word Jobd = codes "JOBD"
kind_word Pgm = codes "PGM"
kind_word Sbsd = codes "SBSD"
kind_word Jobqe = codes "JOBQE"
kind_word Rtge = codes "RTGE"
kind_word Aje = codes "AJE"
kind_word Pje = codes "PJE"
kind_word Sbs = codes "SBS"
