-- The names of the objects that an empty store opens with.
use Rattle.std.specs.Prelude.{ℕ, codes, List}
use Rattle.wm_base.specs.declared.qname.QName.{QName}

-- a name in the library QGPL
abbrev pub qgpl : List ℕ → QName
qgpl name = record { lib = codes "QGPL"; name = name }

-- QGPL/QBATCH: a class, a queue, a job description and the controlling subsystem
abbrev pub qbatch : QName
qbatch = qgpl (codes "QBATCH")

-- QGPL/QDFTJOBD, the job description of SBMJOB
abbrev pub qdftjobd : QName
qdftjobd = qgpl (codes "QDFTJOBD")

-- QGPL/ECHO, a program
abbrev pub echo : QName
echo = qgpl (codes "ECHO")
