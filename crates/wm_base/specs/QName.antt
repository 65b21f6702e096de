-- The text of a qualified name.
use Rattle.std.specs.Prelude.{ℕ, List, ◌++◌, codes}
use Rattle.wm_base.specs.declared.qname.QName.{QName}

abbrev pub qname_text : QName → List ℕ
qname_text q = q.lib ++ codes "/" ++ q.name
