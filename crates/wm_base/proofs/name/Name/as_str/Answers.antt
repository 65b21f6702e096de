use Rattle.std.proofs.Common.{sym, subst}
use Rattle.wm_base.specs.Name.{IsName}
use Rattle.wm_base.proofs.Names.{IsUtf8-name, IsOk-text}
use Rattle.wm_base.proofs.name.Name.as_str.Goals as goal

pub unwrap-requires : goal.unwrap-requires
unwrap-requires c =
    IsOk-text c.from_utf8.result _ _ _ c.from_utf8.ensures.cases (IsUtf8-name _ (subst IsName (sym c.as_bytes.ensures.value) c.as_bytes.ensures.name))
