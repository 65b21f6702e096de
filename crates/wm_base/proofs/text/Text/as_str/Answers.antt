use Rattle.std.proofs.Common.{sym, subst}
use Rattle.wm_base.specs.Text.{IsText}
use Rattle.wm_base.proofs.Names.{IsUtf8-text, IsOk-text}
use Rattle.wm_base.proofs.text.Text.as_str.Goals as goal

pub unwrap-requires : goal.unwrap-requires
unwrap-requires c =
    IsOk-text c.from_utf8.result _ _ _ c.from_utf8.ensures.cases (IsUtf8-text _ (subst IsText (sym c.as_bytes.ensures.value) c.as_bytes.ensures.text))
