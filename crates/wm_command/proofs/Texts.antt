-- Words, names and numbers are texts.
use Rattle.std.proofs.Common.{refl}
use Rattle.wm_base.specs.Text.{IsText}
use Rattle.wm_base.specs.Key.{key_word}
use Rattle.wm_base.specs.declared.refusal.Key.{Key}
use Rattle.wm_base.specs.declared.refusal.Key.TheVariants as key
use Rattle.wm_base.proofs.Texts.{IsText-decimal}
use Rattle.wm_clwords.proofs.Names.{IsText-name}
use Rattle.wm_command.specs.declared.row.Special.{Special}
use Rattle.wm_command.specs.declared.row.Special.TheVariants as special
use Rattle.wm_command.specs.declared.verb.ChangeVerb.{ChangeVerb}
use Rattle.wm_command.specs.declared.verb.ChangeVerb.TheVariants as change
use Rattle.wm_command.specs.Values.{special_word}
use Rattle.wm_command.specs.Table.{change_word}

pub IsText-key : (k : Key) → IsText (key_word k)
IsText-key key.Cls = refl
IsText-key k = refl

pub IsText-special : (s : Special) → IsText (special_word s)
unfolding special_word
IsText-special special.Never = refl
IsText-special s = refl

pub IsText-verb : (v : ChangeVerb) → IsText (change_word v)
unfolding change_word
IsText-verb change.Crtcls = refl
IsText-verb v = refl

pub ruleset texts = (IsText-key, IsText-special, IsText-verb, IsText-decimal, IsText-name)
