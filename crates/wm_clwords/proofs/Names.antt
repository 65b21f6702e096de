-- What is known of a name's bytes.
use Rattle.std.proofs.Common.{◌≡◌, ℕ, true, List, [], ◌∷◌, refl, arith}
use Rattle.std.specs.List.{list_all}
use Rattle.std.proofs.lemmas.Bool.{and_parts, and_from}
use Rattle.std.proofs.lemmas.Bool.Decides.{nat_tests}
use Rattle.wm_base.specs.Name.{IsName, continues_name}
use Rattle.wm_base.specs.Text.{is_printable, IsText}
use Rattle.wm_base.proofs.Texts.{IsText-decimal}

printable : (b : ℕ) → continues_name b ≡ true → is_printable b ≡ true
printable b h = grind (arith, nat_tests)

all_printable : (bs : List ℕ) → list_all continues_name bs ≡ true → list_all is_printable bs ≡ true
all_printable [] h = refl
all_printable (b ∷ bs) h =
    let both = and_parts (continues_name b) (list_all continues_name bs) h in
    and_from (is_printable b) (list_all is_printable bs) (printable b both.0) (all_printable bs both.1)

-- a name is a text
pub IsText-name : (bs : List ℕ) → IsName bs → IsText bs
IsText-name bs h = all_printable bs (and_parts _ (list_all continues_name bs) (and_parts _ _ h).0).1

-- names and numbers are texts
pub ruleset texts = (IsText-decimal, IsText-name)
