-- What is known of what is written of changes.
use Rattle.std.proofs.Common.{◌≡◌, ℕ, ◌+◌, ◌*◌, ◌/◌, ◌%◌, ◌≤◌, ◌<◌, List, [], ◌∷◌, ◌++◌, length, take, drop, refl, sym, ◌∙◌, ap, arith, append_assoc, take-append-drop}
use Rattle.std.proofs.lemmas.Grind.{common_steps}
use Rattle.wm_outside.specs.declared.memory.sign.TextSign.{TextSign}
use Rattle.wm_outside.specs.declared.memory.sign.TextSign.TheVariants.{Own, Kept, Passed}
use Rattle.wm_outside.specs.ChangeLog.{Reading, reads_text, IsBetween}
use Rattle.wm_traits.specs.declared.row.Row.{Row}
use Rattle.wm_traits.specs.declared.row.RowChange.{RowChange}
use Rattle.wm_outside.specs.Writing.{said_by, taken_by, IsNext, with_text, with_change, with_changes, StartsWith}

-- what begins with a list begins with what that begins with
pub starts_further : (xs ys zs : List ℕ) → StartsWith xs ys → StartsWith ys zs → StartsWith xs zs
starts_further xs ys zs a b = grind (arith, common_steps)

-- the next sign of a text

pub said_fits : (text ahead : List ℕ) (sign : TextSign) → 0 < length text → IsNext text ahead sign → said_by sign ≤ length text
said_fits text ahead (Own byte) some next = omega arith
said_fits text ahead (Kept count) some next = omega arith
said_fits text ahead (Passed count) some next = omega arith

pub taken_fits : (text ahead : List ℕ) (sign : TextSign) → IsNext text ahead sign → taken_by sign ≤ length ahead
taken_fits text ahead (Own byte) next = omega arith
taken_fits text ahead (Kept count) next = omega arith
taken_fits text ahead (Passed count) next = omega arith

pub goes_on : (text ahead : List ℕ) (sign : TextSign) → IsNext text ahead sign → 0 < said_by sign + taken_by sign
goes_on text ahead (Own byte) next = omega arith
goes_on text ahead (Kept count) next = omega arith
goes_on text ahead (Passed count) next = omega arith

pub reads_next : (r : Reading) (text ahead : List ℕ) (sign : TextSign) → IsNext text ahead sign → r.ahead ≡ ahead → reads_text r sign ≡ with_text r (r.text ++ take (said_by sign) text) (drop (taken_by sign) ahead)
reads_next r text ahead (Own byte) next is = grind (arith, common_steps)
reads_next r text ahead (Kept count) next is = grind (arith, common_steps)
reads_next r text ahead (Passed count) next is = grind (arith, common_steps)

-- a text on its way

pub text_on : (s r t : Reading) (text ahead more : List ℕ) → r ≡ with_text s r.text ahead → t ≡ with_text r text more → t ≡ with_text s t.text more
text_on s r t text ahead more before is =
    is ∙ ap (λ (x : Reading). with_text x text more) before ∙ ap (λ (xs : List ℕ). with_text s xs more) (sym (ap (λ (x : Reading). x.text) is))

pub text_in_parts : (n : ℕ) (whole said left : List ℕ) → said ++ left ≡ whole → (said ++ take n left) ++ drop n left ≡ whole
text_in_parts n whole said left is = append_assoc said (take n left) (drop n left) ∙ ap (λ (xs : List ℕ). said ++ xs) (take-append-drop n left) ∙ is

-- the number of a table is its two digits
pub tab_in_digits : (before tab : ℕ) → tab < 256 → (before % 16 * 16 + tab / 16 % 16) % 16 * 16 + tab % 16 % 16 ≡ tab
tab_in_digits before tab h = grind arith

-- one change more of a call

pub between_more : (base : Row) (r s : Reading) (changes : List RowChange) → IsBetween base r → s ≡ with_changes r changes → IsBetween base s
between_more base r s changes h is = rw (is, h) refl

pub changes_more : (r s t : Reading) (changes more : List RowChange) (change : RowChange) → s ≡ with_changes r changes → t ≡ with_change s change → more ≡ changes ++ change ∷ [] → t ≡ with_changes r more
changes_more r s t changes more change h is all = rw (is, h, all) (ap (λ (l : List RowChange). record r { changes = l }) (append_assoc r.changes changes (change ∷ [])))
