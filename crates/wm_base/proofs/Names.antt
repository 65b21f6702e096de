-- What is known of a name's bytes.
use Rattle.std.proofs.Common.{◌≡◌, ℕ, ◌<◌, ◌≤◌, ◌++◌, true, cond, Some, None, List, [], ◌∷◌, length, drop, replicate, zero, suc, lit<, Result, Ok, Err, IsOk, MatchResult, subst, sym, ap, ◌∙◌, refl, arith, append_assoc}
use Rattle.std.specs.Str.{IsAscii, IsUtf8}
use Rattle.std.specs.List.{list_all}
use Rattle.std.proofs.Math.Seq.{take-append_seam, drop-append_seam}
use Rattle.std.proofs.lemmas.List.{length-append, length-drop, drop-replicate}
use Rattle.std.proofs.lemmas.Str.{IsUtf8-from_ascii}
use Rattle.std.proofs.lemmas.Bool.{and_parts}
use Rattle.std.proofs.lemmas.Bool.Decides.{nat_tests}
use Rattle.wm_base.specs.Name.{IsName, continues_name, name_of}
use Rattle.wm_base.specs.QName.{qname_text}
use Rattle.wm_base.specs.declared.qname.QName.{QName}
use Rattle.wm_base.specs.Text.{is_printable, IsText}
use Rattle.wm_base.specs.NameInside.{IsNameInside}

ascii_byte : (b : ℕ) → continues_name b ≡ true → b < 128
ascii_byte b h = grind (arith, nat_tests)

ascii_bytes : (bs : List ℕ) → list_all continues_name bs ≡ true → IsAscii bs
ascii_bytes [] h i = lit< tt
ascii_bytes (b ∷ bs) h zero = ascii_byte b (grind (arith, nat_tests))
ascii_bytes (b ∷ bs) h (suc i) = ascii_bytes bs (grind (arith, nat_tests)) i

-- each byte of a name may go on with one
pub continues-name : (bs : List ℕ) → IsName bs → list_all continues_name bs ≡ true
continues-name bs h = (and_parts _ (list_all continues_name bs) (and_parts _ _ h).0).1

pub qname_text-parts : (q : QName) → qname_text q ≡ q.lib ++ 47 ∷ q.name
qname_text-parts q = append_assoc q.lib (47 ∷ []) q.name

-- a name is text
pub IsUtf8-name : (bs : List ℕ) → IsName bs → IsUtf8 bs
IsUtf8-name bs h = IsUtf8-from_ascii bs (ascii_bytes bs (grind (arith, nat_tests)))

pub length-name : (bs : List ℕ) → IsName bs → length bs ≤ 10
length-name bs h = grind (arith, nat_tests)

-- a name with zeros behind it
pub IsNameInside-of : (bs : List ℕ) → IsName bs → IsNameInside (record { bytes = bs ++ drop (length bs) (replicate 10 0); len = length bs })
IsNameInside-of bs h =
    let short = length-name bs h in
    record {
      ten = omega (arith, length-append bs (drop (length bs) (replicate 10 0)), length-drop {A = ℕ} (length bs) (replicate 10 0));
      len = short;
      zeros = drop-append_seam bs _ ∙ drop-replicate (length bs) 10 0;
      name = subst IsName (sym (take-append_seam bs _)) h;
    }

printable_byte : (b : ℕ) → is_printable b ≡ true → b < 128
printable_byte b h = grind (arith, nat_tests)

printable_bytes : (bs : List ℕ) → list_all is_printable bs ≡ true → IsAscii bs
printable_bytes [] h i = lit< tt
printable_bytes (b ∷ bs) h zero = printable_byte b (grind (arith, nat_tests))
printable_bytes (b ∷ bs) h (suc i) = printable_bytes bs (grind (arith, nat_tests)) i

-- a text is text
pub IsUtf8-text : (bs : List ℕ) → IsText bs → IsUtf8 bs
IsUtf8-text bs h = IsUtf8-from_ascii bs (printable_bytes bs h)

-- bytes that are text are read as text
pub IsOk-text : {T E : Type 0} (r : Result T E) (P : T → Type 0) (U : Type 0) (Q : E → Type 0) → MatchResult r P (λ e. (¬ U) × Q e) → U → IsOk r
IsOk-text (Ok x) P U Q h u = refl
IsOk-text (Err e) P U Q h u = absurd (h.0 u)

-- a name is read as itself
pub name_is : (name : List ℕ) → IsName name → name_of name ≡ Some name
name_is name h = ap (λ c. cond c (Some name) None) h
