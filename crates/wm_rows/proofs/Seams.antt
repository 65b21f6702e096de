-- The parts of a text at its first byte of a kind.
use Rattle.std.proofs.Common.{◌≡◌, ℕ, ◌+◌, ◌++◌, not, true, false, cond, List, [], ◌∷◌, length, take, drop, take_while, sym, ◌∙◌, ap, refl, arith, append_assoc}
use Rattle.std.specs.List.{list_all}
use Rattle.std.proofs.Math.Seq.{take-append_seam, drop-append-add}
use Rattle.std.proofs.lemmas.Bool.{and_parts, and_from, eq-eqb}
use Rattle.std.proofs.lemmas.List.{append-nil, drop_all}
use Rattle.std.proofs.lemmas.List.Folds.{list_all-append}
use Rattle.std.proofs.lemmas.List.Sums.{take_while-cons}
use Rattle.wm_rows.specs.JobText.{field}
use Rattle.wm_rows.specs.Reading.{is_other, before, behind, value, rest}

-- none of the bytes is this one
abbrev pub Lacks : ℕ → List ℕ → Type 0
Lacks byte text = list_all (is_other byte) text ≡ true

pub Lacks-append : (byte : ℕ) (a b : List ℕ) → Lacks byte a → Lacks byte b → Lacks byte (a ++ b)
Lacks-append byte a b h g = list_all-append (is_other byte) a b ∙ and_from (list_all (is_other byte) a) (list_all (is_other byte) b) h g

not_itself : (byte : ℕ) → is_other byte byte ≡ false
not_itself byte = ap not (eq-eqb byte byte refl)

taken_first : (byte : ℕ) (a b : List ℕ) → Lacks byte a → take_while (is_other byte) (a ++ byte ∷ b) ≡ a
taken_first byte [] b h =
    take_while-cons (is_other byte) byte b ∙ ap (λ c. cond c (byte ∷ take_while (is_other byte) b) []) (not_itself byte)
taken_first byte (x ∷ a) b h =
    let both = and_parts (is_other byte x) (list_all (is_other byte) a) h in
    take_while-cons (is_other byte) x (a ++ byte ∷ b) ∙ ap (λ c. cond c (x ∷ take_while (is_other byte) (a ++ byte ∷ b)) []) both.0
    ∙ ap (λ l. x ∷ l) (taken_first byte a b both.1)

taken_all : (byte : ℕ) (a : List ℕ) → Lacks byte a → take_while (is_other byte) a ≡ a
taken_all byte [] h = refl
taken_all byte (x ∷ a) h =
    let both = and_parts (is_other byte x) (list_all (is_other byte) a) h in
    take_while-cons (is_other byte) x a ∙ ap (λ c. cond c (x ∷ take_while (is_other byte) a) []) both.0 ∙ ap (λ l. x ∷ l) (taken_all byte a both.1)

-- where there is one such byte
pub before_first : (byte : ℕ) (a b : List ℕ) → Lacks byte a → before byte (a ++ byte ∷ b) ≡ a
before_first byte a b h = ap (λ l. take (length l) (a ++ byte ∷ b)) (taken_first byte a b h) ∙ take-append_seam a (byte ∷ b)

pub behind_first : (byte : ℕ) (a b : List ℕ) → Lacks byte a → behind byte (a ++ byte ∷ b) ≡ b
behind_first byte a b h = ap (λ l. drop (length l + 1) (a ++ byte ∷ b)) (taken_first byte a b h) ∙ drop-append-add a (byte ∷ b) 1

-- where there is none
pub before_none : (byte : ℕ) (a : List ℕ) → Lacks byte a → before byte a ≡ a
before_none byte a h = ap (λ l. take (length l) a) (taken_all byte a h) ∙ ap (take (length a)) (sym (append-nil a)) ∙ take-append_seam a []

pub behind_none : (byte : ℕ) (a : List ℕ) → Lacks byte a → behind byte a ≡ []
behind_none byte a h = ap (λ l. drop (length l + 1) a) (taken_all byte a h) ∙ drop_all (length a + 1) a (omega arith)

-- a field's key, and its value with what stands behind
pub field_parts : (p key v more : List ℕ) → p ++ (field key v ++ more) ≡ (p ++ 32 ∷ key) ++ 40 ∷ (v ++ 41 ∷ more)
field_parts p key v more =
    ap (λ l. p ++ 32 ∷ l)
    (append_assoc (key ++ 40 ∷ [] ++ v) (41 ∷ []) more ∙ append_assoc (key ++ 40 ∷ []) v (41 ∷ more) ∙ append_assoc key (40 ∷ []) (v ++ 41 ∷ more))
    ∙ sym (append_assoc p (32 ∷ key) (40 ∷ (v ++ 41 ∷ more)))

module _ (p key v more : List ℕ) (h : Lacks 40 p) (k : Lacks 40 key) where
  pub field_inside : behind 40 (p ++ (field key v ++ more)) ≡ v ++ 41 ∷ more
  field_inside =
      ap (behind 40) (field_parts p key v more)
      ∙ behind_first 40 (p ++ 32 ∷ key) (v ++ 41 ∷ more) (Lacks-append 40 p (32 ∷ key) h k)

  -- the value of the first field
  pub field_value : Lacks 41 v → value (p ++ (field key v ++ more)) ≡ v
  field_value c = ap (before 41) field_inside ∙ before_first 41 v more c

  -- what stands behind it
  pub field_rest : Lacks 41 v → rest (p ++ (field key v ++ more)) ≡ more
  field_rest c = ap (behind 41) field_inside ∙ behind_first 41 v more c
