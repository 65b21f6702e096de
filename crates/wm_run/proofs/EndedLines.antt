-- The lines that have ended where a part of a line is left.
use Rattle.std.proofs.Common.{◌≡◌, ℕ, ◌+◌, ◌||◌, Bool, true, false, not, cond, List, [], ◌∷◌, ◌++◌, length, nat_lt, Option, Some, None, ap, ◌∙◌, refl}
use Rattle.std.proofs.Math.Bool.{or-true}
use Rattle.wm_clwords.specs.Lines.{is_empty, sign_byte, by_sign}
use Rattle.wm_clwords.specs.Part.{Part, fresh, begun, with_cr, with_solid, has_rest, answer, at_end, finished, unsigned, joined_on, ended_lines, lines_from}
use Rattle.wm_clwords.specs.declared.line.Sign.{Sign}
use Rattle.wm_clwords.specs.declared.line.Sign.TheVariants.{No}
use Rattle.wm_clwords.specs.declared.line.LogicalLine.{LogicalLine}
use Rattle.wm_clwords.specs.declared.line.LogicalLine.TheVariants.{Command, Long}
use Rattle.wm_clwords.proofs.LineLemmas.{is_empty-push}
use Rattle.wm_clwords.proofs.LinesLaw.{begun-going, cr_gone}

same_cr : (p : Part) → p.cr ≡ false → with_cr p ≡ p
same_cr p none = ap (λ (b : Bool). cond b (with_solid (record p { cr = false }) 13) p) none

same_unsigned : (p : Part) → p.sign ≡ No → unsigned p ≡ p
same_unsigned p none = ap (λ (s : Sign). by_sign s p (joined_on p true) (joined_on p false)) none

same_end : (p : Part) → p.ended ≡ false → p.cr ≡ false → p.sign ≡ No → at_end p ≡ p
same_end p not_ended no_cr no_sign = ap (λ (q : Part). unsigned (with_cr q)) (begun-going p not_ended) ∙ (ap unsigned (same_cr p no_cr) ∙ same_unsigned p no_sign)

-- an answer says one line
one_ended : (is_long : Bool) (p : Part) → (last : Option (List ℕ)) × (ended_lines (Some (cond is_long Long Command)) p ≡ last ∷ [])
one_ended true p = (None, refl)
one_ended false p = (Some p.line, refl)

-- a line that has begun ends with the input
one_line : (p : Part) → p.ended ≡ false → p.cr ≡ false → p.sign ≡ No → is_empty p.line ≡ false → (last : Option (List ℕ)) × (lines_from p [] ≡ last ∷ [])
one_line p not_ended no_cr no_sign some =
    let rests : has_rest (begun p) ≡ true = ap has_rest (begun-going p not_ended) ∙ (ap (λ (b : Bool). (p.joined || p.cr) || not b) some ∙ or-true (p.joined || p.cr)) in
    let answers : answer (at_end p) ≡ Some (cond (p.long || nat_lt 8192 p.solid) Long Command) = ap answer (same_end p not_ended no_cr no_sign) ∙ ap (λ (s : Sign). by_sign s (Some (cond (p.long || nat_lt 8192 p.solid) Long Command)) None None) no_sign in
    let one = one_ended (p.long || nat_lt 8192 p.solid) (finished (at_end p)) in
    (one.0, ap (λ (b : Bool). cond b (ended_lines (answer (at_end p)) (finished (at_end p))) []) rests ∙ (ap (λ (a : Option LogicalLine). ended_lines a (finished (at_end p))) answers ∙ one.1))

solid_cr : (p : Part) (byte : ℕ) → (with_solid p byte).cr ≡ p.cr
solid_cr p byte = elim (nat_lt (length p.line) 8193) as (λ b. (cond b (record p { line = p.line ++ byte ∷ []; solid = length p.line + 1; sign = sign_byte byte; skips = false }) (record p { sign = sign_byte byte; skips = false; long = true })).cr ≡ p.cr) [ true ↦ refl | false ↦ refl ]

solid_ended : (p : Part) (byte : ℕ) → (with_solid p byte).ended ≡ p.ended
solid_ended p byte = elim (nat_lt (length p.line) 8193) as (λ b. (cond b (record p { line = p.line ++ byte ∷ []; solid = length p.line + 1; sign = sign_byte byte; skips = false }) (record p { sign = sign_byte byte; skips = false; long = true })).ended ≡ p.ended) [ true ↦ refl | false ↦ refl ]

solid_sign : (p : Part) (byte : ℕ) → (with_solid p byte).sign ≡ sign_byte byte
solid_sign p byte = elim (nat_lt (length p.line) 8193) as (λ b. (cond b (record p { line = p.line ++ byte ∷ []; solid = length p.line + 1; sign = sign_byte byte; skips = false }) (record p { sign = sign_byte byte; skips = false; long = true })).sign ≡ sign_byte byte) [ true ↦ refl | false ↦ refl ]

full_some : (xs : List ℕ) → nat_lt (length xs) 8193 ≡ false → is_empty xs ≡ false
full_some [] full = full
full_some (x ∷ xs) full = refl

solid_some : (p : Part) (byte : ℕ) → is_empty (with_solid p byte).line ≡ false
solid_some p byte = go (nat_lt (length p.line) 8193) refl
  where
    go : (b : Bool) → nat_lt (length p.line) 8193 ≡ b → is_empty (cond b (record p { line = p.line ++ byte ∷ []; solid = length p.line + 1; sign = sign_byte byte; skips = false }) (record p { sign = sign_byte byte; skips = false; long = true })).line ≡ false
    go true is = is_empty-push p.line byte
    go false is = full_some p.line is

begun_not_ended : (p : Part) → (begun p).ended ≡ false
begun_not_ended p = go p.ended refl
  where
    go : (b : Bool) → p.ended ≡ b → (cond b fresh p).ended ≡ false
    go true is = refl
    go false is = is

cr_ended : (p : Part) → (with_cr p).ended ≡ p.ended
cr_ended p = elim p.cr as (λ b. (cond b (with_solid (record p { cr = false }) 13) p).ended ≡ p.ended) [ true ↦ solid_ended (record p { cr = false }) 13 | false ↦ refl ]

-- a letter more stands in one line, which ends with the input
pub letter_line : (p : Part) → (last : Option (List ℕ)) × (lines_from p (88 ∷ []) ≡ last ∷ [])
letter_line p =
    let q = with_cr (begun p) in
    one_line (with_solid q 88) (solid_ended q 88 ∙ (cr_ended (begun p) ∙ begun_not_ended p)) (solid_cr q 88 ∙ cr_gone (begun p)) (solid_sign q 88) (solid_some q 88)
