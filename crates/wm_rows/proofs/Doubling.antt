-- A text in apostrophes is read back.
use Rattle.std.proofs.Common.{◌≡◌, ℕ, ◌+◌, ◌++◌, eqb, Bool, true, false, cond, List, [], ◌∷◌, length, drop, fold, Some, None, sym, ◌∙◌, ap, refl, arith, append_assoc}
use Rattle.std.proofs.Math.Seq.{drop-append-add}
use Rattle.std.proofs.lemmas.Bool.{eqb-true}
use Rattle.std.proofs.lemmas.List.{length-append, append-nil}
use Rattle.std.proofs.lemmas.List.Sums.{fold-append}
use Rattle.wm_base.specs.Text.{IsText}
use Rattle.wm_clwords.specs.Quote.{doubled_byte, doubled}
use Rattle.wm_rows.specs.declared.scan.Scan.{Scan}
use Rattle.wm_rows.specs.declared.scan.Quoted.{Quoted}
use Rattle.wm_rows.specs.Scan.{begun, scanned, opened, pushed, ended, quoted_by, quoted_of}

-- inside a text, with no apostrophe last
abbrev so_far : List ℕ → ℕ → Scan
so_far text n = record { text = text; quote = false; ended = false; len = n }

abbrev by_test : Bool → Scan → ℕ → Scan
by_test c s byte = cond s.ended s (cond c (cond s.quote (pushed s byte) (opened s)) (cond s.quote (ended s) (pushed s byte)))

abbrev doubled_by : Bool → ℕ → List ℕ
doubled_by c byte = cond c (39 ∷ 39 ∷ []) (byte ∷ [])

-- one byte of the text, by whether it is an apostrophe
one_byte : (c : Bool) (byte : ℕ) (text : List ℕ) (n : ℕ) → eqb byte 39 ≡ c → fold scanned (so_far text n) (doubled_by c byte) ≡ so_far (text ++ byte ∷ []) (n + length (doubled_by c byte))
one_byte true byte text n e =
    let same : 39 ≡ byte = sym (eqb-true byte 39 e) in
    let two : n + 1 + 1 ≡ n + 2 = omega arith in
    λ i. so_far (text ++ same i ∷ []) (two i)
one_byte false byte text n e = ap (λ c. by_test c (so_far text n) byte) e

-- the bytes of the text
pub scanned_text : (t text : List ℕ) (n : ℕ) → fold scanned (so_far text n) (doubled t) ≡ so_far (text ++ t) (n + length (doubled t))
scanned_text [] text n = let none : n ≡ n + 0 = omega arith in let same : text ≡ text ++ [] = sym (append-nil text) in λ i. so_far (same i) (none i)
scanned_text (byte ∷ t) text n =
    let long : n + length (doubled_byte byte) + length (doubled t) ≡ n + length (doubled_byte byte ++ doubled t) = omega (arith, length-append (doubled_byte byte) (doubled t)) in
    fold-append scanned (so_far text n) (doubled_byte byte) (doubled t)
    ∙ ap (λ s. fold scanned s (doubled t)) (one_byte (eqb byte 39) byte text n refl)
    ∙ scanned_text t (text ++ byte ∷ []) (n + length (doubled_byte byte))
    ∙ (λ i. so_far (append_assoc text (byte ∷ []) t i) (long i))

-- what stands behind the end changes nothing
stays : (text : List ℕ) (n : ℕ) (bytes : List ℕ) → fold scanned (record { text = text; quote = true; ended = true; len = n }) bytes ≡ record { text = text; quote = true; ended = true; len = n }
stays text n [] = refl
stays text n (byte ∷ bytes) = stays text n bytes

abbrev pub read : List ℕ → Quoted
read t = record { text = t; len = length (doubled t) + 1 }

-- a text that ends before a parenthesis is read back
pub quoted_back : (t more : List ℕ) → IsText t → quoted_of (doubled t ++ 39 ∷ 41 ∷ more) ≡ Some (read t)
unfolding quoted_of
quoted_back t more h =
    ap quoted_by (fold-append scanned begun (doubled t) (39 ∷ 41 ∷ more) ∙ ap (λ s. fold scanned s (39 ∷ 41 ∷ more)) (scanned_text t [] 0) ∙ stays t (0 + length (doubled t) + 1) more)
    ∙ ap (λ c. cond c (Some (record { text = t; len = 0 + length (doubled t) + 1 })) None) h
    ∙ (let e : 0 + length (doubled t) + 1 ≡ length (doubled t) + 1 = omega arith in ap (λ n. Some (record { text = t; len = n })) e)

-- what stands behind it
pub behind_quoted : (t more : List ℕ) → drop (length (doubled t) + 1) (doubled t ++ 39 ∷ 41 ∷ more) ≡ 41 ∷ more
behind_quoted t more = drop-append-add (doubled t) (39 ∷ 41 ∷ more) 1
